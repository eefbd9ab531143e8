-- Ranges times a factor: order, sums, products and common numbers.
use Rattle.std.specs.Prelude.{◌≡◌, ℕ, zero, suc, ◌≤◌, Bool, true, false, cond, ℤ, pos, negsuc, ◌+ℤ◌, ◌*ℤ◌, ◌≤ℤ◌, int_le, int_lt, unsigned_abs, refl}
use Rattle.std.proofs.Common.{arith, mul-le-mul_right, sym, ap, ◌∙◌}
use borrow.Author.Differences.{ints, le_out}
use Rattle.std.specs.Cmp.{both_ways}
use Rattle.std.specs.Int.{int_min, int_max}
use Rattle.std.proofs.lemmas.Int.{clamps}
use Rattle.balance.specs.declared.range.Range.{Range}
use Rattle.balance.specs.Ranges.{range, only, Ordered, plus, times, total, meets}
use Rattle.balance.proofs.Integers.{times_swap, sum_times, le_times, le_cancel}
use Rattle.balance.proofs.Ranges.{times_only}
use Rattle.systems.specs.RowScalers.{scaled}

-- ---- a factor that is not negative

straight : (n : ℕ) (r : Range) → scaled (pos n) r ≡ range (r.lower *ℤ pos n) (r.upper *ℤ pos n)
straight n r = let e : int_lt (pos n) (pos 0) ≡ false = grind (arith, ints) in rw e

-- ---- order

le_down : (a b : ℤ) (n : ℕ) → a ≤ℤ b → (b *ℤ negsuc n) ≤ℤ (a *ℤ negsuc n)
le_down a b n h = omega (arith, ints, mul-le-mul_right (suc n) (le_out a b h))

le_down_cancel : (a b : ℤ) (n : ℕ) → (b *ℤ negsuc n) ≤ℤ (a *ℤ negsuc n) → a ≤ℤ b
le_down_cancel a b n h = le_cancel a b (suc n) (omega arith) (omega (arith, ints))

pub scaled_ordered : (f : ℤ) (r : Range) → Ordered r → Ordered (scaled f r)
scaled_ordered (pos n) r h = rw (straight n r) (le_times r.lower r.upper n h)
scaled_ordered (negsuc n) r h = le_down r.lower r.upper n h

-- ---- sums

scaled_plus : (f : ℤ) (a b : Range) → scaled f (plus a b) ≡ plus (scaled f a) (scaled f b)
scaled_plus f a b = by (int_lt f (pos 0))
  where
    lower : (a.lower +ℤ b.lower) *ℤ f ≡ a.lower *ℤ f +ℤ b.lower *ℤ f
    lower = sum_times a.lower b.lower f

    upper : (a.upper +ℤ b.upper) *ℤ f ≡ a.upper *ℤ f +ℤ b.upper *ℤ f
    upper = sum_times a.upper b.upper f

    by : (t : Bool) → cond t (range ((a.upper +ℤ b.upper) *ℤ f) ((a.lower +ℤ b.lower) *ℤ f)) (range ((a.lower +ℤ b.lower) *ℤ f) ((a.upper +ℤ b.upper) *ℤ f)) ≡ plus (cond t (range (a.upper *ℤ f) (a.lower *ℤ f)) (range (a.lower *ℤ f) (a.upper *ℤ f))) (cond t (range (b.upper *ℤ f) (b.lower *ℤ f)) (range (b.lower *ℤ f) (b.upper *ℤ f)))
    by true = λ i. range (upper i) (lower i)
    by false = λ i. range (lower i) (upper i)

nothing : (z : ℤ) → z ≡ pos 0 → only (pos 0) ≡ only z
nothing z e = ap only (sym e)

scaled_nothing : (f : ℤ) → only (pos 0) ≡ scaled f (only (pos 0))
scaled_nothing (pos n) = rw (straight n (only (pos 0))) (nothing (pos 0 *ℤ pos n) (omega (arith, ints)))
scaled_nothing (negsuc n) = nothing (pos 0 *ℤ negsuc n) (omega (arith, ints))

pub scaled_total : (f : ℤ) (r s : ℕ → Range) (n : ℕ) → ((j : ℕ) → 1 ≤ j → j ≤ n → s j ≡ scaled f (r j)) → total s n ≡ scaled f (total r n)
scaled_total f r s zero h = scaled_nothing f
scaled_total f r s (suc n) h = rw (scaled_total f r s n (λ j a b. h j a (omega arith)), h (suc n) (omega arith) (omega arith)) (sym (scaled_plus f (total r n) (r (suc n))))

-- ---- products with a number

-- what keeps the order keeps the smaller and the larger of two, and what turns it round exchanges them
module _ (g : ℤ → ℤ) (a b : ℤ) where
  keeps : ((x y : ℤ) → x ≤ℤ y → g x ≤ℤ g y) → (int_min (g a) (g b) ≡ g (int_min a b)) × (int_max (g a) (g b) ≡ g (int_max a b))
  keeps up = by (int_lt b a) refl
    where
      by : (t : Bool) → int_lt b a ≡ t → (int_min (g a) (g b) ≡ g (cond t b a)) × (int_max (g a) (g b) ≡ g (cond t a b))
      by true e = let h = up b a (grind (arith, ints)) in (omega (arith, ints, clamps), omega (arith, ints, clamps))
      by false e = let h = up a b (grind (arith, ints)) in (omega (arith, ints, clamps), omega (arith, ints, clamps))

  exchanges : ((x y : ℤ) → x ≤ℤ y → g y ≤ℤ g x) → (int_min (g b) (g a) ≡ g (int_max a b)) × (int_max (g b) (g a) ≡ g (int_min a b))
  exchanges down = by (int_lt b a) refl
    where
      by : (t : Bool) → int_lt b a ≡ t → (int_min (g b) (g a) ≡ g (cond t a b)) × (int_max (g b) (g a) ≡ g (cond t b a))
      by true e = let h = down b a (grind (arith, ints)) in (omega (arith, ints, clamps), omega (arith, ints, clamps))
      by false e = let h = down a b (grind (arith, ints)) in (omega (arith, ints, clamps), omega (arith, ints, clamps))

-- from the smaller to the larger of two numbers
abbrev spread : ℤ → ℤ → Range
spread a b = range (int_min a b) (int_max a b)

products : (r : Range) (x : ℤ) → times r (only x) ≡ spread (r.lower *ℤ x) (r.upper *ℤ x)
products r x = let e = times_only r x in λ i. range (e.0 i) (e.1 i)

pub scaled_times : (f : ℤ) (r : Range) (x : ℤ) → times (scaled f r) (only x) ≡ scaled f (times r (only x))
scaled_times (pos n) r x =
    let k = keeps (λ z. z *ℤ pos n) (r.lower *ℤ x) (r.upper *ℤ x) (λ y z h. le_times y z n h) in
    ap (λ (s : Range). times s (only x)) (straight n r)
    ∙ products (range (r.lower *ℤ pos n) (r.upper *ℤ pos n)) x
    ∙ (λ i. spread (times_swap r.lower (pos n) x i) (times_swap r.upper (pos n) x i))
    ∙ (λ i. range (k.0 i) (k.1 i))
    ∙ sym (straight n (spread (r.lower *ℤ x) (r.upper *ℤ x)))
    ∙ ap (scaled (pos n)) (sym (products r x))
scaled_times (negsuc n) r x =
    let k = exchanges (λ z. z *ℤ negsuc n) (r.lower *ℤ x) (r.upper *ℤ x) (λ y z h. le_down y z n h) in
    products (range (r.upper *ℤ negsuc n) (r.lower *ℤ negsuc n)) x
    ∙ (λ i. spread (times_swap r.upper (negsuc n) x i) (times_swap r.lower (negsuc n) x i))
    ∙ (λ i. range (k.0 i) (k.1 i))
    ∙ ap (scaled (negsuc n)) (sym (products r x))

-- ---- numbers in common

same_test : (x y x' y' : ℤ) → (x ≤ℤ y → x' ≤ℤ y') → (x' ≤ℤ y' → x ≤ℤ y) → int_le x' y' ≡ int_le x y
same_test x y x' y' up down = both_ways _ _ (λ e. let h = down (grind (arith, ints)) in grind (arith, ints)) (λ e. let h = up (grind (arith, ints)) in grind (arith, ints))

either_way : (s t : Bool) → cond s t false ≡ cond t s false
either_way true true = refl
either_way true false = refl
either_way false true = refl
either_way false false = refl

pub scaled_meets : (f : ℤ) (a b : Range) → 1 ≤ unsigned_abs f → meets (scaled f a) (scaled f b) ≡ meets a b
scaled_meets (pos n) a b h =
    rw (straight n a, straight n b, same_test a.lower b.upper (a.lower *ℤ pos n) (b.upper *ℤ pos n) (λ k. le_times _ _ n k) (λ k. le_cancel _ _ n (omega arith) k), same_test b.lower a.upper (b.lower *ℤ pos n) (a.upper *ℤ pos n) (λ k. le_times _ _ n k) (λ k. le_cancel _ _ n (omega arith) k))
scaled_meets (negsuc n) a b h =
    rw (same_test b.lower a.upper (a.upper *ℤ negsuc n) (b.lower *ℤ negsuc n) (λ k. le_down _ _ n k) (λ k. le_down_cancel _ _ n k), same_test a.lower b.upper (b.upper *ℤ negsuc n) (a.lower *ℤ negsuc n) (λ k. le_down _ _ n k) (λ k. le_down_cancel _ _ n k))
    (either_way (int_le b.lower a.upper) (int_le a.lower b.upper))
