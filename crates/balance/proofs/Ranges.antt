-- The arithmetic of ranges extends that of whole numbers, and stays within bounds.
use Rattle.std.proofs.Common.{◌≡◌, ℕ, suc, ◌+◌, ◌*◌, ◌^◌, ◌≤◌, ℤ, pos, ◌+ℤ◌, ◌-ℤ◌, ◌*ℤ◌, nat_abs, ◌≤ℤ◌, Option, Some, None, SomeIff, sym, ap, ◌∙◌, subst, arith, w64, SFits, to_z, of_z}
use lib.IntN.{*ℤ_comm}
use borrow.Author.Differences.{ints}
use Rattle.std.specs.Int.{int_min, int_max}
use Rattle.std.proofs.lemmas.Int.{clamps, to_z-of_z}
use Rattle.balance.specs.declared.range.Range.{Range}
use Rattle.balance.specs.Ranges.{range, only, Ordered, Inside, ◌⊆◌, Between, Fits64, plus, minus, spanned, times, total, IntervalExtension}
use Rattle.balance.proofs.Integers.{product_within, grows, falls, between_low, between_high}

-- ---- sums and differences

pub plus_extends : IntervalExtension ◌+ℤ◌ plus
plus_extends = record {
  holds_every_result = λ a b p q h k. (omega (arith, ints), omega (arith, ints));
  keeps_inclusion = λ a b c d o o' h k. omega (arith, ints);
}

pub minus_extends : IntervalExtension ◌-ℤ◌ minus
minus_extends = record {
  holds_every_result = λ a b p q h k. (omega (arith, ints), omega (arith, ints));
  keeps_inclusion = λ a b c d o o' h k. omega (arith, ints);
}

-- a sum with one more term
pub total_more : (f : ℕ → Range) (j : ℕ) (r s t : Range) → r ≡ total f j → s ≡ f (j + 1) → t ≡ plus r s → t ≡ total f (j + 1)
total_more f j r s t h k e = let n : j + 1 ≡ suc j = omega arith in e ∙ (λ i. plus (h i) (k i)) ∙ (λ i. plus (total f j) (f (n i))) ∙ ap (total f) (sym n)

-- ---- products

pub least : (a b c d : ℤ) → (int_min (int_min a b) (int_min c d) ≤ℤ a) × (int_min (int_min a b) (int_min c d) ≤ℤ b) × (int_min (int_min a b) (int_min c d) ≤ℤ c) × (int_min (int_min a b) (int_min c d) ≤ℤ d)
least a b c d = omega (arith, ints, clamps)

pub most : (a b c d : ℤ) → (a ≤ℤ int_max (int_max a b) (int_max c d)) × (b ≤ℤ int_max (int_max a b) (int_max c d)) × (c ≤ℤ int_max (int_max a b) (int_max c d)) × (d ≤ℤ int_max (int_max a b) (int_max c d))
most a b c d = omega (arith, ints, clamps)

-- what holds of the four products of ends, and of a product that lies between two of which it holds, holds of every product
pub every_product : (P : ℤ → Type 0) → ((l u p q : ℤ) → l ≤ℤ p → p ≤ℤ u → P (l *ℤ q) → P (u *ℤ q) → P (p *ℤ q)) → (a x : Range) → P (a.lower *ℤ x.lower) → P (a.lower *ℤ x.upper) → P (a.upper *ℤ x.lower) → P (a.upper *ℤ x.upper) → (p q : ℤ) → Inside p a → Inside q x → P (p *ℤ q)
every_product P between a x ll lu ul uu p q ip iq =
    let low = between a.lower a.upper p x.lower ip.0 ip.1 ll ul in
    let high = between a.lower a.upper p x.upper ip.0 ip.1 lu uu in
    subst P (*ℤ_comm q p) (between x.lower x.upper q p iq.0 iq.1 (subst P (*ℤ_comm p x.lower) low) (subst P (*ℤ_comm p x.upper) high))

product_inside : (a x : Range) (p q : ℤ) → Inside p a → Inside q x → Inside (p *ℤ q) (times a x)
product_inside a x p q ip iq =
    let l = least (a.lower *ℤ x.lower) (a.lower *ℤ x.upper) (a.upper *ℤ x.lower) (a.upper *ℤ x.upper) in
    let u = most (a.lower *ℤ x.lower) (a.lower *ℤ x.upper) (a.upper *ℤ x.lower) (a.upper *ℤ x.upper) in (
      every_product (λ t. (times a x).lower ≤ℤ t) (between_low (times a x).lower) a x l.0 l.1 l.2 l.3 p q ip iq,
      every_product (λ t. t ≤ℤ (times a x).upper) (between_high (times a x).upper) a x u.0 u.1 u.2 u.3 p q ip iq,
    )

least_in : (z a b c d : ℤ) → z ≤ℤ a → z ≤ℤ b → z ≤ℤ c → z ≤ℤ d → z ≤ℤ int_min (int_min a b) (int_min c d)
least_in z a b c d ha hb hc hd = omega (arith, ints, clamps)

most_in : (z a b c d : ℤ) → a ≤ℤ z → b ≤ℤ z → c ≤ℤ z → d ≤ℤ z → int_max (int_max a b) (int_max c d) ≤ℤ z
most_in z a b c d ha hb hc hd = omega (arith, ints, clamps)

products_in : (a x c y : Range) → Ordered a → Ordered x → a ⊆ c → x ⊆ y → times a x ⊆ times c y
products_in a x c y oa ox h k =
    let al : Inside a.lower c = omega (arith, ints) in
    let au : Inside a.upper c = omega (arith, ints) in
    let xl : Inside x.lower y = omega (arith, ints) in
    let xu : Inside x.upper y = omega (arith, ints) in
    let ll = product_inside c y a.lower x.lower al xl in
    let lu = product_inside c y a.lower x.upper al xu in
    let ul = product_inside c y a.upper x.lower au xl in
    let uu = product_inside c y a.upper x.upper au xu in
    record {
      low = least_in _ _ _ _ _ ll.0 lu.0 ul.0 uu.0;
      high = most_in _ _ _ _ _ ll.1 lu.1 ul.1 uu.1;
    }

pub times_extends : IntervalExtension ◌*ℤ◌ times
times_extends = record { holds_every_result = product_inside; keeps_inclusion = products_in }

-- the ends of a range times one number are the smaller and the larger product
pub times_only : (r : Range) (p : ℤ) → ((times r (only p)).lower ≡ int_min (r.lower *ℤ p) (r.upper *ℤ p)) × ((times r (only p)).upper ≡ int_max (r.lower *ℤ p) (r.upper *ℤ p))
times_only r p = (omega (arith, ints, clamps), omega (arith, ints, clamps))

-- of a range in order those are its own ends, each times the number, and exchanged where the number is below 0
module _ (r : Range) (p : ℤ) (o : Ordered r) where
  pub times_only_above : pos 0 ≤ℤ p → times r (only p) ≡ range (r.lower *ℤ p) (r.upper *ℤ p)
  times_only_above s =
      let e = times_only r p in
      let k = grows r.lower r.upper p s o in
      let low : (times r (only p)).lower ≡ r.lower *ℤ p = omega (arith, ints, clamps) in
      let high : (times r (only p)).upper ≡ r.upper *ℤ p = omega (arith, ints, clamps) in
      λ i. range (low i) (high i)

  pub times_only_below : p ≤ℤ pos 0 → times r (only p) ≡ range (r.upper *ℤ p) (r.lower *ℤ p)
  times_only_below s =
      let e = times_only r p in
      let k = falls r.lower r.upper p s o in
      let low : (times r (only p)).lower ≡ r.upper *ℤ p = omega (arith, ints, clamps) in
      let high : (times r (only p)).upper ≡ r.lower *ℤ p = omega (arith, ints, clamps) in
      λ i. range (low i) (high i)

-- ---- bounds

four_between : (p q s t : ℤ) (n : ℕ) → nat_abs p ≤ n → nat_abs q ≤ n → nat_abs s ≤ n → nat_abs t ≤ n → Between n (spanned p q s t)
four_between p q s t n a b c d = (omega (arith, ints, clamps), omega (arith, ints, clamps), omega (arith, ints, clamps))

pub sizes_within : (n : ℕ) (a : Range) → Between n a → (nat_abs a.lower ≤ n) × (nat_abs a.upper ≤ n)
sizes_within n a h = (omega (arith, ints), omega (arith, ints))

pub times_between_bounds : (a x : Range) (m n : ℕ) → Between m a → Between n x → Between (m * n) (times a x)
times_between_bounds a x m n h k =
    let f = sizes_within m a h in
    let g = sizes_within n x k in
    four_between (a.lower *ℤ x.lower) (a.lower *ℤ x.upper) (a.upper *ℤ x.lower) (a.upper *ℤ x.upper) (m * n)
    (product_within a.lower x.lower m n f.0 g.0) (product_within a.lower x.upper m n f.0 g.1)
    (product_within a.upper x.lower m n f.1 g.0) (product_within a.upper x.upper m n f.1 g.1)

-- ---- 64 bits

pub narrow_fits : (limit : ℕ) (r : Range) → limit ≤ 2 ^ 62 → Between limit r → Fits64 r
narrow_fits limit r l h = (omega (arith, ints), omega (arith, ints))

pub products_fit : (a b : Range) → Fits64 (times a b) → SFits w64 (a.lower *ℤ b.lower) × SFits w64 (a.lower *ℤ b.upper) × SFits w64 (a.upper *ℤ b.lower) × SFits w64 (a.upper *ℤ b.upper)
products_fit a b h = four (least p q s t) (most p q s t) h.0 h.1
  where
    p : ℤ
    p = a.lower *ℤ b.lower

    q : ℤ
    q = a.lower *ℤ b.upper

    s : ℤ
    s = a.upper *ℤ b.lower

    t : ℤ
    t = a.upper *ℤ b.upper

    fits : (l u z : ℤ) → SFits w64 l → SFits w64 u → l ≤ℤ z → z ≤ℤ u → SFits w64 z
    fits l u z f g h k = omega (arith, ints)

    four : (int_min (int_min p q) (int_min s t) ≤ℤ p) × (int_min (int_min p q) (int_min s t) ≤ℤ q) × (int_min (int_min p q) (int_min s t) ≤ℤ s) × (int_min (int_min p q) (int_min s t) ≤ℤ t) → (p ≤ℤ int_max (int_max p q) (int_max s t)) × (q ≤ℤ int_max (int_max p q) (int_max s t)) × (s ≤ℤ int_max (int_max p q) (int_max s t)) × (t ≤ℤ int_max (int_max p q) (int_max s t)) → SFits w64 (int_min (int_min p q) (int_min s t)) → SFits w64 (int_max (int_max p q) (int_max s t)) → SFits w64 p × SFits w64 q × SFits w64 s × SFits w64 t
    four l u f g = (fits _ _ p f g l.0 u.0, fits _ _ q f g l.1 u.1, fits _ _ s f g l.2 u.2, fits _ _ t f g l.3 u.3)

pub four_fit : (p q s t : ℤ) → SFits w64 p → SFits w64 q → SFits w64 s → SFits w64 t → Fits64 (spanned p q s t)
four_fit p q s t f g h k = (omega (arith, ints, clamps), omega (arith, ints, clamps))

-- an operation on two numbers as the code holds them
module _ (op : ℤ → ℤ → ℤ) (x y : ℤ) (f : SFits w64 x) (g : SFits w64 y) where
  pub held : SFits w64 (op x y) → SFits w64 (op (to_z w64 (of_z w64 x)) (to_z w64 (of_z w64 y)))
  held h = simp to_z-of_z h

  pub result_held : (r : ℤ) → SFits w64 (op (to_z w64 (of_z w64 x)) (to_z w64 (of_z w64 y))) × (r ≡ op (to_z w64 (of_z w64 x)) (to_z w64 (of_z w64 y))) → SFits w64 (op x y) × (to_z w64 (of_z w64 r) ≡ op x y)
  result_held r h =
      let e : op (to_z w64 (of_z w64 x)) (to_z w64 (of_z w64 y)) ≡ op x y = λ i. op (to_z-of_z w64 x f i) (to_z-of_z w64 y g i) in
      let k : SFits w64 (op x y) = subst (SFits w64) e h.0 in
      let l : r ≡ op x y = h.1 ∙ e in
      (k, ap (λ z. to_z w64 (of_z w64 z)) l ∙ to_z-of_z w64 (op x y) k)

  -- computed without a test, where it fits
  pub computed : SFits w64 (op x y) → to_z w64 (of_z w64 (op (to_z w64 (of_z w64 x)) (to_z w64 (of_z w64 y)))) ≡ op x y
  computed h = (λ i. to_z w64 (of_z w64 (op (to_z-of_z w64 x f i) (to_z-of_z w64 y g i)))) ∙ to_z-of_z w64 (op x y) h

-- a result that fits is answered
pub answered : {T : Type 0} (o : Option T) (P : Type 0) (v : T) → SomeIff o P v → P → o ≡ Some v
answered None P v h p = absurd (h p)
answered (Some x) P v h p = ap (λ y. Some y) h.1
