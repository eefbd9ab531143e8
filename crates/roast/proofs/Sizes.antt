-- The sizes of fractions: in a range, in a sum, and in the difference of two sums.
use Rattle.std.proofs.Common.{◌≡◌, ℕ, zero, suc, ◌+◌, ◌*◌, ◌<◌, ◌≤◌, max, ℤ, pos, ◌+ℤ◌, ◌-ℤ◌, ◌*ℤ◌, neg_ℤ, nat_abs, refl, ap, mul-le-mul_right, mul-le-mul_left, mul-pos, le_of_mul-le-mul_right, arith}
use native.Mathlib.Decide.{ℕ_discrete}
use native.Mathlib.Nat.{le_of_mul-le-mul_left, eq_of_mul-eq-mul_right}
use borrow.Author.Differences.{ints, up, down, same_in, product_is}
use Rattle.balance.specs.declared.range.Range.{Range}
use Rattle.balance.specs.Members.{Fraction, sum, ◌∈◌, ◌≈◌, ◌⊗◌, ◌⊕◌}
use Rattle.std.proofs.lemmas.Int.{unsigned_abs-mul}
use Rattle.balance.proofs.Integers.{times_assoc, sum_times}
use Rattle.roast.specs.Certificates.{magnitude, mignitude, sum_without}
use Rattle.roast.proofs.Numbers.{neg_times}
use Rattle.roast.proofs.Sums.{In, without_last, with_last}

-- ---- whole numbers

times_exchange : (a b c d : ℤ) → (a *ℤ b) *ℤ (c *ℤ d) ≡ (b *ℤ d) *ℤ (a *ℤ c)
times_exchange a b c d = same_in _ _ (simp (up_product, down_product) (omega arith))
  where
    up_product : (a b : ℤ) → up (a *ℤ b) ≡ up a * up b + down a * down b
    up_product a b = (product_is a b).0

    down_product : (a b : ℤ) → down (a *ℤ b) ≡ up a * down b + down a * up b
    down_product a b = (product_is a b).1

minus_times : (a b c : ℤ) → (a -ℤ b) *ℤ c ≡ a *ℤ c -ℤ b *ℤ c
minus_times a b c = rw (sum_times a (neg_ℤ b) c, neg_times b c)

-- the triangle, its three sides
sum_size : (a b : ℤ) → (nat_abs (a +ℤ b) ≤ nat_abs a + nat_abs b) × (nat_abs a ≤ nat_abs (a +ℤ b) + nat_abs b) × (nat_abs b ≤ nat_abs (a +ℤ b) + nat_abs a)
sum_size a b = omega (arith, ints)

-- ---- a fraction in a range

pub at_most_magnitude : (f : Fraction) (r : Range) → f ∈ r → nat_abs f.top ≤ magnitude r * f.bottom
at_most_magnitude f r h =
    let l : nat_abs (r.lower *ℤ pos f.bottom) ≡ nat_abs r.lower * f.bottom = unsigned_abs-mul r.lower (pos f.bottom) in
    let u : nat_abs (r.upper *ℤ pos f.bottom) ≡ nat_abs r.upper * f.bottom = unsigned_abs-mul r.upper (pos f.bottom) in
    let m : nat_abs r.lower ≤ magnitude r = omega arith in
    let n : nat_abs r.upper ≤ magnitude r = omega arith in
    let k : nat_abs f.top ≤ max (nat_abs (r.lower *ℤ pos f.bottom)) (nat_abs (r.upper *ℤ pos f.bottom)) = omega (arith, ints) in
    omega (arith, mul-le-mul_right f.bottom m, mul-le-mul_right f.bottom n)

pub at_least_mignitude : (f : Fraction) (r : Range) → f ∈ r → mignitude r * f.bottom ≤ nat_abs f.top
at_least_mignitude f r h = grind (arith, ints)

-- ---- a sum

-- the size of the numerator, and of a sum of two
abbrev pub size : Fraction → ℕ
size f = nat_abs f.top

size-⊕ : (f g : Fraction) → (size (f ⊕ g) ≤ size f * g.bottom + size g * f.bottom) × (size f * g.bottom ≤ size (f ⊕ g) + size g * f.bottom) × (size g * f.bottom ≤ size (f ⊕ g) + size f * g.bottom)
size-⊕ f g = omega (arith, sum_size (f.top *ℤ pos g.bottom) (g.top *ℤ pos f.bottom), unsigned_abs-mul f.top (pos g.bottom), unsigned_abs-mul g.top (pos f.bottom))

-- q × |f j| ≤ w j at every place j, and l ≤ q × |f i|
module _ (f : ℕ → Fraction) (w : ℕ → ℕ) (n i q l : ℕ) (inside : In n i) (each : (j : ℕ) → In n j → q * size (f j) ≤ (f j).bottom * w j) (own : (f i).bottom * l ≤ q * size (f i)) where
  before : (k : ℕ) → k < i → q * size (sum f k) ≤ (sum f k).bottom * sum_without w i k
  before zero h = omega arith
  before (suc k) h = rw (with_last w i k (omega arith)) (omega (arith, mul-le-mul_left q (size-⊕ (sum f k) (f (suc k))).0, mul-le-mul_right (f (suc k)).bottom (before k (omega arith)), mul-le-mul_right (sum f k).bottom (each (suc k) (omega arith))))

  after : (k : ℕ) → k ≤ n → i ≤ k → (sum f k).bottom * l ≤ q * size (sum f k) + (sum f k).bottom * sum_without w i k
  after zero p h = omega arith
  after (suc k) p h = go (ℕ_discrete (suc k) i) (λ r. after k (omega arith) r)
    where
      go : Dec (suc k ≡ i) → (i ≤ k → (sum f k).bottom * l ≤ q * size (sum f k) + (sum f k).bottom * sum_without w i k) → (sum f (suc k)).bottom * l ≤ q * size (sum f (suc k)) + (sum f (suc k)).bottom * sum_without w i (suc k)
      go (yes e) rest = rw (without_last w i k e) (omega (arith, mul-le-mul_left q (size-⊕ (sum f k) (f (suc k))).2, mul-le-mul_right (f (suc k)).bottom (before k (omega arith)), mul-le-mul_right (sum f k).bottom here))
        where
          here : (f (suc k)).bottom * l ≤ q * size (f (suc k))
          here = rw e own
      go (no e) rest = rw (with_last w i k e) (omega (arith, mul-le-mul_left q (size-⊕ (sum f k) (f (suc k))).1, mul-le-mul_right (f (suc k)).bottom (rest (omega arith)), mul-le-mul_right (sum f k).bottom (each (suc k) (omega arith))))

  -- so l is at most q times the whole sum, and the other w
  pub alone : (b : ℕ) → size (sum f n) ≤ b * (sum f n).bottom → l ≤ q * b + sum_without w i n
  alone b h = le_of_mul-le-mul_left {m = l} {n = q * b + sum_without w i n} {k = (sum f n).bottom} (omega (arith, after n (omega arith) (omega arith), mul-le-mul_left q h)) (sum f n).positive

-- ---- the difference

infixl 60 ◌⊖◌
abbrev pub ◌⊖◌ : Fraction → Fraction → Fraction
f ⊖ g = record { top = f.top *ℤ pos g.bottom -ℤ g.top *ℤ pos f.bottom; bottom = f.bottom * g.bottom; positive = mul-pos f.positive g.positive }

-- two sums scaled by whole numbers
scaled : (a b : ℤ) (m n k : ℕ) → (a *ℤ pos m +ℤ b *ℤ pos n) *ℤ pos k ≡ a *ℤ pos (m * k) +ℤ b *ℤ pos (n * k)
scaled a b m n k = rw (sum_times, times_assoc a, times_assoc b)

scaled_minus : (a b : ℤ) (m n k : ℕ) → (a *ℤ pos m -ℤ b *ℤ pos n) *ℤ pos k ≡ a *ℤ pos (m * k) -ℤ b *ℤ pos (n * k)
scaled_minus a b m n k = rw (minus_times, times_assoc a, times_assoc b)

regroup : (p q r s : ℤ) → p -ℤ q +ℤ (r -ℤ s) ≡ p +ℤ r -ℤ (q +ℤ s)
regroup p q r s = omega (arith, ints)

-- (f ⊕ h) ⊖ (g ⊕ k) is (f ⊖ g) ⊕ (h ⊖ k)
⊕-⊖ : (f g h k : Fraction) → ((f ⊖ g) ⊕ (h ⊖ k)).top ≡ ((f ⊕ h) ⊖ (g ⊕ k)).top
⊕-⊖ f g h k =
    let e₁ : h.bottom * (g.bottom * k.bottom) ≡ g.bottom * (h.bottom * k.bottom) = omega arith in
    let e₂ : f.bottom * (g.bottom * k.bottom) ≡ k.bottom * (f.bottom * g.bottom) = omega arith in
    let e₃ : k.bottom * (f.bottom * h.bottom) ≡ f.bottom * (h.bottom * k.bottom) = omega arith in
    let e₄ : g.bottom * (f.bottom * h.bottom) ≡ h.bottom * (f.bottom * g.bottom) = omega arith in
    rw (scaled f.top h.top, scaled g.top k.top, scaled_minus f.top g.top, scaled_minus h.top k.top, e₁, e₂, e₃, e₄, regroup)

module _ (f g : ℕ → Fraction) where
  abbrev pub difference : ℕ → Fraction
  difference j = f j ⊖ g j

  pub sum-⊖ : (n : ℕ) → ((sum difference n).top ≡ (sum f n ⊖ sum g n).top) × ((sum difference n).bottom ≡ (sum f n ⊖ sum g n).bottom)
  sum-⊖ zero = (refl, refl)
  sum-⊖ (suc n) = (rw ((sum-⊖ n).0, (sum-⊖ n).1) (⊕-⊖ (sum f n) (sum g n) (f (suc n)) (g (suc n))), rw (sum-⊖ n).1 (omega arith))

-- two names of one number differ by nothing
pub cross : (a e : ℤ) (k b : ℕ) → a *ℤ pos k ≡ e *ℤ pos b → (up a * k ≡ up e * b) × (down a * k ≡ down e * b)
cross a e k b h = omega (arith, ints)

pub no_difference : (f g h : Fraction) → f ≈ h → g ≈ h → size (f ⊖ g) ≤ 0
no_difference f g h p q =
    let z : ℤ = (f ⊖ g).top in
    let e : up z + (down f.top * g.bottom + up g.top * f.bottom) ≡ down z + (up f.top * g.bottom + down g.top * f.bottom) = omega (arith, ints) in
    let a = cross f.top h.top h.bottom f.bottom p in
    let b = cross g.top h.top h.bottom g.bottom q in
    let s : up z ≡ down z = eq_of_mul-eq-mul_right h.bottom h.positive (up z) (down z) (omega (arith, ap (λ n. n * h.bottom) e, ap (λ n. n * g.bottom) a.0, ap (λ n. n * g.bottom) a.1, ap (λ n. n * f.bottom) b.0, ap (λ n. n * f.bottom) b.1)) in
    omega (arith, ints)

-- two names of one number have one bound
pub size-≈ : (f g : Fraction) (b : ℕ) → f ≈ g → size g ≤ b * g.bottom → size f ≤ b * f.bottom
size-≈ f g b p h = le_of_mul-le-mul_right {m = size f} {n = b * f.bottom} {k = g.bottom} (omega (arith, ap nat_abs p, unsigned_abs-mul f.top (pos g.bottom), unsigned_abs-mul g.top (pos f.bottom), mul-le-mul_right f.bottom h)) g.positive

-- a times x, minus a times y
pub size-⊗ : (a x y : Fraction) → size ((a ⊗ x) ⊖ (a ⊗ y)) ≡ size (x ⊖ y) * (size a * a.bottom)
size-⊗ a x y = rw (times_exchange a.top x.top (pos a.bottom) (pos y.bottom), times_exchange a.top y.top (pos a.bottom) (pos x.bottom), ← minus_times, unsigned_abs-mul, unsigned_abs-mul)
