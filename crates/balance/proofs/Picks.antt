-- A row of picks that has a given value: every pick divides its range as the value divides the row's range.
use Rattle.std.proofs.Common.{◌≡◌, ℕ, zero, suc, ◌+◌, ◌-◌, ◌*◌, ◌<◌, ◌≤◌, Bool, true, false, cond, ℤ, pos, ◌+ℤ◌, ◌-ℤ◌, ◌*ℤ◌, nat_abs, ◌≤ℤ◌, sym, refl, ap, ◌∙◌, subst, mul-le-mul_right, arith}
use lib.Signed.{lt_z}
use borrow.Author.Differences.{ints, up, down, le_out, same_in, product_is}
use Rattle.balance.specs.declared.range.Range.{Range}
use Rattle.balance.specs.Ranges.{range, only, times, total, plus}
use Rattle.balance.specs.Members.{Fraction, Point, component, sum, ◌∈◌, ◌≈◌, ◌⊗◌}
use Rattle.balance.proofs.Integers.{times_assoc, times_swap, sum_times, le_parts, cancel}
use Rattle.balance.proofs.Ranges.{times_only}
use Rattle.balance.proofs.FractionSums.{◌·◌, sum_in}

-- c lies between l and u with these weights
module _ (l u c : ℤ) where
  abbrev pub low_weight : ℕ
  low_weight = nat_abs (u -ℤ c) + (1 - nat_abs (u -ℤ l))

  abbrev pub high_weight : ℕ
  high_weight = nat_abs (c -ℤ l)

  pub some_weight : 0 < low_weight + high_weight
  some_weight = omega (arith, ints)

mean : (l u c : ℤ) (α β γ : ℕ) → up u + down c ≡ up c + down u + α → up c + down l ≡ up l + down c + β → β * γ ≡ 0 → l *ℤ pos (α + γ) +ℤ u *ℤ pos β ≡ c *ℤ pos (α + γ + β)
mean l u c α β γ h k z = omega (arith, ints, ap (λ n. n * β) h, ap (λ n. n * (α + γ)) k)

no_weight : (a b : ℕ) → a ≤ b → a * (1 - b) ≡ 0
no_weight zero b h = omega arith
no_weight (suc a) zero h = omega arith
no_weight (suc a) (suc b) h = let e : 1 - suc b ≡ 0 = omega arith in rw e (omega arith)

pub weighted : (l u c : ℤ) → l ≤ℤ c → c ≤ℤ u → l *ℤ pos (low_weight l u c) +ℤ u *ℤ pos (high_weight l u c) ≡ c *ℤ pos (low_weight l u c + high_weight l u c)
weighted l u c h k = mean l u c (nat_abs (u -ℤ c)) (nat_abs (c -ℤ l)) (1 - nat_abs (u -ℤ l)) (omega (arith, ints)) (omega (arith, ints)) (no_weight _ _ (omega (arith, ints)))

-- c / q, for the point's q
abbrev pub value : Point → ℤ → Fraction
value x c = record { top = c; bottom = x.over; positive = x.positive }

quotient_is : (s c : ℤ) (d q n : ℕ) → 0 < d → (c *ℤ pos d *ℤ pos n) ≤ℤ (s *ℤ pos (d * q)) → (s *ℤ pos (d * q)) ≤ℤ (c *ℤ pos d *ℤ pos n) → s *ℤ pos q ≡ c *ℤ pos n
quotient_is s c d q n p h k =
    let h' : (c *ℤ pos (d * n)) ≤ℤ (s *ℤ pos (d * q)) = rw (times_assoc c) at h in
    let k' : (s *ℤ pos (d * q)) ≤ℤ (c *ℤ pos (d * n)) = rw (times_assoc c) at k in
    cancel (s *ℤ pos q) (c *ℤ pos n) d p (rw (times_assoc s, times_assoc c) (same_in _ _ (omega (arith, product_is, le_parts c s _ _ h', le_parts s c _ _ k'))))

-- the end of r with the smaller product with p, and the other end
abbrev pub ends : Range → ℤ → Range
ends r p = range (cond (lt_z (r.upper *ℤ p) (r.lower *ℤ p)) r.upper r.lower) (cond (lt_z (r.upper *ℤ p) (r.lower *ℤ p)) r.lower r.upper)

cond_times : (t : Bool) (a b p : ℤ) → cond t a b *ℤ p ≡ cond t (a *ℤ p) (b *ℤ p)
cond_times true a b p = refl
cond_times false a b p = refl

products : (r : Range) (p : ℤ) → ((ends r p).lower *ℤ p ≡ (times r (only p)).lower) × ((ends r p).upper *ℤ p ≡ (times r (only p)).upper)
products r p = (cond_times _ r.upper r.lower p ∙ sym (times_only r p).0, cond_times _ r.lower r.upper p ∙ sym (times_only r p).1)

-- α × lower + β × upper
abbrev pub mix : ℕ → ℕ → Range → ℤ
mix α β r = r.lower *ℤ pos α +ℤ r.upper *ℤ pos β

regroup : (a b c d : ℤ) → a +ℤ b +ℤ (c +ℤ d) ≡ a +ℤ c +ℤ (b +ℤ d)
regroup a b c d = omega (arith, ints)

module _ (α β : ℕ) where
  mix_plus : (r s : Range) → mix α β r +ℤ mix α β s ≡ mix α β (plus r s)
  mix_plus r s = rw (sum_times r.lower, sum_times r.upper, regroup (r.lower *ℤ pos α) (r.upper *ℤ pos β))

  mix_times : (r : Range) (p : ℤ) → mix α β (ends r p) *ℤ p ≡ mix α β (times r (only p))
  mix_times r p = rw (sum_times, times_swap (ends r p).lower, times_swap (ends r p).upper, (products r p).0, (products r p).1)

  mix_total : (r : ℕ → Range) (n : ℕ) → total (λ j. only (mix α β (r j))) n ≡ only (mix α β (total r n))
  mix_total r zero = ap only (omega (arith, ints))
  mix_total r (suc n) = rw (mix_total r n) (ap only (mix_plus (total r n) (r (suc n))))

  mix_in : (t : Bool) (l u : ℤ) → l ≤ℤ u → ((l *ℤ pos (α + β)) ≤ℤ mix α β (range (cond t u l) (cond t l u))) × (mix α β (range (cond t u l) (cond t l u)) ≤ℤ (u *ℤ pos (α + β)))
  mix_in true l u h = omega (arith, ints, mul-le-mul_right α (le_out l u h), mul-le-mul_right β (le_out l u h))
  mix_in false l u h = omega (arith, ints, mul-le-mul_right α (le_out l u h), mul-le-mul_right β (le_out l u h))

  module _ (some : 0 < α + β) where
    abbrev pub pick : Range → ℤ → Fraction
    pick r p = record { top = mix α β (ends r p); bottom = α + β; positive = some }

    pub pick_in : (r : Range) (p : ℤ) → r.lower ≤ℤ r.upper → pick r p ∈ r
    pick_in r p h = mix_in (lt_z (r.upper *ℤ p) (r.lower *ℤ p)) r.lower r.upper h

    -- the terms of a row, times their bottom
    module _ (r : ℕ → Range) (x : Point) (n : ℕ) where
      abbrev pub terms : ℕ → Fraction
      terms j = pick (r j) (x.numerator j) ⊗ component x j

      abbrev pub products_of : ℕ → Range
      products_of j = times (r j) (only (x.numerator j))

      terms_in : ((α + β) * x.over) · sum terms n ∈ only (mix α β (total products_of n))
      terms_in = subst (λ s. ((α + β) * x.over) · sum terms n ∈ s) (mix_total products_of n) (sum_in ((α + β) * x.over) terms (λ j. only (mix α β (products_of j))) n (λ j k l. rw (mix_times (r j) (x.numerator j)) (omega (arith, ints))))

      -- a row with the value c
      pub row_is : (c : ℤ) → mix α β (total products_of n) ≡ c *ℤ pos (α + β) → sum terms n ≈ value x c
      row_is c e = quotient_is (sum terms n).top c (α + β) x.over (sum terms n).bottom some (rw e at terms_in.0) (rw e at terms_in.1)
