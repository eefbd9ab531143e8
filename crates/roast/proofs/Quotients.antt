-- The laws of the rounded quotient and of the common part, and what follows from them.
use Rattle.std.proofs.Common.{◌≡◌, ◌≢◌, Bool, true, false, cond, T, ◌⊎◌, ◌↔◌, ℤ, pos, ◌*ℤ◌, ◌≤ℤ◌, ◌<ℤ◌, Some, None, Option, sym, refl, ◌∙◌, subst, inl, inr, arith}
use lib.Signed.{le_z, lt_z, ≤ℤ_refl}
use borrow.Author.Differences.{ints}
use Rattle.std.specs.Int.{int_min, int_max}
use Rattle.std.proofs.lemmas.Int.{clamps}
use Rattle.std.proofs.lemmas.Bool.{true≢false}
use Rattle.balance.specs.declared.range.Range.{Range}
use Rattle.balance.specs.Ranges.{range, Ordered, Inside, ◌⊆◌}
use Rattle.balance.proofs.Integers.{times_swap}
use Rattle.roast.specs.Rounding.{holds_zero, floor, ceiling, lowering_end, raising_end, quotient, AtMost, AtLeast, RoundedOutward, shared, CommonPart}
use Rattle.balance.proofs.Integers.{grows, falls, grows_left, falls_left}
use Rattle.roast.proofs.Numbers.{≤_trans, above_test, cancels, cancels_below, floor_is, ceiling_is}

-- ---- a range that does not hold 0

-- a range that does not hold 0 lies above it or below it
pub sign_of : (d : Range) → holds_zero d ≡ false → Ordered d → (pos 0 <ℤ d.lower) ⊎ (d.upper <ℤ pos 0)
sign_of d e o = by (le_z d.lower (pos 0)) (le_z (pos 0) d.upper) refl refl e
  where
    by : (s t : Bool) → le_z d.lower (pos 0) ≡ s → le_z (pos 0) d.upper ≡ t → cond s t false ≡ false → (pos 0 <ℤ d.lower) ⊎ (d.upper <ℤ pos 0)
    by true true p q h = cc
    by true false p q h = inr (omega (arith, ints))
    by false t p q h = inl (omega (arith, ints))

not_zero : (d : Range) → holds_zero d ≡ false → (a : ℤ) → Inside a d → a ≢ pos 0
not_zero d e a i = grind (arith, ints)

-- all its numbers have one sign
one_sign : (d : Range) → holds_zero d ≡ false → (e a : ℤ) → Inside e d → Inside a d → (pos 0 <ℤ a → pos 0 <ℤ e) × (a <ℤ pos 0 → e <ℤ pos 0)
one_sign d h e a i j = (λ s. grind (arith, ints), λ s. grind (arith, ints))

-- ---- the end of the divisor

lowering : (m : ℤ) (d : Range) → Ordered d → Inside (lowering_end m d) d × ((a : ℤ) → Inside a d → (m *ℤ a) ≤ℤ (m *ℤ lowering_end m d))
lowering m d o = by (le_z (pos 0) m) refl
  where
    by : (t : Bool) → le_z (pos 0) m ≡ t → Inside (cond t d.upper d.lower) d × ((a : ℤ) → Inside a d → (m *ℤ a) ≤ℤ (m *ℤ cond t d.upper d.lower))
    by true e = ((o, ≤ℤ_refl d.upper), λ a i. grows_left a d.upper m (omega (arith, ints)) i.1)
    by false e = ((≤ℤ_refl d.lower, o), λ a i. falls_left d.lower a m (omega (arith, ints)) i.0)

raising : (m : ℤ) (d : Range) → Ordered d → Inside (raising_end m d) d × ((a : ℤ) → Inside a d → (m *ℤ raising_end m d) ≤ℤ (m *ℤ a))
raising m d o = by (le_z (pos 0) m) refl
  where
    by : (t : Bool) → le_z (pos 0) m ≡ t → Inside (cond t d.lower d.upper) d × ((a : ℤ) → Inside a d → (m *ℤ cond t d.lower d.upper) ≤ℤ (m *ℤ a))
    by true e = ((≤ℤ_refl d.lower, o), λ a i. grows_left d.lower a m (omega (arith, ints)) i.0)
    by false e = ((o, ≤ℤ_refl d.upper), λ a i. falls_left a d.upper m (omega (arith, ints)) i.1)

-- ---- the ends of the quotient

-- from one divisor e to another of its sign, a
module _ (z m e a : ℤ) (sign : (pos 0 <ℤ a → pos 0 <ℤ e) × (a <ℤ pos 0 → e <ℤ pos 0)) where
  at_most_by : (m *ℤ a) ≤ℤ (m *ℤ e) → AtMost z m e → AtMost z m a
  at_most_by h k = (
    λ s. cancels (z *ℤ a) m e (sign.0 s) (≤_trans _ _ _ (rw (times_swap z a e) (grows (z *ℤ e) m a (omega (arith, ints)) (k.0 (sign.0 s)))) h),
    λ s. cancels_below m (z *ℤ a) e (sign.1 s) (≤_trans _ _ _ (rw (times_swap z a e) (falls m (z *ℤ e) a (omega (arith, ints)) (k.1 (sign.1 s)))) h),
  )

  at_least_by : (m *ℤ e) ≤ℤ (m *ℤ a) → AtLeast z m e → AtLeast z m a
  at_least_by h k = (
    λ s. cancels m (z *ℤ a) e (sign.0 s) (≤_trans _ _ _ h (rw (times_swap z a e) (grows m (z *ℤ e) a (omega (arith, ints)) (k.0 (sign.0 s))))),
    λ s. cancels_below (z *ℤ a) m e (sign.1 s) (≤_trans _ _ _ h (rw (times_swap z a e) (falls (z *ℤ e) m a (omega (arith, ints)) (k.1 (sign.1 s))))),
  )

module _ (m d : Range) (h : holds_zero d ≡ false) (o : Ordered d) (n : ℤ) (end : Inside n m) where
  -- by the numerator n that makes the lowest quotients
  lowest : ((k a : ℤ) → Inside k m → Inside a d → (pos 0 <ℤ a → n ≤ℤ k) × (a <ℤ pos 0 → k ≤ℤ n)) → (z : ℤ) → (z ≤ℤ floor n (lowering_end n d)) ↔ ((k a : ℤ) → Inside k m → Inside a d → AtMost z k a)
  lowest side z =
      let e = lowering_end n d in
      let w = lowering n d o in
      let p = floor_is z n e (not_zero d h e w.0) in (
        λ q k a i j. let t = at_most_by z n e a (one_sign d h e a w.0 j) (w.1 a j) (p.0 q) in let s = side k a i j in (λ g. ≤_trans _ _ _ (t.0 g) (s.0 g), λ g. ≤_trans _ _ _ (s.1 g) (t.1 g)),
        λ q. p.1 (q n e end w.0),
      )

  highest : ((k a : ℤ) → Inside k m → Inside a d → (pos 0 <ℤ a → k ≤ℤ n) × (a <ℤ pos 0 → n ≤ℤ k)) → (z : ℤ) → (ceiling n (raising_end n d) ≤ℤ z) ↔ ((k a : ℤ) → Inside k m → Inside a d → AtLeast z k a)
  highest side z =
      let e = raising_end n d in
      let w = raising n d o in
      let p = ceiling_is z n e (not_zero d h e w.0) in (
        λ q k a i j. let t = at_least_by z n e a (one_sign d h e a w.0 j) (w.1 a j) (p.0 q) in let s = side k a i j in (λ g. ≤_trans _ _ _ (s.0 g) (t.0 g), λ g. ≤_trans _ _ _ (t.1 g) (s.1 g)),
        λ q. p.1 (q n e end w.0),
      )

pub quotient_rounds : (m d : Range) → holds_zero d ≡ false → Ordered m → Ordered d → RoundedOutward m d (quotient m d)
quotient_rounds m d h o o' = by (lt_z (pos 0) d.lower) refl
  where
    first : Inside m.lower m
    first = (≤ℤ_refl m.lower, o)

    last : Inside m.upper m
    last = (o, ≤ℤ_refl m.upper)

    by : (t : Bool) → lt_z (pos 0) d.lower ≡ t → RoundedOutward m d (cond t (range (floor m.lower (lowering_end m.lower d)) (ceiling m.upper (raising_end m.upper d))) (range (floor m.upper (lowering_end m.upper d)) (ceiling m.lower (raising_end m.lower d))))
    by true e = record {
      lower_end = lowest m d h o' m.lower first (λ k a i j. (λ s. i.0, λ s. let q = j.0 in absurd (omega (arith, ints))));
      upper_end = highest m d h o' m.upper last (λ k a i j. (λ s. i.1, λ s. let q = j.0 in absurd (omega (arith, ints))));
    }
    by false e = record {
      lower_end = lowest m d h o' m.upper last (λ k a i j. (λ s. absurd (above a j s), λ s. i.1));
      upper_end = highest m d h o' m.lower first (λ k a i j. (λ s. absurd (above a j s), λ s. i.0));
    }
      where
        above : (a : ℤ) → Inside a d → pos 0 <ℤ a → ⊥
        above a j s = let q = (one_sign d h d.lower a (≤ℤ_refl d.lower, o') j).0 s in true≢false (sym (above_test d.lower q) ∙ e)

pub rounds : (m d q : Range) → q ≡ quotient m d → holds_zero d ≡ false → Ordered m → Ordered d → RoundedOutward m d q
rounds m d q e h o o' = subst (RoundedOutward m d) (sym e) (quotient_rounds m d h o o')

-- ---- what follows for ranges within ranges

pub quotient_mono : (m m' d : Range) → holds_zero d ≡ false → Ordered m → Ordered m' → Ordered d → m ⊆ m' → quotient m d ⊆ quotient m' d
quotient_mono m m' d e o o' od s =
    let r = quotient_rounds m d e o od in
    let r' = quotient_rounds m' d e o' od in
    let inside : (n : ℤ) → Inside n m → Inside n m' = λ n i. (≤_trans _ _ _ s.low i.0, ≤_trans _ _ _ i.1 s.high) in
    record {
      low = (r.lower_end (quotient m' d).lower).1 (λ n a i j. (r'.lower_end (quotient m' d).lower).0 (≤ℤ_refl _) n a (inside n i) j);
      high = (r.upper_end (quotient m' d).upper).1 (λ n a i j. (r'.upper_end (quotient m' d).upper).0 (≤ℤ_refl _) n a (inside n i) j);
    }

-- ---- the common part

common_made : (a b : Range) → int_max a.lower b.lower ≤ℤ int_min a.upper b.upper → CommonPart a b (Some (range (int_max a.lower b.lower) (int_min a.upper b.upper)))
common_made a b h = (h, λ p. (λ i. let l = i.0 in let u = i.1 in ((omega (arith, ints, clamps), omega (arith, ints, clamps)), (omega (arith, ints, clamps), omega (arith, ints, clamps))), λ ij. let i₀ = ij.0.0 in let i₁ = ij.0.1 in let j₀ = ij.1.0 in let j₁ = ij.1.1 in (omega (arith, ints, clamps), omega (arith, ints, clamps))))

ordered_yes : (x y : ℤ) → x ≤ℤ y → le_z x y ≡ true
ordered_yes x y h = grind (arith, ints)

pub shared_common : (a b : Range) → CommonPart a b (shared a b)
shared_common a b = by (le_z (int_max a.lower b.lower) (int_min a.upper b.upper)) refl
  where
    by : (t : Bool) → le_z (int_max a.lower b.lower) (int_min a.upper b.upper) ≡ t → CommonPart a b (cond t (Some (range (int_max a.lower b.lower) (int_min a.upper b.upper))) None)
    by true e = common_made a b (record { le = subst T (sym e) tt })
    by false e = λ p i j. let i₀ = i.0 in let i₁ = i.1 in let j₀ = j.0 in let j₁ = j.1 in let l : le_z (int_max a.lower b.lower) (int_min a.upper b.upper) ≡ true = ordered_yes (int_max a.lower b.lower) (int_min a.upper b.upper) (omega (arith, ints, clamps)) in true≢false (sym l ∙ e)

pub common_part : (a b : Range) (o : Option Range) → o ≡ shared a b → CommonPart a b o
common_part a b o e = subst (CommonPart a b) (sym e) (shared_common a b)

-- what is shared lies in both, and holds all that lies in both
pub record Shared (a b r : Range) : Type 0 where
  pub ordered : Ordered r
  pub left : r ⊆ a
  pub right : r ⊆ b
  pub all : (s : Range) → Ordered s → s ⊆ a → s ⊆ b → s ⊆ r

pub shared_is : (a b r : Range) → shared a b ≡ Some r → Shared a b r
shared_is a b r e =
    let c : CommonPart a b (Some r) = subst (CommonPart a b) e (shared_common a b) in
    let low = (c.1 r.lower).0 (≤ℤ_refl r.lower, c.0) in
    let high = (c.1 r.upper).0 (c.0, ≤ℤ_refl r.upper) in
    record {
      ordered = c.0;
      left = record { low = low.0.0; high = high.0.1 };
      right = record { low = low.1.0; high = high.1.1 };
      all = λ s o p q. record {
        low = ((c.1 s.lower).1 ((p.low, ≤_trans _ _ _ o p.high), (q.low, ≤_trans _ _ _ o q.high))).0;
        high = ((c.1 s.upper).1 ((≤_trans _ _ _ p.low o, p.high), (≤_trans _ _ _ q.low o, q.high))).1;
      };
    }

-- two ranges around a third share a range around it
pub shared_has : (a b s : Range) → Ordered s → s ⊆ a → s ⊆ b → (r : Range) × (shared a b ≡ Some r) × (s ⊆ r)
shared_has a b s o p q = by (shared a b) refl
  where
    by : (x : Option Range) → shared a b ≡ x → (r : Range) × (shared a b ≡ Some r) × (s ⊆ r)
    by (Some r) e = (r, e, (shared_is a b r e).all s o p q)
    by None e = absurd (subst (CommonPart a b) e (shared_common a b) s.lower (p.low, ≤_trans _ _ _ o p.high) (q.low, ≤_trans _ _ _ o q.high))
