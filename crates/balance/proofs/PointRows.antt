-- The test of a point, and the sums of its rows.
use Rattle.std.proofs.Common.{◌≡◌, ℕ, zero, suc, ◌+◌, ◌-◌, ◌*◌, ◌^◌, ◌<◌, ◌≤◌, Bool, true, false, T, ◌&&◌, eqb, ◌↔◌, List, length, ℤ, pos, negsuc, neg_ℤ, nat_abs, cond, Some, None, Ok, Option, Result, sym, refl, ap, ◌∙◌, subst, arith, w64, to_z, of_z}
use borrow.Author.Differences.{ints}
use Rattle.std.proofs.lemmas.Bool.{eq-eqb, eqb-true}
use Rattle.std.proofs.lemmas.Int.{to_z-of_z}
use Rattle.balance.specs.declared.range.Range.{Range}
use Rattle.balance.specs.declared.refusal.Refusal.{Refusal}
use Rattle.balance.specs.declared.refusal.Refusal.TheVariants.{Point as PointRefusal}
use Rattle.balance.specs.Ranges.{only, Ordered, Between, Fits64, plus, times, total}
use Rattle.balance.specs.Meanings.{Meaning, IsNode, Lawful, EveryPlaceAnswers, coefficient_range, right_side_range}
use Rattle.balance.specs.Places.{first, first_refusal, unless_refused, every}
use Rattle.balance.specs.Points.{numerator, between, numerator_refusal, point_refusal, fits, point, Possible, TellsPossible}
use Rattle.balance.proofs.Entries.{test_passed}
use Rattle.balance.proofs.Searches.{none_of, all_answer}
use Rattle.balance.proofs.PlaceLaws.{range_within}
use Rattle.balance.proofs.Ranges.{total_more, times_between_bounds, narrow_fits}
use Rattle.balance.proofs.Points.{fits_exactly}

-- ---- a point that is allowed

abbrev pub numerator_between : ℤ → Bool
numerator_between p = between (neg_ℤ (pos (2 ^ 37))) (pos (2 ^ 37)) p

abbrev pub denominator_between : ℤ → Bool
denominator_between q = between (pos 1) (pos (2 ^ 20)) q

pub point_refusal_is : (n : ℕ) (ps : List ℤ) (q : ℤ) (o : Option Refusal) → length ps ≡ n → denominator_between q ≡ true → first (numerator_refusal ps) (length ps) ≡ o → point_refusal n ps q ≡ o
point_refusal_is n ps q o h k e = let t : eqb (length ps) n ≡ true = eq-eqb (length ps) n h in rw (t, k) (rw h at e)

pub record Allowed (n : ℕ) (ps : List ℤ) (q : ℤ) : Type 0 where
  pub count : length ps ≡ n
  pub denominator : denominator_between q ≡ true
  pub numerators : (j : ℕ) → 1 ≤ j → j ≤ n → numerator_between (numerator ps j) ≡ true

pub allowed : (n : ℕ) (ps : List ℤ) (q : ℤ) → point_refusal n ps q ≡ None → Allowed n ps q
allowed n ps q h =
    let counted = test_passed (eqb (length ps) n) _ (PointRefusal 0) h in
    let over = test_passed (denominator_between q) _ (PointRefusal 0) counted.1 in
    record {
      count = eqb-true (length ps) n counted.0;
      denominator = over.0;
      numerators = λ j a b. (test_passed (numerator_between (numerator ps j)) None (PointRefusal j) (none_of (numerator_refusal ps) n over.1 j a b)).0;
    }

pub allowed_over : (n : ℕ) (ps : List ℤ) (q : ℤ) → length ps ≡ n → point_refusal (length ps) ps q ≡ None → Allowed n ps q
allowed_over n ps q e h = allowed n ps q (subst (λ k. point_refusal k ps q ≡ None) e h)

pub denominator_above : (q : ℤ) → denominator_between q ≡ true → (0 < nat_abs q) × (q ≡ pos (nat_abs q)) × (nat_abs q ≤ 2 ^ 20)
denominator_above (pos n) h = (grind (arith, ints), refl, grind (arith, ints))
denominator_above (negsuc n) h = absurd (grind (arith, ints))

-- ---- the sums of its rows

-- what a column adds to the sum of a row
abbrev pub part : Meaning → (ℕ → ℤ) → ℕ → ℕ → Range
part m p i j = times (coefficient_range m i j) (only (p j))

-- no numerator goes beyond its limit
number_narrow : (n : ℕ) (ps : List ℤ) (q : ℤ) → Allowed n ps q → (j : ℕ) → 1 ≤ j → j ≤ n → Between (2 ^ 37) (only (numerator ps j))
number_narrow n ps q allows j a b = one (numerator ps j) (allows.numerators j a b)
  where
    one : (p : ℤ) → numerator_between p ≡ true → Between (2 ^ 37) (only p)
    one p h = (grind (arith, ints), omega (arith, ints), grind (arith, ints))

-- and the code holds it
pub number_held : (n : ℕ) (ps : List ℤ) (q : ℤ) → Allowed n ps q → (j : ℕ) → 1 ≤ j → j ≤ n → to_z w64 (of_z w64 (numerator ps j)) ≡ numerator ps j
number_held n ps q allows j a b = let h = number_narrow n ps q allows j a b in to_z-of_z w64 (numerator ps j) (omega (arith, ints))

-- the next sum
pub total_next : (f : ℕ → Range) (k n : ℕ) (r s t : Range) → 1 ≤ k → n ≡ k → r ≡ total f (k - 1) → s ≡ f k → t ≡ plus r s → t ≡ total f n
total_next f k n r s t p q h e i =
    let j : k ≡ k - 1 + 1 = omega arith in
    total_more f (k - 1) r s t h (e ∙ ap f j) i ∙ ap (total f) (sym j ∙ sym q)

-- a row and the columns that are added up
module _ (m : Meaning) (lawful : Lawful m) (ps : List ℤ) (q : ℤ) (allows : Allowed m.size ps q) (i : ℕ) (node : IsNode m i) where
  abbrev parts : ℕ → Range
  parts = part m (numerator ps) i

  coefficient_narrow : (j : ℕ) → IsNode m j → Between (2 ^ 20) (coefficient_range m i j)
  coefficient_narrow j h = range_within (2 ^ 20) (m.coefficient i j) (lawful.coefficients i j node h)

  part_narrow : (j : ℕ) → IsNode m j → Between (2 ^ 57) (parts j)
  part_narrow j h = times_between_bounds _ _ (2 ^ 20) (2 ^ 37) (coefficient_narrow j h) (number_narrow m.size ps q allows j h.0 h.1)

  sum_narrow : (k : ℕ) → k ≤ m.size → Between (k * 2 ^ 57) (total parts k)
  sum_narrow zero h = (omega (arith, ints), omega (arith, ints), omega (arith, ints))
  sum_narrow (suc k) h =
      let v = sum_narrow k (omega arith) in
      let b = part_narrow (suc k) (omega arith, omega arith) in
      (omega (arith, ints), omega (arith, ints), omega (arith, ints))

  -- column j, where the code has a for the coefficient and p for the numerator
  module _ (j : ℕ) (h : IsNode m j) (a : Range) (p : ℤ) (is : a ≡ coefficient_range m i j) (held : p ≡ numerator ps j) where
    pub factor_ordered : Ordered a
    factor_ordered = subst Ordered (sym is) (coefficient_narrow j h).1

    pub product_fits : Fits64 (times a (only p))
    product_fits = subst Fits64 (sym (λ k. times (is k) (only (held k)))) (narrow_fits (2 ^ 57) (parts j) (omega arith) (part_narrow j h))

  pub sum_fits : (j : ℕ) (r s : Range) → IsNode m j → r ≡ total parts (j - 1) → s ≡ parts j → Fits64 (plus r s)
  sum_fits j r s h e k = narrow_fits (j * 2 ^ 57) (plus r s) (omega (arith, lawful.few)) (subst (Between (j * 2 ^ 57)) (sym (total_next parts j j r s (plus r s) h.0 refl e k refl)) (sum_narrow j h.1))

-- the code holds the denominator
pub denominator_held : (q : ℤ) → denominator_between q ≡ true → to_z w64 (of_z w64 q) ≡ q
denominator_held q h = let d = denominator_above q h in to_z-of_z w64 q (omega (arith, ints))

-- a right side, where the code has b for it and p for the denominator
module _ (m : Meaning) (lawful : Lawful m) (q : ℤ) (over : denominator_between q ≡ true) (i : ℕ) (node : IsNode m i) (b : Range) (p : ℤ) (is : b ≡ right_side_range m i) (held : p ≡ q) where
  side_narrow : Between (2 ^ 42) (right_side_range m i)
  side_narrow = range_within (2 ^ 42) (m.right_side i) (lawful.right_sides i node)

  pub side_ordered : Ordered b
  side_ordered = subst Ordered (sym is) side_narrow.1

  pub scaled_fits : Fits64 (times b (only p))
  scaled_fits =
      let d = denominator_above q over in
      let n : Between (2 ^ 20) (only q) = (omega (arith, ints), omega (arith, ints), omega (arith, ints)) in
      subst Fits64 (sym (λ k. times (is k) (only (held k)))) (narrow_fits (2 ^ 62) _ (omega arith) (times_between_bounds (right_side_range m i) (only q) (2 ^ 42) (2 ^ 20) side_narrow n))

-- the next test
pub every_next : (t : ℕ → Bool) (k n : ℕ) (b here c : Bool) → 1 ≤ k → n ≡ k → b ≡ every t (k - 1) → here ≡ t k → c ≡ (b && here) → c ≡ every t n
every_next t k n b here c p q h e f =
    let j : k ≡ suc (k - 1) = omega arith in
    f ∙ (λ i. h i && e i) ∙ both (every t (k - 1)) (t k) ∙ (λ i. cond (every t (k - 1)) (t (j i)) false) ∙ ap (every t) (sym j ∙ sym q)
  where
    both : (x y : Bool) → (x && y) ≡ cond x y false
    both true y = refl
    both false y = refl

-- ---- the answer

pub answer_tells : (m : Meaning) → Lawful m → EveryPlaceAnswers m → (ps : List ℤ) (q : ℤ) → Allowed m.size ps q → TellsPossible m ps q (Ok (every (fits m (numerator ps) q) m.size))
answer_tells m lawful answers ps q allows =
    let d = denominator_above q allows.denominator in
    (d.0, d.1, subst (λ z. T (every (fits m (numerator ps) z) m.size) ↔ Possible m (point ps (nat_abs q) d.0)) (sym d.1) (fits_exactly m lawful answers (point ps (nat_abs q) d.0)))

pub tells_so : (m : Meaning) → Lawful m → (ps : List ℤ) (q : ℤ) → Allowed m.size ps q → (r : Result Bool Refusal) → r ≡ unless_refused (first_refusal m) (Ok (every (fits m (numerator ps) q) m.size)) → TellsPossible m ps q r
tells_so m lawful ps q allows r e = by (first_refusal m) refl e
  where
    by : (o : Option Refusal) → first_refusal m ≡ o → r ≡ unless_refused o (Ok (every (fits m (numerator ps) q) m.size)) → TellsPossible m ps q r
    by None f g = subst (TellsPossible m ps q) (sym g) (answer_tells m lawful (all_answer m f) ps q allows)
    by (Some x) f g = subst (TellsPossible m ps q) (sym g) tt
