-- A system that an opening accepts: every place answers, and no diagonal holds 0.
use Rattle.std.proofs.Common.{◌≡◌, ℕ, ◌*◌, Bool, true, false, cond, List, length, ℤ, pos, None, refl, ap, arith}
use lib.Signed.{le_z}
use borrow.Author.Differences.{ints}
use Rattle.std.proofs.lemmas.Bool.{eq-eqb}
use Rattle.balance.specs.declared.range.Range.{Range}
use Rattle.balance.specs.Ranges.{Inside}
use Rattle.balance.specs.Meanings.{Meaning, IsNode, Lawful, EveryPlaceAnswers, coefficient_range}
use Rattle.balance.specs.Places.{refusal_at, row_refusal}
use Rattle.balance.proofs.Entries.{none_all}
use Rattle.balance.proofs.PlaceLaws.{told_unrefused}
use Rattle.roast.specs.Rounding.{holds_zero, quotient, shared}
use Rattle.roast.specs.Certificates.{mignitude, u, Passes, Opens}
use Rattle.roast.specs.Narrowing.{Box, at, row_answers, numerator, narrowed}
use Rattle.roast.specs.Runs.{CanBeSolved, KeepsCommonPart}
use Rattle.roast.proofs.Quotients.{quotient_rounds, common_part}
use Rattle.roast.proofs.Boxes.{coefficient_ordered, numerator_ordered}

pub row_unrefused : (m : Meaning) → EveryPlaceAnswers m → (i : ℕ) → IsNode m i → row_refusal m i ≡ None
row_unrefused m answers i n = rw (none_all (λ j. refusal_at (m.coefficient i j)) m.size (λ j p q. told_unrefused (m.coefficient i j) (answers.coefficients i j n (p, q))), told_unrefused (m.right_side i) (answers.right_sides i n)) refl

-- a diagonal that a certificate outweighs is apart from 0
apart : (m : Meaning) (us : List ℤ) → Passes m us → (i : ℕ) → IsNode m i → holds_zero (coefficient_range m i i) ≡ false
apart m us passes i n = by (holds_zero (coefficient_range m i i)) refl
  where
    by : (t : Bool) → holds_zero (coefficient_range m i i) ≡ t → holds_zero (coefficient_range m i i) ≡ false
    by false e = e
    by true e =
        let z : mignitude (coefficient_range m i i) ≡ 0 = rw e refl in
        let y : mignitude (coefficient_range m i i) * u us i ≡ 0 = omega (arith, ap (λ k. k * u us i) z) in
        absurd (omega (arith, ints, passes.dominant i n))

zero_inside : (a : Range) → holds_zero a ≡ true → Inside (pos 0) a
zero_inside a e = (grind (arith, ints), grind (arith, ints))

pub inside_holds : (a : Range) → holds_zero a ≡ false → Inside (pos 0) a → ⊥
inside_holds a e h = by (le_z a.lower (pos 0)) (le_z (pos 0) a.upper) refl refl e
  where
    by : (t v : Bool) → le_z a.lower (pos 0) ≡ t → le_z (pos 0) a.upper ≡ v → cond t v false ≡ false → ⊥
    by true true p q e = cc
    by true false p q e = grind (arith, ints, h.0, h.1)
    by false v p q e = grind (arith, ints, h.0, h.1)

pub opened_able : (m : Meaning) (us : List ℤ) → Opens m us → CanBeSolved m
opened_able m us o = record { answers = o.answers; diagonals = λ i n. inside_holds (coefficient_range m i i) (apart m us o.passes i n) }

module _ (m : Meaning) (able : CanBeSolved m) where
  pub able_apart : (i : ℕ) → IsNode m i → holds_zero (coefficient_range m i i) ≡ false
  able_apart i n = by (holds_zero (coefficient_range m i i)) refl
    where
      by : (t : Bool) → holds_zero (coefficient_range m i i) ≡ t → holds_zero (coefficient_range m i i) ≡ false
      by false e = e
      by true e = let w = zero_inside (coefficient_range m i i) e in absurd (able.diagonals i n w)

  pub able_answers : (B : Box) (i : ℕ) → length B ≡ m.size → IsNode m i → row_answers m B i ≡ true
  able_answers B i fit n = rw (eq-eqb (length B) m.size fit, row_unrefused m able.answers i n) refl

  module _ (B : Box) (i : ℕ) (fit : length B ≡ m.size) (n : IsNode m i) where
    narrowed_is : narrowed m B i ≡ shared (at B i) (quotient (numerator m B i) (coefficient_range m i i))
    narrowed_is = rw (able_answers B i fit n, able_apart i n) refl

    pub keeps_common_part : Lawful m → KeepsCommonPart m B i (narrowed m B i)
    keeps_common_part lawful = record {
      quotient = quotient (numerator m B i) (coefficient_range m i i);
      rounds_outward = quotient_rounds (numerator m B i) (coefficient_range m i i) (able_apart i n) (numerator_ordered m lawful B i n) (coefficient_ordered m lawful i i n n);
      common_part = common_part (at B i) _ _ narrowed_is;
    }
