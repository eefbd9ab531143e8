-- The largest and the smallest absolute value of the numbers in a range.
use Rattle.std.proofs.Common.{◌≡◌, ◌≤◌, Bool, true, false, ℤ, pos, nat_abs, refl, arith}
use lib.Signed.{le_z}
use borrow.Author.Differences.{ints}
use native.Mathlib.Decide.{dec_le}
use Rattle.balance.specs.declared.range.Range.{Range}
use Rattle.balance.specs.Ranges.{Ordered, Inside}
use Rattle.roast.specs.Certificates.{magnitude, mignitude, IsLargestSize, IsSmallestSize, MeasuresRanges}

largest : (a : Range) → Ordered a → IsLargestSize a (magnitude a)
largest a o = record { bounds = λ p h. omega (arith, ints); is_one = by (dec_le (nat_abs a.lower) (nat_abs a.upper)) }
  where
    by : Dec (nat_abs a.lower ≤ nat_abs a.upper) → (p : ℤ) × Inside p a × (nat_abs p ≡ magnitude a)
    by (yes h) = (a.upper, (o, omega (arith, ints)), omega arith)
    by (no h) = (a.lower, (omega (arith, ints), o), omega arith)

smallest : (a : Range) → Ordered a → IsSmallestSize a (mignitude a)
smallest a o = record { bounds = λ p h. grind (arith, ints, h.0, h.1, o); is_one = by (le_z a.lower (pos 0)) (le_z (pos 0) a.upper) refl refl }
  where
    by : (t v : Bool) → le_z a.lower (pos 0) ≡ t → le_z (pos 0) a.upper ≡ v → (p : ℤ) × Inside p a × (nat_abs p ≡ mignitude a)
    by true true e f = (pos 0, (grind (arith, ints), grind (arith, ints)), grind (arith, ints))
    by true false e f = (a.upper, (o, omega (arith, ints)), grind (arith, ints))
    by false v e f = (a.lower, (omega (arith, ints), o), grind (arith, ints))

pub measures_ranges : MeasuresRanges
measures_ranges = record { largest = largest; smallest = smallest }
