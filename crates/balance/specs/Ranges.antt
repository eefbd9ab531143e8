-- Ranges of whole numbers, both ends included, and the arithmetic on their ends.
use Rattle.std.specs.Prelude.{ℕ, zero, suc, Bool, false, cond, List, ◌++◌, codes, ℤ, pos, ◌+ℤ◌, ◌-ℤ◌, ◌*ℤ◌, neg_ℤ, ◌≤ℤ◌, Ok, Err, Result, FitsSigned, int_le, slice_index_or}
use Rattle.std.specs.Fmt.{signed_decimal}
use Rattle.std.specs.Int.{int_min, int_max, w64}
use Rattle.balance.specs.declared.range.Range.{Range}
use Rattle.balance.specs.declared.refusal.Refusal.{Refusal}
use Rattle.balance.specs.declared.refusal.Refusal.TheVariants.{Crossed}

abbrev pub range : ℤ → ℤ → Range
range lower upper = record { lower = lower; upper = upper }

-- the range of one number
abbrev pub only : ℤ → Range
only p = range p p

abbrev pub Ordered : Range → Type 0
Ordered r = r.lower ≤ℤ r.upper

-- a number of the range
abbrev pub Inside : ℤ → Range → Type 0
Inside p r = (r.lower ≤ℤ p) × (p ≤ℤ r.upper)

infix 50 ◌⊆◌
-- every number of r is one of s
pub record ◌⊆◌ (r s : Range) : Type 0 where
  pub low : s.lower ≤ℤ r.lower
  pub high : r.upper ≤ℤ s.upper

-- the number is one of the range
abbrev pub contains : Range → ℤ → Bool
contains r p = cond (int_le r.lower p) (int_le p r.upper) false

-- no end of r lies beyond those of s
abbrev pub within : Range → Range → Bool
within r s = cond (int_le s.lower r.lower) (int_le r.upper s.upper) false

-- from -limit to limit
abbrev pub limits : ℕ → Range
limits limit = range (neg_ℤ (pos limit)) (pos limit)

-- in order, and no end beyond ±limit
abbrev pub Between : ℕ → Range → Type 0
Between limit r = (neg_ℤ (pos limit) ≤ℤ r.lower) × (r.lower ≤ℤ r.upper) × (r.upper ≤ℤ pos limit)

-- so is each range of a list
abbrev pub AllBetween : ℕ → List Range → Type 0
AllBetween limit rs = (k : ℕ) → Between limit (slice_index_or rs k (only (pos 0)))

-- both ends are numbers of 64 bits
abbrev pub Fits64 : Range → Type 0
Fits64 r = FitsSigned w64 r.lower × FitsSigned w64 r.upper

-- what `Range::new` answers
abbrev pub range_making : ℤ → ℤ → Result Range Refusal
range_making lower upper = cond (int_le lower upper) (Ok (range lower upper)) (Err (Crossed 0))

-- the ends added
abbrev pub plus : Range → Range → Range
plus a b = range (a.lower +ℤ b.lower) (a.upper +ℤ b.upper)

-- each end minus the other range's opposite end
abbrev pub minus : Range → Range → Range
minus a b = range (a.lower -ℤ b.upper) (a.upper -ℤ b.lower)

-- from the smallest to the largest of four numbers
abbrev pub spanned : ℤ → ℤ → ℤ → ℤ → Range
spanned p q s t = range (int_min (int_min p q) (int_min s t)) (int_max (int_max p q) (int_max s t))

-- the smallest and the largest of the four products of ends
abbrev pub times : Range → Range → Range
times a b =
    range
    (int_min (int_min (a.lower *ℤ b.lower) (a.lower *ℤ b.upper)) (int_min (a.upper *ℤ b.lower) (a.upper *ℤ b.upper)))
    (int_max (int_max (a.lower *ℤ b.lower) (a.lower *ℤ b.upper)) (int_max (a.upper *ℤ b.lower) (a.upper *ℤ b.upper)))

-- f 1 + .. + f k
abbrev pub total : (ℕ → Range) → ℕ → Range
total f zero = only (pos 0)
total f (suc k) = plus (total f k) (f (suc k))

-- the two ranges have a number in common, and be it an end
abbrev pub meets : Range → Range → Bool
meets a b = cond (int_le a.lower b.upper) (int_le b.lower a.upper) false

-- `[lower, upper]`
abbrev pub range_text : Range → List ℕ
range_text r = codes "[" ++ (signed_decimal r.lower ++ (codes ", " ++ (signed_decimal r.upper ++ codes "]")))

-- An operation on ranges extends one on numbers: it holds every result of numbers in its ranges, and smaller ranges give a smaller one.
pub record IntervalExtension (op : ℤ → ℤ → ℤ) (wide : Range → Range → Range) : Type 0 where
  pub holds_every_result : (a b : Range) (p q : ℤ) → Inside p a → Inside q b → Inside (op p q) (wide a b)
  pub keeps_inclusion : (a b c d : Range) → Ordered a → Ordered b → a ⊆ c → b ⊆ d → wide a b ⊆ wide c d
