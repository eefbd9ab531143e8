-- Quotients of ranges with the ends rounded outward, and the common part of two ranges.
use Rattle.std.specs.Prelude.{Bool, if◌then◌else◌, ◌↔◌, ℤ, pos, ◌*ℤ◌, neg_ℤ, ◌≤ℤ◌, ◌<ℤ◌, Some, None, Option, int_le, int_lt}
use Rattle.std.specs.Int.{int_min, int_max, int_div_euclid}
use Rattle.balance.specs.declared.range.Range.{Range}
use Rattle.balance.specs.Ranges.{range, contains, Ordered, Inside}

abbrev pub holds_zero : Range → Bool
holds_zero a = contains a (pos 0)

-- m / d rounded down, for d other than 0. (Euclid's quotient rounds down by a divisor above 0, and up by one below 0.)
abbrev pub floor : ℤ → ℤ → ℤ
floor m d = if int_lt (pos 0) d then int_div_euclid m d else neg_ℤ (int_div_euclid (neg_ℤ m) d)

-- m / d rounded up
abbrev pub ceiling : ℤ → ℤ → ℤ
ceiling m d = neg_ℤ (floor (neg_ℤ m) d)

-- the end of d by which m / d is lowest, and the one by which it is highest, for d above 0 and for d below 0 alike
abbrev pub lowering_end : ℤ → Range → ℤ
lowering_end m d = if int_le (pos 0) m then d.upper else d.lower

abbrev pub raising_end : ℤ → Range → ℤ
raising_end m d = if int_le (pos 0) m then d.lower else d.upper

-- by d above 0, and by d below 0, where the highest m makes the lowest quotient
abbrev pub quotient : Range → Range → Range
quotient m d =
    if int_lt (pos 0) d.lower
    then range (floor m.lower (lowering_end m.lower d)) (ceiling m.upper (raising_end m.upper d))
    else range (floor m.upper (lowering_end m.upper d)) (ceiling m.lower (raising_end m.lower d))

-- z ≤ n / a and n / a ≤ z, multiplied out by the sign of a
abbrev pub AtMost : ℤ → ℤ → ℤ → Type 0
AtMost z n a = (pos 0 <ℤ a → (z *ℤ a) ≤ℤ n) × (a <ℤ pos 0 → n ≤ℤ (z *ℤ a))

abbrev pub AtLeast : ℤ → ℤ → ℤ → Type 0
AtLeast z n a = (pos 0 <ℤ a → n ≤ℤ (z *ℤ a)) × (a <ℤ pos 0 → (z *ℤ a) ≤ℤ n)

-- The law of the rounded quotient, which everything above it rests on: a whole number is at most the lower end exactly if it is at
-- most every quotient, and at least the upper end exactly if it is at least every quotient.
pub record RoundedOutward (m d q : Range) : Type 0 where
  pub lower_end : (z : ℤ) → (z ≤ℤ q.lower) ↔ ((n a : ℤ) → Inside n m → Inside a d → AtMost z n a)
  pub upper_end : (z : ℤ) → (q.upper ≤ℤ z) ↔ ((n a : ℤ) → Inside n m → Inside a d → AtLeast z n a)

-- the numbers that two ranges have in common, or nothing
abbrev pub shared : Range → Range → Option Range
shared a b =
    if int_le (int_max a.lower b.lower) (int_min a.upper b.upper)
    then Some (range (int_max a.lower b.lower) (int_min a.upper b.upper))
    else None

-- the law of the common part
abbrev pub CommonPart : Range → Range → Option Range → Type 0
CommonPart a b (Some r) = Ordered r × ((p : ℤ) → Inside p r ↔ (Inside p a × Inside p b))
CommonPart a b None = (p : ℤ) → Inside p a → Inside p b → ⊥
