-- How the product of two ranges is made from two products of ends, where the first range lies on one side of 0. Nothing here has to be believed.
use Rattle.std.specs.Prelude.{cond, ℤ, pos, ◌*ℤ◌, int_le}
use Rattle.std.specs.Int.{int_min, int_max}
use Rattle.balance.specs.declared.range.Range.{Range}
use Rattle.balance.specs.Ranges.{range}

-- an end times the first of two numbers where it is not below 0, and else the second
abbrev pub scaled : ℤ → ℤ → ℤ → ℤ
scaled end above below = cond (int_le (pos 0) end) above below *ℤ end

-- a is not below 0
abbrev pub times_above : Range → Range → Range
times_above a x = range (scaled x.lower a.lower a.upper) (scaled x.upper a.upper a.lower)

-- a is not above 0
abbrev pub times_below : Range → Range → Range
times_below a x = range (scaled x.upper a.lower a.upper) (scaled x.lower a.upper a.lower)

-- a holds 0
abbrev pub times_across : Range → Range → Range
times_across a x =
    range
    (int_min (a.lower *ℤ x.upper) (a.upper *ℤ x.lower))
    (int_max (a.lower *ℤ x.lower) (a.upper *ℤ x.upper))
