-- What each kind of cell tells.
use Rattle.std.specs.Prelude.{◌^◌, Bool, false, cond, ℤ, pos, ◌+ℤ◌, ◌-ℤ◌, neg_ℤ, Ok, Err, Result, int_le}
use Rattle.balance.specs.declared.range.Range.{Range}
use Rattle.balance.specs.declared.cell.Centred.{Centred}
use Rattle.balance.specs.declared.refusal.Refusal.{Refusal}
use Rattle.balance.specs.declared.refusal.Refusal.TheVariants.{Limit}
use Rattle.balance.specs.Ranges.{range, only}

-- a range tells its ends, and [0, 0] where they are crossed
abbrev pub range_ends : Range → Range
range_ends r = cond (int_le r.lower r.upper) r (only (pos 0))

-- the centre is within ±2^42, and the tolerance in 0 to 2^42
abbrev pub allowed : ℤ → ℤ → Bool
allowed centre tolerance =
    cond (int_le (neg_ℤ (pos (2 ^ 42))) centre)
    (cond (int_le centre (pos (2 ^ 42)))
    (cond (int_le (pos 0) tolerance) (int_le tolerance (pos (2 ^ 42))) false)
    false)
    false

-- what `Centred::new` answers
abbrev pub centred_making : ℤ → ℤ → Result Centred Refusal
centred_making centre tolerance = cond (allowed centre tolerance) (Ok (record { centre = centre; tolerance = tolerance })) (Err (Limit 0 0 0))

-- centre ± tolerance, and [0, 0] where one of them is not allowed
abbrev pub centred_ends : Centred → Range
centred_ends c = cond (allowed c.centre c.tolerance) (range (c.centre -ℤ c.tolerance) (c.centre +ℤ c.tolerance)) (only (pos 0))
