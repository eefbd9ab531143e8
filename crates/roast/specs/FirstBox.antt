-- How the first box is made: a row is measured or refused, then a node's range is taken from all rows or refused.
use Rattle.std.specs.Prelude.{ℕ, ◌*◌, ◌^◌, ◌≤◌, max, List, [], ◌∷◌, map, ℤ, Ok, Result, fold, unsigned_abs}
use Rattle.balance.specs.declared.range.Range.{Range}
use Rattle.balance.specs.declared.refusal.Refusal.{Refusal}
use Rattle.balance.specs.Meanings.{Meaning, right_side_range}
use Rattle.balance.specs.Places.{first, first_of, unless_refused}
use Rattle.roast.specs.declared.certificate.Row.{Row}
use Rattle.roast.specs.Certificates.{magnitude, v, rounded_up, listed, first_range, first_box, dominance_refusal, wide_refusal}

-- narrow enough for a product with a number of 64 bits, and a margin to divide by
abbrev pub Narrow : Row → Type 0
Narrow r = (r.side ≤ 2 ^ 42) × (1 ≤ r.margin)

-- |b_i| and v_i
abbrev pub row : Meaning → List ℤ → ℕ → Row
row m us i = record { side = magnitude (right_side_range m i); margin = unsigned_abs (v m us i) }

-- row i, where its diagonal dominates it
abbrev pub row_made : Meaning → List ℤ → ℕ → Result Row Refusal
row_made m us i = unless_refused (dominance_refusal m us i) (Ok (row m us i))

-- all rows, or the first refusal
abbrev pub rows_made : Meaning → List ℤ → Result (List Row) Refusal
rows_made m us = unless_refused (first (dominance_refusal m us) m.size) (Ok (listed (row m us) m.size))

-- node i's range, where it is not too wide
abbrev pub range_made : Meaning → List ℤ → ℕ → Result Range Refusal
range_made m us i = unless_refused (wide_refusal m us i) (Ok (first_range m us i))

-- the first box, or the first refusal
abbrev pub box_made : Meaning → List ℤ → Result (List Range) Refusal
box_made m us =
    unless_refused
    (first_of (first (dominance_refusal m us) m.size ∷ first (wide_refusal m us) m.size ∷ []))
    (Ok (first_box m us))

-- the largest number × side / margin of a list of rows, rounded up
abbrev pub largest_end : ℕ → List Row → ℕ
largest_end number rows = fold max 0 (map (λ row. rounded_up (number * row.side) row.margin) rows)
