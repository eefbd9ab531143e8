-- What a row of a system leaves of its node's range.
use Rattle.std.specs.Prelude.{ℕ, ◌-◌, ◌&&◌, Bool, not, if◌then◌else◌, List, length, pos, None, Option, is_none, ◌==◌, slice_index_or}
use Rattle.balance.specs.declared.range.Range.{Range}
use Rattle.balance.specs.Ranges.{only, minus, times, total}
use Rattle.balance.specs.Meanings.{Meaning, Among, coefficient_range, right_side_range}
use Rattle.balance.specs.Places.{row_refusal}
use Rattle.roast.specs.Rounding.{holds_zero, quotient, shared}

-- a range for each node, node 1 first
abbrev pub Box : Type 0
Box = List Range

-- node i's range
abbrev pub at : Box → ℕ → Range
at box i = slice_index_or box (i - 1) (only (pos 0))

-- i is one of the nodes of the box
abbrev pub HasNode : Box → ℕ → Type 0
HasNode box i = Among (length box) i

-- a contractor says what a node keeps of its range in a box, or that it keeps nothing
abbrev pub Contractor : Type 0
Contractor = Box → ℕ → Option Range

-- the box has a range for each node of the system, and every place of row i answers
abbrev pub row_answers : Meaning → Box → ℕ → Bool
row_answers m box i = length box == m.size && is_none (row_refusal m i)

-- A_ij × x_j, and nothing for the diagonal
abbrev pub term : Meaning → Box → ℕ → ℕ → Range
term m box i j = if j == i then only (pos 0) else times (coefficient_range m i j) (at box j)

-- b_i minus the sum over j ≠ i of A_ij × x_j
abbrev pub numerator : Meaning → Box → ℕ → Range
numerator m box i = minus (right_side_range m i) (total (term m box i) m.size)

-- the contractor of a system: what old range and rounded quotient share, and nothing where a place is refused or the diagonal holds 0
abbrev pub narrowed : Meaning → Contractor
narrowed m box i =
    if row_answers m box i && not (holds_zero (coefficient_range m i i))
    then shared (at box i) (quotient (numerator m box i) (coefficient_range m i i))
    else None
