-- The assembled matrix of a system: coefficients row after row, 32 cells apart, and right sides.
use Rattle.std.specs.Prelude.{◌≡◌, ℕ, ◌+◌, ◌-◌, ◌*◌, if◌then◌else◌, List, pos, None, ◌==◌, slice_index_or, slice_range}
use Rattle.balance.specs.declared.range.Range.{Range}
use Rattle.balance.specs.Ranges.{only, times}
use Rattle.balance.specs.Meanings.{Meaning, IsNode, told, coefficient_range, right_side_range}
use Rattle.balance.specs.Places.{first_refusal}
use Rattle.roast.specs.Narrowing.{Box, at}

-- the cell of row i and column j
abbrev pub entry : List Range → ℕ → ℕ → Range
entry cells i j = slice_index_or cells ((i - 1) * 32 + (j - 1)) (only (pos 0))

-- the n cells of row i
abbrev pub row_of : ℕ → List Range → ℕ → List Range
row_of n cells i = slice_range cells ((i - 1) * 32) ((i - 1) * 32 + n)

-- what column j adds to the sum of a row: coefficient × node, and [0, 0] for the column that is left out
abbrev pub part : List Range → Box → ℕ → ℕ → Range
part row box without j = if j == without then only (pos 0) else times (at row j) (at box j)

-- the cells of every place of a system, all of which answer
pub record Assembled (m : Meaning) (n : ℕ) (cells sides : List Range) : Type 0 where
  pub size : n ≡ m.size
  pub answers : first_refusal m ≡ None
  pub coefficients : (i j : ℕ) → IsNode m i → IsNode m j → entry cells i j ≡ coefficient_range m i j
  pub right_sides : (i : ℕ) → IsNode m i → at sides i ≡ right_side_range m i

-- what it means by itself: every place is told
abbrev pub told_by : ℕ → List Range → List Range → Meaning
told_by n cells sides = record {
  size = n;
  coefficient = λ i j. told (entry cells i j);
  right_side = λ i. told (at sides i);
}
