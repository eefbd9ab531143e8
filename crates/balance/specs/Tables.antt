-- A table of ranges, row after row, the right side last in each row.
use Rattle.std.specs.Prelude.{◌≡◌, ℕ, ◌+◌, ◌-◌, ◌*◌, ◌^◌, ◌≤◌, List, pos, slice_index_or}
use Rattle.balance.specs.declared.range.Range.{Range}
use Rattle.balance.specs.Ranges.{only}
use Rattle.balance.specs.Meanings.{Meaning, limited}

-- the cell of row i and column j; column n + 1 is the right side
abbrev pub cell : ℕ → List Range → ℕ → ℕ → Range
cell n cells i j = slice_index_or cells ((i - 1) * (n + 1) + (j - 1)) (only (pos 0))

-- part 1: a cell beyond the limits is refused at its row and column
abbrev pub table : ℕ → List Range → Meaning
table n cells = record {
  size = n;
  coefficient = λ i j. limited (2 ^ 20) 1 i j (cell n cells i j);
  right_side = λ i. limited (2 ^ 42) 1 i (n + 1) (cell n cells i (n + 1));
}

-- 1 to 32 nodes, and n × (n + 1) cells
abbrev pub Counted : ℕ → ℕ → Type 0
Counted n count = (1 ≤ n) × (n ≤ 32) × (count ≡ n * (n + 1))
