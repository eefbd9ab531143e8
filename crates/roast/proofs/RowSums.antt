-- The sum of a row term by term.
use Rattle.std.proofs.Common.{◌≡◌, ℕ, ◌+◌, ◌-◌, eqb, if◌then◌else◌, List, get_or, pos, sym, arith}
use Rattle.balance.specs.declared.range.Range.{Range}
use Rattle.balance.specs.Ranges.{only, times}
use Rattle.roast.specs.Matrices.{part}

pub part_at : (row nodes : List Range) (without j : ℕ) → (if eqb (j + 1) without then only (pos 0) else times (get_or row j (only (pos 0))) (get_or nodes j (only (pos 0)))) ≡ part row nodes without (j + 1)
part_at row nodes without j = let n : j + 1 - 1 ≡ j = omega arith in λ i. if eqb (j + 1) without then only (pos 0) else times (get_or row (sym n i) (only (pos 0))) (get_or nodes (sym n i) (only (pos 0)))
