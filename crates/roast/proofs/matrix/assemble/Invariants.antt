use Rattle.std.proofs.Common.{◌≡◌, ◌-◌, None}
use Rattle.balance.specs.Places.{first, refusal_at, row_refusal}
use Rattle.roast.proofs.Matrices.{Filled}
use Rattle.roast.proofs.matrix.assemble.Given as goal

abbrev pub invariant-loop-row : goal.invariant-loop-row
invariant-loop-row g l =
    (first (row_refusal (g.S.System.meaning l.system)) (l.row - 1) ≡ None)
    × Filled (g.S.System.meaning l.system) l.coefficients l.sides l.row 1

abbrev pub invariant-loop-column : goal.invariant-loop-column
invariant-loop-column g l =
    (first (λ j. refusal_at ((g.S.System.meaning l.system).coefficient l.row j)) (l.column - 1) ≡ None)
    × Filled (g.S.System.meaning l.system) l.coefficients l.sides l.row l.column
