use Rattle.std.proofs.Common.{◌≡◌, ◌-◌, None}
use Rattle.balance.specs.Ranges.{total}
use Rattle.balance.specs.Places.{first, refusal_at}
use Rattle.balance.specs.Points.{numerator}
use Rattle.balance.proofs.PointRows.{part}
use Rattle.balance.proofs.point.row_sum.Given as goal

abbrev pub invariant-loop-column : goal.invariant-loop-column
invariant-loop-column g l =
    let m = g.S.System.meaning l.system in
    (first (λ j. refusal_at (m.coefficient l.row j)) (l.column - 1) ≡ None)
    × (l.total ≡ total (part m (numerator l.point.numerators.now) l.row) (l.column - 1))
