use Rattle.std.proofs.Common.{◌≡◌, ◌-◌, None}
use Rattle.balance.specs.Places.{first, every, row_refusal}
use Rattle.balance.specs.Points.{numerator, fits}
use Rattle.balance.proofs.point.every_row_fits.Given as goal

abbrev pub invariant-loop-row : goal.invariant-loop-row
invariant-loop-row g l =
    let m = g.S.System.meaning l.system in
    (first (row_refusal m) (l.row - 1) ≡ None)
    × (l.all ≡ every (fits m (numerator l.point.numerators.now) l.point.denominator) (l.row - 1))
