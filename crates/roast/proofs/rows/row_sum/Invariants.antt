use Rattle.std.proofs.Common.{◌≡◌, ◌*◌, ◌^◌}
use Rattle.balance.specs.Ranges.{Between, total}
use Rattle.roast.specs.Matrices.{part}
use Rattle.roast.proofs.rows.row_sum.Given as goal

abbrev pub invariant-loop-j : goal.invariant-loop-j
invariant-loop-j l =
    (l.total ≡ total (part l.row l.nodes l.without) l.j)
    × Between (l.j * 2 ^ 57) l.total
