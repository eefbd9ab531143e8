use Rattle.std.proofs.Common.{List, length, ap}
use Rattle.roast.specs.declared.call.Reading.{Reading}
use Rattle.roast.specs.Assembled.{meant}
use Rattle.roast.specs.Narrowing.{Box, narrowed}
use Rattle.roast.proofs.Meant.{still_held}
use Rattle.roast.proofs.Boxes.{row_shrinks}
use Rattle.roast.proofs.Moves.{move_keeps, readings_move}
use Rattle.roast.proofs.roast.Roast.readings.Goals as goal

pub invariant_of-self : goal.invariant_of-self
invariant_of-self g c =
    let s = c.args.self.now in
    let moves = readings_move (narrowed (meant s.matrix)) s.bounds c.args.list.now in
    let kept = move_keeps (row_shrinks (meant s.matrix)) s.few s.narrow moves (ap (λ (t : List Reading × Box). t.1) c.readings.ensures) in
    record { held = still_held (g.S.System.meaning s.system) s.matrix (length s.bounds) (length c.readings.new.self) kept.0 s.held; few = kept.1; narrow = kept.2 }
