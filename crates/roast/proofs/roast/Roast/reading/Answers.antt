use Rattle.std.proofs.Common.{Bool, w64, to_z, of_z, length, ap}
use Rattle.balance.specs.Ranges.{range}
use Rattle.roast.specs.Assembled.{meant}
use Rattle.roast.specs.Narrowing.{at, narrowed}
use Rattle.roast.specs.Machine.{Transition}
use Rattle.roast.proofs.Meant.{still_held}
use Rattle.roast.proofs.Boxes.{row_shrinks}
use Rattle.roast.proofs.Moves.{move_keeps, reading_moves}
use Rattle.roast.proofs.Quotients.{shared_common}
use Rattle.roast.proofs.roast.Roast.reading.Goals as goal

pub invariant_of-self : goal.invariant_of-self
invariant_of-self g c =
    let s = c.args.self.now in
    let moves = reading_moves (narrowed (meant s.matrix)) s.bounds c.args.node (to_z w64 (of_z w64 c.args.lower)) (to_z w64 (of_z w64 c.args.upper)) in
    let kept = move_keeps (row_shrinks (meant s.matrix)) s.few s.narrow moves (ap (λ (t : Transition Bool). t.1) c.reading.ensures) in
    record { held = still_held (g.S.System.meaning s.system) s.matrix (length s.bounds) (length c.reading.new.self) kept.0 s.held; few = kept.1; narrow = kept.2 }

pub returns-clause-keeps_the_common_part : goal.returns-clause-keeps_the_common_part
returns-clause-keeps_the_common_part g c = shared_common (at c.args.self.now.bounds c.args.node) (range c.args.lower c.args.upper)
