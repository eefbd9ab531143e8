use Rattle.std.proofs.Common.{ℕ, length, ap, ◌∙◌}
use Rattle.roast.specs.Assembled.{meant}
use Rattle.roast.specs.Narrowing.{narrowed}
use Rattle.roast.specs.Machine.{Transition}
use Rattle.roast.proofs.Meant.{round_held, still_held}
use Rattle.roast.proofs.Boxes.{row_shrinks}
use Rattle.roast.proofs.Moves.{move_keeps, round_moves}
use Rattle.roast.proofs.roast.Roast.round.Goals as goal

pub invariant_of-self : goal.invariant_of-self
invariant_of-self g c =
    let s = c.args.self.now in
    let moves = round_moves (narrowed (meant s.matrix)) s.bounds in
    let kept = move_keeps (row_shrinks (meant s.matrix)) s.few s.narrow moves (ap (λ (t : Transition ℕ). t.1) c.round.ensures) in
    record { held = still_held (g.S.System.meaning s.system) s.matrix (length s.bounds) (length c.round.new.self) kept.0 s.held; few = kept.1; narrow = kept.2 }

pub returns-clause-answers_and_leaves : goal.returns-clause-answers_and_leaves
returns-clause-answers_and_leaves g c = let s = c.args.self.now in c.round.ensures ∙ round_held (g.S.System.meaning s.system) s.matrix s.bounds s.held
