use Rattle.std.proofs.Common.{Bool, length, ap, ◌∙◌, arith}
use Rattle.roast.specs.Assembled.{meant}
use Rattle.roast.specs.Narrowing.{HasNode, narrowed}
use Rattle.roast.specs.Machine.{Transition}
use Rattle.roast.proofs.Meant.{row_step_held, still_held, common_part_held}
use Rattle.roast.proofs.Boxes.{row_shrinks}
use Rattle.roast.proofs.Moves.{move_keeps, row_step_moves}
use Rattle.roast.proofs.roast.Roast.row_step.Goals as goal

pub invariant_of-self : goal.invariant_of-self
invariant_of-self g c =
    let s = c.args.self.now in
    let moves = row_step_moves (narrowed (meant s.matrix)) s.bounds c.args.node in
    let kept = move_keeps (row_shrinks (meant s.matrix)) s.few s.narrow moves (ap (λ (t : Transition Bool). t.1) c.row_step.ensures) in
    record { held = still_held (g.S.System.meaning s.system) s.matrix (length s.bounds) (length c.row_step.new.self) kept.0 s.held; few = kept.1; narrow = kept.2 }

pub returns-clause-answers_and_leaves : goal.returns-clause-answers_and_leaves
returns-clause-answers_and_leaves g c =
    let s = c.args.self.now in
    let n = c.in_ok-check_node.ensures.passes_nodes in
    let has : HasNode s.bounds c.args.node = (n.0, omega (arith, n.1, c.count.ensures)) in
    c.row_step.ensures ∙ row_step_held (g.S.System.meaning s.system) s.matrix s.bounds s.held c.args.node has

pub returns-clause-keeps_the_common_part : goal.returns-clause-keeps_the_common_part
returns-clause-keeps_the_common_part g c has =
    let s = c.args.self.now in
    common_part_held (g.S.System.meaning s.system) s.matrix s.bounds s.held c.args.node has (g.met.S.System.lawful s.system)
