use Rattle.std.proofs.Common.{vec_items, ap, ◌∙◌, arith}
use Rattle.balance.specs.Meanings.{right_side_answer}
use Rattle.systems.specs.RenumberingsLemmas.{right_side_passed}
use Rattle.systems.proofs.renumbering.RenumberingSystem.right_side.Goals as goal

pub returns : goal.returns
returns g c =
    let l = c.args.self.now in
    let m = g.S.System.meaning l.system in
    record { answers_by_the_meaning = c.right_side.ensures.answers_by_the_meaning ∙ ap (right_side_answer m) c.below.ensures ∙ right_side_passed (vec_items l.order) m l.taken c.args.row (omega (arith, c.in_ok-check_node.ensures.passes_nodes)) }
