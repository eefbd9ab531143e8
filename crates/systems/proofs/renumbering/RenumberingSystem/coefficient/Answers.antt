use Rattle.std.proofs.Common.{vec_items, ◌∙◌, arith}
use Rattle.balance.specs.Meanings.{coefficient_answer}
use Rattle.systems.specs.RenumberingsLemmas.{coefficient_passed}
use Rattle.systems.proofs.renumbering.RenumberingSystem.coefficient.Goals as goal

pub returns : goal.returns
returns g c =
    let l = c.args.self.now in
    let m = g.S.System.meaning l.system in
    record { answers_by_the_meaning = c.coefficient.ensures.answers_by_the_meaning ∙ (λ i. coefficient_answer m (c.below.ensures i) (c.below-2.ensures i)) ∙ coefficient_passed (vec_items l.order) m l.taken c.args.row c.args.column (omega (arith, c.in_ok-check_place.ensures.passes_rows)) (omega (arith, c.in_ok-check_place.ensures.passes_columns)) }
