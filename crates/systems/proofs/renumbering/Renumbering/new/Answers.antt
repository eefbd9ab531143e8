use Rattle.std.proofs.Common.{◌≡◌, Some, None, vec_items, sym, ◌∙◌}
use Rattle.std.proofs.lemmas.Result.{err_from_is_err_and}
use Rattle.balance.proofs.Searches.{unrefused, refused_by}
use Rattle.systems.specs.Renumberings.{order_refusal}
use Rattle.systems.specs.RenumberingsLemmas.{permutes, permutation_taken, renumbers_solutions}
use Rattle.systems.proofs.renumbering.Renumbering.new.Goals as goal

pub returns-in_err-system-clause-made_exactly_for_a_permutation : goal.returns-in_err-system-clause-made_exactly_for_a_permutation
returns-in_err-system-clause-made_exactly_for_a_permutation g c =
    let n = (g.S.System.meaning c.args.system).size in
    let ps = vec_items c.args.order in
    let given : order_refusal n ps ≡ order_refusal c.size.result c.deref.result.now = λ i. order_refusal (sym c.size.ensures.is_the_size i) (sym c.deref.ensures.value i) in
    let e : order_refusal n ps ≡ Some c.in_err-system.field-0.0.refusal = given ∙ refused_by _ _ tt (sym c.in_err-system.ensures.kept_exactly_when_it_passed ∙ c.check_order-checked.ensures) in
    let r = err_from_is_err_and c.from_residual.result c.from_residual.ensures.1 in
    rw r.1 (λ p. let none = permutation_taken n ps p in cc)

taken : (g : _) (c : goal.After-result-1 g) → order_refusal (g.S.System.meaning c.args.system).size (vec_items c.args.order) ≡ None
taken g c = (λ i. order_refusal (sym c.size.ensures.is_the_size i) (sym c.deref.ensures.value i)) ∙ (unrefused _ tt tt (sym c.in_ok-system.ensures.kept_exactly_when_it_passed ∙ c.check_order-checked.ensures)).0

pub returns-clause-made_exactly_for_a_permutation : goal.returns-clause-made_exactly_for_a_permutation
returns-clause-made_exactly_for_a_permutation g c = permutes _ _ (taken g c)

pub returns-clause-renumbers_the_solutions : goal.returns-clause-renumbers_the_solutions
returns-clause-renumbers_the_solutions g c =
    let p = permutes _ _ (taken g c) in
    renumbers_solutions (g.S.System.meaning c.args.system) (g.met.S.System.lawful c.args.system) (vec_items c.args.order) p.0 p.1
