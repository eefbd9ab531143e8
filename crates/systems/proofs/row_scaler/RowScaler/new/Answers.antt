use Rattle.std.proofs.Common.{◌≡◌, None, vec_items, sym, ◌∙◌}
use Rattle.balance.proofs.Searches.{unrefused}
use Rattle.systems.specs.RowScalers.{factors_refusal}
use Rattle.systems.specs.RowScalersLemmas.{keeps_solutions}
use Rattle.systems.proofs.row_scaler.RowScaler.new.Goals as goal

pub returns-clause-keeps_the_solutions : goal.returns-clause-keeps_the_solutions
returns-clause-keeps_the_solutions g c =
    let m = g.S.System.meaning c.args.system in
    let fs = vec_items c.args.factors in
    let none : factors_refusal m.size fs ≡ None = (λ i. factors_refusal (sym c.size.ensures.is_the_size i) (sym c.deref.ensures.value i)) ∙ (unrefused _ tt tt (sym c.in_ok-system.ensures.kept_exactly_when_it_passed ∙ c.check_factors-checked.ensures)).0 in
    keeps_solutions m (g.met.S.System.lawful c.args.system) fs none
