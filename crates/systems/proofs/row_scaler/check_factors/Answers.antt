use Rattle.std.proofs.Common.{◌≡◌, pos, ap, sym, ◌∙◌, rules}
use Rattle.systems.specs.RowScalers.{factor_allowed, factor_at}
use Rattle.balance.proofs.Entries.{from_one}
use Rattle.systems.proofs.row_scaler.check_factors.Goals as goal

pub returns : goal.returns
returns c = c.check_entries.ensures.refuses_the_first_not_allowed (λ k. factor_allowed (factor_at c.args.factors.now k)) (λ k before entry r l b is p.
    let e : r ≡ factor_allowed entry.now = search rules in
    e ∙ ap factor_allowed (is (pos 0) ∙ sym (from_one c.args.factors.now k (pos 0))))
