use Rattle.std.proofs.Common.{◌≡◌, ◌==◌, ◌&&◌, not, sym, ◌∙◌, arith, rules}
use Rattle.std.specs.List.{list_any}
use Rattle.balance.specs.Meanings.{is_node}
use Rattle.systems.specs.Renumberings.{entry_allowed}
use Rattle.systems.specs.RenumberingsLemmas.{entry_allowed_is}
use Rattle.systems.proofs.renumbering.check_order.Goals as goal

pub returns : goal.returns
returns c =
    let n = c.args.size in
    let ps = c.args.order.now in
    c.check_entries.ensures.refuses_the_first_not_allowed (entry_allowed n ps) (λ k before entry r l b is p.
    let e : r ≡ (is_node n entry.now && not (list_any (λ q. q == entry.now) before.now)) = search rules in
    e ∙ (λ i. is_node n (is 0 i) && not (list_any (λ q. q == is 0 i) (b i))) ∙ sym (entry_allowed_is n ps k (omega arith)))
