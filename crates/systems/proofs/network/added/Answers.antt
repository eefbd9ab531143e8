use Rattle.std.proofs.Common.{◌^◌, sym, subst}
use Rattle.balance.specs.Ranges.{Between}
use Rattle.systems.specs.NetworksLemmas.{Taken, link_small, outside_small, outside_product_fits, amount_small}
use Rattle.systems.proofs.network.added.Goals as goal

pub returns-in_err-product-in-Outside : goal.returns-in_err-product-in-Outside
returns-in_err-product-in-Outside c =
    let taken = subst Taken c.in-Outside.is (record { in_order = c.requires.in_order; within_limits = c.requires.within_limits }) in
    absurd (c.in_err-product-in-Outside.ensures.is_the_product_where_it_fits (outside_product_fits c.in-Outside.node c.in-Outside.conductance c.in-Outside.temperature taken))

pub sum_of-requires-clause-small : goal.sum_of-requires-clause-small
sum_of-requires-clause-small c =
    let taken = subst Taken c.in-Link.is (record { in_order = c.requires.in_order; within_limits = c.requires.within_limits }) in
    let g = link_small c.in-Link.first c.in-Link.second c.in-Link.conductance taken in
    let e = c.in_ok-negated-in-Link.ensures.is_the_difference_where_it_fits.1 in
    let negated = subst (Between (2 ^ 50)) (sym e) g.1 in
    (amount_small c.new.ensures g.0, (amount_small c.new-in-Link.ensures g.0, (amount_small c.new-in-Link-2.ensures negated, (amount_small c.new-in-Link-3.ensures negated, tt))))

pub sum_of-requires-in-Outside-clause-small : goal.sum_of-requires-in-Outside-clause-small
sum_of-requires-in-Outside-clause-small c =
    let taken = subst Taken c.in-Outside.is (record { in_order = c.requires.in_order; within_limits = c.requires.within_limits }) in
    let g = outside_small c.in-Outside.node c.in-Outside.conductance c.in-Outside.temperature taken in
    let e = c.in_ok-product-in-Outside.ensures.is_the_product_where_it_fits.1 in
    (amount_small c.new-in-Outside.ensures g.0, (amount_small c.new-in-Outside-2.ensures (subst (Between (2 ^ 50)) (sym e) g.1), tt))
