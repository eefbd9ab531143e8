use Rattle.std.proofs.Common.{◌+◌, ◌*◌, ◌^◌, drop, sym, ap, ◌∙◌, subst, arith}
use Rattle.balance.specs.declared.range.Range.{Range}
use Rattle.balance.specs.Ranges.{Between, Fits64, plus}
use Rattle.systems.specs.Networks.{sum_at}
use Rattle.systems.specs.NetworksLemmas.{amounts_between, amounts_fit, amounts_more}
use Rattle.systems.proofs.network.sum_of.Goals as goal

pub returns-in_err-sum : goal.returns-in_err-sum
returns-in_err-sum c =
    let f = amounts_fit c.args.row c.args.column c.args.terms.now c.requires.small c.requires.few c.loop-addition.addition-index c.loop-addition.sum (omega arith) c.loop-addition.invariant.keeps_the_limit in
    absurd (c.in_err-sum.ensures.is_the_sum_where_it_fits (subst (λ (a : Range). Fits64 (plus c.loop-addition.sum a)) (sym c.amount_at.ensures) f))

pub loop-addition-preserved : goal.loop-addition-preserved
loop-addition-preserved c =
    let i = c.args.row in
    let j = c.args.column in
    let xs = c.args.terms.now in
    let k = c.loop-addition.addition-index in
    let e = c.in_ok-sum.ensures.is_the_sum_where_it_fits.1 ∙ ap (plus c.loop-addition.sum) c.amount_at.ensures in record {
      what_is_left = ap (λ (s : Range). plus s (sum_at i j (drop (k + 1) xs))) e ∙ amounts_more i j xs c.requires.small c.requires.few k c.loop-addition.sum (omega arith) c.loop-addition.invariant.what_is_left;
      keeps_the_limit = subst (Between ((k + 1) * 2 ^ 50)) (sym e) (amounts_between i j xs c.requires.small c.requires.few k c.loop-addition.sum c.loop-addition.invariant.keeps_the_limit);
    }
