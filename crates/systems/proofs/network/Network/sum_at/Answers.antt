use Rattle.std.proofs.Common.{◌≡◌, ◌+◌, ◌*◌, ◌^◌, ◌<◌, List, length, Some, vec_items, sym, ap, ◌∙◌, subst, arith}
use Rattle.balance.specs.declared.range.Range.{Range}
use Rattle.balance.specs.Ranges.{Between}
use Rattle.systems.specs.declared.record.Record.{Record}
use Rattle.systems.specs.Networks.{additions, sum_at}
use Rattle.systems.specs.NetworksLemmas.{Taken, read, accepted, record_sums_between, record_sums_fit, record_sums_more}
use Rattle.systems.proofs.network.Network.sum_at.Goals as goal

added_is : {a b : Range} → Some a ≡ Some b → a ≡ b
added_is h = cc

pub added-requires : goal.added-requires
added-requires c =
    let t = c.args.self.now in
    let k = c.loop-record.record-index in
    let ok = accepted t.size (vec_items t.records) t.taken in
    let v = c.deref-record-items.ensures.value in
    let r = subst (λ (xs : List Record). Taken (read xs k)) (sym v) (ok.taken k (omega (arith, t.records.ok.0))) in
    record { in_order = r.in_order; within_limits = r.within_limits; few_nodes = ok.few }

pub returns-in_err-sum : goal.returns-in_err-sum
returns-in_err-sum c =
    let t = c.args.self.now in
    let rs = vec_items t.records in
    let k = c.loop-record.record-index in
    let a = added_is c.in_ok-added.ensures ∙ ap (λ (xs : List Record). sum_at c.args.row c.args.column (additions t.size (read xs k))) c.deref-record-items.ensures.value in
    absurd (c.in_err-sum.ensures.is_the_sum_where_it_fits (record_sums_fit t.size rs (accepted t.size rs t.taken) c.args.row c.args.column k c.loop-record.sum c.in_ok-added.field-0 a (omega (arith, t.records.ok.0)) c.loop-record.invariant.keeps_the_limit))

pub loop-record-preserved : goal.loop-record-preserved
loop-record-preserved c =
    let t = c.args.self.now in
    let rs = vec_items t.records in
    let k = c.loop-record.record-index in
    let ok = accepted t.size rs t.taken in
    let a = added_is c.in_ok-added.ensures ∙ ap (λ (xs : List Record). sum_at c.args.row c.args.column (additions t.size (read xs k))) c.deref-record-items.ensures.value in
    let l : k < length rs = omega (arith, t.records.ok.0) in
    let e = c.in_ok-sum.ensures.is_the_sum_where_it_fits.1 in record {
      sum_so_far = record_sums_more t.size rs ok c.args.row c.args.column k c.loop-record.sum c.in_ok-added.field-0 a l c.loop-record.invariant.keeps_the_limit c.loop-record.invariant.sum_so_far ∙ sym e;
      keeps_the_limit = subst (Between ((k + 1) * 2 ^ 52)) (sym e) (record_sums_between t.size rs ok c.args.row c.args.column k c.loop-record.sum c.in_ok-added.field-0 a l c.loop-record.invariant.keeps_the_limit);
    }
