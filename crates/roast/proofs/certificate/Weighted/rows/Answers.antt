use Rattle.std.proofs.Common.{Ok, ◌+◌, ◌-◌, sym, ap, ◌∙◌, arith, rules}
use Rattle.std.proofs.lemmas.Result.{err_from_is_err_and}
use Rattle.roast.proofs.Certified.{sets, stops}
use Rattle.roast.specs.Assembled.{meant}
use Rattle.roast.proofs.certificate.Weighted.rows.Goals as goal

pub returns-in_err-rows : goal.returns-in_err-rows
returns-in_err-rows c =
    let w = c.args.self.now in
    let m = meant w.matrix.now in
    let count = w.counted in
    let r = err_from_is_err_and c.from_residual.result c.from_residual.ensures.1 in
    let e = stops _ _ _ _ (omega arith) c.loop-node.invariant.1 m.size c.in_err-rows.field-0.0 (omega arith) (sym c.in_err-rows.was ∙ c.row.ensures) in
    rw (r.1, r.2, e) (search rules)

pub loop-node-preserved : goal.loop-node-preserved
loop-node-preserved c =
    let w = c.args.self.now in
    let few = w.matrix.now.few in
    let count = w.counted in
    let long = c.loop-node.invariant.0 in
    (search rules, sets _ _ c.loop-node.rows c.loop-node.node (c.loop-node.node + 1 - 1) c.in_ok-rows.field-0 (omega arith) (omega arith) (omega arith) c.loop-node.invariant.1 (sym c.in_ok-rows.was ∙ c.row.ensures))

pub returns-in_ok-rows : goal.returns-in_ok-rows
returns-in_ok-rows c =
    let w = c.args.self.now in
    let m = meant w.matrix.now in
    let few = w.matrix.now.few in
    let count = w.counted in
    let long = c.loop-node.invariant.0 in
    let done = sets _ _ c.loop-node.rows c.loop-node.node m.size c.in_ok-rows.field-0 (omega arith) (omega arith) (omega arith) c.loop-node.invariant.1 (sym c.in_ok-rows.was ∙ c.row.ensures) in
    rw done.answered (ap Ok done.items)
