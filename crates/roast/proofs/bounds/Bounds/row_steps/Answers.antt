use Rattle.std.proofs.Common.{◌≡◌, ◌+◌, ◌-◌, length, Bool, sym, ap, ◌∙◌, arith}
use Rattle.std.proofs.lemmas.Result.{err_from_is_err_and}
use Rattle.roast.specs.Narrowing.{narrowed}
use Rattle.roast.specs.Machine.{Transition}
use Rattle.roast.specs.Assembled.{meant}
use Rattle.roast.proofs.Moves.{move_long, row_step_moves}
use Rattle.roast.proofs.Steps.{bool_byte≤1, steps_more, steps_refused}
use Rattle.roast.proofs.bounds.Bounds.row_steps.Goals as goal

pub returns-in_err-row_step : goal.returns-in_err-row_step
returns-in_err-row_step c =
    let f = narrowed (meant c.args.matrix.now) in
    let x = c.args.self.now in
    let i = c.loop-node.node in
    let v = c.loop-node.invariant in
    let r = err_from_is_err_and c.from_residual.result c.from_residual.ensures.1 in
    let s = steps_refused f x c.loop-node.self c.row_step.new.self i c.loop-node.changes c.in_err-row_step.field-0.0 (omega arith) (omega (arith, c.count-node-end.ensures)) v.made c.in_err-row_step.ensures in
    rw (r.1, r.2) (sym s)

pub loop-node-preserved : goal.loop-node-preserved
loop-node-preserved c =
    let f = narrowed (meant c.args.matrix.now) in
    let x = c.args.self.now in
    let i = c.loop-node.node in
    let v = c.loop-node.invariant in
    let a = c.in_ok-row_step.ensures in
    let s = steps_more f x c.loop-node.self c.row_step.new.self i c.loop-node.changes c.in_ok-row_step.field-0 (omega arith) v.made a in
    let e : i + 1 - 1 ≡ i = omega arith in
    record {
      made = rw (e, c.from.ensures) s;
      nodes = ap (λ (t : Transition Bool). length t.1) a ∙ move_long (row_step_moves f c.loop-node.self i) ∙ v.nodes;
      few = omega (arith, c.from.ensures, bool_byte≤1 c.in_ok-row_step.field-0, v.few);
    }
