use Rattle.std.proofs.Common.{◌≡◌, ◌+◌, Ok, Err, sym, ◌∙◌, arith, rules}
use Rattle.firmware.proofs.Taken.{read_next, read_all}
use Rattle.firmware.proofs.held.take.Goals as goal

pub returns-in_err-read-clause-takes_or_refuses : goal.returns-in_err-read-clause-takes_or_refuses
returns-in_err-read-clause-takes_or_refuses g c =
    let e = c.in_err-read.field-0.0 in
    let r : c.from_residual.result ≡ Err e = search rules in
    rw r (sym (read_next c.loop-i.roast.bounds c.read.new.roast.bounds (Err e) c.loop-i.i c.args.ranges.now (omega arith) c.in_err-read.ensures.answers_and_leaves) ∙ c.loop-i.invariant.left)

pub loop-i-preserved : goal.loop-i-preserved
loop-i-preserved g c = record {
  same_system = c.in_ok-read.ensures.keeps_the_system ∙ c.loop-i.invariant.same_system;
  left = sym (read_next c.loop-i.roast.bounds c.read.new.roast.bounds (Ok c.in_ok-read.field-0) c.loop-i.i c.args.ranges.now (omega arith) c.in_ok-read.ensures.answers_and_leaves) ∙ c.loop-i.invariant.left;
}

pub returns-clause-takes_or_refuses : goal.returns-clause-takes_or_refuses
returns-clause-takes_or_refuses g c = sym (read_all c.loop-i.roast.bounds (c.loop-i.i + 1) c.loop-i.i c.args.ranges.now (omega arith)) ∙ c.loop-i.invariant.left
