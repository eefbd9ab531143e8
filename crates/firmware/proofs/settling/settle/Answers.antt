use Rattle.std.proofs.Common.{◌≡◌, suc, ◌+◌, ◌-◌, true, Ok, Err, sym, ap, subst, ◌∙◌, arith, rules}
use Rattle.roast.specs.Narrowing.{narrowed}
use Rattle.roast.specs.Machine.{round, at_rest}
use Rattle.file_box.specs.Findings.{settled}
use Rattle.file_box.proofs.Rounds.{round_more, round_still, round_refused, no_round}
use Rattle.firmware.specs.Drums.{rested}
use Rattle.firmware.proofs.Rests.{still, settled_now}
use Rattle.firmware.proofs.settling.settle.Goals as goal

pub returns-in_err-round : goal.returns-in_err-round
returns-in_err-round g c =
    let f = narrowed (g.S.System.meaning c.args.roast.now.system) in
    let box = c.loop.roast.bounds in
    let next = c.round.new.self.bounds in
    let e = c.in_err-round.field-0.0 in
    let a = subst (λ s. (Err e, next) ≡ round (narrowed (g.S.System.meaning s)) box) c.loop.invariant.same_system c.in_err-round.ensures.answers_and_leaves in
    let k : 64 - c.loop.counter ≡ suc (63 - c.loop.counter) = omega arith in
    let r : c.from_residual.result ≡ Err e = search rules in
    rw r (ap (λ o. (rested f c.args.roast.now.bounds o).0) (sym (sym c.loop.invariant.left ∙ (ap (settled f box) k ∙ round_refused f box next (63 - c.loop.counter) e a))))

pub loop-preserved : goal.loop-preserved
loop-preserved g c =
    let f = narrowed (g.S.System.meaning c.args.roast.now.system) in
    let box = c.loop.roast.bounds in
    let next = c.round.new.self.bounds in
    let n = c.in_ok-round.field-0 in
    let a = subst (λ s. (Ok n, next) ≡ round (narrowed (g.S.System.meaning s)) box) c.loop.invariant.same_system c.in_ok-round.ensures.answers_and_leaves in
    let k : 64 - c.loop.counter ≡ suc (64 - (c.loop.counter + 1)) = omega arith in
    record {
      same_system = c.in_ok-round.ensures.keeps_the_system ∙ c.loop.invariant.same_system;
      left = sym (ap (settled f box) k ∙ round_more f box next (64 - (c.loop.counter + 1)) n a c.if-branch-eq0.false) ∙ c.loop.invariant.left;
    }

pub returns-then-branch-eq0 : goal.returns-then-branch-eq0
returns-then-branch-eq0 g c =
    let f = narrowed (g.S.System.meaning c.args.roast.now.system) in
    let box = c.loop.roast.bounds in
    let next = c.round.new.self.bounds in
    let n = c.in_ok-round.field-0 in
    let a = subst (λ s. (Ok n, next) ≡ round (narrowed (g.S.System.meaning s)) box) c.loop.invariant.same_system c.in_ok-round.ensures.answers_and_leaves in
    let k : 64 - c.loop.counter ≡ suc (63 - c.loop.counter) = omega arith in
    let rests = still f box next (subst (λ n. (Ok n, next) ≡ round f box) c.if-branch-eq0.true a) in
    settled_now f c.args.roast.now.bounds next true (sym c.loop.invariant.left ∙ (ap (settled f box) k ∙ round_still f box next (63 - c.loop.counter) n a c.if-branch-eq0.true)) (sym rests)

pub returns : goal.returns
returns g c =
    let f = narrowed (g.S.System.meaning c.args.roast.now.system) in
    let box = c.loop.roast.bounds in
    let k : 64 - c.loop.counter ≡ 0 = omega arith in
    let rests = subst (λ s. c.at_rest.result ≡ at_rest (narrowed (g.S.System.meaning s)) box) c.loop.invariant.same_system c.at_rest.ensures.answers in
    settled_now f c.args.roast.now.bounds box c.at_rest.result (sym c.loop.invariant.left ∙ (ap (settled f box) k ∙ no_round f box)) rests
