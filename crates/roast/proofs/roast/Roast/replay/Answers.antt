use Rattle.std.proofs.Common.{map, ◌∙◌}
use Rattle.roast.specs.Narrowing.{narrowed}
use Rattle.roast.specs.Machine.{after}
use Rattle.roast.specs.Replays.{ask, replayed}
use Rattle.roast.proofs.Depends.{dependable}
use Rattle.roast.proofs.roast.Roast.replay.Goals as goal

pub returns-clause-replays_as_the_machine_and_is_dependable : goal.returns-clause-replays_as_the_machine_and_is_dependable
returns-clause-replays_as_the_machine_and_is_dependable g c =
    let s = c.args.self.now.system in
    let us = c.args.certificate.now in
    let cs = map ask c.args.entries.now in
    let e = c.in_ok-open.ensures in
    let p = c.play_all.ensures in
    record {
      opened = e.opens_when_certified;
      answers_and_records = p.answers ∙ (λ k. replayed (narrowed (g.S.System.meaning (e.keeps_the_system k))) (e.opens_the_first_box k) cs);
      box_after = p.leaves ∙ (λ k. after (narrowed (g.S.System.meaning (e.keeps_the_system k))) (e.opens_the_first_box k) cs);
      dependable = dependable (g.S.System.meaning s) us (g.met.S.System.lawful s) e.opens_when_certified;
    }
