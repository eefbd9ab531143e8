use Rattle.firmware.proofs.Standing.{round_long}
use Rattle.firmware.proofs.narrowing.round.Goals as goal

pub write_box-requires : goal.write_box-requires
write_box-requires c =
    let s = c.held.new.roast.system in
    round_long s.size s.cells.now c.args.certificate.now c.args.ranges.now c.held.new.roast.bounds c.round-answer.new.self.bounds c.in_ok-held.ensures.holds_or_refuses c.round-answer.result c.round-answer.ensures.answers_and_leaves
