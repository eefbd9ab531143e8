use Rattle.firmware.proofs.Standing.{reading_long}
use Rattle.firmware.proofs.narrowing.reading.Goals as goal

pub write_box-requires : goal.write_box-requires
write_box-requires c =
    let s = c.held.new.roast.system in
    reading_long s.size s.cells.now c.args.certificate.now c.args.ranges.now c.held.new.roast.bounds c.read-answer.new.roast.bounds c.in_ok-held.ensures.holds_or_refuses c.args.node c.args.reading.lower c.args.reading.upper c.read-answer.result c.read-answer.ensures.answers_and_leaves
