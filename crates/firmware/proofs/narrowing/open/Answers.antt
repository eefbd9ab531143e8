use Rattle.firmware.proofs.Standing.{opened_long}
use Rattle.firmware.proofs.narrowing.open.Goals as goal

pub write_box-requires : goal.write_box-requires
write_box-requires c =
    let s = c.new-roast.result.system in
    opened_long s.size s.cells.now c.args.certificate.now c.args.ranges.now c.new-roast.result.bounds c.opened-answer.new.roast.bounds c.opened-answer.result c.opened-answer.ensures.answers_and_leaves
