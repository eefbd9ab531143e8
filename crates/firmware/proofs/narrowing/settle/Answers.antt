use Rattle.firmware.proofs.Standing.{settling_long}
use Rattle.firmware.proofs.narrowing.settle.Goals as goal

pub write_box-requires : goal.write_box-requires
write_box-requires c =
    let s = c.held.new.roast.system in
    settling_long s.size s.cells.now c.args.certificate.now c.args.ranges.now c.held.new.roast.bounds c.settle-answer.new.roast.bounds c.in_ok-held.ensures.holds_or_refuses c.settle-answer.result c.settle-answer.ensures
