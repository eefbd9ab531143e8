use Rattle.firmware.proofs.Standing.{row_step_long}
use Rattle.firmware.proofs.narrowing.row_step.Goals as goal

pub write_box-requires : goal.write_box-requires
write_box-requires c =
    let s = c.held.new.roast.system in
    row_step_long s.size s.cells.now c.args.certificate.now c.args.ranges.now c.held.new.roast.bounds c.row_step-answer.new.self.bounds c.in_ok-held.ensures.holds_or_refuses c.args.node c.row_step-answer.result c.row_step-answer.ensures.answers_and_leaves
