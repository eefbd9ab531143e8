use Rattle.firmware.specs.Replies.{yes_or_no}
use Rattle.firmware.proofs.Calls.{row_step_kept}
use Rattle.firmware.proofs.exports.heat_row_step.Goals as goal

pub returns-clause-keeps_every_solution : goal.returns-clause-keeps_every_solution
returns-clause-keeps_every_solution c s x solves h = (row_step_kept c.args.size c.args.cells.now c.args.certificate.now c.args.ranges.now c.args.node c.row_step.result c.row_step.new.ranges c.row_step.ensures).solutions s x solves h (λ b among. elim among [ ])

pub returns-clause-the_next_call_goes_on_from_what_is_written : goal.returns-clause-the_next_call_goes_on_from_what_is_written
returns-clause-the_next_call_goes_on_from_what_is_written c = (row_step_kept c.args.size c.args.cells.now c.args.certificate.now c.args.ranges.now c.args.node c.row_step.result c.row_step.new.ranges c.row_step.ensures).goes_on yes_or_no c.from.result c.from.ensures
