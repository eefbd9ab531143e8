use Rattle.firmware.specs.Replies.{yes_or_no}
use Rattle.firmware.proofs.Calls.{settling_kept}
use Rattle.firmware.proofs.exports.heat_settle.Goals as goal

pub returns-clause-keeps_every_solution : goal.returns-clause-keeps_every_solution
returns-clause-keeps_every_solution c s x solves h = (settling_kept c.args.size c.args.cells.now c.args.certificate.now c.args.ranges.now c.settle.result c.settle.new.ranges c.settle.ensures).solutions s x solves h (λ b among. elim among [ ])

pub returns-clause-the_next_call_goes_on_from_what_is_written : goal.returns-clause-the_next_call_goes_on_from_what_is_written
returns-clause-the_next_call_goes_on_from_what_is_written c = (settling_kept c.args.size c.args.cells.now c.args.certificate.now c.args.ranges.now c.settle.result c.settle.new.ranges c.settle.ensures).goes_on yes_or_no c.from.result c.from.ensures
