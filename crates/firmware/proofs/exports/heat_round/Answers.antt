use Rattle.firmware.specs.Replies.{count}
use Rattle.firmware.proofs.Calls.{round_kept}
use Rattle.firmware.proofs.exports.heat_round.Goals as goal

pub returns-clause-keeps_every_solution : goal.returns-clause-keeps_every_solution
returns-clause-keeps_every_solution c s x solves h = (round_kept c.args.size c.args.cells.now c.args.certificate.now c.args.ranges.now c.round.result c.round.new.ranges c.round.ensures).solutions s x solves h (λ b among. elim among [ ])

pub returns-clause-the_next_call_goes_on_from_what_is_written : goal.returns-clause-the_next_call_goes_on_from_what_is_written
returns-clause-the_next_call_goes_on_from_what_is_written c = (round_kept c.args.size c.args.cells.now c.args.certificate.now c.args.ranges.now c.round.result c.round.new.ranges c.round.ensures).goes_on count c.from.result c.from.ensures
