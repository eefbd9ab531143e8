use Rattle.firmware.proofs.Calls.{opening_encloses, opening_goes_on}
use Rattle.firmware.proofs.exports.heat_open.Goals as goal

pub returns-clause-a_box_that_is_written_holds_every_solution : goal.returns-clause-a_box_that_is_written_holds_every_solution
returns-clause-a_box_that_is_written_holds_every_solution c = opening_encloses c.args.size c.args.cells.now c.args.certificate.now c.args.ranges.now c.open.result c.open.new.ranges c.open.ensures c.from.result c.from.ensures

pub returns-clause-the_next_call_goes_on_from_what_is_written : goal.returns-clause-the_next_call_goes_on_from_what_is_written
returns-clause-the_next_call_goes_on_from_what_is_written c = opening_goes_on c.args.size c.args.cells.now c.args.certificate.now c.args.ranges.now c.open.result c.open.new.ranges c.open.ensures c.from.result c.from.ensures
