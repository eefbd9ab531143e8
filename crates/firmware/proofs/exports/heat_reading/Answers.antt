use Rattle.std.proofs.Common.{w64, ap, ap₂, ◌∙◌}
use Rattle.std.proofs.lemmas.Int.{to_z-of_z}
use Rattle.balance.specs.Ranges.{range}
use Rattle.firmware.specs.Replies.{yes_or_no, reply}
use Rattle.firmware.specs.Drums.{reading_call}
use Rattle.firmware.proofs.Leads.{in_reading}
use Rattle.firmware.proofs.Calls.{reading_kept}
use Rattle.firmware.proofs.exports.heat_reading.Goals as goal

pub returns-clause-answers : goal.returns-clause-answers
returns-clause-answers c =
    let e = c.reading.ensures ∙ ap₂ (reading_call c.args.size c.args.cells.now c.args.certificate.now c.args.ranges.now c.args.node) (to_z-of_z w64 c.args.lower c.ranges.lower) (to_z-of_z w64 c.args.upper c.ranges.upper) in
    c.from.ensures ∙ ap (λ t. reply yes_or_no t.0) e

pub returns-clause-writes_the_box_unless_refused : goal.returns-clause-writes_the_box_unless_refused
returns-clause-writes_the_box_unless_refused c =
    let e = c.reading.ensures ∙ ap₂ (reading_call c.args.size c.args.cells.now c.args.certificate.now c.args.ranges.now c.args.node) (to_z-of_z w64 c.args.lower c.ranges.lower) (to_z-of_z w64 c.args.upper c.ranges.upper) in
    ap (λ t. t.1) e

pub returns-clause-keeps_every_solution_within_the_reading : goal.returns-clause-keeps_every_solution_within_the_reading
returns-clause-keeps_every_solution_within_the_reading c s x solves h within =
    let e = c.reading.ensures ∙ ap₂ (reading_call c.args.size c.args.cells.now c.args.certificate.now c.args.ranges.now c.args.node) (to_z-of_z w64 c.args.lower c.ranges.lower) (to_z-of_z w64 c.args.upper c.ranges.upper) in
    (reading_kept c.args.size c.args.cells.now c.args.certificate.now c.args.ranges.now c.args.node c.args.lower c.args.upper c.reading.result c.reading.new.ranges e).solutions s x solves h (in_reading x c.args.node (range c.args.lower c.args.upper) within)

pub returns-clause-the_next_call_goes_on_from_what_is_written : goal.returns-clause-the_next_call_goes_on_from_what_is_written
returns-clause-the_next_call_goes_on_from_what_is_written c =
    let e = c.reading.ensures ∙ ap₂ (reading_call c.args.size c.args.cells.now c.args.certificate.now c.args.ranges.now c.args.node) (to_z-of_z w64 c.args.lower c.ranges.lower) (to_z-of_z w64 c.args.upper c.ranges.upper) in
    (reading_kept c.args.size c.args.cells.now c.args.certificate.now c.args.ranges.now c.args.node c.args.lower c.args.upper c.reading.result c.reading.new.ranges e).goes_on yes_or_no c.from.result c.from.ensures
