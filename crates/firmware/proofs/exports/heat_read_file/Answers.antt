use Rattle.std.proofs.Common.{length, subst}
use Rattle.heat_file.specs.Laws.{AcceptsFiles, WantsRoom, RefusesFirstBad, CellsHold, WeightsHold}
use Rattle.firmware.proofs.exports.heat_read_file.Goals as goal

pub returns-clause-accepts_exactly_the_files_of_some_entries : goal.returns-clause-accepts_exactly_the_files_of_some_entries
returns-clause-accepts_exactly_the_files_of_some_entries c = subst (λ r. AcceptsFiles c.args.file.now (length c.args.cells.now) (length c.args.certificate.now) r) c.read_file.ensures.answers c.read_file.ensures.accepts_exactly_the_files_of_some_entries

pub returns-clause-wants_room_for_them : goal.returns-clause-wants_room_for_them
returns-clause-wants_room_for_them c = subst (λ r. WantsRoom c.args.file.now (length c.args.cells.now) (length c.args.certificate.now) r) c.read_file.ensures.answers c.read_file.ensures.wants_room_for_them

pub returns-clause-refuses_at_the_first_bad_line : goal.returns-clause-refuses_at_the_first_bad_line
returns-clause-refuses_at_the_first_bad_line c = subst (λ r. RefusesFirstBad c.args.file.now r) c.read_file.ensures.answers c.read_file.ensures.refuses_at_the_first_bad_line

pub returns-clause-cells_hold_what_the_lines_say : goal.returns-clause-cells_hold_what_the_lines_say
returns-clause-cells_hold_what_the_lines_say c = subst (λ r. CellsHold c.args.file.now r c.read_file.new.cells) c.read_file.ensures.answers c.read_file.ensures.cells_hold_what_the_lines_say

pub returns-clause-weights_hold_what_the_lines_say : goal.returns-clause-weights_hold_what_the_lines_say
returns-clause-weights_hold_what_the_lines_say c = subst (λ r. WeightsHold c.args.file.now r c.read_file.new.certificate) c.read_file.ensures.answers c.read_file.ensures.weights_hold_what_the_lines_say
