use Rattle.std.proofs.Common.{◌≡◌, ℕ, ◌+◌, ◌*◌, List, length, take, ◌⊎◌, inr, Ok, sym, subst, arith}
use Rattle.std.proofs.lemmas.List.{length-take}
use Rattle.heat_file.specs.Files.{read}
use Rattle.heat_file.specs.Reports.{length_or_no_room, put_in_front}
use Rattle.file_box.proofs.ReadFiles.{enough, filled, refused}
use Rattle.file_box.specs.FileReports.{file_report, table_given, ReportsBox, ReportsRefusal}
use Rattle.file_box.specs.Findings.{table_report}
use Rattle.heat_file.specs.Laws.{CellsHold}
use Rattle.file_box.proofs.Printed.{printed}
use Rattle.file_box.proofs.file.report_file.Goals as goal

pub returns-in-Ok-clause-answers : goal.returns-in-Ok-clause-answers
returns-in-Ok-clause-answers c =
    let e = c.in-Ok.ensures in
    subst (λ t. c.report_table.result ≡ length_or_no_room t c.args.out.now) (filled (read c.args.file.now) c.in-Ok.size c.read_file.new.cells c.read_file.new.certificate e.answers e.fills_the_cells e.fills_the_certificate) c.report_table.ensures.answers

pub returns-in-Ok-clause-writes_the_report_and_keeps_the_rest : goal.returns-in-Ok-clause-writes_the_report_and_keeps_the_rest
returns-in-Ok-clause-writes_the_report_and_keeps_the_rest c =
    let e = c.in-Ok.ensures in
    subst (λ t. c.report_table.new.out ≡ put_in_front t c.args.out.now) (filled (read c.args.file.now) c.in-Ok.size c.read_file.new.cells c.read_file.new.certificate e.answers e.fills_the_cells e.fills_the_certificate) c.report_table.ensures.writes_the_report_and_keeps_the_rest

pub returns-in-Err-clause-answers : goal.returns-in-Err-clause-answers
returns-in-Err-clause-answers c =
    let e = c.in-Err.ensures in
    subst (λ t. c.write_refusal.result ≡ length_or_no_room t c.args.out.now) (refused c.args.file.now c.in-Err.refusal e.answers e.wants_room_for_them) c.write_refusal.ensures.answers

pub returns-in-Err-clause-writes_the_report_and_keeps_the_rest : goal.returns-in-Err-clause-writes_the_report_and_keeps_the_rest
returns-in-Err-clause-writes_the_report_and_keeps_the_rest c =
    let e = c.in-Err.ensures in
    subst (λ t. c.write_refusal.new.out ≡ put_in_front t c.args.out.now) (refused c.args.file.now c.in-Err.refusal e.answers e.wants_room_for_them) c.write_refusal.ensures.writes_the_line_and_keeps_the_rest

pub returns-in-Ok-clause-a_box_that_is_printed_holds_every_solution : goal.returns-in-Ok-clause-a_box_that_is_printed_holds_every_solution
returns-in-Ok-clause-a_box_that_is_printed_holds_every_solution c n es holds =
    let e = c.in-Ok.ensures in
    let file = c.args.file.now in
    let cells = c.read_file.new.cells in
    let us = c.read_file.new.certificate in
    let room = enough n holds.form.few in
    let is_it : Ok c.in-Ok.size ≡ Ok n = (e.accepts_exactly_the_files_of_some_entries n).1 (es, holds, room) in
    let same : c.in-Ok.size ≡ n = cc in
    let told = subst (λ (k : ℕ). CellsHold file (Ok k) cells) same e.cells_hold_what_the_lines_say in
    let report = filled (read file) c.in-Ok.size cells us e.answers e.fills_the_cells e.fills_the_certificate in
    let printed_so = subst (λ (k : ℕ). table_report k (take (k * (k + 1)) cells) (take k us) ≡ file_report file) same report in
    let count : length (take (n * (n + 1)) cells) ≡ n * (n + 1) = omega (arith, length-take (n * (n + 1)) cells, room.0, c.read_file.auto.cells) in
    subst (λ (t : List ℕ). ReportsBox t (table_given n es) ⊎ ReportsRefusal t) printed_so (printed file n es holds cells told count (take n us))

pub returns-in-Err-clause-a_box_that_is_printed_holds_every_solution : goal.returns-in-Err-clause-a_box_that_is_printed_holds_every_solution
returns-in-Err-clause-a_box_that_is_printed_holds_every_solution c n es holds =
    let e = c.in-Err.ensures in
    inr (c.in-Err.refusal, sym (refused c.args.file.now c.in-Err.refusal e.answers e.wants_room_for_them))
