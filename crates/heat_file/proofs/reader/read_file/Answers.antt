use Rattle.std.proofs.Common.{◌≡◌, ◌+◌, ◌*◌, ◌++◌, length, drop, replicate, pos, Ok, Err, refl, arith}
use Rattle.std.proofs.lemmas.Grind.{common_steps}
use Rattle.balance.specs.declared.refusal.Refusal.TheVariants.{Room}
use Rattle.heat_file.specs.Files.{read}
use Rattle.heat_file.specs.Filled.{answer, cells_after, certificate_after, Puts}
use Rattle.balance.specs.Ranges.{only}
use Rattle.heat_file.proofs.FileLaws.{laws, one_reading}
use Rattle.heat_file.proofs.Putting.{answered, without_room, cells_copied, weights_copied}
use Rattle.heat_file.proofs.reader.read_file.Goals as goal

pub returns-in_err-size : goal.returns-in_err-size
returns-in_err-size c =
    let f = c.args.file.now in
    let cs = c.args.cells.now in
    let us = c.args.certificate.now in
    let r = c.from_residual.result in
    let a : r ≡ answer (read f) (length cs) (length us) = grind (arith, common_steps) in
    let p : cs ≡ cells_after r (read f) cs = grind (arith, common_steps) in
    let s : us ≡ certificate_after r (read f) us = grind (arith, common_steps) in
    let l = laws f cs cs us us r a p s in
    record {
      answers = a;
      fills_the_cells = p;
      fills_the_certificate = s;
      accepts_exactly_the_files_of_some_entries = l.accepts;
      wants_room_for_them = l.room;
      wants_a_trailer_that_fits = l.frame;
      refuses_at_the_first_bad_line = l.first_bad;
      has_one_reading = one_reading f;
      cells_hold_what_the_lines_say = l.cells;
      weights_hold_what_the_lines_say = l.weights;
      keeps_the_rest = l.rest;
    }

pub returns-then-cells-cell_count : goal.returns-then-cells-cell_count
returns-then-cells-cell_count c =
    let f = c.args.file.now in
    let cs = c.args.cells.now in
    let us = c.args.certificate.now in
    let a = without_room (read f) c.in_ok-size.size c.read_entries.new.cells c.read_entries.new.certificate c.in_ok-size.ensures (length cs) (length us) c.then-cells-cell_count.either in
    let l = laws f cs cs us us (Err Room) a refl refl in
    record {
      answers = a;
      fills_the_cells = refl;
      fills_the_certificate = refl;
      accepts_exactly_the_files_of_some_entries = l.accepts;
      wants_room_for_them = l.room;
      wants_a_trailer_that_fits = l.frame;
      refuses_at_the_first_bad_line = l.first_bad;
      has_one_reading = one_reading f;
      cells_hold_what_the_lines_say = l.cells;
      weights_hold_what_the_lines_say = l.weights;
      keeps_the_rest = l.rest;
    }

pub returns : goal.returns
returns c =
    let f = c.args.file.now in
    let cs = c.args.cells.now in
    let us = c.args.certificate.now in
    let n = c.in_ok-size.size in
    let read_cells = c.read_entries.new.cells in
    let read_weights = c.read_entries.new.certificate in
    let h : Puts (read f) n (replicate 1056 (only (pos 0))) (replicate 32 (pos 1)) read_cells read_weights = c.in_ok-size.ensures in
    let a = answered (read f) n read_cells read_weights h (length cs) (length us) c.if-cells-cell_count.false c.if-certificate-size.false in
    let p = cells_copied (read f) n read_cells read_weights h cs c.copy_from_slice.new.self c.copy_from_slice.ensures.after in
    let s = weights_copied (read f) n read_cells read_weights h us c.copy_from_slice-2.new.self c.copy_from_slice-2.ensures.after in
    let l = laws f cs (c.copy_from_slice.new.self ++ drop (n * (n + 1)) cs) us (c.copy_from_slice-2.new.self ++ drop n us) (Ok n) a p s in
    record {
      answers = a;
      fills_the_cells = p;
      fills_the_certificate = s;
      accepts_exactly_the_files_of_some_entries = l.accepts;
      wants_room_for_them = l.room;
      wants_a_trailer_that_fits = l.frame;
      refuses_at_the_first_bad_line = l.first_bad;
      has_one_reading = one_reading f;
      cells_hold_what_the_lines_say = l.cells;
      weights_hold_what_the_lines_say = l.weights;
      keeps_the_rest = l.rest;
    }
