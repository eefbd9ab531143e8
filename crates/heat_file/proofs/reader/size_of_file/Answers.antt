use Rattle.std.proofs.Common.{◌≡◌, pos, ◌∙◌}
use Rattle.heat_file.specs.Checks.{told}
use Rattle.heat_file.specs.Files.{read}
use Rattle.heat_file.proofs.Putting.{told_by}
use Rattle.heat_file.proofs.FileLaws.{told_is_answer, tells_size, wants_frame, refuses_first_bad}
use Rattle.heat_file.proofs.reader.size_of_file.Goals as goal

pub returns : goal.returns
returns c =
    let f = c.args.file.now in
    let r = c.read_entries.result in
    let a : r ≡ told (pos 0) (read f) = told_by (read f) _ _ _ _ r c.read_entries.ensures in
    let q = a ∙ told_is_answer f in
    record {
      answers = a;
      tells_the_size_of_exactly_the_files_of_some_entries = tells_size f r a;
      wants_a_trailer_that_fits = wants_frame f 1056 32 r q;
      refuses_at_the_first_bad_line = refuses_first_bad f 1056 32 r q;
    }
