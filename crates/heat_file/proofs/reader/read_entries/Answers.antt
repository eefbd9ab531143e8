use Rattle.std.proofs.Common.{sym}
use Rattle.heat_file.proofs.Frames.{located_gives}
use Rattle.heat_file.proofs.GoodFiles.{located_some, read_some}
use Rattle.heat_file.proofs.reader.read_entries.Goals as goal

pub read_lines-requires : goal.read_lines-requires
read_lines-requires c =
    let d = located_some _ _ (c.in_ok-place.place, c.in_ok-place.lines) c.args.file.now c.in_ok-place.ensures.value c.data_lines.ensures in
    let f = located_gives c.args.file.now c.in_ok-place.place c.in_ok-place.lines.now (sym d) in
    record { are_whole_lines = f.whole; are_in_a_file = f.inner; has_cells = c.requires.has_cells; has_weights = c.requires.has_weights }

pub returns : goal.returns
returns c =
    let d = located_some _ _ (c.in_ok-place.place, c.in_ok-place.lines) c.args.file.now c.in_ok-place.ensures.value c.data_lines.ensures in
    rw (read_some c.args.file.now c.in_ok-place.place c.in_ok-place.lines.now d) c.read_lines.ensures
