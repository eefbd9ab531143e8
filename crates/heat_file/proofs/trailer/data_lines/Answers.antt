use Rattle.std.proofs.Common.{None, Some, refl, sym, ◌∙◌, arith}
use Rattle.heat_file.proofs.Trailers.{no_ending, data_found}
use Rattle.heat_file.proofs.trailer.data_lines.Goals as goal

pub returns-in_err-place : goal.returns-in_err-place
returns-in_err-place c =
    let n = no_ending c.args.file.now c.in_ok-front.front.now c.in_ok-front.trailer.now c.in_ok-front.ensures (omega arith) (sym c.in_err-place.was ∙ c.parse_trailer.ensures) in
    rw (c.from_residual-in_err-place.ensures, n) refl

pub returns-in_err-lines : goal.returns-in_err-lines
returns-in_err-lines c =
    let n = data_found c.args.file.now c.in_ok-front.front.now c.in_ok-front.trailer.now c.in_ok-front.ensures (omega arith) (c.in_ok-place.place, c.in_ok-place.count) None (sym c.in_ok-place.was ∙ c.parse_trailer.ensures) c.in_err-lines.ensures in
    rw (c.from_residual-in_err-lines.ensures, n) refl

pub returns : goal.returns
returns c =
    sym (data_found c.args.file.now c.in_ok-front.front.now c.in_ok-front.trailer.now c.in_ok-front.ensures (omega arith) (c.in_ok-place.place, c.in_ok-place.count) (Some c.in_ok-lines.lines.now) (sym c.in_ok-place.was ∙ c.parse_trailer.ensures) c.in_ok-lines.ensures)
