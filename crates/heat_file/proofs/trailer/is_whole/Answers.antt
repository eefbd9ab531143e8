use Rattle.std.proofs.Common.{◌-◌, length, get_or, sym, ◌∙◌, arith}
use Rattle.std.proofs.lemmas.Bool.{eq-eqb, ne_eqb}
use Rattle.heat_file.proofs.Trailers.{closed_at}
use Rattle.heat_file.proofs.trailer.is_whole.Goals as goal

pub returns-in_default : goal.returns-in_default
returns-in_default c =
    let t = c.args.text.now in
    sym (closed_at 10 t (length t - 1) (omega arith) ∙ ne_eqb (get_or t (length t - 1) 0) 10 (λ e. omega arith))

pub returns-in-empty-2 : goal.returns-in-empty-2
returns-in-empty-2 c =
    let t = c.args.text.now in
    sym (closed_at 10 t (length t - 1) (omega arith) ∙ eq-eqb (get_or t (length t - 1) 0) 10 (omega arith))
