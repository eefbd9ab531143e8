use Rattle.std.proofs.Common.{sym, ◌∙◌}
use Rattle.std.proofs.lemmas.Result.{err_from_is_err_and}
use Rattle.balance.proofs.Searches.{refused_by}
use Rattle.roast.proofs.Meant.{opening_held, opening_stops}
use Rattle.roast.proofs.certificate.first_bounds.Goals as goal

pub returns-in_err-assemble : goal.returns-in_err-assemble
returns-in_err-assemble g c =
    let m = g.S.System.meaning c.args.system.now in
    let r = err_from_is_err_and c.from_residual.result c.from_residual.ensures.1 in
    let e = refused_by _ c.in_err-assemble.field-0.0 tt (sym c.in_err-assemble.was ∙ c.assemble.ensures.answers) in
    record { is = rw (r.1, r.2) (sym (opening_stops m c.args.certificate.now c.in_err-assemble.field-0.0 e)); assembles = λ h. cc (sym e ∙ h) }

pub returns : goal.returns
returns g c =
    let m = g.S.System.meaning c.args.system.now in
    let t = c.in_ok-assemble.ensures.assembles in
    record { is = c.bounds_of.ensures ∙ opening_held m c.assemble.new.self c.args.certificate.now t; assembles = λ h. t }
