use Rattle.std.proofs.Common.{◌≡◌, Some, None, sym, ◌∙◌, subst}
use Rattle.roast.specs.Certificates.{certificate_refusal}
use Rattle.balance.proofs.Searches.{unrefused, refused_by}
use Rattle.std.proofs.lemmas.Result.{err_from_is_err_and}
use Rattle.roast.proofs.Meant.{opening_refused, opening_made}
use Rattle.roast.proofs.Certified.{certified, number_within}
use Rattle.roast.proofs.certificate.bounds_of.Goals as goal

pub invariant_of-weighted : goal.invariant_of-weighted
invariant_of-weighted c =
    let us = c.args.certificate.now in
    let n = c.args.matrix.now.size in
    let h : certificate_refusal n us ≡ None = subst (λ k. certificate_refusal k us ≡ None) c.size.ensures (unrefused _ tt tt (sym c.in_ok-check_certificate.was ∙ c.check_certificate.ensures)).0 in
    record { counted = (certified n us h).count; positive = λ i p. ((certified n us h).numbers i p.0 p.1).0; small = λ i p. number_within n us h i p.0 p.1 }

pub returns-in_err-check_certificate : goal.returns-in_err-check_certificate
returns-in_err-check_certificate c =
    let r = err_from_is_err_and c.from_residual.result c.from_residual.ensures.1 in
    let e = refused_by _ c.in_err-check_certificate.field-0.0 tt (sym c.in_err-check_certificate.was ∙ c.check_certificate.ensures) in
    rw (r.1, r.2) (sym (opening_refused c.args.matrix.now c.args.certificate.now c.in_err-check_certificate.field-0.0 (subst (λ n. certificate_refusal n c.args.certificate.now ≡ Some c.in_err-check_certificate.field-0.0) c.size.ensures e)))

pub returns : goal.returns
returns c =
    let us = c.args.certificate.now in
    let h = (unrefused _ tt tt (sym c.in_ok-check_certificate.was ∙ c.check_certificate.ensures)).0 in
    c.first_box.ensures ∙ sym (opening_made c.args.matrix.now us (subst (λ k. certificate_refusal k us ≡ None) c.size.ensures h))
