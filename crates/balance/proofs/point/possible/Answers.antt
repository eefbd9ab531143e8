use Rattle.std.proofs.Common.{◌≡◌, None, Ok, sym, ◌∙◌, w64}
use Rattle.std.proofs.lemmas.Int.{to_z-of_z}
use Rattle.balance.specs.Places.{first_refusal, unless_refused, every}
use Rattle.balance.specs.Points.{numerator, point_refusal, fits}
use Rattle.balance.proofs.PointRows.{allowed, tells_so}
use Rattle.balance.proofs.point.possible.Goals as goal

pub returns-in-Ok-clause-says_yes_exactly_if_a_member_has_the_point :
    goal.returns-in-Ok-clause-says_yes_exactly_if_a_member_has_the_point
returns-in-Ok-clause-says_yes_exactly_if_a_member_has_the_point g c =
    let s = c.args.system.now in
    let m = g.S.System.meaning s in
    let ps = c.args.numerators.now in
    let q = c.args.denominator in
    let d = to_z-of_z w64 q c.ranges.denominator in
    let b : point_refusal m.size ps q ≡ None = (λ i. point_refusal (sym c.size.ensures.is_the_size i) ps (sym d i)) ∙ c.in-Ok.ensures.is_allowed in
    let r = c.every_row_fits.ensures ∙ (λ i. unless_refused (first_refusal m) (Ok (every (fits m (numerator (c.in-Ok.ensures.holds_the_numerators i)) ((c.in-Ok.ensures.holds_the_denominator ∙ d) i)) m.size))) in
    tells_so m (g.met.S.System.lawful s) ps q (allowed _ _ _ b) _ r
