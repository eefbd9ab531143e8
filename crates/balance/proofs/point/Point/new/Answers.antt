use Rattle.std.proofs.Common.{◌+◌, length, pos, Some, None, option_map, sym, refl, ap, ◌∙◌, w64, to_z, of_z}
use Rattle.std.proofs.lemmas.Int.{to_z-of_z}
use Rattle.balance.specs.declared.refusal.Refusal.TheVariants.{Point}
use Rattle.balance.proofs.Entries.{first_entry}
use Rattle.balance.proofs.PointRows.{numerator_between, denominator_between, point_refusal_is}
use Rattle.balance.proofs.point.Point.new.Goals as goal

pub invariant_of-result : goal.invariant_of-result
invariant_of-result c =
    let ps = c.args.numerators.now in
    record { allowed = point_refusal_is (length ps) ps (to_z w64 (of_z w64 c.args.denominator)) None refl (sym c.if-not-contains.ensures.is) (first_entry numerator_between Point (pos 0) ps ∙ ap (option_map (λ j. Point (j + 1))) (sym c.in-None.ensures.is_the_first_position)) }

pub returns-in-Some-clause-refuses : goal.returns-in-Some-clause-refuses
returns-in-Some-clause-refuses c =
    let ps = c.args.numerators.now in
    let d = to_z-of_z w64 c.args.denominator c.ranges.denominator in
    point_refusal_is c.args.size ps c.args.denominator (Some (Point (c.in-Some.j + 1))) c.if-numerators-size.false (ap denominator_between (sym d) ∙ sym c.if-not-contains.ensures.is) (first_entry numerator_between Point (pos 0) ps ∙ ap (option_map (λ j. Point (j + 1))) (sym c.in-Some.ensures.is_the_first_position))
