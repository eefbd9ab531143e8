use Rattle.std.proofs.Common.{◌≡◌, ◌^◌, ◌*ℤ◌, w64, to_z, of_z, arith, rules}
use Rattle.std.proofs.lemmas.Int.{to_z-of_z}
use Rattle.std.specs.Int.{int_min, int_max}
use Rattle.balance.specs.Ranges.{Between, range, times}
use Rattle.balance.proofs.Ranges.{computed, narrow_fits, products_fit, times_between_bounds}
use Rattle.roast.proofs.rows.times_across.Goals as goal

pub returns : goal.returns
returns c =
    let a = c.args.a in
    let x = c.args.x in
    let b : Between (2 ^ 57) (times a x) = times_between_bounds a x (2 ^ 20) (2 ^ 37) c.requires.coefficient_is_narrow c.requires.node_is_narrow in
    let fits = products_fit a x (narrow_fits (2 ^ 57) _ (omega arith) b) in
    let p = computed ◌*ℤ◌ a.lower x.lower (search rules) (search rules) fits.0 in
    let q = computed ◌*ℤ◌ a.lower x.upper (search rules) (search rules) fits.1 in
    let s = computed ◌*ℤ◌ a.upper x.lower (search rules) (search rules) fits.2 in
    let t = computed ◌*ℤ◌ a.upper x.upper (search rules) (search rules) fits.3 in
    let low : to_z w64 (of_z w64 c.min.result) ≡ int_min (a.lower *ℤ x.upper) (a.upper *ℤ x.lower) = grind (arith, to_z-of_z, q, s, c.min.ensures) in
    let high : to_z w64 (of_z w64 c.max.result) ≡ int_max (a.lower *ℤ x.lower) (a.upper *ℤ x.upper) = grind (arith, to_z-of_z, p, t, c.max.ensures) in
    λ i. range (low i) (high i)
