use Rattle.std.proofs.Common.{◌≡◌, ◌^◌, ◌∙◌, sym, subst, arith}
use Rattle.std.proofs.lemmas.Int.{ints, to_z-of_z}
use Rattle.balance.specs.declared.range.Range.{Range}
use Rattle.balance.specs.Ranges.{Between, times}
use Rattle.roast.proofs.Products.{above_is, below_is, across_is}
use Rattle.balance.proofs.Ranges.{times_between_bounds}
use Rattle.roast.proofs.rows.product.Goals as goal

narrow : (a x r : Range) → Between (2 ^ 20) a → Between (2 ^ 37) x → r ≡ times a x → Between (2 ^ 57) r
narrow a x r h k e = subst (Between (2 ^ 57)) (sym e) (times_between_bounds a x (2 ^ 20) (2 ^ 37) h k)

pub returns-then-a-le0 : goal.returns-then-a-le0
returns-then-a-le0 c =
    let a = c.args.a in
    let x = c.args.x in
    let e : c.times_below.result ≡ times a x = c.times_below.ensures ∙ below_is a x c.requires.coefficient_is_narrow.1 c.requires.node_is_narrow.1 (grind (arith, ints, to_z-of_z)) in
    record { is = e; narrow = narrow a x _ c.requires.coefficient_is_narrow c.requires.node_is_narrow e }

pub returns-then-a-ge0 : goal.returns-then-a-ge0
returns-then-a-ge0 c =
    let a = c.args.a in
    let x = c.args.x in
    let e : c.times_above.result ≡ times a x = c.times_above.ensures ∙ above_is a x c.requires.coefficient_is_narrow.1 c.requires.node_is_narrow.1 (grind (arith, ints, to_z-of_z)) in
    record { is = e; narrow = narrow a x _ c.requires.coefficient_is_narrow c.requires.node_is_narrow e }

pub returns-else-a-ge0 : goal.returns-else-a-ge0
returns-else-a-ge0 c =
    let a = c.args.a in
    let x = c.args.x in
    let e : c.times_across.result ≡ times a x = c.times_across.ensures ∙ across_is a x c.requires.coefficient_is_narrow.1 c.requires.node_is_narrow.1 (grind (arith, ints, to_z-of_z)) (grind (arith, ints, to_z-of_z)) in
    record { is = e; narrow = narrow a x _ c.requires.coefficient_is_narrow c.requires.node_is_narrow e }
