use Rattle.std.proofs.Common.{◌≡◌, ◌*◌, ◌^◌, ◌≤◌, Bool, true, false, cond, ℤ, pos, ◌*ℤ◌, nat_abs, int_le, w64, SFits, to_z, of_z, sym, refl, ap, ◌∙◌, subst, arith}
use Rattle.std.proofs.lemmas.Int.{ints, to_z-of_z}
use Rattle.roast.specs.Products.{scaled}
use Rattle.balance.proofs.Integers.{product_within}
use Rattle.balance.proofs.Ranges.{computed}
use Rattle.roast.proofs.rows.scaled.Goals as goal

-- the product with the number that is chosen
chosen : (end above below by : ℤ) (b : Bool) → SFits w64 end → SFits w64 by → nat_abs end ≤ 2 ^ 37 → nat_abs by ≤ 2 ^ 20 → by ≡ cond b above below → int_le (pos 0) (to_z w64 (of_z w64 end)) ≡ b → to_z w64 (of_z w64 (to_z w64 (of_z w64 by) *ℤ to_z w64 (of_z w64 end))) ≡ scaled end above below
chosen end above below by b f g h k e t =
    let w : nat_abs (by *ℤ end) ≤ 2 ^ 20 * 2 ^ 37 = product_within by end (2 ^ 20) (2 ^ 37) k h in
    let s : int_le (pos 0) end ≡ b = subst (λ z. int_le (pos 0) z ≡ b) (to_z-of_z w64 end f) t in
    computed ◌*ℤ◌ by end g f (omega (arith, ints)) ∙ ap (λ z. z *ℤ end) (e ∙ ap (λ c. cond c above below) (sym s))

pub returns-then-end-ge0 : goal.returns-then-end-ge0
returns-then-end-ge0 c = chosen c.args.end c.args.above c.args.below c.args.above true c.ranges.end c.ranges.above c.requires.end_is_narrow c.requires.above_is_narrow refl c.if-end-ge0.true

pub returns-else-end-ge0 : goal.returns-else-end-ge0
returns-else-end-ge0 c = chosen c.args.end c.args.above c.args.below c.args.below false c.ranges.end c.ranges.below c.requires.end_is_narrow c.requires.below_is_narrow refl c.if-end-ge0.false
