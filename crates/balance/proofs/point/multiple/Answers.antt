use Rattle.std.proofs.Common.{◌≡◌, true, false, ℤ, pos, ◌*ℤ◌, ◌≤ℤ◌, w64, SFits, to_z, of_z, rules, sym, ◌∙◌, subst, arith}
use lib.Signed.{lt_z}
use borrow.Author.Differences.{ints}
use Rattle.std.proofs.lemmas.Int.{to_z-of_z}
use Rattle.balance.specs.declared.range.Range.{Range}
use Rattle.balance.specs.Ranges.{range, Fits64}
use Rattle.balance.proofs.Ranges.{computed, times_only_above, times_only_below}
use Rattle.balance.proofs.point.multiple.Goals.{then-number-lt0, else-number-lt0}
use Rattle.balance.proofs.point.multiple.Goals as goal

module _ (p : ℤ) (f : SFits w64 p) where
  below : lt_z (to_z w64 (of_z w64 p)) (pos 0) ≡ true → p ≤ℤ pos 0
  below h = let k : lt_z p (pos 0) ≡ true = subst (λ z. lt_z z (pos 0) ≡ true) (to_z-of_z w64 p f) h in grind (arith, ints)

  above : lt_z (to_z w64 (of_z w64 p)) (pos 0) ≡ false → pos 0 ≤ℤ p
  above h = let k : lt_z p (pos 0) ≡ false = subst (λ z. lt_z z (pos 0) ≡ false) (to_z-of_z w64 p f) h in grind (arith, ints)

  -- two ends that are chosen, each times the number
  chosen : (x y : ℤ) (l : ℤ × ℤ) (r : Range) → SFits w64 x → SFits w64 y → l ≡ (to_z w64 (of_z w64 x), to_z w64 (of_z w64 y)) → Fits64 r → r ≡ range (x *ℤ p) (y *ℤ p) → range (to_z w64 (of_z w64 (to_z w64 (of_z w64 l.0) *ℤ to_z w64 (of_z w64 p)))) (to_z w64 (of_z w64 (to_z w64 (of_z w64 l.1) *ℤ to_z w64 (of_z w64 p)))) ≡ r
  chosen x y l r g h is fits e =
      let k = subst Fits64 e fits in
      let ends = is ∙ (λ i. (to_z-of_z w64 x g i, to_z-of_z w64 y h i)) in
      rw ends (λ i. range (computed ◌*ℤ◌ x p g f k.0 i) (computed ◌*ℤ◌ y p h f k.1 i)) ∙ sym e

pub returns : goal.returns
returns c =
    let r = c.args.range in
    let p = c.args.number in
    let n = c.ranges.number in
    let o = c.requires.in_order in
    elim c.if-number-lt0.branch [
      | then-number-lt0 w ↦ chosen p n r.upper r.lower _ _ (search rules) (search rules) w.lower-is c.requires.fits (times_only_below r p o (below p n w.if-number-lt0.true))
      | else-number-lt0 w ↦ chosen p n r.lower r.upper _ _ (search rules) (search rules) w.lower-is c.requires.fits (times_only_above r p o (above p n w.if-number-lt0.false))
    ]
