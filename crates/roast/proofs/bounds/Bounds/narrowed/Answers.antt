use Rattle.std.proofs.Common.{◌≡◌, ◌^◌, length, sym, ap, ◌∙◌, subst}
use Rattle.balance.specs.declared.range.Range.{Range}
use Rattle.balance.specs.Ranges.{AllBetween, minus, total}
use Rattle.roast.specs.Rounding.{holds_zero, quotient, shared}
use Rattle.roast.specs.Narrowing.{Box}
use Rattle.roast.specs.Matrices.{part}
use Rattle.roast.proofs.Narrow.{shared_narrow}
use Rattle.roast.proofs.RowSteps.{wider, leaves}
use Rattle.roast.proofs.bounds.Bounds.narrowed.Goals as goal

pub row_sum-sum-requires-clause-nodes_are_narrow : goal.row_sum-sum-requires-clause-nodes_are_narrow
row_sum-sum-requires-clause-nodes_are_narrow c = wider c.all.result.now (subst (AllBetween (2 ^ 30)) (sym c.all.ensures.is) c.all.ensures.narrow)

pub quotient-requires-clause-divisor_without_zero : goal.quotient-requires-clause-divisor_without_zero
quotient-requires-clause-divisor_without_zero c = ap holds_zero c.coefficient-diagonal.ensures.is ∙ c.requires.fits.apart c.args.node c.requires.has_the_node

pub returns : goal.returns
returns c =
    let a = c.args.matrix.now in
    let x = c.args.self.now in
    let i = c.args.node in
    let d = c.coefficient-diagonal.ensures.is in
    let row = c.row.result.now in
    let sum : c.row_sum-sum.result ≡ total (part row x i) (length row) = c.row_sum-sum.ensures.is ∙ ap (λ (xs : Box). total (part row xs i) (length row)) c.all.ensures.is in
    let f = leaves a x i c.requires.fits.rows row c.row_sum-sum.result c.row.ensures.is c.row.ensures.long sum (c.requires.fits.apart i c.requires.has_the_node) in
    let n = c.difference-numerator.ensures.is ∙ ap (λ (b : Range). minus b c.row_sum-sum.result) c.side.ensures.is in
    let q = c.quotient.ensures.is ∙ (λ k. quotient (n k) (d k)) in
    record {
      is = c.shared.ensures.is ∙ (λ k. shared (c.at.ensures.is k) (q k)) ∙ sym f;
      narrow = shared_narrow (2 ^ 30) _ _ _ c.at.ensures.narrow c.shared.ensures.is;
    }
