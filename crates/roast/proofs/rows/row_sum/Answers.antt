use Rattle.std.proofs.Common.{◌≡◌, ◌+◌, ◌<◌, refl, ap, ◌∙◌, length, arith}
use borrow.Author.Differences.{ints}
use Rattle.balance.specs.Ranges.{total}
use Rattle.roast.specs.Matrices.{part}
use Rattle.balance.proofs.Ranges.{total_more}
use Rattle.roast.proofs.RowSums.{part_at}
use Rattle.roast.proofs.rows.row_sum.Goals as goal

pub loop-j-init : goal.loop-j-init
loop-j-init c = (refl, (omega (arith, ints), omega (arith, ints), omega (arith, ints)))

pub sum-total-requires-clause-before_is_narrow : goal.sum-total-requires-clause-before_is_narrow
sum-total-requires-clause-before_is_narrow c =
    let v = c.loop-j.invariant.1 in
    let few = c.requires.few in
    let l : c.loop-j.j < 32 = omega arith in
    (omega (arith, ints), omega (arith, ints), omega (arith, ints))

pub loop-j-preserved : goal.loop-j-preserved
loop-j-preserved c =
    let row = c.args.row.now in
    let nodes = c.args.nodes.now in
    let j = c.loop-j.j in
    let v = c.loop-j.invariant in
    let b = c.part.ensures.narrow in
    let p : c.part.result ≡ part row nodes c.args.without (j + 1) = c.part.ensures.is ∙ part_at row nodes c.args.without j in (
      total_more (part row nodes c.args.without) j c.loop-j.total c.part.result c.sum-total.result v.0 p c.sum-total.ensures,
      rw c.sum-total.ensures (omega (arith, ints), omega (arith, ints), omega (arith, ints)),
    )

pub returns : goal.returns
returns c =
    let v = c.loop-j.invariant in
    let few = c.requires.few in
    let e : c.loop-j.j ≡ length c.args.row.now = omega arith in
    record { is = v.0 ∙ ap (total (part c.args.row.now c.args.nodes.now c.args.without)) e; narrow = (omega (arith, ints), omega (arith, ints), omega (arith, ints)) }
