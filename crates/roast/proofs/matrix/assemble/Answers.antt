use Rattle.std.proofs.Common.{◌+◌, ◌-◌, arith}
use Rattle.balance.specs.Meanings.{IsNode}
use Rattle.balance.proofs.Searches.{column_passes, columns_pass, row_passes, ends_at_column, ends_at_side, refused_so}
use Rattle.roast.proofs.Matrices.{puts, puts_side}
use Rattle.roast.proofs.matrix.assemble.Goals as goal

pub loop-column-preserved : goal.loop-column-preserved
loop-column-preserved g c =
    let m = g.S.System.meaning c.args.system.now in
    let size = c.size-size.ensures.is_the_size in
    let node : IsNode m c.loop-row.row = (omega arith, omega arith) in
    let here : IsNode m c.loop-column.column = (omega arith, omega arith) in
    let v = c.loop-column.invariant in
    let a = c.in-Ok.ensures.answers_by_the_meaning in (
      column_passes m c.loop-row.row node c.loop-row.invariant.0 c.loop-column.column (c.loop-column.column + 1 - 1) c.in-Ok.ends here (omega arith) v.0 a,
      puts m (g.met.S.System.lawful c.args.system.now) c.loop-column.coefficients c.loop-row.sides (omega arith) (omega arith) c.loop-row.row node c.loop-column.column c.in-Ok.ends c.into.result here v.1 a c.into.ensures,
    )

pub loop-row-preserved : goal.loop-row-preserved
loop-row-preserved g c =
    let m = g.S.System.meaning c.args.system.now in
    let size = c.size-size.ensures.is_the_size in
    let node : IsNode m c.loop-row.row = (omega arith, omega arith) in
    let v = c.loop-column.invariant in
    let a = c.in-Ok-right_side.ensures.answers_by_the_meaning in
    let columns = columns_pass m c.loop-row.row node c.loop-row.invariant.0 c.loop-column.column (omega arith) v.0 in (
      row_passes m c.loop-row.row node c.loop-row.invariant.0 columns (c.loop-row.row + 1 - 1) c.in-Ok-right_side.ends (omega arith) a,
      puts_side m (g.met.S.System.lawful c.args.system.now) c.loop-column.coefficients c.loop-row.sides (omega arith) (omega arith) c.loop-row.row node c.loop-column.column c.in-Ok-right_side.ends c.into-in-Ok-right_side.result (omega arith) v.1 a c.into-in-Ok-right_side.ensures,
    )

pub returns-in-Err-clause-answers : goal.returns-in-Err-clause-answers
returns-in-Err-clause-answers g c =
    let m = g.S.System.meaning c.args.system.now in
    let size = c.size-size.ensures.is_the_size in
    let node : IsNode m c.loop-row.row = (omega arith, omega arith) in
    let e = c.in-Err.refusal in
    refused_so _ e _ (ends_at_column m c.loop-row.row node c.loop-row.invariant.0 c.loop-column.column e (omega arith, omega arith) c.loop-column.invariant.0 c.in-Err.ensures.answers_by_the_meaning)

pub returns-in-Err-right_side-clause-answers : goal.returns-in-Err-right_side-clause-answers
returns-in-Err-right_side-clause-answers g c =
    let m = g.S.System.meaning c.args.system.now in
    let size = c.size-size.ensures.is_the_size in
    let node : IsNode m c.loop-row.row = (omega arith, omega arith) in
    let e = c.in-Err-right_side.refusal in
    let columns = columns_pass m c.loop-row.row node c.loop-row.invariant.0 c.loop-column.column (omega arith) c.loop-column.invariant.0 in
    refused_so _ e _ (ends_at_side m c.loop-row.row node c.loop-row.invariant.0 columns e c.in-Err-right_side.ensures.answers_by_the_meaning)
