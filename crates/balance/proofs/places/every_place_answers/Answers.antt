use Rattle.std.proofs.Common.{◌≡◌, ◌+◌, ◌-◌, Some, None, refl, arith}
use Rattle.balance.specs.Meanings.{IsNode}
use Rattle.balance.specs.Places.{first, refusal_at}
use Rattle.balance.proofs.Searches.{column_passes, columns_pass, row_passes, ends_at_column, ends_at_side, outcome}
use Rattle.balance.proofs.places.every_place_answers.Goals.{After-right_side, else-loop-column-test, then-loop-column-test+in_default+else-column-size}
use Rattle.balance.proofs.places.every_place_answers.Goals as goal

pub loop-column-preserved : goal.loop-column-preserved
loop-column-preserved g c =
    let m = g.S.System.meaning c.args.system.now in
    column_passes m c.loop-row.row (omega arith, omega arith) c.loop-row.invariant c.loop-column.column (c.loop-column.column + 1 - 1) c.in_default.field-0 (omega arith, omega arith) (omega arith) c.loop-column.invariant c.in_default.ensures.answers_by_the_meaning

columns_answer : (g : _) (c : After-right_side g) → first (λ j. refusal_at ((g.S.System.meaning c.args.system.now).coefficient c.loop-row.row j)) (g.S.System.meaning c.args.system.now).size ≡ None
columns_answer g c =
    let m = g.S.System.meaning c.args.system.now in
    let node : IsNode m c.loop-row.row = (omega arith, omega arith) in
    elim c.loop-column-test.branch [
      | else-loop-column-test w ↦ columns_pass m c.loop-row.row node c.loop-row.invariant c.loop-column.column (omega arith) c.loop-column.invariant
      | then-loop-column-test+in_default+else-column-size w ↦ column_passes m c.loop-row.row node c.loop-row.invariant c.loop-column.column m.size w.in_default.field-0 (omega arith, omega arith) (omega arith) c.loop-column.invariant w.in_default.ensures.answers_by_the_meaning
    ]

pub loop-row-preserved : goal.loop-row-preserved
loop-row-preserved g c =
    let m = g.S.System.meaning c.args.system.now in
    let node : IsNode m c.loop-row.row = (omega arith, omega arith) in
    row_passes m c.loop-row.row node c.loop-row.invariant (columns_answer g c.before.before) (c.loop-row.row + 1 - 1) c.in_default-right_side.field-0 (omega arith) c.in_default-right_side.ensures.answers_by_the_meaning

pub returns-in-Err : goal.returns-in-Err
returns-in-Err g c =
    let m = g.S.System.meaning c.args.system.now in
    let e = c.in-Err.refusal in
    let o = outcome m _ (Some e) (ends_at_column m c.loop-row.row (omega arith, omega arith) c.loop-row.invariant c.loop-column.column e (omega arith, omega arith) c.loop-column.invariant c.in-Err.ensures.answers_by_the_meaning) refl in
    record { answers = o.0; names_the_first_refused_place = o.1 }

pub returns-in-Err-right_side : goal.returns-in-Err-right_side
returns-in-Err-right_side g c =
    let m = g.S.System.meaning c.args.system.now in
    let e = c.in-Err-right_side.refusal in
    let node : IsNode m c.loop-row.row = (omega arith, omega arith) in
    let o = outcome m _ (Some e) (ends_at_side m c.loop-row.row node c.loop-row.invariant (columns_answer g c.before) e c.in-Err-right_side.ensures.answers_by_the_meaning) refl in
    record { answers = o.0; names_the_first_refused_place = o.1 }

pub returns-in_default-right_side : goal.returns-in_default-right_side
returns-in_default-right_side g c =
    let m = g.S.System.meaning c.args.system.now in
    let node : IsNode m c.loop-row.row = (omega arith, omega arith) in
    let o = outcome m _ None (row_passes m c.loop-row.row node c.loop-row.invariant (columns_answer g c.before.before) m.size c.in_default-right_side.field-0 (omega arith) c.in_default-right_side.ensures.answers_by_the_meaning) refl in
    record { answers = o.0; names_the_first_refused_place = o.1 }
