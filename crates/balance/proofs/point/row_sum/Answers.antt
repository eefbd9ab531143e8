use Rattle.std.proofs.Common.{◌≡◌, ℕ, ◌+◌, ◌-◌, Option, sym, ◌∙◌, arith}
use Rattle.std.proofs.lemmas.Result.{err_from_is_err_and}
use Rattle.balance.specs.declared.refusal.Refusal.{Refusal}
use Rattle.balance.specs.Ranges.{only, times}
use Rattle.balance.specs.Meanings.{IsNode}
use Rattle.balance.specs.Places.{refusal_at}
use Rattle.balance.specs.Points.{numerator}
use Rattle.balance.proofs.Searches.{first_next, first_ends, column_answers, column_refuses, column_range, refused_so}
use Rattle.balance.proofs.PointRows.{part, allowed_over, number_held, total_next, factor_ordered, product_fits, sum_fits}
use Rattle.balance.proofs.point.row_sum.Goals.{After-multiple}
use Rattle.balance.proofs.point.row_sum.Goals as goal

pub returns-in_err-coefficient : goal.returns-in_err-coefficient
returns-in_err-coefficient g c =
    let m = g.S.System.meaning c.args.system.now in
    let f : ℕ → Option Refusal = λ j. refusal_at (m.coefficient c.args.row j) in
    let size = c.size-column-end.ensures.is_the_size in
    let k = c.loop-column.column in
    let e = c.in_err-coefficient.field-0.0 in
    let r = err_from_is_err_and c.from_residual.result c.from_residual.ensures.1 in
    let here : IsNode m k = (omega arith, omega arith) in
    let t = column_refuses m c.args.row c.requires.row_is_a_node k e here (sym c.in_err-coefficient.was ∙ c.coefficient.ensures.answers_by_the_meaning) in
    rw (r.1, r.2) (refused_so _ e _ (first_ends f e k m.size here.0 here.1 c.loop-column.invariant.0 t))

pub multiple-requires : goal.multiple-requires
multiple-requires g c =
    let m = g.S.System.meaning c.args.system.now in
    let lawful = g.met.S.System.lawful c.args.system.now in
    let size = c.size-column-end.ensures.is_the_size in
    let i = c.args.row in
    let k = c.loop-column.column in
    let p = c.args.point.now in
    let node = c.requires.row_is_a_node in
    let here : IsNode m k = (omega arith, omega arith) in
    let allows = allowed_over _ _ p.denominator c.requires.counted p.allowed in
    let coefficient = column_range m i node k c.in_ok-coefficient.field-0 c.from-a.result here (sym c.in_ok-coefficient.was ∙ c.coefficient.ensures.answers_by_the_meaning) c.from-a.ensures in
    let held = number_held _ _ _ allows k here.0 here.1 in
    record {
      in_order = factor_ordered m lawful _ _ allows i node k here _ _ coefficient held;
      fits = product_fits m lawful _ _ allows i node k here _ _ coefficient held;
    }

part_is : (g : _) (c : After-multiple g) → c.multiple.result ≡ part (g.S.System.meaning c.args.system.now) (numerator c.args.point.now.numerators.now) c.args.row c.loop-column.column
part_is g c =
    let m = g.S.System.meaning c.args.system.now in
    let size = c.size-column-end.ensures.is_the_size in
    let k = c.loop-column.column in
    let p = c.args.point.now in
    let here : IsNode m k = (omega arith, omega arith) in
    let coefficient = column_range m c.args.row c.requires.row_is_a_node k c.in_ok-coefficient.field-0 c.from-a.result here (sym c.in_ok-coefficient.was ∙ c.coefficient.ensures.answers_by_the_meaning) c.from-a.ensures in
    let held = number_held _ _ _ (allowed_over _ _ p.denominator c.requires.counted p.allowed) k here.0 here.1 in
    c.multiple.ensures ∙ (λ i. times (coefficient i) (only (held i)))

pub sum-total-requires : goal.sum-total-requires
sum-total-requires g c =
    let m = g.S.System.meaning c.args.system.now in
    let lawful = g.met.S.System.lawful c.args.system.now in
    let size = c.size-column-end.ensures.is_the_size in
    let k = c.loop-column.column in
    let p = c.args.point.now in
    let here : IsNode m k = (omega arith, omega arith) in
    sum_fits m lawful _ _ (allowed_over _ _ p.denominator c.requires.counted p.allowed) c.args.row c.requires.row_is_a_node k c.loop-column.total c.multiple.result here c.loop-column.invariant.1 (part_is g c)

pub loop-column-preserved : goal.loop-column-preserved
loop-column-preserved g c =
    let m = g.S.System.meaning c.args.system.now in
    let size = c.size-column-end.ensures.is_the_size in
    let i = c.args.row in
    let k = c.loop-column.column in
    let v = c.loop-column.invariant in
    let here : IsNode m k = (omega arith, omega arith) in
    let a = sym c.in_ok-coefficient.was ∙ c.coefficient.ensures.answers_by_the_meaning in (
      first_next (λ j. refusal_at (m.coefficient i j)) k (k + 1 - 1) here.0 (omega arith) v.0 (column_answers m i c.requires.row_is_a_node k c.in_ok-coefficient.field-0 here a),
      total_next (part m (numerator c.args.point.now.numerators.now) i) k (k + 1 - 1) c.loop-column.total c.multiple.result c.sum-total.result here.0 (omega arith) v.1 (part_is g c.before) c.sum-total.ensures,
    )
