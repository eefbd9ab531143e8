use Rattle.std.proofs.Common.{◌≡◌, ◌+◌, ◌-◌, sym, ◌∙◌, arith}
use Rattle.std.proofs.lemmas.Result.{err_from_is_err_and}
use Rattle.balance.specs.Ranges.{only, times, meets}
use Rattle.balance.specs.Meanings.{IsNode}
use Rattle.balance.specs.Places.{row_refusal}
use Rattle.balance.specs.Points.{numerator, fits}
use Rattle.balance.proofs.Searches.{unrefused, refused_by, refused_so, first_ends, row_passes, ends_at_side, side_range}
use Rattle.balance.proofs.PointRows.{allowed_over, denominator_held, side_ordered, scaled_fits, every_next}
use Rattle.balance.proofs.point.every_row_fits.Goals as goal

pub returns-in_err-sum : goal.returns-in_err-sum
returns-in_err-sum g c =
    let m = g.S.System.meaning c.args.system.now in
    let size = c.size-row-end.ensures.is_the_size in
    let k = c.loop-row.row in
    let e = c.in_err-sum.field-0.0 in
    let r = err_from_is_err_and c.from_residual.result c.from_residual.ensures.1 in
    let node : IsNode m k = (omega arith, omega arith) in
    let t = refused_by _ e _ (sym c.in_err-sum.was ∙ c.row_sum.ensures) in
    rw (r.1, r.2) (refused_so _ e _ (first_ends (row_refusal m) e k m.size node.0 node.1 c.loop-row.invariant.0 (rw t)))

pub returns-in_err-right_side : goal.returns-in_err-right_side
returns-in_err-right_side g c =
    let m = g.S.System.meaning c.args.system.now in
    let size = c.size-row-end.ensures.is_the_size in
    let k = c.loop-row.row in
    let e = c.in_err-right_side.field-0.0 in
    let r = err_from_is_err_and c.from_residual-in_err-right_side.result c.from_residual-in_err-right_side.ensures.1 in
    let node : IsNode m k = (omega arith, omega arith) in
    let t = unrefused _ c.in_ok-sum.sum _ (sym c.in_ok-sum.was ∙ c.row_sum.ensures) in
    rw (r.1, r.2) (refused_so _ e _ (ends_at_side m k node c.loop-row.invariant.0 t.0 e (sym c.in_err-right_side.was ∙ c.right_side.ensures.answers_by_the_meaning)))

pub multiple-requires : goal.multiple-requires
multiple-requires g c =
    let m = g.S.System.meaning c.args.system.now in
    let lawful = g.met.S.System.lawful c.args.system.now in
    let size = c.size-row-end.ensures.is_the_size in
    let k = c.loop-row.row in
    let q = c.args.point.now.denominator in
    let node : IsNode m k = (omega arith, omega arith) in
    let over = (allowed_over _ _ q c.requires.counted c.args.point.now.allowed).denominator in
    let side = side_range m k node c.in_ok-right_side.field-0 c.from-side.result (sym c.in_ok-right_side.was ∙ c.right_side.ensures.answers_by_the_meaning) c.from-side.ensures in
    let held = denominator_held q over in
    record {
      in_order = side_ordered m lawful q over k node _ _ side held;
      fits = scaled_fits m lawful q over k node _ _ side held;
    }

pub loop-row-preserved : goal.loop-row-preserved
loop-row-preserved g c =
    let m = g.S.System.meaning c.args.system.now in
    let size = c.size-row-end.ensures.is_the_size in
    let k = c.loop-row.row in
    let p = c.args.point.now in
    let v = c.loop-row.invariant in
    let node : IsNode m k = (omega arith, omega arith) in
    let a = sym c.in_ok-right_side.was ∙ c.right_side.ensures.answers_by_the_meaning in
    let t = unrefused _ c.in_ok-sum.sum _ (sym c.in_ok-sum.was ∙ c.row_sum.ensures) in
    let side = side_range m k node c.in_ok-right_side.field-0 c.from-side.result a c.from-side.ensures in
    let held = denominator_held p.denominator (allowed_over _ _ p.denominator c.requires.counted p.allowed).denominator in
    let scaled = c.multiple.ensures ∙ (λ i. times (side i) (only (held i))) in
    let here : c.meets.result ≡ fits m (numerator p.numerators.now) p.denominator k = c.meets.ensures.touching_included ∙ (λ i. meets (t.1 i) (scaled i)) in (
      row_passes m k node v.0 t.0 (k + 1 - 1) c.in_ok-right_side.field-0 (omega arith) a,
      every_next (fits m (numerator p.numerators.now) p.denominator) k (k + 1 - 1) c.loop-row.all c.meets.result c.both-all.result node.0 (omega arith) v.1 here c.both-all.ensures,
    )
