use Rattle.std.proofs.Common.{◌*◌, ◌^◌, ◌<◌, ◌≤◌, sym, ◌∙◌, mul-le-mul, arith}
use Rattle.roast.proofs.Sums.{rounded_up_above, div_ceil_is}
use Rattle.roast.proofs.certificate.Row.grown.Goals as goal

pub returns-else-need-saturating_mul : goal.returns-else-need-saturating_mul
returns-else-need-saturating_mul c =
    let n = c.args.number in
    let r = c.args.self in
    let b : n * r.side ≤ 2 ^ 20 * 2 ^ 42 = mul-le-mul c.requires.number_is_small c.requires.row_is_narrow.0 in
    let s = c.saturating_mul.ensures in
    let f = c.if-need-saturating_mul.false in
    let l : c.args.end * r.margin < n * r.side = grind arith in
    c.div_ceil.ensures ∙ div_ceil_is (n * r.side) r.margin c.requires.row_is_narrow.1 ∙ sym (rounded_up_above (n * r.side) r.margin c.args.end c.requires.row_is_narrow.1 l)
