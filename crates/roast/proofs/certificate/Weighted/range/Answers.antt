use Rattle.std.proofs.Common.{◌-◌, ap, ◌∙◌, Ok}
use Rattle.roast.proofs.Certified.{rows_narrow, range_refused, range_taken}
use Rattle.roast.specs.Assembled.{meant}
use Rattle.roast.proofs.certificate.Weighted.range.Goals as goal

pub largest_end-end-requires-clause-rows_are_narrow : goal.largest_end-end-requires-clause-rows_are_narrow
largest_end-end-requires-clause-rows_are_narrow c =
    let w = c.args.self.now in
    rows_narrow (meant w.matrix.now) w.numbers.now c.args.rows.now c.requires.all_rows (λ i p. w.matrix.now.narrow_sides (i - 1)) c.requires.dominant

pub returns-then-end-gt-END_LIMIT : goal.returns-then-end-gt-END_LIMIT
returns-then-end-gt-END_LIMIT c =
    let w = c.args.self.now in
    range_refused (meant w.matrix.now) w.numbers.now c.args.rows.now c.requires.all_rows c.number.result c.args.node c.largest_end-end.result c.number.ensures.is c.largest_end-end.ensures c.if-end-gt-END_LIMIT.true

pub returns : goal.returns
returns c =
    let w = c.args.self.now in
    ap Ok c.limits.ensures ∙ range_taken (meant w.matrix.now) w.numbers.now c.args.rows.now c.requires.all_rows c.number.result c.args.node c.largest_end-end.result c.number.ensures.is c.largest_end-end.ensures c.if-end-gt-END_LIMIT.false
