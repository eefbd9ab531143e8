use Rattle.std.proofs.Common.{◌≡◌, ◌+◌, ◌-◌, length, sym, ap, ◌∙◌, arith, rules}
use Rattle.roast.specs.Certificates.{first_range}
use Rattle.roast.proofs.Certified.{rows_given, fills, stops, range_narrow, box_done}
use Rattle.roast.proofs.Sums.{length_listed}
use Rattle.roast.specs.Assembled.{meant}
use Rattle.roast.proofs.certificate.Weighted.first_box.Goals as goal

pub returns-in_err-range : goal.returns-in_err-range
returns-in_err-range c =
    let w = c.args.self.now in
    let m = meant w.matrix.now in
    let r = rows_given m w.numbers.now _ c.in_ok-rows.ensures in
    let e = stops _ _ _ _ (omega arith) c.loop-node.invariant m.size c.in_err-range.field-0.0 (omega arith) (sym c.in_err-range.was ∙ c.range.ensures) in
    rw (r.answered, e) (search rules)

pub push-requires : goal.push-requires
push-requires c =
    let w = c.args.self.now in
    let m = meant w.matrix.now in
    let few = w.matrix.now.few in
    let l = ap length c.loop-node.invariant.items ∙ length_listed (first_range m w.numbers.now) (c.loop-node.node - 1) in
    record { room = omega arith; narrow = range_narrow m w.numbers.now c.loop-node.node c.in_ok-range.field-0 (sym c.in_ok-range.was ∙ c.range.ensures) }

pub loop-node-preserved : goal.loop-node-preserved
loop-node-preserved c = fills _ _ _ _ (omega arith) c.loop-node.invariant (c.loop-node.node + 1 - 1) c.in_ok-range.field-0 _ (omega arith) c.push.ensures (sym c.in_ok-range.was ∙ c.range.ensures)

pub returns : goal.returns
returns c =
    let w = c.args.self.now in
    let m = meant w.matrix.now in
    let count = w.counted in
    let r = rows_given m w.numbers.now _ c.in_ok-rows.ensures in
    let e : c.loop-node.node - 1 ≡ m.size = omega arith in
    let f = c.loop-node.invariant in
    box_done m w.numbers.now c.loop-node.bounds (c.loop-node.node - 1) e r.answered f
