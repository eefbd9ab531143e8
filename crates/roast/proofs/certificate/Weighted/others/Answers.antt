use Rattle.std.proofs.Common.{◌≡◌, ℕ, ◌+◌, ◌*◌, ◌<◌, List, get_or, pos, eqb, if◌then◌else◌, ap, ◌∙◌, arith}
use Rattle.balance.specs.declared.range.Range.{Range}
use Rattle.balance.specs.Meanings.{coefficient_range}
use Rattle.balance.specs.Ranges.{only}
use Rattle.roast.specs.Certificates.{magnitude, u, others}
use Rattle.roast.specs.Matrices.{entry}
use Rattle.roast.specs.Assembled.{meant}
use Rattle.roast.proofs.Matrices.{row_cell}
use Rattle.roast.proofs.Sums.{sum_without_more}
use Rattle.roast.proofs.certificate.Weighted.others.Goals as goal

pub loop-j-preserved : goal.loop-j-preserved
loop-j-preserved c =
    let w = c.args.self.now in
    let a = w.matrix.now in
    let i = c.args.row in
    let j = c.loop-j.j in
    let f = λ (k : ℕ). magnitude (coefficient_range (meant a) i k) * u w.numbers.now k in
    let l : j < a.size = omega (arith, c.row-cells.ensures.long) in
    let here : get_or c.row-cells.result.now j (only (pos 0)) ≡ entry a.coefficients i (j + 1) = ap (λ (r : List Range). get_or r j (only (pos 0))) c.row-cells.ensures.is ∙ row_cell a.size a.coefficients i j l in
    let adds : c.other-sum.result ≡ (if eqb (j + 1) i then 0 else f (j + 1)) = c.other-sum.ensures.is ∙ (λ k. if eqb (j + 1) i then 0 else magnitude (here k) * c.number.ensures.is k) in
    record {
      is = sum_without_more f i j c.loop-j.sum c.other-sum.result c.loop-j.invariant.is adds;
      small = omega (arith, c.loop-j.invariant.small, c.other-sum.ensures.small);
    }

pub returns : goal.returns
returns c =
    let w = c.args.self.now in
    let few = w.matrix.now.few in
    let small = c.loop-j.invariant.small in
    let e : c.loop-j.j ≡ w.matrix.now.size = omega (arith, c.row-cells.ensures.long) in
    record { is = c.loop-j.invariant.is ∙ ap (others (meant w.matrix.now) w.numbers.now c.args.row) e; small = omega arith }
