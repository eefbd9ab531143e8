use Rattle.std.proofs.Common.{◌≡◌, ◌-◌, length, take}
use Rattle.roast.specs.Certificates.{dominance_refusal}
use Rattle.roast.specs.FirstBox.{row}
use Rattle.roast.proofs.Certified.{Filled}
use Rattle.roast.specs.Assembled.{meant}
use Rattle.roast.proofs.certificate.Weighted.rows.Given as goal

abbrev pub invariant-loop-node : goal.invariant-loop-node
invariant-loop-node l =
    let m = meant l.self.matrix.now in
    (length l.rows ≡ 32) × Filled (dominance_refusal m l.self.numbers.now) (row m l.self.numbers.now) (take (l.node - 1) l.rows) (l.node - 1)
