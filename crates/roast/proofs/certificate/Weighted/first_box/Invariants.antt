use Rattle.std.proofs.Common.{◌-◌}
use Rattle.roast.specs.Certificates.{first_range, wide_refusal}
use Rattle.roast.proofs.Certified.{Filled}
use Rattle.roast.specs.Assembled.{meant}
use Rattle.roast.proofs.certificate.Weighted.first_box.Given as goal

abbrev pub invariant-loop-node : goal.invariant-loop-node
invariant-loop-node l =
    let m = meant l.self.matrix.now in
    Filled (wide_refusal m l.self.numbers.now) (first_range m l.self.numbers.now) l.bounds (l.node - 1)
