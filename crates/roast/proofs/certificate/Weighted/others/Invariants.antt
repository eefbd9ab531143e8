use Rattle.std.proofs.Common.{◌≡◌, ◌*◌, ◌^◌, ◌≤◌}
use Rattle.roast.specs.Certificates.{others}
use Rattle.roast.specs.Assembled.{meant}
use Rattle.roast.proofs.certificate.Weighted.others.Given as goal

abbrev pub invariant-loop-j : goal.invariant-loop-j
invariant-loop-j l = record {
  is : l.sum ≡ others (meant l.self.matrix.now) l.self.numbers.now l.row l.j;
  small : l.sum ≤ l.j * 2 ^ 40;
}
