use Rattle.std.proofs.Common.{◌≡◌, ◌-◌}
use Rattle.roast.specs.Narrowing.{narrowed}
use Rattle.file_box.specs.Findings.{settled}
use Rattle.file_box.proofs.finding.settle.Given as goal

abbrev pub invariant-loop : goal.invariant-loop
invariant-loop g l =
    let f = narrowed (g.S.System.meaning l.fn.roast.system) in
    record {
      same_system : l.roast.system ≡ l.fn.roast.system;
      left : settled f l.roast.bounds (64 - l.counter) ≡ settled f l.fn.roast.bounds 64;
    }
