use Rattle.std.proofs.Common.{◌≡◌, ◌+◌, drop}
use Rattle.firmware.specs.Drums.{read_from}
use Rattle.firmware.proofs.held.take.Given as goal

abbrev pub invariant-loop-i : goal.invariant-loop-i
invariant-loop-i g l = record {
  same_system : l.roast.system ≡ l.fn.roast.system;
  left : read_from l.roast.bounds (l.i + 1) (drop l.i l.ranges) ≡ read_from l.fn.roast.bounds 1 l.ranges;
}
