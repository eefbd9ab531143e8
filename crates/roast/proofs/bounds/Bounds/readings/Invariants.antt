use Rattle.std.proofs.Common.{◌≡◌, ◌++◌, take, drop}
use Rattle.roast.specs.Machine.{readings}
use Rattle.roast.proofs.bounds.Bounds.readings.Given as goal

abbrev pub invariant-loop-i : goal.invariant-loop-i
invariant-loop-i l = record {
  records : take l.i l.list ++ (readings l.self (drop l.i l.list)).0 ≡ (readings l.initial.self l.initial.list).0;
  box : (readings l.self (drop l.i l.list)).1 ≡ (readings l.initial.self l.initial.list).1;
}
