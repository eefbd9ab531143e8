use Rattle.std.proofs.Common.{◌≡◌, ◌-◌, ◌<◌, length, Ok}
use Rattle.roast.specs.Narrowing.{narrowed}
use Rattle.roast.specs.Machine.{row_steps}
use Rattle.roast.specs.Assembled.{meant}
use Rattle.roast.proofs.bounds.Bounds.row_steps.Given as goal

abbrev pub invariant-loop-node : goal.invariant-loop-node
invariant-loop-node l = record {
  made : row_steps (narrowed (meant l.matrix)) l.initial.self (l.node - 1) ≡ (Ok l.changes, l.self);
  nodes : length l.self ≡ length l.initial.self;
  few : l.changes < l.node;
}
