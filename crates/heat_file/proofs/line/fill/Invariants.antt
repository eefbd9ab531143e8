use Rattle.heat_file.proofs.Pieces.{pieces}
use Rattle.heat_file.proofs.Filling.{Filled}
use Rattle.heat_file.proofs.line.fill.Given as goal

abbrev pub invariant-loop-number : goal.invariant-loop-number
invariant-loop-number l = Filled l.text (pieces 32 l.words) l.numbers l.number-index
