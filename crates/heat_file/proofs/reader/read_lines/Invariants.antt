use Rattle.heat_file.proofs.Pieces.{pieces}
use Rattle.heat_file.proofs.Walking.{Reading}
use Rattle.heat_file.proofs.reader.read_lines.Given as goal

abbrev pub invariant-loop-line : goal.invariant-loop-line
invariant-loop-line l = Reading l.text l.from l.initial.cells l.initial.certificate l.standing l.place (pieces 10 l.line-iterator) l.cells l.certificate
