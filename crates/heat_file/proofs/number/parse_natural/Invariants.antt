use Rattle.heat_file.proofs.Numerals.{ReadSoFar}
use Rattle.heat_file.proofs.number.parse_natural.Given as goal

abbrev pub invariant-loop-digit : goal.invariant-loop-digit
invariant-loop-digit l = ReadSoFar l.digits l.digit-index l.n
