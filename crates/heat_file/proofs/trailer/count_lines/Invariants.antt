use Rattle.heat_file.proofs.Trailers.{Counted}
use Rattle.heat_file.proofs.trailer.count_lines.Given as goal

abbrev pub invariant-loop-byte : goal.invariant-loop-byte
invariant-loop-byte l = Counted l.text l.byte-index l.count
