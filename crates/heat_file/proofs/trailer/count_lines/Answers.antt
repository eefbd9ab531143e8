use Rattle.std.proofs.Common.{arith}
use Rattle.heat_file.proofs.Trailers.{counted_on, counted_all}
use Rattle.heat_file.proofs.trailer.count_lines.Goals as goal

pub loop-byte-preserved : goal.loop-byte-preserved
loop-byte-preserved c = counted_on c.args.text.now c.loop-byte.byte-index c.loop-byte.count c.from-count.result (omega arith) c.from-count.ensures c.loop-byte.invariant

pub returns : goal.returns
returns c = counted_all c.args.text.now c.loop-byte.byte-index c.loop-byte.count (omega arith) c.loop-byte.invariant
