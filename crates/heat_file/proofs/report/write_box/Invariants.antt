use Rattle.std.proofs.Common.{◌++◌}
use Rattle.heat_file.specs.Reports.{rest_line, box_report}
use Rattle.heat_file.proofs.Buffers.{nodes_behind, Written}
use Rattle.heat_file.proofs.report.write_box.Given as goal

abbrev pub invariant-loop-k : goal.invariant-loop-k
invariant-loop-k l = Written (box_report l.ranges l.rests) l.fn.out (nodes_behind l.ranges l.k ++ rest_line l.rests) l.at l.out
