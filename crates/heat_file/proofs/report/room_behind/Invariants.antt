use Rattle.std.proofs.Common.{◌≡◌, ◌+◌, length}
use Rattle.heat_file.specs.Reports.{box_line, node_lines}
use Rattle.heat_file.proofs.Buffers.{nodes_behind}
use Rattle.heat_file.proofs.report.room_behind.Given as goal

abbrev pub invariant-loop-k : goal.invariant-loop-k
invariant-loop-k l = length (box_line (length l.ranges)) + length (node_lines 1 l.ranges) + l.left ≡ l.fn.room + length (nodes_behind l.ranges l.k)
