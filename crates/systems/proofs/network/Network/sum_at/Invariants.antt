use Rattle.std.proofs.Common.{◌≡◌, ◌*◌, ◌^◌, vec_items}
use Rattle.balance.specs.Ranges.{Between, total}
use Rattle.systems.specs.Networks.{record_at, additions, sum_at}
use Rattle.systems.proofs.network.Network.sum_at.Given as goal

abbrev pub invariant-loop-record : goal.invariant-loop-record
invariant-loop-record l = record {
  sum_so_far : total (λ k. sum_at l.row l.column (additions l.self.size (record_at (vec_items l.self.records) k))) l.record-index ≡ l.sum;
  keeps_the_limit : Between (l.record-index * 2 ^ 52) l.sum;
}
