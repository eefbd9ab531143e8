use Rattle.std.proofs.Common.{◌≡◌, ◌*◌, ◌^◌, drop}
use Rattle.balance.specs.Ranges.{Between, plus}
use Rattle.systems.specs.Networks.{sum_at}
use Rattle.systems.proofs.network.sum_of.Given as goal

abbrev pub invariant-loop-addition : goal.invariant-loop-addition
invariant-loop-addition l = record {
  what_is_left : plus l.sum (sum_at l.row l.column (drop l.addition-index l.terms)) ≡ sum_at l.row l.column l.terms;
  keeps_the_limit : Between (l.addition-index * 2 ^ 50) l.sum;
}
