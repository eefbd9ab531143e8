use Rattle.std.proofs.Common.{◌≡◌, None}
use Rattle.balance.specs.Places.{first}
use Rattle.systems.specs.Networks.{record_at, record_refusal}
use Rattle.systems.proofs.network.check_records.Given as goal

abbrev pub invariant-loop-k : goal.invariant-loop-k
invariant-loop-k l = first (λ k. record_refusal l.size k (record_at l.records k)) l.k ≡ None
