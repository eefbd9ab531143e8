use Rattle.std.proofs.Common.{◌≡◌, ℕ, Bool, length, None}
use Rattle.balance.specs.Places.{first}
use Rattle.systems.specs.Entries.{Tests}
use Rattle.systems.specs.EntriesLemmas.{entry_refusal}
use Rattle.systems.proofs.entries.check_entries.Given as goal

abbrev pub invariant-loop-k : goal.invariant-loop-k
invariant-loop-k g l = (test : ℕ → Bool) → Tests (goal.F-post g l.allowed) l.entries test → first (entry_refusal l.size (length l.entries) test) l.k ≡ None
