-- Lists with an entry for each node, as layers take them.
use Rattle.std.specs.Prelude.{◌≡◌, ℕ, ◌+◌, ◌<◌, Bool, cond, List, length, take, slice_index_or, Some, None, Option, ◌==◌}
use denote.Ref.{Bor}
use Rattle.balance.specs.declared.refusal.Refusal.{Refusal}
use Rattle.balance.specs.declared.refusal.Refusal.TheVariants.{Entry}
use Rattle.balance.specs.Places.{first}

-- as many entries as nodes; then entry by entry, where a test of the entries 1 to n tells which are allowed
abbrev pub entries_refusal : ℕ → ℕ → (ℕ → Bool) → Option Refusal
entries_refusal n count allowed = cond (count == n) (first (λ k. cond (allowed k) None (Some (Entry k))) n) (Some (Entry 0))

-- a call's results at entry k + 1 of a list, behind the entries before it, are those of a test of the entries 1 to n
abbrev pub Tests : {T : Type 0} → (Bor (List T) → Bor T → Bool → Type 0) → List T → (ℕ → Bool) → Type 0
Tests {T} gives xs allowed = (k : ℕ) (before : Bor (List T)) (entry : Bor T) (r : Bool) → k < length xs → before.now ≡ take k xs → ((d : T) → entry.now ≡ slice_index_or xs k d) → gives before entry r → r ≡ allowed (k + 1)
