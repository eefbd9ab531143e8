-- Lists with an entry for each node: where the first entry is that is not allowed.
use Rattle.std.specs.Prelude.{◌≡◌, ℕ, ◌+◌, ◌<◌, ◌≤◌, Bool, true, false, cond, Some, None, Option, ◌==◌, nat_eq, refl}
use Rattle.std.proofs.Common.{◌∙◌}
use Rattle.std.proofs.lemmas.Bool.{eq-eqb, eqb-true}
use Rattle.balance.specs.declared.refusal.Refusal.{Refusal}
use Rattle.balance.specs.declared.refusal.Refusal.TheVariants.{Entry}
use Rattle.balance.specs.Places.{first}
use Rattle.balance.proofs.Entries.{none_all, test_passed}
use Rattle.balance.proofs.Searches.{first_stops, none_of}
use Rattle.systems.specs.Entries.{entries_refusal}

module _ (n count : ℕ) (allowed : ℕ → Bool) where
  abbrev pub entry_refusal : ℕ → Option Refusal
  entry_refusal k = cond (allowed k) None (Some (Entry k))

  module _ (counted : count ≡ n) where
    pub searched : entries_refusal n count allowed ≡ first entry_refusal n
    searched = let t : nat_eq count n ≡ true = eq-eqb count n counted in rw t

    pub all_allowed : ((k : ℕ) → 1 ≤ k → k ≤ n → allowed k ≡ true) → entries_refusal n count allowed ≡ None
    all_allowed h = searched ∙ none_all entry_refusal n (λ k a b. rw (h k a b) refl)

    pub first_not_allowed : (k : ℕ) → first entry_refusal k ≡ None → allowed (k + 1) ≡ false → k < n → entries_refusal n count allowed ≡ Some (Entry (k + 1))
    first_not_allowed k h e l =
        let a : entry_refusal (k + 1) ≡ Some (Entry (k + 1)) = rw e in
        searched ∙ first_stops entry_refusal (Entry (k + 1)) k n h a l

  pub taken : entries_refusal n count allowed ≡ None → (count ≡ n) × ((k : ℕ) → 1 ≤ k → k ≤ n → allowed k ≡ true)
  taken h =
      let t = test_passed (count == n) (first entry_refusal n) (Entry 0) h in
      (eqb-true count n t.0, λ k a b. (test_passed (allowed k) None (Entry k) (none_of entry_refusal n t.1 k a b)).0)
