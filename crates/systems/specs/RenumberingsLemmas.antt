-- Nodes numbered anew: which lists are permutations, and what a renumbering does to solutions.
use Rattle.std.specs.Prelude.{◌≡◌, ℕ, zero, suc, ◌+◌, ◌-◌, ◌<◌, ◌≤◌, Bool, true, false, cond, not, ◌≢◌, ◌↔◌, List, [], ◌∷◌, ◌++◌, ◌||◌, ◌&&◌, take, length, pos, None, ◌==◌, nat_eq, slice_index, refl}
use Rattle.std.specs.List.{list_any}
use Rattle.std.proofs.lemmas.List.{take_more}
use Rattle.std.proofs.lemmas.List.Folds.{list_any-append}
use Rattle.std.proofs.Common.{arith, sym, ap, subst, ◌∙◌}
use Rattle.std.proofs.Math.Decide.{ℕ_discrete}
use Rattle.std.proofs.lemmas.Bool.{and_parts, and_from, eq-eqb, ne_eqb, eqb-true}
use Rattle.std.proofs.Math.Nat.{add-sub_cancel}
use Rattle.std.proofs.lemmas.Bool.Decides.{nat_tests}
use Rattle.balance.specs.declared.range.Range.{Range}
use Rattle.balance.specs.Ranges.{only, times, meets}
use Rattle.balance.specs.Meanings.{Meaning, IsNode, Lawful, Told, EveryPlaceAnswers, range_at, is_node, coefficient_answer, right_side_answer}
use Rattle.balance.specs.Members.{Point}
use Rattle.balance.specs.Places.{every}
use Rattle.balance.specs.Points.{row, fits, Possible}
use Rattle.balance.proofs.Points.{member_answers, solution_fits, fits_solution, every_passes, passes_every}
use Rattle.balance.proofs.Searches.{is_a_node, coefficient_at, right_side_at}
use Rattle.systems.specs.Renumberings.{entry_at, node_below, renumbered, is_new, entry_allowed, order_refusal, Permutation, IsPermutation, Renumbers, RenumbersSolutions}
use Rattle.systems.specs.Permutations.{onto, total_permuted}
use Rattle.balance.proofs.Entries.{from_one}
use Rattle.systems.specs.EntriesLemmas.{taken, all_allowed}
use Rattle.systems.specs.Sums.{total_same}

-- ---- entries that are new

-- the entries before it, as the code looks them up
before_are : (ps : List ℕ) (p k : ℕ) → k ≤ length ps → every (λ j. not (entry_at ps j == p)) k ≡ not (list_any (λ q. q == p) (take k ps))
before_are ps p zero l = refl
before_are ps p (suc k) l =
    let e : suc k ≡ k + 1 = omega arith in
    let t : take (suc k) ps ≡ take k ps ++ slice_index ps k ∷ [] = ap (λ i. take i ps) e ∙ take_more ps k 0 (omega arith) in
    let a : entry_at ps (suc k) ≡ slice_index ps k = ap (entry_at ps) e ∙ from_one ps k 0 in
    let more : list_any (λ q. q == p) (take (suc k) ps) ≡ (list_any (λ q. q == p) (take k ps) || (slice_index ps k == p || false)) = ap (list_any (λ q. q == p)) t ∙ list_any-append (λ q. q == p) (take k ps) (slice_index ps k ∷ []) in
    rw (before_are ps p k (omega arith), a, more) (neither (list_any (λ q. q == p) (take k ps)) (slice_index ps k == p))
  where
    neither : (s t : Bool) → cond (not s) (not t) false ≡ not (s || (t || false))
    neither true t = refl
    neither false true = refl
    neither false false = refl

pub entry_allowed_is : (n : ℕ) (ps : List ℕ) (k : ℕ) → k ≤ length ps → entry_allowed n ps (k + 1) ≡ (is_node n (slice_index ps k) && not (list_any (λ q. q == slice_index ps k) (take k ps)))
entry_allowed_is n ps k l =
    let a : is_new ps (k + 1) ≡ not (list_any (λ q. q == slice_index ps k) (take k ps)) = (λ i. every (λ j. not (entry_at ps j == from_one ps k 0 i)) (add-sub_cancel k 1 i)) ∙ before_are ps (slice_index ps k) k l in
    λ i. is_node n (from_one ps k 0 i) && a i

-- ---- the lists that are taken are the permutations

module _ (n : ℕ) (ps : List ℕ) where
  module _ (allowed : (k : ℕ) → 1 ≤ k → k ≤ n → entry_allowed n ps k ≡ true) where
    entry_passes : (k : ℕ) → 1 ≤ k → k ≤ n → (is_node n (entry_at ps k) ≡ true) × (is_new ps k ≡ true)
    entry_passes k a b = and_parts (is_node n (entry_at ps k)) (is_new ps k) (allowed k a b)

    entries_within : (i : ℕ) → 1 ≤ i → i ≤ n → (1 ≤ entry_at ps i) × (entry_at ps i ≤ n)
    entries_within i a b = let h = (entry_passes i a b).0 in (grind (arith, nat_tests), grind (arith, nat_tests))

    earlier : (i j : ℕ) → 1 ≤ i → i < j → j ≤ n → entry_at ps i ≢ entry_at ps j
    earlier i j a l b e = let z : ◌≡◌ {A = ℕ} 0 1 = cc (every_passes (λ i. not (entry_at ps i == entry_at ps j)) (j - 1) (entry_passes j (omega arith) b).1 i a (omega arith), ap not (eq-eqb (entry_at ps i) (entry_at ps j) e)) in omega arith

    entries_apart : (i j : ℕ) → 1 ≤ i → i ≤ n → 1 ≤ j → j ≤ n → entry_at ps i ≡ entry_at ps j → i ≡ j
    entries_apart i j a b c d e = by (ℕ_discrete i j)
      where
        by : Dec (i ≡ j) → i ≡ j
        by (yes f) = f
        by (no f) = absurd (omega (arith, f, λ (l : i < j). earlier i j a l d e, λ (l : j < i). earlier j i c l b (sym e)))

  pub permutes : order_refusal n ps ≡ None → IsPermutation n ps
  permutes h =
      let t = taken n (length ps) (entry_allowed n ps) h in
      (t.0, record { within = entries_within t.1; one_to_one = entries_apart t.1; onto = onto n (entry_at ps) (entries_within t.1) (entries_apart t.1) })

  pub permutation_taken : IsPermutation n ps → order_refusal n ps ≡ None
  permutation_taken (count, p) = all_allowed n (length ps) (entry_allowed n ps) count (λ k a b. and_from _ _ (entry_is_node k a b) (entry_is_new k a b))
    where
      entry_is_node : (k : ℕ) → 1 ≤ k → k ≤ n → is_node n (entry_at ps k) ≡ true
      entry_is_node k a b = is_a_node n (entry_at ps k) (p.within k a b).0 (p.within k a b).1

      apart : (j k : ℕ) → j ≤ k - 1 → 1 ≤ j → j ≢ k
      apart j k a b e = omega arith

      entry_is_new : (k : ℕ) → 1 ≤ k → k ≤ n → is_new ps k ≡ true
      entry_is_new k a b = passes_every (λ j. not (entry_at ps j == entry_at ps k)) (k - 1) (λ j c d. ap not (ne_eqb (entry_at ps j) (entry_at ps k) (λ e. apart j k d c (p.one_to_one j k c (omega arith) a b e))))

-- ---- the nodes below, and the law of systems

node_below_is : (ps : List ℕ) (n i : ℕ) → length ps ≡ n → node_below ps n i ≡ entry_at ps i
node_below_is ps n i count = let t : nat_eq (length ps) n ≡ true = eq-eqb (length ps) n count in rw t

-- of a list that was taken for some size, over a system of any
pub below_within : (ps : List ℕ) (k n i : ℕ) → order_refusal k ps ≡ None → 1 ≤ i → i ≤ n → (1 ≤ node_below ps n i) × (node_below ps n i ≤ n)
below_within ps k n i taken a b = by (length ps == n) refl
  where
    p : IsPermutation k ps
    p = permutes k ps taken

    by : (t : Bool) → (length ps == n) ≡ t → (1 ≤ cond t (entry_at ps i) i) × (cond t (entry_at ps i) i ≤ n)
    by true e = let c = eqb-true (length ps) n e in let w = p.1.within i a (omega (arith, p.0)) in (w.0, omega (arith, w.1, p.0))
    by false e = (a, b)

-- of any list that leads from nodes to nodes
module _ (ps : List ℕ) (m : Meaning) (nodes : (i : ℕ) → IsNode m i → IsNode m (node_below ps m.size i)) where
  pub coefficient_below : (i j : ℕ) → IsNode m i → IsNode m j → coefficient_answer m (node_below ps m.size i) (node_below ps m.size j) ≡ coefficient_answer (renumbered ps m) i j
  coefficient_below i j h k = coefficient_at m _ _ (nodes i h) (nodes j k) ∙ sym (coefficient_at (renumbered ps m) i j h k)

  pub right_side_below : (i : ℕ) → IsNode m i → right_side_answer m (node_below ps m.size i) ≡ right_side_answer (renumbered ps m) i
  right_side_below i h = right_side_at m _ (nodes i h) ∙ sym (right_side_at (renumbered ps m) i h)

  pub lawful_below : Lawful m → Lawful (renumbered ps m)
  lawful_below lawful = record {
    some = lawful.some;
    few = lawful.few;
    coefficients = λ i j h k. lawful.coefficients _ _ (nodes i h) (nodes j k);
    right_sides = λ i h. lawful.right_sides _ (nodes i h);
  }

-- of a list that was taken for the system's size
module _ (ps : List ℕ) (m : Meaning) (taken : order_refusal m.size ps ≡ None) where
  below_is : (i : ℕ) → node_below ps m.size i ≡ entry_at ps i
  below_is i = node_below_is ps m.size i (permutes m.size ps taken).0

  below_is_node : (i : ℕ) → IsNode m i → IsNode m (node_below ps m.size i)
  below_is_node i h = below_within ps m.size m.size i taken h.0 h.1

  pub coefficient_passed : (i j : ℕ) → IsNode m i → IsNode m j → coefficient_answer m (entry_at ps i) (entry_at ps j) ≡ coefficient_answer (renumbered ps m) i j
  coefficient_passed i j h k = (λ d. coefficient_answer m (sym (below_is i) d) (sym (below_is j) d)) ∙ coefficient_below ps m below_is_node i j h k

  pub right_side_passed : (i : ℕ) → IsNode m i → right_side_answer m (entry_at ps i) ≡ right_side_answer (renumbered ps m) i
  right_side_passed i h = ap (right_side_answer m) (sym (below_is i)) ∙ right_side_below ps m below_is_node i h

  pub renumbered_lawful : Lawful m → Lawful (renumbered ps m)
  renumbered_lawful = lawful_below ps m below_is_node

-- ---- the node of the layer above a node

above : (ℕ → ℕ) → ℕ → ℕ → ℕ
above p zero k = 0
above p (suc n) k = cond (p (suc n) == k) (suc n) (above p n k)

above_found : (p : ℕ → ℕ) (n k i : ℕ) → 1 ≤ i → i ≤ n → p i ≡ k → (1 ≤ above p n k) × (above p n k ≤ n) × (p (above p n k) ≡ k)
unfolding above
above_found p zero k i a b e = absurd (omega arith)
above_found p (suc n) k i a b e = by (p (suc n) == k) refl (λ c. above_found p n k i a c e)
  where
    by : (t : Bool) → (p (suc n) == k) ≡ t → (i ≤ n → (1 ≤ above p n k) × (above p n k ≤ n) × (p (above p n k) ≡ k)) → (1 ≤ cond t (suc n) (above p n k)) × (cond t (suc n) (above p n k) ≤ suc n) × (p (cond t (suc n) (above p n k)) ≡ k)
    by true h rest = (omega arith, omega arith, eqb-true _ _ h)
    by false h rest =
        let ne : p (suc n) ≢ k = λ f. let z : ◌≡◌ {A = ℕ} 0 1 = cc (eq-eqb (p (suc n)) k f) in omega arith in
        let l : i ≢ suc n = λ f. ne (sym (ap p f) ∙ e) in
        let r = rest (omega (arith, l)) in
        (r.0, omega (arith, r.1), r.2)

-- ---- solutions

module _ (m : Meaning) (lawful : Lawful m) (ps : List ℕ) (count : length ps ≡ m.size) (permutation : Permutation m.size (entry_at ps)) where
  abbrev p : ℕ → ℕ
  p = entry_at ps

  abbrev layer : Meaning
  layer = renumbered ps m

  below_p : (i : ℕ) → node_below ps m.size i ≡ p i
  below_p i = node_below_is ps m.size i count

  coefficient_is : (i j : ℕ) → layer.coefficient i j ≡ m.coefficient (p i) (p j)
  coefficient_is i j = λ k. m.coefficient (below_p i k) (below_p j k)

  right_side_is : (i : ℕ) → layer.right_side i ≡ m.right_side (p i)
  right_side_is i = ap m.right_side (below_p i)

  node_of : (i : ℕ) → IsNode m i → IsNode m (p i)
  node_of i h = permutation.within i h.0 h.1

  answers_above : EveryPlaceAnswers m → EveryPlaceAnswers layer
  answers_above a = record {
    coefficients = λ i j h k. subst Told (sym (coefficient_is i j)) (a.coefficients (p i) (p j) (node_of i h) (node_of j k));
    right_sides = λ i h. subst Told (sym (right_side_is i)) (a.right_sides (p i) (node_of i h));
  }

  answers_below : EveryPlaceAnswers layer → EveryPlaceAnswers m
  answers_below a = record {
    coefficients = λ i j (h, h') (k, k').
        let s = permutation.onto i h h' in
        let t = permutation.onto j k k' in
        subst Told (coefficient_is s.0 t.0 ∙ (λ d. m.coefficient (s.3 d) (t.3 d))) (a.coefficients s.0 t.0 (s.1, s.2) (t.1, t.2));
    right_sides = λ i (h, h').
        let s = permutation.onto i h h' in
        subst Told (right_side_is s.0 ∙ ap m.right_side s.3) (a.right_sides s.0 (s.1, s.2));
  }

  module _ (x y : Point) (renumbers : Renumbers m.size p x y) where
    -- a row of the layer, of its own terms, and the row below
    row_is : (i : ℕ) → IsNode m i → row layer y.numerator i ≡ row m x.numerator (p i)
    row_is i h =
        total_same (λ j. times (range_at (layer.coefficient i j)) (only (y.numerator j))) (λ j. term (p j)) m.size (λ j a b. λ k. times (range_at (coefficient_is i j k)) (only (renumbers.numerators j a b k)))
        ∙ total_permuted m.size p permutation.within permutation.one_to_one term
      where
        term : ℕ → Range
        term j = times (range_at (m.coefficient (p i) j)) (only (x.numerator j))

    fits_is : (i : ℕ) → IsNode m i → fits layer y.numerator (pos y.over) i ≡ fits m x.numerator (pos x.over) (p i)
    fits_is i h = λ k. meets (row_is i h k) (times (range_at (right_side_is i k)) (only (pos (renumbers.over k))))

    pub solutions_renumbered : Possible m x ↔ Possible layer y
    solutions_renumbered = (
      λ s. fits_solution layer (renumbered_lawful ps m (permutation_taken m.size ps (count, permutation)) lawful) (answers_above (member_answers m s.0)) y (λ i h. fits_is i h ∙ solution_fits m x s (p i) (node_of i h)),
      λ s. fits_solution m lawful (answers_below (member_answers layer s.0)) x (λ i (h, h').
          let t = permutation.onto i h h' in
          ap (fits m x.numerator (pos x.over)) (sym t.3) ∙ sym (fits_is t.0 (t.1, t.2)) ∙ solution_fits layer y s t.0 (t.1, t.2)),
    )

  pub renumbers_solutions : RenumbersSolutions ps m
  renumbers_solutions = record {
    exactly = solutions_renumbered;
    upward = λ x. (record { numerator = λ i. x.numerator (p i); over = x.over; positive = x.positive }, record { numerators = λ i a b. refl; over = refl });
    downward = λ y. (
      record { numerator = λ i. y.numerator (above p m.size i); over = y.over; positive = y.positive },
      record {
        numerators = λ i a b.
            let f = above_found p m.size (p i) i a b refl in
            ap y.numerator (permutation.one_to_one i (above p m.size (p i)) a b f.0 f.1 (sym f.2));
        over = refl;
      },
    );
  }
