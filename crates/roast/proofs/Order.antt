-- The order of calls does not matter: a box at rest stays in the box of every run whose first box and accepted readings it lies in.
use Rattle.std.proofs.Common.{◌≡◌, ℕ, suc, ◌-◌, ◌≤◌, Bool, true, false, not, ◌&&◌, length, get_or, set, Some, None, Option, List, sym, refl, subst, ◌∙◌, ap, arith}
use native.Mathlib.Decide.{dec_le}
use lib.Signed.{le_z}
use borrow.Author.Differences.{ints}
use Rattle.std.proofs.lemmas.List.{get_or_past}
use Rattle.balance.specs.declared.range.Range.{Range}
use Rattle.balance.specs.Ranges.{Ordered, ◌⊆◌}
use Rattle.balance.proofs.Points.{every_passes}
use Rattle.roast.specs.Rounding.{shared}
use Rattle.roast.specs.Narrowing.{Box, at, HasNode, Contractor}
use Rattle.roast.specs.Machine.{same_number, same_range, step_to, row_step, changes_nothing, Ask, after}
use Rattle.roast.specs.Runs.{Bound, accepted, Among, SameSet, Rests, LiesIn, RestsIn, IsLargestAtRest, NoConflict}
use Rattle.roast.proofs.Quotients.{shared_is}
use Rattle.roast.proofs.Boxes.{nothing, ◌⊑◌, ⊆-refl, Tidy, Shrinks, Monotone, ⊆-trans, ⊑-antisym, set_above}
use Rattle.roast.proofs.Moves.{row_step_at, run_moves, move_shrinks, Meets, move_meets}
use Rattle.roast.proofs.Calm.{run_keeps, run_calm}

-- ---- a box at rest

both : (t u : Bool) → t && u ≡ true → (t ≡ true) × (u ≡ true)
both true u e = (refl, e)
both false u e = cc

same_inside : (r s : Range) → same_range r s ≡ true → r ⊆ s
same_inside r s e =
    let x = both (same_number r.lower s.lower) (same_number r.upper s.upper) e in
    let p : le_z s.lower r.lower ≡ true = (both (le_z r.lower s.lower) (le_z s.lower r.lower) x.0).1 in
    let q : le_z r.upper s.upper ≡ true = (both (le_z r.upper s.upper) (le_z s.upper r.upper) x.1).0 in
    record { low = omega (arith, ints); high = omega (arith, ints) }

-- node i's range is left alone
abbrev Kept : Contractor → Box → ℕ → Type 0
Kept f X i = (r : Range) × (f X i ≡ Some r) × (at X i ⊆ r)

rest_kept : (f : Contractor) (X : Box) → Rests f X → (i : ℕ) → HasNode X i → Kept f X i
rest_kept f X still i n = by (f X i) refl (sym (ap (λ t. changes_nothing t.0) (row_step_at f X i n)) ∙ every_passes (λ i. changes_nothing (row_step f X i).0) (length X) still i n.0 n.1)
  where
    twice : (t : Bool) → not (not t) ≡ true → t ≡ true
    twice true e = refl
    twice false e = e

    by : (o : Option Range) → f X i ≡ o → changes_nothing (step_to X i o).0 ≡ true → Kept f X i
    by (Some r) h e = (r, h, same_inside (at X i) r (twice _ e))
    by None h e = cc

-- what holds at every node holds at every place of the lists
by_nodes : (P : Range → Range → Type 0) (X B : Box) → length X ≡ length B → P nothing nothing → ((i : ℕ) → HasNode X i → P (at X i) (at B i)) → (k : ℕ) → P (get_or X k nothing) (get_or B k nothing)
by_nodes P X B long past h k = go (dec_le (suc k) (length X))
  where
    go : Dec (suc k ≤ length X) → P (get_or X k nothing) (get_or B k nothing)
    go (yes p) = let e : suc k - 1 ≡ k = omega arith in subst (λ j. P (get_or X j nothing) (get_or B j nothing)) e (h (suc k) (omega arith, omega arith))
    go (no p) = rw (get_or_past X k nothing (omega arith), get_or_past B k nothing (omega arith)) past

-- a box at rest is in order
rest_tidy : (f : Contractor) → Shrinks f → (X : Box) → Rests f X → Tidy X
rest_tidy f shrinks X still = by_nodes (λ r s. Ordered r) X X refl (omega (arith, ints)) (λ i p. let k = rest_kept f X still i p in let s = shrinks X i k.0 k.1 in let o = s.0 in let l = s.1 in omega (arith, ints))

-- ---- runs under g keep a box X that rests under f

module _ (f g : Contractor) (shrinks : Shrinks f) (monotone : Monotone f g) (X : Box) (still : Rests f X) where
  tidy : Tidy X
  tidy = rest_tidy f shrinks X still

  abbrev Within : Bound → Type 0
  Within b = at X b.node ⊆ b.span

  steps : (B : Box) (i : ℕ) → X ⊑ B → HasNode B i → (r : Range) × (g B i ≡ Some r) × (X ⊑ set B (i - 1) r)
  steps B i h n =
      let n' : HasNode X i = (n.0, omega (arith, h.long, n.1)) in
      let k = rest_kept f X still i n' in
      let s = monotone X B i k.0 tidy h n' k.1 in
      (s.0, s.1, set_above X B (i - 1) s.0 h (⊆-trans k.2 s.2))

  reads : (B : Box) (i : ℕ) (s r : Range) → X ⊑ B → HasNode B i → Within (record { node = i; span = s }) → shared (at B i) s ≡ Some r → X ⊑ set B (i - 1) r
  reads B i s r h n a e = set_above X B (i - 1) r h ((shared_is (at B i) s r e).all (at X i) (tidy (i - 1)) (h.each (i - 1)) a)

  pub rest_stays : (B : Box) → X ⊑ B → (cs : List Ask) → Meets X (accepted g B cs) → X ⊑ after g B cs
  rest_stays = run_keeps g (λ B. X ⊑ B) Within steps reads

  pub rest_calms : (B : Box) → X ⊑ B → (cs : List Ask) → Meets X (accepted g B cs) → NoConflict g B cs
  rest_calms = run_calm g (λ B. X ⊑ B) Within steps reads

-- ---- two runs from one box

module _ (f g : Contractor) (shrinks : Shrinks f) (monotone : Monotone f g) (S : Box) (tidy : Tidy S) (cs ds : List Ask) (all : (b : Bound) → Among b (accepted g S ds) → Among b (accepted f S cs)) (still : Rests f (after f S cs)) where
  meets : Meets (after f S cs) (accepted g S ds)
  meets b a = move_meets shrinks tidy (run_moves f S cs) b (all b a)

  pub rest_in : after f S cs ⊑ after g S ds
  rest_in = rest_stays f g shrinks monotone (after f S cs) still S (move_shrinks shrinks tidy (run_moves f S cs)).0 ds meets

  pub rest_calm : NoConflict g S ds
  rest_calm = rest_calms f g shrinks monotone (after f S cs) still S (move_shrinks shrinks tidy (run_moves f S cs)).0 ds meets

pub one_rest : (f g : Contractor) → Shrinks f → Shrinks g → Monotone f g → Monotone g f → (S : Box) → Tidy S → (cs ds : List Ask) → SameSet (accepted f S cs) (accepted g S ds) → Rests f (after f S cs) → Rests g (after g S ds) → after f S cs ≡ after g S ds
one_rest f g s s' up down S tidy cs ds sets p q = ⊑-antisym (rest_in f g s up S tidy cs ds sets.1 p) (rest_in g f s' down S tidy ds cs sets.0 q)

-- ---- the largest box at rest

lies_below : (X B : Box) → LiesIn X B → X ⊑ B
lies_below X B h = record { long = h.nodes; each = by_nodes (λ r s. r ⊆ s) X B h.nodes (⊆-refl nothing) h.inside }

below_lies : (X B : Box) → X ⊑ B → LiesIn X B
below_lies X B h = record { nodes = h.long; inside = λ i p. h.each (i - 1) }

module _ (f : Contractor) (shrinks : Shrinks f) (monotone : Monotone f f) (S : Box) (tidy : Tidy S) (cs : List Ask) where
  pub holds_every_rest : (X : Box) → RestsIn f S (accepted f S cs) X → LiesIn X (after f S cs)
  holds_every_rest X r = below_lies X (after f S cs) (rest_stays f f shrinks monotone X r.rests S (lies_below X S r.starts) cs r.reads)

  pub largest_at_rest : Rests f (after f S cs) → IsLargestAtRest f S (accepted f S cs) (after f S cs)
  largest_at_rest still =
      let x = run_moves f S cs in
      record {
        is_one = record { starts = below_lies (after f S cs) S (move_shrinks shrinks tidy x).0; reads = move_meets shrinks tidy x; rests = still };
        holds_others = holds_every_rest;
      }
