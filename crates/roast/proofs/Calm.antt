-- What every row step keeps and no row step finds in conflict: so do rounds and runs.
use Rattle.std.proofs.Common.{◌≡◌, ℕ, zero, suc, ◌-◌, ◌≤◌, Bool, true, false, if◌then◌else◌, List, [], ◌∷◌, length, set, Some, Ok, Err, Result, sym, refl, ap, ◌∙◌, subst, arith}
use Rattle.std.proofs.lemmas.List.{length-set}
use Rattle.balance.specs.declared.range.Range.{Range}
use Rattle.balance.specs.declared.refusal.Refusal.{Refusal}
use Rattle.balance.specs.declared.refusal.Refusal.TheVariants.{Node, Conflict}
use Rattle.balance.specs.Meanings.{is_node}
use Rattle.roast.specs.declared.call.Answer.TheVariants.{Changed, Changes}
use Rattle.roast.specs.Rounding.{shared}
use Rattle.roast.specs.Narrowing.{Box, at, HasNode, Contractor}
use Rattle.roast.specs.Machine.{Transition, step_to, one_more, then_step, row_steps, all_or_none, Ask, ask_row_step, ask_round, ask_reading, ask_readings, ask_rest, ask_ends, answer_by, outcome, after}
use Rattle.roast.specs.Runs.{Bound, accepted, accepted_one, Among, here, Calm, NoConflict}
use Rattle.roast.proofs.Moves.{Move, stays, row, read, joined, has_node, row_step_at, call_moves, run_moves, among_left, among_right}

-- P holds of a box, and R of each reading that is accepted: a row step leaves something, and both kinds of step keep P
module _ (f : Contractor) (P : Box → Type 0) (R : Bound → Type 0) (steps : (B : Box) (i : ℕ) → P B → HasNode B i → (r : Range) × (f B i ≡ Some r) × P (set B (i - 1) r)) (reads : (B : Box) (i : ℕ) (s r : Range) → P B → HasNode B i → R (record { node = i; span = s }) → shared (at B i) s ≡ Some r → P (set B (i - 1) r)) where
  move_keeps : {B C : Box} {bs : List Bound} → P B → ((b : Bound) → Among b bs → R b) → Move f B C bs → P C
  move_keeps h a stays = h
  move_keeps h a (row {B = B} {i = i} {r = r} n e) =
      let k = steps B i h n in
      let g = k.1 in
      let s : k.0 ≡ r = cc in
      subst (λ x. P (set B (i - 1) x)) s k.2
  move_keeps h a (read {B = B} {i = i} {s = s} {r = r} n e) = reads B i s r h n (a _ here) e
  move_keeps h a (joined {bs = bs} {ds = ds} j k) = move_keeps (move_keeps h (λ b x. a b (among_left ds x)) j) (λ b x. a b (among_right bs x)) k

  pub run_keeps : (B : Box) → P B → (cs : List Ask) → ((b : Bound) → Among b (accepted f B cs) → R b) → P (after f B cs)
  run_keeps B h cs a = move_keeps h a (run_moves f B cs)

  -- row steps that were made
  abbrev Made : Box → Result ℕ Refusal → Box → Type 0
  Made B (Ok n) C = P C × (length C ≡ length B)
  Made B (Err e) C = ⊥

  row_steps_made : (B : Box) → P B → (k : ℕ) → k ≤ length B → Made B (row_steps f B k).0 (row_steps f B k).1
  row_steps_made B h zero p = (h, refl)
  row_steps_made B h (suc k) p = next (row_steps f B k).0 (row_steps f B k).1 (row_steps_made B h k (omega arith))
    where
      next : (a : Result ℕ Refusal) (C : Box) → Made B a C → Made B (then_step f (suc k) a C).0 (then_step f (suc k) a C).1
      next (Ok n) C g =
          let has : HasNode C (suc k) = (omega arith, omega (arith, g.1)) in
          let x = steps C (suc k) g.0 has in
          let e = row_step_at f C (suc k) has ∙ ap (step_to C (suc k)) x.1 in
          subst (λ (t : Transition Bool). Made B (one_more n t.0) t.1) (sym e) (x.2, length-set C (suc k - 1) x.0 ∙ g.1)
      next (Err e) C g = g

  call_calm : (B : Box) → P B → (c : Ask) → Calm c (outcome f B c).answer
  call_calm B h (ask_row_step i) = λ j. by j (is_node (length B) i) refl
    where
      by : (j : ℕ) (t : Bool) → is_node (length B) i ≡ t → let x : Transition Bool = if t then step_to B i (f B i) else (Err (Node i), B) in answer_by Changed x.0 ≡ Err (Conflict j) → ⊥
      by j true e q =
          let x = steps B i h (has_node B i e) in
          let y = sym (ap (λ o. answer_by Changed (step_to B i o).0) x.1) ∙ q in
          let z : ◌≡◌ {A = ℕ} 0 1 = cc in
          omega arith
      by j false e q = let z : ◌≡◌ {A = ℕ} 0 1 = cc in omega arith
  call_calm B h ask_round = λ j. by j (row_steps f B (length B)).0 (row_steps f B (length B)).1 (row_steps_made B h (length B) (omega arith))
    where
      by : (j : ℕ) (a : Result ℕ Refusal) (C : Box) → Made B a C → answer_by Changes (all_or_none B a C).0 ≡ Err (Conflict j) → ⊥
      by j (Ok n) C p q = let z : ◌≡◌ {A = ℕ} 0 1 = cc in omega arith
      by j (Err e) C p q = p
  call_calm B h (ask_reading i l u) = tt
  call_calm B h (ask_readings rs) = tt
  call_calm B h ask_rest = tt
  call_calm B h (ask_ends i) = tt

  pub run_calm : (B : Box) → P B → (cs : List Ask) → ((b : Bound) → Among b (accepted f B cs) → R b) → NoConflict f B cs
  run_calm B h [] a = tt
  run_calm B h (c ∷ cs) a = (
    call_calm B h c,
    run_calm (outcome f B c).box (move_keeps h (λ b x. a b (among_left _ x)) (call_moves f B c)) cs (λ b x. a b (among_right (accepted_one f B c) x)),
  )
