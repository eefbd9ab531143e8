-- What a call leaves of a box is what a list of the machine's calls leaves.
use Rattle.std.proofs.Common.{◌≡◌, ℕ, suc, ◌+◌, ◌-◌, ◌<◌, ◌≤◌, Bool, true, false, List, [], ◌∷◌, ◌++◌, length, get_or, ℤ, Ok, Err, Result, is_ok, refl, sym, ap, ◌∙◌, subst, arith}
use Rattle.balance.specs.declared.range.Range.{Range}
use Rattle.balance.specs.declared.refusal.Refusal.{Refusal}
use Rattle.balance.specs.Ranges.{range}
use Rattle.balance.specs.Meanings.{Meaning, Lawful}
use Rattle.balance.specs.Members.{Member, Point, Solves, component, ◌∈◌}
use Rattle.roast.specs.Narrowing.{Box, Contractor, narrowed}
use Rattle.roast.specs.Machine.{Transition, row_step, round, reading, Ask, ask_row_step, ask_round, ask_reading, after}
use Rattle.roast.specs.Runs.{Bound, Among, here, there, accepted_if, accepted, InAll, Holds, CanBeSolved}
use Rattle.roast.proofs.Boxes.{nothing}
use Rattle.roast.proofs.Moves.{move_long, run_moves}
use Rattle.roast.proofs.Sound.{run_holds}
use Rattle.heat_file.specs.Checks.{and_then}
use Rattle.file_box.specs.Findings.{settled}
use Rattle.file_box.proofs.Enclosures.{rounds, settled_leaves, none_accepted}
use Rattle.firmware.specs.Drums.{read_from, rested, settling}

abbrev pub bound : ℕ → Range → Bound
bound i r = record { node = i; span = r }

-- ranges as readings of node i and of those behind it
abbrev pub bounds : ℕ → List Range → List Bound
bounds i [] = []
bounds i (r ∷ rs) = bound i r ∷ bounds (suc i) rs

pub in_bounds : (x : Point) (i : ℕ) (rs : List Range) → ((j : ℕ) → i ≤ j → j < i + length rs → component x j ∈ get_or rs (j - i) nothing) → InAll x (bounds i rs)
in_bounds x i [] h b among = elim among [ ]
in_bounds x i (r ∷ rs) h b here = let e : i - i ≡ 0 = omega arith in subst (λ k. component x i ∈ get_or (r ∷ rs) k nothing) e (h i (omega arith) (omega arith))
in_bounds x i (r ∷ rs) h b (there among) = in_bounds x (suc i) rs (λ j p q. let e : j - i ≡ suc (j - suc i) = omega arith in subst (λ k. component x j ∈ get_or (r ∷ rs) k nothing) e (h j (omega arith) (omega arith))) b among

pub in_reading : (x : Point) (i : ℕ) (r : Range) → component x i ∈ r → InAll x (bound i r ∷ [])
in_reading x i r h b here = h
in_reading x i r h b (there among) = elim among [ ]

-- a reading is all that is accepted before the others
one_read : (yes : Bool) (i : ℕ) (l u : ℤ) (cs bs : List Bound) → ((b : Bound) → Among b cs → Among b bs) → (b : Bound) → Among b (accepted_if yes i l u ++ cs) → Among b (bound i (range l u) ∷ bs)
one_read true i l u cs bs h b here = here
one_read true i l u cs bs h b (there among) = there (h b among)
one_read false i l u cs bs h b among = there (h b among)

-- calls that lead from one box to another, and accept some readings at most
pub record Leads (f : Contractor) (bs : List Bound) (B C : Box) : Type 0 where
  pub asks : List Ask
  pub left : C ≡ after f B asks
  pub reads : (b : Bound) → Among b (accepted f B asks) → Among b bs

pub leads_long : (f : Contractor) (bs : List Bound) (B C : Box) → Leads f bs B C → length C ≡ length B
leads_long f bs B C l = ap length l.left ∙ move_long (run_moves f B l.asks)

pub leads_holds : (m : Meaning) → Lawful m → CanBeSolved m → (s : Member m) (x : Point) → Solves m s x → (bs : List Bound) → InAll x bs → (B C : Box) → Leads (narrowed m) bs B C → length B ≡ m.size → Holds m B x → Holds m C x
leads_holds m lawful able s x solves bs all B C l fit h = subst (λ C. Holds m C x) (sym l.left) (run_holds m lawful s x solves able B fit h l.asks (λ b among. all b (l.reads b among)))

-- ---- each call

module _ (f : Contractor) (B C : Box) where
  pub row_step_leads : (i : ℕ) (changed : Bool) → (Ok changed, C) ≡ row_step f B i → Leads f [] B C
  row_step_leads i changed e = record { asks = ask_row_step i ∷ []; left = ap (λ t. t.1) e; reads = λ b among. among }

  pub round_leads : (n : ℕ) → (Ok n, C) ≡ round f B → Leads f [] B C
  round_leads n e = record { asks = ask_round ∷ []; left = ap (λ t. t.1) e; reads = λ b among. among }

  pub reading_leads : (i : ℕ) (l u : ℤ) (changed : Bool) → (Ok changed, C) ≡ reading B i l u → Leads f (bound i (range l u) ∷ []) B C
  reading_leads i l u changed e = record { asks = ask_reading i l u ∷ []; left = ap (λ t. t.1) e; reads = one_read (is_ok (reading B i l u).0) i l u [] [] (λ b among. among) }

  pub settling_leads : (rests : Bool) → (Ok rests, C) ≡ settling f B → Leads f [] B C
  settling_leads rests e = by (settled f B 64) refl e
    where
      by : (o : Result Box Refusal) → settled f B 64 ≡ o → (Ok rests, C) ≡ rested f B o → Leads f [] B C
      by (Ok D) p e =
          let l = settled_leaves f 64 B D p in
          record { asks = rounds l.count; left = ap (λ t. t.1) e ∙ l.left; reads = λ b. subst (Among b) (none_accepted f l.count B) }
      by (Err r) p e = let a = ap (λ (t : Transition Bool). t.0) e in cc

pub read_leads : (f : Contractor) (i : ℕ) (rs : List Range) (B C : Box) → read_from B i rs ≡ Ok C → Leads f (bounds i rs) B C
unfolding read_from
read_leads f i [] B C e = record { asks = []; left = cc; reads = λ b among. among }
read_leads f i (r ∷ rs) B C e = by t.0 (read_leads f (suc i) rs t.1 C) e
  where
    t : Transition Bool
    t = reading B i r.lower r.upper

    by : (a : Result Bool Refusal) → (read_from t.1 (suc i) rs ≡ Ok C → Leads f (bounds (suc i) rs) t.1 C) → and_then a (λ changed. read_from t.1 (suc i) rs) ≡ Ok C → Leads f (bounds i (r ∷ rs)) B C
    by (Ok changed) more e =
        let l = more e in
        record { asks = ask_reading i r.lower r.upper ∷ l.asks; left = l.left; reads = one_read (is_ok t.0) i r.lower r.upper _ _ l.reads }
    by (Err e) more p = cc
