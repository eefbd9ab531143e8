-- A round that changes nothing is made on a box at rest.
use Rattle.std.proofs.Common.{◌≡◌, ℕ, zero, suc, ◌+◌, ◌-◌, Bool, true, false, cond, not, if◌then◌else◌, length, set, Some, None, Option, Ok, Err, Result, refl, sym, ap, ap₂, ◌∙◌, arith}
use borrow.Author.Differences.{ints}
use Rattle.std.proofs.lemmas.List.{set-get_or}
use Rattle.balance.specs.declared.range.Range.{Range}
use Rattle.balance.specs.declared.refusal.Refusal.{Refusal}
use Rattle.balance.specs.declared.refusal.Refusal.TheVariants.{Node}
use Rattle.balance.specs.Meanings.{is_node}
use Rattle.balance.specs.Places.{every}
use Rattle.balance.specs.Ranges.{range}
use Rattle.roast.specs.Narrowing.{Box, at, Contractor}
use Rattle.roast.specs.Machine.{Transition, same_range, step_to, row_step, one_more, then_step, row_steps, all_or_none, round, changes_nothing, at_rest}
use Rattle.roast.proofs.Boxes.{nothing}
use Rattle.file_box.specs.Findings.{settled}
use Rattle.firmware.specs.Drums.{rested, settling}

same_is : (r s : Range) → not (same_range r s) ≡ false → s ≡ r
same_is r s e =
    let p : s.lower ≡ r.lower = grind (arith, ints) in
    let q : s.upper ≡ r.upper = grind (arith, ints) in
    λ i. range (p i) (q i)

module _ (f : Contractor) (B : Box) where
  -- a row step that changes nothing leaves the box
  step_still : (i : ℕ) → (row_step f B i).0 ≡ Ok false → (row_step f B i).1 ≡ B
  step_still i = by (is_node (length B) i) (f B i)
    where
      by : (t : Bool) (o : Option Range) → let step : Transition Bool = if t then step_to B i o else (Err (Node i), B) in step.0 ≡ Ok false → step.1 ≡ B
      by true (Some r) e = let s : not (same_range (at B i) r) ≡ false = cc in ap (set B (i - 1)) (same_is (at B i) r s) ∙ set-get_or B (i - 1) nothing
      by true None e = cc
      by false o e = refl

  -- so do the first k of them, if they change nothing
  abbrev Still : ℕ → Box → Type 0
  Still k C = (C ≡ B) × (every (λ i. changes_nothing (row_step f B i).0) k ≡ true)

  steps_still : (k : ℕ) → (row_steps f B k).0 ≡ Ok 0 → Still k (row_steps f B k).1
  steps_still zero e = (refl, refl)
  steps_still (suc k) e = by (row_steps f B k).0 (row_steps f B k).1 (steps_still k) e
    where
      by : (a : Result ℕ Refusal) (D : Box) → (a ≡ Ok 0 → Still k D) → (then_step f (suc k) a D).0 ≡ Ok 0 → Still (suc k) (then_step f (suc k) a D).1
      by (Ok n) D more e = on (row_step f D (suc k)).0 refl e
        where
          on : (b : Result Bool Refusal) → (row_step f D (suc k)).0 ≡ b → one_more n b ≡ Ok 0 → Still (suc k) (row_step f D (suc k)).1
          on (Ok true) q e = let z : n + 1 ≡ 0 = cc in absurd (omega arith)
          on (Ok false) q e =
              let h = more e in
              let s : (row_step f B (suc k)).0 ≡ Ok false = ap (λ D. (row_step f D (suc k)).0) (sym h.0) ∙ q in
              (ap (λ D. (row_step f D (suc k)).1) h.0 ∙ step_still (suc k) s, ap₂ (λ t u. cond t u false) h.1 (ap changes_nothing s))
          on (Err r) q e = cc
      by (Err r) D more e = cc

  pub still : (C : Box) → (Ok 0, C) ≡ round f B → at_rest f C ≡ true
  still C e = ap (λ (t : Transition ℕ). at_rest f t.1) e ∙ by (row_steps f B (length B)).0 (row_steps f B (length B)).1 (steps_still (length B)) (sym (ap (λ (t : Transition ℕ). t.0) e))
    where
      by : (a : Result ℕ Refusal) (D : Box) → (a ≡ Ok 0 → Still (length B) D) → (all_or_none B a D).0 ≡ Ok 0 → at_rest f (all_or_none B a D).1 ≡ true
      by (Ok n) D more e = let h = more e in ap (at_rest f) h.0 ∙ h.1
      by (Err r) D more e = cc

-- rounds that are made, and whether the box rests
pub settled_now : (f : Contractor) (start C : Box) (rests : Bool) → settled f start 64 ≡ Ok C → rests ≡ at_rest f C → (Ok rests, C) ≡ settling f start
settled_now f start C rests e r = ap (λ t. (Ok t, C)) r ∙ ap (rested f start) (sym e)
