-- One round more or less.
use Rattle.std.proofs.Common.{◌≡◌, ℕ, suc, Bool, if◌then◌else◌, Ok, Err, Result, refl, sym, ap, ◌∙◌}
use Rattle.std.proofs.lemmas.Bool.{eq-eqb, ne_eqb}
use Rattle.balance.specs.declared.refusal.Refusal.{Refusal}
use Rattle.roast.specs.Narrowing.{Box, Contractor}
use Rattle.roast.specs.Machine.{Transition, round}
use Rattle.file_box.specs.Findings.{settle_on, settled}

module _ (f : Contractor) (box next : Box) (k : ℕ) where
  one_round : (a : Result ℕ Refusal) → (a, next) ≡ round f box → settled f box (suc k) ≡ settle_on a next (settled f next k)
  unfolding settled
  one_round a e = ap (λ (t : Transition ℕ). settle_on t.0 t.1 (settled f t.1 k)) (sym e)

  -- a round that changes something leaves the rest to those that are left
  pub round_more : (n : ℕ) → (Ok n, next) ≡ round f box → (n ≡ 0 → ⊥) → settled f box (suc k) ≡ settled f next k
  round_more n e h = one_round (Ok n) e ∙ ap (λ (t : Bool). if t then Ok next else settled f next k) (ne_eqb n 0 h)

  pub round_still : (n : ℕ) → (Ok n, next) ≡ round f box → n ≡ 0 → settled f box (suc k) ≡ Ok next
  round_still n e h = one_round (Ok n) e ∙ ap (λ (t : Bool). if t then Ok next else settled f next k) (eq-eqb n 0 h)

  pub round_refused : (r : Refusal) → (Err r, next) ≡ round f box → settled f box (suc k) ≡ Err r
  round_refused r e = one_round (Err r) e

pub no_round : (f : Contractor) (box : Box) → settled f box 0 ≡ Ok box
unfolding settled
no_round f box = refl
