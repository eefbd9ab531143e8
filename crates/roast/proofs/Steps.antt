-- The loop of a round, as the machine makes its row steps.
use Rattle.std.proofs.Common.{◌≡◌, ℕ, zero, suc, ◌+◌, ◌-◌, ◌≤◌, Bool, true, false, if◌then◌else◌, length, Ok, Err, sym, refl, ap, ◌∙◌, subst, arith}
use native.Mathlib.Decide.{ℕ_discrete}
use mir.Val.{bool_byte}
use Rattle.balance.specs.declared.refusal.Refusal.{Refusal}
use Rattle.roast.specs.Narrowing.{Box, Contractor}
use Rattle.roast.specs.Machine.{Transition, row_step, one_more, then_step, row_steps}

pub bool_byte≤1 : (b : Bool) → bool_byte b ≤ 1
bool_byte≤1 true = omega arith
bool_byte≤1 false = omega arith

module _ (f : Contractor) (x : Box) where
  -- one more, behind those before
  next : (y : Box) (i n : ℕ) → 1 ≤ i → row_steps f x (i - 1) ≡ (Ok n, y) → row_steps f x i ≡ (one_more n (row_step f y i).0, (row_step f y i).1)
  next y zero n l h = absurd (omega arith)
  next y (suc k) n l h =
      let e : suc k - 1 ≡ k = omega arith in
      let before : row_steps f x k ≡ (Ok n, y) = rw e at h in
      ap (λ (t : Transition ℕ). then_step f (suc k) t.0 t.1) before

  pub steps_more : (y z : Box) (i n : ℕ) (b : Bool) → 1 ≤ i → row_steps f x (i - 1) ≡ (Ok n, y) → (Ok b, z) ≡ row_step f y i → row_steps f x i ≡ (Ok (n + bool_byte b), z)
  steps_more y z i n b l h p = next y i n l h ∙ ap (λ (t : Transition Bool). (one_more n t.0, t.1)) (sym p) ∙ ap (λ c. (Ok c, z)) (counted b)
    where
      counted : (b : Bool) → (if b then n + 1 else n) ≡ n + bool_byte b
      counted true = refl
      counted false = omega arith

  stays_refused : (k : ℕ) (e : Refusal) (z : Box) → row_steps f x k ≡ (Err e, z) → (n : ℕ) → k ≤ n → row_steps f x n ≡ (Err e, z)
  stays_refused k e z h zero l = let q : k ≡ 0 = omega arith in rw q at h
  stays_refused k e z h (suc n) l = go (ℕ_discrete k (suc n)) (λ p. stays_refused k e z h n p)
    where
      go : Dec (k ≡ suc n) → (k ≤ n → row_steps f x n ≡ (Err e, z)) → row_steps f x (suc n) ≡ (Err e, z)
      go (yes p) rest = subst (λ i. row_steps f x i ≡ (Err e, z)) p h
      go (no p) rest = ap (λ (t : Transition ℕ). then_step f (suc n) t.0 t.1) (rest (omega arith))

  pub steps_refused : (y z : Box) (i n : ℕ) (e : Refusal) → 1 ≤ i → i ≤ length x → row_steps f x (i - 1) ≡ (Ok n, y) → (Err e, z) ≡ row_step f y i → row_steps f x (length x) ≡ (Err e, z)
  steps_refused y z i n e l u h p =
      let s : row_steps f x i ≡ (Err e, z) = next y i n l h ∙ ap (λ (t : Transition Bool). (one_more n t.0, t.1)) (sym p) in
      stays_refused i e z s (length x) u
