-- Maps of 1 to n into itself that are one to one: they are onto, and they keep sums.
use Rattle.std.specs.Prelude.{◌≡◌, ℕ, zero, suc, ◌≤◌, cond, ◌≢◌, ◌==◌, refl}
use Rattle.std.proofs.Common.{arith, sym, ap, ◌∙◌}
use Rattle.std.proofs.Math.Decide.{ℕ_discrete}
use Rattle.std.proofs.lemmas.Bool.{eq-eqb, ne_eqb}
use Rattle.balance.specs.declared.range.Range.{Range}
use Rattle.balance.specs.Ranges.{plus, total}
use Rattle.systems.specs.Sums.{plus_swap, total_same}

abbrev pub Within : ℕ → (ℕ → ℕ) → Type 0
Within n p = (i : ℕ) → 1 ≤ i → i ≤ n → (1 ≤ p i) × (p i ≤ n)

abbrev pub OneToOne : ℕ → (ℕ → ℕ) → Type 0
OneToOne n p = (i j : ℕ) → 1 ≤ i → i ≤ n → 1 ≤ j → j ≤ n → p i ≡ p j → i ≡ j

abbrev pub Source : ℕ → (ℕ → ℕ) → ℕ → Type 0
Source n p k = (i : ℕ) × (1 ≤ i) × (i ≤ n) × (p i ≡ k)

-- ---- one number less

-- p without its last number: what went to n + 1 goes where n + 1 went
abbrev shorter : ℕ → (ℕ → ℕ) → ℕ → ℕ
shorter n p i = cond (p i == suc n) (p (suc n)) (p i)

module _ (n : ℕ) (p : ℕ → ℕ) (within : Within (suc n) p) (apart : OneToOne (suc n) p) where
  at_last : (i : ℕ) → p i ≡ suc n → shorter n p i ≡ p (suc n)
  at_last i e = rw (eq-eqb (p i) (suc n) e)

  elsewhere : (i : ℕ) → p i ≢ suc n → shorter n p i ≡ p i
  elsewhere i e = rw (ne_eqb (p i) (suc n) e)

  -- no other number goes where n + 1 goes
  others : (i : ℕ) → 1 ≤ i → i ≤ n → p i ≢ p (suc n)
  others i a b e = let h = apart i (suc n) a (omega arith) (omega arith) (omega arith) e in omega arith

  shorter_within : Within n (shorter n p)
  shorter_within i a b = by (ℕ_discrete (p i) (suc n))
    where
      by : Dec (p i ≡ suc n) → (1 ≤ shorter n p i) × (shorter n p i ≤ n)
      by (yes e) =
          let h = within (suc n) (omega arith) (omega arith) in
          let ne : p (suc n) ≢ suc n = λ f. others i a b (e ∙ sym f) in
          rw (at_last i e) (omega (arith, h.0), omega (arith, h.1, ne))
      by (no e) = let h = within i a (omega arith) in rw (elsewhere i e) (omega (arith, h.0), omega (arith, h.1, e))

  shorter_apart : OneToOne n (shorter n p)
  shorter_apart i j a b c d h = by (ℕ_discrete (p i) (suc n)) (ℕ_discrete (p j) (suc n))
    where
      by : Dec (p i ≡ suc n) → Dec (p j ≡ suc n) → i ≡ j
      by (yes e) (yes f) = apart i j a (omega arith) c (omega arith) (e ∙ sym f)
      by (yes e) (no f) = absurd (others j c d (sym (elsewhere j f) ∙ sym h ∙ at_last i e))
      by (no e) (yes f) = absurd (others i a b (sym (elsewhere i e) ∙ h ∙ at_last j f))
      by (no e) (no f) = apart i j a (omega arith) c (omega arith) (sym (elsewhere i e) ∙ h ∙ elsewhere j f)

  -- where a number comes from, if it is known for the shorter map
  source : (k : ℕ) → 1 ≤ k → k ≤ suc n → ((t : ℕ) → 1 ≤ t → t ≤ n → Source n (shorter n p) t) → Source (suc n) p k
  source k a b rest = by (ℕ_discrete (p (suc n)) k) (ℕ_discrete k (suc n))
    where
      from : (t : ℕ) (s : Source n (shorter n p) t) → Dec (p s.0 ≡ suc n) → (p s.0 ≡ suc n → p (suc n) ≡ t → p s.0 ≡ k) → (p s.0 ≡ t → p s.0 ≡ k) → Source (suc n) p k
      from t s (yes e) f g = (s.0, s.1, omega (arith, s.2), f e (sym (at_last s.0 e) ∙ s.3))
      from t s (no e) f g = (s.0, s.1, omega (arith, s.2), g (sym (elsewhere s.0 e) ∙ s.3))

      by : Dec (p (suc n) ≡ k) → Dec (k ≡ suc n) → Source (suc n) p k
      by (yes e) d = (suc n, omega arith, omega arith, e)
      by (no e) (yes f) =
          let h = within (suc n) (omega arith) (omega arith) in
          let s = rest (p (suc n)) h.0 (omega (arith, h.1, e)) in
          from (p (suc n)) s (ℕ_discrete (p s.0) (suc n)) (λ g _. g ∙ sym f) (λ g. absurd (others s.0 s.1 s.2 g))
      by (no e) (no f) =
          let s = rest k a (omega arith) in
          from k s (ℕ_discrete (p s.0) (suc n)) (λ _ g. absurd (e g)) (λ g. g)

pub onto : (n : ℕ) (p : ℕ → ℕ) → Within n p → OneToOne n p → (k : ℕ) → 1 ≤ k → k ≤ n → Source n p k
onto zero p w o k a b = absurd (omega arith)
onto (suc n) p w o k a b = source n p w o k a b (λ t c d. onto n (shorter n p) (shorter_within n p w o) (shorter_apart n p w o) t c d)

-- ---- sums

-- two sums that differ in one term
one_differs : (f g : ℕ → Range) (k n : ℕ) → 1 ≤ k → k ≤ n → ((i : ℕ) → 1 ≤ i → i ≤ n → i ≢ k → f i ≡ g i) → plus (total f n) (g k) ≡ plus (total g n) (f k)
one_differs f g k zero a b h = absurd (omega arith)
one_differs f g k (suc n) a b h = by (ℕ_discrete k (suc n)) (λ c. one_differs f g k n a c (λ i p q r. h i p (omega arith) r))
  where
    by : Dec (k ≡ suc n) → (k ≤ n → plus (total f n) (g k) ≡ plus (total g n) (f k)) → plus (total f (suc n)) (g k) ≡ plus (total g (suc n)) (f k)
    by (yes e) rest =
        let same = total_same f g n (λ i p q. h i p (omega arith) (λ r. omega arith)) in
        rw (e, same) (plus_swap (total g n) (f (suc n)) (g (suc n)))
    by (no e) rest =
        let last = h (suc n) (omega arith) (omega arith) (λ r. e (sym r)) in
        rw last (plus_swap (total f n) (g (suc n)) (g k) ∙ ap (λ (r : Range). plus r (g (suc n))) (rest (omega arith)) ∙ plus_swap (total g n) (f k) (g (suc n)))

pub total_permuted : (n : ℕ) (p : ℕ → ℕ) → Within n p → OneToOne n p → (f : ℕ → Range) → total (λ i. f (p i)) n ≡ total f n
total_permuted zero p w o f = refl
total_permuted (suc n) p w o f = by (ℕ_discrete (p (suc n)) (suc n)) (total_permuted n (shorter n p) (shorter_within n p w o) (shorter_apart n p w o) f)
  where
    by : Dec (p (suc n) ≡ suc n) → total (λ i. f (shorter n p i)) n ≡ total f n → total (λ i. f (p i)) (suc n) ≡ total f (suc n)
    by (yes e) rest =
        let same = total_same (λ i. f (p i)) (λ i. f (shorter n p i)) n (λ i a b. ap f (sym (elsewhere n p w o i (λ g. others n p w o i a b (g ∙ sym e))))) in
        rw (same, rest, e)
    by (no e) rest =
        let s = onto (suc n) p w o (suc n) (omega arith) (omega arith) in
        let k = s.0 in
        let ne : k ≢ suc n = λ g. e (sym (ap p g) ∙ s.3) in
        let d = one_differs (λ i. f (p i)) (λ i. f (shorter n p i)) k n s.1 (omega (arith, s.2, ne)) (λ i a b g. ap f (sym (elsewhere n p w o i (λ h. g (o i k a (omega arith) s.1 s.2 (h ∙ sym s.3)))))) in
        ap (λ (r : Range). plus (total (λ i. f (p i)) n) r) (ap f (sym (at_last n p w o k s.3))) ∙ d ∙ (λ i. plus (rest i) (f (s.3 i)))
