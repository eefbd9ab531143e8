-- No step loses a solution.
use Rattle.std.proofs.Common.{◌≡◌, ℕ, zero, suc, ◌-◌, ◌≤◌, true, false, cond, eqb, List, length, get_or, set, Some, sym, ◌∙◌, subst, arith}
use native.Mathlib.Decide.{ℕ_discrete}
use borrow.Author.Differences.{ints}
use Rattle.std.proofs.lemmas.Bool.{eq-eqb, ne_eqb}
use Rattle.std.proofs.lemmas.List.{length-set}
use Rattle.balance.specs.declared.range.Range.{Range}
use Rattle.balance.specs.Ranges.{◌⊆◌, plus, minus, times, total}
use Rattle.balance.specs.Meanings.{Meaning, IsNode, Lawful, coefficient_range, right_side_range}
use Rattle.balance.specs.Members.{Fraction, Member, Point, component, sum, Solves, ◌∈◌, ◌⊗◌}
use Rattle.balance.proofs.PlaceLaws.{picked_in}
use Rattle.roast.specs.Rounding.{holds_zero, quotient, shared}
use Rattle.roast.specs.Narrowing.{Box, at, HasNode, row_answers, numerator, narrowed}
use Rattle.roast.specs.Machine.{Ask, after}
use Rattle.roast.specs.Runs.{Bound, accepted, InAll, Holds, CanBeSolved, NoConflict}
use Rattle.roast.proofs.Fractions.{in_wider, in_like, in_left, in_right, in_total, in_times, in_quotient, in_shared}
use Rattle.roast.proofs.Boxes.{nothing, each_set, coefficient_ordered, numerator_ordered, opens}
use Rattle.roast.proofs.Solvable.{able_answers, able_apart}
use Rattle.roast.proofs.Calm.{run_keeps, run_calm}

-- ---- one term of a sum, from the sum and the ranges of the others

abbrev others : (ℕ → Range) → ℕ → ℕ → Range
others F i j = cond (eqb j i) nothing (F j)

regrouped : (r x s : Range) → minus (minus r x) s ⊆ minus r (plus s x)
regrouped r x s = omega (arith, ints)

unchanged : (r s : Range) → minus r s ⊆ minus r (plus s nothing)
unchanged r s = omega (arith, ints)

one_term : (f : ℕ → Fraction) (F : ℕ → Range) (i k : ℕ) (r : Range) → 1 ≤ i → i ≤ k → ((j : ℕ) → 1 ≤ j → j ≤ k → f j ∈ F j) → sum f k ∈ r → f i ∈ minus r (total (others F i) k)
one_term f F i zero r p q h s = absurd (omega arith)
one_term f F i (suc k) r p q h s = go (ℕ_discrete i (suc k)) (λ l. one_term f F i k (minus r (F (suc k))) p l (λ j x y. h j x (omega arith)) (in_left (sum f k) (f (suc k)) r (F (suc k)) s (h (suc k) (omega arith) (omega arith))))
  where
    z : Range
    z = total (others F i) k

    earlier : (suc k ≡ i → ⊥) → f i ∈ minus (minus r (F (suc k))) z → f i ∈ minus r (total (others F i) (suc k))
    earlier l t = in_wider (f i) (subst (λ b. minus (minus r (F (suc k))) z ⊆ minus r (plus z (cond b nothing (F (suc k))))) (sym (ne_eqb (suc k) i l)) (regrouped r (F (suc k)) z)) t

    last : i ≡ suc k → f i ∈ minus r (total (others F i) (suc k))
    last e =
        let before : sum f k ∈ z = in_total f (others F i) k (λ j x y. subst (λ b. f j ∈ cond b nothing (F j)) (sym (ne_eqb j i (λ e'. omega arith))) (h j x (omega arith))) in
        let w : minus r z ⊆ minus r (plus z (others F i (suc k))) = subst (λ b. minus r z ⊆ minus r (plus z (cond b nothing (F (suc k))))) (sym (eq-eqb (suc k) i (sym e))) (unchanged r z) in
        subst (λ n. f n ∈ minus r (total (others F i) (suc k))) (sym e) (in_wider (f (suc k)) w (in_right (sum f k) (f (suc k)) r z s before))

    go : Dec (i ≡ suc k) → (i ≤ k → f i ∈ minus (minus r (F (suc k))) z) → f i ∈ minus r (total (others F i) (suc k))
    go (yes e) rest = last e
    go (no e) rest = earlier (λ e'. e (sym e')) (rest (omega arith))

-- ---- the row step, and runs

module _ (m : Meaning) (lawful : Lawful m) (s : Member m) (x : Point) (solves : Solves m s x) where
  row_holds : (B : Box) (i : ℕ) → IsNode m i → Holds m B x → row_answers m B i ≡ true → holds_zero (coefficient_range m i i) ≡ false → (r : Range) × (narrowed m B i ≡ Some r) × (component x i ∈ r)
  row_holds B i node holds p e =
      let h = in_shared (component x i) (at B i) (quotient (numerator m B i) (coefficient_range m i i)) (holds i node) quotients in
      (h.0, opens m B i h.0 (record { answers = p; apart = e; kept = h.1 }), h.2)
    where
      terms : ℕ → Fraction
      terms j = s.coefficient i j ⊗ component x j

      picked : (j : ℕ) → IsNode m j → s.coefficient i j ∈ coefficient_range m i j
      picked j q = picked_in (m.coefficient i j) (s.coefficient i j) (s.coefficients_picked i j node q)

      products : (j : ℕ) → 1 ≤ j → j ≤ m.size → terms j ∈ times (coefficient_range m i j) (at B j)
      products j p q = in_times (s.coefficient i j) (component x j) (coefficient_range m i j) (at B j) (picked j (p, q)) (holds j (p, q))

      numerators : terms i ∈ numerator m B i
      numerators = one_term terms (λ j. times (coefficient_range m i j) (at B j)) i m.size (right_side_range m i) node.0 node.1 products (in_like (sum terms m.size) (s.right_side i) (right_side_range m i) (solves i node) (picked_in (m.right_side i) (s.right_side i) (s.right_sides_picked i node)))

      quotients : component x i ∈ quotient (numerator m B i) (coefficient_range m i i)
      quotients = in_quotient (s.coefficient i i) (component x i) (numerator m B i) (coefficient_range m i i) e (numerator_ordered m lawful B i node) (coefficient_ordered m lawful i i node node) (picked i node) numerators

  set_holds : (B : Box) (i : ℕ) (r : Range) → 1 ≤ i → Holds m B x → component x i ∈ r → Holds m (set B (i - 1) r) x
  set_holds B i r l h k j n =
      subst (λ a. component x a ∈ get_or (set B (i - 1) r) (j - 1) nothing) (omega arith)
      (each_set (λ a y. IsNode m (suc a) → component x (suc a) ∈ y) B (i - 1) r
      (λ a p. let e : suc a - 1 ≡ a = omega arith in subst (λ c. component x (suc a) ∈ get_or B c nothing) e (h (suc a) p))
      (λ p. let e : i ≡ suc (i - 1) = omega arith in subst (λ a. component x a ∈ r) e k)
      (j - 1) (omega arith))

  -- ---- runs on a system that can be solved

  module _ (able : CanBeSolved m) where
    -- a box for the nodes of the system that holds the solution
    record HoldsIt (B : Box) : Type 0 where
      pub fit : length B ≡ m.size
      pub holds : Holds m B x

    abbrev Within : Bound → Type 0
    Within b = component x b.node ∈ b.span

    steps : (B : Box) (i : ℕ) → HoldsIt B → HasNode B i → (r : Range) × (narrowed m B i ≡ Some r) × HoldsIt (set B (i - 1) r)
    steps B i h n =
        let node : IsNode m i = (n.0, omega (arith, n.1, h.fit)) in
        let k = row_holds B i node h.holds (able_answers m able B i h.fit node) (able_apart m able i node) in
        (k.0, k.1, record { fit = length-set B (i - 1) k.0 ∙ h.fit; holds = set_holds B i k.0 n.0 h.holds k.2 })

    reads : (B : Box) (i : ℕ) (s r : Range) → HoldsIt B → HasNode B i → Within (record { node = i; span = s }) → shared (at B i) s ≡ Some r → HoldsIt (set B (i - 1) r)
    reads B i t r h n a e =
        let node : IsNode m i = (n.0, omega (arith, n.1, h.fit)) in
        let k = in_shared (component x i) (at B i) t (h.holds i node) a in
        let f = k.1 in
        let g : k.0 ≡ r = cc in
        record { fit = length-set B (i - 1) r ∙ h.fit; holds = set_holds B i r n.0 h.holds (subst (λ y. component x i ∈ y) g k.2) }

    module _ (B : Box) (fit : length B ≡ m.size) (holds : Holds m B x) (cs : List Ask) (all : InAll x (accepted (narrowed m) B cs)) where
      pub run_holds : Holds m (after (narrowed m) B cs) x
      run_holds = (run_keeps (narrowed m) HoldsIt Within steps reads B (record { fit = fit; holds = holds }) cs all).holds

      pub truth_calms : NoConflict (narrowed m) B cs
      truth_calms = run_calm (narrowed m) HoldsIt Within steps reads B (record { fit = fit; holds = holds }) cs all
