-- The search for the first refused place.
use Rattle.std.proofs.Common.{◌≡◌, ℕ, zero, suc, ◌+◌, ◌-◌, ◌<◌, ◌≤◌, Bool, true, false, cond, leb, ℤ, Some, None, Ok, Err, Option, Result, sym, refl, ap, ◌∙◌, subst, ⊎_elim, arith}
use native.Mathlib.Decide.{ℕ_discrete}
use Rattle.std.proofs.lemmas.Bool.Decides.{nat_tests}
use Rattle.balance.specs.declared.range.Range.{Range}
use Rattle.balance.specs.declared.refusal.Refusal.{Refusal}
use Rattle.balance.specs.Ranges.{range}
use Rattle.balance.specs.Meanings.{Meaning, IsNode, Told, EveryPlaceAnswers, answer, coefficient_range, right_side_range, is_node, coefficient_answer, right_side_answer}
use Rattle.balance.specs.Places.{or_else, first, unless_refused, refusal_at, row_refusal, first_refusal, place, FirstRefused, Searched}
use Rattle.balance.proofs.PlaceLaws.{told_range, answered, not_answered, unrefused_told}

-- ---- the first of a list of refusals

pub first_more : (f : ℕ → Option Refusal) (k : ℕ) → first f k ≡ None → f (k + 1) ≡ None → first f (k + 1) ≡ None
first_more f k h e = let s : k + 1 ≡ suc k = omega arith in rw s (rw h (rw s at e))

pub first_stops : (f : ℕ → Option Refusal) (e : Refusal) (k n : ℕ) → first f k ≡ None → f (k + 1) ≡ Some e → k < n → first f n ≡ Some e
first_stops f e k zero h p l = absurd (omega arith)
first_stops f e k (suc n) h p l = go (ℕ_discrete k n) (λ q. first_stops f e k n h p q)
  where
    go : Dec (k ≡ n) → (k < n → first f n ≡ Some e) → first f (suc n) ≡ Some e
    go (yes q) rest =
        let s : k + 1 ≡ suc n = omega arith in
        let none : first f n ≡ None = rw q at h in
        rw none (rw s at p)
    go (no q) rest = rw (rest (omega arith))

-- the same, where the next is number k
pub first_next : (f : ℕ → Option Refusal) (k n : ℕ) → 1 ≤ k → n ≡ k → first f (k - 1) ≡ None → f k ≡ None → first f n ≡ None
first_next f k n p q h e = let s : k - 1 + 1 ≡ k = omega arith in subst (λ i. first f i ≡ None) (s ∙ sym q) (first_more f (k - 1) h (subst (λ i. f i ≡ None) (sym s) e))

pub first_ends : (f : ℕ → Option Refusal) (e : Refusal) (k n : ℕ) → 1 ≤ k → k ≤ n → first f (k - 1) ≡ None → f k ≡ Some e → first f n ≡ Some e
first_ends f e k n p q h t = let s : k ≡ k - 1 + 1 = omega arith in first_stops f e (k - 1) n h (subst (λ i. f i ≡ Some e) s t) (omega arith)

-- an answer that nothing, or something, goes before
pub unrefused : {X : Type 0} (o : Option Refusal) (x y : X) → Ok x ≡ unless_refused o (Ok y) → (o ≡ None) × (x ≡ y)
unrefused None x y h = (refl, cc)
unrefused (Some e) x y h = cc

pub refused_so : {X : Type 0} (o : Option Refusal) (e : Refusal) (r : Result X Refusal) → o ≡ Some e → Err e ≡ unless_refused o r
refused_so o e r h = rw h

pub refused_by : {X : Type 0} (o : Option Refusal) (e : Refusal) (y : X) → Err e ≡ unless_refused o (Ok y) → o ≡ Some e
refused_by None e y h = cc
refused_by (Some r) e y h = cc

-- the first k of f that refuses
pub record Found (f : ℕ → Option Refusal) (n : ℕ) (e : Refusal) : Type 0 where
  pub index : ℕ
  pub some : 1 ≤ index
  pub within : index ≤ n
  pub there : f index ≡ Some e
  pub before : (j : ℕ) → 1 ≤ j → j < index → f j ≡ None

pub none_of : (f : ℕ → Option Refusal) (n : ℕ) → first f n ≡ None → (j : ℕ) → 1 ≤ j → j ≤ n → f j ≡ None
none_of f zero h j p q = absurd (omega arith)
none_of f (suc n) h j p q = by (first f n) refl (ℕ_discrete j (suc n)) (λ e r. none_of f n e j p r)
  where
    by : (o : Option Refusal) → first f n ≡ o → Dec (j ≡ suc n) → (first f n ≡ None → j ≤ n → f j ≡ None) → f j ≡ None
    by None e (yes r) rest = let t : or_else (first f n) (f (suc n)) ≡ None = h in rw r (rw e at t)
    by None e (no r) rest = rest e (omega arith)
    by (Some x) e d rest = let t : or_else (first f n) (f (suc n)) ≡ None = h in cc (ap (λ o. or_else o (f (suc n))) e)

pub found : (f : ℕ → Option Refusal) (n : ℕ) (e : Refusal) → first f n ≡ Some e → Found f n e
found f zero e h = cc
found f (suc n) e h = by (first f n) refl (λ p. found f n e p)
  where
    t : or_else (first f n) (f (suc n)) ≡ Some e
    t = h

    by : (o : Option Refusal) → first f n ≡ o → (first f n ≡ Some e → Found f n e) → Found f (suc n) e
    by None p rest = record { index = suc n; some = omega arith; within = omega arith; there = rw p at t; before = λ j q r. none_of f n p j q (omega arith) }
    by (Some x) p rest =
        let r = rest (p ∙ (rw p at t)) in
        record { index = r.index; some = r.some; within = omega (arith, r.within); there = r.there; before = r.before }

-- ---- places and answers

pub is_a_node : (n i : ℕ) → 1 ≤ i → i ≤ n → is_node n i ≡ true
is_a_node n i p q = grind (arith, nat_tests)

pub coefficient_at : (m : Meaning) (i j : ℕ) → IsNode m i → IsNode m j → coefficient_answer m i j ≡ answer (m.coefficient i j)
coefficient_at m i j (p, q) (r, s) = rw (is_a_node m.size i p q, is_a_node m.size j r s)

pub right_side_at : (m : Meaning) (i : ℕ) → IsNode m i → right_side_answer m i ≡ answer (m.right_side i)
right_side_at m i (p, q) = rw (is_a_node m.size i p q)

-- a coefficient and a right side that answer, and that do not, and the range made of the ends that are answered
module _ (m : Meaning) (i : ℕ) (node : IsNode m i) where
  pub column_answers : (j : ℕ) (e : ℤ × ℤ) → IsNode m j → Ok e ≡ coefficient_answer m i j → refusal_at (m.coefficient i j) ≡ None
  column_answers j e h a = answered (m.coefficient i j) e (a ∙ coefficient_at m i j node h)

  pub column_refuses : (j : ℕ) (e : Refusal) → IsNode m j → Err e ≡ coefficient_answer m i j → refusal_at (m.coefficient i j) ≡ Some e
  column_refuses j e h a = not_answered (m.coefficient i j) e (a ∙ coefficient_at m i j node h)

  pub column_range : (j : ℕ) (e : ℤ × ℤ) (r : Range) → IsNode m j → Ok e ≡ coefficient_answer m i j → r ≡ range e.0 e.1 → r ≡ coefficient_range m i j
  column_range j e r h a is = is ∙ told_range (m.coefficient i j) e (a ∙ coefficient_at m i j node h)

  pub side_answers : (e : ℤ × ℤ) → Ok e ≡ right_side_answer m i → refusal_at (m.right_side i) ≡ None
  side_answers e a = answered (m.right_side i) e (a ∙ right_side_at m i node)

  pub side_refuses : (e : Refusal) → Err e ≡ right_side_answer m i → refusal_at (m.right_side i) ≡ Some e
  side_refuses e a = not_answered (m.right_side i) e (a ∙ right_side_at m i node)

  pub side_range : (e : ℤ × ℤ) (r : Range) → Ok e ≡ right_side_answer m i → r ≡ range e.0 e.1 → r ≡ right_side_range m i
  side_range e r a is = is ∙ told_range (m.right_side i) e (a ∙ right_side_at m i node)

-- ---- the search in terms of places

module _ (m : Meaning) where
  abbrev columns : ℕ → ℕ → Option Refusal
  columns i j = refusal_at (m.coefficient i j)

  row_parts : (i : ℕ) → row_refusal m i ≡ None → (first (columns i) m.size ≡ None) × (refusal_at (m.right_side i) ≡ None)
  row_parts i h = by (first (columns i) m.size) refl h
    where
      by : (o : Option Refusal) → first (columns i) m.size ≡ o → or_else o (refusal_at (m.right_side i)) ≡ None → (first (columns i) m.size ≡ None) × (refusal_at (m.right_side i) ≡ None)
      by None e t = (e, t)
      by (Some x) e t = cc

  pub all_answer : first_refusal m ≡ None → EveryPlaceAnswers m
  all_answer h = record {
    coefficients = λ i j (p, q) (r, s). unrefused_told (m.coefficient i j) (none_of (columns i) m.size (row_parts i (none_of (row_refusal m) m.size h i p q)).0 j r s);
    right_sides = λ i (p, q). unrefused_told (m.right_side i) (row_parts i (none_of (row_refusal m) m.size h i p q)).1;
  }

  -- a place of a row without refusal answers
  row_answers : (i j : ℕ) → row_refusal m i ≡ None → 1 ≤ j → Told (place m i j)
  row_answers i j h p = by (leb j m.size) refl
    where
      by : (t : Bool) → leb j m.size ≡ t → Told (cond t (m.coefficient i j) (m.right_side i))
      by true e = unrefused_told _ (none_of (columns i) m.size (row_parts i h).0 j p (grind (arith, nat_tests)))
      by false e = unrefused_told _ (row_parts i h).1

  coefficient_place : (i j : ℕ) → j ≤ m.size → place m i j ≡ m.coefficient i j
  coefficient_place i j h = grind (arith, nat_tests)

  side_place : (i : ℕ) → place m i (m.size + 1) ≡ m.right_side i
  side_place i = grind (arith, nat_tests)

  in_row : (i : ℕ) (e : Refusal) → 1 ≤ i → i ≤ m.size → row_refusal m i ≡ Some e → ((k : ℕ) → 1 ≤ k → k < i → row_refusal m k ≡ None) → FirstRefused m e
  in_row i e p q h earlier = by (first (columns i) m.size) refl h
    where
      by : (o : Option Refusal) → first (columns i) m.size ≡ o → or_else o (refusal_at (m.right_side i)) ≡ Some e → FirstRefused m e
      by (Some x) s t =
          let c = found (columns i) m.size e (s ∙ t) in
          record {
            row = i;
            column = c.index;
            is_place = ((p, q), (c.some, omega (arith, c.within)));
            refuses = ap refusal_at (coefficient_place i c.index c.within) ∙ c.there;
            earlier_answer = λ k j h b. ⊎_elim
                (λ l. row_answers k j (earlier k h.0.0 l) h.1.0)
                (λ l. subst Told (sym (coefficient_place k j (omega (arith, c.within)))) (unrefused_told (m.coefficient k j) (subst (λ r. columns r j ≡ None) (sym l.0) (c.before j h.1.0 l.1))))
                b;
          }
      by None s t = record {
        row = i;
        column = m.size + 1;
        is_place = ((p, q), (omega arith, omega arith));
        refuses = ap refusal_at (side_place i) ∙ t;
        earlier_answer = λ k j h b. ⊎_elim
            (λ l. row_answers k j (earlier k h.0.0 l) h.1.0)
            (λ l. subst Told (sym (coefficient_place k j (omega arith))) (unrefused_told (m.coefficient k j) (subst (λ r. columns r j ≡ None) (sym l.0) (none_of (columns i) m.size s j h.1.0 (omega arith)))))
            b;
      }

  pub searched : Searched m (unless_refused (first_refusal m) (Ok tt))
  searched = by (first_refusal m) refl
    where
      by : (o : Option Refusal) → first_refusal m ≡ o → Searched m (unless_refused o (Ok tt))
      by None e = all_answer e
      by (Some x) e = let r = found (row_refusal m) m.size x e in in_row r.index x r.some r.within r.there r.before

  -- ---- the loops

  -- the rows before this one answer
  module _ (row : ℕ) (node : IsNode m row) (rows : first (row_refusal m) (row - 1) ≡ None) where
    pub ends_at_column : (column : ℕ) (e : Refusal) → IsNode m column → first (columns row) (column - 1) ≡ None → Err e ≡ coefficient_answer m row column → first_refusal m ≡ Some e
    ends_at_column column e h before a = first_ends (row_refusal m) e row m.size node.0 node.1 rows (rw (first_ends (columns row) e column m.size h.0 h.1 before (column_refuses m row node column e h a)))

    pub column_passes : (column n : ℕ) (e : ℤ × ℤ) → IsNode m column → n ≡ column → first (columns row) (column - 1) ≡ None → Ok e ≡ coefficient_answer m row column → first (columns row) n ≡ None
    column_passes column n e h q before a = first_next (columns row) column n h.0 q before (column_answers m row node column e h a)

    pub columns_pass : (column : ℕ) → column ≡ m.size + 1 → first (columns row) (column - 1) ≡ None → first (columns row) m.size ≡ None
    columns_pass column q h = let s : column - 1 ≡ m.size = omega arith in subst (λ n. first (columns row) n ≡ None) s h

    -- and its columns
    module _ (row_before : first (columns row) m.size ≡ None) where
      pub row_passes : (n : ℕ) (e : ℤ × ℤ) → n ≡ row → Ok e ≡ right_side_answer m row → first (row_refusal m) n ≡ None
      row_passes n e q a = first_next (row_refusal m) row n node.0 q rows (rw row_before (side_answers m row node e a))

      pub ends_at_side : (e : Refusal) → Err e ≡ right_side_answer m row → first_refusal m ≡ Some e
      ends_at_side e a = first_ends (row_refusal m) e row m.size node.0 node.1 rows (rw row_before (side_refuses m row node e a))

  pub outcome : (r : Result (Unit {0}) Refusal) (o : Option Refusal) → first_refusal m ≡ o → r ≡ unless_refused o (Ok tt) → (r ≡ unless_refused (first_refusal m) (Ok tt)) × Searched m r
  outcome r o e h =
      let a : r ≡ unless_refused (first_refusal m) (Ok tt) = h ∙ sym (ap (λ (x : Option Refusal). unless_refused x (Ok tt)) e) in
      (a, subst (Searched m) (sym a) searched)
