-- Calls answer the same by the assembled matrix as by the system.
use Rattle.std.proofs.Common.{◌≡◌, ℕ, zero, suc, ◌^◌, ◌≤◌, not, ◌&&◌, Bool, if◌then◌else◌, cond, eqb, List, [], ◌∷◌, length, ℤ, pos, leb, Some, None, Ok, Err, Option, Result, sym, refl, ap, ◌∙◌, subst, arith}
use lib.Signed.{le_z}
use Rattle.balance.specs.declared.refusal.Refusal.{Refusal}
use Rattle.balance.specs.declared.refusal.Refusal.TheVariants.{Dominance, Wide}
use Rattle.balance.specs.Ranges.{only, minus, times, total}
use Rattle.balance.specs.Meanings.{Meaning, Among, IsNode, Same, Lawful, range_at, coefficient_range, right_side_range}
use Rattle.balance.specs.Places.{first, first_of, unless_refused, first_refusal, every}
use Rattle.roast.specs.declared.matrix.Matrix.{Matrix}
use Rattle.roast.specs.Rounding.{holds_zero, quotient, shared}
use Rattle.roast.specs.Certificates.{certificate_refusal, dominance_refusal, wide_refusal, opening, OpensExactly}
use Rattle.roast.specs.FirstBox.{box_made}
use Rattle.roast.specs.Narrowing.{Box, at, HasNode, row_answers, term, narrowed}
use Rattle.roast.specs.Machine.{Transition, step_to, at_node, row_step, one_more, then_step, row_steps, all_or_none, round, changes_nothing}
use Rattle.roast.specs.Matrices.{Assembled}
use Rattle.roast.specs.Assembled.{meant, FitsBox, Held}
use Rattle.roast.specs.Runs.{CanBeSolved, KeepsCommonPart}
use Rattle.balance.proofs.Searches.{all_answer}
use Rattle.roast.proofs.Boxes.{first_cong, answers_same, every_same}
use Rattle.roast.proofs.FirstBox.{v_same, k_same, first_same, first_length}
use Rattle.roast.proofs.Matrices.{told_same, told_answers}
use Rattle.roast.proofs.Openings.{opens_exactly}
use Rattle.roast.proofs.RowSteps.{total_same}
use Rattle.roast.proofs.Solvable.{inside_holds, opened_able, able_apart, keeps_common_part}

module _ (m m' : Meaning) (same : Same m m') where
  narrowed_same : (B : Box) (i : ℕ) → IsNode m i → narrowed m B i ≡ narrowed m' B i
  narrowed_same B i node = λ k. if answers k && not (holds_zero (diagonal k)) then shared (at B i) (quotient (minus (side k) (sums k)) (diagonal k)) else None
    where
      answers : row_answers m B i ≡ row_answers m' B i
      answers = answers_same m m' same B B i refl node

      diagonal : coefficient_range m i i ≡ coefficient_range m' i i
      diagonal = ap range_at (same.coefficients i i node node)

      side : right_side_range m i ≡ right_side_range m' i
      side = ap range_at (same.right_sides i node)

      sums : total (term m B i) m.size ≡ total (term m' B i) m'.size
      sums =
          total_same _ _ m.size (λ j p q. ap (λ a. if eqb j i then only (pos 0) else times (range_at a) (at B j)) (same.coefficients i j node (p, q)))
          ∙ ap (total (term m' B i)) same.sizes

  row_step_same : (B : Box) (i : ℕ) → IsNode m i → row_step (narrowed m) B i ≡ row_step (narrowed m') B i
  row_step_same B i node = ap (λ o. at_node B i (step_to B i o)) (narrowed_same B i node)

  row_steps_same : (B : Box) (n : ℕ) → n ≤ m.size → row_steps (narrowed m) B n ≡ row_steps (narrowed m') B n
  row_steps_same B zero h = refl
  row_steps_same B (suc n) h = next (row_steps (narrowed m) B n).0 (row_steps (narrowed m) B n).1 ∙ ap (λ (t : Transition ℕ). then_step (narrowed m') (suc n) t.0 t.1) (row_steps_same B n (omega arith))
    where
      next : (a : Result ℕ Refusal) (C : Box) → then_step (narrowed m) (suc n) a C ≡ then_step (narrowed m') (suc n) a C
      next (Ok c) C = ap (λ (t : Transition Bool). (one_more c t.0, t.1)) (row_step_same C (suc n) (omega arith, h))
      next (Err e) C = refl

  opening_same : (us : List ℤ) → first_refusal m ≡ first_refusal m' → opening m us ≡ opening m' us
  opening_same us refusals = λ k. unless_refused (first_of (refusals k ∷ certificate_refusal (same.sizes k) us ∷ dominance k ∷ wide k ∷ [])) (Ok (first_same m m' same us k))
    where
      dominance : first (dominance_refusal m us) m.size ≡ first (dominance_refusal m' us) m'.size
      dominance =
          first_cong _ _ m.size (λ i p. ap (λ z. cond (le_z (pos 1) z) None (Some (Dominance i))) (v_same m m' same us i p))
          ∙ ap (first (dominance_refusal m' us)) same.sizes

      wide : first (wide_refusal m us) m.size ≡ first (wide_refusal m' us) m'.size
      wide =
          first_cong _ _ m.size (λ i p. ap (λ z. cond (leb z (2 ^ 30)) None (Some (Wide i))) (k_same m m' same us i))
          ∙ ap (first (wide_refusal m' us)) same.sizes

-- ---- a roast that holds the matrix

module _ (m : Meaning) (a : Matrix) (B : Box) (held : (i : ℕ) → Among (length B) i → Held m a (length B)) where
  pub fits : FitsBox a B
  fits i has =
      let h = held i has in
      record {
        rows = h.rows;
        apart = λ j p. let n : IsNode m j = (p.0, omega (arith, p.1, h.rows, h.assembled.size)) in ap holds_zero (h.assembled.coefficients j j n n) ∙ h.apart j n;
      }

  module _ (i : ℕ) (has : HasNode B i) where
    pub able : CanBeSolved m
    able = let h = held i has in record { answers = all_answer m h.assembled.answers; diagonals = λ j n. inside_holds (coefficient_range m j j) (h.apart j n) }

    -- and what a row step keeps is what its law says
    pub common_part_held : Lawful m → KeepsCommonPart m B i (narrowed m B i)
    common_part_held lawful = let h = held i has in keeps_common_part m able B i (h.rows ∙ h.assembled.size) (has.0, omega (arith, has.1, h.rows, h.assembled.size)) lawful

    here : Same (meant a) m
    here = told_same m a.size a.coefficients a.sides (held i has).assembled

    node : IsNode (meant a) i
    node = let f = (held i has).rows in (has.0, omega arith)

    pub row_step_held : row_step (narrowed (meant a)) B i ≡ row_step (narrowed m) B i
    row_step_held = row_step_same (meant a) m here B i node

  pub round_held : round (narrowed (meant a)) B ≡ round (narrowed m) B
  round_held = ap (λ (t : Transition ℕ). all_or_none B t.0 t.1) (by (length B) refl)
    where
      by : (n : ℕ) → length B ≡ n → row_steps (narrowed (meant a)) B n ≡ row_steps (narrowed m) B n
      by zero e = refl
      by (suc n) e =
          let some : Among (length B) 1 = (omega arith, omega arith) in
          row_steps_same (meant a) m (here 1 some) B (suc n) (let f = (held 1 some).rows in omega arith)

  pub rest_held : every (λ i. changes_nothing (row_step (narrowed (meant a)) B i).0) (length B) ≡ every (λ i. changes_nothing (row_step (narrowed m) B i).0) (length B)
  rest_held = every_same _ _ (length B) (λ i p q. ap (λ (t : Transition Bool). changes_nothing t.0) (row_step_held i (p, q)))

-- a box of as many nodes is held too
pub still_held : (m : Meaning) (a : Matrix) (n n' : ℕ) → n' ≡ n → ((i : ℕ) → Among n i → Held m a n) → (i : ℕ) → Among n' i → Held m a n'
still_held m a n n' e = subst (λ k. (i : ℕ) → Among k i → Held m a k) (sym e)

-- ---- opening

pub opening_held : (m : Meaning) (a : Matrix) (us : List ℤ) → Assembled m a.size a.coefficients a.sides → opening (meant a) us ≡ opening m us
opening_held m a us h = opening_same (meant a) m (told_same m a.size a.coefficients a.sides h) us (told_answers a.size a.coefficients a.sides ∙ sym h.answers)

pub opening_made : (a : Matrix) (us : List ℤ) → certificate_refusal a.size us ≡ None → opening (meant a) us ≡ box_made (meant a) us
opening_made a us h = let t = told_answers a.size a.coefficients a.sides in rw (t, h)

pub opening_refused : (a : Matrix) (us : List ℤ) (e : Refusal) → certificate_refusal a.size us ≡ Some e → opening (meant a) us ≡ Err e
opening_refused a us e h = let t = told_answers a.size a.coefficients a.sides in rw (t, h)

-- a system with a refused place
pub opening_stops : (m : Meaning) (us : List ℤ) (e : Refusal) → first_refusal m ≡ Some e → opening m us ≡ Err e
opening_stops m us e h = rw h

-- the matrix of the same system takes the place of the one that was held
pub held_anew : (m : Meaning) (a b : Matrix) (n : ℕ) → ((i : ℕ) → Among n i → Held m a n) → (first_refusal m ≡ None → Assembled m b.size b.coefficients b.sides) → (i : ℕ) → Among n i → Held m b n
held_anew m a b n held anew i p =
    let h = held i p in
    let t = anew h.assembled.answers in
    record { rows = h.rows ∙ h.assembled.size ∙ sym t.size; assembled = t; apart = h.apart }

-- the box of an opening is held
pub opened_held : (m : Meaning) (a : Matrix) (us : List ℤ) (B : Box) → Ok B ≡ opening m us → (first_refusal m ≡ None → Assembled m a.size a.coefficients a.sides) → (i : ℕ) → Among (length B) i → Held m a (length B)
opened_held m a us B o h = by (first_refusal m) refl
  where
    by : (r : Option Refusal) → first_refusal m ≡ r → (i : ℕ) → Among (length B) i → Held m a (length B)
    by None e i p =
        let t = h e in
        let opened = opened_of (opens_exactly m us) in
        record { rows = ap length opened.1 ∙ first_length m us ∙ sym t.size; assembled = t; apart = able_apart m (opened_able m us opened.0) }
      where
        opened_of : OpensExactly m us (opening m us) → OpensExactly m us (Ok B)
        opened_of x = subst (OpensExactly m us) (sym o) x
    by (Some r) e i p = cc (o ∙ opening_stops m us r e)
