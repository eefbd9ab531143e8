-- A matrix that is filled place by place.
use Rattle.std.proofs.Common.{◌≡◌, ℕ, zero, suc, replicate, ◌+◌, ◌-◌, ◌*◌, ◌^◌, ◌<◌, ◌≤◌, inl, inr, nat_lt, Bool, true, false, List, length, get_or, set, drop, ℤ, pos, None, Ok, Option, sym, refl, ap, ◌∙◌, subst, ⊎_elim, arith}
use native.Mathlib.Decide.{ℕ_discrete}
use borrow.Author.Differences.{ints}
use Rattle.std.proofs.lemmas.List.{get_or-set_same, get_or-set_other, get_or_past, length-set, get_or-take, get_or-drop}
use Rattle.balance.specs.declared.range.Range.{Range}
use Rattle.balance.specs.declared.refusal.Refusal.{Refusal}
use Rattle.balance.specs.Ranges.{range, only, Between, AllBetween}
use Rattle.balance.specs.Meanings.{told, Meaning, IsNode, Same, coefficient_answer, right_side_answer, coefficient_range, right_side_range, Lawful}
use Rattle.balance.specs.Places.{Before, or_else, refusal_at, row_refusal, first_refusal}
use Rattle.balance.proofs.PlaceLaws.{told_range, told_within, told_is}
use Rattle.roast.specs.Narrowing.{at}
use Rattle.roast.specs.Matrices.{entry, row_of, told_by, Assembled}
use Rattle.balance.proofs.Searches.{coefficient_at, right_side_at, all_answer}
use Rattle.balance.proofs.Entries.{none_all}

-- ---- a list of narrow ranges with one more

pub set_narrow : (limit : ℕ) (xs : List Range) (k : ℕ) (r : Range) → AllBetween limit xs → Between limit r → AllBetween limit (set xs k r)
set_narrow limit xs k r all h j = by (ℕ_discrete j k)
  where
    by : Dec (j ≡ k) → Between limit (get_or (set xs k r) j (only (pos 0)))
    by (no n) = subst (Between limit) (sym (get_or-set_other xs k j r (only (pos 0)) n)) (all j)
    by (yes e) = inside (nat_lt k (length xs)) refl
      where
        inside : (t : Bool) → nat_lt k (length xs) ≡ t → Between limit (get_or (set xs k r) j (only (pos 0)))
        inside true f =
            let l : k < length xs = grind (arith, f) in
            subst (λ i. Between limit (get_or (set xs k r) i (only (pos 0)))) (sym e) (subst (Between limit) (sym (get_or-set_same xs k r (only (pos 0)) l)) h)
        inside false f =
            let g : length xs ≤ k = grind (arith, f) in
            let past : length (set xs k r) ≤ j = omega (arith, length-set xs k r) in
            let past' : length xs ≤ j = omega arith in
            subst (Between limit) (get_or_past xs j (only (pos 0)) past' ∙ sym (get_or_past (set xs k r) j (only (pos 0)) past)) (all j)

-- ---- the loops

-- the places before this one are written down
pub record Filled (m : Meaning) (cells sides : List Range) (row column : ℕ) : Type 0 where
  pub coefficients : (i j : ℕ) → IsNode m i → IsNode m j → Before i j row column → entry cells i j ≡ coefficient_range m i j
  pub right_sides : (i : ℕ) → IsNode m i → i < row → at sides i ≡ right_side_range m i
  pub narrow : AllBetween (2 ^ 20) cells
  pub narrow_sides : AllBetween (2 ^ 42) sides

module _ (m : Meaning) (lawful : Lawful m) (cells sides : List Range) (many : length cells ≡ 1024) (rows : length sides ≡ 32) (row : ℕ) where
  pub none_filled : AllBetween (2 ^ 20) cells → AllBetween (2 ^ 42) sides → Filled m cells sides 1 1
  none_filled n s = record {
    coefficients = λ i j p q b. ⊎_elim (λ l. absurd (omega arith)) (λ l. absurd (omega (arith, l.0, l.1))) b;
    right_sides = λ i p l. absurd (omega arith);
    narrow = n;
    narrow_sides = s;
  }

  module _ (node : IsNode m row) where
    pub puts : (column : ℕ) (e : ℤ × ℤ) (r : Range) → IsNode m column → Filled m cells sides row column → Ok e ≡ coefficient_answer m row column → r ≡ range e.0 e.1 → Filled m (set cells ((row - 1) * 32 + (column - 1)) r) sides row (column + 1)
    puts column e r here filled a is =
        let few = lawful.few in
        let k = (row - 1) * 32 + (column - 1) in
        let told = a ∙ coefficient_at m row column node here in
        let l : k < length cells = omega arith in
        let at_row : (j : ℕ) → IsNode m j → Dec (j ≡ column) → j < column + 1 → entry (set cells k r) row j ≡ coefficient_range m row j
        = λ j q d b. elim d [
          | yes y ↦ subst (λ c. entry (set cells k r) row c ≡ coefficient_range m row c) (sym y) (get_or-set_same cells k r (only (pos 0)) l ∙ is ∙ told_range (m.coefficient row column) e told)
          | no n ↦ get_or-set_other cells k ((row - 1) * 32 + (j - 1)) r (only (pos 0)) (λ z. n (omega arith)) ∙ filled.coefficients row j node q (inr (refl, (omega arith)))
        ] in
        record {
          coefficients = λ i j p q b. ⊎_elim
              (λ l. get_or-set_other cells k ((i - 1) * 32 + (j - 1)) r (only (pos 0)) (λ z. omega arith) ∙ filled.coefficients i j p q (inl l))
              (λ l. subst (λ c. entry (set cells k r) c j ≡ coefficient_range m c j) (sym l.0) (at_row j q (ℕ_discrete j column) l.1))
              b;
          right_sides = filled.right_sides;
          narrow = set_narrow (2 ^ 20) cells k r filled.narrow (subst (Between (2 ^ 20)) (sym is) (told_within (2 ^ 20) (m.coefficient row column) e told (lawful.coefficients row column node here)));
          narrow_sides = filled.narrow_sides;
        }

    pub puts_side : (column : ℕ) (e : ℤ × ℤ) (r : Range) → m.size < column → Filled m cells sides row column → Ok e ≡ right_side_answer m row → r ≡ range e.0 e.1 → Filled m cells (set sides (row - 1) r) (row + 1) 1
    puts_side column e r past filled a is =
        let few = lawful.few in
        let told = a ∙ right_side_at m row node in
        let l : row - 1 < length sides = omega arith in
        let side : (i : ℕ) → IsNode m i → Dec (i ≡ row) → i < row + 1 → at (set sides (row - 1) r) i ≡ right_side_range m i
        = λ i p d b. elim d [
          | yes y ↦ subst (λ c. at (set sides (row - 1) r) c ≡ right_side_range m c) (sym y) (get_or-set_same sides (row - 1) r (only (pos 0)) l ∙ is ∙ told_range (m.right_side row) e told)
          | no n ↦ get_or-set_other sides (row - 1) (i - 1) r (only (pos 0)) (λ z. n (omega arith)) ∙ filled.right_sides i p (omega arith)
        ] in
        record {
          coefficients = λ i j p q b. filled.coefficients i j p q (⊎_elim (λ l. earlier i j q (ℕ_discrete i row) l) (λ l. absurd (omega (arith, l.1))) b);
          right_sides = λ i p b. side i p (ℕ_discrete i row) b;
          narrow = filled.narrow;
          narrow_sides = set_narrow (2 ^ 42) sides (row - 1) r filled.narrow_sides (subst (Between (2 ^ 42)) (sym is) (told_within (2 ^ 42) (m.right_side row) e told (lawful.right_sides row node)));
        }
      where
        earlier : (i j : ℕ) → IsNode m j → Dec (i ≡ row) → i < row + 1 → Before i j row column
        earlier i j q (yes e) l = inr (e, (omega arith))
        earlier i j q (no n) l = inl (omega arith)

pub assembled : (m : Meaning) (cells sides : List Range) (row : ℕ) → m.size < row → first_refusal m ≡ None → Filled m cells sides row 1 → Assembled m m.size cells sides
assembled m cells sides row past none filled = record {
  size = refl;
  answers = none;
  coefficients = λ i j p q. filled.coefficients i j p q (inl (omega arith));
  right_sides = λ i p. filled.right_sides i p (omega arith);
}

-- ---- a matrix of no system

nothing_at : (n k : ℕ) → get_or (replicate n (only (pos 0))) k (only (pos 0)) ≡ only (pos 0)
nothing_at zero k = refl
nothing_at (suc n) zero = refl
nothing_at (suc n) (suc k) = nothing_at n k

pub nothing_narrow : (limit n : ℕ) → AllBetween limit (replicate n (only (pos 0)))
nothing_narrow limit n k = subst (Between limit) (sym (nothing_at n k)) (omega (arith, ints), omega (arith, ints), omega (arith, ints))

-- ---- a row, and the meaning of a matrix

pub row_at : (n : ℕ) (cells : List Range) (i j : ℕ) → 1 ≤ j → j ≤ n → at (row_of n cells i) j ≡ entry cells i j
row_at n cells i j p q =
    let s = (i - 1) * 32 in
    let w : j - 1 < s + n - s = omega arith in
    get_or-take (s + n - s) (drop s cells) (j - 1) (only (pos 0)) w ∙ get_or-drop s cells (j - 1) (only (pos 0))

-- the cell behind j cells of a row
pub row_cell : (n : ℕ) (cells : List Range) (i j : ℕ) → j < n → get_or (row_of n cells i) j (only (pos 0)) ≡ entry cells i (j + 1)
row_cell n cells i j l = let e : j + 1 - 1 ≡ j = omega arith in subst (λ k. get_or (row_of n cells i) k (only (pos 0)) ≡ entry cells i (j + 1)) e (row_at n cells i (j + 1) (omega arith) (omega arith))

pub told_same : (m : Meaning) (n : ℕ) (cells sides : List Range) → Assembled m n cells sides → Same (told_by n cells sides) m
told_same m n cells sides a =
    let size = a.size in
    let all = all_answer m a.answers in
    record {
      sizes = size;
      coefficients = λ i j p q. let p' : IsNode m i = (omega arith, omega arith) in let q' : IsNode m j = (omega arith, omega arith) in told_is (m.coefficient i j) (entry cells i j) (all.coefficients i j p' q') (a.coefficients i j p' q');
      right_sides = λ i p. let p' : IsNode m i = (omega arith, omega arith) in told_is (m.right_side i) (at sides i) (all.right_sides i p') (a.right_sides i p');
    }

pub told_row : (n : ℕ) (cells sides : List Range) (i : ℕ) → row_refusal (told_by n cells sides) i ≡ None
told_row n cells sides i = let f : ℕ → Option Refusal = λ j. refusal_at (told (entry cells i j)) in ap (λ o. or_else o None) (none_all f n (λ j a b. refl))

pub told_answers : (n : ℕ) (cells sides : List Range) → first_refusal (told_by n cells sides) ≡ None
told_answers n cells sides = none_all (row_refusal (told_by n cells sides)) n (λ i p q. told_row n cells sides i)
