-- A row step as the code makes it: from the sum of the assembled row, the right side and the diagonal.
use Rattle.std.proofs.Common.{◌≡◌, ℕ, zero, suc, ◌^◌, ◌≤◌, true, false, if◌then◌else◌, eqb, List, length, pos, sym, refl, ap, ◌∙◌, ap₂, arith}
use borrow.Author.Differences.{ints}
use Rattle.std.proofs.lemmas.Bool.{eq-eqb}
use Rattle.balance.specs.declared.range.Range.{Range}
use Rattle.balance.specs.Ranges.{only, AllBetween, plus, minus, times, total}
use Rattle.roast.specs.declared.matrix.Matrix.{Matrix}
use Rattle.roast.specs.Rounding.{holds_zero, quotient, shared}
use Rattle.roast.specs.Narrowing.{Box, at, row_answers, term, narrowed}
use Rattle.roast.specs.Matrices.{entry, row_of, part}
use Rattle.roast.specs.Assembled.{meant}
use Rattle.roast.proofs.Matrices.{row_at, told_row}

pub wider : (xs : Box) → AllBetween (2 ^ 30) xs → AllBetween (2 ^ 37) xs
wider xs h k = let n = h k in (omega (arith, ints), n.1, omega (arith, ints))

pub total_same : (f g : ℕ → Range) (n : ℕ) → ((j : ℕ) → 1 ≤ j → j ≤ n → f j ≡ g j) → total f n ≡ total g n
total_same f g zero h = refl
total_same f g (suc n) h = ap₂ plus (total_same f g n (λ j p q. h j p (omega arith))) (h (suc n) (omega arith) (omega arith))

module _ (a : Matrix) (xs : Box) (i : ℕ) (fits : length xs ≡ a.size) where
  answers : row_answers (meant a) xs i ≡ true
  answers = let t : eqb (length xs) a.size ≡ true = eq-eqb (length xs) a.size fits in rw (t, told_row a.size a.coefficients a.sides i) refl

  pub leaves : (row : List Range) (sum : Range) → row ≡ row_of a.size a.coefficients i → length row ≡ a.size → sum ≡ total (part row xs i) (length row) → holds_zero (entry a.coefficients i i) ≡ false → narrowed (meant a) xs i ≡ shared (at xs i) (quotient (minus (at a.sides i) sum) (entry a.coefficients i i))
  leaves row sum is long e h = rw (answers, h) (λ k. shared (at xs i) (quotient (minus (at a.sides i) (sums k)) (entry a.coefficients i i)))
    where
      sums : total (term (meant a) xs i) a.size ≡ sum
      sums =
          total_same _ _ a.size (λ j p q. ap (λ (c : Range). if eqb j i then only (pos 0) else times c (at xs j)) (sym_row j p q))
          ∙ ap (total (part row xs i)) (sym long)
          ∙ sym e
        where
          sym_row : (j : ℕ) → 1 ≤ j → j ≤ a.size → entry a.coefficients i j ≡ at row j
          sym_row j p q = sym (ap (λ (r : List Range). at r j) is ∙ row_at a.size a.coefficients i j p q)
