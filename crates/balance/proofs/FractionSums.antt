-- Fractions in ranges: products and sums of fractions lie in the products and sums of their ranges.
use Rattle.std.proofs.Common.{ℕ, zero, suc, ◌≤◌, ℤ, pos, ◌*ℤ◌, ◌≤ℤ◌, arith}
use borrow.Author.Differences.{ints}
use Rattle.std.proofs.lemmas.Int.{clamps}
use Rattle.balance.specs.declared.range.Range.{Range}
use Rattle.balance.specs.Ranges.{only, Ordered, plus, times, total}
use Rattle.balance.specs.Members.{Fraction, sum, ◌∈◌, ◌⊕◌, ◌⊗◌}
use Rattle.balance.proofs.Integers.{times_assoc, times_swap, le_times, le_sum, sum_le, between_low, between_high}

pub times_ordered : (r : Range) (p : ℤ) → Ordered (times r (only p))
times_ordered r p = omega (arith, ints, clamps)

pub total_ordered : (r : ℕ → Range) → ((j : ℕ) → Ordered (r j)) → (n : ℕ) → Ordered (total r n)
total_ordered r h zero = omega (arith, ints)
total_ordered r h (suc n) = omega (arith, ints, total_ordered r h n, h (suc n))

-- a whole number times a fraction
infixl 70 ◌·◌
abbrev pub ◌·◌ : ℕ → Fraction → Fraction
q · f = record { top = f.top *ℤ pos q; bottom = f.bottom; positive = f.positive }

⊕-in : (q : ℕ) (f g : Fraction) (r s : Range) → q · f ∈ r → q · g ∈ s → q · (f ⊕ g) ∈ plus r s
⊕-in q f g r s h k = (
  le_sum r.lower s.lower f.top g.top f.bottom g.bottom q h.0 k.0,
  sum_le r.upper s.upper f.top g.top f.bottom g.bottom q h.1 k.1,
)

-- q times a sum lies in the sum of ranges that hold q times its terms
pub sum_in : (q : ℕ) (f : ℕ → Fraction) (r : ℕ → Range) (n : ℕ) → ((j : ℕ) → 1 ≤ j → j ≤ n → q · f j ∈ r j) → q · sum f n ∈ total r n
sum_in q f r zero h = omega (arith, ints)
sum_in q f r (suc n) h = ⊕-in q (sum f n) (f (suc n)) (total r n) (r (suc n)) (sum_in q f r n (λ j a b. h j a (omega arith))) (h (suc n) (omega arith) (omega arith))

-- a number of r times p / q, times q
pub term_in : (r : Range) (a x : Fraction) → a ∈ r → x.bottom · (a ⊗ x) ∈ times r (only x.top)
term_in r a x h = (
  rw (times_assoc _ (pos a.bottom) (pos x.bottom)) at (le_times _ _ x.bottom low),
  rw (times_assoc _ (pos a.bottom) (pos x.bottom)) at (le_times _ _ x.bottom high),
)
  where
    d : ℤ
    d = pos a.bottom

    p : ℤ
    p = x.top

    low : ((times r (only p)).lower *ℤ d) ≤ℤ (a.top *ℤ p)
    low = between_low _ (r.lower *ℤ d) (r.upper *ℤ d) a.top p h.0 h.1
        (rw (times_swap r.lower d p) (le_times _ _ a.bottom (omega (arith, ints, clamps))))
        (rw (times_swap r.upper d p) (le_times _ _ a.bottom (omega (arith, ints, clamps))))

    high : (a.top *ℤ p) ≤ℤ ((times r (only p)).upper *ℤ d)
    high = between_high _ (r.lower *ℤ d) (r.upper *ℤ d) a.top p h.0 h.1
        (rw (times_swap r.lower d p) (le_times _ _ a.bottom (omega (arith, ints, clamps))))
        (rw (times_swap r.upper d p) (le_times _ _ a.bottom (omega (arith, ints, clamps))))
