-- The test of a certificate, and the first box.
use Rattle.std.specs.Prelude.{◌≡◌, ℕ, zero, suc, ◌+◌, ◌-◌, ◌*◌, ◌/◌, ◌^◌, ◌≤◌, max, cond, List, [], ◌∷◌, ◌++◌, length, ℤ, pos, ◌-ℤ◌, ◌≤ℤ◌, Some, None, Ok, Err, Option, Result, ◌==◌, int_le, int_lt, nat_le, slice_index_or, unsigned_abs}
use Rattle.balance.specs.declared.range.Range.{Range}
use Rattle.balance.specs.declared.refusal.Refusal.{Refusal}
use Rattle.balance.specs.declared.refusal.Refusal.TheVariants.{Certificate, Dominance, Wide}
use Rattle.balance.specs.Ranges.{limits, Ordered, Inside}
use Rattle.balance.specs.Meanings.{Meaning, IsNode, EveryPlaceAnswers, coefficient_range, right_side_range}
use Rattle.balance.specs.Places.{first, first_of, unless_refused, first_refusal}
use Rattle.balance.specs.Points.{between}
use Rattle.roast.specs.Rounding.{holds_zero}

-- |a|, the largest absolute value in a range
abbrev pub magnitude : Range → ℕ
magnitude a = max (unsigned_abs a.lower) (unsigned_abs a.upper)

-- ⟨a⟩, the smallest absolute value in a range, 0 if the range holds 0
abbrev pub mignitude : Range → ℕ
mignitude a = cond (holds_zero a) 0 (cond (int_lt (pos 0) a.lower) (unsigned_abs a.lower) (unsigned_abs a.upper))

-- The laws of both: they are the largest and the smallest absolute value of the numbers in a range.
pub record IsLargestSize (a : Range) (n : ℕ) : Type 0 where
  pub bounds : (p : ℤ) → Inside p a → unsigned_abs p ≤ n
  pub is_one : (p : ℤ) × Inside p a × (unsigned_abs p ≡ n)

pub record IsSmallestSize (a : Range) (n : ℕ) : Type 0 where
  pub bounds : (p : ℤ) → Inside p a → n ≤ unsigned_abs p
  pub is_one : (p : ℤ) × Inside p a × (unsigned_abs p ≡ n)

pub record MeasuresRanges : Type 0 where
  pub largest : (a : Range) → Ordered a → IsLargestSize a (magnitude a)
  pub smallest : (a : Range) → Ordered a → IsSmallestSize a (mignitude a)

-- u_i, number i of a list, and its size
abbrev pub number : List ℤ → ℕ → ℤ
number us i = slice_index_or us (i - 1) (pos 0)

abbrev pub u : List ℤ → ℕ → ℕ
u us i = unsigned_abs (number us i)

-- f 1 + .. + f k without f i
abbrev pub sum_without : (ℕ → ℕ) → ℕ → ℕ → ℕ
sum_without f i zero = 0
sum_without f i (suc k) = sum_without f i k + cond (suc k == i) 0 (f (suc k))

-- the largest of f 1 .. f k
abbrev pub largest : (ℕ → ℕ) → ℕ → ℕ
largest f zero = 0
largest f (suc k) = max (largest f k) (f (suc k))

-- the first k columns of row i but the diagonal, |A_ij| u_j added
abbrev pub others : Meaning → List ℤ → ℕ → ℕ → ℕ
others m us i k = sum_without (λ j. magnitude (coefficient_range m i j) * u us j) i k

-- v_i = ⟨A_ii⟩ u_i − the sum over j ≠ i of |A_ij| u_j
abbrev pub v : Meaning → List ℤ → ℕ → ℤ
v m us i = pos (mignitude (coefficient_range m i i) * u us i) -ℤ pos (others m us i m.size)

-- n whole numbers from 1 to 2^20 under which every row is dominated by its diagonal
pub record Passes (m : Meaning) (us : List ℤ) : Type 0 where
  pub count : length us ≡ m.size
  pub numbers : (i : ℕ) → IsNode m i → (pos 1 ≤ℤ number us i) × (number us i ≤ℤ pos (2 ^ 20))
  pub dominant : (i : ℕ) → IsNode m i → pos 1 ≤ℤ v m us i

-- a / d rounded up
abbrev pub rounded_up : ℕ → ℕ → ℕ
rounded_up a d = (a + (d - 1)) / d

-- k_i, the largest over all j of u_i |b_j| / v_j, rounded up
abbrev pub k : Meaning → List ℤ → ℕ → ℕ
k m us i = largest (λ j. rounded_up (u us i * magnitude (right_side_range m j)) (unsigned_abs (v m us j))) m.size

-- The law of k_i: it is the least whole number with u_i |b_j| ≤ k_i v_j for every j.
pub record LeastBound (m : Meaning) (us : List ℤ) (i bound : ℕ) : Type 0 where
  pub bounds : (j : ℕ) → IsNode m j → u us i * magnitude (right_side_range m j) ≤ bound * unsigned_abs (v m us j)
  pub least : (z : ℕ) → ((j : ℕ) → IsNode m j → u us i * magnitude (right_side_range m j) ≤ z * unsigned_abs (v m us j)) → bound ≤ z

-- f 1 .. f n
abbrev pub listed : {X : Type 0} → (ℕ → X) → ℕ → List X
listed f zero = []
listed f (suc n) = listed f n ++ f (suc n) ∷ []

-- ±k_i
abbrev pub first_range : Meaning → List ℤ → ℕ → Range
first_range m us i = limits (k m us i)

abbrev pub first_box : Meaning → List ℤ → List Range
first_box m us = listed (first_range m us) m.size

-- ---- opening

abbrev pub number_refusal : List ℤ → ℕ → Option Refusal
number_refusal us i = cond (between (pos 1) (pos (2 ^ 20)) (number us i)) None (Some (Certificate i))

abbrev pub certificate_refusal : ℕ → List ℤ → Option Refusal
certificate_refusal n us = cond (length us == n) (first (number_refusal us) n) (Some (Certificate 0))

abbrev pub dominance_refusal : Meaning → List ℤ → ℕ → Option Refusal
dominance_refusal m us i = cond (int_le (pos 1) (v m us i)) None (Some (Dominance i))

abbrev pub wide_refusal : Meaning → List ℤ → ℕ → Option Refusal
wide_refusal m us i = cond (nat_le (k m us i) (2 ^ 30)) None (Some (Wide i))

-- the first box, or the refusal that comes first
abbrev pub opening : Meaning → List ℤ → Result (List Range) Refusal
opening m us =
    unless_refused
    (first_of (
    first_refusal m
    ∷ certificate_refusal m.size us
    ∷ first (dominance_refusal m us) m.size
    ∷ first (wide_refusal m us) m.size
    ∷ []
    ))
    (Ok (first_box m us))

-- when an opening succeeds
pub record Opens (m : Meaning) (us : List ℤ) : Type 0 where
  pub answers : EveryPlaceAnswers m
  pub passes : Passes m us
  pub narrow : (i : ℕ) → IsNode m i → k m us i ≤ 2 ^ 30

-- an opening succeeds exactly then, and its box is the first box
abbrev pub OpensExactly : Meaning → List ℤ → Result (List Range) Refusal → Type 0
OpensExactly m us (Ok box) = Opens m us × (box ≡ first_box m us)
OpensExactly m us (Err e) = Opens m us → ⊥
