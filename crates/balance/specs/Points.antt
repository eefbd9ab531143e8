-- A point against the balance: whether a member system has it as its solution, told from the ends alone.
use Rattle.std.specs.Prelude.{◌≡◌, ℕ, ◌-◌, ◌^◌, ◌<◌, Bool, cond, T, ◌↔◌, List, length, ℤ, pos, neg_ℤ, Some, None, Ok, Err, Option, Result, ◌==◌, slice_index_or, unsigned_abs}
use Rattle.balance.specs.declared.range.Range.{Range}
use Rattle.balance.specs.declared.refusal.Refusal.{Refusal}
use Rattle.balance.specs.declared.refusal.Refusal.TheVariants.{Point as PointRefusal}
use Rattle.balance.specs.Ranges.{range, only, contains, times, total, meets}
use Rattle.balance.specs.Meanings.{Meaning, coefficient_range, right_side_range}
use Rattle.balance.specs.Places.{first, every, unless_refused, first_refusal}
use Rattle.balance.specs.Members.{Member, Point, Solves}

-- numerator j of a list, from 1
abbrev pub numerator : List ℤ → ℕ → ℤ
numerator ps j = slice_index_or ps (j - 1) (pos 0)

abbrev pub between : ℤ → ℤ → ℤ → Bool
between lower upper z = contains (range lower upper) z

-- numerators lie within ±2^37
abbrev pub numerator_refusal : List ℤ → ℕ → Option Refusal
numerator_refusal ps j = cond (between (neg_ℤ (pos (2 ^ 37))) (pos (2 ^ 37)) (numerator ps j)) None (Some (PointRefusal j))

-- as many numerators as nodes, and the denominator in 1 to 2^20
abbrev pub point_refusal : ℕ → List ℤ → ℤ → Option Refusal
point_refusal n ps q =
    cond (length ps == n)
    (cond (between (pos 1) (pos (2 ^ 20)) q) (first (numerator_refusal ps) n) (Some (PointRefusal 0)))
    (Some (PointRefusal 0))

-- the sum of A_ij × p_j over all j
abbrev pub row : Meaning → (ℕ → ℤ) → ℕ → Range
row m p i = total (λ j. times (coefficient_range m i j) (only (p j))) m.size

-- row i fits: that sum and q × b_i have a number in common
abbrev pub fits : Meaning → (ℕ → ℤ) → ℤ → ℕ → Bool
fits m p q i = meets (row m p i) (times (right_side_range m i) (only q))

abbrev pub possible_answer : Meaning → List ℤ → ℤ → Result Bool Refusal
possible_answer m ps q =
    unless_refused (first_refusal m)
    (unless_refused (point_refusal m.size ps q)
    (Ok (every (fits m (numerator ps) q) m.size)))

-- ---- what the answer means

abbrev pub point : List ℤ → (q : ℕ) → 0 < q → Point
point ps q positive = record { numerator = numerator ps; over = q; positive = positive }

-- some member system has the point as its solution
abbrev pub Possible : Meaning → Point → Type 0
Possible m x = (s : Member m) × Solves m s x

-- an answer is yes exactly if the point p / q is possible
abbrev pub TellsPossible : Meaning → List ℤ → ℤ → Result Bool Refusal → Type 0
TellsPossible m ps q (Ok yes_or_no) = (positive : 0 < unsigned_abs q) × (q ≡ pos (unsigned_abs q)) × (T yes_or_no ↔ Possible m (point ps (unsigned_abs q) positive))
TellsPossible m ps q (Err e) = Unit {0}
