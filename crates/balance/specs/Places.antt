-- The first refused place of a system, row by row, the columns before the right side.
use Rattle.std.specs.Prelude.{◌≡◌, ℕ, zero, suc, ◌+◌, ◌<◌, ◌≤◌, Bool, true, false, cond, List, [], ◌∷◌, ◌⊎◌, Some, None, Ok, Err, Option, Result, nat_le}
use Rattle.balance.specs.declared.refusal.Refusal.{Refusal}
use Rattle.balance.specs.declared.refusal.Refusal.TheVariants.{Limit}
use Rattle.balance.specs.Meanings.{Place, told, refused, Meaning, IsNode, Told, EveryPlaceAnswers}

abbrev pub or_else : Option Refusal → Option Refusal → Option Refusal
or_else None o = o
or_else (Some e) o = Some e

-- the first refusal among f 1 .. f k
abbrev pub first : (ℕ → Option Refusal) → ℕ → Option Refusal
first f zero = None
first f (suc k) = or_else (first f k) (f (suc k))

-- the first refusal of a list
abbrev pub first_of : List (Option Refusal) → Option Refusal
first_of [] = None
first_of (o ∷ os) = or_else o (first_of os)

-- the test passes at 1 .. k
abbrev pub every : (ℕ → Bool) → ℕ → Bool
every test zero = true
every test (suc k) = cond (every test k) (test (suc k)) false

-- a refusal goes before an answer
abbrev pub unless_refused : {X : Type 0} → Option Refusal → Result X Refusal → Result X Refusal
unless_refused None r = r
unless_refused (Some e) r = Err e

abbrev pub refusal_at : Place → Option Refusal
refusal_at (told r) = None
refusal_at (refused part row column) = Some (Limit part row column)

abbrev pub row_refusal : Meaning → ℕ → Option Refusal
row_refusal m i = or_else (first (λ j. refusal_at (m.coefficient i j)) m.size) (refusal_at (m.right_side i))

abbrev pub first_refusal : Meaning → Option Refusal
first_refusal m = first (row_refusal m) m.size

-- ---- the same in terms of places alone

-- the place of row i and column j, where column n + 1 is the right side
abbrev pub place : Meaning → ℕ → ℕ → Place
place m i j = cond (nat_le j m.size) (m.coefficient i j) (m.right_side i)

abbrev pub IsPlace : Meaning → ℕ → ℕ → Type 0
IsPlace m i j = IsNode m i × ((1 ≤ j) × (j ≤ m.size + 1))

-- (i, j) is asked before (k, l)
abbrev pub Before : ℕ → ℕ → ℕ → ℕ → Type 0
Before i j k l = (i < k) ⊎ ((i ≡ k) × (j < l))

-- e is the refusal of the first place that is refused
pub record FirstRefused (m : Meaning) (e : Refusal) : Type 0 where
  pub row : ℕ
  pub column : ℕ
  pub is_place : IsPlace m row column
  pub refuses : refusal_at (place m row column) ≡ Some e
  pub earlier_answer : (i j : ℕ) → IsPlace m i j → Before i j row column → Told (place m i j)

-- every place answers, or the first that does not is named
abbrev pub Searched : Meaning → Result (Unit {0}) Refusal → Type 0
Searched m (Ok done) = EveryPlaceAnswers m
Searched m (Err e) = FirstRefused m e
