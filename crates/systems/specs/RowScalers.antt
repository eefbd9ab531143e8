-- A layer that multiplies each row, its right side too, by a whole factor other than 0.
use Rattle.std.specs.Prelude.{ℕ, ◌+◌, ◌-◌, ◌^◌, Bool, cond, ◌&&◌, ◌↔◌, List, length, ℤ, pos, ◌*ℤ◌, Some, None, Option, ◌==◌, int_lt, nat_le, slice_index_or, unsigned_abs}
use Rattle.balance.specs.declared.range.Range.{Range}
use Rattle.balance.specs.declared.refusal.Refusal.{Refusal}
use Rattle.balance.specs.Ranges.{range}
use Rattle.balance.specs.Meanings.{Place, Meaning, EveryPlaceAnswers, limited, place_above}
use Rattle.balance.specs.Members.{Point}
use Rattle.balance.specs.Points.{Possible}
use Rattle.systems.specs.Entries.{entries_refusal}

-- ---- what the layer tells

-- a negative factor exchanges the ends
abbrev pub scaled : ℤ → Range → Range
scaled f r = cond (int_lt f (pos 0)) (range (r.upper *ℤ f) (r.lower *ℤ f)) (range (r.lower *ℤ f) (r.upper *ℤ f))

-- factor k of a list, from 1
abbrev pub factor_at : List ℤ → ℕ → ℤ
factor_at fs k = slice_index_or fs (k - 1) (pos 0)

-- the factor of row i, where there are as many factors as nodes
abbrev pub row_factor : List ℤ → ℕ → ℕ → Option ℤ
row_factor fs n i = cond (length fs == n) (Some (factor_at fs i)) None

-- Part 3: a scaled end beyond the limit is refused. A refusal from below is passed up, and so is everything where there is no factor.
abbrev pub scaled_place : ℕ → ℕ → ℕ → Option ℤ → Place → Place
scaled_place limit row column None place = place
scaled_place limit row column (Some f) place = place_above (λ r. limited limit 3 row column (scaled f r)) place

abbrev pub row_scaled : List ℤ → Meaning → Meaning
row_scaled fs m = record {
  size = m.size;
  coefficient = λ i j. scaled_place (2 ^ 20) i j (row_factor fs m.size i) (m.coefficient i j);
  right_side = λ i. scaled_place (2 ^ 42) i (m.size + 1) (row_factor fs m.size i) (m.right_side i);
}

-- ---- which factors it takes

-- other than 0, and within ±1,024
abbrev pub factor_allowed : ℤ → Bool
factor_allowed f = nat_le 1 (unsigned_abs f) && nat_le (unsigned_abs f) 1024

-- as many factors as nodes; then factor by factor
abbrev pub factors_refusal : ℕ → List ℤ → Option Refusal
factors_refusal n fs = entries_refusal n (length fs) (λ k. factor_allowed (factor_at fs k))

-- ---- what it keeps

-- a point solves some member of the layer exactly if it solves some member below, where every place of the layer answers
abbrev pub KeepsSolutions : Meaning → Meaning → Type 0
KeepsSolutions below layer = EveryPlaceAnswers layer → (x : Point) → Possible below x ↔ Possible layer x
