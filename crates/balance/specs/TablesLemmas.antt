-- The table keeps the law of systems.
use Rattle.std.specs.Prelude.{◌≡◌, ℕ, zero, suc, ◌+◌, ◌^◌, Bool, true, false, cond, List, [], ◌∷◌, map, pos, neg_ℤ, int_le, slice_index_or, refl}
use Rattle.std.proofs.Common.{arith}
use Rattle.std.proofs.lemmas.Int.{ints}
use Rattle.balance.specs.declared.range.Range.{Range}
use Rattle.balance.specs.Ranges.{only, Ordered}
use Rattle.balance.specs.Meanings.{told, refused, Lawful, Within, limited}
use Rattle.balance.specs.Tables.{table, Counted}

limited_by : (limit part row column : ℕ) (r : Range) → Ordered r → (s t : Bool) → int_le (neg_ℤ (pos limit)) r.lower ≡ s → int_le r.upper (pos limit) ≡ t → Within limit (cond (cond s t false) (told r) (refused part row column))
limited_by limit part row column r o true true e f = (omega (arith, ints), omega (arith, ints), omega (arith, ints))
limited_by limit part row column r o true false e f = tt
limited_by limit part row column r o false t e f = tt

pub limited_within : (limit part row column : ℕ) (r : Range) → Ordered r → Within limit (limited limit part row column r)
limited_within limit part row column r o = limited_by limit part row column r o _ _ refl refl

module _ {C : Type 0} (ends : C → Range) (ordered : (c : C) → Ordered (ends c)) where
  cells_ordered : (cells : List C) (k : ℕ) → Ordered (slice_index_or (map ends cells) k (only (pos 0)))
  cells_ordered [] k = omega (arith, ints)
  cells_ordered (c ∷ cells) zero = ordered c
  cells_ordered (c ∷ cells) (suc k) = cells_ordered cells k

  pub table_lawful : (n : ℕ) (cells : List C) (count : ℕ) → Counted n count → Lawful (table n (map ends cells))
  table_lawful n cells count h = record {
    some = h.0;
    few = h.1;
    coefficients = λ i j p q. limited_within (2 ^ 20) 1 i j _ (cells_ordered cells _);
    right_sides = λ i p. limited_within (2 ^ 42) 1 i (n + 1) _ (cells_ordered cells _);
  }
