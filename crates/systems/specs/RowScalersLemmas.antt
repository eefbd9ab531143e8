-- Rows that are multiplied by factors: which factors are taken, and that the solutions stay.
use Rattle.std.specs.Prelude.{◌≡◌, ℕ, ◌+◌, ◌^◌, ◌≤◌, true, ◌↔◌, List, length, ℤ, pos, ◌*ℤ◌, Some, None, Option, FitsSigned, nat_eq, unsigned_abs}
use Rattle.std.proofs.Common.{arith, sym, ap, subst, ◌∙◌, to_z, of_z}
use Rattle.std.proofs.lemmas.Int.{ints, to_z-of_z}
use Rattle.std.specs.Int.{w64}
use Rattle.std.proofs.lemmas.Bool.{eq-eqb}
use Rattle.std.proofs.lemmas.Bool.Decides.{nat_tests}
use Rattle.balance.specs.declared.range.Range.{Range}
use Rattle.balance.specs.Ranges.{only, limits, times, meets}
use Rattle.balance.specs.Meanings.{Place, Meaning, IsNode, Within, Lawful, Told, EveryPlaceAnswers, range_at, limited}
use Rattle.balance.specs.Members.{Point}
use Rattle.balance.specs.Points.{row, fits, Possible}
use Rattle.balance.proofs.Integers.{product_within}
use Rattle.balance.proofs.Layers.{placed_told, above_within, above_told}
use Rattle.balance.proofs.Points.{solution_fits, fits_solution}
use Rattle.balance.specs.TablesLemmas.{limited_within}
use Rattle.systems.specs.RowScalers.{scaled, scaled_place, factor_at, row_factor, factor_allowed, factors_refusal, row_scaled, KeepsSolutions}
use Rattle.systems.specs.Scaling.{scaled_ordered, scaled_total, scaled_times, scaled_meets}
use Rattle.systems.specs.EntriesLemmas.{taken}

-- ---- the factors that are taken

-- as many factors as nodes, each other than 0 and within ±1,024
pub record Factors (n : ℕ) (fs : List ℤ) : Type 0 where
  pub count : length fs ≡ n
  pub some : (k : ℕ) → 1 ≤ k → k ≤ n → 1 ≤ unsigned_abs (factor_at fs k)
  pub small : (k : ℕ) → 1 ≤ k → k ≤ n → unsigned_abs (factor_at fs k) ≤ 1024

allowed : (f : ℤ) → factor_allowed f ≡ true → (1 ≤ unsigned_abs f) × (unsigned_abs f ≤ 1024)
allowed f h = (grind (arith, nat_tests), grind (arith, nat_tests))

pub factors : (n : ℕ) (fs : List ℤ) → factors_refusal n fs ≡ None → Factors n fs
factors n fs h =
    let t = taken n (length fs) (λ k. factor_allowed (factor_at fs k)) h in
    record {
      count = t.0;
      some = λ k a b. (allowed (factor_at fs k) (t.1 k a b)).0;
      small = λ k a b. (allowed (factor_at fs k) (t.1 k a b)).1;
    }

row_factor_is : (n : ℕ) (fs : List ℤ) (i : ℕ) → length fs ≡ n → row_factor fs n i ≡ Some (factor_at fs i)
row_factor_is n fs i c = let t : nat_eq (length fs) n ≡ true = eq-eqb (length fs) n c in rw t

-- ---- products

pub product_fits : (x f : ℤ) → unsigned_abs x ≤ 2 ^ 42 → unsigned_abs f ≤ 1024 → FitsSigned w64 (x *ℤ f)
product_fits x f h k = let b = product_within x f (2 ^ 42) 1024 h k in omega (arith, ints)

-- a product as the code holds it
pub product_held : (x f : ℤ) → unsigned_abs x ≤ 2 ^ 42 → unsigned_abs f ≤ 1024 → to_z w64 (of_z w64 (to_z w64 (of_z w64 x) *ℤ to_z w64 (of_z w64 f))) ≡ x *ℤ f
product_held x f h k = (λ i. to_z w64 (of_z w64 (to_z-of_z w64 x (omega (arith, ints)) i *ℤ to_z-of_z w64 f (omega (arith, ints)) i))) ∙ to_z-of_z w64 (x *ℤ f) (product_fits x f h k)

-- ---- the law of systems

scaled_within : (limit row column : ℕ) (o : Option ℤ) (p : Place) → Within limit p → Within limit (scaled_place limit row column o p)
scaled_within limit row column None p h = h
scaled_within limit row column (Some f) p h = above_within (λ r. limited limit 3 row column (scaled f r)) limit (λ r w. limited_within limit 3 row column (scaled f r) (scaled_ordered f r w.1)) p h

pub scaled_lawful : (fs : List ℤ) (m : Meaning) → Lawful m → Lawful (row_scaled fs m)
scaled_lawful fs m lawful = record {
  some = lawful.some;
  few = lawful.few;
  coefficients = λ i j p q. scaled_within (2 ^ 20) i j (row_factor fs m.size i) (m.coefficient i j) (lawful.coefficients i j p q);
  right_sides = λ i p. scaled_within (2 ^ 42) i (m.size + 1) (row_factor fs m.size i) (m.right_side i) (lawful.right_sides i p);
}

-- ---- the solutions stay

scaled_told : (limit row column : ℕ) (f : ℤ) (p : Place) → Told (scaled_place limit row column (Some f) p) → Told p × (range_at (scaled_place limit row column (Some f) p) ≡ scaled f (range_at p))
scaled_told limit row column f p h =
    let made : Range → Place = λ r. limited limit 3 row column (scaled f r) in
    let t = above_told made p h in
    (t.0, ap range_at t.1 ∙ placed_told (limits limit) 3 row column (scaled f (range_at p)) (subst Told t.1 h))

module _ (m : Meaning) (lawful : Lawful m) (fs : List ℤ) (ok : Factors m.size fs) (answers : EveryPlaceAnswers (row_scaled fs m)) where
  abbrev layer : Meaning
  layer = row_scaled fs m

  told_at : (limit row column i : ℕ) (p : Place) → IsNode m i → Told (scaled_place limit row column (row_factor fs m.size i) p) → Told p × (range_at (scaled_place limit row column (row_factor fs m.size i) p) ≡ scaled (factor_at fs i) (range_at p))
  told_at limit row column i p h = let e = row_factor_is m.size fs i ok.count in rw e (scaled_told limit row column (factor_at fs i) p)

  coefficient_told : (i j : ℕ) → IsNode m i → IsNode m j → Told (m.coefficient i j) × (range_at (layer.coefficient i j) ≡ scaled (factor_at fs i) (range_at (m.coefficient i j)))
  coefficient_told i j h k = told_at (2 ^ 20) i j i (m.coefficient i j) h (answers.coefficients i j h k)

  right_side_told : (i : ℕ) → IsNode m i → Told (m.right_side i) × (range_at (layer.right_side i) ≡ scaled (factor_at fs i) (range_at (m.right_side i)))
  right_side_told i h = told_at (2 ^ 42) i (m.size + 1) i (m.right_side i) h (answers.right_sides i h)

  below_answers : EveryPlaceAnswers m
  below_answers = record { coefficients = λ i j h k. (coefficient_told i j h k).0; right_sides = λ i h. (right_side_told i h).0 }

  fits_same : (p : ℕ → ℤ) (q : ℤ) (i : ℕ) → IsNode m i → fits layer p q i ≡ fits m p q i
  fits_same p q i h =
      let f = factor_at fs i in
      let sums : row layer p i ≡ scaled f (row m p i) = scaled_total f (λ j. times (range_at (m.coefficient i j)) (only (p j))) (λ j. times (range_at (layer.coefficient i j)) (only (p j))) m.size (λ j a b. ap (λ (r : Range). times r (only (p j))) (coefficient_told i j h (a, b)).1 ∙ scaled_times f (range_at (m.coefficient i j)) (p j)) in
      let sides : times (range_at (layer.right_side i)) (only q) ≡ scaled f (times (range_at (m.right_side i)) (only q)) = ap (λ (r : Range). times r (only q)) (right_side_told i h).1 ∙ scaled_times f (range_at (m.right_side i)) q in
      (λ k. meets (sums k) (sides k)) ∙ scaled_meets f (row m p i) (times (range_at (m.right_side i)) (only q)) (ok.some i h.0 h.1)

  pub same_solutions : (x : Point) → Possible m x ↔ Possible layer x
  same_solutions x = (
    λ s. fits_solution layer (scaled_lawful fs m lawful) answers x (λ i h. fits_same x.numerator (pos x.over) i h ∙ solution_fits m x s i h),
    λ s. fits_solution m lawful below_answers x (λ i h. sym (fits_same x.numerator (pos x.over) i h) ∙ solution_fits layer x s i h),
  )

pub keeps_solutions : (m : Meaning) → Lawful m → (fs : List ℤ) → factors_refusal m.size fs ≡ None → KeepsSolutions m (row_scaled fs m)
keeps_solutions m lawful fs h answers = same_solutions m lawful fs (factors m.size fs h) answers
