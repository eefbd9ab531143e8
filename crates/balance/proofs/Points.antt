-- A point is a solution of some member system exactly if it fits every row.
use Rattle.std.proofs.Common.{◌≡◌, ℕ, zero, suc, ◌+◌, ◌*◌, ◌^◌, ◌<◌, ◌≤◌, Bool, true, false, cond, T, IsTrue, ◌↔◌, ℤ, pos, ◌*ℤ◌, ◌≤ℤ◌, sym, refl, ap, subst, mul-le-mul_right, mul-pos, arith}
use native.Mathlib.Decide.{ℕ_discrete}
use borrow.Author.Differences.{ints, up, down, at_most_in, product_is}
use Rattle.std.specs.Int.{int_max}
use Rattle.std.proofs.lemmas.Int.{clamps}
use Rattle.balance.specs.declared.range.Range.{Range}
use Rattle.balance.specs.Ranges.{only, Ordered, times, meets}
use Rattle.balance.specs.Meanings.{Meaning, IsNode, Lawful, EveryPlaceAnswers, range_at}
use Rattle.balance.specs.Members.{Fraction, Member, Point, component, sum, ◌∈◌, ◌≈◌, ◌⊗◌}
use Rattle.balance.specs.Places.{every}
use Rattle.balance.specs.Points.{row, fits, Possible}
use Rattle.balance.proofs.Integers.{times_assoc, le_times, le_parts, le_cancel}
use Rattle.balance.proofs.PlaceLaws.{picked_told, range_within, picked_in, in_picked}
use Rattle.balance.proofs.FractionSums.{times_ordered, total_ordered, ◌·◌, sum_in, term_in}
use Rattle.balance.proofs.Picks.{low_weight, high_weight, some_weight, weighted, value, pick, pick_in, row_is}

-- ---- ranges that meet

meeting : (r s : Range) → meets r s ≡ true → (r.lower ≤ℤ s.upper) × (s.lower ≤ℤ r.upper)
meeting r s h = (grind (arith, ints), grind (arith, ints))

meet : (r s : Range) → r.lower ≤ℤ s.upper → s.lower ≤ℤ r.upper → meets r s ≡ true
meet r s h k = grind (arith, ints)

-- ---- from a solution

-- q f is a number of r, and f one of s: r and q s meet
module _ (q : ℕ) (f g : Fraction) (r s : Range) (h : q · f ∈ r) (e : f ≈ g) (k : g ∈ s) where
  parts : (up f.top * g.bottom ≡ up g.top * f.bottom) × (down f.top * g.bottom ≡ down g.top * f.bottom)
  parts = omega (arith, ints)

  lower_below : r.lower ≤ℤ (s.upper *ℤ pos q)
  lower_below =
      let l : up g.top + down s.upper * g.bottom ≤ up s.upper * g.bottom + down g.top = omega (arith, ints) in
      le_cancel r.lower (s.upper *ℤ pos q) (f.bottom * g.bottom) (mul-pos f.positive g.positive) (rw (times_assoc s.upper) (at_most_in _ _ (omega (arith, product_is, mul-le-mul_right g.bottom (le_parts r.lower f.top f.bottom q h.0), mul-le-mul_right (f.bottom * q) l, ap (λ n. n * q) parts.0, ap (λ n. n * q) parts.1))))

  upper_above : (s.lower *ℤ pos q) ≤ℤ r.upper
  upper_above =
      let l : up s.lower * g.bottom + down g.top ≤ up g.top + down s.lower * g.bottom = omega (arith, ints) in
      le_cancel (s.lower *ℤ pos q) r.upper (f.bottom * g.bottom) (mul-pos f.positive g.positive) (rw (times_assoc s.lower) (at_most_in _ _ (omega (arith, product_is, mul-le-mul_right g.bottom (le_parts f.top r.upper q f.bottom h.1), mul-le-mul_right (f.bottom * q) l, ap (λ n. n * q) parts.0, ap (λ n. n * q) parts.1))))

  both_meet : meets r (times s (only (pos q))) ≡ true
  both_meet = meet r (times s (only (pos q))) (omega (arith, ints, clamps, lower_below)) (omega (arith, ints, clamps, upper_above))

-- where there is a member system, every place answers
pub member_answers : (m : Meaning) → Member m → EveryPlaceAnswers m
member_answers m s = record {
  coefficients = λ i j h k. picked_told (m.coefficient i j) (s.coefficient i j) (s.coefficients_picked i j h k);
  right_sides = λ i h. picked_told (m.right_side i) (s.right_side i) (s.right_sides_picked i h);
}

pub solution_fits : (m : Meaning) (x : Point) → Possible m x → (i : ℕ) → IsNode m i → fits m x.numerator (pos x.over) i ≡ true
solution_fits m x (s, solves) i h =
    both_meet x.over (sum terms m.size) (s.right_side i) (row m x.numerator i) (range_at (m.right_side i))
    (sum_in x.over terms (λ j. times (range_at (m.coefficient i j)) (only (x.numerator j))) m.size (λ j a b. term_in (range_at (m.coefficient i j)) (s.coefficient i j) (component x j) (picked_in (m.coefficient i j) (s.coefficient i j) (s.coefficients_picked i j h (a, b)))))
    (solves i h) (picked_in (m.right_side i) (s.right_side i) (s.right_sides_picked i h))
  where
    terms : ℕ → Fraction
    terms j = s.coefficient i j ⊗ component x j

-- ---- to a solution

-- of two ranges that meet, the larger lower end lies in both
both : (r s : Range) → Ordered r → Ordered s → meets r s ≡ true → (let c = int_max r.lower s.lower in (r.lower ≤ℤ c) × (c ≤ℤ r.upper) × (s.lower ≤ℤ c) × (c ≤ℤ s.upper))
both r s o o' h = let k = meeting r s h in omega (arith, ints, clamps)

-- a number of q r is q times a number of r
divided : (r : Range) (q : ℕ) (c : ℤ) → Ordered r → (times r (only (pos q))).lower ≤ℤ c → c ≤ℤ (times r (only (pos q))).upper → ((r.lower *ℤ pos q) ≤ℤ c) × (c ≤ℤ (r.upper *ℤ pos q))
divided r q c o h k = omega (arith, ints, clamps, le_times r.lower r.upper q o)

pub fits_solution : (m : Meaning) → Lawful m → EveryPlaceAnswers m → (x : Point) → ((i : ℕ) → IsNode m i → fits m x.numerator (pos x.over) i ≡ true) → Possible m x
fits_solution m lawful answers x fit = (s, λ i h. row_is (α i) (β i) (some i) (A i) x m.size (c i) (weighted (R i).lower (R i).upper (c i) (shared i h).0 (shared i h).1))
  where
    A : ℕ → ℕ → Range
    A i j = range_at (m.coefficient i j)

    B : ℕ → Range
    B i = range_at (m.right_side i)

    R : ℕ → Range
    R i = row m x.numerator i

    Q : ℕ → Range
    Q i = times (B i) (only (pos x.over))

    c : ℕ → ℤ
    c i = int_max (R i).lower (Q i).lower

    shared : (i : ℕ) → IsNode m i → ((R i).lower ≤ℤ c i) × (c i ≤ℤ (R i).upper) × ((Q i).lower ≤ℤ c i) × (c i ≤ℤ (Q i).upper)
    shared i h = both (R i) (Q i) (total_ordered _ (λ j. times_ordered (A i j) (x.numerator j)) m.size) (times_ordered (B i) (pos x.over)) (fit i h)

    α : ℕ → ℕ
    α i = low_weight (R i).lower (R i).upper (c i)

    β : ℕ → ℕ
    β i = high_weight (R i).lower (R i).upper (c i)

    some : (i : ℕ) → 0 < α i + β i
    some i = some_weight (R i).lower (R i).upper (c i)

    s : Member m
    s = record {
      coefficient = λ i j. pick (α i) (β i) (some i) (A i j) (x.numerator j);
      right_side = λ i. value x (c i);
      coefficients_picked = λ i j h k. in_picked (m.coefficient i j) _ (answers.coefficients i j h k) (pick_in (α i) (β i) (some i) (A i j) (x.numerator j) (range_within (2 ^ 20) (m.coefficient i j) (lawful.coefficients i j h k)).1);
      right_sides_picked = λ i h. in_picked (m.right_side i) _ (answers.right_sides i h) (divided (B i) x.over (c i) (range_within (2 ^ 42) (m.right_side i) (lawful.right_sides i h)).1 (shared i h).2 (shared i h).3);
    }

-- ---- a test at every node

pub every_passes : (t : ℕ → Bool) (n : ℕ) → every t n ≡ true → (i : ℕ) → 1 ≤ i → i ≤ n → t i ≡ true
every_passes t zero h i p q = absurd (omega arith)
every_passes t (suc n) h i p q = by (every t n) refl (ℕ_discrete i (suc n)) h (λ e r. every_passes t n e i p r)
  where
    by : (b : Bool) → every t n ≡ b → Dec (i ≡ suc n) → cond b (t (suc n)) false ≡ true → (every t n ≡ true → i ≤ n → t i ≡ true) → t i ≡ true
    by true e (yes r) k rest = rw r k
    by true e (no r) k rest = rest e (omega arith)
    by false e d k rest = cc

pub passes_every : (t : ℕ → Bool) (n : ℕ) → ((i : ℕ) → 1 ≤ i → i ≤ n → t i ≡ true) → every t n ≡ true
passes_every t zero h = refl
passes_every t (suc n) h = rw (passes_every t n (λ i p q. h i p (omega arith)), h (suc n) (omega arith) (omega arith))

-- what is true exactly if every test passes
pub every_is : (b : Bool) (t : ℕ → Bool) (n : ℕ) → (IsTrue b ↔ ((i : ℕ) → 1 ≤ i → i ≤ n → t i ≡ true)) → b ≡ every t n
every_is true t n h = sym (passes_every t n (h.0 refl))
every_is false t n h = by (every t n) refl
  where
    by : (e : Bool) → every t n ≡ e → false ≡ e
    by true e = let z : false ≡ true = h.1 (every_passes t n e) in cc
    by false e = refl

pub fits_exactly : (m : Meaning) → Lawful m → EveryPlaceAnswers m → (x : Point) → T (every (fits m x.numerator (pos x.over)) m.size) ↔ Possible m x
fits_exactly m lawful answers x = (
  λ h. fits_solution m lawful answers x (λ i (p, q). every_passes test m.size (T_true _ h) i p q),
  λ h. subst T (sym (passes_every test m.size (λ i p q. solution_fits m x h i (p, q)))) tt,
)
  where
    test : ℕ → Bool
    test = fits m x.numerator (pos x.over)

    T_true : (b : Bool) → T b → b ≡ true
    T_true true h = refl
    T_true false h = absurd h
