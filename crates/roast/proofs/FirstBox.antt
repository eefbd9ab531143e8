-- What a certificate that passes says: the first box holds every solution, and no member system has two.
use Rattle.std.proofs.Common.{◌≡◌, ℕ, zero, suc, ◌+◌, ◌*◌, ◌^◌, ◌<◌, ◌≤◌, List, [], ◌∷◌, ◌++◌, length, get_or, ℤ, pos, ◌-ℤ◌, ◌*ℤ◌, neg_ℤ, nat_abs, ◌≤ℤ◌, ap, ◌∙◌, ap₂, mul-le-mul_left, le_of_mul-le-mul_right, arith}
use borrow.Author.Differences.{ints, neg_is}
use Rattle.balance.specs.declared.range.Range.{Range}
use Rattle.balance.specs.Ranges.{limits, Ordered, Between, AllBetween}
use Rattle.balance.specs.Meanings.{Meaning, IsNode, Same, Lawful, range_at, coefficient_range, right_side_range}
use Rattle.balance.specs.Members.{Fraction, Member, Point, component, sum, Solves, SamePoint, ◌⊗◌}
use Rattle.std.proofs.lemmas.Int.{unsigned_abs-mul}
use Rattle.balance.proofs.PlaceLaws.{picked_in}
use Rattle.roast.specs.Certificates.{magnitude, mignitude, u, sum_without, largest, others, v, rounded_up, k, LeastBound, listed, first_range, first_box, Passes}
use Rattle.roast.specs.Narrowing.{Box}
use Rattle.roast.specs.Runs.{Holds}
use Rattle.roast.proofs.Boxes.{nothing, Tidy}
use Rattle.roast.proofs.Sums.{largest_above, largest_below, largest_same, sum_same, rounded_up_enough, rounded_up_least, length_listed, get_or_listed, listed_same, Greatest, some_greatest, outweighs}
use Rattle.roast.proofs.Sizes.{size, at_most_magnitude, at_least_mignitude, alone, ◌⊖◌, difference, sum-⊖, no_difference, size-≈, size-⊗}

-- ---- k_i

margin : (m : Meaning) (us : List ℤ) (i : ℕ) → pos 1 ≤ℤ v m us i → 0 < nat_abs (v m us i)
margin m us i h = omega (arith, ints)

pub k_least : (m : Meaning) (us : List ℤ) (i : ℕ) → ((j : ℕ) → IsNode m j → pos 1 ≤ℤ v m us j) → LeastBound m us i (k m us i)
k_least m us i dominant = record {
  bounds = λ j h.
      let p = margin m us j (dominant j h) in
      let a = u us i * magnitude (right_side_range m j) in
      omega (arith, rounded_up_enough a (nat_abs (v m us j)) p, mul-le-mul_left (nat_abs (v m us j)) (largest_above (λ j. rounded_up (u us i * magnitude (right_side_range m j)) (nat_abs (v m us j))) m.size j h));
  least = λ z h. largest_below _ m.size z (λ j n. rounded_up_least (u us i * magnitude (right_side_range m j)) (nat_abs (v m us j)) z (margin m us j (dominant j n)) (h j n));
}

-- ---- solutions

same_if_close : (a b : ℤ) → nat_abs (a -ℤ b) ≤ 0 → a ≡ b
same_if_close a b h = omega (arith, ints)

within : (z : ℤ) (k q : ℕ) → nat_abs z ≤ k * q → ((neg_ℤ (pos k) *ℤ pos q) ≤ℤ z) × (z ≤ℤ (pos k *ℤ pos q))
within z k q h = omega (arith, ints, ap (λ n. n * q) (neg_is (pos k)).0, ap (λ n. n * q) (neg_is (pos k)).1)

module _ (m : Meaning) (us : List ℤ) (lawful : Lawful m) (passes : Passes m us) where
  positive : (j : ℕ) → IsNode m j → 0 < u us j
  positive j h = omega (arith, ints, (passes.numbers j h).0)

  -- a row that bounds f, and with it f at every node
  record Bounds (f r : ℕ → ℕ) : Type 0 where
    row : ℕ
    inside : IsNode m row
    all : (j : ℕ) → IsNode m j → f j * nat_abs (v m us row) ≤ r row * u us j

  bounded : (f r : ℕ → ℕ) → ((i : ℕ) → IsNode m i → mignitude (coefficient_range m i i) * f i ≤ r i + sum_without (λ j. magnitude (coefficient_range m i j) * f j) i m.size) → Bounds f r
  bounded f r rows = go (some_greatest f (u us) m.size lawful.some positive)
    where
      go : Greatest f (u us) m.size → Bounds f r
      go t =
          let i = t.place in
          record { row = i; inside = t.inside; all = outweighs f (u us) (λ j. magnitude (coefficient_range m i j)) m.size i t.most (mignitude (coefficient_range m i i)) (r i) (nat_abs (v m us i)) t.inside (positive i t.inside) (rows i t.inside) (omega (arith, ints, passes.dominant i t.inside)) }

  -- term j of row i, at the picked coefficients
  abbrev term : Member m → Point → ℕ → ℕ → Fraction
  term s x i j = s.coefficient i j ⊗ component x j

  module _ (s : Member m) (i : ℕ) (h : IsNode m i) where
    above : (j : ℕ) → IsNode m j → size (s.coefficient i j) ≤ magnitude (coefficient_range m i j) * (s.coefficient i j).bottom
    above j p = at_most_magnitude (s.coefficient i j) (coefficient_range m i j) (picked_in (m.coefficient i j) (s.coefficient i j) (s.coefficients_picked i j h p))

    below : mignitude (coefficient_range m i i) * (s.coefficient i i).bottom ≤ size (s.coefficient i i)
    below = at_least_mignitude (s.coefficient i i) (coefficient_range m i i) (picked_in (m.coefficient i i) (s.coefficient i i) (s.coefficients_picked i i h h))

  module _ (s : Member m) (x : Point) (solves : Solves m s x) where
    abbrev P : ℕ → ℕ
    P j = nat_abs (x.numerator j)

    row : (i : ℕ) → IsNode m i → mignitude (coefficient_range m i i) * P i ≤ x.over * magnitude (right_side_range m i) + sum_without (λ j. magnitude (coefficient_range m i j) * P j) i m.size
    row i h = alone (term s x i) (λ j. magnitude (coefficient_range m i j) * P j) m.size i x.over (mignitude (coefficient_range m i i) * P i) h
        (λ j p. omega (arith, size_term j, mul-le-mul_left (x.over * P j) (above s i h j p)))
        (omega (arith, size_term i, mul-le-mul_left (x.over * P i) (below s i h)))
        (magnitude (right_side_range m i))
        (size-≈ (sum (term s x i) m.size) (s.right_side i) (magnitude (right_side_range m i)) (solves i h) (at_most_magnitude (s.right_side i) (right_side_range m i) (picked_in (m.right_side i) (s.right_side i) (s.right_sides_picked i h))))
      where
        size_term : (j : ℕ) → x.over * size (term s x i j) ≡ x.over * (size (s.coefficient i j) * P j)
        size_term j = ap (λ n. x.over * n) (unsigned_abs-mul (s.coefficient i j).top (x.numerator j))

    small : (j : ℕ) → IsNode m j → P j ≤ k m us j * x.over
    small j h = go (bounded P (λ i. x.over * magnitude (right_side_range m i)) row)
      where
        go : Bounds P (λ i. x.over * magnitude (right_side_range m i)) → P j ≤ k m us j * x.over
        go t =
            let i : ℕ = t.row in
            let V : ℕ = nat_abs (v m us i) in
            let p : 0 < V = margin m us i (passes.dominant i t.inside) in
            let e = (k_least m us j passes.dominant).bounds i t.inside in
            le_of_mul-le-mul_right {m = P j} {n = k m us j * x.over} {k = V} (omega (arith, t.all j h, mul-le-mul_left x.over e)) p

    first : Holds m (first_box m us) x
    first j h = rw (get_or_listed (first_range m us) m.size j nothing h) (within (x.numerator j) (k m us j) x.over (small j h))

  module _ (s : Member m) (x y : Point) (sx : Solves m s x) (sy : Solves m s y) where
    abbrev Z : ℕ → ℕ
    Z j = size (component x j ⊖ component y j)

    same_row : (i : ℕ) → IsNode m i → mignitude (coefficient_range m i i) * Z i ≤ x.over * y.over * 0 + sum_without (λ j. magnitude (coefficient_range m i j) * Z j) i m.size
    same_row i h = alone (difference (term s x i) (term s y i)) (λ j. magnitude (coefficient_range m i j) * Z j) m.size i (x.over * y.over) (mignitude (coefficient_range m i i) * Z i) h
        (λ j p. omega (arith, size_term j, mul-le-mul_left (factor j) (above s i h j p)))
        (omega (arith, size_term i, mul-le-mul_left (factor i) (below s i h)))
        0
        (omega (arith, ap nat_abs (sum-⊖ (term s x i) (term s y i) m.size).0, no_difference (sum (term s x i) m.size) (sum (term s y i) m.size) (s.right_side i) (sx i h) (sy i h)))
      where
        factor : ℕ → ℕ
        factor j = x.over * y.over * Z j * (s.coefficient i j).bottom

        size_term : (j : ℕ) → x.over * y.over * size (term s x i j ⊖ term s y i j) ≡ x.over * y.over * (Z j * (size (s.coefficient i j) * (s.coefficient i j).bottom))
        size_term j = ap (λ n. x.over * y.over * n) (size-⊗ (s.coefficient i j) (component x j) (component y j))

    same : SamePoint m x y
    same j h = same_if_close (x.numerator j *ℤ pos y.over) (y.numerator j *ℤ pos x.over) (go (bounded Z (λ i. x.over * y.over * 0) same_row))
      where
        go : Bounds Z (λ i. x.over * y.over * 0) → Z j ≤ 0
        go t = le_of_mul-le-mul_right {m = Z j} {n = 0} {k = nat_abs (v m us t.row)} (omega (arith, t.all j h)) (margin m us t.row (passes.dominant t.row t.inside))

pub first_box_holds : (m : Meaning) (us : List ℤ) → Lawful m → Passes m us → (s : Member m) (x : Point) → Solves m s x → Holds m (first_box m us) x
first_box_holds = first

pub one_solution : (m : Meaning) (us : List ℤ) → Lawful m → Passes m us → (s : Member m) (x y : Point) → Solves m s x → Solves m s y → SamePoint m x y
one_solution = same

-- ---- its ranges are in order, and systems of one meaning have one first box

each_push : (P : Range → Type 0) (xs : Box) (y : Range) → ((j : ℕ) → P (get_or xs j nothing)) → P y → P nothing → (j : ℕ) → P (get_or (xs ++ y ∷ []) j nothing)
each_push P [] y h p q zero = p
each_push P [] y h p q (suc j) = q
each_push P (x ∷ xs) y h p q zero = h zero
each_push P (x ∷ xs) y h p q (suc j) = each_push P xs y (λ i. h (suc i)) p q j

listed_tidy : (f : ℕ → Range) → ((i : ℕ) → Ordered (f i)) → (n : ℕ) → Tidy (listed f n)
listed_tidy f h zero = λ j. omega (arith, ints)
listed_tidy f h (suc n) = each_push Ordered (listed f n) (f (suc n)) (listed_tidy f h n) (h (suc n)) (omega (arith, ints))

pub first_tidy : (m : Meaning) (us : List ℤ) → Tidy (first_box m us)
first_tidy m us = listed_tidy (first_range m us) (λ i. omega (arith, ints)) m.size

-- each of its ranges keeps the limits, where no first range is too wide
pub first_narrow : (m : Meaning) (us : List ℤ) → ((i : ℕ) → IsNode m i → k m us i ≤ 2 ^ 30) → AllBetween (2 ^ 30) (first_box m us)
first_narrow m us small = each m.size (λ i p q. small i (p, q))
  where
    each : (n : ℕ) → ((i : ℕ) → 1 ≤ i → i ≤ n → k m us i ≤ 2 ^ 30) → AllBetween (2 ^ 30) (listed (first_range m us) n)
    each zero h = λ j. omega (arith, ints)
    each (suc n) h = each_push (Between (2 ^ 30)) (listed (first_range m us) n) (first_range m us (suc n)) (each n (λ i p q. h i p (omega arith))) (omega (arith, ints, h (suc n) (omega arith) (omega arith))) (omega (arith, ints))

pub first_length : (m : Meaning) (us : List ℤ) → length (first_box m us) ≡ m.size
first_length m us = length_listed (first_range m us) m.size

module _ (m m' : Meaning) (same : Same m m') (us : List ℤ) where
  pub v_same : (i : ℕ) → IsNode m i → v m us i ≡ v m' us i
  v_same i p = ap₂ (λ x y. pos (x * u us i) -ℤ pos y)
      (ap (λ a. mignitude (range_at a)) (same.coefficients i i p p))
      (sum_same _ _ i m.size (λ j q. ap (λ a. magnitude (range_at a) * u us j) (same.coefficients i j p q)) ∙ ap (others m' us i) same.sizes)

  pub k_same : (i : ℕ) → k m us i ≡ k m' us i
  k_same i = largest_same _ _ m.size (λ j p. ap₂ (λ a x. rounded_up (u us i * magnitude (range_at a)) (nat_abs x)) (same.right_sides j p) (v_same j p)) ∙ ap (largest (λ j. rounded_up (u us i * magnitude (right_side_range m' j)) (nat_abs (v m' us j)))) same.sizes

  pub first_same : first_box m us ≡ first_box m' us
  first_same = listed_same _ _ m.size (λ i p. ap limits (k_same i)) ∙ ap (listed (first_range m' us)) same.sizes
