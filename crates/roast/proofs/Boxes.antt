-- Boxes within boxes, and that a row step keeps them so.
use Rattle.std.proofs.Common.{◌≡◌, ℕ, zero, suc, ◌-◌, ◌^◌, ◌≤◌, Bool, true, false, cond, not, ◌&&◌, if◌then◌else◌, is_none, Option, eqb, [], ◌∷◌, length, get_or, set, pos, Some, None, sym, refl, ap, ◌∙◌, subst, ap₂, arith}
use borrow.Author.Differences.{ints}
use Rattle.std.proofs.lemmas.Int.{clamps}
use Rattle.std.proofs.lemmas.Bool.{eqb-true}
use Rattle.std.proofs.lemmas.List.{length-set, ext_get_or}
use Rattle.balance.specs.declared.range.Range.{Range}
use Rattle.balance.specs.Ranges.{range, only, Ordered, ◌⊆◌, times, total}
use Rattle.balance.specs.Meanings.{Meaning, Among, IsNode, Same, Within, Lawful, range_at, coefficient_range, right_side_range}
use Rattle.balance.specs.declared.refusal.Refusal.{Refusal}
use Rattle.balance.specs.Places.{or_else, first, every, refusal_at, row_refusal}
use Rattle.balance.proofs.PlaceLaws.{range_within}
use Rattle.balance.proofs.Ranges.{plus_extends, minus_extends, times_extends}
use Rattle.roast.specs.Rounding.{holds_zero, quotient, shared}
use Rattle.roast.specs.Narrowing.{Box, at, HasNode, Contractor, row_answers, term, numerator, narrowed}
use Rattle.roast.proofs.Quotients.{quotient_mono, shared_is, shared_has}

-- ---- ranges

abbrev pub nothing : Range
nothing = only (pos 0)

pub ⊆-refl : (r : Range) → r ⊆ r
⊆-refl r = omega (arith, ints)

pub ⊆-trans : {r s t : Range} → r ⊆ s → s ⊆ t → r ⊆ t
⊆-trans h k = omega (arith, ints)

⊆-antisym : {r s : Range} → r ⊆ s → s ⊆ r → r ≡ s
⊆-antisym {r} {s} h k =
    let p : r.lower ≡ s.lower = omega (arith, ints) in
    let q : r.upper ≡ s.upper = omega (arith, ints) in
    λ i. range (p i) (q i)

⊆-same : (r s : Range) → r ≡ s → r ⊆ s
⊆-same r s e = subst (λ x. r ⊆ x) e (⊆-refl r)

times_ordered : (a x : Range) → Ordered (times a x)
times_ordered a x = omega (arith, ints, clamps)

total_ordered : (f : ℕ → Range) (k : ℕ) → ((j : ℕ) → Ordered (f j)) → Ordered (total f k)
total_ordered f zero h = omega (arith, ints)
total_ordered f (suc k) h = omega (arith, ints, total_ordered f k h, h (suc k))

total_in : (f g : ℕ → Range) (k : ℕ) → ((j : ℕ) → Ordered (f j)) → ((j : ℕ) → 1 ≤ j → j ≤ k → f j ⊆ g j) → total f k ⊆ total g k
total_in f g zero o h = ⊆-refl nothing
total_in f g (suc k) o h = plus_extends.keeps_inclusion (total f k) (f (suc k)) (total g k) (g (suc k)) (total_ordered f k o) (o (suc k)) (total_in f g k o (λ j p q. h j p (omega arith))) (h (suc k) (omega arith) (omega arith))

-- ---- boxes

infix 50 ◌⊑◌
-- B lies in C, node by node
pub record ◌⊑◌ (B C : Box) : Type 0 where
  pub long : length B ≡ length C
  pub each : (k : ℕ) → get_or B k nothing ⊆ get_or C k nothing

-- every node's range is in order
abbrev pub Tidy : Box → Type 0
Tidy B = (k : ℕ) → Ordered (get_or B k nothing)

pub ⊑_refl : (B : Box) → B ⊑ B
⊑_refl B = record { long = refl; each = λ k. ⊆-refl (get_or B k nothing) }

pub ⊑_trans : {B C D : Box} → B ⊑ C → C ⊑ D → B ⊑ D
⊑_trans h k = record { long = h.long ∙ k.long; each = λ j. ⊆-trans (h.each j) (k.each j) }

pub ⊑-antisym : {B C : Box} → B ⊑ C → C ⊑ B → B ≡ C
⊑-antisym {B} {C} h k = ext_get_or nothing B C h.long (λ i p. ⊆-antisym (h.each i) (k.each i))

-- what holds of every node's range, and of r at k, holds of every range once r is put there
pub each_set : (P : ℕ → Range → Type 0) (B : Box) (k : ℕ) (r : Range) → ((j : ℕ) → P j (get_or B j nothing)) → P k r → (j : ℕ) → P j (get_or (set B k r) j nothing)
each_set P [] k r h p j = h j
each_set P (x ∷ B) zero r h p zero = p
each_set P (x ∷ B) zero r h p (suc j) = h (suc j)
each_set P (x ∷ B) (suc k) r h p zero = h zero
each_set P (x ∷ B) (suc k) r h p (suc j) = each_set (λ i. P (suc i)) B k r (λ i. h (suc i)) p j

pub set_tidy : (B : Box) (k : ℕ) (r : Range) → Tidy B → Ordered r → Tidy (set B k r)
set_tidy B k r h o = each_set (λ j x. Ordered x) B k r h o

pub set_below : (B : Box) (k : ℕ) (r : Range) → r ⊆ get_or B k nothing → set B k r ⊑ B
set_below B k r h = record { long = length-set B k r; each = each_set (λ j x. x ⊆ get_or B j nothing) B k r (λ j. ⊆-refl (get_or B j nothing)) h }

pub set_above : (X B : Box) (k : ℕ) (r : Range) → X ⊑ B → get_or X k nothing ⊆ r → X ⊑ set B k r
set_above X B k r h s = record { long = h.long ∙ sym (length-set B k r); each = each_set (λ j x. get_or X j nothing ⊆ x) B k r h.each s }

-- ---- contractors

-- what a contractor leaves is in order and lies in what was there
abbrev pub Shrinks : Contractor → Type 0
Shrinks f = (B : Box) (i : ℕ) (r : Range) → f B i ≡ Some r → Ordered r × (r ⊆ at B i)

-- a smaller box leaves less than a larger one, which it then does not find in conflict
abbrev pub Monotone : Contractor → Contractor → Type 0
Monotone f g = (B C : Box) (i : ℕ) (r : Range) → Tidy B → B ⊑ C → HasNode B i → f B i ≡ Some r → (s : Range) × (g C i ≡ Some s) × (r ⊆ s)

-- ---- places of a lawful meaning

module _ (m : Meaning) (lawful : Lawful m) where
  pub coefficient_ordered : (i j : ℕ) → IsNode m i → IsNode m j → Ordered (coefficient_range m i j)
  coefficient_ordered i j p q = (range_within (2 ^ 20) (m.coefficient i j) (lawful.coefficients i j p q)).1

  pub numerator_ordered : (B : Box) (i : ℕ) → IsNode m i → Ordered (numerator m B i)
  numerator_ordered B i p =
      let r = (range_within (2 ^ 42) (m.right_side i) (lawful.right_sides i p)).1 in
      let t = total_ordered (term m B i) m.size (λ j. by j (eqb j i)) in
      omega (arith, ints)
    where
      by : (j : ℕ) (t : Bool) → Ordered (cond t nothing (times (coefficient_range m i j) (at B j)))
      by j true = omega (arith, ints)
      by j false = times_ordered (coefficient_range m i j) (at B j)

pub same_back : (m m' : Meaning) → Same m m' → Same m' m
same_back m m' h = record {
  sizes = sym h.sizes;
  coefficients = λ i j p q. sym (h.coefficients i j (omega (arith, h.sizes)) (omega (arith, h.sizes)));
  right_sides = λ i p. sym (h.right_sides i (omega (arith, h.sizes)));
}

pub same_lawful : (m m' : Meaning) → Same m m' → Lawful m → Lawful m'
same_lawful m m' h l = record {
  some = omega (arith, h.sizes, l.some);
  few = omega (arith, h.sizes, l.few);
  coefficients = λ i j p q. let p' : IsNode m i = omega (arith, h.sizes) in let q' : IsNode m j = omega (arith, h.sizes) in subst (Within (2 ^ 20)) (h.coefficients i j p' q') (l.coefficients i j p' q');
  right_sides = λ i p. let p' : IsNode m i = omega (arith, h.sizes) in subst (Within (2 ^ 42)) (h.right_sides i p') (l.right_sides i p');
}

-- ---- the row step

-- the tests of a row step that leaves r
pub record Opened (m : Meaning) (B : Box) (i : ℕ) (r : Range) : Type 0 where
  pub answers : row_answers m B i ≡ true
  pub apart : holds_zero (coefficient_range m i i) ≡ false
  pub kept : shared (at B i) (quotient (numerator m B i) (coefficient_range m i i)) ≡ Some r

pub opened : (m : Meaning) (B : Box) (i : ℕ) (r : Range) → narrowed m B i ≡ Some r → Opened m B i r
opened m B i r e = by (row_answers m B i) (holds_zero (coefficient_range m i i)) refl refl e
  where
    by : (t v : Bool) → row_answers m B i ≡ t → holds_zero (coefficient_range m i i) ≡ v → (if t && not v then shared (at B i) (quotient (numerator m B i) (coefficient_range m i i)) else None) ≡ Some r → Opened m B i r
    by true false p s e = record { answers = p; apart = s; kept = e }
    by true true p s e = cc
    by false v p s e = cc

pub opens : (m : Meaning) (B : Box) (i : ℕ) (r : Range) → Opened m B i r → narrowed m B i ≡ Some r
opens m B i r o = rw (o.answers, o.apart) o.kept

pub every_same : (t u : ℕ → Bool) (n : ℕ) → ((j : ℕ) → 1 ≤ j → j ≤ n → t j ≡ u j) → every t n ≡ every u n
every_same t u zero h = refl
every_same t u (suc n) h = ap₂ (λ a b. cond a b false) (every_same t u n (λ j p q. h j p (omega arith))) (h (suc n) (omega arith) (omega arith))

pub first_cong : (f g : ℕ → Option Refusal) (n : ℕ) → ((i : ℕ) → Among n i → f i ≡ g i) → first f n ≡ first g n
first_cong f g zero h = refl
first_cong f g (suc n) h = ap₂ or_else (first_cong f g n (λ i p. h i (p.0, omega (arith, p.1)))) (h (suc n) (omega arith, omega arith))

-- the tests answer the same in a box of the same length and a system of the same meaning
pub answers_same : (m m' : Meaning) → Same m m' → (B C : Box) (i : ℕ) → length B ≡ length C → IsNode m i → row_answers m B i ≡ row_answers m' C i
answers_same m m' same B C i long node = λ k. eqb (long k) (same.sizes k) && is_none (or_else (columns k) (refusal_at (same.right_sides i node k)))
  where
    columns : first (λ j. refusal_at (m.coefficient i j)) m.size ≡ first (λ j. refusal_at (m'.coefficient i j)) m'.size
    columns = first_cong _ _ m.size (λ j p. ap refusal_at (same.coefficients i j node p)) ∙ ap (first (λ j. refusal_at (m'.coefficient i j))) same.sizes

module _ (m m' : Meaning) (same : Same m m') (lawful : Lawful m) where
  pub row_mono : (B C : Box) (i : ℕ) (r : Range) → Tidy B → B ⊑ C → IsNode m i → narrowed m B i ≡ Some r → (s : Range) × (narrowed m' C i ≡ Some s) × (r ⊆ s)
  row_mono B C i r tidy h node e =
      let o = opened m B i r e in
      let k = shared_is (at B i) (quotient (numerator m B i) (coefficient_range m i i)) r o.kept in
      let s = shared_has (at C i) (quotient (numerator m' C i) (coefficient_range m' i i)) r k.ordered (⊆-trans k.left (h.each (i - 1))) (⊆-trans k.right (quotients o.apart)) in (
        s.0,
        opens m' C i s.0 (record {
          answers = sym (answers_same m m' same B C i h.long node) ∙ o.answers;
          apart = ap holds_zero (sym diagonal) ∙ o.apart;
          kept = s.1;
        }),
        s.2,
      )
    where
      lawful' : Lawful m'
      lawful' = same_lawful m m' same lawful

      node' : IsNode m' i
      node' = omega (arith, same.sizes)

      diagonal : coefficient_range m i i ≡ coefficient_range m' i i
      diagonal = ap range_at (same.coefficients i i node node)

      term_ordered : (j : ℕ) (t : Bool) → Ordered (cond t nothing (times (coefficient_range m i j) (at B j)))
      term_ordered j true = omega (arith, ints)
      term_ordered j false = times_ordered (coefficient_range m i j) (at B j)

      term_in : (j : ℕ) → IsNode m j → (t : Bool) → cond t nothing (times (coefficient_range m i j) (at B j)) ⊆ cond t nothing (times (coefficient_range m' i j) (at C j))
      term_in j q true = ⊆-refl nothing
      term_in j q false = times_extends.keeps_inclusion (coefficient_range m i j) (at B j) (coefficient_range m' i j) (at C j) (coefficient_ordered m lawful i j node q) (tidy (j - 1)) (⊆-same _ _ (ap range_at (same.coefficients i j node q))) (h.each (j - 1))

      sums : total (term m B i) m.size ⊆ total (term m' C i) m'.size
      sums = subst (λ n. total (term m B i) m.size ⊆ total (term m' C i) n) same.sizes (total_in _ _ m.size (λ j. term_ordered j (eqb j i)) (λ j p q. term_in j (p, q) (eqb j i)))

      numerators : numerator m B i ⊆ numerator m' C i
      numerators = minus_extends.keeps_inclusion (right_side_range m i) (total (term m B i) m.size) (right_side_range m' i) (total (term m' C i) m'.size) ((range_within (2 ^ 42) (m.right_side i) (lawful.right_sides i node)).1) (total_ordered (term m B i) m.size (λ j. term_ordered j (eqb j i))) (⊆-same _ _ (ap range_at (same.right_sides i node))) sums

      quotients : holds_zero (coefficient_range m i i) ≡ false → quotient (numerator m B i) (coefficient_range m i i) ⊆ quotient (numerator m' C i) (coefficient_range m' i i)
      quotients a = subst (λ d. quotient (numerator m B i) (coefficient_range m i i) ⊆ quotient (numerator m' C i) d) diagonal (quotient_mono (numerator m B i) (numerator m' C i) (coefficient_range m i i) a (numerator_ordered m lawful B i node) (numerator_ordered m' lawful' C i node') (coefficient_ordered m lawful i i node node) numerators)

-- ---- rows are contractors

pub row_shrinks : (m : Meaning) → Shrinks (narrowed m)
row_shrinks m B i r e = let s = shared_is _ _ r (opened m B i r e).kept in (s.ordered, s.left)

-- a row that leaves something is one of a box of the system's nodes
row_fits : (m : Meaning) (B : Box) (i : ℕ) (r : Range) → narrowed m B i ≡ Some r → length B ≡ m.size
row_fits m B i r e = by (eqb (length B) m.size) refl (opened m B i r e).answers
  where
    by : (t : Bool) → eqb (length B) m.size ≡ t → t && is_none (row_refusal m i) ≡ true → length B ≡ m.size
    by true p q = eqb-true (length B) m.size p
    by false p q = cc

pub row_monotone : (m m' : Meaning) → Same m m' → Lawful m → Monotone (narrowed m) (narrowed m')
row_monotone m m' same lawful B C i r tidy h n e = let fit = row_fits m B i r e in row_mono m m' same lawful B C i r tidy h (omega (arith, n.0, n.1)) e
