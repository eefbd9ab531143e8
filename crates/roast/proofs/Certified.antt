-- The test of a certificate as the code makes it.
use Rattle.std.proofs.Common.{◌≡◌, ℕ, suc, ◌+◌, ◌-◌, ◌*◌, ◌^◌, ◌<◌, ◌≤◌, Bool, true, false, eqb, leb, List, [], ◌∷◌, ◌++◌, length, get_or, take, set, ℤ, pos, not, All, position, nat_abs, ◌≤ℤ◌, Some, None, Ok, Err, Option, sym, refl, ap, ◌∙◌, subst, arith}
use lib.Signed.{le_z}
use borrow.Author.Differences.{ints}
use Rattle.std.proofs.lemmas.Grind.{take-set_at}
use Rattle.std.proofs.lemmas.Bool.{eq-eqb, eqb-true, leb-true, le-leb, lt-leb}
use Rattle.balance.specs.declared.range.Range.{Range}
use Rattle.balance.specs.declared.refusal.Refusal.{Refusal}
use Rattle.balance.specs.declared.refusal.Refusal.TheVariants.{Certificate, Dominance, Wide}
use Rattle.balance.specs.Ranges.{Between, limits}
use Rattle.balance.specs.Meanings.{Meaning, IsNode, Within, right_side_range}
use Rattle.balance.proofs.PlaceLaws.{range_within}
use Rattle.balance.specs.Places.{first, unless_refused}
use Rattle.balance.specs.Points.{between}
use Rattle.balance.proofs.Ranges.{sizes_within}
use Rattle.balance.proofs.Searches.{unrefused, refused_by, none_of, first_next, first_ends}
use Rattle.balance.proofs.Entries.{first_entry, from_one, test_passed}
use Rattle.std.specs.Option.{option_map}
use Rattle.roast.specs.declared.certificate.Row.{Row}
use Rattle.roast.specs.FirstBox.{Narrow, row, range_made, rows_made, box_made, largest_end}
use Rattle.roast.proofs.Sums.{all_listed, largest_listed}
use Rattle.roast.specs.Certificates.{magnitude, number, u, v, k, first_range, rounded_up, listed, number_refusal, certificate_refusal, dominance_refusal, wide_refusal}

-- ---- the numbers

abbrev pub allowed : ℤ → Bool
allowed n = between (pos 1) (pos (2 ^ 20)) n

-- the answer to a certificate of the right length, from the index of its first number that is not allowed
pub checked : (n : ℕ) (us : List ℤ) (o : Option ℕ) → length us ≡ n → o ≡ position (λ u. not (allowed u)) us → unless_refused {X = Unit {0}} (option_map (λ i. Certificate (i + 1)) o) (Ok tt) ≡ unless_refused (certificate_refusal n us) (Ok tt)
checked n us o h e =
    let t : eqb (length us) n ≡ true = eq-eqb (length us) n h in
    rw (t, ← h, first_entry allowed Certificate (pos 0) us, e) refl

pub record Certified (n : ℕ) (us : List ℤ) : Type 0 where
  pub count : length us ≡ n
  pub numbers : (i : ℕ) → 1 ≤ i → i ≤ n → (pos 1 ≤ℤ number us i) × (number us i ≤ℤ pos (2 ^ 20))

between_is : (z : ℤ) → allowed z ≡ true → (pos 1 ≤ℤ z) × (z ≤ℤ pos (2 ^ 20))
between_is z h = (grind (arith, ints), grind (arith, ints))

pub certified : (n : ℕ) (us : List ℤ) → certificate_refusal n us ≡ None → Certified n us
certified n us h =
    let counted = test_passed (eqb (length us) n) _ (Certificate 0) h in
    record {
      count = eqb-true (length us) n counted.0;
      numbers = λ i a b. between_is (number us i) (test_passed (allowed (number us i)) None (Certificate i) (none_of (number_refusal us) n counted.1 i a b)).0;
    }

-- u_i, and the same number of the list from 0
pub number_within : (n : ℕ) (us : List ℤ) → certificate_refusal n us ≡ None → (i : ℕ) → 1 ≤ i → i ≤ n → u us i ≤ 2 ^ 20
number_within n us h i p q =
    let c = (certified n us h).numbers i p q in
    within (number us i) c.0 c.1
  where
    within : (z : ℤ) → pos 1 ≤ℤ z → z ≤ℤ pos (2 ^ 20) → nat_abs z ≤ 2 ^ 20
    within z p q = omega (arith, ints)

pub size_at : (us : List ℤ) (j : ℕ) → u us (j + 1) ≡ nat_abs (get_or us j (pos 0))
size_at us j = ap nat_abs (from_one us j (pos 0))

-- ---- weights

pub magnitude_within : (n : ℕ) (a : Range) → Between n a → magnitude a ≤ n
magnitude_within n a h = let w = sizes_within n a h in omega arith

-- ---- a list that is filled place by place, until one refuses

module _ {X : Type 0} (f : ℕ → Option Refusal) (g : ℕ → X) where
  -- none of the first n places refuses, and the list holds what they give
  pub record Filled (xs : List X) (n : ℕ) : Type 0 where
    pub items : xs ≡ listed g n
    pub answered : first f n ≡ None

  -- the list is filled before a place
  module _ (xs : List X) (k : ℕ) (some : 1 ≤ k) (filled : Filled xs (k - 1)) where
    pub fills : (n : ℕ) (x : X) (ys : List X) → n ≡ k → ys ≡ xs ++ x ∷ [] → Ok x ≡ unless_refused (f k) (Ok (g k)) → Filled ys n
    fills n x ys e i h =
        let here = unrefused (f k) x (g k) h in
        let s : k ≡ suc (k - 1) = omega arith in
        let t : n ≡ suc (k - 1) = e ∙ s in
        record {
          items = i ∙ (rw (filled.items, here.1, t) (ap (λ j. listed g (k - 1) ++ g j ∷ []) s));
          answered = first_next f k n some e filled.answered here.0;
        }

    pub stops : (n : ℕ) (e : Refusal) → k ≤ n → Err e ≡ unless_refused (f k) (Ok (g k)) → first f n ≡ Some e
    stops n e l h = first_ends f e k n some l filled.answered (refused_by (f k) e (g k) h)

  -- the list is what stands in an array before a place, which is set
  pub sets : (xs : List X) (k n : ℕ) (x : X) → 1 ≤ k → k ≤ length xs → n ≡ k → Filled (take (k - 1) xs) (k - 1) → Ok x ≡ unless_refused (f k) (Ok (g k)) → Filled (take n (set xs (k - 1) x)) n
  sets xs k n x some l e filled h = fills (take (k - 1) xs) k some filled n x _ e (take-set_at xs (k - 1) n x (omega arith) (omega arith)) h

-- ---- the first box

module _ (m : Meaning) (us : List ℤ) where
  row_narrow : ((i : ℕ) → IsNode m i → Within (2 ^ 42) (m.right_side i)) → (i : ℕ) → 1 ≤ i → i ≤ m.size → dominance_refusal m us i ≡ None → Narrow (row m us i)
  row_narrow sides i p q h = (magnitude_within (2 ^ 42) (right_side_range m i) (range_within (2 ^ 42) (m.right_side i) (sides i (p, q))), positive (v m us i) (test_passed _ None (Dominance i) h).0)
    where
      positive : (z : ℤ) → le_z (pos 1) z ≡ true → 1 ≤ nat_abs z
      positive z e = grind (arith, ints)

  module _ (rows : List Row) (is : rows ≡ listed (row m us) m.size) where
    pub rows_narrow : ((i : ℕ) → IsNode m i → Within (2 ^ 42) (m.right_side i)) → first (dominance_refusal m us) m.size ≡ None → All Narrow rows
    rows_narrow sides h = subst (All Narrow) (sym is) (all_listed Narrow (row m us) m.size (λ i p. row_narrow sides i p.0 p.1 (none_of (dominance_refusal m us) m.size h i p.0 p.1)))

    module _ (number i end : ℕ) (here : number ≡ u us i) (largest : end ≡ largest_end number rows) where
      end_is : end ≡ k m us i
      end_is = largest ∙ (rw (is, here) (largest_listed (λ r. rounded_up (u us i * r.side) r.margin) (row m us) m.size))

      pub range_refused : 2 ^ 30 < end → Err (Wide i) ≡ range_made m us i
      range_refused h = let t : leb (k m us i) (2 ^ 30) ≡ false = rw end_is at (lt-leb end (2 ^ 30) h) in rw t

      pub range_taken : end ≤ 2 ^ 30 → Ok (limits end) ≡ range_made m us i
      range_taken h = let t : leb (k m us i) (2 ^ 30) ≡ true = rw end_is at (le-leb end (2 ^ 30) h) in rw (t, end_is)

  pub rows_given : (rows : List Row) → Ok rows ≡ rows_made m us → Filled (dominance_refusal m us) (row m us) rows m.size
  rows_given rows h = let w = unrefused (first (dominance_refusal m us) m.size) rows (listed (row m us) m.size) h in record { items = w.1; answered = w.0 }

  pub range_narrow : (i : ℕ) (r : Range) → Ok r ≡ range_made m us i → Between (2 ^ 30) r
  range_narrow i r h =
      let w = unrefused (wide_refusal m us i) r (first_range m us i) h in
      let l : k m us i ≤ 2 ^ 30 = leb-true _ _ (test_passed _ None (Wide i) w.0).0 in
      rw w.1 (omega (arith, ints), omega (arith, ints), omega (arith, ints))

  pub box_done : (xs : List Range) (n : ℕ) → n ≡ m.size → first (dominance_refusal m us) m.size ≡ None → Filled (wide_refusal m us) (first_range m us) xs n → Ok xs ≡ box_made m us
  box_done xs n e d filled =
      let f = subst (Filled (wide_refusal m us) (first_range m us) xs) e filled in
      rw (d, f.answered) (ap Ok f.items)
