-- The records of a network: which it takes, and what they add up to.
use Rattle.std.specs.Prelude.{◌≡◌, ℕ, zero, suc, ◌+◌, ◌*◌, ◌^◌, ◌<◌, ◌≤◌, ◌≤ℤ◌, neg_ℤ, Bool, true, false, cond, ◌&&◌, List, [], ◌∷◌, length, get_or, drop, pos, Some, None, Option, ◌==◌, nat_le, slice_index_or, refl}
use Rattle.std.proofs.Common.{arith, add-one, sym, ap, subst, ◌∙◌, drop-cons}
use Rattle.std.proofs.lemmas.Int.{ints}
use Rattle.std.proofs.lemmas.Bool.{and_parts}
use Rattle.std.proofs.lemmas.Bool.Decides.{nat_tests}
use Rattle.balance.specs.declared.refusal.Refusal.{Refusal}
use Rattle.balance.specs.declared.refusal.Refusal.TheVariants.{Size, Node, Crossed, Limit}
use Rattle.balance.specs.declared.range.Range.{Range}
use Rattle.balance.specs.Ranges.{only, within, Between, Fits64, plus, times, total}
use Rattle.balance.specs.Meanings.{Lawful}
use Rattle.balance.specs.Places.{first}
use Rattle.balance.proofs.Ranges.{times_between_bounds, narrow_fits}
use Rattle.balance.proofs.Searches.{first_stops, none_of}
use Rattle.systems.specs.declared.record.Addition.{Addition}
use Rattle.systems.specs.declared.record.Record.{Record}
use Rattle.systems.specs.declared.record.Record.TheVariants.{Link, Outside, Heat}
use Rattle.systems.specs.Networks.{record_at, record_refusal, network_refusal, adds, negated, additions, amount_at, sum_at, Small, conductances, temperatures, heats, in_order, names_nodes, ends_in_order, ends_within, network_sum, network}
use Rattle.balance.specs.TablesLemmas.{limited_within}
use Rattle.balance.proofs.Entries.{from_one, test_passed}
use Rattle.systems.specs.Sums.{plus_assoc, plus_between, between_more}

-- ---- the first record that is refused

-- record k of a list, from 0
abbrev pub read : List Record → ℕ → Record
read rs k = slice_index_or rs k (Link 0 0 (only (pos 0)))

module _ (n : ℕ) (rs : List Record) where
  abbrev pub refusal_of : ℕ → Option Refusal
  refusal_of k = record_refusal n k (record_at rs k)

  refusal_at_index : (k : ℕ) (o : Option Refusal) → record_refusal n (k + 1) (read rs k) ≡ o → refusal_of (k + 1) ≡ o
  refusal_at_index k o h = ap (record_refusal n (k + 1)) (from_one rs k _) ∙ h

  module _ (some : 1 ≤ n) (few : n ≤ 32) (short : length rs ≤ 256) where
    counted : network_refusal n rs ≡ first refusal_of (length rs)
    counted = grind (arith, nat_tests)

    pub records_stop : (k : ℕ) (e : Refusal) → first refusal_of k ≡ None → record_refusal n (k + 1) (read rs k) ≡ Some e → k < length rs → network_refusal n rs ≡ Some e
    records_stop k e h r l = counted ∙ first_stops refusal_of e k (length rs) h (refusal_at_index k (Some e) r) l

-- ---- what additions add up to

abbrev nowhere : Addition
nowhere = adds 0 0 (only (pos 0))

small_at : (xs : List Addition) → Small xs → (k : ℕ) → Between (2 ^ 50) (get_or xs k nowhere).amount
small_at [] h k = (omega (arith, ints), omega (arith, ints), omega (arith, ints))
small_at (x ∷ xs) h zero = h.0
small_at (x ∷ xs) h (suc k) = small_at xs h.1 k

module _ (i j : ℕ) where
  amount_between : (x : Addition) → Between (2 ^ 50) x.amount → Between (2 ^ 50) (amount_at i j x)
  amount_between x h = by (x.row == i && x.column == j)
    where
      by : (t : Bool) → Between (2 ^ 50) (cond t x.amount (only (pos 0)))
      by true = h
      by false = (omega (arith, ints), omega (arith, ints), omega (arith, ints))

  -- k of the additions are summed up in s
  module _ (xs : List Addition) (small : Small xs) (few : length xs ≤ 4) (k : ℕ) (s : Range) where
    abbrev pub amount : Range
    amount = amount_at i j (slice_index_or xs k nowhere)

    pub amounts_between : Between (k * 2 ^ 50) s → Between ((k + 1) * 2 ^ 50) (plus s amount)
    amounts_between h = between_more _ _ _ (omega arith) (plus_between _ _ s amount h (amount_between (slice_index_or xs k nowhere) (small_at xs small k)))

    pub amounts_fit : k < length xs → Between (k * 2 ^ 50) s → Fits64 (plus s amount)
    amounts_fit l h = narrow_fits ((k + 1) * 2 ^ 50) (plus s amount) (omega arith) (amounts_between h)

    pub amounts_more : k < length xs → plus s (sum_at i j (drop k xs)) ≡ sum_at i j xs → plus (plus s amount) (sum_at i j (drop (k + 1) xs)) ≡ sum_at i j xs
    amounts_more l h = rw plus_assoc (rw add-one (ap (λ more. plus s (sum_at i j more)) (sym (drop-cons xs k nowhere l)) ∙ h))

-- ---- a record that is taken

-- what the ranges of a record that is taken keep
pub record Taken (r : Record) : Type 0 where
  pub in_order : ends_in_order r ≡ true
  pub within_limits : ends_within r ≡ true

taken_by : (n k : ℕ) (r : Record) → record_refusal n k r ≡ None → (names_nodes n r ≡ true) × Taken r
taken_by n k r h =
    let nodes = test_passed (names_nodes n r) _ (Node k) h in
    let order = test_passed (ends_in_order r) _ (Crossed k) nodes.1 in
    let limits = test_passed (ends_within r) None (Limit 2 k 0) order.1 in
    (nodes.0, record { in_order = order.0; within_limits = limits.0 })

within_between : (limit : ℕ) (r s : Range) → neg_ℤ (pos limit) ≤ℤ s.lower → s.upper ≤ℤ pos limit → in_order r ≡ true → within r s ≡ true → Between limit r
within_between limit r s l u o w = (grind (arith, ints), grind (arith, ints), grind (arith, ints))

negated_between : (n : ℕ) (r : Range) → Between n r → Between n (negated r)
negated_between n r h = (omega (arith, ints), omega (arith, ints), omega (arith, ints))

module _ (i j : ℕ) (g : Range) (taken : Taken (Link i j g)) where
  link_between : Between (2 ^ 20) g
  link_between = within_between (2 ^ 20) g conductances (omega (arith, ints)) (omega (arith, ints)) taken.in_order taken.within_limits

  pub link_small : Between (2 ^ 50) g × Between (2 ^ 50) (negated g)
  link_small = let b = between_more _ (2 ^ 50) g (omega arith) link_between in (b, negated_between _ g b)

module _ (i : ℕ) (g t : Range) (taken : Taken (Outside i g t)) where
  outside_between : Between (2 ^ 20) g × Between (2 ^ 30) t
  outside_between =
      let o = and_parts _ _ taken.in_order in
      let w = and_parts _ _ taken.within_limits in (
        within_between (2 ^ 20) g conductances (omega (arith, ints)) (omega (arith, ints)) o.0 w.0,
        within_between (2 ^ 30) t temperatures (omega (arith, ints)) (omega (arith, ints)) o.1 w.1,
      )

  product_between : Between (2 ^ 50) (times g t)
  product_between = times_between_bounds g t (2 ^ 20) (2 ^ 30) outside_between.0 outside_between.1

  pub outside_small : Between (2 ^ 50) g × Between (2 ^ 50) (times g t)
  outside_small = (between_more _ (2 ^ 50) g (omega arith) outside_between.0, product_between)

  pub outside_product_fits : Fits64 (times g t)
  outside_product_fits = narrow_fits (2 ^ 50) (times g t) (omega arith) product_between

-- an addition of a small amount
pub amount_small : {i j : ℕ} {r : Range} {x : Addition} → x ≡ adds i j r → Between (2 ^ 50) r → Between (2 ^ 50) x.amount
amount_small e h = subst (λ (a : Addition). Between (2 ^ 50) a.amount) (sym e) h

pub taken_small : (n : ℕ) (r : Record) → Taken r → Small (additions n r) × (length (additions n r) ≤ 4)
taken_small n (Link i j g) h = let b = link_small i j g h in ((b.0, (b.0, (b.1, (b.1, tt)))), omega arith)
taken_small n (Outside i g t) h = let b = outside_small i g t h in ((b.0, (b.1, tt)), omega arith)
taken_small n (Heat i q) h = ((between_more _ (2 ^ 50) q (omega arith) (within_between (2 ^ 42) q heats (omega (arith, ints)) (omega (arith, ints)) h.in_order h.within_limits), tt), omega arith)

sums_between : (i j : ℕ) (xs : List Addition) → Small xs → Between (length xs * 2 ^ 50) (sum_at i j xs)
sums_between i j [] h = (omega (arith, ints), omega (arith, ints), omega (arith, ints))
sums_between i j (x ∷ xs) h = between_more _ _ _ (omega arith) (plus_between _ _ (amount_at i j x) (sum_at i j xs) (amount_between i j x h.0) (sums_between i j xs h.1))

-- ---- the records of a network

pub record Accepted (n : ℕ) (rs : List Record) : Type 0 where
  pub some : 1 ≤ n
  pub few : n ≤ 32
  pub short : length rs ≤ 256
  pub named : (k : ℕ) → k < length rs → names_nodes n (read rs k) ≡ true
  pub taken : (k : ℕ) → k < length rs → Taken (read rs k)

pub accepted : (n : ℕ) (rs : List Record) → network_refusal n rs ≡ None → Accepted n rs
accepted n rs h =
    let t = test_passed (nat_le 1 n && nat_le n 32 && nat_le (length rs) 256) (first (refusal_of n rs) (length rs)) (Size 0) h in
    let both = and_parts (nat_le 1 n && nat_le n 32) (nat_le (length rs) 256) t.0 in
    let size = and_parts (nat_le 1 n) (nat_le n 32) both.0 in
    record {
      some = grind (arith, nat_tests);
      few = grind (arith, nat_tests);
      short = grind (arith, nat_tests);
      named = λ i l. (taken_by n (i + 1) (read rs i) (allowed t.1 i l)).0;
      taken = λ i l. (taken_by n (i + 1) (read rs i) (allowed t.1 i l)).1;
    }
  where
    allowed : first (refusal_of n rs) (length rs) ≡ None → (i : ℕ) → i < length rs → record_refusal n (i + 1) (read rs i) ≡ None
    allowed k i l = ap (record_refusal n (i + 1)) (sym (from_one rs i _)) ∙ none_of (refusal_of n rs) (length rs) k (i + 1) (omega arith) (omega arith)

module _ (n : ℕ) (rs : List Record) (ok : Accepted n rs) (i j : ℕ) where
  abbrev pub added_by : ℕ → Range
  added_by k = sum_at i j (additions n (record_at rs k))

  -- k records are summed up in s, and the next adds r
  module _ (k : ℕ) (s r : Range) (is : r ≡ sum_at i j (additions n (read rs k))) (more : k < length rs) (so_far : Between (k * 2 ^ 52) s) where
    pub record_sums_between : Between ((k + 1) * 2 ^ 52) (plus s r)
    record_sums_between =
        let h = taken_small n (read rs k) (ok.taken k more) in
        rw is (between_more _ _ _ (omega arith) (plus_between _ _ s _ so_far (between_more _ (2 ^ 52) _ (omega (arith, h.1)) (sums_between i j (additions n (read rs k)) h.0))))

    pub record_sums_fit : Fits64 (plus s r)
    record_sums_fit = narrow_fits ((k + 1) * 2 ^ 52) _ (omega (arith, ok.short)) record_sums_between

    pub record_sums_more : total added_by k ≡ s → total added_by (k + 1) ≡ plus s r
    record_sums_more e =
        let a : added_by (k + 1) ≡ r = ap (λ (x : Record). sum_at i j (additions n x)) (from_one rs k _) ∙ sym is in
        let t : total added_by (k + 1) ≡ plus (total added_by k) (added_by (k + 1)) = rw add-one in
        t ∙ (λ d. plus (e d) (a d))

-- ---- the law of systems

sum_ordered : (n : ℕ) (rs : List Record) (ok : Accepted n rs) (i j k : ℕ) → k ≤ length rs → Between (k * 2 ^ 52) (total (added_by n rs ok i j) k)
sum_ordered n rs ok i j zero l = (omega (arith, ints), omega (arith, ints), omega (arith, ints))
sum_ordered n rs ok i j (suc k) l =
    let e : k + 1 ≡ suc k = omega arith in
    let t = total (added_by n rs ok i j) k in
    let before = sum_ordered n rs ok i j k (omega arith) in
    let r = sum_at i j (additions n (read rs k)) in
    let here = record_sums_between n rs ok i j k t r refl (omega arith) before in
    subst (λ x. Between (x * 2 ^ 52) (total (added_by n rs ok i j) x)) e (subst (Between ((k + 1) * 2 ^ 52)) (sym (record_sums_more n rs ok i j k t r refl (omega arith) before refl)) here)

pub network_lawful : (n : ℕ) (rs : List Record) → Accepted n rs → Lawful (network n rs)
network_lawful n rs ok = record {
  some = ok.some;
  few = ok.few;
  coefficients = λ i j p q. limited_within (2 ^ 20) 2 i j (network_sum n rs i j) (sum_ordered n rs ok i j (length rs) (omega arith)).1;
  right_sides = λ i p. limited_within (2 ^ 42) 2 i (n + 1) (network_sum n rs i (n + 1)) (sum_ordered n rs ok i (n + 1) (length rs) (omega arith)).1;
}
