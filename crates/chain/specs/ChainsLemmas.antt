-- A chain keeps the law of systems.
use Rattle.std.specs.Prelude.{◌≡◌, ℕ, ◌+◌, ◌^◌, Bool, true, false, cond, ◌&&◌, pos, Some, None, Option, ◌==◌, int_le, nat_le, nat_lt, refl}
use Rattle.std.proofs.Common.{arith}
use Rattle.std.proofs.lemmas.Int.{ints}
use Rattle.std.proofs.lemmas.Bool.{and_parts}
use Rattle.std.proofs.lemmas.Bool.Decides.{nat_tests}
use Rattle.balance.specs.declared.range.Range.{Range}
use Rattle.balance.specs.declared.refusal.Refusal.{Refusal}
use Rattle.balance.specs.declared.refusal.Refusal.TheVariants.{Size, Crossed, Limit}
use Rattle.balance.specs.Ranges.{only, within, limits, Ordered, plus, minus}
use Rattle.balance.specs.Meanings.{Lawful}
use Rattle.balance.specs.Places.{or_else}
use Rattle.balance.specs.TablesLemmas.{limited_within}
use Rattle.balance.proofs.Entries.{test_passed}
use Rattle.chain.specs.Chains.{if_there, diagonal, neighbours, coefficient, chain, conductances, ends_refusal, chain_refusal}

-- ---- a chain that is made has ranges in order

neither : (o p : Option Refusal) → or_else o p ≡ None → (o ≡ None) × (p ≡ None)
neither None p h = (refl, h)
neither (Some e) p h = cc

in_order : (k : ℕ) (bounds r : Range) → ends_refusal k bounds r ≡ None → Ordered r
in_order k bounds r h =
    let order = test_passed (int_le r.lower r.upper) (cond (within r bounds) None (Some (Limit 100 k 0))) (Crossed k) h in
    grind (arith, ints)

-- ---- so has each of its places

there_ordered : (there : Bool) (r : Range) → Ordered r → Ordered (if_there there r)
there_ordered true r h = h
there_ordered false r h = omega (arith, ints)

plus_ordered : (r s : Range) → Ordered r → Ordered s → Ordered (plus r s)
plus_ordered r s h k = omega (arith, ints)

coefficient_ordered : (n : ℕ) (link outside : Range) → Ordered link → Ordered outside → (i j : ℕ) → Ordered (coefficient n link outside i j)
coefficient_ordered n link outside h k i j = by (i == j)
  where
    links : Ordered (plus (if_there (nat_lt 1 i) link) (if_there (nat_lt i n) link))
    links = plus_ordered _ _ (there_ordered (nat_lt 1 i) link h) (there_ordered (nat_lt i n) link h)

    negated : Ordered (minus (only (pos 0)) link)
    negated = omega (arith, ints)

    by : (same : Bool) → Ordered (cond same (diagonal n link outside i) (if_there (neighbours i j) (minus (only (pos 0)) link)))
    by true = plus_ordered _ _ links (there_ordered (i == 1) outside k)
    by false = there_ordered (neighbours i j) _ negated

-- ---- the law

pub chain_lawful : (n : ℕ) (link outside heat : Range) → chain_refusal n link outside heat ≡ None → Lawful (chain n link outside heat)
chain_lawful n link outside heat h =
    let t = test_passed (nat_le 1 n && nat_le n 32) _ (Size 0) h in
    let size = and_parts (nat_le 1 n) (nat_le n 32) t.0 in
    let first = neither (ends_refusal 1 conductances link) _ t.1 in
    let second = neither (ends_refusal 2 conductances outside) _ first.1 in
    record {
      some = grind (arith, nat_tests);
      few = grind (arith, nat_tests);
      coefficients = λ i j p q. limited_within (2 ^ 20) 100 i j _ (coefficient_ordered n link outside (in_order 1 conductances link first.0) (in_order 2 conductances outside second.0) i j);
      right_sides = λ i p. limited_within (2 ^ 42) 100 i (n + 1) _ (there_ordered (i == n) heat (in_order 3 (limits (2 ^ 42)) heat second.1));
    }
