-- A chain of nodes: what is at each place of its balance, and which chains are made.
use Rattle.std.specs.Prelude.{ℕ, ◌+◌, ◌-◌, ◌^◌, Bool, cond, ◌&&◌, pos, Some, None, Option, ◌==◌, int_le, nat_le, nat_lt}
use Rattle.balance.specs.declared.range.Range.{Range}
use Rattle.balance.specs.declared.refusal.Refusal.{Refusal}
use Rattle.balance.specs.declared.refusal.Refusal.TheVariants.{Size, Crossed, Limit}
use Rattle.balance.specs.Ranges.{range, only, within, limits, plus, minus}
use Rattle.balance.specs.Meanings.{Meaning, limited}
use Rattle.balance.specs.Places.{or_else}

-- ---- what is at a place

-- a range where it is there, and else nothing
abbrev pub if_there : Bool → Range → Range
if_there there r = cond there r (only (pos 0))

-- what flows from node i: to the node before it, to the node behind it, and from the first to the outside
abbrev pub diagonal : ℕ → Range → Range → ℕ → Range
diagonal n link outside i = plus (plus (if_there (nat_lt 1 i) link) (if_there (nat_lt i n) link)) (if_there (i == 1) outside)

-- a neighbour is linked, and takes what the link gives
abbrev pub neighbours : ℕ → ℕ → Bool
neighbours i j = (i - j) + (j - i) == 1

abbrev pub coefficient : ℕ → Range → Range → ℕ → ℕ → Range
coefficient n link outside i j = cond (i == j) (diagonal n link outside i) (if_there (neighbours i j) (minus (only (pos 0)) link))

-- part 100: a sum beyond the limits is refused at its row and column; the last node is heated
abbrev pub chain : ℕ → Range → Range → Range → Meaning
chain n link outside heat = record {
  size = n;
  coefficient = λ i j. limited (2 ^ 20) 100 i j (coefficient n link outside i j);
  right_side = λ i. limited (2 ^ 42) 100 i (n + 1) (if_there (i == n) heat);
}

-- ---- which chains are made

-- crossed ends before an end beyond the limits, by the number of the range
abbrev pub ends_refusal : ℕ → Range → Range → Option Refusal
ends_refusal number bounds r = cond (int_le r.lower r.upper) (cond (within r bounds) None (Some (Limit 100 number 0))) (Some (Crossed number))

abbrev pub conductances : Range
conductances = range (pos 0) (pos (2 ^ 20))

-- 1 to 32 nodes, then the link, the way to the outside and the heat, as ranges 1 to 3
abbrev pub chain_refusal : ℕ → Range → Range → Range → Option Refusal
chain_refusal n link outside heat =
    cond (nat_le 1 n && nat_le n 32)
    (or_else (ends_refusal 1 conductances link)
    (or_else (ends_refusal 2 conductances outside)
    (ends_refusal 3 (limits (2 ^ 42)) heat)))
    (Some (Size 0))
