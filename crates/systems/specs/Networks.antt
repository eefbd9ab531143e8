-- A network of links between nodes: what its records add to the balance, and which records it takes.
use Rattle.std.specs.Prelude.{ℕ, ◌+◌, ◌-◌, ◌^◌, Bool, cond, ◌&&◌, ◌||◌, List, [], ◌∷◌, length, pos, Some, None, Option, ◌==◌, int_le, nat_le, slice_index_or}
use Rattle.balance.specs.declared.range.Range.{Range}
use Rattle.balance.specs.declared.refusal.Refusal.{Refusal}
use Rattle.balance.specs.declared.refusal.Refusal.TheVariants.{Size, Node, Crossed, Limit}
use Rattle.balance.specs.Ranges.{range, only, within, limits, Between, plus, minus, times, total}
use Rattle.balance.specs.Meanings.{Meaning, is_node, limited}
use Rattle.balance.specs.Places.{first}
use Rattle.systems.specs.declared.record.Addition.{Addition}
use Rattle.systems.specs.declared.record.Record.{Record}
use Rattle.systems.specs.declared.record.Record.TheVariants.{Link, Outside, Heat}

-- ---- what the records add

-- a range that is added at one place; column n + 1 is the right side
abbrev pub adds : ℕ → ℕ → Range → Addition
adds row column amount = record { row = row; column = column; amount = amount }

abbrev pub negated : Range → Range
negated r = minus (only (pos 0)) r

-- what a record adds in a network of n nodes, and where
abbrev pub additions : ℕ → Record → List Addition
additions n (Link i j conductance) = adds i i conductance ∷ adds j j conductance ∷ adds i j (negated conductance) ∷ adds j i (negated conductance) ∷ []
additions n (Outside i conductance temperature) = adds i i conductance ∷ adds i (n + 1) (times conductance temperature) ∷ []
additions n (Heat i heat) = adds i (n + 1) heat ∷ []

-- an amount, where it goes to this place, and nothing elsewhere
abbrev pub amount_at : ℕ → ℕ → Addition → Range
amount_at i j a = cond (a.row == i && a.column == j) a.amount (only (pos 0))

abbrev pub sum_at : ℕ → ℕ → List Addition → Range
sum_at i j [] = only (pos 0)
sum_at i j (a ∷ more) = plus (amount_at i j a) (sum_at i j more)

-- no amount has an end beyond ±2^50
abbrev pub Small : List Addition → Type 0
Small [] = Unit {0}
Small (a ∷ more) = Between (2 ^ 50) a.amount × Small more

-- record k of a list, from 1
abbrev pub record_at : List Record → ℕ → Record
record_at rs k = slice_index_or rs (k - 1) (Link 0 0 (only (pos 0)))

-- what all records add at a place
abbrev pub network_sum : ℕ → List Record → ℕ → ℕ → Range
network_sum n rs i j = total (λ k. sum_at i j (additions n (record_at rs k))) (length rs)

-- part 2: a sum beyond the limits is refused at its row and column
abbrev pub network : ℕ → List Record → Meaning
network n rs = record {
  size = n;
  coefficient = λ i j. limited (2 ^ 20) 2 i j (network_sum n rs i j);
  right_side = λ i. limited (2 ^ 42) 2 i (n + 1) (network_sum n rs i (n + 1));
}

-- ---- which records a network takes

-- between these ends a record takes conductances, outside temperatures and heats
abbrev pub conductances : Range
conductances = range (pos 0) (pos (2 ^ 20))

abbrev pub temperatures : Range
temperatures = limits (2 ^ 30)

abbrev pub heats : Range
heats = limits (2 ^ 42)

abbrev pub in_order : Range → Bool
in_order r = int_le r.lower r.upper

-- the nodes that a record names are among 1 to n
abbrev pub names_nodes : ℕ → Record → Bool
names_nodes n (Link i j conductance) = is_node n i && is_node n j
names_nodes n (Outside i conductance temperature) = is_node n i
names_nodes n (Heat i heat) = is_node n i

-- no lower end of a record is above its upper end
abbrev pub ends_in_order : Record → Bool
ends_in_order (Link i j conductance) = in_order conductance
ends_in_order (Outside i conductance temperature) = in_order conductance && in_order temperature
ends_in_order (Heat i heat) = in_order heat

-- no end of a record lies beyond the limits of its quantity
abbrev pub ends_within : Record → Bool
ends_within (Link i j conductance) = within conductance conductances
ends_within (Outside i conductance temperature) = within conductance conductances && within temperature temperatures
ends_within (Heat i heat) = within heat heats

-- the first of these three that fails refuses record k
abbrev pub record_refusal : ℕ → ℕ → Record → Option Refusal
record_refusal n k r = cond (names_nodes n r) (cond (ends_in_order r) (cond (ends_within r) None (Some (Limit 2 k 0))) (Some (Crossed k))) (Some (Node k))

-- 1 to 32 nodes and at most 256 records; then record by record
abbrev pub network_refusal : ℕ → List Record → Option Refusal
network_refusal n rs =
    cond (nat_le 1 n && nat_le n 32 && nat_le (length rs) 256)
    (first (λ k. record_refusal n k (record_at rs k)) (length rs))
    (Some (Size 0))

-- ---- which records a place passes over

-- the record names node k; in rows and columns of other nodes it adds nothing
abbrev pub names : ℕ → Record → Bool
names k (Link i j conductance) = i == k || j == k
names k (Outside i conductance temperature) = i == k
names k (Heat i heat) = i == k
