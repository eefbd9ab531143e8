-- What a system means: its size and, at each place, two ends or a refusal. Nodes, rows and columns are counted from 1.
use Rattle.std.specs.Prelude.{◌≡◌, ℕ, ◌^◌, ◌≤◌, Bool, false, cond, ℤ, pos, Ok, Err, Result, nat_le}
use Rattle.balance.specs.declared.range.Range.{Range}
use Rattle.balance.specs.declared.refusal.Refusal.{Refusal}
use Rattle.balance.specs.declared.refusal.Refusal.TheVariants.{Node, Limit}
use Rattle.balance.specs.Ranges.{only, within, limits, Between}

-- two ends, or the fields of a refusal 8: part, row and column
pub data Place : Type 0 where
  told : Range → Place
  refused : ℕ → ℕ → ℕ → Place

pub record Meaning : Type 0 where
  pub size : ℕ
  pub coefficient : ℕ → ℕ → Place
  pub right_side : ℕ → Place

-- i is one of the numbers 1 to n
abbrev pub Among : ℕ → ℕ → Type 0
Among n i = (1 ≤ i) × (i ≤ n)

abbrev pub IsNode : Meaning → ℕ → Type 0
IsNode m i = Among m.size i

-- two meanings are the same if they agree in size and at every place of their nodes
pub record Same (m m' : Meaning) : Type 0 where
  pub sizes : m.size ≡ m'.size
  pub coefficients : (i j : ℕ) → IsNode m i → IsNode m j → m.coefficient i j ≡ m'.coefficient i j
  pub right_sides : (i : ℕ) → IsNode m i → m.right_side i ≡ m'.right_side i

abbrev pub Within : ℕ → Place → Type 0
Within limit (told r) = Between limit r
Within limit (refused part row column) = Unit {0}

-- the law of every system: 1 to 32 nodes, coefficients within ±2^20, right sides within ±2^42, lower ends not above upper ends
pub record Lawful (m : Meaning) : Type 0 where
  pub some : 1 ≤ m.size
  pub few : m.size ≤ 32
  pub coefficients : (i j : ℕ) → IsNode m i → IsNode m j → Within (2 ^ 20) (m.coefficient i j)
  pub right_sides : (i : ℕ) → IsNode m i → Within (2 ^ 42) (m.right_side i)

abbrev pub Told : Place → Type 0
Told (told r) = Unit {0}
Told (refused part row column) = ⊥

pub record EveryPlaceAnswers (m : Meaning) : Type 0 where
  pub coefficients : (i j : ℕ) → IsNode m i → IsNode m j → Told (m.coefficient i j)
  pub right_sides : (i : ℕ) → IsNode m i → Told (m.right_side i)

-- the ends at a place
abbrev pub range_at : Place → Range
range_at (told r) = r
range_at (refused part row column) = only (pos 0)

-- A_ij and b_i, where they answer
abbrev pub coefficient_range : Meaning → ℕ → ℕ → Range
coefficient_range m i j = range_at (m.coefficient i j)

abbrev pub right_side_range : Meaning → ℕ → Range
right_side_range m i = range_at (m.right_side i)

-- ---- what a system answers

abbrev pub answer : Place → Result (ℤ × ℤ) Refusal
answer (told r) = Ok (r.lower, r.upper)
answer (refused part row column) = Err (Limit part row column)

-- i is one of the nodes 1 to n
abbrev pub is_node : ℕ → ℕ → Bool
is_node n i = cond (nat_le 1 i) (nat_le i n) false

-- a number that is no node is refused by itself
abbrev pub node_check : ℕ → ℕ → Result (Unit {0}) Refusal
node_check n i = cond (is_node n i) (Ok tt) (Err (Node i))

-- the row before the column
abbrev pub place_check : ℕ → ℕ → ℕ → Result (Unit {0}) Refusal
place_check n i j = cond (is_node n i) (node_check n j) (Err (Node i))

-- a place outside the nodes is refused by the node given, the row first
abbrev pub coefficient_answer : Meaning → ℕ → ℕ → Result (ℤ × ℤ) Refusal
coefficient_answer m i j = cond (is_node m.size i) (cond (is_node m.size j) (answer (m.coefficient i j)) (Err (Node j))) (Err (Node i))

abbrev pub right_side_answer : Meaning → ℕ → Result (ℤ × ℤ) Refusal
right_side_answer m i = cond (is_node m.size i) (answer (m.right_side i)) (Err (Node i))

-- ---- places whose range may go beyond the limit

-- a range that keeps within its limits is told, and its place is refused by part, row and column where it doesn't
abbrev pub placed : Range → ℕ → ℕ → ℕ → Range → Place
placed ends part row column r = cond (within r ends) (told r) (refused part row column)

abbrev pub limited : ℕ → ℕ → ℕ → ℕ → Range → Place
limited limit part row column r = placed (limits limit) part row column r

-- ---- places of a layer

-- what a layer makes of a range below; a refusal from below is passed up as it is
abbrev pub place_above : (Range → Place) → Place → Place
place_above make (told r) = make r
place_above make (refused part row column) = refused part row column
