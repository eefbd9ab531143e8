-- A layer that numbers the nodes anew, by a permutation p: node i of the layer is node p(i) below.
use Rattle.std.specs.Prelude.{◌≡◌, ℕ, ◌-◌, ◌≤◌, Bool, cond, ◌&&◌, not, ◌↔◌, List, length, Option, ◌==◌, slice_index}
use Rattle.balance.specs.declared.refusal.Refusal.{Refusal}
use Rattle.balance.specs.Meanings.{Meaning, is_node}
use Rattle.balance.specs.Members.{Point}
use Rattle.balance.specs.Places.{every}
use Rattle.balance.specs.Points.{Possible}
use Rattle.systems.specs.Entries.{entries_refusal}

-- ---- what the layer tells

-- p(k), entry k of a list, from 1
abbrev pub entry_at : List ℕ → ℕ → ℕ
entry_at ps k = slice_index ps (k - 1)

-- the node below: p(i), or i itself above a system of another size than there are entries
abbrev pub node_below : List ℕ → ℕ → ℕ → ℕ
node_below ps n i = cond (length ps == n) (entry_at ps i) i

-- part 4, which has no refusal of its own
abbrev pub renumbered : List ℕ → Meaning → Meaning
renumbered ps m = record {
  size = m.size;
  coefficient = λ i j. m.coefficient (node_below ps m.size i) (node_below ps m.size j);
  right_side = λ i. m.right_side (node_below ps m.size i);
}

-- ---- which lists it takes

-- entry k is none of the entries before it
abbrev pub is_new : List ℕ → ℕ → Bool
is_new ps k = every (λ j. not (entry_at ps j == entry_at ps k)) (k - 1)

-- entry k is one of 1 to n, and new
abbrev pub entry_allowed : ℕ → List ℕ → ℕ → Bool
entry_allowed n ps k = is_node n (entry_at ps k) && is_new ps k

-- as many entries as nodes; then entry by entry
abbrev pub order_refusal : ℕ → List ℕ → Option Refusal
order_refusal n ps = entries_refusal n (length ps) (entry_allowed n ps)

-- p maps 1 to n onto 1 to n, one to one
pub record Permutation (n : ℕ) (p : ℕ → ℕ) : Type 0 where
  pub within : (i : ℕ) → 1 ≤ i → i ≤ n → (1 ≤ p i) × (p i ≤ n)
  pub one_to_one : (i j : ℕ) → 1 ≤ i → i ≤ n → 1 ≤ j → j ≤ n → p i ≡ p j → i ≡ j
  pub onto : (k : ℕ) → 1 ≤ k → k ≤ n → (i : ℕ) × (1 ≤ i) × (i ≤ n) × (p i ≡ k)

abbrev pub IsPermutation : ℕ → List ℕ → Type 0
IsPermutation n ps = (length ps ≡ n) × Permutation n (entry_at ps)

-- ---- what it keeps

-- y is x renumbered: component i of y is component p(i) of x
pub record Renumbers (n : ℕ) (p : ℕ → ℕ) (x y : Point) : Type 0 where
  pub numerators : (i : ℕ) → 1 ≤ i → i ≤ n → y.numerator i ≡ x.numerator (p i)
  pub over : y.over ≡ x.over

-- A point solves some member below exactly if, renumbered, it solves some member of the layer; and every point, below or of the
-- layer, has its counterpart.
pub record RenumbersSolutions (ps : List ℕ) (m : Meaning) : Type 0 where
  pub exactly : (x y : Point) → Renumbers m.size (entry_at ps) x y → Possible m x ↔ Possible (renumbered ps m) y
  pub upward : (x : Point) → (y : Point) × Renumbers m.size (entry_at ps) x y
  pub downward : (y : Point) → (x : Point) × Renumbers m.size (entry_at ps) x y
