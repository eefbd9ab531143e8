-- The assembled matrix of a system as a roast holds it.
use Rattle.std.specs.Prelude.{◌≡◌, ℕ, false, length}
use Rattle.balance.specs.Meanings.{Meaning, Among, IsNode, coefficient_range}
use Rattle.roast.specs.declared.matrix.Matrix.{Matrix}
use Rattle.roast.specs.Rounding.{holds_zero}
use Rattle.roast.specs.Matrices.{entry, told_by, Assembled}
use Rattle.roast.specs.Narrowing.{Box, HasNode}

-- what a matrix means by itself
abbrev pub meant : Matrix → Meaning
meant a = told_by a.size a.coefficients a.sides

-- a matrix has a row for each of so many nodes, and none of their diagonals holds 0
pub record Fits (a : Matrix) (nodes : ℕ) : Type 0 where
  pub rows : nodes ≡ a.size
  pub apart : (i : ℕ) → Among nodes i → holds_zero (entry a.coefficients i i) ≡ false

-- it has them for each node of a box, if the box has any
abbrev pub FitsBox : Matrix → Box → Type 0
FitsBox a box = (i : ℕ) → HasNode box i → Fits a (length box)

-- it is the matrix of a system with so many nodes that an opening accepts
pub record Held (m : Meaning) (a : Matrix) (nodes : ℕ) : Type 0 where
  pub rows : nodes ≡ a.size
  pub assembled : Assembled m a.size a.coefficients a.sides
  pub apart : (i : ℕ) → IsNode m i → holds_zero (coefficient_range m i i) ≡ false
