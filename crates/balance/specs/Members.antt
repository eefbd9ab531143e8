-- Member systems and their solutions, in fractions.
use Rattle.std.specs.Prelude.{◌≡◌, ℕ, zero, suc, ◌*◌, ◌<◌, ℤ, pos, ◌+ℤ◌, ◌*ℤ◌, ◌≤ℤ◌}
use Rattle.std.proofs.Common.{mul-pos, arith}
use Rattle.balance.specs.declared.range.Range.{Range}
use Rattle.balance.specs.Meanings.{Place, told, refused, Meaning, IsNode}

infix 50 ◌∈◌ ◌≈◌
infixl 60 ◌⊕◌
infixl 70 ◌⊗◌
-- top / bottom
pub record Fraction : Type 0 where
  pub top : ℤ
  pub bottom : ℕ
  pub positive : 0 < bottom

-- lower ≤ f ≤ upper, multiplied out
abbrev pub ◌∈◌ : Fraction → Range → Type 0
f ∈ r = ((r.lower *ℤ pos f.bottom) ≤ℤ f.top) × (f.top ≤ℤ (r.upper *ℤ pos f.bottom))

-- equal fractions
abbrev pub ◌≈◌ : Fraction → Fraction → Type 0
f ≈ g = f.top *ℤ pos g.bottom ≡ g.top *ℤ pos f.bottom

abbrev pub ◌⊕◌ : Fraction → Fraction → Fraction
f ⊕ g = record { top = f.top *ℤ pos g.bottom +ℤ g.top *ℤ pos f.bottom; bottom = f.bottom * g.bottom; positive = mul-pos f.positive g.positive }

abbrev pub ◌⊗◌ : Fraction → Fraction → Fraction
f ⊗ g = record { top = f.top *ℤ g.top; bottom = f.bottom * g.bottom; positive = mul-pos f.positive g.positive }

abbrev pub none : Fraction
none = record { top = pos 0; bottom = 1; positive = omega arith }

-- f 1 + .. + f k
abbrev pub sum : (ℕ → Fraction) → ℕ → Fraction
sum f zero = none
sum f (suc k) = sum f k ⊕ f (suc k)

-- f may be picked at a place; where the place is refused there is nothing to pick
abbrev pub PickedAt : Place → Fraction → Type 0
PickedAt (told r) f = f ∈ r
PickedAt (refused part row column) f = ⊥

-- a member system: one fraction picked at each place
pub record Member (m : Meaning) : Type 0 where
  pub coefficient : ℕ → ℕ → Fraction
  pub right_side : ℕ → Fraction
  pub coefficients_picked : (i j : ℕ) → IsNode m i → IsNode m j → PickedAt (m.coefficient i j) (coefficient i j)
  pub right_sides_picked : (i : ℕ) → IsNode m i → PickedAt (m.right_side i) (right_side i)

-- a point of fractions over one whole number above 0
pub record Point : Type 0 where
  pub numerator : ℕ → ℤ
  pub over : ℕ
  pub positive : 0 < over

abbrev pub component : Point → ℕ → Fraction
component x j = record { top = x.numerator j; bottom = x.over; positive = x.positive }

-- x solves each picked equation exactly
abbrev pub Solves : (m : Meaning) → Member m → Point → Type 0
Solves m s x = (i : ℕ) → IsNode m i → sum (λ j. s.coefficient i j ⊗ component x j) m.size ≈ s.right_side i

-- equal solutions: equal fractions at every node
abbrev pub SamePoint : Meaning → Point → Point → Type 0
SamePoint m x y = (j : ℕ) → IsNode m j → component x j ≈ component y j
