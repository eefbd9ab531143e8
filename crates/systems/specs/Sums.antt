-- Sums of ranges: their laws and their sizes.
use Rattle.std.specs.Prelude.{◌≡◌, ℕ, zero, suc, ◌+◌, ◌≤◌, pos, ◌+ℤ◌, refl}
use Rattle.std.proofs.Common.{arith}
use Rattle.std.proofs.lemmas.Int.{ints}
use Rattle.balance.specs.declared.range.Range.{Range}
use Rattle.balance.specs.Ranges.{range, only, Between, plus, total}

pub plus_assoc : (a b c : Range) → plus (plus a b) c ≡ plus a (plus b c)
plus_assoc a b c =
    let l : (a.lower +ℤ b.lower) +ℤ c.lower ≡ a.lower +ℤ (b.lower +ℤ c.lower) = omega (arith, ints) in
    let u : (a.upper +ℤ b.upper) +ℤ c.upper ≡ a.upper +ℤ (b.upper +ℤ c.upper) = omega (arith, ints) in
    λ i. range (l i) (u i)

pub plus_nothing : (a : Range) → plus a (only (pos 0)) ≡ a
plus_nothing a =
    let l : a.lower +ℤ pos 0 ≡ a.lower = omega (arith, ints) in
    let u : a.upper +ℤ pos 0 ≡ a.upper = omega (arith, ints) in
    λ i. range (l i) (u i)

pub plus_between : (m n : ℕ) (a b : Range) → Between m a → Between n b → Between (m + n) (plus a b)
plus_between m n a b h k = (omega (arith, ints), omega (arith, ints), omega (arith, ints))

pub between_more : (m n : ℕ) (a : Range) → m ≤ n → Between m a → Between n a
between_more m n a l h = (omega (arith, ints), omega (arith, ints), omega (arith, ints))

pub total_same : (f g : ℕ → Range) (n : ℕ) → ((i : ℕ) → 1 ≤ i → i ≤ n → f i ≡ g i) → total f n ≡ total g n
total_same f g zero h = refl
total_same f g (suc n) h = rw (total_same f g n (λ i a b. h i a (omega arith)), h (suc n) (omega arith) (omega arith))

pub plus_swap : (a b c : Range) → plus (plus a b) c ≡ plus (plus a c) b
plus_swap a b c =
    let l : (a.lower +ℤ b.lower) +ℤ c.lower ≡ (a.lower +ℤ c.lower) +ℤ b.lower = omega (arith, ints) in
    let u : (a.upper +ℤ b.upper) +ℤ c.upper ≡ (a.upper +ℤ c.upper) +ℤ b.upper = omega (arith, ints) in
    λ i. range (l i) (u i)
