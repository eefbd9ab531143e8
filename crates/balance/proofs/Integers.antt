-- Laws of the whole numbers: products and sums, their sizes, and their order.
use Rattle.std.proofs.Common.{◌≡◌, ℕ, zero, suc, ◌+◌, ◌*◌, ◌<◌, ◌≤◌, ℤ, pos, negsuc, ◌+ℤ◌, ◌*ℤ◌, neg_ℤ, nat_abs, ◌≤ℤ◌, refl, ap, subst₂, mul-le-mul_right, mul-le-mul, le_of_mul-le-mul_right, arith}
use lib.IntN.{*ℤ_comm}
use native.Mathlib.Nat.{eq_of_mul-eq-mul_right}
use borrow.Author.Differences.{ints, up, down, same_in, at_most_in, le_out, product_is, sum_is_lem}
use Rattle.std.specs.Int.{int_min, int_max}
use Rattle.std.proofs.lemmas.Int.{clamps}

-- ---- equations

up_product : (a b : ℤ) → up (a *ℤ b) ≡ up a * up b + down a * down b
up_product a b = (product_is a b).0

down_product : (a b : ℤ) → down (a *ℤ b) ≡ up a * down b + down a * up b
down_product a b = (product_is a b).1

pub times_assoc : (a b c : ℤ) → (a *ℤ b) *ℤ c ≡ a *ℤ (b *ℤ c)
times_assoc a b c = same_in _ _ (simp (up_product, down_product) (omega arith))

pub times_swap : (a b c : ℤ) → (a *ℤ b) *ℤ c ≡ (a *ℤ c) *ℤ b
times_swap a b c = same_in _ _ (simp (up_product, down_product) (omega arith))

pub sum_times : (a b c : ℤ) → (a +ℤ b) *ℤ c ≡ a *ℤ c +ℤ b *ℤ c
sum_times a b c = omega (arith, ints, ap (λ n. n * up c) (sum_is_lem a b), ap (λ n. n * down c) (sum_is_lem a b))

pub cancel : (a b : ℤ) (n : ℕ) → 0 < n → a *ℤ pos n ≡ b *ℤ pos n → a ≡ b
cancel a b n p e = same_in a b (eq_of_mul-eq-mul_right n p (up a + down b) (up b + down a) (omega (arith, ints)))

-- ---- sizes

neg_size : (n : ℕ) → nat_abs (neg_ℤ (pos n)) ≡ n
neg_size n = omega (arith, ints)

pub product_size : (a b : ℤ) → nat_abs (a *ℤ b) ≡ nat_abs a * nat_abs b
product_size (pos a) (pos b) = refl
product_size (pos a) (negsuc b) = neg_size (a * suc b)
product_size (negsuc a) (pos b) = neg_size (suc a * b)
product_size (negsuc a) (negsuc b) = refl

pub product_within : (a b : ℤ) (m n : ℕ) → nat_abs a ≤ m → nat_abs b ≤ n → nat_abs (a *ℤ b) ≤ m * n
product_within a b m n h k = rw (product_size a b) (mul-le-mul h k)

-- ---- order

pub le_times : (a b : ℤ) (n : ℕ) → a ≤ℤ b → (a *ℤ pos n) ≤ℤ (b *ℤ pos n)
le_times a b n h = omega (arith, ints, mul-le-mul_right n (le_out a b h))

pub le_cancel : (a b : ℤ) (n : ℕ) → 0 < n → (a *ℤ pos n) ≤ℤ (b *ℤ pos n) → a ≤ℤ b
le_cancel a b n p h = at_most_in a b (le_of_mul-le-mul_right {m = up a + down b} {n = up b + down a} {k = n} (omega (arith, ints)) p)

-- by a factor of either sign
pub grows : (a b d : ℤ) → pos 0 ≤ℤ d → a ≤ℤ b → (a *ℤ d) ≤ℤ (b *ℤ d)
grows a b (pos n) s h = le_times a b n h
grows a b (negsuc n) s h = absurd s.le

pub falls : (a b d : ℤ) → d ≤ℤ pos 0 → a ≤ℤ b → (b *ℤ d) ≤ℤ (a *ℤ d)
falls a b (pos zero) s h = omega (arith, ints)
falls a b (pos (suc n)) s h = absurd (omega (arith, ints))
falls a b (negsuc n) s h = omega (arith, ints, mul-le-mul_right (suc n) (le_out a b h))

pub grows_left : (a b d : ℤ) → pos 0 ≤ℤ d → a ≤ℤ b → (d *ℤ a) ≤ℤ (d *ℤ b)
grows_left a b d s h = subst₂ (λ x y. x ≤ℤ y) (*ℤ_comm a d) (*ℤ_comm b d) (grows a b d s h)

pub falls_left : (a b d : ℤ) → d ≤ℤ pos 0 → a ≤ℤ b → (d *ℤ b) ≤ℤ (d *ℤ a)
falls_left a b d s h = subst₂ (λ x y. x ≤ℤ y) (*ℤ_comm b d) (*ℤ_comm a d) (falls a b d s h)

-- an order between two products, in naturals
pub le_parts : (a b : ℤ) (m n : ℕ) → (a *ℤ pos m) ≤ℤ (b *ℤ pos n) → up a * m + down b * n ≤ up b * n + down a * m
le_parts a b m n h = omega (arith, ints)

le_scale : (a b : ℤ) (m n k m' n' : ℕ) → (a *ℤ pos m) ≤ℤ (b *ℤ pos n) → m' ≡ m * k → n' ≡ n * k → (a *ℤ pos m') ≤ℤ (b *ℤ pos n')
le_scale a b m n k m' n' h e f = rw (e, f) (omega (arith, ints, mul-le-mul_right k (le_parts a b m n h)))

le_plus : (a b c d : ℤ) → a ≤ℤ b → c ≤ℤ d → (a +ℤ c) ≤ℤ (b +ℤ d)
le_plus a b c d h k = omega (arith, ints)

scaled_sum : (a b : ℤ) (m n k : ℕ) → (a *ℤ pos m +ℤ b *ℤ pos n) *ℤ pos k ≡ a *ℤ pos (m * k) +ℤ b *ℤ pos (n * k)
scaled_sum a b m n k = rw (sum_times, times_assoc a, times_assoc b)

-- two orders between fractions, added: a ≤ s q / u and b ≤ t q / v, and the other way round
module _ (a b s t : ℤ) (u v q : ℕ) where
  pub le_sum : (a *ℤ pos u) ≤ℤ (s *ℤ pos q) → (b *ℤ pos v) ≤ℤ (t *ℤ pos q) → ((a +ℤ b) *ℤ pos (u * v)) ≤ℤ ((s *ℤ pos v +ℤ t *ℤ pos u) *ℤ pos q)
  le_sum h k = rw (sum_times a b, scaled_sum) (le_plus _ _ _ _ (le_scale a s u q v _ _ h refl (omega arith)) (le_scale b t v q u _ _ k (omega arith) (omega arith)))

  pub sum_le : (s *ℤ pos q) ≤ℤ (a *ℤ pos u) → (t *ℤ pos q) ≤ℤ (b *ℤ pos v) → ((s *ℤ pos v +ℤ t *ℤ pos u) *ℤ pos q) ≤ℤ ((a +ℤ b) *ℤ pos (u * v))
  sum_le h k = rw (sum_times a b, scaled_sum) (le_plus _ _ _ _ (le_scale s a q u v _ _ h (omega arith) refl) (le_scale t b q v u _ _ k (omega arith) (omega arith)))

-- ---- what lies between two numbers, times a third

pub times_between : (a b t p : ℤ) → a ≤ℤ t → t ≤ℤ b → (int_min (a *ℤ p) (b *ℤ p) ≤ℤ (t *ℤ p)) × ((t *ℤ p) ≤ℤ int_max (a *ℤ p) (b *ℤ p))
times_between a b t (pos n) h k = omega (arith, ints, clamps, mul-le-mul_right n (le_out a t h), mul-le-mul_right n (le_out t b k))
times_between a b t (negsuc n) h k = omega (arith, ints, clamps, mul-le-mul_right (suc n) (le_out a t h), mul-le-mul_right (suc n) (le_out t b k))

pub between_low : (z a b t p : ℤ) → a ≤ℤ t → t ≤ℤ b → z ≤ℤ (a *ℤ p) → z ≤ℤ (b *ℤ p) → z ≤ℤ (t *ℤ p)
between_low z a b t p h k l m = under (times_between a b t p h k).0
  where
    under : int_min (a *ℤ p) (b *ℤ p) ≤ℤ (t *ℤ p) → z ≤ℤ (t *ℤ p)
    under n = omega (arith, ints, clamps)

pub between_high : (z a b t p : ℤ) → a ≤ℤ t → t ≤ℤ b → (a *ℤ p) ≤ℤ z → (b *ℤ p) ≤ℤ z → (t *ℤ p) ≤ℤ z
between_high z a b t p h k l m = above (times_between a b t p h k).1
  where
    above : (t *ℤ p) ≤ℤ int_max (a *ℤ p) (b *ℤ p) → (t *ℤ p) ≤ℤ z
    above n = omega (arith, ints, clamps)
