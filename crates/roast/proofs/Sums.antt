-- Sums and largest numbers over the nodes 1 to n, and the node where a ratio is largest.
use Rattle.std.proofs.Common.{◌≡◌, ℕ, zero, suc, ◌+◌, ◌-◌, ◌*◌, ◌<◌, ◌≤◌, max, Bool, true, false, cond, if◌then◌else◌, eqb, [], ◌∷◌, ◌++◌, length, get_or, All, fold, map, sym, refl, ap, ◌∙◌, subst, ap₂, mul-le-mul_right, div-lt_iff_lt-mul, mul-le-mul_left, le_of_mul-le-mul_right, lt_of_mul-lt-mul_right, arith}
use native.Mathlib.Decide.{dec_le}
use Rattle.std.proofs.Math.Nat.{max-eq_right}
use Rattle.std.proofs.lemmas.Grind.{div_ceil_times}
use Rattle.std.specs.Int.{div_ceil}
use Rattle.std.proofs.lemmas.List.{map-append, length_push, get_or_append_left, get_or_at}
use Rattle.std.proofs.lemmas.List.Elements.{All-push}
use Rattle.std.proofs.lemmas.List.Sums.{fold-append}
use Rattle.roast.specs.Certificates.{sum_without, largest, rounded_up, listed}

-- i is one of 1 .. n
abbrev pub In : ℕ → ℕ → Type 0
In n i = (1 ≤ i) × (i ≤ n)

-- one of 1 .. n + 1 is one of 1 .. n, or the last
pub by_last : (P : ℕ → Type 0) (n j : ℕ) → In (suc n) j → (In n j → P j) → P (suc n) → P j
by_last P n j h before last = go (dec_le j n)
  where
    go : Dec (j ≤ n) → P j
    go (yes p) = before (h.0, p)
    go (no p) = let e : suc n ≡ j = omega arith in subst P e last

-- ---- sums

pub without_last : (w : ℕ → ℕ) (i k : ℕ) → suc k ≡ i → sum_without w i (suc k) ≡ sum_without w i k
without_last w i k e = grind arith

pub with_last : (w : ℕ → ℕ) (i k : ℕ) → ¬ (suc k ≡ i) → sum_without w i (suc k) ≡ sum_without w i k + w (suc k)
with_last w i k e = grind arith

pub sum_same : (f g : ℕ → ℕ) (i n : ℕ) → ((j : ℕ) → In n j → f j ≡ g j) → sum_without f i n ≡ sum_without g i n
sum_same f g i zero h = refl
sum_same f g i (suc n) h = ap₂ (λ s x. s + cond (eqb (suc n) i) 0 x) (sum_same f g i n (λ j p. h j (omega arith))) (h (suc n) (omega arith))

-- ---- the largest

pub largest_above : (f : ℕ → ℕ) (n j : ℕ) → In n j → f j ≤ largest f n
largest_above f zero j h = omega arith
largest_above f (suc n) j h = by_last (λ i. f i ≤ largest f (suc n)) n j h (λ k. omega (arith, largest_above f n j k)) (omega arith)

pub largest_below : (f : ℕ → ℕ) (n z : ℕ) → ((j : ℕ) → In n j → f j ≤ z) → largest f n ≤ z
largest_below f zero z h = omega arith
largest_below f (suc n) z h = omega (arith, largest_below f n z (λ j p. h j (omega arith)), h (suc n) (omega arith))

pub largest_same : (f g : ℕ → ℕ) (n : ℕ) → ((j : ℕ) → In n j → f j ≡ g j) → largest f n ≡ largest g n
largest_same f g zero h = refl
largest_same f g (suc n) h = ap₂ max (largest_same f g n (λ j p. h j (omega arith))) (h (suc n) (omega arith))

-- a rounded up quotient is the least whole number that is large enough
pub rounded_up_enough : (a d : ℕ) → 0 < d → a ≤ rounded_up a d * d
rounded_up_enough a d h = omega arith

pub rounded_up_least : (a d z : ℕ) → 0 < d → a ≤ z * d → rounded_up a d ≤ z
rounded_up_least a d z h k = let l = (div-lt_iff_lt-mul {x = a + (d - 1)} {y = suc z} h).1 (omega arith) in omega arith

-- an end that falls short of a / d grows to it, rounded up
pub rounded_up_above : (a d e : ℕ) → 0 < d → e * d < a → max e (rounded_up a d) ≡ rounded_up a d
rounded_up_above a d e h k = let l : e * d < rounded_up a d * d = omega (arith, rounded_up_enough a d h) in let m : e ≤ rounded_up a d = omega (arith, lt_of_mul-lt-mul_right d {m = e} {n = rounded_up a d} l) in max-eq_right m

pub div_ceil_is : (a d : ℕ) → 0 < d → div_ceil a d ≡ rounded_up a d
div_ceil_is a d h =
    let c = div_ceil_times a d h in
    let l : rounded_up a d ≤ div_ceil a d = rounded_up_least a d (div_ceil a d) h c.0 in
    let r : div_ceil a d * d < suc (rounded_up a d) * d = omega (arith, c.1, rounded_up_enough a d h) in
    let u = lt_of_mul-lt-mul_right d {m = div_ceil a d} {n = suc (rounded_up a d)} r in
    omega (arith, l, u)

-- ---- lists

pub length_listed : {X : Type 0} (f : ℕ → X) (n : ℕ) → length (listed f n) ≡ n
length_listed f zero = refl
length_listed f (suc n) = omega (arith, length_push (listed f n) (f (suc n)), length_listed f n)

pub get_or_listed : {X : Type 0} (f : ℕ → X) (n j : ℕ) (d : X) → In n j → get_or (listed f n) (j - 1) d ≡ f j
get_or_listed f zero j d h = absurd (omega arith)
get_or_listed f (suc n) j d h = by_last (λ i. get_or (listed f (suc n)) (i - 1) d ≡ f i) n j h
    (λ k. get_or_append_left (listed f n) (f (suc n) ∷ []) d (j - 1) (omega (arith, length_listed f n)) ∙ get_or_listed f n j d k)
    (get_or_at (listed f n) (f (suc n)) [] d (suc n - 1) (omega (arith, length_listed f n)))

pub listed_same : {X : Type 0} (f g : ℕ → X) (n : ℕ) → ((i : ℕ) → In n i → f i ≡ g i) → listed f n ≡ listed g n
listed_same f g zero h = refl
listed_same f g (suc n) h = ap₂ (λ xs x. xs ++ x ∷ []) (listed_same f g n (λ i p. h i (omega arith))) (h (suc n) (omega arith))

pub all_listed : {X : Type 0} (P : X → Type 0) (f : ℕ → X) (n : ℕ) → ((i : ℕ) → In n i → P (f i)) → All P (listed f n)
all_listed P f zero h = λ k d l. absurd (omega arith)
all_listed P f (suc n) h = All-push P (listed f n) (f (suc n)) (all_listed P f n (λ i p. h i (omega arith))) (h (suc n) (omega arith))

pub largest_listed : {X : Type 0} (h : X → ℕ) (f : ℕ → X) (n : ℕ) → fold max 0 (map h (listed f n)) ≡ largest (λ i. h (f i)) n
largest_listed h f zero = refl
largest_listed h f (suc n) = rw (map-append, fold-append, largest_listed h f n) refl

-- ---- ratios, compared by cross multiplication

ratio_trans : (a u b v c w : ℕ) → 0 < v → a * v ≤ b * u → b * w ≤ c * v → a * w ≤ c * u
ratio_trans a u b v c w p h k = le_of_mul-le-mul_right {m = a * w} {n = c * u} {k = v} (omega (arith, mul-le-mul_right w h, mul-le-mul_right u k)) p

-- the node where f / u is largest
pub record Greatest (f u : ℕ → ℕ) (n : ℕ) : Type 0 where
  pub place : ℕ
  pub inside : In n place
  pub most : (j : ℕ) → In n j → f j * u place ≤ f place * u j

greatest : (f u : ℕ → ℕ) (k : ℕ) → ((j : ℕ) → In (suc k) j → 0 < u j) → Greatest f u (suc k)
greatest f u zero p = record { place = 1; inside = omega arith; most = λ j h. by_last (λ i. f i * u 1 ≤ f 1 * u i) 0 j h (λ k. omega arith) (omega arith) }
greatest f u (suc k) p = go (greatest f u k (λ j h. p j (omega arith)))
  where
    n : ℕ
    n = suc (suc k)

    by : (t : Greatest f u (suc k)) → Dec (f n * u t.place ≤ f t.place * u n) → Greatest f u n
    by t (yes h) = record { place = t.place; inside = omega arith; most = λ j k'. by_last (λ i. f i * u t.place ≤ f t.place * u i) (suc k) j k' (t.most j) h }
    by t (no h) = record { place = n; inside = omega arith; most = λ j k'. by_last (λ i. f i * u n ≤ f n * u i) (suc k) j k' (λ l. ratio_trans (f j) (u j) (f t.place) (u t.place) (f n) (u n) (p t.place (omega arith)) (t.most j l) (omega arith)) (omega arith) }

    go : Greatest f u (suc k) → Greatest f u n
    go t = by t (dec_le (f n * u t.place) (f t.place * u n))

pub some_greatest : (f u : ℕ → ℕ) (n : ℕ) → 1 ≤ n → ((j : ℕ) → In n j → 0 < u j) → Greatest f u n
some_greatest f u zero h p = absurd (omega arith)
some_greatest f u (suc k) h p = greatest f u k p

-- at such a node i: the sum of w f, with each f j replaced by the larger u j f i / u i
module _ (f u w : ℕ → ℕ) (n i : ℕ) (most : (j : ℕ) → In n j → f j * u i ≤ f i * u j) where
  step : (c : Bool) (s s' x y : ℕ) → s * u i ≤ f i * s' → x * u i ≤ f i * y → (s + cond c 0 x) * u i ≤ f i * (s' + cond c 0 y)
  step true s s' x y h k = omega arith
  step false s s' x y h k = omega arith

  replaced : (k : ℕ) → k ≤ n → sum_without (λ j. w j * f j) i k * u i ≤ f i * sum_without (λ j. w j * u j) i k
  replaced zero h = omega arith
  replaced (suc k) h = step (eqb (suc k) i) _ _ (w (suc k) * f (suc k)) (w (suc k) * u (suc k)) (replaced k (omega arith)) (omega (arith, mul-le-mul_left (w (suc k)) (most (suc k) (omega arith))))

  -- a row in which the weight c of node i outweighs the others, by v
  pub outweighs : (c r v : ℕ) → In n i → 0 < u i → c * f i ≤ r + sum_without (λ j. w j * f j) i n → v + sum_without (λ j. w j * u j) i n ≡ c * u i → (j : ℕ) → In n j → f j * v ≤ r * u j
  outweighs c r v inside p row e j h =
      let S : ℕ = sum_without (λ j. w j * f j) i n in
      let S' : ℕ = sum_without (λ j. w j * u j) i n in
      let all : S * u i ≤ f i * S' = replaced n (omega arith) in
      let own : v * f i ≤ r * u i = omega (arith, mul-le-mul_right (u i) row, ap (λ n. n * f i) e) in
      le_of_mul-le-mul_right {m = f j * v} {n = r * u j} {k = u i} (omega (arith, mul-le-mul_right v (most j h), mul-le-mul_right (u j) own)) p

-- one column more
pub sum_without_more : (f : ℕ → ℕ) (i j s r : ℕ) → s ≡ sum_without f i j → r ≡ (if eqb (j + 1) i then 0 else f (j + 1)) → s + r ≡ sum_without f i (j + 1)
sum_without_more f i j s r h e =
    let n : j + 1 ≡ suc j = omega arith in
    ap₂ (λ a b. a + b) h (e ∙ ap (λ m. if eqb m i then 0 else f m) n) ∙ ap (sum_without f i) (sym n)
