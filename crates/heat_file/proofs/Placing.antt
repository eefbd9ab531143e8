-- Each cell and each weight holds what the entries give its place.
use Rattle.std.proofs.Common.{◌≡◌, ℕ, zero, suc, ◌+◌, ◌-◌, ◌*◌, ◌<◌, ◌≤◌, Bool, true, false, cond, ◌&&◌, eqb, leb, inl, inr, List, [], ◌∷◌, ◌++◌, length, get_or, set, drop, replicate, ℤ, pos, negsuc, nat_abs, sym, refl, ap, ◌∙◌, arith}
use native.Mathlib.Nat.{mul-le-mul_right}
use Rattle.std.specs.List.{AllByRecursion}
use Rattle.std.proofs.lemmas.Bool.{and_parts, and_from, leb-true, eq-eqb, eqb-true, cases_order, false≢true}
use Rattle.std.proofs.lemmas.List.{get_or-set_same, get_or-set_other, length-set, get_or_append_left, get_or-replicate, length-replicate, length-append, length-drop, drop_at}
use Rattle.balance.specs.declared.range.Range.{Range}
use Rattle.balance.specs.Ranges.{only, range, contains}
use Rattle.heat_file.specs.declared.line.Entry.{Entry}
use Rattle.heat_file.specs.declared.line.Entry.TheVariants.{Size, Coefficient, RightSide, Weight}
use Rattle.heat_file.specs.Checks.{inside}
use Rattle.heat_file.specs.Filled.{index, put_cells, put_weights, cleared, cells, certificate}
use Rattle.heat_file.specs.Laws.{range_given, weight_given}

-- the cells of at most 32 nodes
pub room_for : (n : ℕ) → n ≤ 32 → n * (n + 1) ≤ 1056
room_for n l = omega (arith, mul-le-mul_right (n + 1) l)

pub node_in : (n : ℕ) (z : ℤ) → contains (range (pos 1) (pos n)) z ≡ true → (1 ≤ nat_abs z) × (nat_abs z ≤ n)
node_in n (pos m) h = by (leb 1 m) refl h
  where
    by : (b : Bool) → leb 1 m ≡ b → cond b (leb m n) false ≡ true → (1 ≤ m) × (m ≤ n)
    by true e h = (leb-true 1 m e, leb-true m n h)
    by false e h = cc
node_in n (negsuc m) h = cc

index_row : (n i j a b : ℕ) → 1 ≤ j → j ≤ n + 1 → 1 ≤ b → 1 ≤ i → i < a → index n i j < index n a b
index_row n i j a b h k l m o =
    let g : i - 1 + 1 ≤ a - 1 = omega arith in
    omega (arith, mul-le-mul_right (n + 1) g)

index_same : (n i j a b : ℕ) → 1 ≤ i → 1 ≤ a → 1 ≤ j → j ≤ n + 1 → 1 ≤ b → b ≤ n + 1 → index n i j ≡ index n a b → (i ≡ a) × (j ≡ b)
index_same n i j a b p q r s t u e = elim (cases_order i a) [
  | inl h ↦ (h, omega (arith, ap (λ x. (x - 1) * (n + 1)) h))
  | inr g ↦ absurd (elim g [ inl h ↦ omega (arith, index_row n i j a b r s t p h) | inr h ↦ omega (arith, index_row n a b i j t u r q h) ])
]

pub index_in : (n i j : ℕ) → 1 ≤ i → i ≤ n → 1 ≤ j → j ≤ n + 1 → index n i j < n * (n + 1)
index_in n i j p q r s = let h : i - 1 + 1 ≤ n = omega arith in omega (arith, mul-le-mul_right (n + 1) h)

module _ (n i j : ℕ) (p : 1 ≤ i) (q : i ≤ n) (r : 1 ≤ j) (s : j ≤ n + 1) where
  wrote : (cs : List Range) (a b : ℕ) (x d : Range) → n * (n + 1) ≤ length cs → 1 ≤ a → a ≤ n → 1 ≤ b → b ≤ n + 1 →
      get_or (set cs (index n a b) x) (index n i j) d ≡ cond (eqb a i && eqb b j) x (get_or cs (index n i j) d)
  wrote cs a b x d l t u v w = by (eqb a i && eqb b j) refl
    where
      by : (o : Bool) → (eqb a i && eqb b j) ≡ o → get_or (set cs (index n a b) x) (index n i j) d ≡ cond o x (get_or cs (index n i j) d)
      by true e =
          let h = and_parts (eqb a i) (eqb b j) e in
          let f : a ≡ i = eqb-true a i h.0 in
          let g : b ≡ j = eqb-true b j h.1 in
          rw (f, g) (get_or-set_same cs (index n i j) x d (omega (arith, index_in n i j p q r s)))
      by false e = get_or-set_other cs (index n a b) (index n i j) x d
          (λ z. let h = index_same n i j a b p t r s v w z in false≢true (sym e ∙ and_from (eqb a i) (eqb b j) (eq-eqb a i (sym h.0)) (eq-eqb b j (sym h.1))))

  put_at : (es : List Entry) (cs : List Range) (d : Range) → n * (n + 1) ≤ length cs → AllByRecursion (λ e. inside (pos n) e ≡ true) es →
      get_or (put_cells n es cs) (index n i j) d ≡ range_given n es i j (get_or cs (index n i j) d)
  put_at [] cs d l h = refl
  put_at (Size m ∷ es) cs d l h = put_at es cs d l h.1
  put_at (Weight a u ∷ es) cs d l h = put_at es cs d l h.1
  put_at (Coefficient a b x ∷ es) cs d l h =
      let k = and_parts (contains (range (pos 1) (pos n)) a) (contains (range (pos 1) (pos n)) b) h.0 in
      let y = node_in n a k.0 in
      let z = node_in n b k.1 in
      put_at es (set cs (index n (nat_abs a) (nat_abs b)) x) d (omega (arith, length-set cs (index n (nat_abs a) (nat_abs b)) x)) h.1 ∙
      ap (range_given n es i j) (wrote cs (nat_abs a) (nat_abs b) x d l y.0 y.1 z.0 (omega (arith, z.1)))
  put_at (RightSide a x ∷ es) cs d l h =
      let y = node_in n a h.0 in
      put_at es (set cs (index n (nat_abs a) (n + 1)) x) d (omega (arith, length-set cs (index n (nat_abs a) (n + 1)) x)) h.1 ∙
      ap (range_given n es i j) (wrote cs (nat_abs a) (n + 1) x d l y.0 y.1 (omega arith) (omega arith))

  pub cells_hold : (es : List Entry) (old : List Range) → AllByRecursion (λ e. inside (pos n) e ≡ true) es → n * (n + 1) ≤ length old →
      get_or (cells n es old) (index n i j) (only (pos 0)) ≡ range_given n es i j (only (pos 0))
  cells_hold es old h l =
      let m = n * (n + 1) in
      let k = index_in n i j p q r s in
      let z = only (pos 0) in
      let e : length (replicate m z ++ drop m old) ≡ length (replicate m z) + length (drop m old) = length-append (replicate m z) (drop m old) in
      put_at es (replicate m z ++ drop m old) z (omega (arith, e, length-replicate m z)) h ∙
      ap (range_given n es i j) (get_or_append_left (replicate m z) (drop m old) z (index n i j) (omega (arith, k, length-replicate m z)) ∙ get_or-replicate m (index n i j) z z k)

module _ (n i : ℕ) (p : 1 ≤ i) (q : i ≤ n) where
  weighed : (us : List ℤ) (a : ℕ) (x d : ℤ) → n ≤ length us → 1 ≤ a → a ≤ n → get_or (set us (a - 1) x) (i - 1) d ≡ cond (eqb a i) x (get_or us (i - 1) d)
  weighed us a x d l t u = by (eqb a i) refl
    where
      by : (o : Bool) → eqb a i ≡ o → get_or (set us (a - 1) x) (i - 1) d ≡ cond o x (get_or us (i - 1) d)
      by true e =
          let f : a ≡ i = eqb-true a i e in
          rw f (get_or-set_same us (i - 1) x d (omega arith))
      by false e = get_or-set_other us (a - 1) (i - 1) x d (λ z. false≢true (sym e ∙ eq-eqb a i (omega arith)))

  weight_at : (es : List Entry) (us : List ℤ) (d : ℤ) → n ≤ length us → AllByRecursion (λ e. inside (pos n) e ≡ true) es →
      get_or (put_weights es us) (i - 1) d ≡ weight_given es i (get_or us (i - 1) d)
  weight_at [] us d l h = refl
  weight_at (Size m ∷ es) us d l h = weight_at es us d l h.1
  weight_at (Coefficient a b x ∷ es) us d l h = weight_at es us d l h.1
  weight_at (RightSide a x ∷ es) us d l h = weight_at es us d l h.1
  weight_at (Weight a u ∷ es) us d l h =
      let y = node_in n a h.0 in
      weight_at es (set us (nat_abs a - 1) u) d (omega (arith, length-set us (nat_abs a - 1) u)) h.1 ∙
      ap (weight_given es i) (weighed us (nat_abs a) u d l y.0 y.1)

  pub weights_hold : (es : List Entry) (old : List ℤ) → AllByRecursion (λ e. inside (pos n) e ≡ true) es → n ≤ length old →
      get_or (certificate n es old) (i - 1) (pos 1) ≡ weight_given es i (pos 1)
  weights_hold es old h l =
      let e : length (replicate n (pos 1) ++ drop n old) ≡ length (replicate n (pos 1)) + length (drop n old) = length-append (replicate n (pos 1)) (drop n old) in
      weight_at es (replicate n (pos 1) ++ drop n old) (pos 1) (omega (arith, e, length-replicate n (pos 1))) h ∙
      ap (weight_given es i) (get_or_append_left (replicate n (pos 1)) (drop n old) (pos 1) (i - 1) (omega (arith, length-replicate n (pos 1))) ∙ get_or-replicate n (i - 1) (pos 1) (pos 1) (omega arith))

-- ---- what is beyond the table and the nodes

drop_set : {X : Type 0} (k m : ℕ) (xs : List X) (x : X) → k < m → drop m (set xs k x) ≡ drop m xs
drop_set k zero xs x l = absurd (omega arith)
drop_set k (suc m) [] x l = refl
drop_set zero (suc m) (y ∷ ys) x l = refl
drop_set (suc k) (suc m) (y ∷ ys) x l = drop_set k m ys x (omega arith)

module _ (n : ℕ) where
  pub cells_long : (es : List Entry) (cs : List Range) → length (put_cells n es cs) ≡ length cs
  cells_long [] cs = refl
  cells_long (Size m ∷ es) cs = cells_long es cs
  cells_long (Weight a u ∷ es) cs = cells_long es cs
  cells_long (Coefficient a b x ∷ es) cs = cells_long es (set cs (index n (nat_abs a) (nat_abs b)) x) ∙ length-set cs (index n (nat_abs a) (nat_abs b)) x
  cells_long (RightSide a x ∷ es) cs = cells_long es (set cs (index n (nat_abs a) (n + 1)) x) ∙ length-set cs (index n (nat_abs a) (n + 1)) x

  pub cells_keep : (es : List Entry) (cs : List Range) → AllByRecursion (λ e. inside (pos n) e ≡ true) es → drop (n * (n + 1)) (put_cells n es cs) ≡ drop (n * (n + 1)) cs
  cells_keep [] cs h = refl
  cells_keep (Size m ∷ es) cs h = cells_keep es cs h.1
  cells_keep (Weight a u ∷ es) cs h = cells_keep es cs h.1
  cells_keep (Coefficient a b x ∷ es) cs h =
      let k = and_parts (contains (range (pos 1) (pos n)) a) (contains (range (pos 1) (pos n)) b) h.0 in
      let y = node_in n a k.0 in
      let z = node_in n b k.1 in
      cells_keep es (set cs (index n (nat_abs a) (nat_abs b)) x) h.1 ∙ drop_set (index n (nat_abs a) (nat_abs b)) (n * (n + 1)) cs x (index_in n (nat_abs a) (nat_abs b) y.0 y.1 z.0 (omega (arith, z.1)))
  cells_keep (RightSide a x ∷ es) cs h =
      let y = node_in n a h.0 in
      cells_keep es (set cs (index n (nat_abs a) (n + 1)) x) h.1 ∙ drop_set (index n (nat_abs a) (n + 1)) (n * (n + 1)) cs x (index_in n (nat_abs a) (n + 1) y.0 y.1 (omega arith) (omega arith))

  pub weights_long : (es : List Entry) (us : List ℤ) → length (put_weights es us) ≡ length us
  weights_long [] us = refl
  weights_long (Size m ∷ es) us = weights_long es us
  weights_long (Coefficient a b x ∷ es) us = weights_long es us
  weights_long (RightSide a x ∷ es) us = weights_long es us
  weights_long (Weight a u ∷ es) us = weights_long es (set us (nat_abs a - 1) u) ∙ length-set us (nat_abs a - 1) u

  pub weights_keep : (es : List Entry) (us : List ℤ) → AllByRecursion (λ e. inside (pos n) e ≡ true) es → drop n (put_weights es us) ≡ drop n us
  weights_keep [] us h = refl
  weights_keep (Size m ∷ es) us h = weights_keep es us h.1
  weights_keep (Coefficient a b x ∷ es) us h = weights_keep es us h.1
  weights_keep (RightSide a x ∷ es) us h = weights_keep es us h.1
  weights_keep (Weight a u ∷ es) us h =
      let y = node_in n a h.0 in
      weights_keep es (set us (nat_abs a - 1) u) h.1 ∙ drop_set (nat_abs a - 1) n us u (omega (arith, y.0, y.1))

pub cleared_long : {X : Type 0} (k : ℕ) (x : X) (xs : List X) → k ≤ length xs → length (cleared k x xs) ≡ length xs
cleared_long k x xs l = omega (arith, length-append (replicate k x) (drop k xs), length-replicate k x, length-drop k xs)

pub cleared_keeps : {X : Type 0} (k : ℕ) (x : X) (xs : List X) → drop k (cleared k x xs) ≡ drop k xs
cleared_keeps k x xs = drop_at (replicate k x) (drop k xs) k (length-replicate k x)
