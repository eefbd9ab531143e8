-- The lists that code reads into, copied.
use Rattle.std.proofs.Common.{◌≡◌, ℕ, ◌+◌, ◌-◌, ◌*◌, ◌<◌, ◌≤◌, true, false, ◌⊎◌, inl, inr, List, [], ◌∷◌, ◌++◌, length, take, set, drop, replicate, ℤ, pos, nat_abs, Ok, Err, Result, MatchResult, sym, refl, ap, ◌∙◌, arith}
use Rattle.std.specs.List.{AllByRecursion}
use Rattle.std.proofs.lemmas.Bool.{and_parts, le-leb, lt-leb}
use Rattle.std.proofs.lemmas.List.{set-append_left, length-set, length-replicate, replicate-append-replicate, take_at}
use Rattle.balance.specs.declared.range.Range.{Range}
use Rattle.balance.specs.declared.refusal.Refusal.{Refusal}
use Rattle.balance.specs.declared.refusal.Refusal.TheVariants.{Room}
use Rattle.balance.specs.Ranges.{only, range, contains}
use Rattle.heat_file.specs.declared.line.Entry.{Entry}
use Rattle.heat_file.specs.declared.line.Entry.TheVariants.{Size, Coefficient, RightSide, Weight}
use Rattle.heat_file.specs.Checks.{inside, told}
use Rattle.heat_file.specs.Filled.{index, put_cells, put_weights, cells_after, certificate_after, has_room, answer, Puts}
use Rattle.heat_file.proofs.Placing.{room_for, node_in, index_in, cells_long, weights_long}

-- entries put into the front of a list leave what is behind it
put_front : (n : ℕ) (es : List Entry) (cs ds : List Range) → n * (n + 1) ≤ length cs → AllByRecursion (λ e. inside (pos n) e ≡ true) es → put_cells n es (cs ++ ds) ≡ put_cells n es cs ++ ds
put_front n [] cs ds l h = refl
put_front n (Size m ∷ es) cs ds l h = put_front n es cs ds l h.1
put_front n (Weight a u ∷ es) cs ds l h = put_front n es cs ds l h.1
put_front n (Coefficient a b x ∷ es) cs ds l h =
    let k = and_parts (contains (range (pos 1) (pos n)) a) (contains (range (pos 1) (pos n)) b) h.0 in
    let y = node_in n a k.0 in
    let z = node_in n b k.1 in
    let i = index n (nat_abs a) (nat_abs b) in
    ap (put_cells n es) (set-append_left cs ds i x (omega (arith, l, index_in n (nat_abs a) (nat_abs b) y.0 y.1 z.0 (omega (arith, z.1))))) ∙
    put_front n es (set cs i x) ds (omega (arith, l, length-set cs i x)) h.1
put_front n (RightSide a x ∷ es) cs ds l h =
    let y = node_in n a h.0 in
    let i = index n (nat_abs a) (n + 1) in
    ap (put_cells n es) (set-append_left cs ds i x (omega (arith, l, index_in n (nat_abs a) (n + 1) y.0 y.1 (omega arith) (omega arith)))) ∙
    put_front n es (set cs i x) ds (omega (arith, l, length-set cs i x)) h.1

put_weights_front : (n : ℕ) (es : List Entry) (us vs : List ℤ) → n ≤ length us → AllByRecursion (λ e. inside (pos n) e ≡ true) es → put_weights es (us ++ vs) ≡ put_weights es us ++ vs
put_weights_front n [] us vs l h = refl
put_weights_front n (Size m ∷ es) us vs l h = put_weights_front n es us vs l h.1
put_weights_front n (Coefficient a b x ∷ es) us vs l h = put_weights_front n es us vs l h.1
put_weights_front n (RightSide a x ∷ es) us vs l h = put_weights_front n es us vs l h.1
put_weights_front n (Weight a u ∷ es) us vs l h =
    let y = node_in n a h.0 in
    let i = nat_abs a - 1 in
    ap (put_weights es) (set-append_left us vs i u (omega (arith, l, y.0, y.1))) ∙ put_weights_front n es (set us i u) vs (omega (arith, l, length-set us i u)) h.1

replicate_parts : {X : Type 0} (m k : ℕ) (x : X) → m ≤ k → replicate k x ≡ replicate m x ++ replicate (k - m) x
replicate_parts m k x l = ap (λ k. replicate k x) (let e : k ≡ m + (k - m) = omega arith in e) ∙ sym (replicate-append-replicate m (k - m) x)

module _ (a : Result (List Entry) Refusal) (n : ℕ) (cs' : List Range) (us' : List ℤ) (h : Puts a n (replicate 1056 (only (pos 0))) (replicate 32 (pos 1)) cs' us') where
  pub answered : (cell_count weight_count : ℕ) → n * (n + 1) ≤ cell_count → n ≤ weight_count → Ok n ≡ answer a cell_count weight_count
  answered c u l m = sym (ap (λ a. answer a c u) h.accepted ∙ rw (h.counts, le-leb (n * (n + 1)) c l, le-leb n u m) refl)

  pub without_room : (cell_count weight_count : ℕ) → (cell_count < n * (n + 1)) ⊎ ((n * (n + 1) ≤ cell_count) × (weight_count < n)) → Err Room ≡ answer a cell_count weight_count
  without_room c u e = sym (ap (λ a. answer a c u) h.accepted ∙ rw (h.counts, by e) refl)
    where
      by : (c < n * (n + 1)) ⊎ ((n * (n + 1) ≤ c) × (u < n)) → has_room n c u ≡ false
      by (inl l) = rw (lt-leb (n * (n + 1)) c l) refl
      by (inr l) = rw (le-leb (n * (n + 1)) c l.0, lt-leb n u l.1) refl

  pub cells_copied : (old copied : List Range) → copied ≡ take (n * (n + 1)) cs' → copied ++ drop (n * (n + 1)) old ≡ cells_after (Ok n) a old
  cells_copied old copied q =
      let m = n * (n + 1) in
      let z = only (pos 0) in
      let l : length (replicate m z) ≡ m = length-replicate m z in
      let f = put_front n h.entries (replicate m z) in
      let e : cs' ≡ put_cells n h.entries (replicate m z) ++ replicate (1056 - m) z = h.puts_cells ∙ ap (put_cells n h.entries) (replicate_parts m 1056 z (room_for n h.few)) ∙ f (replicate (1056 - m) z) (omega (arith, l)) h.nodes in
      let g : copied ≡ put_cells n h.entries (replicate m z) = q ∙ ap (take m) e ∙ take_at (put_cells n h.entries (replicate m z)) (replicate (1056 - m) z) m (cells_long n h.entries (replicate m z) ∙ l) in
      ap (λ cs. cs ++ drop m old) g ∙ sym (f (drop m old) (omega (arith, l)) h.nodes) ∙ ap (λ a. cells_after (Ok n) a old) (sym h.accepted)

  pub weights_copied : (old copied : List ℤ) → copied ≡ take n us' → copied ++ drop n old ≡ certificate_after (Ok n) a old
  weights_copied old copied q =
      let o = pos 1 in
      let l : length (replicate n o) ≡ n = length-replicate n o in
      let f = put_weights_front n h.entries (replicate n o) in
      let e : us' ≡ put_weights h.entries (replicate n o) ++ replicate (32 - n) o = h.puts_weights ∙ ap (put_weights h.entries) (replicate_parts n 32 o h.few) ∙ f (replicate (32 - n) o) (omega (arith, l)) h.nodes in
      let g : copied ≡ put_weights h.entries (replicate n o) = q ∙ ap (take n) e ∙ take_at (put_weights h.entries (replicate n o)) (replicate (32 - n) o) n (weights_long n h.entries (replicate n o) ∙ l) in
      ap (λ us. us ++ drop n old) g ∙ sym (f (drop n old) (omega (arith, l)) h.nodes) ∙ ap (λ a. certificate_after (Ok n) a old) (sym h.accepted)

pub told_by : (a : Result (List Entry) Refusal) (cs cs' : List Range) (us us' : List ℤ) (r : Result ℕ Refusal) → MatchResult r (λ n. Puts a n cs us cs' us') (λ x. a ≡ Err x) → r ≡ told (pos 0) a
told_by a cs cs' us us' (Ok n) h = sym (ap (told (pos 0)) h.accepted ∙ ap (λ n. Ok n) h.counts)
told_by a cs cs' us us' (Err x) h = sym (ap (told (pos 0)) h)
