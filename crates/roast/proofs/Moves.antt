-- Every run of calls is a chain of moves: a row step, or a reading that is accepted.
use Rattle.std.proofs.Common.{◌≡◌, ℕ, zero, suc, ◌-◌, ◌^◌, ◌≤◌, Bool, true, false, cond, if◌then◌else◌, eqb, leb, ◌⊎◌, List, [], ◌∷◌, ◌++◌, length, set, ℤ, Some, None, Ok, Err, Option, Result, is_ok, int_le, sym, refl, ◌∙◌, subst, inl, inr, ⊎_elim, arith}
use borrow.Author.Differences.{ints}
use Rattle.std.proofs.lemmas.Bool.{leb-true}
use Rattle.std.proofs.lemmas.List.{length-set, get_or-set_same}
use Rattle.balance.specs.declared.range.Range.{Range}
use Rattle.balance.specs.declared.refusal.Refusal.{Refusal}
use Rattle.balance.specs.declared.refusal.Refusal.TheVariants.{Node, Crossed}
use Rattle.balance.specs.Ranges.{range, AllBetween, ◌⊆◌}
use Rattle.balance.specs.Meanings.{is_node}
use Rattle.balance.proofs.Refusals.{number-eqb}
use Rattle.balance.proofs.Searches.{is_a_node}
use Rattle.roast.specs.declared.call.Reading.{Reading}
use Rattle.roast.specs.Rounding.{shared}
use Rattle.roast.specs.Narrowing.{Box, at, HasNode, Contractor}
use Rattle.roast.specs.Machine.{Transition, step_to, row_step, then_step, row_steps, all_or_none, round, reading, readings, mark, Ask, ask_row_step, ask_round, ask_reading, ask_readings, ask_rest, ask_ends, outcome, after}
use Rattle.roast.specs.Runs.{Bound, accepted_if, accepted_records, accepted_one, accepted, Among, here, there}
use Rattle.roast.proofs.Quotients.{shared_is}
use Rattle.roast.proofs.Boxes.{nothing, ◌⊑◌, Tidy, Shrinks, ⊆-trans, ⊑_refl, ⊑_trans, set_tidy, set_below}

-- from one box to another, with the readings accepted on the way
pub data Move (f : Contractor) : Box → Box → List Bound → Type 0 where
  stays : {B : Box} → Move f B B []
  row : {B : Box} {i : ℕ} {r : Range} → HasNode B i → f B i ≡ Some r → Move f B (set B (i - 1) r) []
  read : {B : Box} {i : ℕ} {s r : Range} → HasNode B i → shared (at B i) s ≡ Some r → Move f B (set B (i - 1) r) (record { node = i; span = s } ∷ [])
  joined : {B C D : Box} {bs ds : List Bound} → Move f B C bs → Move f C D ds → Move f B D (bs ++ ds)

pub move_long : {f : Contractor} {B C : Box} {bs : List Bound} → Move f B C bs → length C ≡ length B
move_long stays = refl
move_long (row {B = B} {i = i} {r = r} n e) = length-set B (i - 1) r
move_long (read {B = B} {i = i} {r = r} n e) = length-set B (i - 1) r
move_long (joined h k) = move_long k ∙ move_long h

-- ---- every call is a move

pub has_node : (B : Box) (i : ℕ) → is_node (length B) i ≡ true → HasNode B i
has_node B i e = by (leb 1 i) (leb i (length B)) refl refl e
  where
    by : (t u : Bool) → leb 1 i ≡ t → leb i (length B) ≡ u → cond t u false ≡ true → HasNode B i
    by true true p q e = (leb-true 1 i p, leb-true i (length B) q)
    by true false p q e = cc
    by false u p q e = cc

-- the row step of a node that is there
pub row_step_at : (f : Contractor) (B : Box) (i : ℕ) → HasNode B i → row_step f B i ≡ step_to B i (f B i)
row_step_at f B i n = let t = is_a_node (length B) i n.0 n.1 in rw t refl

pub row_step_moves : (f : Contractor) (B : Box) (i : ℕ) → Move f B (row_step f B i).1 []
row_step_moves f B i = by (is_node (length B) i) refl (f B i) refl
  where
    by : (t : Bool) → is_node (length B) i ≡ t → (o : Option Range) → f B i ≡ o → let x : Transition Bool = if t then step_to B i o else (Err (Node i), B) in Move f B x.1 []
    by true e (Some r) h = row (has_node B i e) h
    by true e None h = stays
    by false e o h = stays

pub row_steps_move : (f : Contractor) (B : Box) (k : ℕ) → Move f B (row_steps f B k).1 []
row_steps_move f B zero = stays
row_steps_move f B (suc k) = next (row_steps f B k).0 (row_steps f B k).1 (row_steps_move f B k)
  where
    next : (a : Result ℕ Refusal) (C : Box) → Move f B C [] → Move f B (then_step f (suc k) a C).1 []
    next (Ok n) C h = joined h (row_step_moves f C (suc k))
    next (Err e) C h = h

pub round_moves : (f : Contractor) (B : Box) → Move f B (round f B).1 []
round_moves f B = by (row_steps f B (length B)).0 (row_steps f B (length B)).1 (row_steps_move f B (length B))
  where
    by : (a : Result ℕ Refusal) (C : Box) → Move f B C [] → Move f B (all_or_none B a C).1 []
    by (Ok n) C h = h
    by (Err e) C h = stays

pub reading_moves : (f : Contractor) (B : Box) (i : ℕ) (l u : ℤ) → Move f B (reading B i l u).1 (accepted_if (is_ok (reading B i l u).0) i l u)
reading_moves f B i l u = by (is_node (length B) i) refl (int_le l u) (shared (at B i) (range l u)) refl
  where
    by : (t : Bool) → is_node (length B) i ≡ t → (v : Bool) (o : Option Range) → shared (at B i) (range l u) ≡ o → let x : Transition Bool = if t then if v then step_to B i o else (Err (Crossed i), B) else (Err (Node i), B) in Move f B x.1 (accepted_if (is_ok x.0) i l u)
    by true e true (Some r) h = read (has_node B i e) h
    by true e true None h = stays
    by true e false o h = stays
    by false e v o h = stays

-- a record is marked 0 exactly if its reading is accepted
mark_ok : (r : Result Bool Refusal) → eqb (mark r) 0 ≡ is_ok r
mark_ok (Ok changed) = refl
mark_ok (Err e) = number-eqb e

pub readings_move : (f : Contractor) (B : Box) (rs : List Reading) → Move f B (readings B rs).1 (accepted_records (readings B rs).0)
readings_move f B [] = stays
readings_move f B (r ∷ rs) =
    let t = reading B r.node r.lower r.upper in
    joined (subst (λ a. Move f B t.1 (accepted_if a r.node r.lower r.upper)) (sym (mark_ok t.0)) (reading_moves f B r.node r.lower r.upper)) (readings_move f t.1 rs)

pub call_moves : (f : Contractor) (B : Box) (c : Ask) → Move f B (outcome f B c).box (accepted_one f B c)
call_moves f B (ask_row_step i) = row_step_moves f B i
call_moves f B ask_round = round_moves f B
call_moves f B (ask_reading i l u) = reading_moves f B i l u
call_moves f B (ask_readings rs) = readings_move f B rs
call_moves f B ask_rest = stays
call_moves f B (ask_ends i) = stays

pub run_moves : (f : Contractor) (B : Box) (cs : List Ask) → Move f B (after f B cs) (accepted f B cs)
run_moves f B [] = stays
run_moves f B (c ∷ cs) = joined (call_moves f B c) (run_moves f (outcome f B c).box cs)

-- ---- what a chain of moves keeps

pub among_left : {b : Bound} {bs : List Bound} (ds : List Bound) → Among b bs → Among b (bs ++ ds)
among_left ds here = here
among_left ds (there h) = there (among_left ds h)

pub among_right : {b : Bound} (bs : List Bound) {ds : List Bound} → Among b ds → Among b (bs ++ ds)
among_right [] h = h
among_right (a ∷ bs) h = there (among_right bs h)

among_split : {b : Bound} (bs ds : List Bound) → Among b (bs ++ ds) → Among b bs ⊎ Among b ds
among_split [] ds h = inr h
among_split (a ∷ bs) ds here = inl here
among_split (a ∷ bs) ds (there h) = ⊎_elim (λ k. inl (there k)) inr (among_split bs ds h)

-- boxes shrink, and stay in order
pub move_shrinks : {f : Contractor} {B C : Box} {bs : List Bound} → Shrinks f → Tidy B → Move f B C bs → (C ⊑ B) × Tidy C
move_shrinks {f} {B} law t stays = (⊑_refl B, t)
move_shrinks law t (row {B = B} {i = i} {r = r} n e) = let s = law B i r e in (set_below B (i - 1) r s.1, set_tidy B (i - 1) r t s.0)
move_shrinks law t (read {B = B} {i = i} {s = a} {r = r} n e) = let s = shared_is (at B i) a r e in (set_below B (i - 1) r s.left, set_tidy B (i - 1) r t s.ordered)
move_shrinks law t (joined h k) = let x = move_shrinks law t h in let y = move_shrinks law x.1 k in (⊑_trans y.0 x.0, y.1)

-- so a box that a move leads to keeps the number of nodes, and the limits
pub move_keeps : {f : Contractor} {B C D : Box} {bs : List Bound} → Shrinks f → length B ≤ 32 → AllBetween (2 ^ 30) B → Move f B C bs → D ≡ C → (length D ≡ length B) × (length D ≤ 32) × AllBetween (2 ^ 30) D
move_keeps {B = B} law few narrow h e = subst (λ X. (length X ≡ length B) × (length X ≤ 32) × AllBetween (2 ^ 30) X) (sym e)
    (let s = move_shrinks law (λ j. (narrow j).1) h in
    (move_long h, omega (arith, few, move_long h), λ k. omega (arith, ints, narrow k, s.0.each k, s.1 k)))

-- and lie in every accepted reading
abbrev pub Meets : Box → List Bound → Type 0
Meets X bs = (b : Bound) → Among b bs → at X b.node ⊆ b.span

alone : {b a : Bound} → Among b (a ∷ []) → a ≡ b
alone here = refl
alone (there h) = elim h [ ]

pub move_meets : {f : Contractor} {B C : Box} {bs : List Bound} → Shrinks f → Tidy B → Move f B C bs → Meets C bs
move_meets law t stays b h = elim h [ ]
move_meets law t (row n e) b h = elim h [ ]
move_meets law t (read {B = B} {i = i} {s = a} {r = r} n e) b h = subst (λ x. at (set B (i - 1) r) x.node ⊆ x.span) (alone h) (subst (λ x. x ⊆ a) (sym (get_or-set_same B (i - 1) r nothing (omega arith))) (shared_is (at B i) a r e).right)
move_meets law t (joined {C = C} {bs = bs} {ds = ds} h k) b a = let x = move_shrinks law t h in ⊎_elim (λ l. ⊆-trans ((move_shrinks law x.1 k).0.each (b.node - 1)) (move_meets law t h b l)) (λ r. move_meets law x.1 k b r) (among_split bs ds a)
