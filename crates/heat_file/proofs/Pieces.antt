-- The pieces that a `split` at one byte has still to give.
use Rattle.std.proofs.Common.{◌≡◌, ℕ, ◌++◌, Bool, true, false, cond, eqb, List, [], ◌∷◌, length, get_or, Some, None, Option, MatchOption, MatchBool, refl, ap, ◌∙◌, subst, arith}
use denote.Param.Members.{Mut}
use denote.Ref.{Bor}
use Rattle.std.specs.Fn.{CalledAt, ComputesKey}
use Rattle.std.specs.List.{All, slice_split, onto_first, IsFirstMatchOrLen}
use Rattle.std.proofs.lemmas.Fn.{always_returns_same}
use Rattle.std.specs.Slice.Iter.{split_rest, split_done, split_callee, split_steps}
use Rattle.std.specs.declared.slice.Split.{Split}
use Rattle.std.proofs.lemmas.Bool.{eq-eqb}
use Rattle.std.proofs.lemmas.Grind.{common_steps}
use Rattle.std.proofs.lemmas.List.Splits.{slice_split_none, slice_split_at, length-slice_split}
use Rattle.heat_file.specs.Cuts.{cut, onto}

abbrev pub pieces : {F : Type 0} → ℕ → Split ℕ F → List (List ℕ)
pieces b s = cond (split_done s) [] (slice_split (λ c. eqb c b) (split_rest s))

first_part : (p : ℕ → Bool) (xs x rest : List ℕ) (done : Bool) → MatchBool done (xs ≡ x) ((y : ℕ) × (xs ≡ x ++ (y ∷ rest))) → IsFirstMatchOrLen p xs (length x) → slice_split p xs ≡ x ∷ cond done [] (slice_split p rest)
first_part p xs x rest true e h = ap (slice_split p) e ∙ slice_split_none p x (λ k d l. subst (λ ys. p (get_or ys k d) ≡ false) e (h.0 k d (omega arith) l))
first_part p xs x rest false e h =
    let front : All (λ z. p z ≡ false) x = λ k d l. let a = h.0 k d (omega arith) l in let b = e.1 in grind (arith, common_steps) in
    let hit : p e.0 ≡ true = let b = e.1 in let a = h.1 (grind (arith, common_steps)) e.0 in grind (arith, common_steps) in
    ap (slice_split p) e.1 ∙ slice_split_at p x e.0 rest front hit

-- a call of the closure tells whether an element is the byte
abbrev pub Tests : {F : Type 0} → Mut F (Bor ℕ × Unit {0}) Bool → ℕ → F → Type 0
Tests {F = F} g b f = (x : ℕ) (r : Bool) (q : F) → CalledAt g f x r q → (q ≡ f) × (r ≡ eqb x b)

pub computes : {F : Type 0} (g : Mut F (Bor ℕ × Unit {0}) Bool) (b : ℕ) (f : F) → Tests g b f → ComputesKey g (λ c. eqb c b) f
computes g b f tests = always_returns_same g (λ a r. r ≡ eqb a.0.now b) f (λ a r q k. let m = tests a.0.now r q (record { shown = a.0; shows = refl; called = k }) in (m.1, m.0))

pub no_piece : {F : Type 0} (b : ℕ) (s : Split ℕ F) → split_done s ≡ true → pieces b s ≡ []
no_piece b s d = ap (λ d. cond d [] (slice_split (λ c. eqb c b) (split_rest s))) d

module _ {F : Type 0} (g : Mut F (Bor ℕ × Unit {0}) Bool) (b : ℕ) (s t : Split ℕ F) (tests : Tests g b (split_callee s)) where
  -- a call of `next` takes off the first piece, where there is one
  pub next_piece : (r : Option (Bor (List ℕ))) → split_steps g s r t → MatchOption r (pieces b s ≡ []) (λ x. pieces b s ≡ x.now ∷ pieces b t)
  next_piece None k = no_piece b s k.0
  next_piece (Some x) k =
      ap (λ d. cond d [] (slice_split (λ c. eqb c b) (split_rest s))) k.0 ∙
      first_part (λ c. eqb c b) (split_rest s) x.now (split_rest t) (split_done t) k.1 (k.2 (λ c. eqb c b) (computes g b (split_callee s) tests)).1

-- the pieces of a text between bytes are those that the bytes and one more end
split_is_cut : (b : ℕ) (bs : List ℕ) → slice_split (λ c. eqb c b) bs ≡ cut b (bs ++ (b ∷ []))
split_is_cut b [] = rw (eq-eqb b b refl)
split_is_cut b (c ∷ cs) = by (eqb c b) (cut b (cs ++ (b ∷ []))) (split_is_cut b cs)
  where
    by : (t : Bool) (ps : List (List ℕ)) → slice_split (λ c. eqb c b) cs ≡ ps → cond t ([] ∷ slice_split (λ c. eqb c b) cs) (onto_first c (slice_split (λ c. eqb c b) cs)) ≡ cond t ([] ∷ ps) (onto c ps)
    by true ps e = ap (λ ps. [] ∷ ps) e
    by false [] e = absurd (omega (arith, length-slice_split (λ c. eqb c b) cs, ap length e))
    by false (p ∷ ps) e = ap (onto_first c) e

pub first_pieces : {F : Type 0} (s : Split ℕ F) (b : ℕ) (bs : List ℕ) → split_rest s ≡ bs → split_done s ≡ false → pieces b s ≡ cut b (bs ++ (b ∷ []))
first_pieces s b bs e d = ap (λ d. cond d [] (slice_split (λ c. eqb c b) (split_rest s))) d ∙ ap (slice_split (λ c. eqb c b)) e ∙ split_is_cut b bs
