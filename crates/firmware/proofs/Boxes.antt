-- A box that lies in the first box stands for itself.
use Rattle.std.proofs.Common.{◌≡◌, ℕ, suc, ◌-◌, true, not, List, [], ◌∷◌, ◌++◌, length, get_or, set, ℤ, Some, Ok, int_le, refl, sym, ap, ap₂, ◌∙◌, subst, arith}
use Rattle.std.proofs.Math.Seq.{set-append_seam, get_or-append_seam}
use Rattle.std.proofs.lemmas.List.{append_assoc, length-append}
use Rattle.std.proofs.lemmas.Bool.{le-leb}
use Rattle.std.proofs.lemmas.Int.{clamps}
use borrow.Author.Differences.{ints}
use Rattle.std.specs.Int.{int_min, int_max}
use Rattle.balance.specs.declared.range.Range.{Range}
use Rattle.balance.specs.Ranges.{Ordered, ◌⊆◌}
use Rattle.balance.specs.Meanings.{Meaning, is_node}
use Rattle.roast.specs.Certificates.{first_box, opening}
use Rattle.roast.specs.Rounding.{shared}
use Rattle.roast.specs.Narrowing.{Box, at, narrowed}
use Rattle.roast.specs.Machine.{same_range, reading}
use Rattle.roast.specs.Runs.{Bound}
use Rattle.roast.proofs.Boxes.{nothing, ◌⊑◌, Tidy}
use Rattle.roast.proofs.Moves.{run_moves}
use Rattle.roast.proofs.Openings.{opens_so}
use Rattle.roast.proofs.Sits.{Sits, sits_moved}
use Rattle.heat_file.specs.Checks.{and_then}
use Rattle.firmware.specs.Drums.{read_from}
use Rattle.firmware.proofs.Taken.{read_first}
use Rattle.firmware.proofs.Leads.{Leads}

-- ---- readings that lie in a box

shared_inside : (a r : Range) → r ⊆ a → Ordered r → shared a r ≡ Some r
shared_inside a r h o =
    let p : int_max a.lower r.lower ≡ r.lower = omega (arith, ints, clamps) in
    let q : int_min a.upper r.upper ≡ r.upper = omega (arith, ints, clamps) in
    let t : int_le r.lower r.upper ≡ true = grind (arith, ints) in
    rw (p, q, t) refl

read_inside : (B : Box) (i : ℕ) (r : Range) → is_node (length B) i ≡ true → r ⊆ at B i → Ordered r → (Ok (not (same_range (at B i) r)), set B (i - 1) r) ≡ reading B i r.lower r.upper
read_inside B i r node h o =
    let e = shared_inside (at B i) r h o in
    let c : int_le r.lower r.upper ≡ true = grind (arith, ints) in
    rw (node, c, e) refl

-- the node between those before it and those behind it
seam_node : (pre suf : Box) (s : Range) → is_node (length (pre ++ s ∷ suf)) (suc (length pre)) ≡ true
seam_node pre suf s =
    let l = length-append pre (s ∷ suf) in
    rw (le-leb 1 (suc (length pre)) (omega arith), le-leb (suc (length pre)) (length (pre ++ s ∷ suf)) (omega (arith, l))) refl

read_seam : (pre suf : Box) (s r : Range) → r ⊆ s → Ordered r → (Ok (not (same_range s r)), pre ++ r ∷ suf) ≡ reading (pre ++ s ∷ suf) (suc (length pre)) r.lower r.upper
read_seam pre suf s r h o =
    let before : suc (length pre) - 1 ≡ length pre = omega arith in
    let there : at (pre ++ s ∷ suf) (suc (length pre)) ≡ s = ap (λ k. get_or (pre ++ s ∷ suf) k nothing) before ∙ get_or-append_seam pre s suf nothing in
    let put : set (pre ++ s ∷ suf) (suc (length pre) - 1) r ≡ pre ++ r ∷ suf = ap (λ k. set (pre ++ s ∷ suf) k r) before ∙ set-append_seam pre s suf r in
    sym (ap₂ (λ (B : Box) (a : Range). (Ok (not (same_range a r)), B)) put there) ∙ read_inside (pre ++ s ∷ suf) (suc (length pre)) r (seam_node pre suf s) (subst (λ a. r ⊆ a) (sym there) h) o

-- ranges behind the first ones are taken over one by one
taken_over : (pre suf rs : Box) → rs ⊑ suf → Tidy rs → read_from (pre ++ suf) (suc (length pre)) rs ≡ Ok (pre ++ rs)
unfolding read_from
taken_over pre [] [] h t = refl
taken_over pre [] (r ∷ rs) h t = absurd (omega (arith, h.long))
taken_over pre (s ∷ suf) [] h t = absurd (omega (arith, h.long))
taken_over pre (s ∷ suf) (r ∷ rs) h t =
    let next = taken_over (pre ++ r ∷ []) suf rs (record { long = omega (arith, h.long); each = λ k. h.each (suc k) }) (λ k. t (suc k)) in
    let one : length (pre ++ r ∷ []) ≡ suc (length pre) = omega (arith, length-append pre (r ∷ [])) in
    let front : (pre ++ r ∷ []) ++ suf ≡ pre ++ r ∷ suf = append_assoc pre (r ∷ []) suf in
    let last : (pre ++ r ∷ []) ++ rs ≡ pre ++ r ∷ rs = append_assoc pre (r ∷ []) rs in
    read_first (pre ++ s ∷ suf) (pre ++ r ∷ suf) (Ok (not (same_range s r))) (suc (length pre)) r rs (read_seam pre suf s r (h.each 0) (t 0))
    ∙ subst (λ B. read_from B (suc (suc (length pre))) rs ≡ Ok (pre ++ r ∷ rs)) front (subst (λ n. read_from ((pre ++ r ∷ []) ++ suf) (suc n) rs ≡ Ok (pre ++ r ∷ rs)) one (subst (λ B. read_from ((pre ++ r ∷ []) ++ suf) (suc (length (pre ++ r ∷ []))) rs ≡ Ok B) last next))

-- ---- boxes that calls leave

module _ (m : Meaning) (us : List ℤ) where
  pub sits_led : (bs : List Bound) (B C : Box) → Leads (narrowed m) bs B C → Sits m us B → Sits m us C
  sits_led bs B C l s = subst (Sits m us) (sym l.left) (sits_moved m us (run_moves (narrowed m) B l.asks) s)

  pub again : (B : Box) → Sits m us B → and_then (opening m us) (λ box. read_from box 1 B) ≡ Ok B
  again B s = rw (opens_so m us s.opens) (taken_over [] (first_box m us) B s.below s.tidy)
