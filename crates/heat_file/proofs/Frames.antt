-- A file is read by its frame: remarks, lines and the trailer that fits them.
use Rattle.std.proofs.Common.{◌≡◌, ℕ, ◌+◌, ◌≤◌, Bool, true, false, cond, ◌&&◌, eqb, leb, List, [], ◌∷◌, ◌++◌, length, take, drop, Some, None, Option, Err, sym, refl, ap, ◌∙◌, subst, append_assoc, arith}
use Rattle.std.proofs.lemmas.Bool.{eq-eqb, eqb-true, leb-true, le-leb, and_parts}
use Rattle.std.proofs.lemmas.List.{take-append-drop, length-take-le, length-append, take_at, drop_at, length-drop}
use Rattle.balance.specs.declared.refusal.Refusal.TheVariants.{File}
use Rattle.heat_file.specs.Cuts.{cut, ended, closed}
use Rattle.heat_file.specs.Lines.{option}
use Rattle.heat_file.specs.Checks.{check}
use Rattle.heat_file.specs.Files.{trailer, last, ending, front, data_from, located, read, Parts, Framed}
use Rattle.heat_file.proofs.Cutting.{cut_all, cut_free, ended_cut, closed_ended, closed_append, closed_rest}
use Rattle.heat_file.proofs.Trailers.{ending_gives, ending_trailer, trailer_free, ended_long, ended_append, parts_of, located_by}

-- the data lines lie at a place of the file, and are whole lines behind its remarks
pub record Found (bs : List ℕ) (p : ℕ) (d : List ℕ) : Type 0 where
  pub remarks : List ℕ
  pub place : length remarks ≡ p
  pub whole : closed 10 d ≡ true
  pub inner : p + length d ≤ 65535
  pub framed : Framed bs remarks (cut 10 d)

data_gives : (f : List ℕ) (p k : ℕ) (d : List ℕ) → data_from f p k ≡ Some d → (p ≤ length f) × (closed 10 (take p f) ≡ true) × (length (cut 10 (drop p f)) ≡ k) × (d ≡ drop p f)
data_gives f p k d q = by (leb p (length f) && (closed 10 (take p f) && eqb (length (cut 10 (drop p f))) k)) refl q
  where
    by : (b : Bool) → (leb p (length f) && (closed 10 (take p f) && eqb (length (cut 10 (drop p f))) k)) ≡ b → cond b (Some (drop p f)) None ≡ Some d →
        (p ≤ length f) × (closed 10 (take p f) ≡ true) × (length (cut 10 (drop p f)) ≡ k) × (d ≡ drop p f)
    by true e q =
        let z : drop p f ≡ d = cc in
        let x = and_parts _ _ e in
        let y = and_parts _ _ x.1 in
        (leb-true _ _ x.0, y.0, eqb-true _ _ y.1, sym z)
    by false e q = cc

module _ (bs before line : List ℕ) (h : Parts bs before line) (short : length bs ≤ 65535) where
  framed_by : (p k : ℕ) (d : List ℕ) → ending line ≡ Some (p, k) → data_from before p k ≡ Some d → Found bs p d
  framed_by p k d e q =
      let g = data_gives before p k d q in
      let r = take p before in
      let u = drop p before in
      let lr : length r ≡ p = length-take-le p before g.0 in
      let joined : r ++ u ≡ before = take-append-drop p before in
      let w : closed 10 u ≡ true = closed_rest 10 r u (subst (λ x. closed 10 x ≡ true) (sym joined) h.whole) in
      let t : line ≡ trailer (length r) (length (cut 10 u)) = ending_gives line (p, k) e ∙ (λ i. trailer (sym lr i) (sym g.2 i)) in
      let ls = cut 10 u in
      let eu : ended 10 (ls ++ (line ∷ [])) ≡ u ++ (line ++ (10 ∷ [])) = ended_append 10 ls (line ∷ []) ∙ ap (λ x. x ++ (line ++ (10 ∷ []))) (ended_cut 10 u w) in
      let b : bs ≡ r ++ ended 10 (ls ++ (line ∷ [])) = h.bytes ∙ ap (λ x. x ++ (line ++ (10 ∷ []))) (sym joined) ∙ append_assoc r u (line ++ (10 ∷ [])) ∙ ap (λ x. r ++ x) (sym eu) in
      let lb : length bs ≡ length before + length (line ++ (10 ∷ [])) = ap length h.bytes ∙ length-append before (line ++ (10 ∷ [])) in
      subst (λ d. Found bs p d) (sym g.3) (record {
        remarks = r;
        place = lr;
        whole = w;
        inner = omega (arith, lb, length-drop p before, g.0);
        framed = record { bytes = b ∙ ap (λ t. r ++ ended 10 (ls ++ (t ∷ []))) t; whole = g.1; free = cut_free 10 u; short = short };
      })

  found_by : (p : ℕ) (d : List ℕ) → option {Y = Option (ℕ × List ℕ)} (ending line) None (λ t. option {Y = Option (ℕ × List ℕ)} (data_from before t.0 t.1) None (λ d. Some (t.0, d))) ≡ Some (p, d) → Found bs p d
  found_by p d q = by (ending line) refl q
    where
      on : (t : ℕ × ℕ) → ending line ≡ Some t → (o : Option (List ℕ)) → data_from before t.0 t.1 ≡ o → option {Y = Option (ℕ × List ℕ)} o None (λ d. Some (t.0, d)) ≡ Some (p, d) → Found bs p d
      on t e None f q = cc
      on t e (Some x) f q =
          let z : ◌≡◌ {A = ℕ × List ℕ} (t.0, x) (p, d) = cc in
          subst (λ (m : ℕ × List ℕ). Found bs m.0 m.1) z (framed_by t.0 t.1 x e f)

      by : (o : Option (ℕ × ℕ)) → ending line ≡ o → option {Y = Option (ℕ × List ℕ)} o None (λ t. option {Y = Option (ℕ × List ℕ)} (data_from before t.0 t.1) None (λ d. Some (t.0, d))) ≡ Some (p, d) → Found bs p d
      by None e q = cc
      by (Some t) e q = on t e (data_from before t.0 t.1) refl q

pub located_gives : (bs : List ℕ) (p : ℕ) (d : List ℕ) → located bs ≡ Some (p, d) → Found bs p d
located_gives [] p d q = cc
located_gives (c ∷ cs) p d q = by (leb (length (c ∷ cs)) 65535 && closed 10 (c ∷ cs)) refl q
  where
    bs : List ℕ
    bs = c ∷ cs

    by : (b : Bool) → (leb (length bs) 65535 && closed 10 bs) ≡ b →
        cond b (option {Y = Option (ℕ × List ℕ)} (ending (last (cut 10 bs))) None (λ t. option {Y = Option (ℕ × List ℕ)} (data_from (front bs) t.0 t.1) None (λ d. Some (t.0, d)))) None ≡ Some (p, d) → Found bs p d
    by true e q =
        let x = and_parts _ _ e in
        found_by bs (front bs) (last (cut 10 bs)) (parts_of bs x.1 (omega arith)) (leb-true _ _ x.0) p d q
    by false e q = cc

module _ (bs r : List ℕ) (ls : List (List ℕ)) (h : Framed bs r ls) where
  abbrev p : ℕ
  p = length r

  abbrev k : ℕ
  k = length ls

  abbrev before : List ℕ
  before = r ++ ended 10 ls

  bytes : bs ≡ before ++ (trailer p k ++ (10 ∷ []))
  bytes = h.bytes ∙ ap (λ x. r ++ x) (ended_append 10 ls (trailer p k ∷ [])) ∙ sym (append_assoc r (ended 10 ls) (trailer p k ++ (10 ∷ [])))

  long : p + k ≤ 65535
  long = omega (arith, h.short, ap length bytes, length-append before (trailer p k ++ (10 ∷ [])), length-append r (ended 10 ls), ended_long 10 ls)

  data_is : data_from before p k ≡ Some (ended 10 ls)
  data_is =
      let c : cut 10 (ended 10 ls) ≡ ls = cut_all 10 ls h.free in
      rw (le-leb p (length before) (omega (arith, length-append r (ended 10 ls))), take_at r (ended 10 ls) p refl, h.whole, drop_at r (ended 10 ls) p refl, c, eq-eqb k k refl) refl

  pub framed_located : located bs ≡ Some (p, ended 10 ls)
  framed_located =
      let l = long in
      let t : Parts bs before (trailer p k) = record { bytes = bytes; whole = closed_append 10 r (ended 10 ls) h.whole (closed_ended 10 ls); free = trailer_free p k (omega arith) (omega arith) } in
      located_by bs before (trailer p k) t h.short ∙ rw (ending_trailer p k (omega arith) (omega arith), data_is) refl

  pub framed_read : read bs ≡ check p ls
  framed_read = ap (λ o. option o (Err File) (λ d. check d.0 (cut 10 d.1))) framed_located ∙ ap (check p) (cut_all 10 ls h.free)
