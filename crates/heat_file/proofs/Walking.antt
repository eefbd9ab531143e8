-- The steps by which code goes from line to line and puts what they say into cells and certificate.
use Rattle.std.proofs.Common.{◌≡◌, ℕ, ◌+◌, ◌≤◌, true, List, [], ◌∷◌, length, set, ℤ, pos, nat_abs, Some, None, Ok, Err, Result, sym, refl, ap, ◌∙◌, subst, arith}
use Rattle.std.proofs.lemmas.List.{length-append}
use Rattle.balance.specs.declared.range.Range.{Range}
use Rattle.balance.specs.declared.refusal.Refusal.{Refusal}
use Rattle.balance.specs.declared.refusal.Refusal.TheVariants.{Shape}
use Rattle.heat_file.specs.declared.line.Entry.{Entry}
use Rattle.heat_file.specs.declared.line.Entry.TheVariants.{Size, Coefficient, RightSide, Weight}
use Rattle.heat_file.specs.declared.check.Standing.{Standing}
use Rattle.heat_file.specs.Cuts.{cut, ended, closed}
use Rattle.heat_file.specs.Lines.{parse_line}
use Rattle.heat_file.specs.Checks.{Few, key, start, size_after, size_of, entry_check, onto, checked, check}
use Rattle.heat_file.specs.Forms.{Increasing}
use Rattle.heat_file.specs.Filled.{index, put_cells, put_weights, Puts}
use Rattle.heat_file.proofs.Checks.{stands_gives}
use Rattle.heat_file.proofs.Checking.{check_gives, later_size}
use Rattle.heat_file.proofs.Cutting.{ended_cut}
use Rattle.heat_file.proofs.GoodFiles.{size_is}

-- the cells after entries, each put by the size so far
abbrev pub put_running : ℤ → List Entry → List Range → List Range
put_running n [] cs = cs
put_running n (e ∷ es) cs = put_running (size_after n e) es (put_cells (nat_abs (size_after n e)) (e ∷ []) cs)

-- the size and the lists after the entries that are left, or their refusal
abbrev pub put_left : ℤ → List Range → List ℤ → Result (List Entry) Refusal → Result (ℕ × List Range × List ℤ) Refusal
put_left n cs us (Ok es) = Ok (nat_abs (size_of n es), put_running n es cs, put_weights es us)
put_left n cs us (Err r) = Err r

-- before the lines that are left, the first of them at place p, the lists hold what the lines before them put
pub record Reading (text : List ℕ) (from : ℕ) (cs : List Range) (us : List ℤ) (s : Standing) (p : ℕ) (left : List (List ℕ)) (cs' : List Range) (us' : List ℤ) : Type 0 where
  pub few : Few s.size
  pub far : p + length (ended 10 left) ≡ from + length text
  pub same : put_left s.size cs' us' (checked s p left) ≡ put_left (pos 0) cs us (check from (cut 10 text))

pub reading_start : (text : List ℕ) (from : ℕ) (cs : List Range) (us : List ℤ) (left : List (List ℕ)) → closed 10 text ≡ true → 1 ≤ length text → left ≡ cut 10 text → Reading text from cs us start from left cs us
reading_start text from cs us left w l e =
    let j : ended 10 left ≡ text = ap (ended 10) e ∙ ended_cut 10 text w in
    record { few = (omega arith, omega arith); far = ap (λ u. from + length u) j; same = ap (put_left (pos 0) cs us) (by left j ∙ ap (check from) e) }
  where
    by : (ls : List (List ℕ)) → ended 10 ls ≡ text → checked start from ls ≡ check from ls
    by [] j = absurd (omega (arith, ap length j))
    by (m ∷ ls) j = refl

put_weights_one : (e : Entry) (es : List Entry) (us : List ℤ) → put_weights (e ∷ es) us ≡ put_weights es (put_weights (e ∷ []) us)
put_weights_one (Size m) es us = refl
put_weights_one (Coefficient i j r) es us = refl
put_weights_one (RightSide i r) es us = refl
put_weights_one (Weight i u) es us = refl

refused : (n : ℤ) (cs : List Range) (us : List ℤ) (a : Result (List Entry) Refusal) (r : Refusal) → Err r ≡ put_left n cs us a → a ≡ Err r
refused n cs us (Ok es) r q = cc
refused n cs us (Err e) r q = let z : r ≡ e = cc in ap (λ e. Err e) (sym z)

pub lines_are : {text : List ℕ} {from : ℕ} {cs : List Range} {us : List ℤ} {s : Standing} {p : ℕ} {left rest : List (List ℕ)} {cs' : List Range} {us' : List ℤ} → left ≡ rest → Reading text from cs us s p left cs' us' → Reading text from cs us s p rest cs' us'
lines_are {text = text} {from = from} {cs = cs} {us = us} {s = s} {p = p} {cs' = cs'} {us' = us'} e r = subst (λ left. Reading text from cs us s p left cs' us') e r

-- ---- a line further

module _ {text : List ℕ} {from : ℕ} {cs : List Range} {us : List ℤ} {s : Standing} {p : ℕ} {line : List ℕ} {left : List (List ℕ)} {cs' : List Range} {us' : List ℤ} (r : Reading text from cs us s p (line ∷ left) cs' us') where
  pub reading_shape : None ≡ parse_line line → check from (cut 10 text) ≡ Err (Shape p)
  reading_shape q = refused (pos 0) cs us (check from (cut 10 text)) (Shape p) (rw (← q) at r.same)

  pub reading_refused : (e : Entry) (x : Refusal) → Some e ≡ parse_line line → Err x ≡ entry_check s p e → check from (cut 10 text) ≡ Err x
  reading_refused e x q f = refused (pos 0) cs us (check from (cut 10 text)) x (rw (← q, ← f) at r.same)

  pub reading_on : (e : Entry) (t : Standing) (cs'' : List Range) (us'' : List ℤ) → Some e ≡ parse_line line → Ok t ≡ entry_check s p e → Few t.size → cs'' ≡ put_cells (nat_abs t.size) (e ∷ []) cs' → us'' ≡ put_weights (e ∷ []) us' →
      Reading text from cs us t (p + (length line + 1)) left cs'' us''
  reading_on e t cs'' us'' q f few c u =
      let n : size_after s.size e ≡ t.size = ap (λ (t : Standing). t.size) (sym (stands_gives s t p e (sym f)).1) in
      let a = checked t (p + (length line + 1)) left in
      record {
        few = few;
        far = omega (arith, r.far, length-append line (10 ∷ ended 10 left));
        same = (λ i. put_left (sym n i) ((c ∙ ap (λ n. put_cells (nat_abs n) (e ∷ []) cs') (sym n)) i) (u i) a) ∙ sym (by a) ∙ (rw (← q, ← f) at r.same);
      }
    where
      by : (a : Result (List Entry) Refusal) → put_left s.size cs' us' (onto e a) ≡ put_left (size_after s.size e) (put_cells (nat_abs (size_after s.size e)) (e ∷ []) cs') (put_weights (e ∷ []) us') a
      by (Ok es) = ap (λ us. Ok (nat_abs (size_of (size_after s.size e) es), put_running (size_after s.size e) es (put_cells (nat_abs (size_after s.size e)) (e ∷ []) cs'), us)) (put_weights_one e es us')
      by (Err r) = refl

-- ---- all lines

-- behind the size line the size stays
put_staying : (n : ℕ) (d : Entry) (es : List Entry) (cs : List Range) → Increasing (key d) es → put_running (pos n) es cs ≡ put_cells n es cs
put_staying n d [] cs r = refl
put_staying n d (Size m ∷ es) cs r = absurd (later_size d m r.0)
put_staying n d (Coefficient a b x ∷ es) cs r = put_staying n (Coefficient a b x) es (set cs (index n (nat_abs a) (nat_abs b)) x) r.1
put_staying n d (RightSide a x ∷ es) cs r = put_staying n (RightSide a x) es (set cs (index n (nat_abs a) (n + 1)) x) r.1
put_staying n d (Weight a u ∷ es) cs r = put_staying n (Weight a u) es cs r.1

pub reading_done : {text : List ℕ} {from : ℕ} {cs : List Range} {us : List ℤ} {s : Standing} {p : ℕ} {cs' : List Range} {us' : List ℤ} → Reading text from cs us s p [] cs' us' → Puts (check from (cut 10 text)) (nat_abs s.size) cs us cs' us'
reading_done {text = text} {from = from} {cs = cs} {us = us} {s = s} {cs' = cs'} {us' = us'} r = by (check from (cut 10 text)) refl r.same
  where
    by : (a : Result (List Entry) Refusal) → check from (cut 10 text) ≡ a → Ok (nat_abs s.size, cs', us') ≡ put_left (pos 0) cs us a → Puts (check from (cut 10 text)) (nat_abs s.size) cs us cs' us'
    by (Err x) e f = cc
    by (Ok es) e f =
        let g = check_gives from (cut 10 text) es e in
        let m = g.0 in
        let w = g.4 in
        let d : (nat_abs s.size, cs', us') ≡ (nat_abs (size_of (pos 0) es), put_running (pos 0) es cs, put_weights es us) = cc in
        let n : m ≡ nat_abs s.size = sym (ap (λ (d : ℕ × List Range × List ℤ). d.0) d ∙ ap (λ es. nat_abs (size_of (pos 0) es)) g.2 ∙ size_is m g.1 w) in
        subst (λ n. Puts (check from (cut 10 text)) n cs us cs' us') n (record {
          entries = Size (pos m) ∷ g.1;
          accepted = e ∙ ap (λ es. Ok es) g.2;
          counts = size_is m g.1 w;
          few = w.few;
          nodes = (refl, w.nodes);
          puts_cells = ap (λ (d : ℕ × List Range × List ℤ). d.1) d ∙ ap (λ es. put_running (pos 0) es cs) g.2 ∙ put_staying m (Size (pos m)) g.1 cs w.order;
          puts_weights = ap (λ (d : ℕ × List Range × List ℤ). d.2) d ∙ ap (λ es. put_weights es us) g.2;
        })
