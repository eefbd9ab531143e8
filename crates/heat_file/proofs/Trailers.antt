-- How the data lines of a file are found by its trailer.
use Rattle.std.proofs.Common.{◌≡◌, ℕ, zero, suc, ◌+◌, ◌-◌, ◌^◌, ◌<◌, ◌≤◌, Bool, true, false, cond, eqb, leb, List, [], ◌∷◌, ◌++◌, length, get_or, take, drop, ℤ, pos, negsuc, Some, None, codes, Option, sym, refl, ap, ◌∙◌, subst, append_assoc, add-one, arith}
use Rattle.std.specs.List.{AllByRecursion, IsAfterLastMatch}
use Rattle.std.specs.Str.{bytes_eq}
use Rattle.std.proofs.lemmas.Bool.{ne_eqb, le-leb, and_right}
use Rattle.std.proofs.lemmas.List.{take-append-drop, length-take-le, length-append, length_push, take_at, drop_at, drop_all, get_or-drop, get_or-take}
use Rattle.std.specs.Bool.{MatchBool}
use Rattle.std.proofs.Math.Seq.{drop-cons}
use mir.Val.{bool_byte}
use Rattle.std.proofs.lemmas.Slice.Eq.{bytes_eq-Decides}
use Rattle.heat_file.specs.Cuts.{cut, onto, ended, closed, Free}
use Rattle.heat_file.specs.Lines.{spaced, option}
use Rattle.heat_file.specs.Files.{trailer, last, two, ending, front, data_from, located, Parts}
use Rattle.heat_file.proofs.Cutting.{cut_all, cut_free, cut_append, ended_cut, closed_ended, closed_append, free_append}
use Rattle.heat_file.proofs.Lines.{tagged_spaced, tagged_gives, spaced_free}

abbrev closing : List ℕ → List ℤ → Option (ℕ × ℕ)
closing t zs = cond (bytes_eq t (codes "end")) (two zs) None

two_gives : (zs : List ℤ) (t : ℕ × ℕ) → two zs ≡ Some t → zs ≡ pos t.0 ∷ (pos t.1 ∷ [])
two_gives [] t e = cc
two_gives (x ∷ []) t e = cc
two_gives (pos p ∷ (pos k ∷ [])) t e = let s : ◌≡◌ {A = ℕ × ℕ} (p, k) t = cc in ap (λ (t : ℕ × ℕ). pos t.0 ∷ (pos t.1 ∷ [])) s
two_gives (pos p ∷ (negsuc k ∷ [])) t e = cc
two_gives (negsuc p ∷ (y ∷ [])) t e = cc
two_gives (x ∷ (y ∷ (w ∷ zs))) t e = cc

closing_gives : (t : List ℕ) (zs : List ℤ) (m : ℕ × ℕ) → closing t zs ≡ Some m → (t ≡ codes "end") × (zs ≡ pos m.0 ∷ (pos m.1 ∷ []))
closing_gives t zs m e = by (bytes_eq t (codes "end")) refl e
  where
    by : (b : Bool) → bytes_eq t (codes "end") ≡ b → cond b (two zs) None ≡ Some m → (t ≡ codes "end") × (zs ≡ pos m.0 ∷ (pos m.1 ∷ []))
    by true f e = ((bytes_eq-Decides t (codes "end")).0 f, two_gives zs m e)
    by false f e = cc

pub ending_gives : (bs : List ℕ) (m : ℕ × ℕ) → ending bs ≡ Some m → bs ≡ trailer m.0 m.1
ending_gives bs m e =
    let g = tagged_gives closing bs m e in
    let h = closing_gives g.0 g.1 m g.4 in
    g.2 ∙ rw (h.0, h.1)

pub ending_trailer : (p k : ℕ) → p < 10 ^ 13 → k < 10 ^ 13 → ending (trailer p k) ≡ Some (p, k)
ending_trailer p k h g = tagged_spaced closing (codes "end") (pos p ∷ (pos k ∷ [])) (refl, (refl, (refl, tt))) (h, (g, tt))

pub trailer_free : (p k : ℕ) → p < 10 ^ 13 → k < 10 ^ 13 → Free 10 (trailer p k)
trailer_free p k h g = free_append 10 (codes "end") (spaced (pos p ∷ (pos k ∷ []))) (refl, (refl, (refl, tt))) (spaced_free 10 (pos p ∷ (pos k ∷ [])) refl refl refl (h, (g, tt)))

pub split_last : (ls : List (List ℕ)) (k : ℕ) → length ls ≡ k + 1 → ls ≡ take k ls ++ (last ls ∷ [])
split_last [] k e = absurd (omega arith)
split_last (l ∷ []) zero e = refl
split_last (l ∷ []) (suc k) e = absurd (omega arith)
split_last (l ∷ (m ∷ ms)) zero e = absurd (omega arith)
split_last (l ∷ (m ∷ ms)) (suc k) e = ap (λ x. l ∷ x) (split_last (m ∷ ms) k (omega arith))

pub last_of : (xs ls : List (List ℕ)) → 0 < length ls → last (xs ++ ls) ≡ last ls
last_of [] ls h = refl
last_of (x ∷ []) [] h = absurd (omega arith)
last_of (x ∷ []) (l ∷ ls) h = refl
last_of (x ∷ (y ∷ ys)) ls h = last_of (y ∷ ys) ls h

pub last_push : (ls : List (List ℕ)) (t : List ℕ) → last (ls ++ (t ∷ [])) ≡ t
last_push ls t = last_of ls (t ∷ []) (omega arith)

pub ended_long : (s : ℕ) (ps : List (List ℕ)) → length ps ≤ length (ended s ps)
ended_long s [] = omega arith
ended_long s (p ∷ ps) = omega (arith, length-append p (s ∷ ended s ps), ended_long s ps)

all_push : (ps : List (List ℕ)) (p : List ℕ) → AllByRecursion (Free 10) ps → Free 10 p → AllByRecursion (Free 10) (ps ++ (p ∷ []))
all_push [] p f g = (g, tt)
all_push (q ∷ ps) p f g = (f.0, all_push ps p f.1 g)

pub ended_append : (s : ℕ) (ps qs : List (List ℕ)) → ended s (ps ++ qs) ≡ ended s ps ++ ended s qs
ended_append s [] qs = refl
ended_append s (p ∷ ps) qs = ap (λ l. p ++ (s ∷ l)) (ended_append s ps qs) ∙ sym (append_assoc p (s ∷ ended s ps) (ended s qs))

-- a whole text that is not empty has a last line
pub parts_of : (bs : List ℕ) → closed 10 bs ≡ true → 1 ≤ length bs → Parts bs (front bs) (last (cut 10 bs))
parts_of bs w l =
    let ls = cut 10 bs in
    let k = length ls - 1 in
    let j = ended_cut 10 bs w in
    let n : length ls ≡ k + 1 = by ls j in
    let s = split_last ls k n in
    let t = last ls in
    let e : bs ≡ ended 10 (take k ls) ++ (t ++ (10 ∷ [])) = sym j ∙ ap (ended 10) s ∙ ended_append 10 (take k ls) (t ∷ []) in
    let m : length bs - (length t + 1) ≡ length (ended 10 (take k ls)) = omega (arith, ap length e, length-append (ended 10 (take k ls)) (t ++ (10 ∷ [])), length_push t 10) in
    let f : front bs ≡ ended 10 (take k ls) = ap (λ n. take n bs) m ∙ ap (take (length (ended 10 (take k ls)))) e ∙ take_at (ended 10 (take k ls)) (t ++ (10 ∷ [])) (length (ended 10 (take k ls))) refl in
    record { bytes = rw f e; whole = rw f (closed_ended 10 (take k ls)); free = last_free ls (cut_free 10 bs) }
  where
    by : (ls : List (List ℕ)) → ended 10 ls ≡ bs → length ls ≡ length ls - 1 + 1
    by [] j = absurd (omega (arith, ap length j))
    by (p ∷ ps) j = omega arith

    last_free : (ls : List (List ℕ)) → AllByRecursion (Free 10) ls → Free 10 (last ls)
    last_free [] f = tt
    last_free (p ∷ []) f = f.0
    last_free (p ∷ (q ∷ ps)) f = last_free (q ∷ ps) f.1

module _ (bs before line : List ℕ) (h : Parts bs before line) where
  parts_cut : cut 10 bs ≡ cut 10 before ++ (line ∷ [])
  parts_cut = ap (cut 10) h.bytes ∙ cut_append 10 before (line ++ (10 ∷ [])) h.whole ∙ ap (λ l. cut 10 before ++ l) (cut_all 10 (line ∷ []) (h.free, tt))

  parts_closed : closed 10 bs ≡ true
  parts_closed = ap (closed 10) h.bytes ∙ closed_append 10 before (line ++ (10 ∷ [])) h.whole (closed_ended 10 (line ∷ []))

  parts_last : last (cut 10 bs) ≡ line
  parts_last = ap last parts_cut ∙ last_push (cut 10 before) line

  parts_front : front bs ≡ before
  parts_front =
      let m : length bs - (length (last (cut 10 bs)) + 1) ≡ length before = omega (arith, ap length parts_last, ap length h.bytes, length-append before (line ++ (10 ∷ [])), length_push line 10) in
      ap (λ n. take n bs) m ∙ ap (take (length before)) h.bytes ∙ take_at before (line ++ (10 ∷ [])) (length before) refl

  pub located_by : length bs ≤ 65535 → located bs ≡ option (ending line) None (λ t. option (data_from before t.0 t.1) None (λ d. Some (t.0, d)))
  located_by short = rw (le-leb _ _ short, parts_closed, parts_front, parts_last)

  module _ (short : length bs ≤ 65535) where
    pub no_ending : None ≡ ending line → located bs ≡ None
    no_ending e = located_by short ∙ rw (← e) refl

    pub data_found : (t : ℕ × ℕ) (o : Option (List ℕ)) → Some t ≡ ending line → o ≡ data_from before t.0 t.1 → located bs ≡ option o None (λ d. Some (t.0, d))
    data_found t o e f = located_by short ∙ rw (← e, ← f) refl

pub closed_at : (s : ℕ) (u : List ℕ) (k : ℕ) → length u ≡ k + 1 → closed s u ≡ eqb (get_or u k 0) s
closed_at s [] k e = absurd (omega arith)
closed_at s (c ∷ []) zero e = refl
closed_at s (c ∷ []) (suc k) e = absurd (omega arith)
closed_at s (c ∷ (d ∷ ds)) zero e = absurd (omega arith)
closed_at s (c ∷ (d ∷ ds)) (suc k) e = closed_at s (d ∷ ds) k (omega arith)

pub not_whole : (bs : List ℕ) → (1 ≤ length bs → get_or bs (length bs - 1) 0 ≡ 10 → ⊥) → located bs ≡ None
not_whole [] h = refl
not_whole (c ∷ cs) h = rw (closed_at 10 (c ∷ cs) (length (c ∷ cs) - 1) (omega arith), ne_eqb (get_or (c ∷ cs) (length (c ∷ cs) - 1) 0) 10 (h (omega arith)), and_right (leb (length (c ∷ cs)) 65535) false refl)

onto_long : (c : ℕ) (ps : List (List ℕ)) → length (onto c ps) ≡ length ps
onto_long c [] = refl
onto_long c (p ∷ ps) = refl

-- of a text, so many lines end before byte k
abbrev pub Counted : List ℕ → ℕ → ℕ → Type 0
Counted bs k count = (count ≤ k) × (count + length (cut 10 (drop k bs)) ≡ length (cut 10 bs))

pub counted_on : (bs : List ℕ) (k count more : ℕ) → k < length bs → more ≡ bool_byte (eqb (get_or bs k 0) 10) → Counted bs k count → Counted bs (k + 1) (count + more)
counted_on bs k count more l q h =
    let d : drop k bs ≡ get_or bs k 0 ∷ drop (k + 1) bs = rw add-one (drop-cons bs k 0 l) in
    by (eqb (get_or bs k 0) 10) q (sym h.1 ∙ ap (λ cs. count + length (cut 10 cs)) d)
  where
    rest : List (List ℕ)
    rest = cut 10 (drop (k + 1) bs)

    by : (b : Bool) → more ≡ bool_byte b → length (cut 10 bs) ≡ count + length (cond b ([] ∷ rest) (onto (get_or bs k 0) rest)) → Counted bs (k + 1) (count + more)
    by true q e = (omega (arith, q, h.0), omega (arith, q, e))
    by false q e = (omega (arith, q, h.0), omega (arith, q, e, onto_long (get_or bs k 0) rest))

pub counted_all : (bs : List ℕ) (k count : ℕ) → length bs ≤ k → Counted bs k count → count ≡ length (cut 10 bs)
counted_all bs k count l h = omega (arith, h.1, ap (λ cs. length (cut 10 cs)) (drop_all k bs l))

all_free : (text : List ℕ) → ((k : ℕ) (d : ℕ) → 0 ≤ k → k < length text → eqb (get_or text k d) 10 ≡ false) → Free 10 text
all_free [] h = tt
all_free (c ∷ cs) h = (h 0 0 (omega arith) (omega arith), all_free cs (λ k d l m. h (suc k) d (omega arith) (omega arith)))

-- the last piece of a text that one more line feed ends
pub last_parts : (text line : List ℕ) → (n : ℕ) → n + length line ≡ length text → drop n text ≡ line → IsAfterLastMatch (λ c. eqb c 10) text n → Parts (text ++ (10 ∷ [])) (take n text) line
last_parts text line n l e h = record {
  bytes = ap (λ t. t ++ (10 ∷ [])) (sym (take-append-drop n text) ∙ ap (λ d. take n text ++ d) e) ∙ append_assoc (take n text) line (10 ∷ []);
  whole = by n refl;
  free = all_free line (λ k d i j. subst (λ (t : List ℕ). eqb (get_or t k d) 10 ≡ false) e (ap (λ c. eqb c 10) (get_or-drop n text k d) ∙ h.0 (n + k) d (omega arith) (omega arith)));
}
  where
    by : (m : ℕ) → n ≡ m → closed 10 (take n text) ≡ true
    by zero q = rw q
    by (suc m) q =
        let k : n - 1 < n = omega arith in
        closed_at 10 (take n text) (n - 1) (length-take-le n text (omega arith) ∙ omega arith) ∙ ap (λ c. eqb c 10) (get_or-take n text (n - 1) 0 k) ∙ h.1 (omega arith) 0

-- the last piece, as `rsplit` gives it
pub rsplit_first : (text line rest : List ℕ) (done : Bool) → MatchBool done (text ≡ line) ((y : ℕ) × (text ≡ rest ++ (y ∷ line))) → IsAfterLastMatch (λ c. eqb c 10) text (length text - length line) →
    (drop (length text - length line) text ≡ line) × Parts (text ++ (10 ∷ [])) (take (length text - length line) text) line
rsplit_first text line rest done e h =
    let d = back done e in
    (d.1, last_parts text line (length text - length line) d.0 d.1 h)
  where
    back : (done : Bool) → MatchBool done (text ≡ line) ((y : ℕ) × (text ≡ rest ++ (y ∷ line))) → (length text - length line + length line ≡ length text) × (drop (length text - length line) text ≡ line)
    back true e =
        let z : length text - length line ≡ 0 = omega (arith, ap length e) in
        (omega (arith, ap length e), ap (λ n. drop n text) z ∙ e)
    back false (y, e) =
        let l : length text ≡ length (rest ++ (y ∷ [])) + length line = omega (arith, ap length e, length-append rest (y ∷ line), length_push rest y) in
        let f : text ≡ (rest ++ (y ∷ [])) ++ line = e ∙ sym (append_assoc rest (y ∷ []) line) in
        let n : length text - length line ≡ length (rest ++ (y ∷ [])) = omega (arith, l) in
        (omega (arith, l), ap (λ n. drop n text) n ∙ ap (drop (length (rest ++ (y ∷ [])))) f ∙ drop_at (rest ++ (y ∷ [])) line (length (rest ++ (y ∷ []))) refl)
