-- A line has an entry exactly if it is the line that writes that entry.
use Rattle.std.proofs.Common.{◌≡◌, ℕ, zero, suc, ◌+◌, Bool, true, false, cond, ◌&&◌, eqb, List, [], ◌∷◌, ◌++◌, map, length, get_or, drop, ℤ, pos, Some, None, codes, Option, sym, refl, ap, ◌∙◌, subst, append_assoc, append-nil, arith}
use Prim.Native.String.{String}
use Rattle.std.specs.Fmt.{signed_decimal}
use Rattle.std.specs.Char.{is_ascii_digit}
use Rattle.std.specs.List.{AllByRecursion}
use Rattle.std.specs.Str.{bytes_eq}
use Rattle.std.proofs.lemmas.Bool.{and_parts, eqb-true}
use Rattle.std.proofs.lemmas.List.{append_cancel_right, drop_more, drop_all}
use Rattle.std.proofs.lemmas.Slice.Eq.{bytes_eq-Decides}
use Rattle.balance.specs.Ranges.{range}
use Rattle.heat_file.specs.declared.line.Entry.{Entry}
use Rattle.heat_file.specs.declared.line.Entry.TheVariants.{Size, Coefficient, RightSide, Weight}
use Rattle.heat_file.specs.Cuts.{ended, Free}
use Rattle.heat_file.specs.Numbers.{Short, number}
use Rattle.heat_file.specs.Lines.{tag, fields, spaced, line, Brief, ReadsLine, option, numbers, entry, words, tagged, parse_line}
use Rattle.heat_file.proofs.Cutting.{cut_all, ended_cut, closed_after, free_append}
use Rattle.heat_file.proofs.Numerals.{number_signed, number_gives, signed_free}

numbers_signed : (zs : List ℤ) → AllByRecursion Short zs → numbers (map signed_decimal zs) ≡ Some zs
numbers_signed [] h = refl
numbers_signed (z ∷ zs) h = rw (number_signed z h.0, numbers_signed zs h.1)

pub numbers_gives : (ws : List (List ℕ)) (zs : List ℤ) → numbers ws ≡ Some zs → (ws ≡ map signed_decimal zs) × AllByRecursion Short zs
numbers_gives [] zs e = let s : [] ≡ zs = cc in subst (λ zs. ([] ≡ map signed_decimal zs) × AllByRecursion Short zs) s (refl, tt)
numbers_gives (w ∷ ws) zs e = by (number w) (numbers ws) refl refl (numbers_gives ws) e
  where
    by : (o : Option ℤ) (q : Option (List ℤ)) → number w ≡ o → numbers ws ≡ q →
        ((zs : List ℤ) → numbers ws ≡ Some zs → (ws ≡ map signed_decimal zs) × AllByRecursion Short zs) →
        option o None (λ z. option q None (λ zs. Some (z ∷ zs))) ≡ Some zs → (w ∷ ws ≡ map signed_decimal zs) × AllByRecursion Short zs
    by None q f g ih e = cc
    by (Some x) None f g ih e = cc
    by (Some x) (Some xs) f g ih e =
        let s : x ∷ xs ≡ zs = cc in
        let h = number_gives w x f in
        let t = ih xs g in
        subst (λ zs. (w ∷ ws ≡ map signed_decimal zs) × AllByRecursion Short zs) s (rw (h.0, t.0), (h.1, t.1))

spaced_ended : (t : List ℕ) (zs : List ℤ) → (t ++ spaced zs) ++ (32 ∷ []) ≡ ended 32 (t ∷ map signed_decimal zs)
spaced_ended t [] = rw (append-nil t)
spaced_ended t (z ∷ zs) = append_assoc t (spaced (z ∷ zs)) (32 ∷ []) ∙ ap (λ l. t ++ (32 ∷ l)) (spaced_ended (signed_decimal z) zs)

all_free : (s : ℕ) (zs : List ℤ) → is_ascii_digit s ≡ false → eqb 45 s ≡ false → AllByRecursion Short zs → AllByRecursion (Free s) (map signed_decimal zs)
all_free s [] d m h = tt
all_free s (z ∷ zs) d m h = (signed_free s z d m h.0, all_free s zs d m h.1)

-- a tag and numbers read back
pub tagged_spaced : {X : Type 0} (f : List ℕ → List ℤ → Option X) (t : List ℕ) (zs : List ℤ) → Free 32 t → AllByRecursion Short zs → tagged f (words (t ++ spaced zs)) ≡ f t zs
tagged_spaced f t zs p h = rw (spaced_ended t zs, cut_all 32 (t ∷ map signed_decimal zs) (p, all_free 32 zs refl refl h), numbers_signed zs h)

-- and nothing else reads so
abbrev pub Tagged : {X : Type 0} → (List ℕ → List ℤ → Option X) → List ℕ → X → Type 0
Tagged f bs x = (t : List ℕ) × (zs : List ℤ) × (bs ≡ t ++ spaced zs) × AllByRecursion Short zs × (f t zs ≡ Some x)

pub tagged_gives : {X : Type 0} (f : List ℕ → List ℤ → Option X) (bs : List ℕ) (x : X) → tagged f (words bs) ≡ Some x → Tagged f bs x
tagged_gives {X} f bs x e = by (words bs) refl e
  where
    on : (t : List ℕ) (ws : List (List ℕ)) → words bs ≡ t ∷ ws → (o : Option (List ℤ)) → numbers ws ≡ o → option o None (f t) ≡ Some x → Tagged f bs x
    on t ws w None q e = cc
    on t ws w (Some zs) q e =
        let g = numbers_gives ws zs q in
        let k : words bs ≡ t ∷ map signed_decimal zs = w ∙ ap (λ l. t ∷ l) g.0 in
        let c = ended_cut 32 (bs ++ (32 ∷ [])) (closed_after 32 bs [] refl) in
        (t, zs, append_cancel_right bs (t ++ spaced zs) (32 ∷ []) (sym c ∙ (ap (ended 32) k ∙ sym (spaced_ended t zs))), g.1, e)

    by : (ws : List (List ℕ)) → words bs ≡ ws → tagged f ws ≡ Some x → Tagged f bs x
    by [] w e = cc
    by (t ∷ ws) w e = on t ws w (numbers ws) refl e

-- the elements of a list from place k on, m of them
abbrev picked : List ℤ → ℕ → ℕ → List ℤ
picked zs k zero = []
picked zs k (suc m) = get_or zs k (pos 0) ∷ picked zs (k + 1) m

picks : (zs : List ℤ) (k m : ℕ) → length zs ≡ k + m → drop k zs ≡ picked zs k m
picks zs k zero e = drop_all k zs (omega arith)
picks zs k (suc m) e = drop_more zs k (pos 0) (omega arith) ∙ ap (λ l. get_or zs k (pos 0) ∷ l) (picks zs (k + 1) m (omega arith))

tested : (t u : List ℕ) (zs : List ℤ) (k : ℕ) → (bytes_eq t u && eqb (length zs) k) ≡ true → (t ≡ u) × (zs ≡ picked zs 0 k)
tested t u zs k e =
    let h = and_parts _ _ e in
    let l : length zs ≡ k = eqb-true _ _ h.1 in
    ((bytes_eq-Decides t u).0 h.0, picks zs 0 k (omega arith))

entry_is : (e : Entry) → entry (tag e) (fields e) ≡ Some e
entry_is (Size n) = refl
entry_is (Coefficient i j r) = refl
entry_is (RightSide i r) = refl
entry_is (Weight i u) = refl

entry_gives : (t : List ℕ) (zs : List ℤ) (e : Entry) → entry t zs ≡ Some e → (t ≡ tag e) × (zs ≡ fields e)
entry_gives t zs e q = by (is "size" 1) (is "a" 4) (is "b" 3) (is "u" 2) refl refl refl refl q
  where
    at : ℕ → ℤ
    at k = get_or zs k (pos 0)

    is : String → ℕ → Bool
    is u k = bytes_eq t (codes u) && eqb (length zs) k

    by : (a b c d : Bool) → is "size" 1 ≡ a → is "a" 4 ≡ b → is "b" 3 ≡ c → is "u" 2 ≡ d →
        cond a (Some (Size (at 0))) (cond b (Some (Coefficient (at 0) (at 1) (range (at 2) (at 3)))) (cond c (Some (RightSide (at 0) (range (at 1) (at 2)))) (cond d (Some (Weight (at 0) (at 1))) None))) ≡ Some e →
        (t ≡ tag e) × (zs ≡ fields e)
    by true b c d f g h k q = let s : Size (at 0) ≡ e = cc in subst (λ e. (t ≡ tag e) × (zs ≡ fields e)) s (tested t (codes "size") zs 1 f)
    by false true c d f g h k q = let s : Coefficient (at 0) (at 1) (range (at 2) (at 3)) ≡ e = cc in subst (λ e. (t ≡ tag e) × (zs ≡ fields e)) s (tested t (codes "a") zs 4 g)
    by false false true d f g h k q = let s : RightSide (at 0) (range (at 1) (at 2)) ≡ e = cc in subst (λ e. (t ≡ tag e) × (zs ≡ fields e)) s (tested t (codes "b") zs 3 h)
    by false false false true f g h k q = let s : Weight (at 0) (at 1) ≡ e = cc in subst (λ e. (t ≡ tag e) × (zs ≡ fields e)) s (tested t (codes "u") zs 2 k)
    by false false false false f g h k q = cc

tag_free_32 : (e : Entry) → Free 32 (tag e)
tag_free_32 (Size n) = (refl, (refl, (refl, (refl, tt))))
tag_free_32 (Coefficient i j r) = (refl, tt)
tag_free_32 (RightSide i r) = (refl, tt)
tag_free_32 (Weight i u) = (refl, tt)

-- a written line reads as its entry
pub line_reads : (e : Entry) → Brief e → parse_line (line e) ≡ Some e
line_reads e h = tagged_spaced entry (tag e) (fields e) (tag_free_32 e) h ∙ entry_is e

-- and no other line does
pub line_written : (bs : List ℕ) (e : Entry) → parse_line bs ≡ Some e → (bs ≡ line e) × Brief e
line_written bs e q =
    let g = tagged_gives entry bs e q in
    let h = entry_gives g.0 g.1 e g.4 in
    (g.2 ∙ rw (h.0, h.1), subst (AllByRecursion Short) h.1 g.3)

pub spaced_free : (s : ℕ) (zs : List ℤ) → is_ascii_digit s ≡ false → eqb 45 s ≡ false → eqb 32 s ≡ false → AllByRecursion Short zs → Free s (spaced zs)
spaced_free s [] d m b h = tt
spaced_free s (z ∷ zs) d m b h = (b, free_append s (signed_decimal z) (spaced zs) (signed_free s z d m h.0) (spaced_free s zs d m b h.1))

pub reads_line : (bs : List ℕ) (o : Option Entry) → o ≡ parse_line bs → ReadsLine bs o
reads_line bs o q e = (λ h. line_written bs e (sym q ∙ h), λ h. q ∙ ap parse_line h.0 ∙ line_reads e h.1)
