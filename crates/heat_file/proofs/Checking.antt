-- Lines are accepted exactly if they are those of well formed entries, and refused exactly at the first bad one.
use Rattle.std.proofs.Common.{◌≡◌, ℕ, ◌+◌, ◌≤◌, Bool, true, false, cond, inl, inr, List, [], ◌∷◌, ◌++◌, map, length, ℤ, pos, negsuc, Some, None, Option, Ok, Err, Result, sym, refl, ap, ◌∙◌, subst, arith}
use Rattle.std.specs.List.{AllByRecursion}
use Rattle.std.proofs.lemmas.Bool.{true≢false, false≢true}
use Rattle.std.proofs.lemmas.Int.{ints}
use Rattle.std.proofs.lemmas.List.{length-append}
use Rattle.balance.specs.declared.refusal.Refusal.{Refusal}
use Rattle.balance.specs.declared.refusal.Refusal.TheVariants.{File, Room, Shape, Size as SizeRefusal, Node, Order, Crossed}
use Rattle.heat_file.specs.declared.line.Entry.{Entry}
use Rattle.heat_file.specs.declared.line.Entry.TheVariants.{Size, Coefficient, RightSide, Weight}
use Rattle.heat_file.specs.declared.check.Standing.{Standing}
use Rattle.heat_file.specs.Cuts.{ended}
use Rattle.heat_file.specs.Lines.{line, Brief, option, parse_line}
use Rattle.heat_file.specs.Checks.{key, before, opens, sized, inside, ordered, start, after, entry_check, onto, and_then, checked, check}
use Rattle.heat_file.specs.Forms.{Increasing, WellFormed, Stands, Chain, after_all, Writes, Fault, shape, size, node, order, crossed, FirstBad, Refused}
use Rattle.heat_file.proofs.Lines.{line_reads, line_written}
use Rattle.heat_file.proofs.Checks.{stands_from, stands_gives}

pub checked_from : (s : Standing) (p : ℕ) (es : List Entry) → AllByRecursion Brief es → Chain s es → checked s p (map line es) ≡ Ok es
checked_from s p [] b c = refl
checked_from s p (e ∷ es) b c = rw (line_reads e b.0, stands_from s p e c.0, checked_from (after s e) (p + (length (line e) + 1)) es b.1 c.1) refl

abbrev Lined : Standing → List (List ℕ) → List Entry → Type 0
Lined s ls es = (ls ≡ map line es) × AllByRecursion Brief es × Chain s es

pub checked_gives : (s : Standing) (p : ℕ) (ls : List (List ℕ)) (es : List Entry) → checked s p ls ≡ Ok es → Lined s ls es
checked_gives s p [] es q = let z : [] ≡ es = cc in subst (Lined s []) z (refl, tt, tt)
checked_gives s p (l ∷ ls) es q = by (λ t fs. checked_gives t (p + (length l + 1)) ls fs) (parse_line l) refl q
  where
    Ih : Type 0
    Ih = (t : Standing) (fs : List Entry) → checked t (p + (length l + 1)) ls ≡ Ok fs → Lined t ls fs

    on : Ih → (e : Entry) (t : Standing) → parse_line l ≡ Some e → Stands s e × (t ≡ after s e) → (a : Result (List Entry) Refusal) → checked t (p + (length l + 1)) ls ≡ a → onto e a ≡ Ok es → Lined s (l ∷ ls) es
    on ih e t f h (Err r) g q = cc
    on ih e t f h (Ok fs) g q =
        let z : e ∷ fs ≡ es = cc in
        let w = line_written l e f in
        let i = subst (λ t. Lined t ls fs) h.1 (ih t fs g) in
        subst (Lined s (l ∷ ls)) z (rw (w.0, i.0) refl, (w.1, i.1), (h.0, i.2))

    if : Ih → (e : Entry) → parse_line l ≡ Some e → (o : Result Standing Refusal) → entry_check s p e ≡ o → and_then o (λ t. onto e (checked t (p + (length l + 1)) ls)) ≡ Ok es → Lined s (l ∷ ls) es
    if ih e f (Err r) g q = cc
    if ih e f (Ok t) g q = on ih e t f (stands_gives s t p e g) (checked t (p + (length l + 1)) ls) refl q

    by : Ih → (o : Option Entry) → parse_line l ≡ o → option o (Err (Shape p)) (λ e. and_then (entry_check s p e) (λ t. onto e (checked t (p + (length l + 1)) ls))) ≡ Ok es → Lined s (l ∷ ls) es
    by ih None f q = cc
    by ih (Some e) f q = if ih e f (entry_check s p e) refl q

-- ---- well formed entries

abbrev at : ℕ → Entry → Standing
at n d = record { size = pos n; last = key d }

-- nothing stands before a size line
no_size : (d : Entry) (m : ℤ) → before (key d) (key (Size m)) ≡ false
no_size (Size n) m = refl
no_size (Coefficient i j r) m = refl
no_size (RightSide i r) m = refl
no_size (Weight i u) m = refl

pub later_size : (d : Entry) (m : ℤ) → before (key d) (key (Size m)) ≡ true → ⊥
later_size d m h = false≢true (sym (no_size d m) ∙ h)

not_first : (n : ℕ) (d e : Entry) → opens (at n d) e ≡ true
not_first n (Size m) e = refl
not_first n (Coefficient i j r) e = refl
not_first n (RightSide i r) e = refl
not_first n (Weight i u) e = refl

chain_from : (n : ℕ) (d : Entry) (es : List Entry) → Increasing (key d) es → AllByRecursion (λ e. inside (pos n) e ≡ true) es → AllByRecursion (λ e. ordered e ≡ true) es → Chain (at n d) es
chain_from n d [] r i s = tt
chain_from n d (Size m ∷ es) r i s = absurd (false≢true (sym (no_size d m) ∙ r.0))
chain_from n d (Coefficient a b x ∷ es) r i s = (record { opening = not_first n d (Coefficient a b x); size = refl; nodes = i.0; order = r.0; ends = s.0 }, chain_from n (Coefficient a b x) es r.1 i.1 s.1)
chain_from n d (RightSide a x ∷ es) r i s = (record { opening = not_first n d (RightSide a x); size = refl; nodes = i.0; order = r.0; ends = s.0 }, chain_from n (RightSide a x) es r.1 i.1 s.1)
chain_from n d (Weight a u ∷ es) r i s = (record { opening = not_first n d (Weight a u); size = refl; nodes = i.0; order = r.0; ends = s.0 }, chain_from n (Weight a u) es r.1 i.1 s.1)

chain_gives : (n : ℕ) (d : Entry) (es : List Entry) → Chain (at n d) es → Increasing (key d) es × AllByRecursion (λ e. inside (pos n) e ≡ true) es × AllByRecursion (λ e. ordered e ≡ true) es
chain_gives n d [] c = (tt, tt, tt)
chain_gives n d (Size m ∷ es) c = absurd (false≢true (sym (no_size d m) ∙ c.0.order))
chain_gives n d (Coefficient a b x ∷ es) c = let g = chain_gives n (Coefficient a b x) es c.1 in ((c.0.order, g.0), (c.0.nodes, g.1), (c.0.ends, g.2))
chain_gives n d (RightSide a x ∷ es) c = let g = chain_gives n (RightSide a x) es c.1 in ((c.0.order, g.0), (c.0.nodes, g.1), (c.0.ends, g.2))
chain_gives n d (Weight a u ∷ es) c = let g = chain_gives n (Weight a u) es c.1 in ((c.0.order, g.0), (c.0.nodes, g.1), (c.0.ends, g.2))

sized_from : (n : ℕ) → 1 ≤ n → n ≤ 32 → sized (Size (pos n)) ≡ true
sized_from n a b = grind (arith, ints)

size_gives : (m : ℤ) → sized (Size m) ≡ true → (n : ℕ) × (m ≡ pos n) × (1 ≤ n) × (n ≤ 32)
size_gives (pos n) h = (n, refl, grind (arith, ints), grind (arith, ints))
size_gives (negsuc n) h = cc

pub check_from : (p n : ℕ) (es : List Entry) → WellFormed n es → check p (map line (Size (pos n) ∷ es)) ≡ Ok (Size (pos n) ∷ es)
check_from p n es w =
    checked_from start p (Size (pos n) ∷ es) ((omega (arith, w.few), tt), w.brief)
    (record { opening = refl; size = sized_from n w.some w.few; nodes = refl; order = refl; ends = refl }, chain_from n (Size (pos n)) es w.order w.nodes w.ends)

-- what is accepted has a size line first
abbrev pub Formed : List (List ℕ) → List Entry → Type 0
Formed ls es = (n : ℕ) × (fs : List Entry) × (es ≡ Size (pos n) ∷ fs) × (ls ≡ map line es) × WellFormed n fs

pub check_gives : (p : ℕ) (ls : List (List ℕ)) (es : List Entry) → check p ls ≡ Ok es → Formed ls es
check_gives p [] es q = cc
check_gives p (l ∷ ls) es q = by es (checked_gives start p (l ∷ ls) es q)
  where
    by : (es : List Entry) → Lined start (l ∷ ls) es → Formed (l ∷ ls) es
    by [] h = cc
    by (Size m ∷ fs) h =
        let z = size_gives m h.2.0.size in
        let c = subst (λ m. Chain (after start (Size m)) fs) z.1 h.2.1 in
        let g = chain_gives z.0 (Size (pos z.0)) fs c in
        (z.0, fs, ap (λ m. Size m ∷ fs) z.1, h.0, record { some = z.2; few = z.3; nodes = g.1; order = g.0; ends = g.2; brief = h.1.1 })
    by (Coefficient a b x ∷ fs) h = absurd (false≢true h.2.0.opening)
    by (RightSide a x ∷ fs) h = absurd (false≢true h.2.0.opening)
    by (Weight a u ∷ fs) h = absurd (false≢true h.2.0.opening)

-- ---- the first bad line

one_entry : (l : List ℕ) (d e : Entry) → parse_line l ≡ Some d → Writes e l → d ≡ e
one_entry l d e q w = let z : Some d ≡ Some e = sym q ∙ ap parse_line w.0 ∙ line_reads e w.1 in cc

fault_gives : (s : Standing) (p : ℕ) (l : List ℕ) (e : Entry) (r : Refusal) → parse_line l ≡ Some e → entry_check s p e ≡ Err r → Fault s p l r
fault_gives s p l e r f q = by (opens s e) (sized e) (inside s.size e) (before s.last (key e)) (ordered e) refl refl refl refl refl q
  where
    w : Writes e l
    w = line_written l e f

    by : (a b c d g : Bool) → opens s e ≡ a → sized e ≡ b → inside s.size e ≡ c → before s.last (key e) ≡ d → ordered e ≡ g →
        cond a (cond b (cond c (cond d (cond g (Ok (after s e)) (Err (Crossed p))) (Err (Order p))) (Err (Node p))) (Err (SizeRefusal p))) (Err (Shape p)) ≡ Err r →
        Fault s p l r
    by true true true true true i j k m n q = cc
    by true true true true false i j k m n q = let z : Crossed p ≡ r = cc in subst (Fault s p l) z (crossed e w i j k m n)
    by true true true false g i j k m n q = let z : Order p ≡ r = cc in subst (Fault s p l) z (order e w i j k m)
    by true true false d g i j k m n q = let z : Node p ≡ r = cc in subst (Fault s p l) z (node e w i j k)
    by true false c d g i j k m n q = let z : SizeRefusal p ≡ r = cc in subst (Fault s p l) z (size e w i j)
    by false b c d g i j k m n q = let z : Shape p ≡ r = cc in subst (Fault s p l) z (shape (λ d v o. true≢false (sym o ∙ ap (opens s) (sym (one_entry l e d f v)) ∙ i)))

abbrev line_check : Standing → ℕ → List ℕ → Result Standing Refusal
line_check s p l = option (parse_line l) (Err (Shape p)) (entry_check s p)

fault_from : (s : Standing) (p : ℕ) (l : List ℕ) (r : Refusal) → Fault s p l r → line_check s p l ≡ Err r
fault_from s p l r (shape h) = by (parse_line l) refl
  where
    by : (o : Option Entry) → parse_line l ≡ o → option o (Err (Shape p)) (entry_check s p) ≡ Err (Shape p)
    by None q = refl
    by (Some e) q = on (opens s e) refl
      where
        on : (b : Bool) → opens s e ≡ b → entry_check s p e ≡ Err (Shape p)
        on true i = absurd (h e (line_written l e q) i)
        on false i = rw i refl
fault_from s p l r (size e w i j) = rw (w.0, line_reads e w.1, i, j) refl
fault_from s p l r (node e w i j k) = rw (w.0, line_reads e w.1, i, j, k) refl
fault_from s p l r (order e w i j k m) = rw (w.0, line_reads e w.1, i, j, k, m) refl
fault_from s p l r (crossed e w i j k m n) = rw (w.0, line_reads e w.1, i, j, k, m, n) refl

long : (l : List ℕ) (ls : List (List ℕ)) → length (ended 10 (l ∷ ls)) ≡ length l + 1 + length (ended 10 ls)
long l ls = length-append l (10 ∷ ended 10 ls) ∙ omega arith

here : (s : Standing) (p : ℕ) (l : List ℕ) (ls : List (List ℕ)) (r : Refusal) → Fault s p l r → FirstBad s p (l ∷ ls) r
here s p l ls r f = record { good = []; bad = l; rest = ls; parts = refl; brief = tt; stand = tt; fault = subst (λ q. Fault s q l r) (omega arith) f }

later : (s : Standing) (p : ℕ) (e : Entry) (l : List ℕ) (ls : List (List ℕ)) (r : Refusal) → Writes e l → Stands s e → FirstBad (after s e) (p + (length l + 1)) ls r → FirstBad s p (l ∷ ls) r
later s p e l ls r w t b = record {
  good = e ∷ b.good;
  bad = b.bad;
  rest = b.rest;
  parts = rw w.0 (ap (λ x. line e ∷ x) b.parts);
  brief = (w.1, b.brief);
  stand = (t, b.stand);
  fault = subst (λ q. Fault (after_all (after s e) b.good) q b.bad r) (omega (arith, long (line e) (map line b.good), ap length w.0)) b.fault;
}

first_bad : (s : Standing) (p : ℕ) (ls : List (List ℕ)) (r : Refusal) → checked s p ls ≡ Err r → FirstBad s p ls r
first_bad s p [] r q = cc
first_bad s p (l ∷ ls) r q = by (λ t. first_bad t (p + (length l + 1)) ls r) (parse_line l) refl q
  where
    Ih : Type 0
    Ih = (t : Standing) → checked t (p + (length l + 1)) ls ≡ Err r → FirstBad t (p + (length l + 1)) ls r

    on : Ih → (e : Entry) (t : Standing) → parse_line l ≡ Some e → Stands s e × (t ≡ after s e) → (a : Result (List Entry) Refusal) → checked t (p + (length l + 1)) ls ≡ a → onto e a ≡ Err r → FirstBad s p (l ∷ ls) r
    on ih e t f h (Err x) g q = later s p e l ls r (line_written l e f) h.0 (subst (λ t. FirstBad t (p + (length l + 1)) ls r) h.1 (ih t (g ∙ q)))
    on ih e t f h (Ok es) g q = cc

    if : Ih → (e : Entry) → parse_line l ≡ Some e → (o : Result Standing Refusal) → entry_check s p e ≡ o → and_then o (λ t. onto e (checked t (p + (length l + 1)) ls)) ≡ Err r → FirstBad s p (l ∷ ls) r
    if ih e f (Err x) g q = let z : x ≡ r = cc in here s p l ls r (fault_gives s p l e r f (g ∙ ap (λ x. Err x) z))
    if ih e f (Ok t) g q = on ih e t f (stands_gives s t p e g) (checked t (p + (length l + 1)) ls) refl q

    by : Ih → (o : Option Entry) → parse_line l ≡ o → option o (Err (Shape p)) (λ e. and_then (entry_check s p e) (λ t. onto e (checked t (p + (length l + 1)) ls))) ≡ Err r → FirstBad s p (l ∷ ls) r
    by ih None f q =
        let z : Shape p ≡ r = cc in
        let none : (e : Entry) → Writes e l → opens s e ≡ true → ⊥ = λ e w o. (let y : ◌≡◌ {A = Option Entry} None (Some e) = sym f ∙ ap parse_line w.0 ∙ line_reads e w.1 in cc) in
        here s p l ls r (subst (Fault s p l) z (shape none))
    by ih (Some e) f q = if ih e f (entry_check s p e) refl q

bad_refused : (s : Standing) (p : ℕ) (es : List Entry) (l : List ℕ) (ls : List (List ℕ)) (r : Refusal) → AllByRecursion Brief es → Chain s es → Fault (after_all s es) (p + length (ended 10 (map line es))) l r → checked s p (map line es ++ (l ∷ ls)) ≡ Err r
bad_refused s p [] l ls r b c f = by (parse_line l) (subst (λ q. line_check s q l ≡ Err r) (omega arith) (fault_from s (p + 0) l r f))
  where
    by : (o : Option Entry) → option o (Err (Shape p)) (entry_check s p) ≡ Err r → option o (Err (Shape p)) (λ e. and_then (entry_check s p e) (λ t. onto e (checked t (p + (length l + 1)) ls))) ≡ Err r
    by None q = let z : Shape p ≡ r = cc in ap (λ x. Err x) z
    by (Some e) q = rw q refl
bad_refused s p (e ∷ es) l ls r b c f =
    let f' = subst (λ q. Fault (after_all (after s e) es) q l r) (omega (arith, long (line e) (map line es))) f in
    rw (line_reads e b.0, stands_from s p e c.0, bad_refused (after s e) (p + (length (line e) + 1)) es l ls r b.1 c.1 f') refl

pub refused_gives : (p : ℕ) (ls : List (List ℕ)) (r : Refusal) → check p ls ≡ Err r → Refused p ls r
refused_gives p [] r q = let z : Shape p ≡ r = cc in inl (refl, sym z)
refused_gives p (l ∷ ls) r q = inr (first_bad start p (l ∷ ls) r q)

pub refused_from : (p : ℕ) (ls : List (List ℕ)) (r : Refusal) → Refused p ls r → check p ls ≡ Err r
refused_from p ls r (inl h) = rw (h.0, h.1) refl
refused_from p ls r (inr b) = by ls b.parts (ap (checked start p) b.parts ∙ bad_refused start p b.good b.bad b.rest r b.brief b.stand b.fault)
  where
    by : (ls : List (List ℕ)) → ls ≡ map line b.good ++ (b.bad ∷ b.rest) → checked start p ls ≡ Err r → check p ls ≡ Err r
    by [] e q = cc
    by (l ∷ ls) e q = q

-- no line is refused for want of room, nor as the file
pub not_line : (p : ℕ) (lines : List (List ℕ)) (r : Refusal) → Refused p lines r → (r ≡ Room → ⊥) × (r ≡ File → ⊥)
not_line p lines r (inl h) = (λ e. (let z : Shape p ≡ Room = sym h.1 ∙ e in cc), λ e. (let z : Shape p ≡ File = sym h.1 ∙ e in cc))
not_line p lines r (inr b) = by (after_all start b.good) (p + length (ended 10 (map line b.good))) r b.fault
  where
    by : (s : Standing) (q : ℕ) (r : Refusal) → Fault s q b.bad r → (r ≡ Room → ⊥) × (r ≡ File → ⊥)
    by s q r (shape h) = (λ e. cc, λ e. cc)
    by s q r (size e w i j) = (λ e. cc, λ e. cc)
    by s q r (node e w i j k) = (λ e. cc, λ e. cc)
    by s q r (order e w i j k m) = (λ e. cc, λ e. cc)
    by s q r (crossed e w i j k m n) = (λ e. cc, λ e. cc)
