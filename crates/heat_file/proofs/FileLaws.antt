-- The laws of a call that fills from a file, from what it answers and leaves.
use Rattle.std.proofs.Common.{◌≡◌, ℕ, ◌+◌, ◌-◌, ◌*◌, ◌≤◌, Bool, true, false, cond, List, ◌∷◌, map, length, get_or, drop, ℤ, pos, Some, None, Option, Ok, Err, Result, ◌⊎◌, inl, inr, sym, refl, ap, ◌∙◌, subst, arith}
use Rattle.std.proofs.lemmas.Bool.{le-leb, leb-true, and_parts, and_from, true≢false}
use Rattle.balance.specs.declared.range.Range.{Range}
use Rattle.balance.specs.declared.refusal.Refusal.{Refusal}
use Rattle.balance.specs.declared.refusal.Refusal.TheVariants.{File, Room}
use Rattle.balance.specs.Ranges.{only}
use Rattle.heat_file.specs.declared.line.Entry.{Entry}
use Rattle.heat_file.specs.declared.line.Entry.TheVariants.{Size}
use Rattle.heat_file.specs.Cuts.{cut}
use Rattle.heat_file.specs.Lines.{line}
use Rattle.heat_file.specs.Checks.{check, told}
use Rattle.heat_file.specs.Files.{located, read, Framed}
use Rattle.heat_file.specs.Forms.{Holds, Refused}
use Rattle.heat_file.specs.Filled.{index, cells, certificate, cleared, has_room, size, answer, cells_after, certificate_after}
use Rattle.heat_file.specs.Laws.{HasRoom, AcceptsFiles, TellsSize, WantsRoom, WantsFrame, RefusesFirstBad, OneReading, CellsHold, WeightsHold, KeepsRest}
use Rattle.heat_file.proofs.Frames.{located_gives, framed_located, framed_read}
use Rattle.heat_file.proofs.Checking.{check_from, check_gives, refused_from, refused_gives, not_line}
use Rattle.heat_file.proofs.GoodFiles.{size_is}
use Rattle.heat_file.proofs.Placing.{room_for, cells_hold, weights_hold, cells_long, cells_keep, weights_long, weights_keep, cleared_long, cleared_keeps}

pub holds_read : (bs : List ℕ) (n : ℕ) (es : List Entry) → Holds bs n es → read bs ≡ Ok (Size (pos n) ∷ es)
holds_read bs n es h = framed_read bs h.remarks (map line (Size (pos n) ∷ es)) h.framed ∙ check_from (length h.remarks) n es h.form

-- what is read of a file whose data lines are located
abbrev Read : List ℕ → Result (List Entry) Refusal → Type 0
Read bs a = (((remarks : List ℕ) (lines : List (List ℕ)) → Framed bs remarks lines → ⊥) × (a ≡ Err File)) ⊎ ((remarks : List ℕ) × (lines : List (List ℕ)) × Framed bs remarks lines × (a ≡ check (length remarks) lines))

read_by_frame : (bs : List ℕ) → Read bs (read bs)
read_by_frame bs = by (located bs) refl
  where
    by : (o : Option (ℕ × List ℕ)) → located bs ≡ o → Read bs (read bs)
    by None q = inl (λ r ls h. (let z : ◌≡◌ {A = Option (ℕ × List ℕ)} None (Some (length r, _)) = sym q ∙ framed_located bs r ls h in cc), rw q refl)
    by (Some (p, d)) q =
        let f = located_gives bs p d q in
        inr (f.remarks, cut 10 d, f.framed, framed_read bs f.remarks (cut 10 d) f.framed)

pub accepted_holds : (bs : List ℕ) (es : List Entry) → read bs ≡ Ok es → (n : ℕ) × (fs : List Entry) × (es ≡ Size (pos n) ∷ fs) × Holds bs n fs
accepted_holds bs es q = by (read_by_frame bs)
  where
    by : Read bs (read bs) → (n : ℕ) × (fs : List Entry) × (es ≡ Size (pos n) ∷ fs) × Holds bs n fs
    by (inl h) = (let z : ◌≡◌ {A = Result (List Entry) Refusal} (Ok es) (Err File) = sym q ∙ h.1 in cc)
    by (inr h) =
        let g = check_gives (length h.0) h.1 es (sym h.3 ∙ q) in
        (g.0, g.1, g.2, record { remarks = h.0; framed = subst (Framed bs h.0) (g.3 ∙ ap (map line) g.2) h.2; form = g.4 })

pub one_reading : (bs : List ℕ) → OneReading bs
one_reading bs n m es fs h k =
    let q : ◌≡◌ {A = Result (List Entry) Refusal} (Ok (Size (pos n) ∷ es)) (Ok (Size (pos m) ∷ fs)) = sym (holds_read bs n es h) ∙ holds_read bs m fs k in
    let z : ◌≡◌ {A = List Entry} (Size (pos n) ∷ es) (Size (pos m) ∷ fs) = cc in
    let i : n ≡ m = sym (size_is n es h.form) ∙ ap size z ∙ size_is m fs k.form in
    (i, cc)

room_from : (n c u : ℕ) → HasRoom n c u → has_room n c u ≡ true
room_from n c u h = and_from _ _ (le-leb _ _ h.0) (le-leb _ _ h.1)

room_gives : (n c u : ℕ) → has_room n c u ≡ true → HasRoom n c u
room_gives n c u e = let h = and_parts _ _ e in (leb-true _ _ h.0, leb-true _ _ h.1)

-- what a file answers and leaves
pub record Laws (bs : List ℕ) (cs cs' : List Range) (us us' : List ℤ) (r : Result ℕ Refusal) : Type 0 where
  pub accepts : AcceptsFiles bs (length cs) (length us) r
  pub room : WantsRoom bs (length cs) (length us) r
  pub frame : WantsFrame bs r
  pub first_bad : RefusesFirstBad bs r
  pub cells : CellsHold bs r cs'
  pub weights : WeightsHold bs r us'
  pub rest : KeepsRest r cs cs' us us'

module _ (bs : List ℕ) (c u : ℕ) (r : Result ℕ Refusal) (q : r ≡ answer (read bs) c u) where
  by_room : (es : List Entry) → read bs ≡ Ok es → r ≡ cond (has_room (size es) c u) (Ok (size es)) (Err Room)
  by_room es f = q ∙ ap (λ a. answer a c u) f

  holds_answer : (n : ℕ) (es : List Entry) → Holds bs n es → r ≡ cond (has_room n c u) (Ok n) (Err Room)
  holds_answer n es h = by_room (Size (pos n) ∷ es) (holds_read bs n es h) ∙ ap (λ n. cond (has_room n c u) (Ok n) (Err Room)) (size_is n es h.form)

  framed_answer : (remarks : List ℕ) (lines : List (List ℕ)) → Framed bs remarks lines → r ≡ answer (check (length remarks) lines) c u
  framed_answer remarks lines h = q ∙ ap (λ a. answer a c u) (framed_read bs remarks lines h)

  -- of an accepted file
  abbrev Kept : ℕ → Type 0
  Kept n = (es : List Entry) × Holds bs n es × HasRoom n c u

  kept : (n : ℕ) → r ≡ Ok n → Kept n
  kept n e = by (read bs) refl
    where
      on : (m : ℕ) (fs : List Entry) → Holds bs m fs → (b : Bool) → has_room m c u ≡ b → r ≡ cond b (Ok m) (Err Room) → Kept n
      on m fs h true k f = let z : m ≡ n = (let y : Ok m ≡ Ok n = sym f ∙ e in cc) in subst Kept z (fs, h, room_gives m c u k)
      on m fs h false k f = (let y : ◌≡◌ {A = Result ℕ Refusal} (Err Room) (Ok n) = sym f ∙ e in cc)

      by : (a : Result (List Entry) Refusal) → read bs ≡ a → Kept n
      by (Err x) f = (let y : ◌≡◌ {A = Result ℕ Refusal} (Err x) (Ok n) = sym (q ∙ ap (λ a. answer a c u) f) ∙ e in cc)
      by (Ok es) f =
          let h = accepted_holds bs es f in
          on h.0 h.1 h.3 (has_room h.0 c u) refl (holds_answer h.0 h.1 h.3)

  accepts : AcceptsFiles bs c u r
  accepts n = (kept n, λ h. holds_answer n h.0 h.1 ∙ rw (room_from n c u h.2) refl)

  refused_for_room : r ≡ Err Room → (n : ℕ) × (es : List Entry) × Holds bs n es × (HasRoom n c u → ⊥)
  refused_for_room e = by (read bs) refl
    where
      on : (m : ℕ) (fs : List Entry) → Holds bs m fs → (b : Bool) → has_room m c u ≡ b → r ≡ cond b (Ok m) (Err Room) → (n : ℕ) × (es : List Entry) × Holds bs n es × (HasRoom n c u → ⊥)
      on m fs h true k f = (let y : ◌≡◌ {A = Result ℕ Refusal} (Ok m) (Err Room) = sym f ∙ e in cc)
      on m fs h false k f = (m, fs, h, λ x. true≢false (sym (room_from m c u x) ∙ k))

      line : Read bs (read bs) → (x : Refusal) → read bs ≡ Err x → x ≡ Room → ⊥
      line (inl h) x f z = (let y : ◌≡◌ {A = Result (List Entry) Refusal} (Err File) (Err Room) = sym h.1 ∙ f ∙ ap (λ x. Err x) z in cc)
      line (inr h) x f z = (not_line (length h.0) h.1 x (refused_gives (length h.0) h.1 x (sym h.3 ∙ f))).0 z

      by : (a : Result (List Entry) Refusal) → read bs ≡ a → (n : ℕ) × (es : List Entry) × Holds bs n es × (HasRoom n c u → ⊥)
      by (Err x) f = absurd (line (read_by_frame bs) x f (let y : ◌≡◌ {A = Result ℕ Refusal} (Err x) (Err Room) = sym (q ∙ ap (λ a. answer a c u) f) ∙ e in cc))
      by (Ok es) f =
          let h = accepted_holds bs es f in
          on h.0 h.1 h.3 (has_room h.0 c u) refl (holds_answer h.0 h.1 h.3)

  wants_room : WantsRoom bs c u r
  wants_room = (refused_for_room, λ h. holds_answer h.0 h.1 h.2 ∙ by h.0 h.3 (has_room h.0 c u) refl)
    where
      by : (n : ℕ) → (HasRoom n c u → ⊥) → (b : Bool) → has_room n c u ≡ b → cond (has_room n c u) (Ok n) (Err Room) ≡ Err Room
      by n lack true k = absurd (lack (room_gives n c u k))
      by n lack false k = rw k refl

  pub wants_frame : WantsFrame bs r
  wants_frame = (λ e remarks lines h. fwd remarks lines (check (length remarks) lines) refl (sym (framed_answer remarks lines h) ∙ e), λ none. bwd none (read_by_frame bs))
    where
      fwd : (remarks : List ℕ) (lines : List (List ℕ)) (a : Result (List Entry) Refusal) → check (length remarks) lines ≡ a → answer a c u ≡ Err File → ⊥
      fwd remarks lines (Err x) f e = (not_line (length remarks) lines x (refused_gives (length remarks) lines x f)).1 (let y : ◌≡◌ {A = Result ℕ Refusal} (Err x) (Err File) = e in cc)
      fwd remarks lines (Ok es) f e = on (has_room (size es) c u) e
        where
          on : (b : Bool) → cond b (Ok (size es)) (Err Room) ≡ Err File → ⊥
          on true e = cc
          on false e = cc

      bwd : ((remarks : List ℕ) (lines : List (List ℕ)) → Framed bs remarks lines → ⊥) → Read bs (read bs) → r ≡ Err File
      bwd none (inl h) = q ∙ ap (λ a. answer a c u) h.1
      bwd none (inr h) = absurd (none h.0 h.1 h.2)

  pub refuses_first_bad : RefusesFirstBad bs r
  refuses_first_bad remarks lines h x other = (
    λ e. by (check (length remarks) lines) refl (sym (framed_answer remarks lines h) ∙ e),
    λ b. framed_answer remarks lines h ∙ ap (λ a. answer a c u) (refused_from (length remarks) lines x b),
  )
    where
      by : (a : Result (List Entry) Refusal) → check (length remarks) lines ≡ a → answer a c u ≡ Err x → Refused (length remarks) lines x
      by (Err y) f e = let z : y ≡ x = cc in refused_gives (length remarks) lines x (f ∙ ap (λ x. Err x) z)
      by (Ok es) f e = on (has_room (size es) c u) e
        where
          on : (b : Bool) → cond b (Ok (size es)) (Err Room) ≡ Err x → Refused (length remarks) lines x
          on true e = cc
          on false e = absurd (other (let z : Room ≡ x = cc in sym z))

-- with room for 32 nodes only the size counts
pub told_is_answer : (bs : List ℕ) → told (pos 0) (read bs) ≡ answer (read bs) 1056 32
told_is_answer bs = by (read bs) refl
  where
    by : (a : Result (List Entry) Refusal) → read bs ≡ a → told (pos 0) a ≡ answer a 1056 32
    by (Err x) f = refl
    by (Ok es) f =
        let h = accepted_holds bs es f in
        let e : size es ≡ h.0 = ap size h.2 ∙ size_is h.0 h.1 h.3.form in
        let l : size es ≤ 32 = omega (arith, e, h.3.form.few) in
        sym (rw (room_from (size es) 1056 32 (room_for (size es) l, l)) refl)

pub tells_size : (bs : List ℕ) (r : Result ℕ Refusal) → r ≡ told (pos 0) (read bs) → TellsSize bs r
tells_size bs r q n =
    let a = accepts bs 1056 32 r (q ∙ told_is_answer bs) n in
    (λ e. let k = a.0 e in (k.0, k.1), λ h. q ∙ ap (told (pos 0)) (holds_read bs n h.0 h.1) ∙ ap (λ n. Ok n) (size_is n h.0 h.1.form))

pub laws : (bs : List ℕ) (cs cs' : List Range) (us us' : List ℤ) (r : Result ℕ Refusal) → r ≡ answer (read bs) (length cs) (length us) → cs' ≡ cells_after r (read bs) cs → us' ≡ certificate_after r (read bs) us → Laws bs cs cs' us us' r
laws bs cs cs' us us' r q p s = record {
  accepts = accepts bs (length cs) (length us) r q;
  room = wants_room bs (length cs) (length us) r q;
  frame = wants_frame bs (length cs) (length us) r q;
  first_bad = refuses_first_bad bs (length cs) (length us) r q;
  cells = λ n es e h i j a b d f. ap (λ cs. get_or cs (index n i j) (only (pos 0))) (cells_are n es e h) ∙ cells_hold n i j a b d f es cs h.form.nodes (room n e).0;
  weights = λ n es e h i a b. ap (λ us. get_or us (i - 1) (pos 1)) (weights_are n es e h) ∙ weights_hold n i a b es us h.form.nodes (room n e).1;
  rest = by r refl;
}
  where
    room : (n : ℕ) → r ≡ Ok n → HasRoom n (length cs) (length us)
    room n e = (kept bs (length cs) (length us) r q n e).2

    cells_are : (n : ℕ) (es : List Entry) → r ≡ Ok n → Holds bs n es → cs' ≡ cells n es cs
    cells_are n es e h = p ∙ (λ i. cells_after (e i) (holds_read bs n es h i) cs)

    weights_are : (n : ℕ) (es : List Entry) → r ≡ Ok n → Holds bs n es → us' ≡ certificate n es us
    weights_are n es e h = s ∙ (λ i. certificate_after (e i) (holds_read bs n es h i) us)

    by : (a : Result ℕ Refusal) → r ≡ a → KeepsRest a cs cs' us us'
    by (Err x) e = (p ∙ ap (λ a. cells_after a (read bs) cs) e, s ∙ ap (λ a. certificate_after a (read bs) us) e)
    by (Ok n) e =
        let k = kept bs (length cs) (length us) r q n e in
        let es = k.0 in
        let h = k.1 in
        let m = n * (n + 1) in
        let z = only (pos 0) in
        let f = cells_are n es e h in
        let g = weights_are n es e h in (
          ap length f ∙ cells_long n es (cleared m z cs) ∙ cleared_long m z cs k.2.0,
          ap (drop m) f ∙ cells_keep n es (cleared m z cs) h.form.nodes ∙ cleared_keeps m z cs,
          ap length g ∙ weights_long n es (cleared n (pos 1) us) ∙ cleared_long n (pos 1) us k.2.1,
          ap (drop n) g ∙ weights_keep n es (cleared n (pos 1) us) h.form.nodes ∙ cleared_keeps n (pos 1) us,
        )
