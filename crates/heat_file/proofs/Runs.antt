-- A word begins where `begins_at` says so, and reaches to the first space or line feed.
use Rattle.std.proofs.Common.{take, ◌∙◌, eqb, Option, ◌≡◌, ℕ, zero, suc, ◌+◌, ◌-◌, ◌<◌, ◌≤◌, Bool, true, false, cond, List, [], length, drop, get_or, slice_index, Some, None, refl, sym, ap, subst, arith, not, add-zero}
use Rattle.std.specs.Prelude.{position, unwrap_or, nat_lt}
use Rattle.std.specs.List.{position_or_len}
use Rattle.std.proofs.lemmas.List.{length-drop, length-take-le, get_or-drop}
use Rattle.std.proofs.lemmas.List.Sums.{position_or_len_is, prefix_len-le-length, fails_before_first, passes_at_first}
use Rattle.std.proofs.lemmas.Bool.Decides.{nat_tests}
use Rattle.std.proofs.lemmas.Bool.{eqb-true, eqb-false, lt-ltb, ltb-false}
use Rattle.heat_file.specs.Words.{Spelled, Listed, here, there, AreWords, IsEveryWord, is_gap, IsRun, IsWord, gap_before, begins_at, run, spelled, word_at, joined, words_among, words_from}

-- what `begins_at` says
pub record Begins (file : List ℕ) (place : ℕ) : Type 0 where
  pub within : place < length file
  pub some : is_gap (slice_index file place) ≡ false
  pub before : gap_before file place ≡ true

pub begins_parts : (file : List ℕ) (place : ℕ) → begins_at file place ≡ true → Begins file place
begins_parts file place e = by (nat_lt place (length file)) refl (is_gap (slice_index file place)) refl e
  where
    by : (a : Bool) → nat_lt place (length file) ≡ a → (b : Bool) → is_gap (slice_index file place) ≡ b → cond a (cond b false (gap_before file place)) false ≡ true → Begins file place
    by true p true q e = cc
    by true p false q e = record { within = grind (arith, nat_tests); some = q; before = e }
    by false p b q e = cc

pub begins_from : (file : List ℕ) (place : ℕ) → Begins file place → begins_at file place ≡ true
begins_from file place b = rw (lt-ltb place (length file) b.within, b.some) b.before

gap_there : (file : List ℕ) (place : ℕ) → gap_before file place ≡ true → (k : ℕ) → k + 1 ≡ place → is_gap (slice_index file k) ≡ true
gap_there file zero e k p = absurd (omega arith)
gap_there file (suc j) e k p = let q : k ≡ j = omega arith in rw q e

gap_is : (file : List ℕ) (place : ℕ) → ((k : ℕ) → k + 1 ≡ place → is_gap (slice_index file k) ≡ true) → gap_before file place ≡ true
gap_is file zero h = refl
gap_is file (suc j) h = h j (omega arith)

position_or_length : (p : ℕ → Bool) (xs : List ℕ) → unwrap_or (position p xs) (length xs) ≡ position_or_len p xs
position_or_length p xs = by (nat_lt (position_or_len p xs) (length xs)) refl
  where
    by : (b : Bool) → nat_lt (position_or_len p xs) (length xs) ≡ b → unwrap_or (cond b (Some (position_or_len p xs)) None) (length xs) ≡ position_or_len p xs
    by true e = refl
    by false e = omega (arith, prefix_len-le-length (λ b. not (p b)) xs, ltb-false (position_or_len p xs) (length xs) e)

module _ (file : List ℕ) (place : ℕ) where
  abbrev rest : List ℕ
  rest = drop place file

  abbrev count : ℕ
  count = unwrap_or (position is_gap rest) (length rest)

  count_is : count ≡ position_or_len is_gap rest
  count_is = position_or_length is_gap rest

  count_le : count ≤ length rest
  count_le = rw count_is (prefix_len-le-length (λ b. not (is_gap b)) rest)

  run_length : length (run rest) ≡ count
  run_length = length-take-le count rest count_le

  inside : (k : ℕ) → k < count → is_gap (slice_index file (place + k)) ≡ false
  inside k h = subst (λ b. is_gap b ≡ false) (get_or-drop place file k 0) (fails_before_first is_gap rest k 0 (rw count_is at h))

  behind : count < length rest → is_gap (slice_index file (place + count)) ≡ true
  behind h = subst (λ b. is_gap b ≡ true) (get_or-drop place file count 0) (subst (λ c. is_gap (get_or rest c 0) ≡ true) (sym count_is) (passes_at_first is_gap rest 0 (rw count_is at h)))

  some_count : is_gap (slice_index file place) ≡ false → place < length file → 1 ≤ count
  some_count s w = by count refl
    where
      by : (c : ℕ) → count ≡ c → 1 ≤ c
      by zero e =
          let t : is_gap (slice_index file (place + zero)) ≡ true = subst (λ c. is_gap (slice_index file (place + c)) ≡ true) e (behind (omega (arith, length-drop place file))) in
          let u : is_gap (slice_index file place) ≡ true = rw add-zero at t in
          cc
      by (suc c) e = omega arith

  pub run_there : Begins file place → IsRun file place (run rest)
  run_there b = record {
    fits = rw run_length (omega (arith, b.within, count_le, length-drop place file));
    stands_there = rw run_length refl;
    some = rw run_length (some_count b.some b.within);
    whole = λ k low high.
        let h : k < place + count = rw run_length at high in
        let e : place + (k - place) ≡ k = omega arith in
        subst (λ j. is_gap (slice_index file j) ≡ false) e (inside (k - place) (omega arith));
    begins = gap_there file place b.before;
    ends = λ h. rw run_length (behind (omega (arith, (rw run_length at h), length-drop place file)));
  }

  pub word_there : begins_at file place ≡ true → IsWord file place (spelled (run rest) place)
  word_there e = record { run = run_there (begins_parts file place e); kind_told = refl; there = refl }

-- one place further
pub words_step : (file : List ℕ) (place : ℕ) → place < length file → words_from file place ≡ joined (word_at file place) (words_from file (place + 1))
words_step file place h =
    let e : length file - place ≡ suc (length file - (place + 1)) = omega arith in
    ap (words_among file place) e

pub words_past : (file : List ℕ) (place : ℕ) → length file ≤ place → words_from file place ≡ []
words_past file place h =
    let e : length file - place ≡ 0 = omega arith in
    ap (words_among file place) e

-- ---- every word

-- a run that begins at a place is the one that is told there
pub one_run : (file : List ℕ) (place : ℕ) (bytes : List ℕ) → IsRun file place bytes → bytes ≡ run (drop place file)
one_run file place bytes r =
    let n = length bytes in
    let rest = drop place file in
    let l : length rest ≡ length file - place = length-drop place file in
    let e : position_or_len is_gap rest ≡ n =
    position_or_len_is is_gap rest n 0 (omega (arith, r.fits))
    (λ k h. subst (λ b. is_gap b ≡ false) (sym (get_or-drop place file k 0)) (r.whole (place + k) (omega arith) (omega arith)))
    (λ h. subst (λ b. is_gap b ≡ true) (sym (get_or-drop place file n 0)) (r.ends (omega (arith, r.fits)))) in
    r.stands_there ∙ ap (λ k. take k rest) (sym (position_or_length is_gap rest ∙ e))

pub begins_there : (file : List ℕ) (place : ℕ) (bytes : List ℕ) → IsRun file place bytes → begins_at file place ≡ true
begins_there file place bytes r = begins_from file place (record {
  within = omega (arith, r.fits, r.some);
  some = r.whole place (omega arith) (omega (arith, r.some));
  before = gap_is file place r.begins;
})

told_there : (file : List ℕ) (w : Spelled) → IsWord file w.place w → word_at file w.place ≡ Some w
told_there file w h =
    let b : begins_at file w.place ≡ true = begins_there file w.place w.bytes h.run in
    let e : run (drop w.place file) ≡ w.bytes = sym (one_run file w.place w.bytes h.run) in
    rw (b, e, sym h.kind_told) refl

words_listed : (file : List ℕ) (w : Spelled) → IsWord file w.place w → (more place : ℕ) → place ≤ w.place → w.place < place + more → Listed w (words_among file place more)
words_listed file w h zero place low high = absurd (omega arith)
words_listed file w h (suc more) place low high = by (eqb place w.place) refl (λ l. words_listed file w h more (place + 1) l (omega arith))
  where
    passed : (o : Option Spelled) (ws : List Spelled) → Listed w ws → Listed w (joined o ws)
    passed None ws l = l
    passed (Some v) ws l = there l

    by : (b : Bool) → eqb place w.place ≡ b → (place + 1 ≤ w.place → Listed w (words_among file (place + 1) more)) → Listed w (joined (word_at file place) (words_among file (place + 1) more))
    by true e later =
        let p : word_at file place ≡ Some w = ap (word_at file) (eqb-true place w.place e) ∙ told_there file w h in
        rw p here
    by false e later =
        let n : place ≡ w.place → ⊥ = eqb-false place w.place e in
        passed (word_at file place) (words_among file (place + 1) more) (later (omega arith))

words_in_order : (file : List ℕ) (more place from : ℕ) → from ≤ place → AreWords file from (words_among file place more)
words_in_order file zero place from h = tt
words_in_order file (suc more) place from h = by (begins_at file place) refl (λ f g. words_in_order file more (place + 1) f g)
  where
    by : (b : Bool) → begins_at file place ≡ b → ((f : ℕ) → f ≤ place + 1 → AreWords file f (words_among file (place + 1) more)) → AreWords file from (joined (cond b (Some (spelled (run (drop place file)) place)) None) (words_among file (place + 1) more))
    by true e later = (word_there file place e, h, later (place + 1) (omega arith))
    by false e later = later from (omega arith)

pub every_word : (file : List ℕ) → IsEveryWord file (words_from file 0)
every_word file = record {
  in_order = words_in_order file (length file - 0) 0 0 (omega arith);
  none_left_out = λ w h. words_listed file w h (length file - 0) 0 (omega arith) (omega (arith, h.run.fits, h.run.some));
}
