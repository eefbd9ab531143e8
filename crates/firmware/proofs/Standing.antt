-- What the caller's ranges stand for.
use Rattle.std.proofs.Common.{◌≡◌, ℕ, ◌==◌, Bool, true, false, if◌then◌else◌, List, [], length, ℤ, Ok, Err, OnOk, MatchResult, Result, refl, sym, ap, ◌∙◌, subst, arith}
use borrow.Author.Differences.{ints}
use Rattle.balance.specs.declared.range.Range.{Range}
use Rattle.balance.specs.declared.refusal.Refusal.{Refusal}
use Rattle.balance.specs.declared.refusal.Refusal.TheVariants.{Size}
use Rattle.balance.specs.Cells.{range_ends}
use Rattle.balance.specs.Ranges.{Ordered}
use Rattle.balance.specs.Meanings.{Meaning, Lawful}
use Rattle.balance.specs.Tables.{Counted}
use Rattle.balance.specs.TablesLemmas.{table_lawful}
use Rattle.roast.specs.Certificates.{opening, first_box, Opens, OpensExactly}
use Rattle.roast.specs.Narrowing.{Box, narrowed}
use Rattle.roast.specs.Machine.{Transition, replacement, row_step, round, reading}
use Rattle.roast.specs.Runs.{Bound, Holds}
use Rattle.roast.proofs.FirstBox.{first_length, first_box_holds}
use Rattle.roast.proofs.Openings.{opens_exactly}
use Rattle.roast.proofs.Solvable.{opened_able}
use Rattle.heat_file.specs.Checks.{and_then}
use Rattle.file_box.specs.Findings.{is_counted}
use Rattle.firmware.specs.Drums.{drum, first, read_from, held, settling, KeepsSolutions}
use Rattle.roast.proofs.Sits.{Sits, sits_first}
use Rattle.firmware.proofs.Boxes.{sits_led, again}
use Rattle.firmware.proofs.Leads.{Leads, bounds, in_bounds, leads_long, leads_holds, row_step_leads, round_leads, reading_leads, settling_leads, read_leads}

-- a call was made, or is refused
abbrev pub Made : {X : Type 0} → Result X Refusal → Box → Transition X → Type 0
Made a C t = MatchResult a (λ x. (Ok x, C) ≡ t) (λ e. Err e ≡ t.0)

made : {X : Type 0} (a : Result X Refusal) (C : Box) (t : Transition X) → (a, C) ≡ t → Made a C t
made (Ok x) C t e = e
made (Err r) C t e = ap (λ t. t.0) e

range_ordered : (r : Range) → Ordered (range_ends r)
range_ordered r = grind (arith, ints)

pub counted : (n count : ℕ) → is_counted n count ≡ true → Counted n count
counted n count e = grind arith

pub lawful_drum : (n : ℕ) (cells : List Range) → is_counted n (length cells) ≡ true → Lawful (drum n cells)
lawful_drum n cells e = table_lawful range_ends range_ordered n cells (length cells) (counted n (length cells) e)

module _ (n : ℕ) (cells : List Range) (us : List ℤ) (ranges : Box) where
  abbrev m : Meaning
  m = drum n cells

  -- what is known where an opening for the caller's ranges succeeds
  pub record First (B : Box) : Type 0 where
    pub tested : is_counted n (length cells) ≡ true
    pub long : length ranges ≡ n
    pub opens : Opens m us
    pub is : B ≡ first_box m us

  pub first_is : (B : Box) → first n cells us ranges ≡ Ok B → First B
  first_is B e = by (is_counted n (length cells)) (length ranges == n) (opening m us) refl refl (opens_exactly m us) e
    where
      by : (t u : Bool) (o : Result (List Range) Refusal) → is_counted n (length cells) ≡ t → (length ranges == n) ≡ u → OpensExactly m us o → (if t then if u then o else Err (Size 0) else Err (Size 0)) ≡ Ok B → First B
      by true true (Ok F) p q h e =
          let b : F ≡ B = cc in
          record { tested = p; long = grind arith; opens = h.0; is = sym b ∙ h.1 }
      by true true (Err r) p q h e = cc
      by true false o p q h e = cc
      by false u o p q h e = cc

  pub opened_is : (before C : Box) → (Ok tt, C) ≡ replacement before (first n cells us ranges) → First C
  opened_is before C e = by (first n cells us ranges) refl e
    where
      by : (o : Result Box Refusal) → first n cells us ranges ≡ o → (Ok tt, C) ≡ replacement before o → First C
      by (Ok F) p e = first_is C (p ∙ ap (λ t. Ok t.1) (sym e))
      by (Err r) p e = let a = ap (λ (t : Transition (Unit {0})). t.0) e in cc

  pub opened_long : (before C : Box) (a : Result (Unit {0}) Refusal) → (a, C) ≡ replacement before (first n cells us ranges) → OnOk a (length ranges ≡ length C)
  opened_long before C (Ok done) e = let f = opened_is before C e in f.long ∙ sym (ap length f.is ∙ first_length m us)
  opened_long before C (Err r) e = tt

  -- what is known of the box that they stand for
  pub record Held (B : Box) : Type 0 where
    pub tested : is_counted n (length cells) ≡ true
    pub long : length B ≡ length ranges
    pub sits : Sits m us B
    pub keeps : KeepsSolutions m ranges B

  pub held_is : (B : Box) → held n cells us ranges ≡ Ok B → Held B
  held_is B e = by (first n cells us ranges) refl e
    where
      by : (o : Result Box Refusal) → first n cells us ranges ≡ o → and_then o (λ box. read_from box 1 ranges) ≡ Ok B → Held B
      by (Ok F) p e =
          let f = first_is F p in
          let lawful = lawful_drum n cells f.tested in
          let leads = read_leads (narrowed m) 1 ranges F B e in
          let start = subst (Sits m us) (sym f.is) (sits_first m us f.opens) in
          let s = sits_led m us (bounds 1 ranges) F B leads start in
          record {
            tested = f.tested;
            long = s.below.long ∙ (first_length m us ∙ sym f.long);
            sits = s;
            keeps = λ t x solves h.
                let inside = subst (λ F. Holds m F x) (sym f.is) (first_box_holds m us lawful f.opens.passes t x solves) in
                let each = in_bounds x 1 ranges (λ j p q. h j (p, omega (arith, f.long))) in
                leads_holds m lawful (opened_able m us f.opens) t x solves (bounds 1 ranges) each F B leads (ap length f.is ∙ first_length m us) inside;
          }
      by (Err r) p e = cc

  -- an accepted call on it leaves as many ranges
  left_long : {X : Type 0} (bs : List Bound) (B C : Box) (a : Result X Refusal) (t : Transition X) → Ok B ≡ held n cells us ranges → Made a C t → ((x : X) → (Ok x, C) ≡ t → Leads (narrowed m) bs B C) → OnOk a (length ranges ≡ length C)
  left_long bs B C (Ok x) t h e leads = sym (leads_long (narrowed m) bs B C (leads x e) ∙ (held_is B (sym h)).long)
  left_long bs B C (Err r) t h e leads = tt

  module _ (B C : Box) (h : Ok B ≡ held n cells us ranges) where
    pub row_step_long : (i : ℕ) (a : Result Bool Refusal) → (a, C) ≡ row_step (narrowed m) B i → OnOk a (length ranges ≡ length C)
    row_step_long i a e = left_long [] B C a _ h (made a C _ e) (row_step_leads (narrowed m) B C i)

    pub round_long : (a : Result ℕ Refusal) → (a, C) ≡ round (narrowed m) B → OnOk a (length ranges ≡ length C)
    round_long a e = left_long [] B C a _ h (made a C _ e) (round_leads (narrowed m) B C)

    pub reading_long : (i : ℕ) (l u : ℤ) (a : Result Bool Refusal) → (a, C) ≡ reading B i l u → OnOk a (length ranges ≡ length C)
    reading_long i l u a e = left_long _ B C a _ h (made a C _ e) (reading_leads (narrowed m) B C i l u)

    pub settling_long : (a : Result Bool Refusal) → Made a C (settling (narrowed m) B) → OnOk a (length ranges ≡ length C)
    settling_long a e = left_long [] B C a _ h e (settling_leads (narrowed m) B C)

  -- a box that lies in the first box stands for itself
  pub stands : (B : Box) → is_counted n (length cells) ≡ true → Sits m us B → held n cells us B ≡ Ok B
  stands B p s =
      let long : length B ≡ n = s.below.long ∙ first_length m us in
      let q : (length B == n) ≡ true = grind arith in
      rw (p, q) (again m us B s)
