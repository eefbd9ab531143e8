-- What each call keeps, and that the next one goes on from it.
use Rattle.std.proofs.Common.{◌≡◌, ℕ, Bool, true, false, if◌then◌else◌, List, [], ◌∷◌, length, ℤ, Ok, Err, None, Some, Option, Result, refl, sym, ap, ◌∙◌, subst, arith}
use Rattle.balance.specs.declared.range.Range.{Range}
use Rattle.balance.specs.declared.refusal.Refusal.{Refusal}
use Rattle.balance.specs.declared.refusal.Refusal.TheVariants.{Size}
use Rattle.balance.specs.Ranges.{range}
use Rattle.balance.specs.Meanings.{Meaning, Lawful}
use Rattle.balance.specs.Members.{Member, Point, Solves}
use Rattle.balance.specs.Places.{every, unless_refused, first_refusal}
use Rattle.balance.specs.Points.{numerator, point_refusal, fits, possible_answer, TellsPossible}
use Rattle.balance.proofs.Searches.{all_answer}
use Rattle.balance.proofs.PointRows.{allowed, answer_tells}
use Rattle.roast.specs.Narrowing.{Box, narrowed}
use Rattle.roast.specs.Machine.{Transition, all_or_none, row_step, round, reading}
use Rattle.roast.specs.Runs.{Bound, InAll, Holds}
use Rattle.roast.proofs.FirstBox.{first_length, first_box_holds, one_solution}
use Rattle.roast.proofs.Solvable.{opened_able}
use Rattle.file_box.specs.Findings.{is_counted, Encloses}
use Rattle.firmware.specs.declared.reply.Reply.{Reply}
use Rattle.firmware.specs.Replies.{refused, reply, no_value}
use Rattle.firmware.specs.Drums.{drum, held, called, settling, opening_call, row_step_call, round_call, settling_call, reading_call, possible_call, EnclosesIfAccepted, GoesOn}
use Rattle.roast.proofs.Sits.{Sits, sits_first}
use Rattle.firmware.proofs.Boxes.{sits_led}
use Rattle.firmware.proofs.Leads.{bound, Leads, leads_holds, row_step_leads, round_leads, reading_leads, settling_leads}
use Rattle.firmware.proofs.Standing.{First, opened_is, Held, held_is, lawful_drum, stands}

-- no refusal has the number 0
never_zero : (r : Refusal) → (refused r).refusal ≡ 0 → ⊥
never_zero r e = grind arith

-- ---- a point

answered : (m : Meaning) → Lawful m → (ps : List ℤ) (q : ℤ) → TellsPossible m ps q (possible_answer m ps q)
answered m lawful ps q = by (first_refusal m) (point_refusal m.size ps q) refl refl
  where
    by : (a b : Option Refusal) → first_refusal m ≡ a → point_refusal m.size ps q ≡ b → TellsPossible m ps q (unless_refused a (unless_refused b (Ok (every (fits m (numerator ps) q) m.size))))
    by None None e f = answer_tells m lawful (all_answer m e) ps q (allowed m.size ps q f)
    by None (Some r) e f = tt
    by (Some r) b e f = tt

pub tells_possible : (n : ℕ) (cells : List Range) (ps : List ℤ) (q : ℤ) → TellsPossible (drum n cells) ps q (possible_call n cells ps q)
tells_possible n cells ps q = by (is_counted n (length cells)) refl
  where
    by : (t : Bool) → is_counted n (length cells) ≡ t → TellsPossible (drum n cells) ps q (if t then possible_answer (drum n cells) ps q else Err (Size 0))
    by true e = answered (drum n cells) (lawful_drum n cells e) ps q
    by false e = tt

-- ---- a call on the box that the ranges stand for

module _ (n : ℕ) (cells : List Range) (us : List ℤ) (ranges : Box) where
  abbrev m : Meaning
  m = drum n cells

  -- what is known of an answer and of the ranges that are left with it
  pub record Kept {X : Type 0} (bs : List Bound) (a : Result X Refusal) (now : Box) : Type 0 where
    pub solutions : (s : Member m) (x : Point) → Solves m s x → Holds m ranges x → InAll x bs → Holds m now x
    pub goes_on : (value : X → ℕ) (r : Reply) → r ≡ reply value a → GoesOn n cells us r now

  module _ {X : Type 0} (call : Box → Transition X) (bs : List Bound) (leads : (B C : Box) (x : X) → (Ok x, C) ≡ call B → Leads (narrowed m) bs B C) where
    refused_kept : (r : Refusal) → Kept {X = X} bs (Err r) ranges
    refused_kept q = record {
      solutions = λ s x solves h all. h;
      goes_on = λ value r p z. absurd (never_zero q (sym (ap (λ (r : Reply). r.refusal) p) ∙ z));
    }

    accepted_kept : (x : X) (B C : Box) → Held n cells us ranges B → Leads (narrowed m) bs B C → Kept bs (Ok x) C
    accepted_kept x B C k l = record {
      solutions = λ s x solves h all. leads_holds m (lawful_drum n cells k.tested) (opened_able m us k.sits.opens) s x solves bs all B C l (k.sits.below.long ∙ first_length m us) (k.keeps s x solves h);
      goes_on = λ value r p z. stands n cells us ranges C k.tested (sits_led m us bs B C l k.sits);
    }

    kept : (a : Result X Refusal) (now : Box) → (a, now) ≡ called call ranges (held n cells us ranges) → Kept bs a now
    kept a now e = subst (λ (t : Transition X). Kept bs t.0 t.1) (sym e) (by (held n cells us ranges) refl)
      where
        on : (B : Box) (a : Result X Refusal) (C : Box) → Held n cells us ranges B → (a, C) ≡ call B → Kept bs (all_or_none ranges a C).0 (all_or_none ranges a C).1
        on B (Ok x) C k e = accepted_kept x B C k (leads B C x e)
        on B (Err r) C k e = refused_kept r

        by : (o : Result Box Refusal) → held n cells us ranges ≡ o → Kept bs (called call ranges o).0 (called call ranges o).1
        by (Ok B) p = on B (call B).0 (call B).1 (held_is n cells us ranges B p) refl
        by (Err r) p = refused_kept r

  pub row_step_kept : (i : ℕ) (a : Result Bool Refusal) (now : Box) → (a, now) ≡ row_step_call n cells us ranges i → Kept [] a now
  row_step_kept i = kept (λ box. row_step (narrowed m) box i) [] (λ B C. row_step_leads (narrowed m) B C i)

  pub round_kept : (a : Result ℕ Refusal) (now : Box) → (a, now) ≡ round_call n cells us ranges → Kept [] a now
  round_kept = kept (round (narrowed m)) [] (round_leads (narrowed m))

  pub settling_kept : (a : Result Bool Refusal) (now : Box) → (a, now) ≡ settling_call n cells us ranges → Kept [] a now
  settling_kept = kept (settling (narrowed m)) [] (settling_leads (narrowed m))

  pub reading_kept : (i : ℕ) (l u : ℤ) (a : Result Bool Refusal) (now : Box) → (a, now) ≡ reading_call n cells us ranges i l u → Kept (bound i (range l u) ∷ []) a now
  reading_kept i l u = kept (λ box. reading box i l u) _ (λ B C. reading_leads (narrowed m) B C i l u)

  -- ---- an opening

  module _ (a : Result (Unit {0}) Refusal) (now : Box) (e : (a, now) ≡ opening_call n cells us ranges) (r : Reply) (p : r ≡ reply no_value a) where
    by_first : (P : Box → Type 0) → ((B : Box) → First n cells us ranges B → P B) → r.refusal ≡ 0 → P now
    by_first P h z = by a e p
      where
        by : (a : Result (Unit {0}) Refusal) → (a, now) ≡ opening_call n cells us ranges → r ≡ reply no_value a → P now
        by (Ok done) e p = h now (opened_is n cells us ranges ranges now e)
        by (Err q) e p = absurd (never_zero q (sym (ap (λ (r : Reply). r.refusal) p) ∙ z))

    pub opening_encloses : EnclosesIfAccepted r m now
    opening_encloses = by_first (Encloses m) (λ B f. subst (Encloses m) (sym f.is) (record {
      holds_every_solution = first_box_holds m us (lawful_drum n cells f.tested) f.opens.passes;
      one_solution = one_solution m us (lawful_drum n cells f.tested) f.opens.passes;
    }))

    pub opening_goes_on : GoesOn n cells us r now
    opening_goes_on = by_first (λ B. held n cells us B ≡ Ok B) (λ B f. stands n cells us ranges B f.tested (subst (Sits m us) (sym f.is) (sits_first m us f.opens)))
