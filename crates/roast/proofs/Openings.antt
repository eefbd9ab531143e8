-- An opening succeeds exactly when every place answers, the certificate passes and the first box keeps its limit.
use Rattle.std.proofs.Common.{◌≡◌, ◌^◌, ◌≤◌, true, eqb, leb, List, [], ◌∷◌, length, ℤ, pos, ◌≤ℤ◌, Some, None, Ok, Err, Option, sym, refl, subst, arith}
use lib.Signed.{le_z}
use borrow.Author.Differences.{ints}
use Rattle.std.proofs.lemmas.Bool.{eq-eqb, le-leb, leb-true}
use Rattle.balance.specs.declared.refusal.Refusal.{Refusal}
use Rattle.balance.specs.declared.refusal.Refusal.TheVariants.{Dominance, Wide}
use Rattle.balance.specs.Ranges.{AllBetween}
use Rattle.balance.specs.Meanings.{Meaning, Lawful}
use Rattle.balance.specs.Places.{first, first_of, unless_refused, row_refusal, first_refusal}
use Rattle.balance.specs.Points.{between}
use Rattle.balance.proofs.Searches.{none_of, all_answer}
use Rattle.roast.specs.Certificates.{number, v, k, first_box, number_refusal, certificate_refusal, dominance_refusal, wide_refusal, opening, Opens, OpensExactly}
use Rattle.balance.proofs.Entries.{none_all, test_passed}
use Rattle.roast.specs.Narrowing.{Box}
use Rattle.roast.proofs.Certified.{certified}
use Rattle.roast.proofs.FirstBox.{first_length, first_narrow}
use Rattle.roast.proofs.Solvable.{row_unrefused}

-- ---- from no refusal

module _ (m : Meaning) (us : List ℤ) where
  opens : first_refusal m ≡ None → certificate_refusal m.size us ≡ None → first (dominance_refusal m us) m.size ≡ None → first (wide_refusal m us) m.size ≡ None → Opens m us
  opens a b d w = record {
    answers = all_answer m a;
    passes = record {
      count = (certified m.size us b).count;
      numbers = λ i p. (certified m.size us b).numbers i p.0 p.1;
      dominant = λ i p. at_least (v m us i) (test_passed (le_z (pos 1) (v m us i)) None (Dominance i) (none_of (dominance_refusal m us) m.size d i p.0 p.1)).0;
    };
    narrow = λ i p. leb-true (k m us i) (2 ^ 30) (test_passed (leb (k m us i) (2 ^ 30)) None (Wide i) (none_of (wide_refusal m us) m.size w i p.0 p.1)).0;
  }
    where
      at_least : (z : ℤ) → le_z (pos 1) z ≡ true → pos 1 ≤ℤ z
      at_least z h = omega (arith, ints)

-- ---- to no refusal

module _ (m : Meaning) (us : List ℤ) (o : Opens m us) where
  no_place : first_refusal m ≡ None
  no_place = none_all (row_refusal m) m.size (λ i p q. row_unrefused m o.answers i (p, q))

  no_number : certificate_refusal m.size us ≡ None
  no_number =
      let t : eqb (length us) m.size ≡ true = eq-eqb (length us) m.size o.passes.count in
      rw t (none_all (number_refusal us) m.size (λ i p q. let w = o.passes.numbers i (p, q) in let b = within (number us i) w.0 w.1 in rw b))
    where
      within : (z : ℤ) → pos 1 ≤ℤ z → z ≤ℤ pos (2 ^ 20) → between (pos 1) (pos (2 ^ 20)) z ≡ true
      within z h k = grind (arith, ints)

  no_row : first (dominance_refusal m us) m.size ≡ None
  no_row = none_all (dominance_refusal m us) m.size (λ i p q. let b = above (v m us i) (o.passes.dominant i (p, q)) in rw b)
    where
      above : (z : ℤ) → pos 1 ≤ℤ z → le_z (pos 1) z ≡ true
      above z h = grind (arith, ints)

  no_end : first (wide_refusal m us) m.size ≡ None
  no_end = none_all (wide_refusal m us) m.size (λ i p q. let b = le-leb (k m us i) (2 ^ 30) (o.narrow i (p, q)) in rw b)

  pub opens_so : opening m us ≡ Ok (first_box m us)
  opens_so = rw (no_place, no_number, no_row, no_end)

pub opens_exactly : (m : Meaning) (us : List ℤ) → OpensExactly m us (opening m us)
opens_exactly m us = by (first_refusal m) (certificate_refusal m.size us) (first (dominance_refusal m us) m.size) (first (wide_refusal m us) m.size) refl refl refl refl
  where
    not_opened : (e : Refusal) → opening m us ≡ Err e → Opens m us → ⊥
    not_opened e h o = cc (opens_so m us o)

    by : (a b d w : Option Refusal) → first_refusal m ≡ a → certificate_refusal m.size us ≡ b → first (dominance_refusal m us) m.size ≡ d → first (wide_refusal m us) m.size ≡ w → OpensExactly m us (unless_refused (first_of (a ∷ b ∷ d ∷ w ∷ [])) (Ok (first_box m us)))
    by None None None None a b d w = (opens m us a b d w, refl)
    by None None None (Some e) a b d w = not_opened e (rw (a, b, d, w))
    by None None (Some e) wo a b d w = not_opened e (rw (a, b, d))
    by None (Some e) dd wo a b d w = not_opened e (rw (a, b))
    by (Some e) bo dd wo a b d w = not_opened e (rw a)

-- the box of an opening has at most 32 nodes, and keeps the limits
pub opened_limits : (m : Meaning) (us : List ℤ) (B : Box) → Ok B ≡ opening m us → Lawful m → (length B ≤ 32) × AllBetween (2 ^ 30) B
opened_limits m us B e lawful =
    let opened : OpensExactly m us (Ok B) = subst (OpensExactly m us) (sym e) (opens_exactly m us) in
    subst (λ X. (length X ≤ 32) × AllBetween (2 ^ 30) X) (sym opened.1) (omega (arith, lawful.few, first_length m us), first_narrow m us opened.0.narrow)
