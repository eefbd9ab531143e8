-- The first entry of a list that fails a test, as `position` finds it, names the first refused place.
use Rattle.std.proofs.Common.{◌≡◌, ℕ, zero, suc, ◌+◌, ◌-◌, ◌<◌, ◌≤◌, Bool, true, false, not, cond, ltb, List, length, get_or, Some, None, Option, refl, sym, ap, subst, arith}
use Rattle.std.proofs.Math.Nat.{add-sub_cancel}
use Rattle.std.specs.Option.{option_map}
use Rattle.std.specs.List.{position, position_or_len}
use Rattle.std.proofs.lemmas.Bool.Decides.{nat_tests}
use Rattle.std.proofs.lemmas.List.Sums.{prefix_len_passes, prefix_len_stops}
use Rattle.balance.specs.declared.refusal.Refusal.{Refusal}
use Rattle.balance.specs.Places.{first}
use Rattle.balance.proofs.Searches.{first_stops}

-- entry k + 1 of a list, from 1, is its entry k, from 0
pub from_one : {X : Type 0} (xs : List X) (k : ℕ) (d : X) → get_or xs (k + 1 - 1) d ≡ get_or xs k d
from_one xs k d = ap (λ i. get_or xs i d) (add-sub_cancel k 1)

-- where nothing is refused, a test has passed, and what comes after it refuses nothing
pub test_passed : (test : Bool) (o : Option Refusal) (e : Refusal) → cond test o (Some e) ≡ None → (test ≡ true) × (o ≡ None)
test_passed true o e h = (refl, h)
test_passed false o e h = cc

pub none_all : (f : ℕ → Option Refusal) (n : ℕ) → ((j : ℕ) → 1 ≤ j → j ≤ n → f j ≡ None) → first f n ≡ None
none_all f zero h = refl
none_all f (suc n) h = rw (none_all f n (λ j p q. h j p (omega arith)), h (suc n) (omega arith) (omega arith))

module _ {X : Type 0} (test : X → Bool) (refusal : ℕ → Refusal) (d : X) (xs : List X) where
  -- the refusal of entry i, from 1, where it fails the test
  abbrev pub entry_refusal : ℕ → Option Refusal
  entry_refusal i = cond (test (get_or xs (i - 1) d)) None (Some (refusal i))

  passes : (i : ℕ) (b : Bool) → test (get_or xs (i - 1) d) ≡ b → not (not b) ≡ true → entry_refusal i ≡ None
  passes i true e h = rw e
  passes i false e h = cc

  fails : (i : ℕ) (b : Bool) → test (get_or xs (i - 1) d) ≡ b → not (not b) ≡ false → entry_refusal i ≡ Some (refusal i)
  fails i true e h = cc
  fails i false e h = rw e

  abbrev place : ℕ
  place = position_or_len (λ x. not (test x)) xs

  before : (n : ℕ) → n ≤ place → first entry_refusal n ≡ None
  before n h = none_all entry_refusal n (λ j p q. passes j _ refl (prefix_len_passes (λ x. not (not (test x))) xs (j - 1) d (omega arith)))

  pub first_entry : first entry_refusal (length xs) ≡ option_map (λ i. refusal (i + 1)) (position (λ x. not (test x)) xs)
  first_entry = by (ltb place (length xs)) refl
    where
      by : (b : Bool) → ltb place (length xs) ≡ b → first entry_refusal (length xs) ≡ option_map (λ i. refusal (i + 1)) (cond b (Some place) None)
      by true e =
          let l : place < length xs = grind (arith, nat_tests) in
          let k : place + 1 - 1 ≡ place = omega arith in
          let s = prefix_len_stops (λ x. not (not (test x))) xs d l in
          first_stops entry_refusal (refusal (place + 1)) place (length xs) (before place (omega arith)) (fails (place + 1) _ refl (subst (λ n. not (not (test (get_or xs n d))) ≡ false) (sym k) s)) l
      by false e = before (length xs) (grind (arith, nat_tests))
