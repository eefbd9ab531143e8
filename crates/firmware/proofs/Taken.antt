-- One range more that is taken as a reading.
use Rattle.std.proofs.Common.{◌≡◌, ℕ, suc, ◌+◌, ◌<◌, ◌≤◌, Bool, List, ◌∷◌, length, get_or, drop, Ok, Result, refl, sym, ap, drop-cons, arith}
use Rattle.std.proofs.Math.ListN.{drop_of_length-le}
use Rattle.balance.specs.declared.range.Range.{Range}
use Rattle.balance.specs.declared.refusal.Refusal.{Refusal}
use Rattle.roast.specs.Narrowing.{Box}
use Rattle.roast.specs.Machine.{Transition, reading}
use Rattle.roast.proofs.Boxes.{nothing}
use Rattle.heat_file.specs.Checks.{and_then}
use Rattle.firmware.specs.Drums.{read_from}

module _ (B C : Box) (a : Result Bool Refusal) where
  pub read_first : (k : ℕ) (r : Range) (rs : List Range) → (a, C) ≡ reading B k r.lower r.upper → read_from B k (r ∷ rs) ≡ and_then a (λ changed. read_from C (suc k) rs)
  unfolding read_from
  read_first k r rs e = ap (λ (t : Transition Bool). and_then t.0 (λ changed. read_from t.1 (suc k) rs)) (sym e)

  -- the range at i is read next, as node i + 1
  pub read_next : (i : ℕ) (rs : List Range) → i < length rs → let r = get_or rs i nothing in (a, C) ≡ reading B (i + 1) r.lower r.upper → read_from B (i + 1) (drop i rs) ≡ and_then a (λ changed. read_from C (i + 1 + 1) (drop (i + 1) rs))
  read_next i rs h e =
      let p : suc i ≡ i + 1 = omega arith in
      let q : i + 1 + 1 ≡ suc (i + 1) = omega arith in
      rw (drop-cons rs i nothing h, p, q) (read_first (i + 1) (get_or rs i nothing) (drop (i + 1) rs) e)

pub read_all : (B : Box) (k i : ℕ) (rs : List Range) → length rs ≤ i → read_from B k (drop i rs) ≡ Ok B
unfolding read_from
read_all B k i rs h = rw (drop_of_length-le rs h) refl
