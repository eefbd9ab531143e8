-- Lists of narrow ranges, as the code holds them, and the common part of a narrow range.
use Rattle.std.proofs.Common.{Option, sym, subst, ◌≡◌, ℕ, zero, suc, ◌^◌, Bool, true, false, cond, get_or, replicate, IfSome, Some, None, refl, arith}
use lib.Signed.{le_z}
use borrow.Author.Differences.{ints}
use Rattle.std.specs.Int.{int_min, int_max}
use Rattle.std.proofs.lemmas.Int.{clamps}
use Rattle.balance.specs.declared.range.Range.{Range}
use Rattle.balance.specs.Ranges.{range, Between}
use Rattle.roast.specs.Rounding.{shared}
use Rattle.roast.proofs.Boxes.{nothing}

nothing_at : (n k : ℕ) → get_or (replicate n nothing) k nothing ≡ nothing
nothing_at zero k = refl
nothing_at (suc n) zero = refl
nothing_at (suc n) (suc k) = nothing_at n k

pub nothing_narrow : (n k : ℕ) → Between (2 ^ 30) (get_or (replicate n nothing) k nothing)
nothing_narrow n k = rw (nothing_at n k) (omega (arith, ints), omega (arith, ints), omega (arith, ints))

-- what a narrow range shares with another is narrow
pub shared_narrow : (limit : ℕ) (a b : Range) (o : Option Range) → Between limit a → o ≡ shared a b → IfSome o (Between limit)
shared_narrow limit a b o h e = subst (λ (o : Option Range). IfSome o (Between limit)) (sym e) (by (le_z (int_max a.lower b.lower) (int_min a.upper b.upper)) refl)
  where
    by : (t : Bool) → le_z (int_max a.lower b.lower) (int_min a.upper b.upper) ≡ t → IfSome (cond t (Some (range (int_max a.lower b.lower) (int_min a.upper b.upper))) None) (Between limit)
    by true e = (omega (arith, ints, clamps), omega (arith, ints, clamps), omega (arith, ints, clamps))
    by false e = tt
