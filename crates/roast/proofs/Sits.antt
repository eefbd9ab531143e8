-- Boxes that lie in the first box of an opening that succeeds.
use Rattle.std.proofs.Common.{ℤ, List}
use Rattle.balance.specs.Meanings.{Meaning}
use Rattle.roast.specs.Certificates.{first_box, Opens}
use Rattle.roast.specs.Narrowing.{Box, narrowed}
use Rattle.roast.specs.Runs.{Bound}
use Rattle.roast.proofs.Boxes.{◌⊑◌, Tidy, ⊑_refl, ⊑_trans, row_shrinks}
use Rattle.roast.proofs.FirstBox.{first_tidy}
use Rattle.roast.proofs.Moves.{Move, move_shrinks}

module _ (m : Meaning) (us : List ℤ) where
  pub record Sits (B : Box) : Type 0 where
    pub opens : Opens m us
    pub below : B ⊑ first_box m us
    pub tidy : Tidy B

  pub sits_first : Opens m us → Sits (first_box m us)
  sits_first o = record { opens = o; below = ⊑_refl (first_box m us); tidy = first_tidy m us }

  pub sits_moved : {bs : List Bound} {B C : Box} → Move (narrowed m) B C bs → Sits B → Sits C
  sits_moved h s = let y = move_shrinks (row_shrinks m) s.tidy h in record { opens = s.opens; below = ⊑_trans y.0 s.below; tidy = y.1 }
