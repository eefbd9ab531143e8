use Rattle.std.proofs.Common.{arith}
use Rattle.std.proofs.lemmas.Int.{ints, to_z-of_z}
use Rattle.roast.proofs.rows.difference.Goals as goal

pub returns-clause-is : goal.returns-clause-is
returns-clause-is c = grind (arith, ints, to_z-of_z)
