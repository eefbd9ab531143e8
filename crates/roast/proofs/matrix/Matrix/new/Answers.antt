use Rattle.std.proofs.Common.{◌^◌, refl, arith}
use Rattle.roast.proofs.Matrices.{nothing_narrow}
use Rattle.roast.proofs.matrix.Matrix.new.Goals as goal

pub invariant_of-result : goal.invariant_of-result
invariant_of-result c = record { few = omega arith; cells = refl; rows = refl; narrow = nothing_narrow (2 ^ 20) 1024; narrow_sides = nothing_narrow (2 ^ 42) 32 }
