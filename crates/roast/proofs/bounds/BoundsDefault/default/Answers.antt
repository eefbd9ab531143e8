use Rattle.roast.proofs.Narrow.{nothing_narrow}
use Rattle.std.proofs.Common.{refl, arith}
use Rattle.roast.proofs.bounds.BoundsDefault.default.Goals as goal

pub invariant_of-result : goal.invariant_of-result
invariant_of-result c = (omega arith, refl, nothing_narrow 32)
