use Rattle.std.proofs.Common.{rules}
use Rattle.roast.proofs.Quotients.{rounds}
use Rattle.roast.proofs.rounding.quotient.Goals as goal

pub returns-then-d-gt0-clause-rounds_outward : goal.returns-then-d-gt0-clause-rounds_outward
returns-then-d-gt0-clause-rounds_outward c = rounds _ _ _ (search rules) c.requires.divisor_without_zero c.requires.narrow.1 c.requires.divisor_is_narrow.1

pub returns-else-d-gt0-clause-rounds_outward : goal.returns-else-d-gt0-clause-rounds_outward
returns-else-d-gt0-clause-rounds_outward c = rounds _ _ _ (search rules) c.requires.divisor_without_zero c.requires.narrow.1 c.requires.divisor_is_narrow.1
