use Rattle.std.proofs.Common.{◌^◌}
use Rattle.roast.proofs.Narrow.{shared_narrow}
use Rattle.roast.proofs.bounds.Bounds.reading.Goals as goal

pub step_to-requires-clause-narrow : goal.step_to-requires-clause-narrow
step_to-requires-clause-narrow c = shared_narrow (2 ^ 30) _ _ _ c.at.ensures.narrow c.shared-shared.ensures.is
