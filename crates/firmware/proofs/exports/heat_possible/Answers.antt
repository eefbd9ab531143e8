use Rattle.firmware.proofs.Calls.{tells_possible}
use Rattle.firmware.proofs.exports.heat_possible.Goals as goal

pub returns-clause-says_yes_exactly_if_a_member_has_the_point : goal.returns-clause-says_yes_exactly_if_a_member_has_the_point
returns-clause-says_yes_exactly_if_a_member_has_the_point c = tells_possible c.args.size c.args.cells.now c.args.numerators.now c.args.denominator
