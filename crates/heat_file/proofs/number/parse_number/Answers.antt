use Rattle.std.proofs.Common.{arith, rules}
use Rattle.std.proofs.lemmas.Grind.{common_steps}
use Rattle.heat_file.proofs.Numerals.{reads_numeral}
use Rattle.heat_file.proofs.number.parse_number.Goals as goal

pub returns-in_err-n-in-45-clause-reads_exactly_numerals : goal.returns-in_err-n-in-45-clause-reads_exactly_numerals
returns-in_err-n-in-45-clause-reads_exactly_numerals c = reads_numeral _ _ (grind (arith, common_steps))

pub returns-in_err-parse_natural-in_default-clause-reads_exactly_numerals : goal.returns-in_err-parse_natural-in_default-clause-reads_exactly_numerals
returns-in_err-parse_natural-in_default-clause-reads_exactly_numerals c = reads_numeral _ _ (search rules)

pub returns-in-0-clause-reads_exactly_numerals : goal.returns-in-0-clause-reads_exactly_numerals
returns-in-0-clause-reads_exactly_numerals c = reads_numeral _ _ (grind (arith, common_steps))

pub returns-in_default-2-clause-reads_exactly_numerals : goal.returns-in_default-2-clause-reads_exactly_numerals
returns-in_default-2-clause-reads_exactly_numerals c = reads_numeral _ _ (grind (arith, common_steps))

pub returns-in_ok-parse_natural-in_default-clause-reads_exactly_numerals : goal.returns-in_ok-parse_natural-in_default-clause-reads_exactly_numerals
returns-in_ok-parse_natural-in_default-clause-reads_exactly_numerals c = reads_numeral _ _ (search rules)
