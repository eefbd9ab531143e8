use Rattle.std.proofs.Common.{arith}
use Rattle.std.proofs.lemmas.Grind.{common_steps}
use Rattle.heat_file.proofs.Lines.{reads_line}
use Rattle.heat_file.proofs.line.Entry.parse.Goals as goal

pub returns-in-97-clause-has_one_reading : goal.returns-in-97-clause-has_one_reading
returns-in-97-clause-has_one_reading c = reads_line _ _ (grind (arith, common_steps))

pub returns-in-98-clause-has_one_reading : goal.returns-in-98-clause-has_one_reading
returns-in-98-clause-has_one_reading c = reads_line _ _ (grind (arith, common_steps))

pub returns-in-117-clause-has_one_reading : goal.returns-in-117-clause-has_one_reading
returns-in-117-clause-has_one_reading c = reads_line _ _ (grind (arith, common_steps))

pub returns-in_ok-strip_prefix-in_default-clause-has_one_reading :
    goal.returns-in_ok-strip_prefix-in_default-clause-has_one_reading
returns-in_ok-strip_prefix-in_default-clause-has_one_reading c = reads_line _ _ (grind (arith, common_steps))
