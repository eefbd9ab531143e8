use Rattle.heat_file.proofs.Runs.{every_word}
use Rattle.heat_file.proofs.word.words.Goals as goal

pub returns-clause-has_every_word_once_in_order : goal.returns-clause-has_every_word_once_in_order
returns-clause-has_every_word_once_in_order c = every_word c.args.file.now
