use Rattle.std.proofs.Common.{◌≡◌}
use Rattle.heat_file.specs.Words.{words_from}
use Rattle.heat_file.proofs.word.FileWordsIterator.next.Given as goal

abbrev pub invariant-loop-place : goal.invariant-loop-place
invariant-loop-place l = record {
  same_file : l.self.file.now ≡ l.fn.self.file.now;
  left : words_from l.fn.self.file.now l.place ≡ words_from l.fn.self.file.now l.fn.self.place;
}
