use Rattle.std.proofs.Common.{length, sym, subst, ap, ◌∙◌, arith}
use Rattle.std.proofs.lemmas.Slice.{between_to_end}
use Rattle.heat_file.specs.Words.{IsWord, spelled, run}
use Rattle.heat_file.proofs.Runs.{word_there}
use Rattle.heat_file.proofs.word.word_at.Goals as goal

pub returns-then-begins_at-clause-is_the_word_there : goal.returns-then-begins_at-clause-is_the_word_there
returns-then-begins_at-clause-is_the_word_there c =
    let file = c.args.file.now in
    let place = c.args.place in
    let there = word_there file place (sym c.begins_at.ensures ∙ c.if-begins_at.true) in
    subst (IsWord file place) (sym (c.told.ensures ∙ ap (λ bs. spelled bs place) (c.run.ensures ∙ ap run (between_to_end file place (length file) (omega arith))))) there
