use Rattle.std.proofs.Common.{◌≡◌, ◌+◌, Some, length, sym, ap, ◌∙◌, arith}
use Rattle.heat_file.specs.Words.{shown, joined, word_at, words_from}
use Rattle.heat_file.proofs.Runs.{words_step, words_past}
use Rattle.heat_file.proofs.word.FileWordsIterator.next.Goals as goal

pub returns-in-Some-clause-steps : goal.returns-in-Some-clause-steps
returns-in-Some-clause-steps c =
    let file = c.args.self.now.file.now in
    let place = c.loop-place.place in
    let w : word_at file place ≡ Some (shown c.in-Some.word) = sym c.in-Some.ensures.answers in
    rw c.loop-place.invariant.same_file (sym c.loop-place.invariant.left ∙ (words_step file place (omega arith) ∙ ap (λ o. joined o (words_from file (place + 1))) w))

pub returns-in-Some-clause-goes : goal.returns-in-Some-clause-goes
returns-in-Some-clause-goes c =
    let l = ap length (returns-in-Some-clause-steps c) in
    record { on = λ _. (tt, tt, omega (arith, l)); keeps = tt; rests = λ _. tt }

pub returns-clause-steps : goal.returns-clause-steps
returns-clause-steps c =
    let file = c.args.self.now.file.now in
    (sym c.loop-place.invariant.left ∙ words_past file c.loop-place.place (omega arith), rw c.loop-place.invariant.same_file (words_past file (length file) (omega arith)))
