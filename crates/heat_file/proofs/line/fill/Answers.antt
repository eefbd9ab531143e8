use Rattle.std.proofs.Common.{◌≡◌, length, List, ℕ, Some, sym, ◌∙◌, subst, arith, w64, to_z, of_z, rules, tests}
use Rattle.heat_file.proofs.Pieces.{pieces, first_pieces, next_piece}
use Rattle.heat_file.proofs.Filling.{Filled, none_filled, no_number, too_many, fill_more}
use Rattle.heat_file.proofs.line.fill.Goals as goal

pub loop-number-init : goal.loop-number-init
loop-number-init c = none_filled c.args.text.now _ c.args.numbers.now (first_pieces c.split-words.result 32 c.args.text.now c.split-words.ensures.rest c.split-words.ensures.done)

pub returns-in_err-number : goal.returns-in_err-number
returns-in_err-number c =
    let p = next_piece _ 32 c.loop-number.words c.next.new.self (λ x r q k. search (rules, tests)) (Some c.in_ok-next.field-0) c.in_ok-next.ensures.steps in
    let f = subst (λ (ws : List (List ℕ)). Filled c.args.text.now ws c.loop-number.numbers c.loop-number.number-index) p c.loop-number.invariant in
    rw c.from_residual-in_err-number.ensures (no_number c.args.text.now c.in_ok-next.field-0.now (pieces 32 c.next.new.self) c.loop-number.numbers c.loop-number.number-index (length c.args.numbers.now) (sym c.in_err-number.was ∙ c.parse_number.ensures.is_the_number_written) f)

pub loop-number-preserved : goal.loop-number-preserved
loop-number-preserved c =
    let z = c.in_ok-number.field-0 in
    let e : to_z w64 (of_z w64 z) ≡ z = search rules in
    let p = next_piece _ 32 c.loop-number.words c.next.new.self (λ x r q k. search (rules, tests)) (Some c.in_ok-next.field-0) c.in_ok-next.ensures.steps in
    let f = subst (λ (ws : List (List ℕ)). Filled c.args.text.now ws c.loop-number.numbers c.loop-number.number-index) p c.loop-number.invariant in
    rw e (fill_more c.args.text.now c.in_ok-next.field-0.now (pieces 32 c.next.new.self) c.loop-number.numbers c.loop-number.number-index z (sym c.in_ok-number.was ∙ c.parse_number.ensures.is_the_number_written) (omega arith) f)

pub returns-in-Some : goal.returns-in-Some
returns-in-Some c =
    let p = next_piece _ 32 c.loop-number.words c.next-2.new.self (λ x r q k. search (rules, tests)) (Some c.in-Some.field-0) c.in-Some.ensures.steps in
    let f = subst (λ (ws : List (List ℕ)). Filled c.args.text.now ws c.loop-number.numbers c.loop-number.number-index) p c.loop-number.invariant in
    too_many c.args.text.now c.loop-number.numbers c.loop-number.number-index (length c.args.numbers.now) c.loop-number.auto.numbers c.in-Some.field-0.now (pieces 32 c.next-2.new.self) (omega arith) f
