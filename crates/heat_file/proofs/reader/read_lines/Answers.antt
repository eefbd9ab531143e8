use Rattle.std.proofs.Common.{◌≡◌, ◌-◌, [], ◌∷◌, length, take, nat_abs, Some, Err, ap, ◌∙◌, arith, w64, to_z, of_z, rules, tests}
use Rattle.std.specs.Slice.Iter.{split_rest, split_done}
use Rattle.std.proofs.lemmas.Grind.{common_steps}
use Rattle.balance.specs.declared.refusal.Refusal.TheVariants.{Shape}
use Rattle.heat_file.specs.Cuts.{cut}
use Rattle.heat_file.specs.Checks.{check}
use Rattle.heat_file.specs.Filled.{put_cells}
use Rattle.heat_file.proofs.Checks.{size_few, inside_after}
use Rattle.heat_file.proofs.Cutting.{closed_last, but_last}
use Rattle.heat_file.proofs.Pieces.{pieces, first_pieces, next_piece, no_piece}
use Rattle.heat_file.proofs.Placing.{room_for}
use Rattle.heat_file.proofs.Walking.{lines_are, reading_start, reading_shape, reading_refused, reading_on, reading_done}
use Rattle.heat_file.proofs.reader.read_lines.Goals as goal

pub returns-in_default-2 : goal.returns-in_default-2
returns-in_default-2 c = absurd (omega (arith, closed_last 10 c.args.text.now (length c.args.text.now - 1) (omega arith) c.requires.are_whole_lines))

pub loop-line-init : goal.loop-line-init
loop-line-init c =
    let k = length c.args.text.now - 1 in
    let e = first_pieces c.into_iter-line-iterator.result 10 (take k c.args.text.now) (ap split_rest c.into_iter-line-iterator.ensures.into_iter_gives ∙ c.split-line-items.ensures.rest) (ap split_done c.into_iter-line-iterator.ensures.into_iter_gives ∙ c.split-line-items.ensures.done) in
    reading_start c.args.text.now c.args.from c.args.cells.now c.args.certificate.now (pieces 10 c.into_iter-line-iterator.result) c.requires.are_whole_lines c.in-10.len_at_least (e ∙ ap (cut 10) (but_last c.args.text.now 10 k (omega arith) (omega arith)))

pub returns-in_err-entry : goal.returns-in_err-entry
returns-in_err-entry c =
    let p = next_piece _ 10 c.loop-line.line-iterator c.next.new.self (λ x r q k. search (rules, tests)) (Some c.in-Some.line) c.in-Some.ensures.steps in
    let h : check c.args.from (cut 10 c.args.text.now) ≡ Err (Shape c.loop-line.place) = reading_shape (lines_are p c.loop-line.invariant) (grind (arith, common_steps)) in
    grind (arith, common_steps)

pub returns-in_err-standing : goal.returns-in_err-standing
returns-in_err-standing c =
    let p = next_piece _ 10 c.loop-line.line-iterator c.next.new.self (λ x r q k. search (rules, tests)) (Some c.in-Some.line) c.in-Some.ensures.steps in
    let h : check c.args.from (cut 10 c.args.text.now) ≡ Err c.in_err-standing.field-0.0 = reading_refused (lines_are p c.loop-line.invariant) c.in_ok-entry.entry c.in_err-standing.field-0.0 (grind (arith, common_steps)) (grind (arith, common_steps)) in
    grind (arith, common_steps)

pub put-requires-clause-has_its_nodes : goal.put-requires-clause-has_its_nodes
put-requires-clause-has_its_nodes c =
    let t = c.in_ok-standing.standing in
    let e : to_z w64 (of_z w64 t.size) ≡ t.size = search rules in
    rw e (inside_after c.loop-line.standing t c.loop-line.place c.in_ok-entry.entry (grind (arith, common_steps)) (grind (arith, common_steps)))

pub put-requires-clause-has_cells : goal.put-requires-clause-has_cells
put-requires-clause-has_cells c =
    let t = c.in_ok-standing.standing in
    let e : to_z w64 (of_z w64 t.size) ≡ t.size = search rules in
    rw e (omega (arith, room_for (nat_abs t.size) (size_few t.size (grind (arith, common_steps))).1, c.requires.has_cells, c.loop-line.auto.cells))

pub loop-line-preserved : goal.loop-line-preserved
loop-line-preserved c =
    let t = c.in_ok-standing.standing in
    let e : to_z w64 (of_z w64 t.size) ≡ t.size = search rules in
    let p = next_piece _ 10 c.loop-line.line-iterator c.next.new.self (λ x r q k. search (rules, tests)) (Some c.in-Some.line) c.in-Some.ensures.steps in
    reading_on (lines_are p c.loop-line.invariant) c.in_ok-entry.entry t c.put.new.cells c.put.new.certificate (grind (arith, common_steps)) (grind (arith, common_steps)) (grind (arith, common_steps)) (c.put.ensures.puts_cells ∙ ap (λ n. put_cells (nat_abs n) (c.in_ok-entry.entry ∷ []) c.loop-line.cells) e) c.put.ensures.puts_weights

pub returns : goal.returns
returns c =
    let n = c.loop-line.standing.size in
    let e : to_z w64 (of_z w64 n) ≡ n = search rules in
    let p = no_piece 10 c.loop-line.line-iterator c.in-None.ensures.steps.0 in
    rw e (reading_done (lines_are p c.loop-line.invariant))
