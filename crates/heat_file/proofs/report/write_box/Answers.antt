use Rattle.std.proofs.Common.{◌≡◌, ◌≤◌, ◌++◌, Ok, pos, length, drop, sym, ap, arith, ◌∙◌}
use Rattle.std.proofs.lemmas.Bool.{leb-true}
use Rattle.balance.specs.Ranges.{only}
use Rattle.heat_file.specs.Reports.{box_report}
use Rattle.heat_file.proofs.Buffers.{in_front, next_room, next_written, last_room, last_written, all_written}
use Rattle.heat_file.proofs.report.write_box.Goals as goal

pub put_behind-at-requires-in-loop-k : goal.put_behind-at-requires-in-loop-k
put_behind-at-requires-in-loop-k c =
    let ranges = c.args.ranges.now in
    let f : length (box_report ranges c.args.rests) ≤ length c.args.out.now = leb-true _ _ (sym c.box_fits.ensures ∙ c.if-not-box_fits.false) in
    record { room = next_room ranges c.args.rests c.args.out.now c.as_str-in-loop-k.result.now c.loop-k.out c.loop-k.at c.loop-k.k (only (pos 0)) (omega arith) (c.as_str-in-loop-k.ensures.value ∙ c.node_line.ensures) (omega arith) c.loop-k.invariant }

pub loop-k-preserved : goal.loop-k-preserved
loop-k-preserved c =
    let ranges = c.args.ranges.now in
    let f : length (box_report ranges c.args.rests) ≤ length c.args.out.now = leb-true _ _ (sym c.box_fits.ensures ∙ c.if-not-box_fits.false) in
    rw (c.put_behind-at-in-loop-k.ensures.is_the_end, c.put_behind-at-in-loop-k.ensures.puts) (next_written ranges c.args.rests c.args.out.now c.as_str-in-loop-k.result.now c.loop-k.out c.loop-k.at c.loop-k.k (only (pos 0)) (omega arith) (c.as_str-in-loop-k.ensures.value ∙ c.node_line.ensures) (omega arith) c.loop-k.invariant)

pub put_behind-requires : goal.put_behind-requires
put_behind-requires c =
    let ranges = c.args.ranges.now in
    let f : length (box_report ranges c.args.rests) ≤ length c.args.out.now = leb-true _ _ (sym c.box_fits.ensures ∙ c.if-not-box_fits.false) in
    record { room = last_room ranges c.args.rests c.args.out.now c.rest_line.result.now c.loop-k.out c.loop-k.at c.loop-k.k (omega arith) c.rest_line.ensures (omega arith) c.loop-k.invariant }

whole : (c : goal.After-slice_known-3-1) → (c.put_behind.result ≡ length (box_report c.args.ranges.now c.args.rests)) × (c.put_behind.new.out ≡ box_report c.args.ranges.now c.args.rests ++ drop (length (box_report c.args.ranges.now c.args.rests)) c.args.out.now)
whole c =
    let ranges = c.args.ranges.now in
    let f : length (box_report ranges c.args.rests) ≤ length c.args.out.now = leb-true _ _ (sym c.box_fits.ensures ∙ c.if-not-box_fits.false) in
    all_written (box_report ranges c.args.rests) c.args.out.now c.put_behind.new.out c.put_behind.result
    (rw (c.put_behind.ensures.is_the_end, c.put_behind.ensures.puts) (last_written ranges c.args.rests c.args.out.now c.rest_line.result.now c.loop-k.out c.loop-k.at c.loop-k.k (omega arith) c.rest_line.ensures (omega arith) c.loop-k.invariant))

pub returns-clause-answers : goal.returns-clause-answers
returns-clause-answers c = rw (sym c.box_fits.ensures ∙ c.if-not-box_fits.false) (ap Ok (whole c).0)

pub returns-clause-writes_the_report_and_keeps_the_rest : goal.returns-clause-writes_the_report_and_keeps_the_rest
returns-clause-writes_the_report_and_keeps_the_rest c =
    in_front (box_report c.args.ranges.now c.args.rests) c.args.out.now c.put_behind.new.out (leb-true _ _ (sym c.box_fits.ensures ∙ c.if-not-box_fits.false)) (whole c).1
