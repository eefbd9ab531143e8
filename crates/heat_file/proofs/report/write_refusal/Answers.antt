use Rattle.std.proofs.Common.{List, ℕ, ◌≡◌, ◌+◌, ◌≤◌, ◌++◌, length, drop, subst, ap, arith, zero-add, ◌∙◌}
use Rattle.heat_file.specs.Reports.{refusal_report, put_in_front}
use Rattle.heat_file.proofs.Buffers.{in_front}
use Rattle.heat_file.proofs.report.write_refusal.Goals as goal

-- the line that was put at the start
at_start : (line text buffer out : List ℕ) → line ≡ text → length line ≤ length buffer → out ≡ line ++ drop (0 + length line) buffer → out ≡ put_in_front text buffer
at_start line text buffer out e h p = subst (λ t. out ≡ put_in_front t buffer) e (in_front line buffer out h (rw zero-add at p))

pub returns-clause-writes_the_line_and_keeps_the_rest : goal.returns-clause-writes_the_line_and_keeps_the_rest
returns-clause-writes_the_line_and_keeps_the_rest c =
    let l = ap length c.as_str.ensures.value in
    at_start c.as_str.result.now (refusal_report c.args.refusal) c.args.out.now c.put_behind.new.out (c.as_str.ensures.value ∙ c.refusal_line-line.ensures) (omega (arith, l)) c.put_behind.ensures.puts
