use Rattle.std.proofs.Common.{◌≡◌, Ok, ap, ap₂, ◌∙◌}
use Rattle.roast.specs.Narrowing.{narrowed}
use Rattle.roast.specs.Machine.{at_rest}
use Rattle.heat_file.specs.Checks.{and_then}
use Rattle.firmware.specs.Drums.{drum, rest_call}
use Rattle.firmware.proofs.asking.at_rest.Goals as goal

pub returns : goal.returns
returns c =
    let s = c.held.new.roast.system in
    let size : s.size ≡ c.args.size = cc (c.in_ok-held.ensures.keeps_the_system, c.new-roast.ensures.holds_the_system, c.in_ok-system.ensures.holds_the_size) in
    let cells : s.cells.now ≡ c.args.cells.now = cc (c.in_ok-held.ensures.keeps_the_system, c.new-roast.ensures.holds_the_system, c.in_ok-system.ensures.holds_the_cells) in
    ap (λ t. Ok t) c.at_rest.ensures.answers
    ∙ (ap (λ o. and_then o (λ box. Ok (at_rest (narrowed (drum s.size s.cells.now)) box))) c.in_ok-held.ensures.holds_or_refuses
    ∙ ap₂ (λ k own. rest_call k own c.args.certificate.now c.args.ranges.now) size cells)
