use Rattle.std.proofs.Common.{◌≡◌, ◌-◌, None}
use Rattle.balance.specs.Places.{first, refusal_at, row_refusal}
use Rattle.balance.proofs.places.every_place_answers.Given as goal

abbrev pub invariant-loop-row : goal.invariant-loop-row
invariant-loop-row g l = first (row_refusal (g.S.System.meaning l.system)) (l.row - 1) ≡ None

abbrev pub invariant-loop-column : goal.invariant-loop-column
invariant-loop-column g l = first (λ j. refusal_at ((g.S.System.meaning l.system).coefficient l.row j)) (l.column - 1) ≡ None
