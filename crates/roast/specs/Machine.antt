-- The reference machine: what each call answers, or why it is refused, and what it leaves. It knows of a system what its rows leave of a box, and
-- nothing else.
use Rattle.std.specs.Prelude.{ℕ, zero, suc, ◌+◌, ◌-◌, ◌&&◌, Bool, false, not, if◌then◌else◌, List, [], ◌∷◌, length, ℤ, Some, None, Option, Ok, Err, Result, vec_items, int_le, slice_set}
use Rattle.balance.specs.declared.range.Range.{Range}
use Rattle.balance.specs.declared.refusal.Refusal.{Refusal}
use Rattle.balance.specs.declared.refusal.Refusal.TheVariants.{Node, Crossed, Conflict}
use Rattle.balance.specs.Ranges.{range}
use Rattle.balance.specs.Refusals.{number}
use Rattle.balance.specs.Meanings.{is_node}
use Rattle.balance.specs.Places.{every}
use Rattle.roast.specs.declared.call.Reading.{Reading}
use Rattle.roast.specs.declared.call.Call.{Call}
use Rattle.roast.specs.declared.call.Call.TheVariants.{RowStep, Round, Reading as ReadingCall, Readings, AtRest as AtRestCall, Ends as EndsCall}
use Rattle.roast.specs.declared.call.Answer.{Answer}
use Rattle.roast.specs.declared.call.Answer.TheVariants.{Changed, Changes, Done, AtRest, Ends}
use Rattle.roast.specs.Rounding.{shared}
use Rattle.roast.specs.Narrowing.{Box, at, Contractor}

-- what a call answers or why it is refused, and the box that it leaves
abbrev pub Transition : Type 0 → Type 0
Transition X = Result X Refusal × Box

abbrev pub same_number : ℤ → ℤ → Bool
same_number x y = int_le x y && int_le y x

abbrev pub same_range : Range → Range → Bool
same_range r s = same_number r.lower s.lower && same_number r.upper s.upper

-- node i's range becomes what it keeps, and whether that changes it; where it keeps nothing, the step is a conflict and leaves the box
abbrev pub step_to : Box → ℕ → Option Range → Transition Bool
step_to box i None = (Err (Conflict i), box)
step_to box i (Some r) = (Ok (not (same_range (at box i) r)), slice_set box (i - 1) r)

-- a node outside 1 to n is refused first
abbrev pub at_node : {X : Type 0} → Box → ℕ → Transition X → Transition X
at_node box i t = if is_node (length box) i then t else (Err (Node i), box)

-- a new box takes the place of the one before, unless it is refused
abbrev pub replacement : Box → Result Box Refusal → Transition (Unit {0})
replacement before (Ok box) = (Ok tt, box)
replacement before (Err e) = (Err e, before)

-- ---- row steps and rounds

abbrev pub row_step : Contractor → Box → ℕ → Transition Bool
row_step f box i = at_node box i (step_to box i (f box i))

-- one more step, counted if it changed a range
abbrev pub one_more : ℕ → Result Bool Refusal → Result ℕ Refusal
one_more n (Ok changed) = Ok (if changed then n + 1 else n)
one_more n (Err e) = Err e

-- node i's row step behind those before, unless one of them was refused
abbrev pub then_step : Contractor → ℕ → Result ℕ Refusal → Box → Transition ℕ
then_step f i (Ok n) box = (one_more n (row_step f box i).0, (row_step f box i).1)
then_step f i (Err e) box = (Err e, box)

-- row steps 1 to k, and how many of them changed a range
abbrev pub row_steps : Contractor → Box → ℕ → Transition ℕ
row_steps f box zero = (Ok 0, box)
row_steps f box (suc k) = then_step f (suc k) (row_steps f box k).0 (row_steps f box k).1

-- a refused call leaves the box as it was before
abbrev pub all_or_none : {X : Type 0} → Box → Result X Refusal → Box → Transition X
all_or_none before (Ok x) box = (Ok x, box)
all_or_none before (Err e) box = (Err e, before)

abbrev pub round : Contractor → Box → Transition ℕ
round f box = all_or_none box (row_steps f box (length box)).0 (row_steps f box (length box)).1

-- ---- readings

abbrev pub reading : Box → ℕ → ℤ → ℤ → Transition Bool
reading box i lower upper =
    at_node box i (if int_le lower upper then step_to box i (shared (at box i) (range lower upper)) else (Err (Crossed i), box))

-- 0, or the number of the refusal
abbrev pub mark : {X : Type 0} → Result X Refusal → ℕ
mark (Ok x) = 0
mark (Err e) = number e

abbrev pub marked : Reading → ℕ → Reading
marked r n = record { node = r.node; lower = r.lower; upper = r.upper; answer = n }

-- a list of readings, one after another: the records, each with its mark, and the box that they leave
abbrev pub readings : Box → List Reading → List Reading × Box
readings box [] = ([], box)
readings box (r ∷ rs) =
    let t = reading box r.node r.lower r.upper in
    let rest = readings t.1 rs in
    (marked r (mark t.0) ∷ rest.0, rest.1)

-- ---- questions

-- the step is accepted and changes nothing
abbrev pub changes_nothing : Result Bool Refusal → Bool
changes_nothing (Ok changed) = not changed
changes_nothing (Err e) = false

-- no row step is refused, and none changes a range
abbrev pub at_rest : Contractor → Box → Bool
at_rest f box = every (λ i. changes_nothing (row_step f box i).0) (length box)

-- a node's two ends
abbrev pub ends : Box → ℕ → Result (ℤ × ℤ) Refusal
ends box i = if is_node (length box) i then Ok ((at box i).lower, (at box i).upper) else Err (Node i)

-- ---- calls of any kind

-- a call as the machine is asked it: a list of readings with its records
pub data Ask : Type 0 where
  ask_row_step : ℕ → Ask
  ask_round : Ask
  ask_reading : ℕ → ℤ → ℤ → Ask
  ask_readings : List Reading → Ask
  ask_rest : Ask
  ask_ends : ℕ → Ask

abbrev pub ask_of : Call → Ask
ask_of (RowStep i) = ask_row_step i
ask_of Round = ask_round
ask_of (ReadingCall i lower upper) = ask_reading i lower upper
ask_of (Readings rs) = ask_readings (vec_items rs)
ask_of AtRestCall = ask_rest
ask_of (EndsCall i) = ask_ends i

-- what a call answers or why it is refused, and the box and the records that it leaves
pub record Outcome : Type 0 where
  pub answer : Result Answer Refusal
  pub box : Box
  pub records : List Reading

-- what one kind of call answers, as an answer of any kind
abbrev pub answer_by : {X : Type 0} → (X → Answer) → Result X Refusal → Result Answer Refusal
answer_by kind (Ok x) = Ok (kind x)
answer_by kind (Err e) = Err e

abbrev pub outcome_by : {X : Type 0} → (X → Answer) → Transition X → Outcome
outcome_by kind t = record { answer = answer_by kind t.0; box = t.1; records = [] }

abbrev pub outcome : Contractor → Box → Ask → Outcome
outcome f box (ask_row_step i) = outcome_by Changed (row_step f box i)
outcome f box ask_round = outcome_by Changes (round f box)
outcome f box (ask_reading i lower upper) = outcome_by Changed (reading box i lower upper)
outcome f box (ask_readings rs) = record { answer = Ok Done; box = (readings box rs).1; records = (readings box rs).0 }
outcome f box ask_rest = outcome_by AtRest (Ok (at_rest f box), box)
outcome f box (ask_ends i) = outcome_by Ends (ends box i, box)

-- the box after a list of calls
abbrev pub after : Contractor → Box → List Ask → Box
after f box [] = box
after f box (c ∷ cs) = after f (outcome f box c).box cs
