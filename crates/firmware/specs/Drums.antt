-- A drum and a box in the caller's memory: what the box stands for, and what each call answers and leaves.
use Rattle.std.specs.Prelude.{◌≡◌, ℕ, suc, Bool, if◌then◌else◌, List, [], ◌∷◌, length, map, ℤ, Ok, Err, Result, ◌==◌}
use Rattle.balance.specs.declared.range.Range.{Range}
use Rattle.balance.specs.declared.refusal.Refusal.{Refusal}
use Rattle.balance.specs.declared.refusal.Refusal.TheVariants.{Size}
use Rattle.balance.specs.Cells.{range_ends}
use Rattle.balance.specs.Meanings.{Meaning}
use Rattle.balance.specs.Members.{Member, Point, Solves, component, ◌∈◌}
use Rattle.balance.specs.Points.{possible_answer}
use Rattle.balance.specs.Ranges.{range}
use Rattle.balance.specs.Tables.{table}
use Rattle.roast.specs.Certificates.{opening}
use Rattle.roast.specs.Narrowing.{Box, Contractor, narrowed}
use Rattle.roast.specs.Machine.{Transition, replacement, all_or_none, row_step, round, reading, at_rest, ends}
use Rattle.roast.specs.Runs.{Holds}
use Rattle.heat_file.specs.Checks.{and_then}
use Rattle.heat_file.specs.Files.{read}
use Rattle.heat_file.specs.Filled.{answer}
use Rattle.file_box.specs.Findings.{is_counted, settled, Encloses}
use Rattle.firmware.specs.declared.reply.Reply.{Reply}

-- the system of n nodes that cells make
abbrev pub drum : ℕ → List Range → Meaning
drum n cells = table n (map range_ends cells)

-- another size than 1 to 32, another number of cells and another number of ranges in a box are refused before all else
abbrev pub if_counted : {X : Type 0} → ℕ → List Range → Result X Refusal → Result X Refusal
if_counted n cells r = if is_counted n (length cells) then r else Err (Size 0)

abbrev pub if_long : {X : Type 0} → ℕ → Box → Result X Refusal → Result X Refusal
if_long n ranges r = if length ranges == n then r else Err (Size 0)

-- the first box of a drum, to be written over ranges
abbrev pub first : ℕ → List Range → List ℤ → Box → Result Box Refusal
first n cells us ranges = if_counted n cells (if_long n ranges (opening (drum n cells) us))

-- ---- what the caller's ranges stand for

-- ranges taken as readings of node i and of those behind it; a refused one ends the rest
unfoldable pub read_from : Box → ℕ → List Range → Result Box Refusal
read_from box i [] = Ok box
read_from box i (r ∷ rs) =
    let t = reading box i r.lower r.upper in
    and_then t.0 (λ changed. read_from t.1 (suc i) rs)

-- the first box with the caller's ranges taken as readings, node 1 first
abbrev pub held : ℕ → List Range → List ℤ → Box → Result Box Refusal
held n cells us ranges = and_then (first n cells us ranges) (λ box. read_from box 1 ranges)

-- ---- calls

-- a call on the box that the ranges stand for; one that is refused leaves the ranges
abbrev pub called : {X : Type 0} → (Box → Transition X) → Box → Result Box Refusal → Transition X
called call ranges (Ok box) = all_or_none ranges (call box).0 (call box).1
called call ranges (Err e) = (Err e, ranges)

-- rounds that are made answer whether the box is at rest then
abbrev pub rested : Contractor → Box → Result Box Refusal → Transition Bool
rested f before (Ok box) = (Ok (at_rest f box), box)
rested f before (Err e) = (Err e, before)

-- rounds until one changes nothing, 64 at most
abbrev pub settling : Contractor → Box → Transition Bool
settling f box = rested f box (settled f box 64)

-- what a call answers, and what it leaves of the caller's ranges
module _ (n : ℕ) (cells : List Range) (us : List ℤ) (ranges : Box) where
  abbrev pub on_held : {X : Type 0} → (Box → Transition X) → Transition X
  on_held call = called call ranges (held n cells us ranges)

  abbrev pub opening_call : Transition (Unit {0})
  opening_call = replacement ranges (first n cells us ranges)

  abbrev pub row_step_call : ℕ → Transition Bool
  row_step_call i = on_held (λ box. row_step (narrowed (drum n cells)) box i)

  abbrev pub round_call : Transition ℕ
  round_call = on_held (round (narrowed (drum n cells)))

  abbrev pub settling_call : Transition Bool
  settling_call = on_held (settling (narrowed (drum n cells)))

  abbrev pub reading_call : ℕ → ℤ → ℤ → Transition Bool
  reading_call i lower upper = on_held (λ box. reading box i lower upper)

  -- a question leaves the ranges
  abbrev pub rest_call : Result Bool Refusal
  rest_call = and_then (held n cells us ranges) (λ box. Ok (at_rest (narrowed (drum n cells)) box))

  abbrev pub ends_call : ℕ → Result (ℤ × ℤ) Refusal
  ends_call i = and_then (held n cells us ranges) (λ box. ends box i)

-- a node's ends are written over a range, and nothing by a refused call
abbrev pub ends_left : Range → Result (ℤ × ℤ) Refusal → Range
ends_left before (Ok ends) = range ends.0 ends.1
ends_left before (Err e) = before

-- a point against the drum
abbrev pub possible_call : ℕ → List Range → List ℤ → ℤ → Result Bool Refusal
possible_call n cells ps q = if_counted n cells (possible_answer (drum n cells) ps q)

-- what a heat file is answered with, and what the reader then fills
abbrev pub read_answer : List ℕ → List Range → List ℤ → Result ℕ Refusal
read_answer file cells certificate = answer (read file) (length cells) (length certificate)

-- ---- promises

-- an accepted opening's box holds every solution of every member system, and no member has two
abbrev pub EnclosesIfAccepted : Reply → Meaning → Box → Type 0
EnclosesIfAccepted r m now = r.refusal ≡ 0 → Encloses m now

-- each solution of each member system that lies in the ranges that were given lies in those that are there now
abbrev pub KeepsSolutions : Meaning → Box → Box → Type 0
KeepsSolutions m given now =
    (s : Member m) (x : Point) → Solves m s x → Holds m given x → Holds m now x

-- each of them that lies in a reading too
abbrev pub KeepsSolutionsWithin : Meaning → Box → ℕ → Range → Box → Type 0
KeepsSolutionsWithin m given i r now =
    (s : Member m) (x : Point) → Solves m s x
    → Holds m given x → component x i ∈ r → Holds m now x

-- the ranges that an accepted call leaves stand for themselves: the next call goes on from just them
abbrev pub GoesOn : ℕ → List Range → List ℤ → Reply → Box → Type 0
GoesOn n cells us r now = r.refusal ≡ 0 → held n cells us now ≡ Ok now
