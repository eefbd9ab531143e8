-- A list of calls with their answers, as the machine leaves it.
use Rattle.std.specs.Prelude.{◌≡◌, List, [], ◌∷◌, map, ℤ, Some, Ok, Err, Option, Result}
use Rattle.balance.specs.declared.refusal.Refusal.{Refusal}
use Rattle.balance.specs.Meanings.{Meaning}
use Rattle.roast.specs.declared.call.Answer.{Answer}
use Rattle.roast.specs.declared.call.Entry.{Entry}
use Rattle.roast.specs.Certificates.{first_box, Opens}
use Rattle.roast.specs.Narrowing.{Box, Contractor, narrowed}
use Rattle.roast.specs.Machine.{Ask, ask_row_step, ask_round, ask_reading, ask_readings, ask_rest, ask_ends, ask_of, Outcome, outcome}
use Rattle.roast.specs.Runs.{last_box, Dependable}

abbrev pub ask : Entry → Ask
ask e = ask_of e.call

-- a call and its answer
abbrev pub shown : Entry → Ask × Option (Result Answer Refusal)
shown e = (ask e, e.answer)

-- a list of readings has the machine's records once it is answered
abbrev pub answered : Ask → Outcome → Ask
answered (ask_row_step i) o = ask_row_step i
answered ask_round o = ask_round
answered (ask_reading i lower upper) o = ask_reading i lower upper
answered (ask_readings rs) o = ask_readings o.records
answered ask_rest o = ask_rest
answered (ask_ends i) o = ask_ends i

-- each call with the answer that the machine gives it
abbrev pub replayed : Contractor → Box → List Ask → List (Ask × Option (Result Answer Refusal))
replayed f box [] = []
replayed f box (c ∷ cs) = (answered c (outcome f box c), Some (outcome f box c).answer) ∷ replayed f (outcome f box c).box cs

-- A replay that was opened: every answer and record, and the last box, are the machine's, which started with the first box; and
-- every run of calls with this meaning and certificate is dependable.
pub record AsTheMachine (m : Meaning) (us : List ℤ) (before after : List Entry) (last : Box) : Type 0 where
  pub opened : Opens m us
  pub answers_and_records : map shown after ≡ replayed (narrowed m) (first_box m us) (map ask before)
  pub box_after : last ≡ last_box m us (map ask before)
  pub dependable : Dependable m us

-- or one that was not, which changed nothing
pub record Untouched (m : Meaning) (us : List ℤ) (before after : List Entry) (old new : Box) : Type 0 where
  pub not_opened : Opens m us → ⊥
  pub entries_stay : after ≡ before
  pub box_stays : new ≡ old

abbrev pub Replayed : Meaning → List ℤ → List Entry → List Entry → Box → Box → Result (Unit {0}) Refusal → Type 0
Replayed m us before after old new (Ok done) = AsTheMachine m us before after new
Replayed m us before after old new (Err e) = Untouched m us before after old new
