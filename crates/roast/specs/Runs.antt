-- What holds of every run of calls on a roast that was opened.
use Rattle.std.specs.Prelude.{◌≡◌, ℕ, ◌^◌, Bool, true, if◌then◌else◌, List, [], ◌∷◌, ◌++◌, length, ℤ, pos, Err, Option, Result, is_ok, ◌==◌, ◌≢◌}
use Rattle.balance.specs.declared.range.Range.{Range}
use Rattle.balance.specs.declared.refusal.Refusal.{Refusal}
use Rattle.balance.specs.declared.refusal.Refusal.TheVariants.{Conflict}
use Rattle.balance.specs.Ranges.{range, Inside, Between, ◌⊆◌}
use Rattle.balance.specs.Meanings.{Meaning, IsNode, Same, EveryPlaceAnswers, coefficient_range}
use Rattle.balance.specs.Members.{Member, Point, Solves, SamePoint, component, ◌∈◌}
use Rattle.roast.specs.declared.call.Reading.{Reading}
use Rattle.roast.specs.declared.call.Answer.{Answer}
use Rattle.roast.specs.Rounding.{RoundedOutward, CommonPart}
use Rattle.roast.specs.Certificates.{first_box}
use Rattle.roast.specs.Narrowing.{Box, at, HasNode, Contractor, numerator, narrowed}
use Rattle.roast.specs.Machine.{reading, readings, at_rest, Ask, ask_row_step, ask_round, ask_reading, ask_readings, ask_rest, ask_ends, outcome, after}

-- ---- the readings that a run accepted, as nodes with ranges

pub record Bound : Type 0 where
  pub node : ℕ
  pub span : Range

abbrev pub accepted_if : Bool → ℕ → ℤ → ℤ → List Bound
accepted_if yes_or_no i lower upper = if yes_or_no then record { node = i; span = range lower upper } ∷ [] else []

-- a record of a list is accepted if it got a 0
abbrev pub accepted_records : List Reading → List Bound
accepted_records [] = []
accepted_records (r ∷ rs) = accepted_if (r.answer == 0) r.node r.lower r.upper ++ accepted_records rs

-- an accepted reading is one whose call gives no refusal
abbrev pub accepted_one : Contractor → Box → Ask → List Bound
accepted_one f box (ask_row_step i) = []
accepted_one f box ask_round = []
accepted_one f box (ask_reading i lower upper) = accepted_if (is_ok (reading box i lower upper).0) i lower upper
accepted_one f box (ask_readings rs) = accepted_records (readings box rs).0
accepted_one f box ask_rest = []
accepted_one f box (ask_ends i) = []

abbrev pub accepted : Contractor → Box → List Ask → List Bound
accepted f box [] = []
accepted f box (c ∷ cs) = accepted_one f box c ++ accepted f (outcome f box c).box cs

pub data Among (b : Bound) : List Bound → Type 0 where
  here : {bs : List Bound} → Among b (b ∷ bs)
  there : {a : Bound} {bs : List Bound} → Among b bs → Among b (a ∷ bs)

-- the same set of nodes with ranges
abbrev pub SameSet : List Bound → List Bound → Type 0
SameSet bs cs = ((b : Bound) → Among b bs → Among b cs) × ((b : Bound) → Among b cs → Among b bs)

-- the point lies in each of them
abbrev pub InAll : Point → List Bound → Type 0
InAll x bs = (b : Bound) → Among b bs → component x b.node ∈ b.span

-- ---- boxes

-- each component of the point lies between its node's ends
abbrev pub Holds : Meaning → Box → Point → Type 0
Holds m box x = (j : ℕ) → IsNode m j → component x j ∈ at box j

-- a box for the nodes of a system: each range in order, and no end beyond ±2^30
pub record KeepsLimits (m : Meaning) (box : Box) : Type 0 where
  pub nodes : length box ≡ m.size
  pub ranges : (i : ℕ) → IsNode m i → Between (2 ^ 30) (at box i)

abbrev pub Rests : Contractor → Box → Type 0
Rests f box = at_rest f box ≡ true

-- one box has a range for each node of another, and it lies in that node's
pub record LiesIn (inner outer : Box) : Type 0 where
  pub nodes : length inner ≡ length outer
  pub inside : (i : ℕ) → HasNode inner i → at inner i ⊆ at outer i

-- a box at rest that lies in the box that a run starts with and in each of the readings
pub record RestsIn (f : Contractor) (start : Box) (bs : List Bound) (box : Box) : Type 0 where
  pub starts : LiesIn box start
  pub reads : (b : Bound) → Among b bs → at box b.node ⊆ b.span
  pub rests : Rests f box

-- a box is the largest of them
pub record IsLargestAtRest (f : Contractor) (start : Box) (bs : List Bound) (box : Box) : Type 0 where
  pub is_one : RestsIn f start bs box
  pub holds_others : (other : Box) → RestsIn f start bs other → LiesIn other box

-- ---- row steps

-- every place answers, and no diagonal holds 0
pub record CanBeSolved (m : Meaning) : Type 0 where
  pub answers : EveryPlaceAnswers m
  pub diagonals : (i : ℕ) → IsNode m i → ¬ Inside (pos 0) (coefficient_range m i i)

-- what a node keeps of its range by its row: the numbers that its range shares with the quotient of numerator and diagonal, whose ends are
-- rounded outward; nothing if they share none
pub record KeepsCommonPart (m : Meaning) (box : Box) (i : ℕ) (kept : Option Range) : Type 0 where
  pub quotient : Range
  pub rounds_outward : RoundedOutward (numerator m box i) (coefficient_range m i i) quotient
  pub common_part : CommonPart (at box i) quotient kept

-- ---- conflicts

abbrev pub NotInConflict : Result Answer Refusal → Type 0
NotInConflict a = (j : ℕ) → a ≢ Err (Conflict j)

-- a reading may be in conflict, a row step or a round may not
abbrev pub Calm : Ask → Result Answer Refusal → Type 0
Calm (ask_row_step i) a = NotInConflict a
Calm ask_round a = NotInConflict a
Calm (ask_reading i lower upper) a = Unit {0}
Calm (ask_readings rs) a = Unit {0}
Calm ask_rest a = Unit {0}
Calm (ask_ends i) a = Unit {0}

abbrev pub NoConflict : Contractor → Box → List Ask → Type 0
NoConflict f box [] = Unit {0}
NoConflict f box (c ∷ cs) = Calm c (outcome f box c).answer × NoConflict f (outcome f box c).box cs

-- ---- runs

-- the run of a list of calls on the first box
module _ (m : Meaning) (us : List ℤ) (cs : List Ask) where
  abbrev pub last_box : Box
  last_box = after (narrowed m) (first_box m us) cs

  abbrev pub accepts : List Bound
  accepts = accepted (narrowed m) (first_box m us) cs

  abbrev pub EndsAtRest : Type 0
  EndsAtRest = Rests (narrowed m) last_box

  abbrev pub MeetsNoConflict : Type 0
  MeetsNoConflict = NoConflict (narrowed m) (first_box m us) cs

-- What an accepted opening on a system with this meaning and this certificate promises of every list of calls, refused ones
-- included. A list's front is a list, so what is said of the last box holds after every call.
pub record Dependable (m : Meaning) (us : List ℤ) : Type 0 where
  -- the box holds each solution, of any member system, that lies in all readings accepted so far
  pub holds_every_solution : (cs : List Ask) (s : Member m) (x : Point) → Solves m s x → InAll x (accepts m us cs) → Holds m (last_box m us cs) x
  -- no member system has two solutions
  pub one_solution : (s : Member m) (x y : Point) → Solves m s x → Solves m s y → SamePoint m x y
  -- the box has a range for each node, in order and within ±2^30
  pub keeps_the_limits : (cs : List Ask) → KeepsLimits m (last_box m us cs)
  -- no row step is refused because of a place or a diagonal
  pub can_be_solved : CanBeSolved m
  -- a row step keeps what the node's range shares with the quotient, rounded outward, or is a conflict
  pub rounds_outward : (box : Box) (i : ℕ) → length box ≡ m.size → IsNode m i → KeepsCommonPart m box i (narrowed m box i)
  -- the box holds every box at rest that lies in the first box and in all readings accepted so far
  pub holds_every_box_at_rest : (cs : List Ask) (box : Box) → RestsIn (narrowed m) (first_box m us) (accepts m us cs) box → LiesIn box (last_box m us cs)
  -- so a run that ends at rest ends in the largest of them
  pub ends_in_the_largest : (cs : List Ask) → EndsAtRest m us cs → IsLargestAtRest (narrowed m) (first_box m us) (accepts m us cs) (last_box m us cs)
  -- two runs over systems of one meaning that accept the same readings and end at rest end in one box
  pub same_rest : (m' : Meaning) → Same m m' → (cs ds : List Ask) → SameSet (accepts m us cs) (accepts m' us ds) → EndsAtRest m us cs → EndsAtRest m' us ds → last_box m us cs ≡ last_box m' us ds
  -- if one of them ends at rest, no row step or round of the other is refused as a conflict
  pub no_conflict : (m' : Meaning) → Same m m' → (cs ds : List Ask) → SameSet (accepts m us cs) (accepts m' us ds) → (EndsAtRest m us cs → MeetsNoConflict m' us ds) × (EndsAtRest m' us ds → MeetsNoConflict m us cs)
  -- nor is one of a run that accepts only readings in which some solution of some member lies
  pub truth_meets_no_conflict : (cs : List Ask) (s : Member m) (x : Point) → Solves m s x → InAll x (accepts m us cs) → MeetsNoConflict m us cs
