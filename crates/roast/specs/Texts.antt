-- How readings, calls and answers are shown.
use Rattle.std.specs.Prelude.{ℕ, true, false, List, ◌++◌, ℤ, codes, decimal}
use Rattle.balance.specs.Ranges.{range, range_text}
use Rattle.roast.specs.declared.call.Call.{Call}
use Rattle.roast.specs.declared.call.Call.TheVariants.{RowStep, Round, Reading as ReadingCall, Readings, AtRest as AtRestCall, Ends as EndsCall}
use Rattle.roast.specs.declared.call.Answer.{Answer}
use Rattle.roast.specs.declared.call.Answer.TheVariants.{Changed, Changes, Done, AtRest, Ends}

abbrev pub reading_text : ℕ → ℤ → ℤ → List ℕ
reading_text node lower upper = codes "reading " ++ (range_text (range lower upper) ++ (codes " at node " ++ decimal node))

abbrev pub call_text : Call → List ℕ
call_text (RowStep i) = codes "row step " ++ decimal i
call_text Round = codes "round"
call_text (ReadingCall i lower upper) = reading_text i lower upper
call_text (Readings rs) = codes "readings list"
call_text AtRestCall = codes "at rest"
call_text (EndsCall i) = codes "ends of node " ++ decimal i

abbrev pub answer_text : Answer → List ℕ
answer_text (Changed true) = codes "changed"
answer_text (Changed false) = codes "unchanged"
answer_text (Changes n) = decimal n ++ codes " changed"
answer_text Done = codes "done"
answer_text (AtRest true) = codes "yes"
answer_text (AtRest false) = codes "no"
answer_text (Ends e) = range_text (range e.0 e.1)
