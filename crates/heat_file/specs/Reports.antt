-- The lines of a report.
use Rattle.std.specs.Prelude.{ℕ, ◌+◌, Bool, true, false, cond, List, [], ◌∷◌, ◌++◌, length, drop, codes, decimal, Ok, Err, Result, nat_le}
use Rattle.std.specs.Fmt.{signed_decimal}
use Rattle.balance.specs.declared.range.Range.{Range}
use Rattle.balance.specs.declared.refusal.Refusal.{Refusal}
use Rattle.balance.specs.declared.refusal.Refusal.TheVariants.{Room}
use Rattle.balance.specs.Refusals.{spaced, written}

-- a line with its line feed
abbrev pub ended : List ℕ → List ℕ
ended line = line ++ 10 ∷ []

-- `box n`
abbrev pub box_line : ℕ → List ℕ
box_line n = ended (codes "box " ++ decimal n)

-- `i lower upper`
abbrev pub node_line : ℕ → Range → List ℕ
node_line i r = ended (decimal i ++ (32 ∷ signed_decimal r.lower) ++ (32 ∷ signed_decimal r.upper))

-- `rest yes` or `rest no`
abbrev pub rest_line : Bool → List ℕ
rest_line true = ended (codes "rest yes")
rest_line false = ended (codes "rest no")

-- the lines of nodes that are numbered from i on
abbrev pub node_lines : ℕ → List Range → List ℕ
node_lines i [] = []
node_lines i (r ∷ rs) = node_line i r ++ node_lines (i + 1) rs

-- a size, each node with its ends, and whether the box is at rest
abbrev pub box_report : List Range → Bool → List ℕ
box_report ranges rests = box_line (length ranges) ++ (node_lines 1 ranges ++ rest_line rests)

-- `refused` and some numbers
abbrev pub refused_line : List ℕ → List ℕ
refused_line ns = ended (codes "refused" ++ spaced ns)

-- a refusal's line alone
abbrev pub refusal_report : Refusal → List ℕ
refusal_report r = ended (written r)

-- ---- a report in a buffer

abbrev pub fits : List ℕ → List ℕ → Bool
fits text buffer = nat_le (length text) (length buffer)

-- the length of a report, or that there is no room for it
abbrev pub length_or_no_room : List ℕ → List ℕ → Result ℕ Refusal
length_or_no_room text buffer = cond (fits text buffer) (Ok (length text)) (Err Room)

-- the report, and behind it what the buffer held; all that it held, if there is no room
abbrev pub put_in_front : List ℕ → List ℕ → List ℕ
put_in_front text buffer = cond (fits text buffer) (text ++ drop (length text) buffer) buffer
