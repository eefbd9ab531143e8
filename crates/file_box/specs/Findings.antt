-- The box that is found for a system: rounds upon the first box until one changes nothing.
use Rattle.std.specs.Prelude.{ℕ, zero, suc, cond, if◌then◌else◌, List, ℤ, Ok, Err, Result, Bool, ◌+◌, ◌*◌, ◌&&◌, ◌==◌, nat_le, length, map}
use Rattle.balance.specs.declared.refusal.Refusal.{Refusal}
use Rattle.balance.specs.declared.range.Range.{Range}
use Rattle.balance.specs.declared.refusal.Refusal.TheVariants.{Size}
use Rattle.balance.specs.Cells.{range_ends}
use Rattle.balance.specs.Meanings.{Meaning}
use Rattle.balance.specs.Members.{Member, Point, Solves, SamePoint}
use Rattle.balance.specs.Tables.{table}
use Rattle.roast.specs.Runs.{Holds}
use Rattle.roast.specs.Certificates.{opening}
use Rattle.roast.specs.Narrowing.{Box, Contractor, narrowed}
use Rattle.roast.specs.Machine.{round, at_rest}
use Rattle.heat_file.specs.Reports.{box_report, refusal_report}

-- a round that changed nothing ends the search, and so does one that is refused
abbrev pub settle_on : Result ℕ Refusal → Box → Result Box Refusal → Result Box Refusal
settle_on (Ok n) box more = if n == 0 then Ok box else more
settle_on (Err e) box more = Err e

-- the box after rounds until one changes nothing, so many at most, or the first refusal
unfoldable pub settled : Contractor → Box → ℕ → Result Box Refusal
settled f box zero = Ok box
settled f box (suc k) = settle_on (round f box).0 (round f box).1 (settled f (round f box).1 k)

-- from the first box, 64 rounds at most
abbrev pub settled_first : Meaning → Result Box Refusal → Result Box Refusal
settled_first m (Ok box) = settled (narrowed m) box 64
settled_first m (Err e) = Err e

-- the box that is found under a certificate, or the first refusal
abbrev pub found : Meaning → List ℤ → Result Box Refusal
found m us = settled_first m (opening m us)

-- The law of a box that is found: it holds every solution of every member system, and no member has two.
pub record Encloses (m : Meaning) (box : Box) : Type 0 where
  pub holds_every_solution : (s : Member m) (x : Point) → Solves m s x → Holds m box x
  pub one_solution : (s : Member m) (x y : Point) → Solves m s x → Solves m s y → SamePoint m x y

abbrev pub EnclosesIfFound : Meaning → Result Box Refusal → Type 0
EnclosesIfFound m (Ok box) = Encloses m box
EnclosesIfFound m (Err r) = Unit {0}

-- the report of a box, or of a refusal
abbrev pub report : Meaning → Result Box Refusal → List ℕ
report m (Ok box) = box_report box (at_rest (narrowed m) box)
report m (Err r) = refusal_report r

-- the report on a system under a certificate
abbrev pub system_report : Meaning → List ℤ → List ℕ
system_report m us = report m (found m us)

-- 1 to 32 nodes, and as many cells as they have places
abbrev pub is_counted : ℕ → ℕ → Bool
is_counted n count = nat_le 1 n && (nat_le n 32 && count == n * (n + 1))

-- the report on the table of some cells; another size or count is refused
abbrev pub table_report : ℕ → List Range → List ℤ → List ℕ
table_report n cells us = cond (is_counted n (length cells)) (system_report (table n (map range_ends cells)) us) (refusal_report (Size 0))
