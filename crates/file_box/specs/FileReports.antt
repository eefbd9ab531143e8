-- What a heat file is answered with.
use Rattle.std.specs.Prelude.{◌≡◌, ℕ, ◌+◌, ◌*◌, ◌^◌, ◌⊎◌, Bool, List, take, replicate, ℤ, pos, Ok, Err, Result}
use Rattle.balance.specs.declared.range.Range.{Range}
use Rattle.balance.specs.declared.refusal.Refusal.{Refusal}
use Rattle.balance.specs.Ranges.{only}
use Rattle.heat_file.specs.declared.line.Entry.{Entry}
use Rattle.heat_file.specs.Files.{read}
use Rattle.heat_file.specs.Filled.{size, cells, certificate}
use Rattle.balance.specs.Meanings.{Meaning, limited}
use Rattle.roast.specs.Narrowing.{Box}
use Rattle.heat_file.specs.Forms.{Holds}
use Rattle.heat_file.specs.Laws.{range_given}
use Rattle.heat_file.specs.Reports.{box_report, refusal_report}
use Rattle.file_box.specs.Findings.{table_report, Encloses}

-- room for 32 nodes, with nothing in it
abbrev pub no_cells : List Range
no_cells = replicate 1056 (only (pos 0))

abbrev pub no_numbers : List ℤ
no_numbers = replicate 32 (pos 0)

-- the report on the table of n nodes that entries fill, under the certificate that they fill
abbrev pub entries_report : ℕ → List Entry → List ℕ
entries_report n es = table_report n (take (n * (n + 1)) (cells n es no_cells)) (take n (certificate n es no_numbers))

-- the report on what is read, or the line of its refusal
abbrev pub read_report : Result (List Entry) Refusal → List ℕ
read_report (Ok es) = entries_report (size es) es
read_report (Err r) = refusal_report r

abbrev pub file_report : List ℕ → List ℕ
file_report file = read_report (read file)

-- ---- what is printed for a file

-- the table that entries give: at each place the range that a line gives it, and [0, 0] where none does
abbrev pub table_given : ℕ → List Entry → Meaning
table_given n es = record {
  size = n;
  coefficient = λ i j. limited (2 ^ 20) 1 i j (range_given n es i j (only (pos 0)));
  right_side = λ i. limited (2 ^ 42) 1 i (n + 1) (range_given n es i (n + 1) (only (pos 0)));
}

-- the report is that of a box which holds every solution of every member of a system, where no member has two
pub record ReportsBox (report : List ℕ) (m : Meaning) : Type 0 where
  pub box : Box
  pub rests : Bool
  pub printed : report ≡ box_report box rests
  pub encloses : Encloses m box

-- the report is the line of a refusal
abbrev pub ReportsRefusal : List ℕ → Type 0
ReportsRefusal report = (e : Refusal) × (report ≡ refusal_report e)

-- for a file that says some entries a box that is printed encloses the solutions of their table
abbrev pub ReportsEnclosure : List ℕ → List ℕ → Type 0
ReportsEnclosure file report = (n : ℕ) (es : List Entry) → Holds file n es → ReportsBox report (table_given n es) ⊎ ReportsRefusal report
