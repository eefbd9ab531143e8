-- What a call that fills cells and a certificate from a file promises, in words of files and entries.
use Rattle.std.specs.Prelude.{◌≡◌, ◌≢◌, ◌↔◌, ℕ, ◌+◌, ◌-◌, ◌*◌, ◌≤◌, cond, ◌&&◌, List, [], ◌∷◌, length, drop, ℤ, pos, Ok, Err, Result, ◌==◌, unsigned_abs, slice_index_or}
use Rattle.balance.specs.declared.range.Range.{Range}
use Rattle.balance.specs.declared.refusal.Refusal.{Refusal}
use Rattle.balance.specs.declared.refusal.Refusal.TheVariants.{File, Room}
use Rattle.balance.specs.Ranges.{only}
use Rattle.heat_file.specs.declared.line.Entry.{Entry}
use Rattle.heat_file.specs.declared.line.Entry.TheVariants.{Size, Coefficient, RightSide, Weight}
use Rattle.heat_file.specs.Files.{Framed}
use Rattle.heat_file.specs.Forms.{Holds, Refused}
use Rattle.heat_file.specs.Filled.{index}

-- room for the cells and the certificate of n nodes
abbrev pub HasRoom : ℕ → ℕ → ℕ → Type 0
HasRoom n cell_count weight_count = (n * (n + 1) ≤ cell_count) × (n ≤ weight_count)

-- a size is answered exactly for a file of some entries of that size, if there is room
abbrev pub AcceptsFiles : List ℕ → ℕ → ℕ → Result ℕ Refusal → Type 0
AcceptsFiles file cell_count weight_count r = (n : ℕ) → r ≡ Ok n ↔ ((es : List Entry) × Holds file n es × HasRoom n cell_count weight_count)

-- the same where no room is wanted
abbrev pub TellsSize : List ℕ → Result ℕ Refusal → Type 0
TellsSize file r = (n : ℕ) → r ≡ Ok n ↔ ((es : List Entry) × Holds file n es)

-- without room for them the files of entries are refused, and no others for that reason
abbrev pub WantsRoom : List ℕ → ℕ → ℕ → Result ℕ Refusal → Type 0
WantsRoom file cell_count weight_count r = r ≡ Err Room ↔ ((n : ℕ) × (es : List Entry) × Holds file n es × (HasRoom n cell_count weight_count → ⊥))

-- the file is refused as a whole exactly if it has not remarks, lines and a trailer that fits them
abbrev pub WantsFrame : List ℕ → Result ℕ Refusal → Type 0
WantsFrame file r = r ≡ Err File ↔ ((remarks : List ℕ) (lines : List (List ℕ)) → Framed file remarks lines → ⊥)

-- for the rest it is refused exactly by the first bad line
abbrev pub RefusesFirstBad : List ℕ → Result ℕ Refusal → Type 0
RefusesFirstBad file r = (remarks : List ℕ) (lines : List (List ℕ)) → Framed file remarks lines → (e : Refusal) → e ≢ Room → r ≡ Err e ↔ Refused (length remarks) lines e

-- no file is one of two sizes or of two lists of entries
abbrev pub OneReading : List ℕ → Type 0
OneReading file = (n m : ℕ) (es fs : List Entry) → Holds file n es → Holds file m fs → (n ≡ m) × (es ≡ fs)

-- ---- what is filled

-- the range that entries give row i and column j, [0, 0] if none does; column n + 1 is the right side
abbrev pub range_given : ℕ → List Entry → ℕ → ℕ → Range → Range
range_given n [] i j other = other
range_given n (Size m ∷ es) i j other = range_given n es i j other
range_given n (Coefficient a b r ∷ es) i j other = range_given n es i j (cond (unsigned_abs a == i && unsigned_abs b == j) r other)
range_given n (RightSide a r ∷ es) i j other = range_given n es i j (cond (unsigned_abs a == i && n + 1 == j) r other)
range_given n (Weight a u ∷ es) i j other = range_given n es i j other

-- the number that entries give node i, or another
abbrev pub weight_given : List Entry → ℕ → ℤ → ℤ
weight_given [] i other = other
weight_given (Size m ∷ es) i other = weight_given es i other
weight_given (Coefficient a b r ∷ es) i other = weight_given es i other
weight_given (RightSide a r ∷ es) i other = weight_given es i other
weight_given (Weight a u ∷ es) i other = weight_given es i (cond (unsigned_abs a == i) u other)

-- each cell holds the range that the lines give its place, [0, 0] if none does
abbrev pub CellsHold : List ℕ → Result ℕ Refusal → List Range → Type 0
CellsHold file r cells = (n : ℕ) (es : List Entry) → r ≡ Ok n → Holds file n es → (i j : ℕ) → 1 ≤ i → i ≤ n → 1 ≤ j → j ≤ n + 1 →
    slice_index_or cells (index n i j) (only (pos 0)) ≡ range_given n es i j (only (pos 0))

-- each number of the certificate is the one that the lines give its node, 1 if none does
abbrev pub WeightsHold : List ℕ → Result ℕ Refusal → List ℤ → Type 0
WeightsHold file r certificate = (n : ℕ) (es : List Entry) → r ≡ Ok n → Holds file n es → (i : ℕ) → 1 ≤ i → i ≤ n →
    slice_index_or certificate (i - 1) (pos 1) ≡ weight_given es i (pos 1)

-- what is beyond the table and the nodes stays, and a refused call leaves all as it was
abbrev pub KeepsRest : Result ℕ Refusal → List Range → List Range → List ℤ → List ℤ → Type 0
KeepsRest (Ok n) cells cells' certificate certificate' =
    (length cells' ≡ length cells) × (drop (n * (n + 1)) cells' ≡ drop (n * (n + 1)) cells)
    × (length certificate' ≡ length certificate) × (drop n certificate' ≡ drop n certificate)
KeepsRest (Err e) cells cells' certificate certificate' = (cells' ≡ cells) × (certificate' ≡ certificate)
