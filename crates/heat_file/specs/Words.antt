-- The words of a file: runs of bytes between spaces, line feeds and the file's ends.
use Rattle.std.specs.Prelude.{◌≡◌, ℕ, zero, suc, ◌+◌, ◌-◌, ◌<◌, ◌≤◌, Bool, true, false, cond, List, [], ◌∷◌, length, take, drop, codes, Some, None, Option, is_some, unwrap_or, bytes_eq, position, ◌==◌, nat_lt, slice_index}
use Rattle.heat_file.specs.declared.word.FileWords.{FileWords}
use Rattle.heat_file.specs.declared.word.Word.{Word}
use Rattle.heat_file.specs.declared.word.Word.TheVariants.{Tag, Number, Name}
use Rattle.heat_file.specs.Numbers.{number}

-- a space or a line feed
abbrev pub is_gap : ℕ → Bool
is_gap b = cond (b == 32) true (b == 10)

-- The bytes are a word of the file that begins at a place: some bytes that stand there, none of them a space or a line feed, between two
-- of these or the file's ends.
pub record IsRun (file : List ℕ) (place : ℕ) (bytes : List ℕ) : Type 0 where
  pub fits : place + length bytes ≤ length file
  pub stands_there : bytes ≡ take (length bytes) (drop place file)
  pub some : 1 ≤ length bytes
  pub whole : (k : ℕ) → place ≤ k → k < place + length bytes → is_gap (slice_index file k) ≡ false
  pub begins : (k : ℕ) → k + 1 ≡ place → is_gap (slice_index file k) ≡ true
  pub ends : place + length bytes < length file → is_gap (slice_index file (place + length bytes)) ≡ true

-- `size`, `a`, `b`, `u` or `end`
abbrev pub is_tag : List ℕ → Bool
is_tag w =
    cond (bytes_eq w (codes "size")) true
    (cond (bytes_eq w (codes "a")) true
    (cond (bytes_eq w (codes "b")) true
    (cond (bytes_eq w (codes "u")) true
    (bytes_eq w (codes "end")))))

pub data Kind : Type 0 where
  tag : Kind
  numeral : Kind
  name : Kind

-- a word that writes a number is a numeral, and one that is neither a tag nor a numeral is a name
abbrev pub kind : List ℕ → Kind
kind w = cond (is_tag w) tag (cond (is_some (number w)) numeral name)

-- a word's kind, bytes and place
pub record Spelled : Type 0 where
  pub kind : Kind
  pub bytes : List ℕ
  pub place : ℕ

abbrev pub shown : Word → Spelled
shown (Tag bytes place) = record { kind = tag; bytes = bytes.now; place = place }
shown (Number bytes place) = record { kind = numeral; bytes = bytes.now; place = place }
shown (Name bytes place) = record { kind = name; bytes = bytes.now; place = place }

-- a word of the file at this place, of the kind that its bytes tell
pub record IsWord (file : List ℕ) (place : ℕ) (w : Spelled) : Type 0 where
  pub run : IsRun file place w.bytes
  pub kind_told : w.kind ≡ kind w.bytes
  pub there : w.place ≡ place

-- ---- what is answered

abbrev pub gap_before : List ℕ → ℕ → Bool
gap_before file zero = true
gap_before file (suc k) = is_gap (slice_index file k)

abbrev pub begins_at : List ℕ → ℕ → Bool
begins_at file place = cond (nat_lt place (length file)) (cond (is_gap (slice_index file place)) false (gap_before file place)) false

abbrev pub spelled : List ℕ → ℕ → Spelled
spelled bytes place = record { kind = kind bytes; bytes = bytes; place = place }

-- up to the first space or line feed, or the end
abbrev pub run : List ℕ → List ℕ
run bs = take (unwrap_or (position is_gap bs) (length bs)) bs

-- the word that begins at a place
abbrev pub word_at : List ℕ → ℕ → Option Spelled
word_at file place = cond (begins_at file place) (Some (spelled (run (drop place file)) place)) None

abbrev pub joined : Option Spelled → List Spelled → List Spelled
joined None ws = ws
joined (Some w) ws = w ∷ ws

-- the words that begin at one of so many places from a place on, in order
abbrev pub words_among : List ℕ → ℕ → ℕ → List Spelled
words_among file place zero = []
words_among file place (suc count) = joined (word_at file place) (words_among file (place + 1) count)

-- the words from a place on
abbrev pub words_from : List ℕ → ℕ → List Spelled
words_from file place = words_among file place (length file - place)

-- the words of a file
abbrev pub words : List ℕ → List Spelled
words file = words_from file 0

-- what an iterator has left
abbrev pub words_left : FileWords → List Spelled
words_left w = words_from w.file.now w.place

-- each of these is a word of the file, from a place on and behind the word before it
abbrev pub AreWords : List ℕ → ℕ → List Spelled → Type 0
AreWords file place [] = Unit {0}
AreWords file place (w ∷ ws) = IsWord file w.place w × (place ≤ w.place) × AreWords file (w.place + 1) ws

pub data Listed (w : Spelled) : List Spelled → Type 0 where
  here : {ws : List Spelled} → Listed w (w ∷ ws)
  there : {v : Spelled} {ws : List Spelled} → Listed w ws → Listed w (v ∷ ws)

-- The list has every word of the file once, in the order of their places.
pub record IsEveryWord (file : List ℕ) (ws : List Spelled) : Type 0 where
  pub in_order : AreWords file 0 ws
  pub none_left_out : (w : Spelled) → IsWord file w.place w → Listed w ws
