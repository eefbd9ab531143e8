-- The whole file: remarks, data lines, trailer.
use Rattle.std.specs.Prelude.{◌≡◌, ℕ, ◌+◌, ◌-◌, ◌≤◌, true, cond, ◌&&◌, List, [], ◌∷◌, ◌++◌, length, take, drop, ℤ, pos, negsuc, Some, None, codes, Option, Err, Result, ◌==◌, nat_le}
use Rattle.std.specs.Str.{bytes_eq}
use Rattle.std.specs.List.{AllByRecursion}
use Rattle.balance.specs.declared.refusal.Refusal.{Refusal}
use Rattle.balance.specs.declared.refusal.Refusal.TheVariants.{File}
use Rattle.heat_file.specs.declared.line.Entry.{Entry}
use Rattle.heat_file.specs.Cuts.{cut, ended, closed, Free}
use Rattle.heat_file.specs.Lines.{spaced, option, words, tagged}
use Rattle.heat_file.specs.Checks.{check}

-- the trailer of data lines that begin at byte place p and are k in number
abbrev pub trailer : ℕ → ℕ → List ℕ
trailer p k = codes "end" ++ spaced (pos p ∷ (pos k ∷ []))

-- remarks, which are empty or end in a line feed, then lines, then the trailer that points behind the remarks and counts the lines
pub record Framed (file remarks : List ℕ) (lines : List (List ℕ)) : Type 0 where
  pub bytes : file ≡ remarks ++ ended 10 (lines ++ (trailer (length remarks) (length lines) ∷ []))
  pub whole : closed 10 remarks ≡ true
  pub free : AllByRecursion (Free 10) lines
  pub short : length file ≤ 65535

-- ---- how the lines are found

abbrev pub last : List (List ℕ) → List ℕ
last [] = []
last (l ∷ []) = l
last (l ∷ (m ∷ ms)) = last (m ∷ ms)

abbrev pub two : List ℤ → Option (ℕ × ℕ)
two [] = None
two (x ∷ []) = None
two (pos p ∷ (pos k ∷ [])) = Some (p, k)
two (pos p ∷ (negsuc k ∷ [])) = None
two (negsuc p ∷ (y ∷ [])) = None
two (x ∷ (y ∷ (z ∷ zs))) = None

-- the two numbers of a trailer
abbrev pub ending : List ℕ → Option (ℕ × ℕ)
ending bs = tagged (λ t zs. cond (bytes_eq t (codes "end")) (two zs) None) (words bs)

-- the bytes before the last line
abbrev pub front : List ℕ → List ℕ
front bs = take (length bs - (length (last (cut 10 bs)) + 1)) bs

-- of what is before the last line, the bytes from place p on, if a line begins there and they are k lines
abbrev pub data_from : List ℕ → ℕ → ℕ → Option (List ℕ)
data_from bs p k = cond (nat_le p (length bs) && (closed 10 (take p bs) && length (cut 10 (drop p bs)) == k)) (Some (drop p bs)) None

-- the place of the data lines and their bytes, if length and trailer are as they should
abbrev pub located : List ℕ → Option (ℕ × List ℕ)
located bs =
    cond (nat_le (length bs) 65535 && closed 10 bs)
    (option (ending (last (cut 10 bs))) None (λ t. option (data_from (front bs) t.0 t.1) None (λ d. Some (t.0, d))))
    None

-- the entries of a file, or why it is refused
abbrev pub read : List ℕ → Result (List Entry) Refusal
read bs = option (located bs) (Err File) (λ d. check d.0 (cut 10 d.1))

-- a file is what is before its last line, and that line with its feed
pub record Parts (file before line : List ℕ) : Type 0 where
  pub bytes : file ≡ before ++ (line ++ (10 ∷ []))
  pub whole : closed 10 before ≡ true
  pub free : Free 10 line
