-- Texts made of pieces that one byte ends: lines by a line feed, words by a space.
use Rattle.std.specs.Prelude.{◌≡◌, ℕ, Bool, true, false, cond, List, [], ◌∷◌, ◌++◌, ◌==◌}

-- the pieces one after the other, each ended by s
abbrev pub ended : ℕ → List (List ℕ) → List ℕ
ended s [] = []
ended s (p ∷ ps) = p ++ (s ∷ ended s ps)

abbrev pub onto : ℕ → List (List ℕ) → List (List ℕ)
onto c [] = []
onto c (p ∷ ps) = (c ∷ p) ∷ ps

-- the pieces of a text that s ends; what follows the last s is left out
abbrev pub cut : ℕ → List ℕ → List (List ℕ)
cut s [] = []
cut s (c ∷ cs) = cond (c == s) ([] ∷ cut s cs) (onto c (cut s cs))

-- a text that is empty or whose last byte is s
abbrev pub closed : ℕ → List ℕ → Bool
closed s [] = true
closed s (c ∷ []) = c == s
closed s (c ∷ (d ∷ ds)) = closed s (d ∷ ds)

-- s is not in the text
abbrev pub Free : ℕ → List ℕ → Type 0
Free s [] = Unit {0}
Free s (c ∷ cs) = (c == s ≡ false) × Free s cs
