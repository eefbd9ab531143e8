-- The data lines of a heat file, without their line feeds.
use Rattle.std.specs.Prelude.{◌≡◌, ◌↔◌, ℕ, cond, ◌&&◌, List, [], ◌∷◌, ◌++◌, length, ℤ, pos, Some, None, codes, Option, ◌==◌, slice_index_or}
use Rattle.std.specs.Fmt.{signed_decimal}
use Rattle.std.specs.Str.{bytes_eq}
use Rattle.std.specs.List.{AllByRecursion}
use Rattle.balance.specs.Ranges.{range}
use Rattle.heat_file.specs.declared.line.Entry.{Entry}
use Rattle.heat_file.specs.declared.line.Entry.TheVariants.{Size, Coefficient, RightSide, Weight}
use Rattle.heat_file.specs.Cuts.{cut}
use Rattle.heat_file.specs.Numbers.{Short, number}

abbrev pub tag : Entry → List ℕ
tag (Size n) = codes "size"
tag (Coefficient i j r) = codes "a"
tag (RightSide i r) = codes "b"
tag (Weight i u) = codes "u"

abbrev pub fields : Entry → List ℤ
fields (Size n) = n ∷ []
fields (Coefficient i j r) = i ∷ (j ∷ (r.lower ∷ (r.upper ∷ [])))
fields (RightSide i r) = i ∷ (r.lower ∷ (r.upper ∷ []))
fields (Weight i u) = i ∷ (u ∷ [])

-- each number after a space
abbrev pub spaced : List ℤ → List ℕ
spaced [] = []
spaced (z ∷ zs) = 32 ∷ (signed_decimal z ++ spaced zs)

-- the line that writes an entry
abbrev pub line : Entry → List ℕ
line e = tag e ++ spaced (fields e)

-- every number of the entry has at most 13 digits
abbrev pub Brief : Entry → Type 0
Brief e = AllByRecursion Short (fields e)

-- f of what an option holds, d of none
abbrev pub option : {X Y : Type 0} → Option X → Y → (X → Y) → Y
option None d f = d
option (Some x) d f = f x

abbrev pub numbers : List (List ℕ) → Option (List ℤ)
numbers [] = Some []
numbers (w ∷ ws) = option (number w) None (λ z. option (numbers ws) None (λ zs. Some (z ∷ zs)))

abbrev pub entry : List ℕ → List ℤ → Option Entry
entry t zs =
    let at : ℕ → ℤ = λ k. slice_index_or zs k (pos 0) in
    cond (bytes_eq t (codes "size") && length zs == 1) (Some (Size (at 0)))
    (cond (bytes_eq t (codes "a") && length zs == 4) (Some (Coefficient (at 0) (at 1) (range (at 2) (at 3))))
    (cond (bytes_eq t (codes "b") && length zs == 3) (Some (RightSide (at 0) (range (at 1) (at 2))))
    (cond (bytes_eq t (codes "u") && length zs == 2) (Some (Weight (at 0) (at 1))) None)))

abbrev pub words : List ℕ → List (List ℕ)
words bs = cut 32 (bs ++ (32 ∷ []))

-- the numbers of a text of k words
abbrev pub exactly : ℕ → List ℕ → Option (List ℤ)
exactly k bs = option (numbers (words bs)) None (λ zs. cond (length zs == k) (Some zs) None)

-- tag and numbers of a line that begins with a tag
abbrev pub tagged : {X : Type 0} → (List ℕ → List ℤ → Option X) → List (List ℕ) → Option X
tagged f [] = None
tagged f (t ∷ ws) = option (numbers ws) None (f t)

-- the entry that a line writes, None at another shape
abbrev pub parse_line : List ℕ → Option Entry
parse_line bs = tagged entry (words bs)

-- a line is read as an entry exactly if it is the line of that entry, whose numbers have at most 13 digits
abbrev pub ReadsLine : List ℕ → Option Entry → Type 0
ReadsLine bs o = (e : Entry) → o ≡ Some e ↔ ((bs ≡ line e) × Brief e)
