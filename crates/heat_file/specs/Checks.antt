-- What is checked of entries that follow one another, and the refusal of the first that does not stand.
use Rattle.std.specs.Prelude.{ℕ, ◌+◌, Bool, true, false, cond, ◌&&◌, ◌||◌, List, [], ◌∷◌, length, ℤ, pos, ◌≤ℤ◌, Ok, Err, Result, ◌==◌, nat_lt, int_le, int_lt, unsigned_abs}
use Rattle.std.specs.Ordering.{int_eq}
use Rattle.balance.specs.declared.refusal.Refusal.{Refusal}
use Rattle.balance.specs.declared.refusal.Refusal.TheVariants.{Shape, Size as SizeRefusal, Node, Order, Crossed}
use Rattle.balance.specs.Ranges.{range, contains}
use Rattle.heat_file.specs.declared.line.Entry.{Entry}
use Rattle.heat_file.specs.declared.line.Entry.TheVariants.{Size, Coefficient, RightSide, Weight}
use Rattle.heat_file.specs.declared.check.Standing.{Standing}
use Rattle.heat_file.specs.Lines.{parse_line, option}

-- sort, row and column
abbrev pub Key : Type 0
Key = ℕ × ℤ × ℤ

abbrev pub key : Entry → Key
key (Size n) = (1, pos 0, pos 0)
key (Coefficient i j r) = (2, i, j)
key (RightSide i r) = (3, i, pos 0)
key (Weight i u) = (4, i, pos 0)

-- the order of the first of the three that differs
abbrev pub before : Key → Key → Bool
before k l = nat_lt k.0 l.0 || (k.0 == l.0 && (int_lt k.1 l.1 || (int_eq k.1 l.1 && int_lt k.2 l.2)))

abbrev pub is_size : Entry → Bool
is_size (Size n) = true
is_size (Coefficient i j r) = false
is_size (RightSide i r) = false
is_size (Weight i u) = false

-- a size is one of 1 to 32
abbrev pub sized : Entry → Bool
sized (Size n) = contains (range (pos 1) (pos 32)) n
sized (Coefficient i j r) = true
sized (RightSide i r) = true
sized (Weight i u) = true

-- nodes are some of 1 to n
abbrev pub inside : ℤ → Entry → Bool
inside n (Size m) = true
inside n (Coefficient i j r) = contains (range (pos 1) n) i && contains (range (pos 1) n) j
inside n (RightSide i r) = contains (range (pos 1) n) i
inside n (Weight i u) = contains (range (pos 1) n) i

-- the lower end is not above the upper
abbrev pub ordered : Entry → Bool
ordered (Size n) = true
ordered (Coefficient i j r) = int_le r.lower r.upper
ordered (RightSide i r) = int_le r.lower r.upper
ordered (Weight i u) = true

-- the size of the file after an entry
abbrev pub size_after : ℤ → Entry → ℤ
size_after n (Size m) = m
size_after n (Coefficient i j r) = n
size_after n (RightSide i r) = n
size_after n (Weight i u) = n

-- no size yet, or one of 1 to 32
abbrev pub Few : ℤ → Type 0
Few n = (pos 0 ≤ℤ n) × (n ≤ℤ pos 32)

-- before the first line
abbrev pub start : Standing
start = record { size = pos 0; last = (0, pos 0, pos 0) }

abbrev pub after : Standing → Entry → Standing
after s e = record { size = size_after s.size e; last = key e }

-- a size line comes first
abbrev pub opens : Standing → Entry → Bool
opens s e = cond (s.last.0 == 0) (is_size e) true

-- what an entry at byte place p leaves, or its refusal
abbrev pub entry_check : Standing → ℕ → Entry → Result Standing Refusal
entry_check s p e =
    cond (opens s e)
    (cond (sized e)
    (cond (inside s.size e)
    (cond (before s.last (key e))
    (cond (ordered e) (Ok (after s e)) (Err (Crossed p)))
    (Err (Order p)))
    (Err (Node p)))
    (Err (SizeRefusal p)))
    (Err (Shape p))

-- an entry before those of other lines, unless one of them is refused
abbrev pub onto : Entry → Result (List Entry) Refusal → Result (List Entry) Refusal
onto e (Ok es) = Ok (e ∷ es)
onto e (Err r) = Err r

abbrev pub and_then : {X Y : Type 0} → Result X Refusal → (X → Result Y Refusal) → Result Y Refusal
and_then (Ok x) f = f x
and_then (Err r) f = Err r

-- the entries of lines, the first of them at byte place p, or the refusal of the first bad one
abbrev pub checked : Standing → ℕ → List (List ℕ) → Result (List Entry) Refusal
checked s p [] = Ok []
checked s p (l ∷ ls) =
    option (parse_line l) (Err (Shape p)) (λ e.
    and_then (entry_check s p e) (λ t. onto e (checked t (p + (length l + 1)) ls)))

-- the same of all data lines, of which there is one at least
abbrev pub check : ℕ → List (List ℕ) → Result (List Entry) Refusal
check p [] = Err (Shape p)
check p (l ∷ ls) = checked start p (l ∷ ls)

-- the size that entries give, after a size n
abbrev pub size_of : ℤ → List Entry → ℤ
size_of n [] = n
size_of n (e ∷ es) = size_of (size_after n e) es

-- the size of the file, or the refusal
abbrev pub told : ℤ → Result (List Entry) Refusal → Result ℕ Refusal
told n (Ok es) = Ok (unsigned_abs (size_of n es))
told n (Err r) = Err r
