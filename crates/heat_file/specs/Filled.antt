-- What an accepted file fills: a table of ranges, row after row with the right side last, and a certificate.
use Rattle.std.specs.Prelude.{◌≡◌, ◌≤◌, true, ℕ, ◌+◌, ◌-◌, ◌*◌, Bool, cond, ◌&&◌, List, [], ◌∷◌, ◌++◌, drop, set, replicate, ℤ, pos, Ok, Err, Result, nat_le, unsigned_abs}
use Rattle.balance.specs.declared.range.Range.{Range}
use Rattle.balance.specs.declared.refusal.Refusal.{Refusal}
use Rattle.balance.specs.declared.refusal.Refusal.TheVariants.{Room}
use Rattle.balance.specs.Ranges.{only}
use Rattle.heat_file.specs.declared.line.Entry.{Entry}
use Rattle.heat_file.specs.declared.line.Entry.TheVariants.{Size, Coefficient, RightSide, Weight}
use Rattle.std.specs.List.{AllByRecursion}
use Rattle.heat_file.specs.Checks.{size_of, inside}

-- the cell of row i and column j; column n + 1 is the right side
abbrev pub index : ℕ → ℕ → ℕ → ℕ
index n i j = (i - 1) * (n + 1) + (j - 1)

abbrev pub put_cells : ℕ → List Entry → List Range → List Range
put_cells n [] cs = cs
put_cells n (Size m ∷ es) cs = put_cells n es cs
put_cells n (Coefficient i j r ∷ es) cs = put_cells n es (set cs (index n (unsigned_abs i) (unsigned_abs j)) r)
put_cells n (RightSide i r ∷ es) cs = put_cells n es (set cs (index n (unsigned_abs i) (n + 1)) r)
put_cells n (Weight i u ∷ es) cs = put_cells n es cs

abbrev pub put_weights : List Entry → List ℤ → List ℤ
put_weights [] us = us
put_weights (Size m ∷ es) us = put_weights es us
put_weights (Coefficient i j r ∷ es) us = put_weights es us
put_weights (RightSide i r ∷ es) us = put_weights es us
put_weights (Weight i u ∷ es) us = put_weights es (set us (unsigned_abs i - 1) u)

-- the first k entries of a list are x, and the rest as before
abbrev pub cleared : {X : Type 0} → ℕ → X → List X → List X
cleared k x xs = replicate k x ++ drop k xs

-- the cells after; absent ones are [0, 0], and those beyond the table stay
abbrev pub cells : ℕ → List Entry → List Range → List Range
cells n es old = put_cells n es (cleared (n * (n + 1)) (only (pos 0)) old)

-- the certificate after; absent numbers are 1, and those beyond the nodes stay
abbrev pub certificate : ℕ → List Entry → List ℤ → List ℤ
certificate n es old = put_weights es (cleared n (pos 1) old)

-- ---- what the call answers and leaves, by what is read

abbrev pub has_room : ℕ → ℕ → ℕ → Bool
has_room n cell_count weight_count = nat_le (n * (n + 1)) cell_count && nat_le n weight_count

abbrev pub size : List Entry → ℕ
size es = unsigned_abs (size_of (pos 0) es)

abbrev pub answer : Result (List Entry) Refusal → ℕ → ℕ → Result ℕ Refusal
answer (Ok es) cell_count weight_count = cond (has_room (size es) cell_count weight_count) (Ok (size es)) (Err Room)
answer (Err r) cell_count weight_count = Err r

abbrev pub cells_after : Result ℕ Refusal → Result (List Entry) Refusal → List Range → List Range
cells_after (Ok n) (Ok es) old = cells n es old
cells_after (Ok n) (Err e) old = old
cells_after (Err r) a old = old

abbrev pub certificate_after : Result ℕ Refusal → Result (List Entry) Refusal → List ℤ → List ℤ
certificate_after (Ok n) (Ok es) old = certificate n es old
certificate_after (Ok n) (Err e) old = old
certificate_after (Err r) a old = old

-- what was read is entries of n nodes, and lists hold what they put into those before
pub record Puts (a : Result (List Entry) Refusal) (n : ℕ) (cs : List Range) (us : List ℤ) (cs' : List Range) (us' : List ℤ) : Type 0 where
  pub entries : List Entry
  pub accepted : a ≡ Ok entries
  pub counts : size entries ≡ n
  pub few : n ≤ 32
  pub nodes : AllByRecursion (λ e. inside (pos n) e ≡ true) entries
  pub puts_cells : cs' ≡ put_cells n entries cs
  pub puts_weights : us' ≡ put_weights entries us
