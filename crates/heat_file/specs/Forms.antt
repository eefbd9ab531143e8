-- Which entries make a file, and which bytes are a file of them; which line of a file is the first bad one.
use Rattle.std.specs.Prelude.{◌≡◌, ℕ, ◌+◌, ◌≤◌, ◌⊎◌, true, false, List, [], ◌∷◌, ◌++◌, map, length, pos}
use Rattle.std.specs.List.{AllByRecursion}
use Rattle.balance.specs.declared.refusal.Refusal.{Refusal}
use Rattle.balance.specs.declared.refusal.Refusal.TheVariants.{Shape, Size as SizeRefusal, Node, Order, Crossed}
use Rattle.heat_file.specs.declared.line.Entry.{Entry}
use Rattle.heat_file.specs.declared.line.Entry.TheVariants.{Size}
use Rattle.heat_file.specs.declared.check.Standing.{Standing}
use Rattle.heat_file.specs.Cuts.{ended}
use Rattle.heat_file.specs.Lines.{line, Brief}
use Rattle.heat_file.specs.Checks.{Key, key, before, opens, sized, inside, ordered, start, after}
use Rattle.heat_file.specs.Files.{Framed}

-- each entry stands after the one before, the first after a key
abbrev pub Increasing : Key → List Entry → Type 0
Increasing k [] = Unit {0}
Increasing k (e ∷ es) = (before k (key e) ≡ true) × Increasing (key e) es

-- the entries behind the size line of a file of n nodes
pub record WellFormed (n : ℕ) (entries : List Entry) : Type 0 where
  pub some : 1 ≤ n
  pub few : n ≤ 32
  pub nodes : AllByRecursion (λ e. inside (pos n) e ≡ true) entries
  pub order : Increasing (key (Size (pos n))) entries
  pub ends : AllByRecursion (λ e. ordered e ≡ true) entries
  pub brief : AllByRecursion Brief entries

-- the bytes are remarks, the line of a size n, the lines of these entries, and the trailer
pub record Holds (file : List ℕ) (n : ℕ) (entries : List Entry) : Type 0 where
  pub remarks : List ℕ
  pub framed : Framed file remarks (map line (Size (pos n) ∷ entries))
  pub form : WellFormed n entries

-- ---- the first bad line

-- an entry passes each test after s
pub record Stands (s : Standing) (e : Entry) : Type 0 where
  pub opening : opens s e ≡ true
  pub size : sized e ≡ true
  pub nodes : inside s.size e ≡ true
  pub order : before s.last (key e) ≡ true
  pub ends : ordered e ≡ true

abbrev pub Chain : Standing → List Entry → Type 0
Chain s [] = Unit {0}
Chain s (e ∷ es) = Stands s e × Chain (after s e) es

abbrev pub after_all : Standing → List Entry → Standing
after_all s [] = s
after_all s (e ∷ es) = after_all (after s e) es

abbrev pub Writes : Entry → List ℕ → Type 0
Writes e l = (l ≡ line e) × Brief e

-- the refusal of a line at byte place p after s: that of the lowest number that applies
pub data Fault (s : Standing) (p : ℕ) (l : List ℕ) : Refusal → Type 0 where
  shape : ((e : Entry) → Writes e l → opens s e ≡ true → ⊥) → Fault s p l (Shape p)
  size : (e : Entry) → Writes e l → opens s e ≡ true → sized e ≡ false → Fault s p l (SizeRefusal p)
  node : (e : Entry) → Writes e l → opens s e ≡ true → sized e ≡ true → inside s.size e ≡ false → Fault s p l (Node p)
  order : (e : Entry) → Writes e l → opens s e ≡ true → sized e ≡ true → inside s.size e ≡ true → before s.last (key e) ≡ false → Fault s p l (Order p)
  crossed : (e : Entry) → Writes e l → opens s e ≡ true → sized e ≡ true → inside s.size e ≡ true → before s.last (key e) ≡ true → ordered e ≡ false → Fault s p l (Crossed p)

-- among lines after s, the first at byte place p, r is the refusal of the first bad one
pub record FirstBad (s : Standing) (p : ℕ) (lines : List (List ℕ)) (r : Refusal) : Type 0 where
  pub good : List Entry
  pub bad : List ℕ
  pub rest : List (List ℕ)
  pub parts : lines ≡ map line good ++ (bad ∷ rest)
  pub brief : AllByRecursion Brief good
  pub stand : Chain s good
  pub fault : Fault (after_all s good) (p + length (ended 10 (map line good))) bad r

-- the refusal of data lines: of the first bad one, or of the trailer's place if there is no line
abbrev pub Refused : ℕ → List (List ℕ) → Refusal → Type 0
Refused p lines r = ((lines ≡ []) × (r ≡ Shape p)) ⊎ FirstBad start p lines r
