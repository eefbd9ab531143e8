-- Every refusal: its number, the values that follow it, and the line that shows both.
use Rattle.std.specs.Prelude.{ℕ, List, [], ◌∷◌, ◌++◌, codes, decimal, slice_index}
use Rattle.balance.specs.declared.refusal.Refusal.{Refusal}
use Rattle.balance.specs.declared.refusal.Refusal.TheVariants.{File, Shape, Size, Node, Order, Crossed, Entry, Limit, Certificate, Dominance, Wide, Conflict, Point, Room}

-- number 8 names a part, a row and a column, and every other number one place, which is 0 where there is none to name
abbrev pub spelled : Refusal → ℕ × List ℕ
spelled File = (1, 0 ∷ [])
spelled (Shape place) = (2, place ∷ [])
spelled (Size place) = (3, place ∷ [])
spelled (Node place) = (4, place ∷ [])
spelled (Order place) = (5, place ∷ [])
spelled (Crossed place) = (6, place ∷ [])
spelled (Entry place) = (7, place ∷ [])
spelled (Limit part row column) = (8, part ∷ row ∷ column ∷ [])
spelled (Certificate place) = (9, place ∷ [])
spelled (Dominance place) = (10, place ∷ [])
spelled (Wide place) = (11, place ∷ [])
spelled (Conflict place) = (12, place ∷ [])
spelled (Point place) = (13, place ∷ [])
spelled Room = (14, 0 ∷ [])

abbrev pub number : Refusal → ℕ
number r = (spelled r).0

abbrev pub values : Refusal → List ℕ
values r = (spelled r).1

abbrev pub first_value : Refusal → ℕ
first_value r = slice_index (values r) 0

-- each number behind a space
abbrev pub spaced : List ℕ → List ℕ
spaced [] = []
spaced (n ∷ ns) = 32 ∷ decimal n ++ spaced ns

-- `refused N P`, or `refused 8 K I J`
abbrev pub written : Refusal → List ℕ
written r = codes "refused" ++ spaced (number r ∷ values r)
