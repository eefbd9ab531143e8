-- The numbers of refusals.
use Rattle.std.proofs.Common.{◌≡◌, false, eqb, refl}
use Rattle.balance.specs.declared.refusal.Refusal.{Refusal}
use Rattle.balance.specs.declared.refusal.Refusal.TheVariants.{File, Shape, Size, Node, Order, Crossed, Entry, Limit, Certificate, Dominance, Wide, Conflict, Point, Room}
use Rattle.balance.specs.Refusals.{number}

-- none of them is 0
pub number-eqb : (e : Refusal) → eqb (number e) 0 ≡ false
number-eqb File = refl
number-eqb (Shape place) = refl
number-eqb (Size place) = refl
number-eqb (Node place) = refl
number-eqb (Order place) = refl
number-eqb (Crossed place) = refl
number-eqb (Entry place) = refl
number-eqb (Limit part row column) = refl
number-eqb (Certificate place) = refl
number-eqb (Dominance place) = refl
number-eqb (Wide place) = refl
number-eqb (Conflict place) = refl
number-eqb (Point place) = refl
number-eqb Room = refl
