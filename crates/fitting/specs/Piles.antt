-- A drum of three nodes, worked through by hand as a network, as a table and under layers: one table about the definitions.
use Rattle.std.specs.Prelude.{◌≡◌, ℕ, List, [], ◌∷◌, pos, negsuc}
use Rattle.balance.specs.declared.range.Range.{Range}
use Rattle.balance.specs.Ranges.{range}
use Rattle.balance.specs.Meanings.{Place, told, Meaning}
use Rattle.balance.specs.Tables.{table}
use Rattle.systems.specs.declared.record.Record.TheVariants.{Link, Outside, Heat}
use Rattle.systems.specs.Networks.{network}
use Rattle.systems.specs.RowScalers.{row_scaled}
use Rattle.systems.specs.Renumberings.{renumbered}

abbrev pub room : Range
room = range (pos 20000) (pos 25000)

-- three nodes, the wall, the air and the beans, linked to each other and to a room, the wall heated
abbrev pub linked : Meaning
linked = network 3
    (Link 1 2 (range (pos 400) (pos 420)) ∷ Link 2 3 (range (pos 300) (pos 315)) ∷ Link 1 3 (range (pos 150) (pos 160)) ∷
    (Outside 1 (range (pos 500) (pos 520)) room ∷ Outside 2 (range (pos 350) (pos 360)) room ∷ Outside 3 (range (pos 200) (pos 210)) room ∷
    (Heat 1 (range (pos 130000000) (pos 134000000)) ∷ [])))

-- the same drum with its sums made by hand
abbrev pub keyed_in : Meaning
keyed_in = table 3
    (range (pos 1050) (pos 1100) ∷ range (negsuc 419) (negsuc 399) ∷ range (negsuc 159) (negsuc 149) ∷ range (pos 140000000) (pos 147000000) ∷
    (range (negsuc 419) (negsuc 399) ∷ range (pos 1050) (pos 1095) ∷ range (negsuc 314) (negsuc 299) ∷ range (pos 7000000) (pos 9000000) ∷
    (range (negsuc 159) (negsuc 149) ∷ range (negsuc 314) (negsuc 299) ∷ range (pos 650) (pos 685) ∷ range (pos 4000000) (pos 5250000) ∷ [])))

-- the places of a row of three nodes, the right side last
abbrev pub places : Meaning → ℕ → List Place
places m i = m.coefficient i 1 ∷ m.coefficient i 2 ∷ m.coefficient i 3 ∷ m.right_side i ∷ []

pub record WorkedPiles : Type 0 where
  -- a drum of three nodes keyed in as a network has the places of its table
  pub linked_wall : places linked 1 ≡ places keyed_in 1
  pub linked_air : places linked 2 ≡ places keyed_in 2
  pub linked_beans : places linked 3 ≡ places keyed_in 3
  -- a link from a node to itself puts all four of its ranges on one place
  pub self_link : (network 1 (Link 1 1 (range (pos 3) (pos 5)) ∷ [])).coefficient 1 1 ≡ told (range (negsuc 3) (pos 4))
  -- row 1 times -3: the ends are exchanged
  pub scaled_wall : places (row_scaled (negsuc 2 ∷ pos 1 ∷ pos 1 ∷ []) keyed_in) 1 ≡ told (range (negsuc 3299) (negsuc 3149)) ∷ told (range (pos 1200) (pos 1260)) ∷ told (range (pos 450) (pos 480)) ∷ told (range (negsuc 440999999) (negsuc 419999999)) ∷ []
  -- numbered anew by (3, 1, 2), node 1 is the beans
  pub renumbered_beans : places (renumbered (3 ∷ 1 ∷ 2 ∷ []) keyed_in) 1 ≡ told (range (pos 650) (pos 685)) ∷ told (range (negsuc 159) (negsuc 149)) ∷ told (range (negsuc 314) (negsuc 299)) ∷ told (range (pos 4000000) (pos 5250000)) ∷ []
