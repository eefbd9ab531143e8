-- Drums worked through by hand, as one table about the definitions.
use Rattle.std.specs.Prelude.{◌≡◌, ℕ, true, false, List, [], ◌∷◌, ℤ, pos, negsuc, Ok, Err}
use Rattle.balance.specs.declared.range.Range.{Range}
use Rattle.balance.specs.declared.refusal.Refusal.TheVariants.{Dominance, Conflict}
use Rattle.balance.specs.Ranges.{range}
use Rattle.balance.specs.Meanings.{Meaning}
use Rattle.balance.specs.Tables.{table}
use Rattle.balance.specs.Points.{possible_answer}
use Rattle.roast.specs.Certificates.{v, opening}
use Rattle.roast.specs.Narrowing.{Box, narrowed}
use Rattle.roast.specs.Machine.{row_step, reading, at_rest}

-- two nodes: rows [4, 5] [-1, 1] | [8, 10] and [-1, 1] [4, 5] | [-10, -8]
abbrev pub drum : Meaning
drum = table 2
    (range (pos 4) (pos 5) ∷ range (negsuc 0) (pos 1) ∷ range (pos 8) (pos 10) ∷
    (range (negsuc 0) (pos 1) ∷ range (pos 4) (pos 5) ∷ range (negsuc 9) (negsuc 7) ∷ []))

-- one node: a coefficient and a right side
abbrev pub single : Range → Range → Meaning
single a b = table 1 (a ∷ b ∷ [])

-- a certificate of one or two numbers, and a box of one or two ranges
abbrev pub one : List ℤ
one = pos 1 ∷ []

abbrev pub both : ℕ → ℕ → List ℤ
both x y = pos x ∷ pos y ∷ []

abbrev pub box_of : ℤ → ℤ → ℤ → ℤ → Box
box_of a b c d = range a b ∷ range c d ∷ []

-- the drum's box at rest
abbrev pub at_drum_rest : Box
at_drum_rest = box_of (pos 0) (pos 4) (negsuc 3) (pos 0)

pub record WorkedDrums : Type 0 where
  -- with u = (1, 1): v = (3, 3), and the first box is [-4, 4] twice
  pub margins : (v drum (both 1 1) 1 ≡ pos 3) × (v drum (both 1 1) 2 ≡ pos 3)
  pub opens : opening drum (both 1 1) ≡ Ok (box_of (negsuc 3) (pos 4) (negsuc 3) (pos 4))
  -- row step 1 gives [0, 4], row step 2 then [-4, 0], and the box rests
  pub first_step : row_step (narrowed drum) (box_of (negsuc 3) (pos 4) (negsuc 3) (pos 4)) 1 ≡ (Ok true, box_of (pos 0) (pos 4) (negsuc 3) (pos 4))
  pub second_step : row_step (narrowed drum) (box_of (pos 0) (pos 4) (negsuc 3) (pos 4)) 2 ≡ (Ok true, at_drum_rest)
  pub rests : at_rest (narrowed drum) at_drum_rest ≡ true
  -- u = (1, 4) is refused with 10 at node 1, where v is 0
  pub not_dominated : (v drum (both 1 4) 1 ≡ pos 0) × (opening drum (both 1 4) ≡ Err (Dominance 1))
  -- u = (1, 3): v = (1, 11), and the first box is ±10, ±30
  pub other_margins : (v drum (both 1 3) 1 ≡ pos 1) × (v drum (both 1 3) 2 ≡ pos 11)
  pub other_opening : opening drum (both 1 3) ≡ Ok (box_of (negsuc 9) (pos 10) (negsuc 29) (pos 30))
  -- at rest, the reading [2, 3] at node 1 is taken, and row step 2 then gives [-4, -1]
  pub reading_taken : reading at_drum_rest 1 (pos 2) (pos 3) ≡ (Ok true, box_of (pos 2) (pos 3) (negsuc 3) (pos 0))
  pub step_after_reading : row_step (narrowed drum) (box_of (pos 2) (pos 3) (negsuc 3) (pos 0)) 2 ≡ (Ok true, box_of (pos 2) (pos 3) (negsuc 3) (negsuc 0))
  -- at rest, the reading [5, 9] at node 1 is a conflict, and [4, 9] gives [4, 4]
  pub reading_in_conflict : reading at_drum_rest 1 (pos 5) (pos 9) ≡ (Err (Conflict 1), at_drum_rest)
  pub reading_touches : reading at_drum_rest 1 (pos 4) (pos 9) ≡ (Ok true, box_of (pos 4) (pos 4) (negsuc 3) (pos 0))
  -- one node, [3, 3] x = [-7, -7]: first [-3, 3], stepped [-3, -2]
  pub rounds_down : opening (single (range (pos 3) (pos 3)) (range (negsuc 6) (negsuc 6))) one ≡ Ok (range (negsuc 2) (pos 3) ∷ [])
  pub rounds_up : row_step (narrowed (single (range (pos 3) (pos 3)) (range (negsuc 6) (negsuc 6)))) (range (negsuc 2) (pos 3) ∷ []) 1 ≡ (Ok true, range (negsuc 2) (negsuc 1) ∷ [])
  -- [-5, -4] x = [8, 10]: first [-3, 3], stepped [-3, -1]
  pub negative_diagonal : opening (single (range (negsuc 4) (negsuc 3)) (range (pos 8) (pos 10))) one ≡ Ok (range (negsuc 2) (pos 3) ∷ [])
  pub negative_step : row_step (narrowed (single (range (negsuc 4) (negsuc 3)) (range (pos 8) (pos 10)))) (range (negsuc 2) (pos 3) ∷ []) 1 ≡ (Ok true, range (negsuc 2) (negsuc 0) ∷ [])
  -- [2, 2] x = [6, 6]: the first box is [-3, 3]
  pub narrow_opening : opening (single (range (pos 2) (pos 2)) (range (pos 6) (pos 6))) one ≡ Ok (range (negsuc 2) (pos 3) ∷ [])
  -- the reading [0, 1] of the first box [-3, 3] is taken, and row step 1 is then a conflict
  pub reading_of_the_first_box : reading (range (negsuc 2) (pos 3) ∷ []) 1 (pos 0) (pos 1) ≡ (Ok true, range (pos 0) (pos 1) ∷ [])
  pub step_in_conflict : row_step (narrowed (single (range (pos 2) (pos 2)) (range (pos 6) (pos 6)))) (range (pos 0) (pos 1) ∷ []) 1 ≡ (Err (Conflict 1), range (pos 0) (pos 1) ∷ [])
  -- the probes (10, -10)/3 are possible, and (11, -11)/3 are not
  pub probes_possible : possible_answer drum (pos 10 ∷ negsuc 9 ∷ []) (pos 3) ≡ Ok true
  pub probes_not_possible : possible_answer drum (pos 11 ∷ negsuc 10 ∷ []) (pos 3) ≡ Ok false
