-- An opening that succeeds makes every run of calls dependable.
use Rattle.std.proofs.Common.{◌≡◌, ℕ, ◌-◌, ◌^◌, ◌≤◌, List, ℤ, pos, refl, ◌∙◌, subst, arith}
use borrow.Author.Differences.{ints}
use Rattle.balance.specs.declared.range.Range.{Range}
use Rattle.balance.specs.Ranges.{only, limits, Ordered, Between, ◌⊆◌}
use Rattle.balance.specs.Meanings.{Meaning, Same, Lawful}
use Rattle.roast.specs.Certificates.{k, first_range, first_box, Opens}
use Rattle.roast.specs.Narrowing.{Box, at, narrowed}
use Rattle.roast.specs.Machine.{Ask, after}
use Rattle.roast.specs.Runs.{accepted, SameSet, Rests, NoConflict, KeepsLimits, accepts, last_box, EndsAtRest, MeetsNoConflict, Dependable}
use Rattle.roast.proofs.Boxes.{same_back, same_lawful, row_shrinks, row_monotone}
use Rattle.roast.proofs.FirstBox.{first_box_holds, one_solution, first_tidy, first_length, first_same}
use Rattle.roast.proofs.Moves.{run_moves}
use Rattle.roast.proofs.Order.{one_rest, rest_calm, holds_every_rest, largest_at_rest}
use Rattle.roast.proofs.Sits.{Sits, sits_first, sits_moved}
use Rattle.roast.proofs.Solvable.{opened_able, keeps_common_part}
use Rattle.roast.proofs.Sound.{run_holds, truth_calms}
use Rattle.roast.proofs.Sums.{get_or_listed}

-- ---- limits

module _ (m : Meaning) (us : List ℤ) (box : Box) (sits : Sits m us box) where
  pub keeps_limits : KeepsLimits m box
  keeps_limits = record {
    nodes = sits.below.long ∙ first_length m us;
    ranges = λ i n.
        let first : at (first_box m us) i ≡ limits (k m us i) = get_or_listed (first_range m us) m.size i (only (pos 0)) n in
        let small = sits.opens.narrow i n in
        within (at box i) (k m us i) (sits.tidy (i - 1)) (subst (λ r. at box i ⊆ r) first (sits.below.each (i - 1))) small;
  }
    where
      within : (r : Range) (e : ℕ) → Ordered r → r ⊆ limits e → e ≤ 2 ^ 30 → Between (2 ^ 30) r
      within r e o s l = (omega (arith, ints), omega (arith, ints), omega (arith, ints))

-- ---- two runs

module _ (us : List ℤ) (m : Meaning) (lawful : Lawful m) (m' : Meaning) (same : Same m m') (cs ds : List Ask) where
  lawful' : Lawful m'
  lawful' = same_lawful m m' same lawful

  same_rest : SameSet (accepts m us cs) (accepts m' us ds) → EndsAtRest m us cs → EndsAtRest m' us ds → last_box m us cs ≡ last_box m' us ds
  same_rest = subst (λ S. SameSet (accepts m us cs) (accepted (narrowed m') S ds) → EndsAtRest m us cs → Rests (narrowed m') (after (narrowed m') S ds) → last_box m us cs ≡ after (narrowed m') S ds) (first_same m m' same us) (one_rest (narrowed m) (narrowed m') (row_shrinks m) (row_shrinks m') (row_monotone m m' same lawful) (row_monotone m' m (same_back m m' same) lawful') (first_box m us) (first_tidy m us) cs ds)

  calm : SameSet (accepts m us cs) (accepts m' us ds) → EndsAtRest m us cs → MeetsNoConflict m' us ds
  calm = subst (λ S. SameSet (accepts m us cs) (accepted (narrowed m') S ds) → EndsAtRest m us cs → NoConflict (narrowed m') S ds) (first_same m m' same us) (λ sets. rest_calm (narrowed m) (narrowed m') (row_shrinks m) (row_monotone m m' same lawful) (first_box m us) (first_tidy m us) cs ds sets.1)

-- a meaning is the same as itself
same_self : (m : Meaning) → Same m m
same_self m = record { sizes = refl; coefficients = λ i j p q. refl; right_sides = λ i p. refl }

pub dependable : (m : Meaning) (us : List ℤ) → Lawful m → Opens m us → Dependable m us
dependable m us lawful opens =
    let f = narrowed m in
    let S = first_box m us in
    let fit = first_length m us in
    let able = opened_able m us opens in
    let monotone = row_monotone m m (same_self m) lawful in
    record {
      holds_every_solution = λ cs s x solves a. run_holds m lawful s x solves able S fit (first_box_holds m us lawful opens.passes s x solves) cs a;
      one_solution = one_solution m us lawful opens.passes;
      keeps_the_limits = λ cs. keeps_limits m us (after f S cs) (sits_moved m us (run_moves f S cs) (sits_first m us opens));
      can_be_solved = able;
      rounds_outward = λ box i n h. keeps_common_part m able box i n h lawful;
      holds_every_box_at_rest = holds_every_rest f (row_shrinks m) monotone S (first_tidy m us);
      ends_in_the_largest = largest_at_rest f (row_shrinks m) monotone S (first_tidy m us);
      same_rest = same_rest us m lawful;
      no_conflict = λ m' same cs ds sets. (calm us m lawful m' same cs ds sets, calm us m' (same_lawful m m' same lawful) m (same_back m m' same) ds cs (sets.1, sets.0));
      truth_meets_no_conflict = λ cs s x solves a. truth_calms m lawful s x solves able S fit (first_box_holds m us lawful opens.passes s x solves) cs a;
    }
