-- Places that a layer makes of those below: limits, and what is told.
use Rattle.std.specs.Prelude.{◌≡◌, ℕ, Bool, true, false, if◌then◌else◌, refl}
use Rattle.balance.specs.declared.range.Range.{Range}
use Rattle.balance.specs.Ranges.{within, Between}
use Rattle.balance.specs.Meanings.{Place, told, refused, Within, Told, range_at, placed, place_above}

-- a range that is told keeps within its limits as it is
pub placed_told : (ends : Range) (part row column : ℕ) (r : Range) → Told (placed ends part row column r) → range_at (placed ends part row column r) ≡ r
placed_told ends part row column r = by (within r ends)
  where
    by : (t : Bool) → Told (if t then told r else refused part row column) → range_at (if t then told r else refused part row column) ≡ r
    by true h = refl
    by false h = absurd h

module _ (make : Range → Place) where
  pub above_within : (limit : ℕ) → ((r : Range) → Between limit r → Within limit (make r)) → (p : Place) → Within limit p → Within limit (place_above make p)
  above_within limit keeps (told r) h = keeps r h
  above_within limit keeps (refused part row column) h = tt

  -- what is told above was told below, and is what the layer made of it
  pub above_told : (p : Place) → Told (place_above make p) → Told p × (place_above make p ≡ make (range_at p))
  above_told (told r) h = (tt, refl)
  above_told (refused part row column) h = absurd h
