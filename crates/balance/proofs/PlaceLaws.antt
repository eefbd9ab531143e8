-- What a place tells: the laws by which all else goes, so that nothing above matches on the cases of a place.
use Rattle.std.proofs.Common.{◌≡◌, ℕ, ℤ, None, Some, Ok, Err, refl, ap, subst, sym, arith}
use borrow.Author.Differences.{ints}
use Rattle.balance.specs.declared.range.Range.{Range}
use Rattle.balance.specs.declared.refusal.Refusal.{Refusal}
use Rattle.balance.specs.Ranges.{range, Between}
use Rattle.balance.specs.Meanings.{Place, told, refused, Told, Within, answer, range_at}
use Rattle.balance.specs.Members.{Fraction, PickedAt, ◌∈◌}
use Rattle.balance.specs.Places.{refusal_at}

-- ---- a place's range

-- the range at a place keeps the limit of the place
pub range_within : (limit : ℕ) (p : Place) → Within limit p → Between limit (range_at p)
range_within limit (told r) h = h
range_within limit (refused a b c) h = (omega (arith, ints), omega (arith, ints), omega (arith, ints))

-- the range that is answered
pub told_range : (p : Place) (e : ℤ × ℤ) → Ok e ≡ answer p → range e.0 e.1 ≡ range_at p
told_range (told r) e h = let p : e ≡ (r.lower, r.upper) = cc in ap (λ (x : ℤ × ℤ). range x.0 x.1) p
told_range (refused a b c) e h = cc

-- and its limit
pub told_within : (limit : ℕ) (p : Place) (e : ℤ × ℤ) → Ok e ≡ answer p → Within limit p → Between limit (range e.0 e.1)
told_within limit p e h w = subst (Between limit) (sym (told_range p e h)) (range_within limit p w)

-- a place that tells a range is that range
pub told_is : (p : Place) (r : Range) → Told p → r ≡ range_at p → told r ≡ p
told_is (told q) r t h = ap told h
told_is (refused a b c) r t h = absurd t

-- ---- a place's refusal

-- a place refuses nothing exactly if it tells a range
pub told_unrefused : (p : Place) → Told p → refusal_at p ≡ None
told_unrefused (told r) t = refl
told_unrefused (refused a b c) t = absurd t

pub unrefused_told : (p : Place) → refusal_at p ≡ None → Told p
unrefused_told (told r) h = tt
unrefused_told (refused a b c) h = cc

-- what an answer tells of it
pub answered : (p : Place) (e : ℤ × ℤ) → Ok e ≡ answer p → refusal_at p ≡ None
answered (told r) e h = refl
answered (refused a b c) e h = cc

pub not_answered : (p : Place) (e : Refusal) → Err e ≡ answer p → refusal_at p ≡ Some e
not_answered (told r) e h = cc
not_answered (refused a b c) e h = cc

-- ---- a fraction picked at a place

pub picked_in : (p : Place) (f : Fraction) → PickedAt p f → f ∈ range_at p
picked_in (told r) f h = h
picked_in (refused a b c) f h = absurd h

pub in_picked : (p : Place) (f : Fraction) → Told p → f ∈ range_at p → PickedAt p f
in_picked (told r) f t h = h
in_picked (refused a b c) f t h = t

pub picked_told : (p : Place) (f : Fraction) → PickedAt p f → Told p
picked_told (told r) f h = tt
picked_told (refused a b c) f h = h
