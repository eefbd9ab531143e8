-- The product of two ranges, where the first lies on one side of 0.
use Rattle.std.proofs.Common.{◌≡◌, Bool, true, false, cond, ℤ, pos, ◌*ℤ◌, ◌≤ℤ◌, int_le, refl, arith}
use borrow.Author.Differences.{ints}
use Rattle.std.specs.Int.{int_min, int_max}
use Rattle.std.proofs.lemmas.Int.{clamps}
use Rattle.balance.specs.declared.range.Range.{Range}
use Rattle.balance.specs.Ranges.{range, Ordered, times}
use Rattle.roast.specs.Products.{times_above, times_below, times_across}
use Rattle.balance.proofs.Integers.{grows, falls, grows_left, falls_left}

module _ (a x : Range) (o : Ordered a) (r : Ordered x) where
  abbrev p : ℤ
  p = a.lower *ℤ x.lower

  abbrev q : ℤ
  q = a.lower *ℤ x.upper

  abbrev s : ℤ
  s = a.upper *ℤ x.lower

  abbrev t : ℤ
  t = a.upper *ℤ x.upper

  pub above_is : pos 0 ≤ℤ a.lower → times_above a x ≡ times a x
  above_is h = (λ i. range (low _ refl i) (high _ refl i))
    where
      lows : p ≤ℤ q
      lows = grows_left x.lower x.upper a.lower h r

      highs : s ≤ℤ t
      highs = grows_left x.lower x.upper a.upper (omega (arith, ints)) r

      low : (b : Bool) → int_le (pos 0) x.lower ≡ b → cond b a.lower a.upper *ℤ x.lower ≡ int_min (int_min p q) (int_min s t)
      low true e = let k : p ≤ℤ s = grows a.lower a.upper x.lower (grind (arith, ints)) o in omega (arith, ints, clamps, lows, highs)
      low false e = let k : s ≤ℤ p = falls a.lower a.upper x.lower (grind (arith, ints)) o in omega (arith, ints, clamps, lows, highs)

      high : (b : Bool) → int_le (pos 0) x.upper ≡ b → cond b a.upper a.lower *ℤ x.upper ≡ int_max (int_max p q) (int_max s t)
      high true e = let k : q ≤ℤ t = grows a.lower a.upper x.upper (grind (arith, ints)) o in omega (arith, ints, clamps, lows, highs)
      high false e = let k : t ≤ℤ q = falls a.lower a.upper x.upper (grind (arith, ints)) o in omega (arith, ints, clamps, lows, highs)

  pub below_is : a.upper ≤ℤ pos 0 → times_below a x ≡ times a x
  below_is h = (λ i. range (low _ refl i) (high _ refl i))
    where
      lows : q ≤ℤ p
      lows = falls_left x.lower x.upper a.lower (omega (arith, ints)) r

      highs : t ≤ℤ s
      highs = falls_left x.lower x.upper a.upper h r

      low : (b : Bool) → int_le (pos 0) x.upper ≡ b → cond b a.lower a.upper *ℤ x.upper ≡ int_min (int_min p q) (int_min s t)
      low true e = let k : q ≤ℤ t = grows a.lower a.upper x.upper (grind (arith, ints)) o in omega (arith, ints, clamps, lows, highs)
      low false e = let k : t ≤ℤ q = falls a.lower a.upper x.upper (grind (arith, ints)) o in omega (arith, ints, clamps, lows, highs)

      high : (b : Bool) → int_le (pos 0) x.lower ≡ b → cond b a.upper a.lower *ℤ x.lower ≡ int_max (int_max p q) (int_max s t)
      high true e = let k : p ≤ℤ s = grows a.lower a.upper x.lower (grind (arith, ints)) o in omega (arith, ints, clamps, lows, highs)
      high false e = let k : s ≤ℤ p = falls a.lower a.upper x.lower (grind (arith, ints)) o in omega (arith, ints, clamps, lows, highs)

  pub across_is : a.lower ≤ℤ pos 0 → pos 0 ≤ℤ a.upper → times_across a x ≡ times a x
  across_is h k = (λ i. range (low i) (high i))
    where
      lows : q ≤ℤ p
      lows = falls_left x.lower x.upper a.lower h r

      highs : s ≤ℤ t
      highs = grows_left x.lower x.upper a.upper k r

      low : int_min q s ≡ int_min (int_min p q) (int_min s t)
      low = omega (arith, ints, clamps, lows, highs)

      high : int_max p t ≡ int_max (int_max p q) (int_max s t)
      high = omega (arith, ints, clamps, lows, highs)
