-- A test of the nodes in turn, as `(1..=n).all(..)` makes it.
use Rattle.std.proofs.Common.{◌≡◌, ℕ, ◌+◌, ◌-◌, ◌≤◌, Bool, true, false, ◌↔◌, Some, None, Option, IfSome, IsSomeAnd, IsTrue, MatchBool, sym, refl, ap, ◌∙◌, subst, arith}
use denote.Param.Members.{Mut, Called}
use Rattle.std.specs.Option.{option_map}
use Rattle.std.specs.Iterator.Runs.{SomeRun, CallKeepsClosure, AllItemsGive, AnyItemGives}
use Rattle.std.specs.Range.{range_inclusive_start, range_inclusive_end, range_inclusive_exhausted}
use Rattle.std.specs.declared.ops.RangeInclusive.{RangeInclusive}
use Rattle.std.proofs.iter.runs.Sources.{inclusive_listed, nat_range_inclusive_steps}

-- what an optional item is
at_item : (o : Option ℕ) (i : ℕ) (P : ℕ → Type 0) → option_map (λ y. y) o ≡ Some i → IfSome o P → P i
at_item None i P e h = cc
at_item (Some x) i P e h = let q : x ≡ i = cc in subst P q h

some_item : (o : Option ℕ) (P Q : ℕ → Type 0) → IsSomeAnd o P → IfSome o Q → (i : ℕ) × P i × Q i
some_item None P Q h k = absurd h
some_item (Some x) P Q h k = (x, h, k)

module _ {F : Type 0} (g : Mut F (ℕ × Unit {0}) Bool) (f : F) (n : ℕ) (t : ℕ → Bool) (s : RangeInclusive ℕ) where
  pub all_nodes : (r : Bool) → SomeRun nat_range_inclusive_steps s (λ p. MatchBool r (IsTrue p.whole × AllItemsGive p g f true) (AnyItemGives p g f false)) → range_inclusive_start s ≡ 1 → range_inclusive_end s ≡ n → range_inclusive_exhausted s ≡ false → CallKeepsClosure g f → ((x : ℕ) (v : Bool) (q : F) → Called g f (x, tt) v q → v ≡ t x) → IsTrue r ↔ ((i : ℕ) → 1 ≤ i → i ≤ n → t i ≡ true)
  all_nodes true (p, e, m) a b z k c =
      let l = inclusive_listed p p.seen in
      let u = l.4 (ap range_inclusive_exhausted e ∙ z) in
      let first : l.0 ≡ 1 = l.2 ∙ ap range_inclusive_start e ∙ a in
      let last : l.1 ≡ n + 1 = l.3 ∙ ap (λ x. range_inclusive_end x + 1) e ∙ ap (λ x. x + 1) b in
      let long = u.0.1 m.0 in (
        λ w i x y.
            let j : l.0 + (i - 1) ≡ i = omega arith in
            sym (c i true f (at_item (p.at (i - 1)) i (λ x. Called g f (x, tt) true f) (u.0.3 (i - 1) (omega arith) ∙ ap (λ x. Some x) j) (m.1 k (i - 1)))),
        λ w. refl,
      )
  all_nodes false (p, e, m) a b z k c =
      let l = inclusive_listed p p.seen in
      let u = l.4 (ap range_inclusive_exhausted e ∙ z) in
      let first : l.0 ≡ 1 = l.2 ∙ ap range_inclusive_start e ∙ a in
      let last : l.1 ≡ n + 1 = l.3 ∙ ap (λ x. range_inclusive_end x + 1) e ∙ ap (λ x. x + 1) b in
      let found = m k in
      let i = some_item (p.at found.0) _ _ found.2 (u.0.2 found.0) in
      (λ w. cc, λ h. c i.0 false f i.1 ∙ h i.0 (omega (arith, i.2.0)) (omega (arith, i.2.1)))
