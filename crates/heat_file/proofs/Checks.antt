-- What it means that an entry stands after others.
use Rattle.std.proofs.Common.{◌≡◌, ℕ, ◌≤◌, Bool, true, false, cond, ℤ, pos, negsuc, nat_abs, Ok, Err, sym, refl, subst, arith}
use Rattle.std.proofs.lemmas.Int.{ints}
use Rattle.balance.specs.declared.refusal.Refusal.TheVariants.{Shape, Size as SizeRefusal, Node, Order, Crossed}
use Rattle.heat_file.specs.declared.line.Entry.{Entry}
use Rattle.heat_file.specs.declared.line.Entry.TheVariants.{Size, Coefficient, RightSide, Weight}
use Rattle.heat_file.specs.declared.check.Standing.{Standing}
use Rattle.heat_file.specs.Checks.{Few, key, before, opens, sized, inside, ordered, size_after, after, entry_check}
use Rattle.heat_file.specs.Forms.{Stands}

pub stands_from : (s : Standing) (p : ℕ) (e : Entry) → Stands s e → entry_check s p e ≡ Ok (after s e)
stands_from s p e h = rw (h.opening, h.size, h.nodes, h.order, h.ends)

pub stands_gives : (s t : Standing) (p : ℕ) (e : Entry) → entry_check s p e ≡ Ok t → Stands s e × (t ≡ after s e)
stands_gives s t p e q = by (opens s e) (sized e) (inside s.size e) (before s.last (key e)) (ordered e) refl refl refl refl refl q
  where
    by : (a b c d g : Bool) → opens s e ≡ a → sized e ≡ b → inside s.size e ≡ c → before s.last (key e) ≡ d → ordered e ≡ g →
        cond a (cond b (cond c (cond d (cond g (Ok (after s e)) (Err (Crossed p))) (Err (Order p))) (Err (Node p))) (Err (SizeRefusal p))) (Err (Shape p)) ≡ Ok t →
        Stands s e × (t ≡ after s e)
    by true true true true true i j k l m q = (record { opening = i; size = j; nodes = k; order = l; ends = m }, cc)
    by true true true true false i j k l m q = cc
    by true true true false g i j k l m q = cc
    by true true false d g i j k l m q = cc
    by true false c d g i j k l m q = cc
    by false b c d g i j k l m q = cc

pub few_after : (n : ℤ) (e : Entry) → Few n → sized e ≡ true → Few (size_after n e)
few_after n (Size m) f h = grind (arith, ints)
few_after n (Coefficient i j r) f h = f
few_after n (RightSide i r) f h = f
few_after n (Weight i u) f h = f

pub size_few : (n : ℤ) → Few n → (pos (nat_abs n) ≡ n) × (nat_abs n ≤ 32)
size_few (pos n) f = (refl, grind (arith, ints))
size_few (negsuc n) f = absurd (grind (arith, ints))

-- the nodes of an entry that stands are nodes of the size that it leaves
pub inside_after : (s t : Standing) (p : ℕ) (e : Entry) → Ok t ≡ entry_check s p e → Few t.size → inside (pos (nat_abs t.size)) e ≡ true
inside_after s t p e f few =
    let h = stands_gives s t p e (sym f) in
    rw (size_few t.size few).0 (subst (λ (t : Standing). inside t.size e ≡ true) (sym h.1) (by e h.0.nodes))
  where
    by : (e : Entry) → inside s.size e ≡ true → inside (size_after s.size e) e ≡ true
    by (Size m) i = refl
    by (Coefficient a b r) i = i
    by (RightSide a r) i = i
    by (Weight a u) i = i
