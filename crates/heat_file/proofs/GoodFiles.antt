-- What is known of the lines of a file once they are checked.
use Rattle.std.proofs.Common.{◌≡◌, ℕ, List, [], ◌∷◌, pos, nat_abs, Some, None, Option, Ok, sym, refl, ap, ◌∙◌}
use denote.Ref.{Bor}
use Rattle.std.specs.Option.{ok_or, option_map}
use Rattle.balance.specs.declared.refusal.Refusal.{Refusal}
use Rattle.heat_file.specs.declared.line.Entry.{Entry}
use Rattle.heat_file.specs.declared.line.Entry.TheVariants.{Size, Coefficient, RightSide, Weight}
use Rattle.heat_file.specs.Cuts.{cut}
use Rattle.heat_file.specs.Checks.{key, check, size_of}
use Rattle.heat_file.specs.Files.{located, read}
use Rattle.heat_file.specs.Forms.{WellFormed, Increasing}
use Rattle.heat_file.specs.Filled.{size}
use Rattle.heat_file.proofs.Checking.{later_size}

ok_or_some : {X : Type 0} (o : Option X) (r : Refusal) (x : X) → Ok x ≡ ok_or o r → o ≡ Some x
ok_or_some None r x q = cc
ok_or_some (Some y) r x q = let z : x ≡ y = cc in ap (λ y. Some y) (sym z)

-- the place and the bytes of data lines that code holds
pub located_some : (o : Option (ℕ × Bor (List ℕ))) (r : Refusal) (x : ℕ × Bor (List ℕ)) (bs : List ℕ) → Ok x ≡ ok_or o r → option_map (λ (d : ℕ × Bor (List ℕ)). (d.0, d.1.now)) o ≡ located bs → Some (x.0, x.1.now) ≡ located bs
located_some o r x bs q e = ap (option_map (λ (d : ℕ × Bor (List ℕ)). (d.0, d.1.now))) (sym (ok_or_some o r x q)) ∙ e

pub read_some : (bs : List ℕ) (p : ℕ) (d : List ℕ) → Some (p, d) ≡ located bs → read bs ≡ check p (cut 10 d)
read_some bs p d q = rw (← q) refl

-- no size line follows the first
size_stays : (n : ℕ) (d : Entry) (es : List Entry) → Increasing (key d) es → size_of (pos n) es ≡ pos n
size_stays n d [] r = refl
size_stays n d (Size m ∷ es) r = absurd (later_size d m r.0)
size_stays n d (Coefficient a b x ∷ es) r = size_stays n (Coefficient a b x) es r.1
size_stays n d (RightSide a x ∷ es) r = size_stays n (RightSide a x) es r.1
size_stays n d (Weight a u ∷ es) r = size_stays n (Weight a u) es r.1

pub size_is : (n : ℕ) (es : List Entry) → WellFormed n es → size (Size (pos n) ∷ es) ≡ n
size_is n es w = ap nat_abs (size_stays n (Size (pos n)) es w.order)
