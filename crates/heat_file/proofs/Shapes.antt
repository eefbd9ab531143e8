-- The shapes that code tells apart by a line's first bytes.
use Rattle.std.proofs.Common.{◌≡◌, ℕ, List, ◌++◌, get_or, Some, None, codes, Option, refl, ap}
use Rattle.heat_file.specs.declared.line.Entry.{Entry}
use Rattle.heat_file.specs.declared.line.Entry.TheVariants.{Size, Coefficient, RightSide, Weight}
use Rattle.heat_file.specs.Lines.{line, parse_line}
use Rattle.heat_file.proofs.Lines.{line_written}

-- a line that begins like none has another shape
pub no_shape : (l : List ℕ) → ((rest : List ℕ) → l ≡ codes "size " ++ rest → ⊥) →
    (get_or l 1 0 ≡ 32 → get_or l 0 0 ≡ 97 → ⊥) → (get_or l 1 0 ≡ 32 → get_or l 0 0 ≡ 98 → ⊥) → (get_or l 1 0 ≡ 32 → get_or l 0 0 ≡ 117 → ⊥) → None ≡ parse_line l
no_shape l s a b u = by (parse_line l) refl
  where
    not : (e : Entry) → l ≡ line e → ⊥
    not (Size n) q = s _ q
    not (Coefficient i j r) q = a (ap (λ l. get_or l 1 0) q) (ap (λ l. get_or l 0 0) q)
    not (RightSide i r) q = b (ap (λ l. get_or l 1 0) q) (ap (λ l. get_or l 0 0) q)
    not (Weight i n) q = u (ap (λ l. get_or l 1 0) q) (ap (λ l. get_or l 0 0) q)

    by : (o : Option Entry) → parse_line l ≡ o → None ≡ o
    by None q = refl
    by (Some e) q = absurd (not e (line_written l e q).0)
