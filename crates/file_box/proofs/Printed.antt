-- What is printed for a file that says some entries: a box that holds every solution of their table, or a refusal.
use Rattle.std.proofs.Common.{◌≡◌, ℕ, suc, ◌+◌, ◌-◌, ◌*◌, ◌^◌, ◌<◌, ◌≤◌, ◌⊎◌, Bool, true, false, cond, List, [], ◌∷◌, length, take, map, ℤ, pos, Ok, Err, Result, unsigned_abs, ◌&&◌, ◌==◌, refl, sym, ap, ◌∙◌, subst, inl, inr, mul-le-mul_right, arith}
use lib.Signed.{le_z}
use borrow.Author.Differences.{ints}
use Rattle.std.proofs.lemmas.List.{get_or-take, get_or-map}
use Rattle.std.specs.List.{AllByRecursion}
use Rattle.balance.specs.declared.range.Range.{Range}
use Rattle.balance.specs.declared.refusal.Refusal.{Refusal}
use Rattle.balance.specs.declared.refusal.Refusal.TheVariants.{Size as SizeRefusal}
use Rattle.balance.specs.Cells.{range_ends}
use Rattle.balance.specs.Meanings.{Meaning, IsNode, limited}
use Rattle.balance.specs.Members.{Member, PickedAt}
use Rattle.balance.specs.Ranges.{only, Ordered}
use Rattle.balance.specs.Tables.{cell, table, Counted}
use Rattle.balance.specs.TablesLemmas.{table_lawful}
use Rattle.heat_file.specs.declared.line.Entry.{Entry}
use Rattle.heat_file.specs.declared.line.Entry.TheVariants.{Size, Coefficient, RightSide, Weight}
use Rattle.heat_file.specs.Checks.{ordered}
use Rattle.heat_file.specs.Filled.{index}
use Rattle.heat_file.specs.Forms.{Holds}
use Rattle.heat_file.specs.Laws.{range_given, CellsHold}
use Rattle.heat_file.specs.Reports.{refusal_report}
use Rattle.roast.specs.Narrowing.{Box, narrowed}
use Rattle.roast.specs.Machine.{at_rest}
use Rattle.file_box.specs.Findings.{found, report, system_report, is_counted, table_report, Encloses, EnclosesIfFound}
use Rattle.file_box.specs.FileReports.{table_given, ReportsBox, ReportsRefusal}
use Rattle.file_box.proofs.Enclosures.{encloses}

-- ---- the table that entries give

-- entries in order give ranges in order
given_ordered : (n : ℕ) (es : List Entry) (i j : ℕ) (other : Range) → AllByRecursion (λ e. ordered e ≡ true) es → Ordered other → Ordered (range_given n es i j other)
given_ordered n [] i j other h o = o
given_ordered n (Size m ∷ es) i j other h o = given_ordered n es i j other h.1 o
given_ordered n (Coefficient a b r ∷ es) i j other h o = given_ordered n es i j _ h.1 (by (unsigned_abs a == i && unsigned_abs b == j))
  where
    by : (t : Bool) → Ordered (cond t r other)
    by true = let e = h.0 in grind (arith, ints)
    by false = o
given_ordered n (RightSide a r ∷ es) i j other h o = given_ordered n es i j _ h.1 (by (unsigned_abs a == i && n + 1 == j))
  where
    by : (t : Bool) → Ordered (cond t r other)
    by true = let e = h.0 in grind (arith, ints)
    by false = o
given_ordered n (Weight a u ∷ es) i j other h o = given_ordered n es i j other h.1 o

ends_kept : (r : Range) → Ordered r → range_ends r ≡ r
ends_kept r o = let t : le_z r.lower r.upper ≡ true = grind (arith, ints) in rw t

always_ordered : (r : Range) → Ordered (range_ends r)
always_ordered r = by (le_z r.lower r.upper) refl
  where
    by : (t : Bool) → le_z r.lower r.upper ≡ t → Ordered (cond t r (only (pos 0)))
    by true e = grind (arith, ints)
    by false e = omega (arith, ints)

-- a file's table, and the cells that are read from it
module _ (file : List ℕ) (n : ℕ) (es : List Entry) (holds : Holds file n es) (cells : List Range) (told : CellsHold file (Ok n) cells) (count : length (take (n * (n + 1)) cells) ≡ n * (n + 1)) where
  abbrev xs : List Range
  xs = take (n * (n + 1)) cells

  cell_given : (i j : ℕ) → 1 ≤ i → i ≤ n → 1 ≤ j → j ≤ n + 1 → cell n (map range_ends xs) i j ≡ range_given n es i j (only (pos 0))
  cell_given i j a b d f =
      let k = index n i j in
      let rows = mul-le-mul_right (n + 1) b in
      let p : i ≡ suc (i - 1) = omega arith in
      let q : i * (n + 1) ≡ (i - 1) * (n + 1) + (n + 1) = omega (arith, ap (λ m. m * (n + 1)) p) in
      let inside : k < n * (n + 1) = omega arith in
      let given = told n es refl holds i j a b d f in
      get_or-map range_ends xs k (only (pos 0)) (only (pos 0)) (omega (arith, count))
      ∙ ap range_ends (get_or-take (n * (n + 1)) cells k (only (pos 0)) inside ∙ given)
      ∙ ends_kept _ (given_ordered n es i j (only (pos 0)) holds.form.ends (omega (arith, ints)))

  abbrev read_table : Meaning
  read_table = table n (map range_ends xs)

  coefficients : (i j : ℕ) → IsNode read_table i → IsNode read_table j → read_table.coefficient i j ≡ (table_given n es).coefficient i j
  coefficients i j p q = ap (λ r. limited (2 ^ 20) 1 i j r) (cell_given i j p.0 p.1 q.0 (omega (arith, q.1)))

  right_sides : (i : ℕ) → IsNode read_table i → read_table.right_side i ≡ (table_given n es).right_side i
  right_sides i p = ap (λ r. limited (2 ^ 42) 1 i (n + 1) r) (cell_given i (n + 1) p.0 p.1 (omega arith) (omega arith))

  -- a member of the one is a member of the other
  member : Member (table_given n es) → Member read_table
  member s = record {
    coefficient = s.coefficient;
    right_side = s.right_side;
    coefficients_picked = λ i j p q. subst (λ place. PickedAt place (s.coefficient i j)) (sym (coefficients i j p q)) (s.coefficients_picked i j p q);
    right_sides_picked = λ i p. subst (λ place. PickedAt place (s.right_side i)) (sym (right_sides i p)) (s.right_sides_picked i p);
  }

  given_encloses : (box : Box) → Encloses read_table box → Encloses (table_given n es) box
  unfolding member
  given_encloses box h = record {
    holds_every_solution = λ s x solves. h.holds_every_solution (member s) x solves;
    one_solution = λ s x y p q. h.one_solution (member s) x y p q;
  }

  -- ---- what is printed

  pub printed : (us : List ℤ) → ReportsBox (table_report n xs us) (table_given n es) ⊎ ReportsRefusal (table_report n xs us)
  printed us = by (is_counted n (length xs))
    where
      found_box : (r : Result Box Refusal) → EnclosesIfFound read_table r → ReportsBox (report read_table r) (table_given n es) ⊎ ReportsRefusal (report read_table r)
      found_box (Ok box) h = inl (record { box = box; rests = at_rest (narrowed read_table) box; printed = refl; encloses = given_encloses box h })
      found_box (Err e) h = inr (e, refl)

      counted : Counted n (length xs)
      counted = (holds.form.some, holds.form.few, count)

      by : (t : Bool) → let text = cond t (system_report read_table us) (refusal_report (SizeRefusal 0)) in ReportsBox text (table_given n es) ⊎ ReportsRefusal text
      by true = found_box (found read_table us) (encloses read_table us (table_lawful range_ends always_ordered n xs (length xs) counted))
      by false = inr (SizeRefusal 0, refl)
