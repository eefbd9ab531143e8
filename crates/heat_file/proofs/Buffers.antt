-- A report is written line by line, and each line leaves what is behind it.
use Rattle.std.proofs.Common.{◌≡◌, ℕ, ◌+◌, ◌<◌, ◌≤◌, Bool, List, [], ◌∷◌, ◌++◌, length, take, drop, refl, sym, ap, subst, ◌∙◌, arith, add-one, length-append, append_assoc, append-nil, slice_index_or}
use Rattle.std.proofs.lemmas.Bool.{le-leb}
use Rattle.std.proofs.lemmas.List.{length-take-le, drop_all, drop-drop, take-append-drop, take_at, drop_at}
use Rattle.std.proofs.Math.Seq.{drop-cons}
use Rattle.balance.specs.declared.range.Range.{Range}
use Rattle.heat_file.specs.Reports.{box_line, node_line, node_lines, rest_line, box_report, put_in_front}

pub in_front : (text buffer out : List ℕ) → length text ≤ length buffer → out ≡ text ++ drop (length text) buffer → out ≡ put_in_front text buffer
in_front text buffer out h e = rw (le-leb (length text) (length buffer) h) e

-- ---- a line behind the first bytes of a buffer

module _ (out line : List ℕ) (at : ℕ) where
  abbrev pub after : List ℕ
  after = take at out ++ (line ++ drop (at + length line) out)

module _ (out line : List ℕ) (at : ℕ) (h : at + length line ≤ length out) where
  pub front : length (take at out ++ line) ≡ at + length line
  front = rw (length-append, length-take-le at out (omega arith)) refl

  pub after_is : after out line at ≡ (take at out ++ line) ++ drop (at + length line) out
  after_is = sym (append_assoc (take at out) line (drop (at + length line) out))

  pub line_put : take (at + length line) (after out line at) ≡ take at out ++ line
  line_put = rw after_is (take_at (take at out ++ line) (drop (at + length line) out) (at + length line) front)

  pub rest_kept : drop (at + length line) (after out line at) ≡ drop (at + length line) out
  rest_kept = rw after_is (drop_at (take at out ++ line) (drop (at + length line) out) (at + length line) front)

-- the front of the buffer, up to a place, has a text but for what is still to come, and what is behind the place is as it was
pub record Written (text old more : List ℕ) (at : ℕ) (out : List ℕ) : Type 0 where
  pub within : at ≤ length out
  pub in_order : take at out ++ more ≡ text
  pub behind : drop at out ≡ drop at old

pub room_for : (text old line more out : List ℕ) (at : ℕ) → length text ≤ length out → Written text old (line ++ more) at out → at + length line ≤ length out
room_for text old line more out at h w =
    let l : length (take at out ++ (line ++ more)) ≡ length text = ap length w.in_order in
    omega (arith, h, simp (length-append, length-take-le at out w.within) at l)

pub nothing_written : (text old : List ℕ) → Written text old text 0 old
nothing_written text old = record { within = omega arith; in_order = refl; behind = refl }

pub line_written : (text old line more out : List ℕ) (at : ℕ) → length text ≤ length out → Written text old (line ++ more) at out → Written text old more (at + length line) (after out line at)
line_written text old line more out at h w =
    let r = room_for text old line more out at h w in
    record {
      within = rw (after_is out line at r, length-append, front out line at r) (omega arith);
      in_order = rw (line_put out line at r, append_assoc (take at out) line more) w.in_order;
      behind = rest_kept out line at r ∙ (sym (drop-drop (length line) at out) ∙ (ap (drop (length line)) w.behind ∙ drop-drop (length line) at old));
    }

pub all_written : (text old out : List ℕ) (at : ℕ) → Written text old [] at out → (at ≡ length text) × (out ≡ text ++ drop (length text) old)
all_written text old out at w =
    let t : take at out ≡ text = sym (append-nil (take at out)) ∙ w.in_order in
    let e : at ≡ length text = sym (length-take-le at out w.within) ∙ ap length t in
    (e, sym (take-append-drop at out) ∙ (rw (t, w.behind, e) refl))

-- ---- the lines of the nodes

-- the lines of the nodes behind the first k
abbrev pub nodes_behind : List Range → ℕ → List ℕ
nodes_behind ranges k = node_lines (k + 1) (drop k ranges)

-- the line of node k + 1, and those behind it
pub nodes_next : (ranges : List Range) (k : ℕ) (d : Range) → k < length ranges → nodes_behind ranges k ≡ node_line (k + 1) (slice_index_or ranges k d) ++ nodes_behind ranges (k + 1)
nodes_next ranges k d h =
    let e : drop k ranges ≡ slice_index_or ranges k d ∷ drop (k + 1) ranges = rw add-one (drop-cons ranges k d h) in
    ap (node_lines (k + 1)) e

pub nodes_done : (ranges : List Range) (k : ℕ) → length ranges ≤ k → nodes_behind ranges k ≡ []
nodes_done ranges k h = ap (node_lines (k + 1)) (drop_all k ranges h)

-- ---- the report of a box

module _ (ranges : List Range) (rests : Bool) (old : List ℕ) where
  abbrev text : List ℕ
  text = box_report ranges rests

  -- what is to come behind the first k nodes
  abbrev pub left : ℕ → List ℕ
  left k = nodes_behind ranges k ++ rest_line rests

  left_next : (k : ℕ) (d : Range) → k < length ranges → left k ≡ node_line (k + 1) (slice_index_or ranges k d) ++ left (k + 1)
  left_next k d h = ap (λ l. l ++ rest_line rests) (nodes_next ranges k d h) ∙ append_assoc (node_line (k + 1) (slice_index_or ranges k d)) (nodes_behind ranges (k + 1)) (rest_line rests)

  next_line : (line out : List ℕ) (at k : ℕ) (d : Range) → k < length ranges → line ≡ node_line (k + 1) (slice_index_or ranges k d) → Written text old (left k) at out → Written text old (line ++ left (k + 1)) at out
  next_line line out at k d h e w = subst (λ m. Written text old m at out) (left_next k d h ∙ ap (λ l. l ++ left (k + 1)) (sym e)) w

  last_line : (line out : List ℕ) (at k : ℕ) → length ranges ≤ k → line ≡ rest_line rests → Written text old (left k) at out → Written text old (line ++ []) at out
  last_line line out at k h e w = subst (λ m. Written text old m at out) (ap (λ l. l ++ rest_line rests) (nodes_done ranges k h) ∙ (sym e ∙ sym (append-nil line))) w

  pub first_line : (line : List ℕ) → line ≡ box_line (length ranges) → length text ≤ length old → Written text old (left 0) (0 + length line) (after old line 0)
  first_line line e h = line_written text old line (left 0) old 0 h (subst (λ m. Written text old m 0 old) (ap (λ l. l ++ left 0) (sym e)) (nothing_written text old))

  pub next_room : (line out : List ℕ) (at k : ℕ) (d : Range) → k < length ranges → line ≡ node_line (k + 1) (slice_index_or ranges k d) → length text ≤ length out → Written text old (left k) at out → at + length line ≤ length out
  next_room line out at k d h e f w = room_for text old line (left (k + 1)) out at f (next_line line out at k d h e w)

  pub next_written : (line out : List ℕ) (at k : ℕ) (d : Range) → k < length ranges → line ≡ node_line (k + 1) (slice_index_or ranges k d) → length text ≤ length out → Written text old (left k) at out → Written text old (left (k + 1)) (at + length line) (after out line at)
  next_written line out at k d h e f w = line_written text old line (left (k + 1)) out at f (next_line line out at k d h e w)

  pub last_room : (line out : List ℕ) (at k : ℕ) → length ranges ≤ k → line ≡ rest_line rests → length text ≤ length out → Written text old (left k) at out → at + length line ≤ length out
  last_room line out at k h e f w = room_for text old line [] out at f (last_line line out at k h e w)

  pub last_written : (line out : List ℕ) (at k : ℕ) → length ranges ≤ k → line ≡ rest_line rests → length text ≤ length out → Written text old (left k) at out → Written text old [] (at + length line) (after out line at)
  last_written line out at k h e f w = line_written text old line [] out at f (last_line line out at k h e w)
