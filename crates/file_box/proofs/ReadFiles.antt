-- A file that is read leaves what its report is made from, and there is room for every file.
use Rattle.std.proofs.Common.{◌≡◌, ℕ, ◌+◌, ◌*◌, ◌≤◌, Bool, true, false, cond, List, take, ℤ, Ok, Err, Result, refl, ap, arith}
use Rattle.std.proofs.Math.Nat.{mul-le-mul}
use Rattle.balance.specs.declared.range.Range.{Range}
use Rattle.balance.specs.declared.refusal.Refusal.{Refusal}
use Rattle.balance.specs.declared.refusal.Refusal.TheVariants.{Room}
use Rattle.heat_file.specs.declared.line.Entry.{Entry}
use Rattle.heat_file.specs.Files.{read}
use Rattle.heat_file.specs.Filled.{size, has_room, answer, cells_after, certificate_after}
use Rattle.heat_file.specs.Laws.{HasRoom, WantsRoom}
use Rattle.heat_file.specs.Reports.{refusal_report}
use Rattle.file_box.specs.Findings.{table_report}
use Rattle.file_box.specs.FileReports.{no_cells, no_numbers, read_report}

-- with room for 32 nodes
abbrev pub told : Result (List Entry) Refusal → Result ℕ Refusal
told r = answer r 1056 32

pub filled : (r : Result (List Entry) Refusal) (n : ℕ) (cells : List Range) (certificate : List ℤ) → Ok n ≡ told r → cells ≡ cells_after (Ok n) r no_cells → certificate ≡ certificate_after (Ok n) r no_numbers → table_report n (take (n * (n + 1)) cells) (take n certificate) ≡ read_report r
filled (Ok es) n cells certificate e c u = by (has_room (size es) 1056 32) e
  where
    by : (b : Bool) → Ok n ≡ cond b (Ok (size es)) (Err Room) → table_report n (take (n * (n + 1)) cells) (take n certificate) ≡ read_report (Ok es)
    by true e =
        let s : n ≡ size es = cc in
        rw (c, u, s) refl
    by false e = cc
filled (Err r) n cells certificate e c u = cc

pub enough : (n : ℕ) → n ≤ 32 → HasRoom n 1056 32
enough n h = (mul-le-mul {n₁ = n} {m₁ = n + 1} {n₂ = 32} {m₂ = 33} h (omega arith), h)

pub refused : (file : List ℕ) (e : Refusal) → Err e ≡ told (read file) → WantsRoom file 1056 32 (Err e) → refusal_report e ≡ read_report (read file)
refused file e a w = by (read file) a
  where
    none : ◌≡◌ {A = Result ℕ Refusal} (Err e) (Err Room) → ⊥
    none q = let h = w.0 q in h.3 (enough h.0 h.2.form.few)

    by : (r : Result (List Entry) Refusal) → Err e ≡ told r → refusal_report e ≡ read_report r
    by (Ok es) a = on (has_room (size es) 1056 32) a
      where
        on : (b : Bool) → Err e ≡ cond b (Ok (size es)) (Err Room) → refusal_report e ≡ read_report (Ok es)
        on true a = cc
        on false a = absurd (none a)
    by (Err r) a = let s : e ≡ r = cc in ap refusal_report s
