-- A box that is found is what a run of rounds leaves, and so holds every solution.
use Rattle.std.proofs.Common.{◌≡◌, ℕ, zero, suc, Bool, true, false, if◌then◌else◌, List, [], ◌∷◌, ℤ, Ok, Err, Result, eqb, refl, sym, subst}
use Rattle.balance.specs.declared.refusal.Refusal.{Refusal}
use Rattle.balance.specs.Meanings.{Meaning, Lawful}
use Rattle.balance.specs.Members.{Point}
use Rattle.roast.specs.Certificates.{opening, first_box, Opens, OpensExactly}
use Rattle.roast.specs.Narrowing.{Box, Contractor, narrowed}
use Rattle.roast.specs.Machine.{round, Ask, ask_round, outcome, after}
use Rattle.roast.specs.Runs.{accepted, InAll, Bound, Holds}
use Rattle.roast.proofs.Openings.{opens_exactly}
use Rattle.roast.proofs.Depends.{dependable}
use Rattle.file_box.specs.Findings.{settle_on, settled, settled_first, found, Encloses, EnclosesIfFound}

abbrev pub rounds : ℕ → List Ask
rounds zero = []
rounds (suc k) = ask_round ∷ rounds k

module _ (f : Contractor) where
  -- so many rounds on a box leave b
  pub record Leaves (box b : Box) : Type 0 where
    pub count : ℕ
    pub left : b ≡ after f box (rounds count)

  leaves_at_once : (box b : Box) → b ≡ box → Leaves box b
  leaves_at_once box b e = record { count = 0; left = e }

  leaves_later : (box b : Box) → Leaves (round f box).1 b → Leaves box b
  leaves_later box b l = record { count = suc l.count; left = l.left }

  pub settled_leaves : (k : ℕ) (box b : Box) → settled f box k ≡ Ok b → Leaves box b
  unfolding settled
  settled_leaves zero box b e = leaves_at_once box b cc
  settled_leaves (suc k) box b e = leaves_later box b (by (λ c. settled_leaves k c b) (round f box).0 (round f box).1 e)
    where
      by : ((c : Box) → settled f c k ≡ Ok b → Leaves c b) → (a : Result ℕ Refusal) (c : Box) → settle_on a c (settled f c k) ≡ Ok b → Leaves c b
      by more (Ok n) c e = on (eqb n 0) e
        where
          on : (t : Bool) → (if t then Ok c else settled f c k) ≡ Ok b → Leaves c b
          on true e = leaves_at_once c b cc
          on false e = more c e
      by more (Err r) c e = cc

  pub none_accepted : (k : ℕ) (box : Box) → accepted f box (rounds k) ≡ []
  none_accepted zero box = refl
  none_accepted (suc k) box = none_accepted k (outcome f box ask_round).box

nothing_read : (x : Point) (bs : List Bound) → bs ≡ [] → InAll x bs
nothing_read x bs e = subst (InAll x) (sym e) (λ b among. elim among [ ])

module _ (m : Meaning) where
  pub encloses : (us : List ℤ) → Lawful m → EnclosesIfFound m (found m us)
  encloses us lawful = by (opening m us) (opens_exactly m us)
    where
      box_found : (b : Box) → Opens m us → Leaves (narrowed m) (first_box m us) b → Encloses m b
      box_found b o l =
          let d = dependable m us lawful o in
          record {
            holds_every_solution = λ s x solves. subst (λ b. Holds m b x) (sym l.left) (d.holds_every_solution (rounds l.count) s x solves (nothing_read x _ (none_accepted (narrowed m) l.count (first_box m us))));
            one_solution = d.one_solution;
          }

      on : Opens m us → (box : Box) → box ≡ first_box m us → (r : Result Box Refusal) → settled (narrowed m) box 64 ≡ r → EnclosesIfFound m r
      on o box e (Ok b) q = box_found b o (subst (λ box. Leaves (narrowed m) box b) e (settled_leaves (narrowed m) 64 box b q))
      on o box e (Err r) q = tt

      by : (o : Result Box Refusal) → OpensExactly m us o → EnclosesIfFound m (settled_first m o)
      by (Ok box) h = on h.0 box h.1 (settled (narrowed m) box 64) refl
      by (Err r) h = tt
