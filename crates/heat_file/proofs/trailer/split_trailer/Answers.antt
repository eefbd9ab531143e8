use Rattle.std.proofs.Common.{◌≡◌, eqb, ltb-true, ◌-◌, List, ℕ, [], ◌∷◌, ◌++◌, length, take, drop, ◌∙◌, subst, rules, tests, arith}
use Rattle.heat_file.proofs.Trailers.{not_whole, rsplit_first}
use Rattle.heat_file.proofs.Cutting.{but_last}
use Rattle.heat_file.specs.Files.{Parts}
use Rattle.heat_file.proofs.Pieces.{computes}
use Rattle.heat_file.proofs.trailer.split_trailer.Goals as goal
use Rattle.heat_file.proofs.trailer.split_trailer.Goals.{in_default-via-then-file-lt1, in_default-via-else-file-lt1+in_default-1}

pub returns-in_default : goal.returns-in_default
returns-in_default c = elim c.in_default.branch [
  | in_default-via-then-file-lt1 w ↦ not_whole c.args.file.now (λ l e. omega (arith, ltb-true))
  | in_default-via-else-file-lt1+in_default-1 w ↦ not_whole c.args.file.now (λ l e. omega arith)
]

pub returns : goal.returns
returns c =
    let f = c.args.file.now in
    let k = length f - 1 in
    let x = c.in_ok-trailer.trailer in
    let s = c.in_ok-trailer.ensures.steps in
    let m = (s.2 (λ b. eqb b 10) (computes _ 10 _ (λ x r q k. search (rules, tests)))).1 in
    let q = subst (λ (t : List ℕ). (drop (length t - length x.now) t ≡ x.now) × Parts (t ++ (10 ∷ [])) (take (length t - length x.now) t) x.now) c.rsplit.ensures.rest (rsplit_first _ x.now _ _ s.1 m) in
    let b : take k f ++ (10 ∷ []) ≡ f = but_last f 10 k (omega arith) (omega arith) in
    rw (c.split_at.ensures.front, c.split_at.ensures.back ∙ q.0) (subst (λ (t : List ℕ). Parts t (take (length (take k f) - length x.now) (take k f)) x.now) b q.1)
