use Rattle.std.proofs.Common.{ℕ, Bool, ap, ◌∙◌, rules}
use Rattle.balance.specs.Places.{every}
use Rattle.balance.proofs.Nodes.{all_nodes}
use Rattle.balance.proofs.Points.{every_is}
use Rattle.roast.specs.Narrowing.{narrowed}
use Rattle.roast.specs.Machine.{changes_nothing, row_step}
use Rattle.roast.specs.Assembled.{meant}
use Rattle.roast.proofs.Meant.{rest_held}
use Rattle.roast.proofs.roast.Roast.at_rest.Goals as goal

pub returns : goal.returns
returns g c =
    let s = c.args.self.now in
    let m = g.S.System.meaning s.system in
    let x = s.bounds in
    let n = c.new.ensures in
    let test : ℕ → Bool = λ i. changes_nothing (row_step (narrowed (meant s.matrix)) x i).0 in
    let all = all_nodes _ _ c.count.result test _ c.all.result c.all.ensures.runs n.start n.end n.exhausted (λ a r q h. search rules) (λ i v q h. search rules) in
    record { answers = every_is _ _ _ all ∙ ap (every test) c.count.ensures ∙ rest_held m s.matrix x s.held }
