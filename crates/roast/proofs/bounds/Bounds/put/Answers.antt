use Rattle.std.proofs.Common.{◌-◌, ◌<◌, length, set, ap, ◌∙◌, arith}
use Rattle.std.proofs.Math.Seq.{take-set-lt}
use Rattle.std.proofs.lemmas.List.{length-take}
use Rattle.roast.proofs.bounds.Bounds.put.Goals as goal

pub returns : goal.returns
returns c =
    let b = c.self.inside in
    let k = c.args.node - 1 in
    let l : k < b.count = omega (arith, ap length c.self.view_is, length-take b.count b.ranges) in
    take-set-lt b.count b.ranges k c.args.range l ∙ ap (λ xs. set xs k c.args.range) c.self.view_is
