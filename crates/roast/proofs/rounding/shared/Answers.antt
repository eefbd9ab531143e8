use Rattle.std.proofs.Common.{◌≡◌, arith}
use Rattle.std.proofs.lemmas.Int.{to_z-of_z}
use Rattle.roast.specs.Rounding.{shared}
use Rattle.roast.proofs.Quotients.{common_part}
use Rattle.roast.proofs.rounding.shared.Goals as goal

pub returns : goal.returns
returns c =
    let e : c.then_some.result ≡ shared c.args.a c.args.b = grind (arith, to_z-of_z) in
    record { is = e; is_the_common_part = common_part c.args.a c.args.b c.then_some.result e }
