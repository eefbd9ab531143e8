use Rattle.std.proofs.Common.{◌-◌, ◌≤◌, ℤ, pos, unsigned_abs, vec_items, sym, subst, arith}
use Rattle.std.proofs.lemmas.Int.{ints}
use Rattle.std.proofs.lemmas.List.{get_or_read}
use Rattle.systems.specs.RowScalersLemmas.{factors}
use Rattle.systems.proofs.row_scaler.RowScaler.factor.Goals as goal

pub returns-clause-keeps_the_limit : goal.returns-clause-keeps_the_limit
returns-clause-keeps_the_limit g c =
    let t = c.args.self.now in
    let fs = vec_items t.factors in
    let ok = factors (g.S.System.meaning t.system).size fs t.taken in
    let read = get_or_read fs (c.args.row - 1) c.index.result.now (omega (arith, ok.count)) c.index.ensures (pos 0) in
    let small : unsigned_abs c.index.result.now ≤ 1024 = subst (λ (z : ℤ). unsigned_abs z ≤ 1024) (sym read) (ok.small c.args.row (omega arith) (omega arith)) in
    omega (arith, ints)
