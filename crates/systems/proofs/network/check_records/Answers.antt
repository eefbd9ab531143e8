use Rattle.std.proofs.Common.{Ok, Option, sym, ap, arith, rules}
use Rattle.std.proofs.lemmas.Result.{err_from_is_err_and}
use Rattle.balance.specs.declared.refusal.Refusal.{Refusal}
use Rattle.balance.specs.Places.{unless_refused}
use Rattle.balance.proofs.Searches.{refused_by}
use Rattle.systems.specs.NetworksLemmas.{records_stop}
use Rattle.systems.proofs.network.check_records.Goals as goal

pub returns-in_err-check_record : goal.returns-in_err-check_record
returns-in_err-check_record c =
    let p = err_from_is_err_and c.from_residual.result c.from_residual.ensures.1 in
    let e = records_stop c.args.size c.args.records.now (search rules) (search rules) (omega arith) c.loop-k.k _ c.loop-k.invariant (refused_by _ _ tt c.in_err-check_record.ensures) (omega arith) in
    rw (p.1, p.2) (sym (ap (λ (o : Option Refusal). unless_refused o (Ok tt)) e))
