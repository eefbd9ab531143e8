use Rattle.std.proofs.Common.{Ok, Err, Result, OnErr, length, sym, subst}
use Rattle.balance.specs.declared.refusal.Refusal.{Refusal}
use Rattle.roast.specs.Certificates.{OpensExactly}
use Rattle.roast.proofs.FirstBox.{k_least}
use Rattle.roast.proofs.Meant.{opened_held, held_anew}
use Rattle.roast.proofs.Measures.{measures_ranges}
use Rattle.roast.proofs.Openings.{opens_exactly, opened_limits}
use Rattle.roast.proofs.Solvable.{opened_able}
use Rattle.roast.proofs.roast.Roast.open.Goals as goal

pub invariant_of-self : goal.invariant_of-self
invariant_of-self g c =
    let s = c.args.self.now in
    record { held = held_anew (g.S.System.meaning s.system) s.matrix c.first_bounds.new.matrix (length s.bounds) s.held c.in_err-self.ensures.assembles; few = s.few; narrow = s.narrow }

pub returns-in_err-self-clause-is_refused_only_uncertified : goal.returns-in_err-self-clause-is_refused_only_uncertified
returns-in_err-self-clause-is_refused_only_uncertified g c =
    let m = g.S.System.meaning c.args.self.now.system in
    on_err c.from_residual.result (subst (OpensExactly m c.args.certificate.now) (sym c.in_err-self.ensures.is) (opens_exactly m c.args.certificate.now))
  where
    on_err : {P : Type 0} (r : Result (Unit {0}) Refusal) → P → OnErr r P
    on_err (Ok done) p = tt
    on_err (Err e) p = p

pub returns-in_err-self-clause-measures_ranges : goal.returns-in_err-self-clause-measures_ranges
returns-in_err-self-clause-measures_ranges g c = measures_ranges

pub invariant_of-self-2 : goal.invariant_of-self-2
invariant_of-self-2 g c =
    let s = c.args.self.now.system in
    let m = g.S.System.meaning s in
    let us = c.args.certificate.now in
    let limits = opened_limits m us c.in_ok-self.field-0 c.in_ok-self.ensures.is (g.met.S.System.lawful s) in
    record { held = opened_held m c.first_bounds.new.matrix us c.in_ok-self.field-0 c.in_ok-self.ensures.is c.in_ok-self.ensures.assembles; few = limits.0; narrow = limits.1 }

pub returns-clause-opens_when_certified : goal.returns-clause-opens_when_certified
returns-clause-opens_when_certified g c =
    let m = g.S.System.meaning c.args.self.now.system in
    (subst (OpensExactly m c.args.certificate.now) (sym c.in_ok-self.ensures.is) (opens_exactly m c.args.certificate.now)).0

pub returns-clause-each_end_is_the_least_bound : goal.returns-clause-each_end_is_the_least_bound
returns-clause-each_end_is_the_least_bound g c i = k_least (g.S.System.meaning c.args.self.now.system) c.args.certificate.now i (returns-clause-opens_when_certified g c).passes.dominant

pub returns-clause-measures_ranges : goal.returns-clause-measures_ranges
returns-clause-measures_ranges g c = measures_ranges

pub returns-clause-can_be_solved : goal.returns-clause-can_be_solved
returns-clause-can_be_solved g c = opened_able (g.S.System.meaning c.args.self.now.system) c.args.certificate.now (returns-clause-opens_when_certified g c)
