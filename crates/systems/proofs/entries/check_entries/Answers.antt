use Rattle.std.proofs.Common.{◌≡◌, ◌+◌, true, Ok, None, Option, length, refl, sym, ap, ◌∙◌, subst, arith}
use Rattle.std.proofs.lemmas.List.{get_or_read}
use Rattle.balance.specs.declared.refusal.Refusal.{Refusal}
use Rattle.balance.specs.Places.{first, unless_refused}
use Rattle.balance.proofs.Searches.{first_more}
use Rattle.systems.specs.EntriesLemmas.{entry_refusal, searched, first_not_allowed}
use Rattle.systems.proofs.entries.check_entries.Goals as goal

pub returns-then-not-allowed : goal.returns-then-not-allowed
returns-then-not-allowed g c = record {
  refuses_the_first_not_allowed = λ test tells.
      let k = c.loop-k.k in
      let e = first_not_allowed c.args.size (length c.args.entries.now) test (omega arith) k (c.loop-k.invariant test tells) (sym (tells k _ _ _ (omega arith) refl (get_or_read c.args.entries.now k _ (omega arith) c.index-entries-k.is) c.allowed.ensures) ∙ c.if-not-allowed.true) (omega arith) in
      sym (ap (λ (o : Option Refusal). unless_refused o (Ok tt)) e);
}

pub loop-k-preserved : goal.loop-k-preserved
loop-k-preserved g c = λ test tells.
    let k = c.loop-k.k in
    let e : test (k + 1) ≡ true = sym (tells k _ _ _ (omega arith) refl (get_or_read c.args.entries.now k _ (omega arith) c.index-entries-k.is) c.allowed.ensures) ∙ c.if-not-allowed.false in
    first_more (entry_refusal c.args.size (length c.args.entries.now) test) k (c.loop-k.invariant test tells) (rw e refl)

pub returns : goal.returns
returns g c = record {
  refuses_the_first_not_allowed = λ test tells.
      let n = c.args.size in
      let count = length c.args.entries.now in
      let e : c.loop-k.k ≡ n = omega arith in
      let all = subst (λ k. first (entry_refusal n count test) k ≡ None) e (c.loop-k.invariant test tells) in
      sym (ap (λ (o : Option Refusal). unless_refused o (Ok tt)) (searched n count test (omega arith) ∙ all));
}
