use Rattle.std.proofs.Common.{◌*ℤ◌, ◌∙◌, rules}
use Rattle.balance.specs.Ranges.{spanned}
use Rattle.balance.proofs.Ranges.{held, result_held, products_fit, four_fit, times_extends}
use Rattle.balance.proofs.range.Range.checked_mul.Goals as goal

pub returns-in_err-p : goal.returns-in_err-p
returns-in_err-p c = record {
  is_the_product_where_it_fits = rw c.from_residual.ensures (λ fits. c.in_err-p.ensures (held ◌*ℤ◌ c.args.self.lower c.args.other.lower (search rules) (search rules) (products_fit c.args.self c.args.other fits).0));
  extends_the_product = times_extends;
}

pub returns-in_err-q : goal.returns-in_err-q
returns-in_err-q c = record {
  is_the_product_where_it_fits = rw c.from_residual-in_err-q.ensures (λ fits. c.in_err-q.ensures (held ◌*ℤ◌ c.args.self.lower c.args.other.upper (search rules) (search rules) (products_fit c.args.self c.args.other fits).1));
  extends_the_product = times_extends;
}

pub returns-in_err-s : goal.returns-in_err-s
returns-in_err-s c = record {
  is_the_product_where_it_fits = rw c.from_residual-in_err-s.ensures (λ fits. c.in_err-s.ensures (held ◌*ℤ◌ c.args.self.upper c.args.other.lower (search rules) (search rules) (products_fit c.args.self c.args.other fits).2));
  extends_the_product = times_extends;
}

pub returns-in_err-t : goal.returns-in_err-t
returns-in_err-t c = record {
  is_the_product_where_it_fits = rw c.from_residual-in_err-t.ensures (λ fits. c.in_err-t.ensures (held ◌*ℤ◌ c.args.self.upper c.args.other.upper (search rules) (search rules) (products_fit c.args.self c.args.other fits).3));
  extends_the_product = times_extends;
}

pub returns : goal.returns
returns c =
    let p = result_held ◌*ℤ◌ c.args.self.lower c.args.other.lower (search rules) (search rules) c.in_ok-p.p c.in_ok-p.ensures in
    let q = result_held ◌*ℤ◌ c.args.self.lower c.args.other.upper (search rules) (search rules) c.in_ok-q.q c.in_ok-q.ensures in
    let s = result_held ◌*ℤ◌ c.args.self.upper c.args.other.lower (search rules) (search rules) c.in_ok-s.s c.in_ok-s.ensures in
    let t = result_held ◌*ℤ◌ c.args.self.upper c.args.other.upper (search rules) (search rules) c.in_ok-t.t c.in_ok-t.ensures in
    record {
      is_the_product_where_it_fits = (four_fit _ _ _ _ p.0 q.0 s.0 t.0, c.spanned.ensures ∙ (λ i. spanned (p.1 i) (q.1 i) (s.1 i) (t.1 i)));
      extends_the_product = times_extends;
    }
