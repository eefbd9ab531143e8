use Rattle.std.proofs.Common.{◌^◌, ◌<◌, arith, rules}
use native.Mathlib.Nat.{pow-le-pow_right}
use Rattle.heat_file.proofs.Numerals.{read_fits}
use Rattle.heat_file.proofs.number.parse_natural.Goals as goal

pub overflow_mul-n : goal.overflow_mul-n
overflow_mul-n c =
    let f : c.loop-digit.n < 10 ^ 12 = read_fits c.args.digits.now c.loop-digit.digit-index c.loop-digit.n (omega arith) (omega arith) c.loop-digit.invariant in
    search rules

pub overflow_add-n : goal.overflow_add-n
overflow_add-n c =
    let f : c.loop-digit.n < 10 ^ 12 = read_fits c.args.digits.now c.loop-digit.digit-index c.loop-digit.n (omega arith) (omega arith) c.loop-digit.invariant in
    search rules

pub returns-clause-has_at_most_13_digits : goal.returns-clause-has_at_most_13_digits
returns-clause-has_at_most_13_digits c =
    omega (arith, c.loop-digit.invariant.2, pow-le-pow_right {n = 10} (omega arith) {i = c.loop-digit.digit-index} {j = 13} (omega arith))
