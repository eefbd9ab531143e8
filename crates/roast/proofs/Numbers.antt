-- Laws of the whole numbers: signs, products in order, and rounded quotients.
use Rattle.std.proofs.Common.{◌≡◌, ◌≢◌, ℕ, zero, suc, ◌+◌, ◌*◌, ◌<◌, ◌≤◌, true, ◌↔◌, ℤ, pos, negsuc, ◌*ℤ◌, neg_ℤ, nat_abs, ◌≤ℤ◌, ◌<ℤ◌, sym, refl, ap, ◌∙◌, suc-le-suc, div-lt_iff_lt-mul, le-div_iff_mul-le, div-le_self, le_of_mul-le-mul_right, arith}
use lib.IntN.{*ℤ_comm}
use lib.Signed.{lt_z}
use borrow.Author.Differences.{up, down, ints}
use Rattle.std.specs.Int.{int_div_euclid}
use Rattle.roast.specs.Rounding.{floor, ceiling, AtMost, AtLeast}

pub ≤_trans : (a b c : ℤ) → a ≤ℤ b → b ≤ℤ c → a ≤ℤ c
≤_trans a b c h k = omega (arith, ints)

-- ---- signs

pub times_neg : (a d : ℤ) → a *ℤ neg_ℤ d ≡ neg_ℤ (a *ℤ d)
times_neg a (pos zero) = omega (arith, ints)
times_neg a (pos (suc d)) = omega (arith, ints)
times_neg a (negsuc d) = omega (arith, ints)

pub neg_times : (a d : ℤ) → neg_ℤ a *ℤ d ≡ neg_ℤ (a *ℤ d)
neg_times a d = *ℤ_comm (neg_ℤ a) d ∙ (times_neg d a ∙ ap neg_ℤ (*ℤ_comm d a))

pub above_test : (z : ℤ) → pos 0 <ℤ z → lt_z (pos 0) z ≡ true
above_test z h = grind (arith, ints)

-- ---- products in order

pub cancels : (a b d : ℤ) → pos 0 <ℤ d → (a *ℤ d) ≤ℤ (b *ℤ d) → a ≤ℤ b
cancels a b (pos d) s h = omega (arith, ints, le_of_mul-le-mul_right (let k : (up a + down b) * d ≤ (up b + down a) * d = omega (arith, ints) in k) (let p : 0 < d = omega (arith, ints) in p))
cancels a b (negsuc d) s h = absurd s.lt

pub cancels_below : (a b d : ℤ) → d <ℤ pos 0 → (b *ℤ d) ≤ℤ (a *ℤ d) → a ≤ℤ b
cancels_below a b d s h = cancels a b (neg_ℤ d) (omega (arith, ints)) (rw (times_neg a d, times_neg b d) (omega (arith, ints)))

-- ---- rounded quotients

euclid_above : (z m : ℤ) (d : ℕ) → 0 < d → (z ≤ℤ int_div_euclid m (pos d)) ↔ ((z *ℤ pos d) ≤ℤ m)
euclid_above (pos z) (pos m) d p = (λ h. let k = (le-div_iff_mul-le {x = z} {y = m} p).0 (omega (arith, ints)) in omega (arith, ints), λ h. let k = (le-div_iff_mul-le {x = z} {y = m} p).1 (omega (arith, ints)) in omega (arith, ints))
euclid_above (pos z) (negsuc m) d p = (λ h. absurd h.le, λ h. absurd h.le)
euclid_above (negsuc z) (pos m) d p = (λ h. omega (arith, ints), λ h. omega (arith, ints))
euclid_above (negsuc z) (negsuc m) d p = (λ h. let k = (div-lt_iff_lt-mul {x = m} {y = suc z} p).0 (omega (arith, ints)) in omega (arith, ints), λ h. let k = (div-lt_iff_lt-mul {x = m} {y = suc z} p).1 (omega (arith, ints)) in omega (arith, ints))

-- by a divisor below 0 Euclid's quotient rounds up
euclid_below : (z m : ℤ) (d : ℕ) → (int_div_euclid m (negsuc d) ≤ℤ z) ↔ ((z *ℤ negsuc d) ≤ℤ m)
euclid_below z m d =
    let p = euclid_above (neg_ℤ z) m (suc d) (omega arith) in
    let turned : int_div_euclid m (negsuc d) ≡ neg_ℤ (int_div_euclid m (pos (suc d))) = by m in
    let product : neg_ℤ z *ℤ pos (suc d) ≡ z *ℤ negsuc d = neg_times z (pos (suc d)) ∙ sym (times_neg z (pos (suc d))) in (
      λ h. let k = p.0 (let e = rw turned at h in omega (arith, ints)) in rw product at k,
      λ h. let k = p.1 (rw product h) in rw turned (omega (arith, ints)),
    )
  where
    by : (m : ℤ) → int_div_euclid m (negsuc d) ≡ neg_ℤ (int_div_euclid m (pos (suc d)))
    by (pos m) = refl
    by (negsuc m) = refl

-- the order of a negated number and a negated product
opposite : (z m d : ℤ) → (((neg_ℤ z *ℤ d) ≤ℤ neg_ℤ m) ↔ (m ≤ℤ (z *ℤ d))) × ((neg_ℤ m ≤ℤ (neg_ℤ z *ℤ d)) ↔ ((z *ℤ d) ≤ℤ m))
opposite z m d = (
  (λ h. let k = rw (neg_times z d) at h in omega (arith, ints), λ h. rw (neg_times z d) (omega (arith, ints))),
  (λ h. let k = rw (neg_times z d) at h in omega (arith, ints), λ h. rw (neg_times z d) (omega (arith, ints))),
)

-- a whole number is at most m / d rounded down exactly if it is at most m / d
pub floor_is : (z m d : ℤ) → d ≢ pos 0 → (z ≤ℤ floor m d) ↔ AtMost z m d
floor_is z m (pos zero) s = absurd (s refl)
floor_is z m (pos (suc d)) s =
    let p = euclid_above z m (suc d) (omega arith) in
    let above = above_test (pos (suc d)) (omega (arith, ints)) in
    rw above (λ h. (λ t. p.0 h, λ t. absurd (omega (arith, ints))), λ h. p.1 (h.0 (omega (arith, ints))))
floor_is z m (negsuc d) s =
    let p = euclid_below (neg_ℤ z) (neg_ℤ m) d in
    let o = (opposite z m (negsuc d)).0 in (
      λ h. (λ t. absurd t.lt, λ t. o.0 (p.0 (omega (arith, ints)))),
      λ h. let k = p.1 (o.1 (h.1 (omega (arith, ints)))) in omega (arith, ints),
    )

-- it is at least m / d rounded up exactly if it is at least m / d
pub ceiling_is : (z m d : ℤ) → d ≢ pos 0 → (ceiling m d ≤ℤ z) ↔ AtLeast z m d
ceiling_is z m d s =
    let p = floor_is (neg_ℤ z) (neg_ℤ m) d s in
    let o = opposite z m d in (
      λ h. let k = p.0 (omega (arith, ints)) in (λ t. o.0.0 (k.0 t), λ t. o.1.0 (k.1 t)),
      λ h. let k = p.1 (λ t. o.0.1 (h.0 t), λ t. o.1.1 (h.1 t)) in omega (arith, ints),
    )

-- a quotient is no larger than what is divided
pub quotient_within : (m d : ℤ) → pos 0 <ℤ d → nat_abs (int_div_euclid m d) ≤ nat_abs m
quotient_within (pos m) (pos d) h = div-le_self m d
quotient_within (negsuc m) (pos d) h = suc-le-suc (div-le_self m d)
quotient_within m (negsuc d) h = absurd h.lt
