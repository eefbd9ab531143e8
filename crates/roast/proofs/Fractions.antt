-- Fractions in ranges: what ranges make of each other holds what the fractions in them make.
use Rattle.std.proofs.Common.{◌≡◌, ℕ, zero, suc, ◌+◌, ◌*◌, ◌<◌, ◌≤◌, false, ℤ, pos, ◌+ℤ◌, ◌-ℤ◌, ◌*ℤ◌, neg_ℤ, ◌≤ℤ◌, ◌<ℤ◌, Some, None, Option, refl, ap, ◌∙◌, subst, ⊎_elim, mul-le-mul_right, le_of_mul-le-mul_right, arith}
use lib.IntN.{*ℤ_comm}
use lib.Signed.{≤ℤ_refl}
use borrow.Author.Differences.{ints, up, down, same_in, product_is}
use Rattle.std.specs.Int.{int_min, int_max}
use Rattle.std.proofs.lemmas.Int.{clamps}
use Rattle.balance.specs.declared.range.Range.{Range}
use Rattle.balance.specs.Ranges.{range, Ordered, Inside, ◌⊆◌, plus, minus, times, total}
use Rattle.balance.specs.Members.{Fraction, ◌∈◌, ◌≈◌, ◌⊕◌, ◌⊗◌, sum}
use Rattle.balance.proofs.Integers.{sum_times, between_low, between_high}
use Rattle.balance.proofs.Ranges.{every_product, least, most}
use Rattle.roast.specs.Rounding.{holds_zero, quotient, AtMost, AtLeast, RoundedOutward, shared, CommonPart}
use Rattle.balance.proofs.Integers.{grows}
use Rattle.roast.proofs.Numbers.{≤_trans, neg_times, cancels, cancels_below}
use Rattle.roast.proofs.Quotients.{sign_of, quotient_rounds, shared_common}

-- ---- products by a natural, as clearing a denominator has them

sub_times : (a b : ℤ) (n : ℕ) → (a -ℤ b) *ℤ pos n ≡ (a *ℤ pos n) -ℤ (b *ℤ pos n)
sub_times a b n = sum_times a (neg_ℤ b) (pos n) ∙ ap (λ t. (a *ℤ pos n) +ℤ t) (neg_times b (pos n))

raise_low : (z t : ℤ) (n k : ℕ) → (z *ℤ pos n) ≤ℤ t → (z *ℤ pos (n * k)) ≤ℤ (t *ℤ pos k)
raise_low z t n k h = let g : up z * n + down t ≤ up t + down z * n = omega (arith, ints) in omega (arith, ints, mul-le-mul_right k g)

raise_high : (z t : ℤ) (n k : ℕ) → t ≤ℤ (z *ℤ pos n) → (t *ℤ pos k) ≤ℤ (z *ℤ pos (n * k))
raise_high z t n k h = let g : up t + down z * n ≤ up z * n + down t = omega (arith, ints) in omega (arith, ints, mul-le-mul_right k g)

lower_low : (z t : ℤ) (n k : ℕ) → 0 < k → (z *ℤ pos (n * k)) ≤ℤ (t *ℤ pos k) → (z *ℤ pos n) ≤ℤ t
lower_low z t n k p h = let g : (up z * n + down t) * k ≤ (up t + down z * n) * k = omega (arith, ints) in omega (arith, ints, le_of_mul-le-mul_right g p)

lower_high : (z t : ℤ) (n k : ℕ) → 0 < k → (t *ℤ pos k) ≤ℤ (z *ℤ pos (n * k)) → t ≤ℤ (z *ℤ pos n)
lower_high z t n k p h = let g : (up t + down z * n) * k ≤ (up z * n + down t) * k = omega (arith, ints) in omega (arith, ints, le_of_mul-le-mul_right g p)

up_product : (a b : ℤ) → up (a *ℤ b) ≡ up a * up b + down a * down b
up_product a b = (product_is a b).0

down_product : (a b : ℤ) → down (a *ℤ b) ≡ up a * down b + down a * up b
down_product a b = (product_is a b).1

scaled : (a b : ℤ) (n k : ℕ) → (a *ℤ pos n) *ℤ (b *ℤ pos k) ≡ (a *ℤ b) *ℤ pos (n * k)
scaled a b n k = same_in _ _ (simp (up_product, down_product) (omega arith))

turn : (a b c : ℤ) → (a *ℤ b) *ℤ c ≡ (c *ℤ a) *ℤ b
turn a b c = same_in _ _ (simp (up_product, down_product) (omega arith))

-- ---- sums and differences

pub in_wider : (f : Fraction) {r s : Range} → r ⊆ s → f ∈ r → f ∈ s
in_wider f {r} {s} h k =
    let l = grows s.lower r.lower (pos f.bottom) (omega (arith, ints)) h.low in
    let u = grows r.upper s.upper (pos f.bottom) (omega (arith, ints)) h.high in
    (≤_trans _ _ _ l k.0, ≤_trans _ _ _ k.1 u)

pub in_like : (f g : Fraction) (r : Range) → f ≈ g → g ∈ r → f ∈ r
in_like f g r e h = (
  lower_low r.lower f.top f.bottom g.bottom g.positive (let k = raise_low r.lower g.top g.bottom f.bottom h.0 in omega (arith, ints)),
  lower_high r.upper f.top f.bottom g.bottom g.positive (let k = raise_high r.upper g.top g.bottom f.bottom h.1 in omega (arith, ints)),
)

in_plus : (f g : Fraction) (a x : Range) → f ∈ a → g ∈ x → (f ⊕ g) ∈ plus a x
in_plus f g a x h k =
    let l = raise_low a.lower f.top f.bottom g.bottom h.0 in
    let l' = raise_low x.lower g.top g.bottom f.bottom k.0 in
    let u = raise_high a.upper f.top f.bottom g.bottom h.1 in
    let u' = raise_high x.upper g.top g.bottom f.bottom k.1 in
    (rw (sum_times a.lower x.lower (pos (f.bottom * g.bottom))) (omega (arith, ints)), rw (sum_times a.upper x.upper (pos (f.bottom * g.bottom))) (omega (arith, ints)))

-- one part of a sum, from the sum and the other part
pub in_left : (f g : Fraction) (r x : Range) → (f ⊕ g) ∈ r → g ∈ x → f ∈ minus r x
in_left f g r x h k =
    let l = raise_low x.lower g.top g.bottom f.bottom k.0 in
    let u = raise_high x.upper g.top g.bottom f.bottom k.1 in
    let h₀ = h.0 in
    let h₁ = h.1 in (
      lower_low (r.lower -ℤ x.upper) f.top f.bottom g.bottom g.positive (rw (sub_times r.lower x.upper (f.bottom * g.bottom)) (omega (arith, ints))),
      lower_high (r.upper -ℤ x.lower) f.top f.bottom g.bottom g.positive (rw (sub_times r.upper x.lower (f.bottom * g.bottom)) (omega (arith, ints))),
    )

pub in_right : (f g : Fraction) (r x : Range) → (f ⊕ g) ∈ r → f ∈ x → g ∈ minus r x
in_right f g r x h k = let h₀ = h.0 in let h₁ = h.1 in in_left g f r x (omega (arith, ints), omega (arith, ints)) k

pub in_total : (f : ℕ → Fraction) (F : ℕ → Range) (k : ℕ) → ((j : ℕ) → 1 ≤ j → j ≤ k → f j ∈ F j) → sum f k ∈ total F k
in_total f F zero h = (omega (arith, ints), omega (arith, ints))
in_total f F (suc k) h = in_plus (sum f k) (f (suc k)) (total F k) (F (suc k)) (in_total f F k (λ j p q. h j p (omega arith))) (h (suc k) (omega arith) (omega arith))

-- ---- products

pub in_times : (f g : Fraction) (a x : Range) → f ∈ a → g ∈ x → (f ⊗ g) ∈ times a x
in_times f g a x h k =
    let n = f.bottom in
    let d = g.bottom in
    let ends : Range → ℕ → Range = λ r c. range (r.lower *ℤ pos c) (r.upper *ℤ pos c) in
    let l = least (a.lower *ℤ x.lower) (a.lower *ℤ x.upper) (a.upper *ℤ x.lower) (a.upper *ℤ x.upper) in
    let u = most (a.lower *ℤ x.lower) (a.lower *ℤ x.upper) (a.upper *ℤ x.lower) (a.upper *ℤ x.upper) in (
      every_product (λ t. ((times a x).lower *ℤ pos (n * d)) ≤ℤ t) (between_low _) (ends a n) (ends x d) (low a.lower x.lower l.0) (low a.lower x.upper l.1) (low a.upper x.lower l.2) (low a.upper x.upper l.3) f.top g.top h k,
      every_product (λ t. t ≤ℤ ((times a x).upper *ℤ pos (n * d))) (between_high _) (ends a n) (ends x d) (high a.lower x.lower u.0) (high a.lower x.upper u.1) (high a.upper x.lower u.2) (high a.upper x.upper u.3) f.top g.top h k,
    )
  where
    low : (p q : ℤ) → (times a x).lower ≤ℤ (p *ℤ q) → ((times a x).lower *ℤ pos (f.bottom * g.bottom)) ≤ℤ ((p *ℤ pos f.bottom) *ℤ (q *ℤ pos g.bottom))
    low p q e = rw (scaled p q f.bottom g.bottom) (grows _ _ (pos (f.bottom * g.bottom)) (omega (arith, ints)) e)

    high : (p q : ℤ) → (p *ℤ q) ≤ℤ (times a x).upper → ((p *ℤ pos f.bottom) *ℤ (q *ℤ pos g.bottom)) ≤ℤ ((times a x).upper *ℤ pos (f.bottom * g.bottom))
    high p q e = rw (scaled p q f.bottom g.bottom) (grows _ _ (pos (f.bottom * g.bottom)) (omega (arith, ints)) e)

-- ---- quotients

-- c × x in m and c in d: x in the rounded quotient
pub in_quotient : (c x : Fraction) (m d : Range) → holds_zero d ≡ false → Ordered m → Ordered d → c ∈ d → (c ⊗ x) ∈ m → x ∈ quotient m d
in_quotient c x m d e o o' h g = ⊎_elim
    (λ s.
    let t : pos 0 <ℤ d.upper = omega (arith, ints) in
    (cancels (q.lower *ℤ pos x.bottom) x.top c.top (above s) (lower q.lower ((low m.lower d.lower bottom first).0 s) ((low m.lower d.upper bottom last).0 t)), cancels x.top (q.upper *ℤ pos x.bottom) c.top (above s) (upper q.upper ((high m.upper d.lower top first).0 s) ((high m.upper d.upper top last).0 t))))
    (λ s.
    let t : d.lower <ℤ pos 0 = omega (arith, ints) in
    (cancels_below (q.lower *ℤ pos x.bottom) x.top c.top (below s) (upper q.lower ((low m.upper d.lower top first).1 t) ((low m.upper d.upper top last).1 s)), cancels_below x.top (q.upper *ℤ pos x.bottom) c.top (below s) (lower q.upper ((high m.lower d.lower bottom first).1 t) ((high m.lower d.upper bottom last).1 s))))
    (sign_of d e o')
  where
    q : Range
    q = quotient m d

    r : RoundedOutward m d q
    r = quotient_rounds m d e o o'

    low : (n a : ℤ) → Inside n m → Inside a d → AtMost q.lower n a
    low = (r.lower_end q.lower).0 (≤ℤ_refl q.lower)

    high : (n a : ℤ) → Inside n m → Inside a d → AtLeast q.upper n a
    high = (r.upper_end q.upper).0 (≤ℤ_refl q.upper)

    first : Inside d.lower d
    first = (≤ℤ_refl d.lower, o')

    last : Inside d.upper d
    last = (o', ≤ℤ_refl d.upper)

    bottom : Inside m.lower m
    bottom = (≤ℤ_refl m.lower, o)

    top : Inside m.upper m
    top = (o, ≤ℤ_refl m.upper)

    -- the sign of c is that of d
    above : pos 0 <ℤ d.lower → pos 0 <ℤ c.top
    above s = let h₀ = h.0 in omega (arith, ints, c.positive, grows (pos 1) d.lower (pos c.bottom) (omega (arith, ints)) (omega (arith, ints)))

    below : d.upper <ℤ pos 0 → c.top <ℤ pos 0
    below s = let h₁ = h.1 in omega (arith, ints, c.positive, grows d.upper (neg_ℤ (pos 1)) (pos c.bottom) (omega (arith, ints)) (omega (arith, ints)))

    -- a whole number by both ends of d, and so by c
    lower : (z : ℤ) → (z *ℤ d.lower) ≤ℤ m.lower → (z *ℤ d.upper) ≤ℤ m.lower → ((z *ℤ pos x.bottom) *ℤ c.top) ≤ℤ (x.top *ℤ c.top)
    lower z k l = rw (turn z (pos x.bottom) c.top, *ℤ_comm x.top c.top) (≤_trans _ _ _ (raise_high m.lower (c.top *ℤ z) c.bottom x.bottom (between_high (m.lower *ℤ pos c.bottom) (d.lower *ℤ pos c.bottom) (d.upper *ℤ pos c.bottom) c.top z h.0 h.1 (by d.lower k) (by d.upper l))) g.0)
      where
        by : (a : ℤ) → (z *ℤ a) ≤ℤ m.lower → ((a *ℤ pos c.bottom) *ℤ z) ≤ℤ (m.lower *ℤ pos c.bottom)
        by a t = rw (turn a (pos c.bottom) z) (grows (z *ℤ a) m.lower (pos c.bottom) (omega (arith, ints)) t)

    upper : (z : ℤ) → m.upper ≤ℤ (z *ℤ d.lower) → m.upper ≤ℤ (z *ℤ d.upper) → (x.top *ℤ c.top) ≤ℤ ((z *ℤ pos x.bottom) *ℤ c.top)
    upper z k l = rw (turn z (pos x.bottom) c.top, *ℤ_comm x.top c.top) (≤_trans _ _ _ g.1 (raise_low m.upper (c.top *ℤ z) c.bottom x.bottom (between_low (m.upper *ℤ pos c.bottom) (d.lower *ℤ pos c.bottom) (d.upper *ℤ pos c.bottom) c.top z h.0 h.1 (by d.lower k) (by d.upper l))))
      where
        by : (a : ℤ) → m.upper ≤ℤ (z *ℤ a) → (m.upper *ℤ pos c.bottom) ≤ℤ ((a *ℤ pos c.bottom) *ℤ z)
        by a t = rw (turn a (pos c.bottom) z) (grows m.upper (z *ℤ a) (pos c.bottom) (omega (arith, ints)) t)

-- ---- the common part

pub in_shared : (f : Fraction) (a b : Range) → f ∈ a → f ∈ b → (r : Range) × (shared a b ≡ Some r) × (f ∈ r)
in_shared f a b h k = by (shared a b) refl
  where
    crossing : (r s : Range) → f ∈ r → f ∈ s → r.lower ≤ℤ s.upper
    crossing r s p q = cancels r.lower s.upper (pos f.bottom) (omega (arith, ints, f.positive)) (≤_trans _ _ _ p.0 q.1)

    low : ℤ
    low = int_max a.lower b.lower

    high : ℤ
    high = int_min a.upper b.upper

    low_in : Inside low a × Inside low b
    low_in = let aa = crossing a a h h in let ab = crossing a b h k in let ba = crossing b a k h in let bb = crossing b b k k in ((omega (arith, ints, clamps), omega (arith, ints, clamps)), (omega (arith, ints, clamps), omega (arith, ints, clamps)))

    high_in : Inside high a × Inside high b
    high_in = let aa = crossing a a h h in let ab = crossing a b h k in let ba = crossing b a k h in let bb = crossing b b k k in ((omega (arith, ints, clamps), omega (arith, ints, clamps)), (omega (arith, ints, clamps), omega (arith, ints, clamps)))

    low_below : (low *ℤ pos f.bottom) ≤ℤ f.top
    low_below = between_max a.lower b.lower h.0 k.0
      where
        between_max : (x y : ℤ) → (x *ℤ pos f.bottom) ≤ℤ f.top → (y *ℤ pos f.bottom) ≤ℤ f.top → (int_max x y *ℤ pos f.bottom) ≤ℤ f.top
        between_max x y p q = grind (arith, ints)

    high_above : f.top ≤ℤ (high *ℤ pos f.bottom)
    high_above = between_min a.upper b.upper h.1 k.1
      where
        between_min : (x y : ℤ) → f.top ≤ℤ (x *ℤ pos f.bottom) → f.top ≤ℤ (y *ℤ pos f.bottom) → f.top ≤ℤ (int_min x y *ℤ pos f.bottom)
        between_min x y p q = grind (arith, ints)

    by : (o : Option Range) → shared a b ≡ o → (r : Range) × (shared a b ≡ Some r) × (f ∈ r)
    by (Some r) e =
        let c : CommonPart a b (Some r) = subst (CommonPart a b) e (shared_common a b) in
        let l = ((c.1 low).1 low_in).0 in
        let u = ((c.1 high).1 high_in).1 in
        (r, e, (≤_trans _ _ _ (grows r.lower low (pos f.bottom) (omega (arith, ints)) l) low_below, ≤_trans _ _ _ high_above (grows high r.upper (pos f.bottom) (omega (arith, ints)) u)))
    by None e = absurd (subst (CommonPart a b) e (shared_common a b) low low_in.0 low_in.1)
