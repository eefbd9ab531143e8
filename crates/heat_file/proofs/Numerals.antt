-- A word has a number exactly if it is the numeral of that number.
use Rattle.std.proofs.Common.{◌≡◌, ℕ, zero, suc, ◌^◌, ◌<◌, ◌≤◌, Bool, true, false, cond, ◌&&◌, eqb, leb, List, [], ◌∷◌, length, get_or, drop, ℤ, pos, negsuc, Some, None, decimal, Option, sym, refl, ap, ◌∙◌, subst, arith}
use native.Mathlib.Nat.{pow-le-pow_right}
use Rattle.std.specs.Str.Parse.{digits_value, digits_value_after}
use Rattle.std.specs.Fmt.{signed_decimal}
use Rattle.std.specs.Str.{all_ascii_digits}
use Rattle.std.specs.Char.{is_ascii_digit}
use Rattle.std.proofs.lemmas.Bool.{eqb-true, ne_eqb, and_parts, leb-true, le-leb, eqb-false, true≢false, false≢true}
use Rattle.std.proofs.lemmas.Str.Parse.{IsNumeralModel, numerals_by_value, tells_all_ascii_digits, digits_value_short}
use Rattle.std.proofs.lemmas.Fmt.{digits_decimal, digits_value-decimal, length-decimal-le, decimal_nonempty, first_decimal, decimal-digits_value, decimal_digit}
use Rattle.heat_file.specs.Numbers.{Short, ReadsNumeral, plain, natural, unsigned, minus, number}
use Rattle.heat_file.specs.Cuts.{Free}

own : IsNumeralModel (λ ds. all_ascii_digits ds ≡ true) (digits_value 10)
own = numerals_by_value _ tells_all_ascii_digits

-- what `plain` tests
pub record Plain (ds : List ℕ) : Type 0 where
  pub digits : all_ascii_digits ds ≡ true
  pub some : 0 < length ds
  pub lead : get_or ds 0 0 ≡ 48 → length ds ≡ 1
  pub few : length ds ≤ 13

pub plain_from : (ds : List ℕ) → Plain ds → plain ds ≡ true
plain_from [] p = let z : 0 < 0 = p.some in absurd (omega arith)
plain_from (c ∷ []) p = p.digits
plain_from (c ∷ (d ∷ ds)) p =
    let l : length (c ∷ (d ∷ ds)) ≤ 13 = p.few in
    rw (ne_eqb c 48 (λ e. omega (arith, p.lead e)), p.digits) (le-leb _ _ l)

pub plain_gives : (ds : List ℕ) → plain ds ≡ true → Plain ds
plain_gives [] e = absurd (false≢true e)
plain_gives (c ∷ []) e = record { digits = e; some = omega arith; lead = λ _. refl; few = omega arith }
plain_gives (c ∷ (d ∷ ds)) e = by (eqb c 48) refl e
  where
    by : (b : Bool) → eqb c 48 ≡ b → cond b false (all_ascii_digits (c ∷ (d ∷ ds)) && leb (length (c ∷ (d ∷ ds))) 13) ≡ true → Plain (c ∷ (d ∷ ds))
    by true q e = absurd (false≢true e)
    by false q e =
        let h = and_parts _ _ e in
        record { digits = h.0; some = omega arith; lead = λ z. absurd (eqb-false c 48 q z); few = leb-true _ _ h.1 }

plain_decimal : (n : ℕ) → n < 10 ^ 13 → Plain (decimal n)
plain_decimal n h =
    let w : n < 2 ^ 64 = omega arith in
    record { digits = digits_decimal own n w; some = decimal_nonempty n w; lead = by n h w; few = length-decimal-le 13 n (omega arith) h w }
  where
    by : (n : ℕ) → n < 10 ^ 13 → n < 2 ^ 64 → get_or (decimal n) 0 0 ≡ 48 → length (decimal n) ≡ 1
    by zero h w e = ap length (decimal_digit 0 (omega arith))
    by (suc n) h w e = absurd (omega (arith, first_decimal (suc n) (omega arith) w))

pub natural_decimal : (n : ℕ) → n < 10 ^ 13 → natural (decimal n) ≡ Some n
natural_decimal n h =
    let w : n < 2 ^ 64 = omega arith in
    rw (plain_from (decimal n) (plain_decimal n h)) (ap Some (digits_value-decimal own n w))

pub natural_gives : (ds : List ℕ) (n : ℕ) → natural ds ≡ Some n → Plain ds × (ds ≡ decimal n) × (n < 10 ^ 13)
natural_gives ds n e = by (plain ds) refl e
  where
    by : (b : Bool) → plain ds ≡ b → cond b (Some (digits_value 10 ds)) None ≡ Some n → Plain ds × (ds ≡ decimal n) × (n < 10 ^ 13)
    by true q e =
        let p = plain_gives ds q in
        let v : digits_value 10 ds < 10 ^ 13 = digits_value_short own ds 13 p.digits p.few in
        let s : digits_value 10 ds ≡ n = cc in
        (p, sym (decimal-digits_value own ds p.digits p.some p.lead (omega arith)) ∙ ap decimal s, omega arith)
    by false q e = let z : ◌≡◌ {A = ℕ} 0 1 = cc in absurd (omega arith)

-- a first digit is no minus
no_minus : (c : ℕ) (cs : List ℕ) → all_ascii_digits (c ∷ cs) ≡ true → eqb c 45 ≡ false
no_minus c cs h = let d : is_ascii_digit c ≡ true = (and_parts _ _ h).0 in ne_eqb c 45 (λ e. true≢false (sym (rw e at d)))

number_natural : (ds : List ℕ) (n : ℕ) → natural ds ≡ Some n → number ds ≡ Some (pos n)
number_natural [] n e = let z : ◌≡◌ {A = ℕ} 0 1 = cc in absurd (omega arith)
number_natural (c ∷ cs) n e = rw (no_minus c cs (natural_gives (c ∷ cs) n e).0.digits, e)

pub number_signed : (z : ℤ) → Short z → number (signed_decimal z) ≡ Some z
number_signed (pos n) h = number_natural (decimal n) n (natural_decimal n h)
number_signed (negsuc n) h = rw (natural_decimal (suc n) h)

pub number_gives : (bs : List ℕ) (z : ℤ) → number bs ≡ Some z → (bs ≡ signed_decimal z) × Short z
number_gives [] z e = let z : ◌≡◌ {A = ℕ} 0 1 = cc in absurd (omega arith)
number_gives (c ∷ cs) z e = by (eqb c 45) refl e
  where
    below : (o : Option ℕ) → natural cs ≡ o → eqb c 45 ≡ true → minus o ≡ Some z → (c ∷ cs ≡ signed_decimal z) × Short z
    below None q t e = let z : ◌≡◌ {A = ℕ} 0 1 = cc in absurd (omega arith)
    below (Some zero) q t e = let z : ◌≡◌ {A = ℕ} 0 1 = cc in absurd (omega arith)
    below (Some (suc n)) q t e =
        let g = natural_gives cs (suc n) q in
        let s : negsuc n ≡ z = cc in
        subst (λ z. (c ∷ cs ≡ signed_decimal z) × Short z) s (rw (eqb-true c 45 t) (ap (λ l. 45 ∷ l) g.1), g.2)

    above : (o : Option ℕ) → natural (c ∷ cs) ≡ o → unsigned o ≡ Some z → (c ∷ cs ≡ signed_decimal z) × Short z
    above None q e = let z : ◌≡◌ {A = ℕ} 0 1 = cc in absurd (omega arith)
    above (Some n) q e =
        let g = natural_gives (c ∷ cs) n q in
        let s : pos n ≡ z = cc in
        subst (λ z. (c ∷ cs ≡ signed_decimal z) × Short z) s (g.1, g.2)

    by : (b : Bool) → eqb c 45 ≡ b → cond b (minus (natural cs)) (unsigned (natural (c ∷ cs))) ≡ Some z → (c ∷ cs ≡ signed_decimal z) × Short z
    by true t e = below (natural cs) refl t e
    by false t e = above (natural (c ∷ cs)) refl e

-- a numeral holds no byte but digits and a minus
digits_free : (s : ℕ) (ds : List ℕ) → is_ascii_digit s ≡ false → all_ascii_digits ds ≡ true → Free s ds
digits_free s [] f h = tt
digits_free s (c ∷ cs) f h =
    let d = and_parts _ _ h in
    (ne_eqb c s (λ e. true≢false (sym d.0 ∙ (ap is_ascii_digit e ∙ f))), digits_free s cs f d.1)

pub signed_free : (s : ℕ) (z : ℤ) → is_ascii_digit s ≡ false → eqb 45 s ≡ false → Short z → Free s (signed_decimal z)
signed_free s (pos n) f m h = digits_free s (decimal n) f (plain_decimal n h).digits
signed_free s (negsuc n) f m h = (m, digits_free s (decimal (suc n)) f (plain_decimal (suc n) h).digits)

pub reads_numeral : (bs : List ℕ) (o : Option ℤ) → o ≡ number bs → ReadsNumeral bs o
reads_numeral bs o e z = (λ q. number_gives bs z (sym e ∙ q), λ h. e ∙ ap number h.0 ∙ number_signed z h.1)

-- ---- how code reads digits

-- i digits are read, and n is their value
abbrev pub ReadSoFar : List ℕ → ℕ → ℕ → Type 0
ReadSoFar ds i n = (all_ascii_digits (drop i ds) ≡ all_ascii_digits ds) × (digits_value_after 10 n (drop i ds) ≡ digits_value 10 ds) × (n < 10 ^ i)

-- so many digits fit
pub read_fits : (ds : List ℕ) (i n : ℕ) → i < length ds → length ds ≤ 13 → ReadSoFar ds i n → n < 10 ^ 12
read_fits ds i n l h r = omega (arith, pow-le-pow_right {n = 10} (omega arith) {i = i} {j = 12} (omega arith))
