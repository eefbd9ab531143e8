-- Whole numbers of at most 13 digits as they are written: a minus below zero, no leading zero, no -0.
use Rattle.std.specs.Prelude.{◌≡◌, ◌↔◌, ℕ, zero, suc, ◌^◌, ◌<◌, Bool, false, cond, ◌&&◌, List, [], ◌∷◌, length, ℤ, pos, negsuc, Some, None, Option, ◌==◌, nat_le, unsigned_abs}
use Rattle.std.specs.Fmt.{signed_decimal}
use Rattle.std.specs.Str.Parse.{digits_value}
use Rattle.std.specs.Str.{all_ascii_digits}

-- z has at most 13 digits
abbrev pub Short : ℤ → Type 0
Short z = unsigned_abs z < 10 ^ 13

-- 1 to 13 digits, the first 0 only if it is alone
abbrev pub plain : List ℕ → Bool
plain [] = false
plain (c ∷ []) = all_ascii_digits (c ∷ [])
plain (c ∷ (d ∷ ds)) = cond (c == 48) false (all_ascii_digits (c ∷ (d ∷ ds)) && nat_le (length (c ∷ (d ∷ ds))) 13)

abbrev pub natural : List ℕ → Option ℕ
natural bs = cond (plain bs) (Some (digits_value 10 bs)) None

abbrev pub unsigned : Option ℕ → Option ℤ
unsigned None = None
unsigned (Some n) = Some (pos n)

abbrev pub minus : Option ℕ → Option ℤ
minus None = None
minus (Some zero) = None
minus (Some (suc n)) = Some (negsuc n)

-- the number that a word writes
abbrev pub number : List ℕ → Option ℤ
number [] = None
number (c ∷ cs) = cond (c == 45) (minus (natural cs)) (unsigned (natural (c ∷ cs)))

-- a word is read as z exactly if it is the numeral of z, which has at most 13 digits
abbrev pub ReadsNumeral : List ℕ → Option ℤ → Type 0
ReadsNumeral word o = (z : ℤ) → o ≡ Some z ↔ ((word ≡ signed_decimal z) × Short z)
