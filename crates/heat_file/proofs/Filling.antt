-- The steps by which code reads the numbers of a text.
use Rattle.std.proofs.Common.{◌≡◌, ℕ, ◌+◌, ◌<◌, cond, eqb, List, [], ◌∷◌, ◌++◌, length, take, set, ℤ, Some, None, Option, refl, sym, ap, ◌∙◌, append_assoc, arith}
use Rattle.std.proofs.lemmas.Bool.{ne_eqb}
use Rattle.std.proofs.lemmas.List.{length-append, length-take-le, take_more_set}
use Rattle.heat_file.specs.Numbers.{number}
use Rattle.heat_file.specs.Lines.{option, numbers, words, exactly}

-- k numbers of the text are in `out`, and these words are left
abbrev pub Filled : List ℕ → List (List ℕ) → List ℤ → ℕ → Type 0
Filled text left out k = option (numbers left) None (λ zs. Some (take k out ++ zs)) ≡ numbers (words text)

pub none_filled : (text : List ℕ) (left : List (List ℕ)) (out : List ℤ) → left ≡ words text → Filled text left out 0
none_filled text left out e = by (numbers left) ∙ ap numbers e
  where
    by : (o : Option (List ℤ)) → option o None (λ zs. Some (take 0 out ++ zs)) ≡ o
    by None = refl
    by (Some zs) = refl

abbrev counted : ℕ → Option (List ℤ) → Option (List ℤ)
counted n o = option o None (λ zs. cond (eqb (length zs) n) (Some zs) None)

module _ (text : List ℕ) (out : List ℤ) (k n : ℕ) (long : length out ≡ n) where
  pub too_many : (word : List ℕ) (left : List (List ℕ)) → k ≡ n → Filled text (word ∷ left) out k → exactly n text ≡ None
  too_many word left e f = by (number word) (numbers left) f
    where
      by : (o : Option ℤ) (q : Option (List ℤ)) → option (option o None (λ z. option q None (λ zs. Some (z ∷ zs)))) None (λ zs. Some (take k out ++ zs)) ≡ numbers (words text) → exactly n text ≡ None
      by None q f = ap (counted n) (sym f)
      by (Some z) None f = ap (counted n) (sym f)
      by (Some z) (Some zs) f =
          ap (counted n) (sym f) ∙ rw (ne_eqb (length (take k out ++ z ∷ zs)) n (λ q. omega (arith, length-append (take k out) (z ∷ zs), length-take-le k out (omega arith))))

pub no_number : (text word : List ℕ) (left : List (List ℕ)) (out : List ℤ) (k n : ℕ) → None ≡ number word → Filled text (word ∷ left) out k → exactly n text ≡ None
no_number text word left out k n q f = ap (counted n) (sym (rw (← q) at f))

pub fill_more : (text word : List ℕ) (left : List (List ℕ)) (out : List ℤ) (k : ℕ) (z : ℤ) → Some z ≡ number word → k < length out → Filled text (word ∷ left) out k → Filled text left (set out k z) (k + 1)
fill_more text word left out k z q l f = rw (take_more_set out k z l) (by (numbers left) ∙ (rw (← q) at f))
  where
    by : (o : Option (List ℤ)) → option o None (λ zs. Some ((take k out ++ (z ∷ [])) ++ zs)) ≡ option (option o None (λ zs. Some (z ∷ zs))) None (λ zs. Some (take k out ++ zs))
    by None = refl
    by (Some zs) = ap Some (append_assoc (take k out) (z ∷ []) zs)
