-- Laws of `cut` and `ended`.
use Rattle.std.proofs.Common.{◌≡◌, ℕ, zero, suc, ◌+◌, Bool, true, false, cond, eqb, List, [], ◌∷◌, ◌++◌, length, get_or, take, sym, refl, ap, ◌∙◌, append_assoc, append-nil, arith}
use Rattle.std.specs.List.{AllByRecursion}
use Rattle.std.proofs.lemmas.Bool.{eq-eqb, eqb-true}
use Rattle.heat_file.specs.Cuts.{cut, onto, ended, closed, Free}

eqb_same : (s : ℕ) → eqb s s ≡ true
eqb_same s = eq-eqb s s refl

pub cut_first : (s : ℕ) (p t : List ℕ) → Free s p → cut s (p ++ (s ∷ t)) ≡ p ∷ cut s t
cut_first s [] t f = rw (eqb_same s)
cut_first s (c ∷ p) t f = rw (f.0, cut_first s p t f.1)

pub cut_ended : (s : ℕ) (ps : List (List ℕ)) (t : List ℕ) → AllByRecursion (Free s) ps → cut s (ended s ps ++ t) ≡ ps ++ cut s t
cut_ended s [] t f = refl
cut_ended s (p ∷ ps) t f = rw (append_assoc p (s ∷ ended s ps) t, cut_first s p (ended s ps ++ t) f.0, cut_ended s ps t f.1)

onto_free : (s c : ℕ) (ps : List (List ℕ)) → eqb c s ≡ false → AllByRecursion (Free s) ps → AllByRecursion (Free s) (onto c ps)
onto_free s c [] e f = tt
onto_free s c (p ∷ ps) e f = ((e, f.0), f.1)

pub cut_free : (s : ℕ) (bs : List ℕ) → AllByRecursion (Free s) (cut s bs)
cut_free s [] = tt
cut_free s (c ∷ cs) = by (eqb c s) refl (cut_free s cs)
  where
    by : (b : Bool) → eqb c s ≡ b → AllByRecursion (Free s) (cut s cs) → AllByRecursion (Free s) (cond b ([] ∷ cut s cs) (onto c (cut s cs)))
    by true e f = (tt, f)
    by false e f = onto_free s c (cut s cs) e f

ended_onto : (s c : ℕ) (ps : List (List ℕ)) (d : ℕ) (ds : List ℕ) → ended s ps ≡ d ∷ ds → ended s (onto c ps) ≡ c ∷ (d ∷ ds)
ended_onto s c [] d ds e = let z : ◌≡◌ {A = ℕ} 0 1 = cc in absurd (omega arith)
ended_onto s c (p ∷ ps) d ds e = ap (λ l. c ∷ l) e

pub ended_cut : (s : ℕ) (bs : List ℕ) → closed s bs ≡ true → ended s (cut s bs) ≡ bs
ended_cut s [] h = refl
ended_cut s (c ∷ []) h = rw (h, eqb-true c s h)
ended_cut s (c ∷ (d ∷ ds)) h = by (eqb c s) refl (ended_cut s (d ∷ ds) h)
  where
    by : (b : Bool) → eqb c s ≡ b → ended s (cut s (d ∷ ds)) ≡ d ∷ ds → ended s (cond b ([] ∷ cut s (d ∷ ds)) (onto c (cut s (d ∷ ds)))) ≡ c ∷ (d ∷ ds)
    by true e i = rw (eqb-true c s e, i)
    by false e i = ended_onto s c (cut s (d ∷ ds)) d ds i

pub closed_after : (s : ℕ) (p t : List ℕ) → closed s t ≡ true → closed s (p ++ (s ∷ t)) ≡ true
closed_after s [] [] h = eqb_same s
closed_after s [] (d ∷ ds) h = h
closed_after s (c ∷ []) t h = closed_after s [] t h
closed_after s (c ∷ (x ∷ xs)) t h = closed_after s (x ∷ xs) t h

pub closed_ended : (s : ℕ) (ps : List (List ℕ)) → closed s (ended s ps) ≡ true
closed_ended s [] = refl
closed_ended s (p ∷ ps) = closed_after s p (ended s ps) (closed_ended s ps)

pub closed_append : (s : ℕ) (r t : List ℕ) → closed s r ≡ true → closed s t ≡ true → closed s (r ++ t) ≡ true
closed_append s [] t h k = k
closed_append s (c ∷ []) [] h k = h
closed_append s (c ∷ []) (d ∷ ds) h k = k
closed_append s (c ∷ (x ∷ xs)) t h k = closed_append s (x ∷ xs) t h k

-- the rest of a closed text is closed
pub closed_rest : (s : ℕ) (r t : List ℕ) → closed s (r ++ t) ≡ true → closed s t ≡ true
closed_rest s [] t h = h
closed_rest s (c ∷ []) [] h = refl
closed_rest s (c ∷ []) (d ∷ ds) h = h
closed_rest s (c ∷ (x ∷ xs)) t h = closed_rest s (x ∷ xs) t h

-- pieces of a closed front, then those of the rest
pub cut_append : (s : ℕ) (r t : List ℕ) → closed s r ≡ true → cut s (r ++ t) ≡ cut s r ++ cut s t
cut_append s r t h = ap (λ x. cut s (x ++ t)) (sym (ended_cut s r h)) ∙ cut_ended s (cut s r) t (cut_free s r)

pub free_append : (s : ℕ) (a b : List ℕ) → Free s a → Free s b → Free s (a ++ b)
free_append s [] b f g = g
free_append s (c ∷ a) b f g = (f.0, free_append s a b f.1 g)

pub cut_all : (s : ℕ) (ps : List (List ℕ)) → AllByRecursion (Free s) ps → cut s (ended s ps) ≡ ps
cut_all s ps f = ap (cut s) (sym (append-nil (ended s ps))) ∙ (cut_ended s ps [] f ∙ append-nil ps)

pub closed_last : (s : ℕ) (u : List ℕ) (k : ℕ) → length u ≡ k + 1 → closed s u ≡ true → get_or u k 0 ≡ s
closed_last s [] k e h = absurd (omega arith)
closed_last s (c ∷ []) zero e h = eqb-true c s h
closed_last s (c ∷ []) (suc k) e h = absurd (omega arith)
closed_last s (c ∷ (d ∷ ds)) zero e h = absurd (omega arith)
closed_last s (c ∷ (d ∷ ds)) (suc k) e h = closed_last s (d ∷ ds) k (omega arith) h

pub but_last : (u : List ℕ) (s k : ℕ) → length u ≡ k + 1 → get_or u k 0 ≡ s → take k u ++ (s ∷ []) ≡ u
but_last [] s k e h = absurd (omega arith)
but_last (c ∷ []) s zero e h = ap (λ c. c ∷ []) (sym h)
but_last (c ∷ []) s (suc k) e h = absurd (omega arith)
but_last (c ∷ (d ∷ ds)) s zero e h = absurd (omega arith)
but_last (c ∷ (d ∷ ds)) s (suc k) e h = ap (λ l. c ∷ l) (but_last (d ∷ ds) s k (omega arith) h)
