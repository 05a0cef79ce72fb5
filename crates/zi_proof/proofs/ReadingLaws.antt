-- What the reader's loops keep.
use Rattle.std.proofs.Common.{◌≡◌, ℕ, true, false, cond, List, [], ◌∷◌, ◌++◌, refl, sym, ap, ◌∙◌, append_assoc, Option, Some, None}
use Rattle.zi_formula.specs.declared.formula.Lit.{Lit}
use Rattle.zi_proof.specs.Reading.{number_of, lit_of, is_zero, last_hint, hints_of, more_hints, lits_of, more_lits}

-- hints that were read, and those to come
abbrev pub hints_behind : List ℕ → Option (List ℕ) → Option (List ℕ)
hints_behind front None = None
hints_behind front (Some hs) = Some (front ++ hs)

abbrev pub lits_behind : List Lit → Option (List Lit × List (List ℕ)) → Option (List Lit × List (List ℕ))
lits_behind front None = None
lits_behind front (Some (ls, ws)) = Some (front ++ ls, ws)

hints_push : (front : List ℕ) (n : ℕ) (r : Option (List ℕ)) → hints_behind (front ++ n ∷ []) r ≡ hints_behind front (more_hints (Some n) r)
hints_push front n None = refl
hints_push front n (Some hs) = ap Some (append_assoc front (n ∷ []) hs)

-- one hint more was read
pub hints_more : (front : List ℕ) (w : List ℕ) (ws : List (List ℕ)) (n : ℕ) → is_zero w ≡ false → number_of w ≡ Some n → hints_behind (front ++ n ∷ []) (hints_of ws) ≡ hints_behind front (hints_of (w ∷ ws))
hints_more front w ws n z e = hints_push front n (hints_of ws) ∙ ap (hints_behind front) (sym (ap (λ b. cond b (last_hint ws) (more_hints (number_of w) (hints_of ws))) z ∙ ap (λ o. more_hints o (hints_of ws)) e))

pub hints_stop : (front : List ℕ) (w : List ℕ) (ws : List (List ℕ)) → is_zero w ≡ false → number_of w ≡ None → hints_behind front (hints_of (w ∷ ws)) ≡ None
hints_stop front w ws z e = ap (hints_behind front) (ap (λ b. cond b (last_hint ws) (more_hints (number_of w) (hints_of ws))) z ∙ ap (λ o. more_hints o (hints_of ws)) e)

pub hints_end : (front : List ℕ) (w : List ℕ) (ws : List (List ℕ)) → is_zero w ≡ true → hints_behind front (hints_of (w ∷ ws)) ≡ hints_behind front (last_hint ws)
hints_end front w ws z = ap (λ b. hints_behind front (cond b (last_hint ws) (more_hints (number_of w) (hints_of ws)))) z

lits_push : (front : List Lit) (l : Lit) (r : Option (List Lit × List (List ℕ))) → lits_behind (front ++ l ∷ []) r ≡ lits_behind front (more_lits (Some l) r)
lits_push front l None = refl
lits_push front l (Some (ls, ws)) = ap (λ x. Some (x, ws)) (append_assoc front (l ∷ []) ls)

pub lits_more : (front : List Lit) (w : List ℕ) (ws : List (List ℕ)) (l : Lit) → is_zero w ≡ false → lit_of w ≡ Some l → lits_behind (front ++ l ∷ []) (lits_of ws) ≡ lits_behind front (lits_of (w ∷ ws))
lits_more front w ws l z e = lits_push front l (lits_of ws) ∙ ap (lits_behind front) (sym (ap (λ b. cond b (Some ([], ws)) (more_lits (lit_of w) (lits_of ws))) z ∙ ap (λ o. more_lits o (lits_of ws)) e))

pub lits_stop : (front : List Lit) (w : List ℕ) (ws : List (List ℕ)) → is_zero w ≡ false → lit_of w ≡ None → lits_behind front (lits_of (w ∷ ws)) ≡ None
lits_stop front w ws z e = ap (lits_behind front) (ap (λ b. cond b (Some ([], ws)) (more_lits (lit_of w) (lits_of ws))) z ∙ ap (λ o. more_lits o (lits_of ws)) e)

pub lits_end : (front : List Lit) (w : List ℕ) (ws : List (List ℕ)) → is_zero w ≡ true → lits_behind front (lits_of (w ∷ ws)) ≡ Some (front ++ [], ws)
lits_end front w ws z = ap (λ b. lits_behind front (cond b (Some ([], ws)) (more_lits (lit_of w) (lits_of ws)))) z

pub ruleset steps = (hints_more, hints_stop, hints_end, lits_more, lits_stop, lits_end)
