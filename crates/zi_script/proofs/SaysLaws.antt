-- What the text of a script says: it says it, and nothing else.
use Rattle.std.proofs.Common.{◌≡◌, ℕ, Bool, true, false, ◌&&◌, nat_eq, List, [], ◌∷◌, ◌++◌, map, find, Option, Some, None, cond, option_map, refl, sym, ap, subst, ◌∙◌, append_assoc, codes}
use Rattle.std.specs.Prelude.{not}
use Rattle.std.specs.List.{filter, flat_map, list_all}
use Rattle.std.proofs.lemmas.Bool.{and_parts, and_from}
use Rattle.std.proofs.lemmas.List.{append_cancel_left, append_cancel_right}
use Rattle.zi_outside.specs.declared.var.Var.{Var}
use Rattle.zi_shim.specs.Shell.{Part, between_quotes, behind_backslash, is_word, word_text, word_value, words_text}
use Rattle.zi_shim.specs.Shim.{quoted}
use Rattle.zi_shim.specs.Steps.{HasNoPart}
use Rattle.zi_shim.proofs.PartLaws.{heads, quoted_front}
use Rattle.zi_shim.proofs.WordLaws.{one_word, parts_of}
use Rattle.zi_shim.proofs.QuoteLaws.{parts_for, right_parts, quoted_is, value_is}
use Rattle.zi_script.specs.Script.{goes_on, begins, is_name, is_changed, changed, is_unsettable, line, Line, is_line, line_text, sets}

-- Writing: the lines of variables whose names a shell can set.

pub line_for : Var → Line
line_for v = record { name = v.name; word = parts_for v.value }

pub right_lines : (vs : List Var) → list_all (λ (v : Var). is_name v.name) vs ≡ true → list_all is_line (map line_for vs) ≡ true
unfolding line_for
right_lines [] h = refl
right_lines (v ∷ vs) h =
    let p = and_parts (is_name v.name) (list_all (λ (v : Var). is_name v.name) vs) h in
    and_from (is_line (line_for v)) (list_all is_line (map line_for vs)) (and_from (is_name v.name) (is_word (parts_for v.value)) p.0 (right_parts v.value)) (right_lines vs p.1)

line_is : (v : Var) → line v ≡ line_text (line_for v)
unfolding line_for
line_is v = ap (λ t. codes "export " ++ (v.name ++ (codes "=" ++ (t ++ codes "\n")))) (sym (quoted_is v.value))

pub lines_are : (vs : List Var) → flat_map line vs ≡ flat_map line_text (map line_for vs)
lines_are [] = refl
lines_are (v ∷ vs) = ap (λ t. t ++ flat_map line vs) (line_is v) ∙ ap (λ t. line_text (line_for v) ++ t) (lines_are vs)

pub sets_are : (vs : List Var) → map sets (map line_for vs) ≡ vs
unfolding line_for
sets_are [] = refl
sets_are (v ∷ vs) = ap (λ t. record { name = v.name; value = t } ∷ map sets (map line_for vs)) (value_is v.value) ∙ ap (λ xs. v ∷ xs) (sets_are vs)

-- where none is changed that a shell can't set, it can set all that are
pub all_named : (old vs : List Var) → option_map (λ (v : Var). v.name) (find (is_unsettable old) vs) ≡ None → list_all (λ (v : Var). is_name v.name) (changed old vs) ≡ true
all_named old [] h = refl
all_named old (v ∷ vs) h = by (is_changed old v) (is_name v.name) refl h (all_named old vs)
  where
    by : (b n : Bool) → is_name v.name ≡ n → option_map (λ (v : Var). v.name) (cond (b && not n) (Some v) (find (is_unsettable old) vs)) ≡ None
        → (option_map (λ (v : Var). v.name) (find (is_unsettable old) vs) ≡ None → list_all (λ (v : Var). is_name v.name) (changed old vs) ≡ true)
        → list_all (λ (v : Var). is_name v.name) (cond b (v ∷ changed old vs) (changed old vs)) ≡ true
    by true true e h go = and_from (is_name v.name) (list_all (λ (v : Var). is_name v.name) (changed old vs)) e (go h)
    by true false e h go = absurd (cc h)
    by false true e h go = go h
    by false false e h go = go h

-- Reading: a text has one list of lines.

-- a name ends at the first `=`
is_no_sign : (c : ℕ) (p : ℕ → Bool) → p 61 ≡ false → p c ≡ true → 61 ≡ c → ⊥
is_no_sign c p h e same = cc (h, e, ap p same)

cut : (a b r s : List ℕ) → list_all goes_on a ≡ true → list_all goes_on b ≡ true → a ++ 61 ∷ r ≡ b ++ 61 ∷ s → (a ≡ b) × (r ≡ s)
cut [] [] r s ha hb e = (refl, cc e)
cut [] (y ∷ b) r s ha hb e = absurd (is_no_sign y goes_on refl (and_parts (goes_on y) (list_all goes_on b) hb).0 (cc e))
cut (x ∷ a) [] r s ha hb e = absurd (is_no_sign x goes_on refl (and_parts (goes_on x) (list_all goes_on a) ha).0 (sym (cc e)))
cut (x ∷ a) (y ∷ b) r s ha hb e =
    let h : x ≡ y = cc e in
    let t : a ++ 61 ∷ r ≡ b ++ 61 ∷ s = cc e in
    let i = cut a b r s (and_parts (goes_on x) (list_all goes_on a) ha).1 (and_parts (goes_on y) (list_all goes_on b) hb).1 t in
    (cc (h, i.0), i.1)

one_name : (a b r s : List ℕ) → is_name a ≡ true → is_name b ≡ true → a ++ 61 ∷ r ≡ b ++ 61 ∷ s → (a ≡ b) × (r ≡ s)
one_name [] b r s ha hb e = absurd (cc ha)
one_name (x ∷ a) [] r s ha hb e = absurd (cc hb)
one_name (x ∷ a) (y ∷ b) r s ha hb e =
    let h : x ≡ y = cc e in
    let t : a ++ 61 ∷ r ≡ b ++ 61 ∷ s = cc e in
    let i = cut a b r s (and_parts (begins x) (list_all goes_on a) ha).1 (and_parts (begins y) (list_all goes_on b) hb).1 t in
    (cc (h, i.0), i.1)

-- no part stands at a newline
none_there : (r : List ℕ) → HasNoPart (10 ∷ r)
none_there r (between_quotes a) rest h e = heads 10 39 r (a ++ 39 ∷ rest) refl (e ∙ quoted_front a rest)
none_there r behind_backslash rest h e = heads 10 92 r (39 ∷ rest) refl e

-- a line, with a text behind it
line_front : (l : Line) (r : List ℕ) → line_text l ++ r ≡ codes "export " ++ (l.name ++ 61 ∷ (word_text l.word ++ 10 ∷ r))
line_front l r =
    ap (λ t. codes "export " ++ t)
    (append_assoc l.name (61 ∷ (word_text l.word ++ 10 ∷ [])) r ∙ ap (λ t. l.name ++ 61 ∷ t) (append_assoc (word_text l.word) (10 ∷ []) r))

one_line : (l m : Line) (r s : List ℕ) → is_line l ≡ true → is_line m ≡ true → line_text l ++ r ≡ line_text m ++ s → (l ≡ m) × (r ≡ s)
one_line l m r s hl hm e =
    let p = and_parts (is_name l.name) (is_word l.word) hl in
    let q = and_parts (is_name m.name) (is_word m.word) hm in
    let t = append_cancel_left (codes "export ") _ _ (sym (line_front l r) ∙ e ∙ line_front m s) in
    let n = one_name l.name m.name (word_text l.word ++ 10 ∷ r) (word_text m.word ++ 10 ∷ s) p.0 q.0 t in
    let w = one_word l.word m.word (10 ∷ r) (10 ∷ s) (parts_of l.word p.1) (parts_of m.word q.1) n.1 (none_there r) (none_there s) in
    (ap (λ x. record { name = x; word = l.word }) n.0 ∙ ap (λ y. record { name = m.name; word = y }) w.0, append_cancel_left (10 ∷ []) r s w.1)

-- `exec` is no line
no_line : (l : Line) (r s : List ℕ) → codes "exec" ++ r ≡ line_text l ++ s → ⊥
no_line l r s e = heads 101 112 (99 ∷ r) _ refl (append_cancel_left (codes "ex") _ _ (e ∙ line_front l s))

pub one_of_lines : (ls ms : List Line) (r s : List ℕ) → list_all is_line ls ≡ true → list_all is_line ms ≡ true
    → flat_map line_text ls ++ (codes "exec" ++ r) ≡ flat_map line_text ms ++ (codes "exec" ++ s) → (ls ≡ ms) × (r ≡ s)
one_of_lines [] [] r s hl hm e = (refl, append_cancel_left (codes "exec") r s e)
one_of_lines [] (m ∷ ms) r s hl hm e = absurd (no_line m r (flat_map line_text ms ++ (codes "exec" ++ s)) (e ∙ append_assoc (line_text m) (flat_map line_text ms) (codes "exec" ++ s)))
one_of_lines (l ∷ ls) [] r s hl hm e = absurd (no_line l s (flat_map line_text ls ++ (codes "exec" ++ r)) (sym e ∙ append_assoc (line_text l) (flat_map line_text ls) (codes "exec" ++ r)))
one_of_lines (l ∷ ls) (m ∷ ms) r s hl hm e =
    let p = and_parts (is_line l) (list_all is_line ls) hl in
    let q = and_parts (is_line m) (list_all is_line ms) hm in
    let t = sym (append_assoc (line_text l) (flat_map line_text ls) (codes "exec" ++ r)) ∙ e ∙ append_assoc (line_text m) (flat_map line_text ms) (codes "exec" ++ s) in
    let i = one_line l m (flat_map line_text ls ++ (codes "exec" ++ r)) (flat_map line_text ms ++ (codes "exec" ++ s)) p.0 q.0 t in
    let j = one_of_lines ls ms r s p.1 q.1 i.1 in
    (cc (i.0, j.0), j.1)
