-- The quoted form of a word is a word of the shell, which stands for that word.
use Rattle.std.proofs.Common.{◌≡◌, ℕ, true, false, nat_eq, List, [], ◌∷◌, ◌++◌, map, refl, sym, ap, ◌∙◌, codes, if◌then◌else◌}
use Rattle.std.specs.Prelude.{not}
use Rattle.std.specs.List.{flat_map, list_all}
use Rattle.std.proofs.lemmas.Bool.{eqb-true, and_from, not_from_false}
use Rattle.zi_shim.specs.Shell.{Part, between_quotes, behind_backslash, has_quote, is_part, is_word, word_text, word_value, words_text}
use Rattle.zi_shim.specs.Shim.{escaped, quoted, quoted_words}
use Rattle.zi_shim.proofs.PartLaws.{quoted_front}

-- what stands before the first quote of a word, and the parts behind that
front : List ℕ → List ℕ
front [] = []
front (c ∷ cs) = if nat_eq c 39 then [] else c ∷ front cs

behind : List ℕ → List Part
behind [] = []
behind (c ∷ cs) = if nat_eq c 39 then behind_backslash ∷ (between_quotes (front cs) ∷ behind cs) else behind cs

-- the parts of a word's quoted form
pub parts_for : List ℕ → List Part
parts_for w = between_quotes (front w) ∷ behind w

front_free : (w : List ℕ) → has_quote (front w) ≡ false
unfolding front
front_free [] = refl
front_free (c ∷ cs) = elim (nat_eq c 39) as (λ b. nat_eq c 39 ≡ b → has_quote (if b then [] else c ∷ front cs) ≡ false) [
  | true ↦ λ e. refl
  | false ↦ λ e. rw e (front_free cs)
] refl

behind_parts : (w : List ℕ) → list_all is_part (behind w) ≡ true
unfolding behind
behind_parts [] = refl
behind_parts (c ∷ cs) = elim (nat_eq c 39) as (λ b. list_all is_part (if b then behind_backslash ∷ (between_quotes (front cs) ∷ behind cs) else behind cs) ≡ true) [
  | true ↦ and_from (not (has_quote (front cs))) (list_all is_part (behind cs)) (not_from_false (has_quote (front cs)) (front_free cs)) (behind_parts cs)
  | false ↦ behind_parts cs
]

pub right_parts : (w : List ℕ) → is_word (parts_for w) ≡ true
unfolding parts_for
right_parts w = and_from (not (has_quote (front w))) (list_all is_part (behind w)) (not_from_false (has_quote (front w)) (front_free w)) (behind_parts w)

written : (w : List ℕ) → front w ++ 39 ∷ word_text (behind w) ≡ flat_map escaped w ++ 39 ∷ []
unfolding front behind
written [] = refl
written (c ∷ cs) = elim (nat_eq c 39) as (λ b.
    (if b then [] else c ∷ front cs) ++ 39 ∷ word_text (if b then behind_backslash ∷ (between_quotes (front cs) ∷ behind cs) else behind cs)
    ≡ ((if b then codes "'\\''" else c ∷ []) ++ flat_map escaped cs) ++ 39 ∷ []) [
      | true ↦ ap (λ t. 39 ∷ (92 ∷ (39 ∷ t))) (quoted_front (front cs) (word_text (behind cs)) ∙ ap (λ t. 39 ∷ t) (written cs))
      | false ↦ ap (λ t. c ∷ t) (written cs)
    ]

pub quoted_is : (w : List ℕ) → word_text (parts_for w) ≡ quoted w
unfolding parts_for
quoted_is w = quoted_front (front w) (word_text (behind w)) ∙ ap (λ t. 39 ∷ t) (written w)

meant : (w : List ℕ) → front w ++ word_value (behind w) ≡ w
unfolding front behind
meant [] = refl
meant (c ∷ cs) = elim (nat_eq c 39) as (λ b. nat_eq c 39 ≡ b →
    (if b then [] else c ∷ front cs) ++ word_value (if b then behind_backslash ∷ (between_quotes (front cs) ∷ behind cs) else behind cs) ≡ c ∷ cs) [
      | true ↦ λ e. ap (λ t. 39 ∷ t) (meant cs) ∙ ap (λ x. x ∷ cs) (sym (eqb-true c 39 e))
      | false ↦ λ e. ap (λ t. c ∷ t) (meant cs)
    ] refl

pub value_is : (w : List ℕ) → word_value (parts_for w) ≡ w
unfolding parts_for
value_is w = meant w

-- so it is of all words
pub all_right : (ws : List (List ℕ)) → list_all is_word (map parts_for ws) ≡ true
all_right [] = refl
all_right (w ∷ ws) = and_from (is_word (parts_for w)) (list_all is_word (map parts_for ws)) (right_parts w) (all_right ws)

pub all_quoted : (ws : List (List ℕ)) → words_text (map parts_for ws) ≡ quoted_words ws
all_quoted [] = refl
all_quoted (w ∷ ws) = ap (λ t. 32 ∷ t) (ap (λ t. t ++ words_text (map parts_for ws)) (quoted_is w) ∙ ap (λ t. quoted w ++ t) (all_quoted ws))

pub all_values : (ws : List (List ℕ)) → map word_value (map parts_for ws) ≡ ws
all_values [] = refl
all_values (w ∷ ws) = let e = value_is w in let h = all_values ws in cc (e, h)
