-- Shims say their words.
use Rattle.std.proofs.Common.{◌≡◌, ℕ, List, ◌++◌, map, Option, Some, None, refl, sym, ap, ◌∙◌, subst}
use Rattle.std.proofs.lemmas.List.{append_cancel_left, append_cancel_right}
use Rattle.zi_shim.specs.Shell.{word_value, words_text}
use Rattle.zi_shim.specs.Shim.{head, tail, shim, Says, Reads}
use Rattle.zi_shim.specs.Laws.{ShimsSayTheirWords}
use Rattle.zi_shim.proofs.WordLaws.{one_list}
use Rattle.zi_shim.proofs.QuoteLaws.{parts_for, all_right, all_quoted, all_values}

said : (words : List (List ℕ)) → Says (shim words) words
said words = record {
  written = map parts_for words;
  are_words = all_right words;
  text_is = ap (λ t. head ++ (t ++ tail)) (sym (all_quoted words));
  words_are = sym (all_values words);
}

once : (text : List ℕ) (one other : List (List ℕ)) → Says text one → Says text other → one ≡ other
once text one other a b =
    let e : words_text a.written ++ tail ≡ words_text b.written ++ tail = append_cancel_left head _ _ (sym a.text_is ∙ b.text_is) in
    let t : words_text a.written ≡ words_text b.written = append_cancel_right _ _ tail e in
    a.words_are ∙ ap (map word_value) (one_list a.written b.written a.are_words b.are_words t) ∙ sym b.words_are

apart : (one other : List (List ℕ)) → shim one ≡ shim other → one ≡ other
apart one other e = once (shim one) one other (said one) (subst (λ t. Says t other) (sym e) (said other))

sole : (bytes : List ℕ) (one other : Option (List (List ℕ))) → Reads bytes one → Reads bytes other → one ≡ other
sole bytes None None a b = refl
sole bytes None (Some words) a b = absurd (a words b.0 b.1)
sole bytes (Some words) None a b = absurd (b words a.0 a.1)
sole bytes (Some one) (Some other) a b = ap Some (once bytes one other a.1 b.1)

pub say_their_words : ShimsSayTheirWords
say_their_words = record { said = said; once = once; apart = apart; sole = sole }
