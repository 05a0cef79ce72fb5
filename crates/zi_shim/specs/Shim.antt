-- The text of a shim: a script of the shell that runs a command's words in its own place, its arguments behind them (POSIX.1-2024,
-- Shell Command Language, 2.15 exec; 2.5.2 Special Parameters, `"$@"`). Its first line, which 2.1 leaves open, names the shell to the
-- system, as scripts do everywhere (execve(2)); to the shell it is a comment.
use Rattle.std.specs.Prelude.{◌≡◌, ℕ, true, List, [], ◌∷◌, ◌++◌, map, Option, Some, None, codes, nat_eq, if◌then◌else◌}
use Rattle.std.specs.List.{flat_map, list_all}
use Rattle.std.specs.Str.{IsUtf8}
use Rattle.zi_shim.specs.Shell.{Part, is_word, word_value, words_text}

-- what stands before the words, and behind them: two lines in all
abbrev pub head : List ℕ
head = codes "#!/bin/sh\nexec"

abbrev pub tail : List ℕ
tail = codes " \"$@\"\n"

-- The quoted form of a word: it stands between single quotes, and each single quote in it is replaced: it ends the quoted part, stands
-- behind a backslash, and begins another.
abbrev pub escaped : ℕ → List ℕ
escaped c = if nat_eq c 39 then codes "'\\''" else c ∷ []

abbrev pub quoted : List ℕ → List ℕ
quoted word = 39 ∷ flat_map escaped word ++ 39 ∷ []

abbrev pub quoted_words : List (List ℕ) → List ℕ
quoted_words words = flat_map (λ word. 32 ∷ quoted word) words

abbrev pub shim : List (List ℕ) → List ℕ
shim words = head ++ (quoted_words words ++ tail)

-- The text is that of a script of this form, which says these words, however each is quoted.
pub record Says (text : List ℕ) (words : List (List ℕ)) : Type 0 where
  pub written : List (List Part)
  pub are_words : list_all is_word written ≡ true
  pub text_is : text ≡ head ++ (words_text written ++ tail)
  pub words_are : words ≡ map word_value written

-- the words that bytes say, or none where they are no such text in UTF-8
abbrev pub Reads : List ℕ → Option (List (List ℕ)) → Type 0
Reads bytes (Some words) = IsUtf8 bytes × Says bytes words
Reads bytes None = (words : List (List ℕ)) → IsUtf8 bytes → Says bytes words → ⊥
