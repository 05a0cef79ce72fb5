-- Names are of ASCII.
use Rattle.std.proofs.Common.{◌≡◌, ℕ, ◌<◌, Bool, true, false, not, ◌&&◌, ◌||◌, List, [], ◌∷◌, length, refl, arith}
use Rattle.std.specs.Prelude.{◌==◌, bytes_eq, codes}
use Rattle.std.specs.List.{list_all}
use Rattle.std.specs.Str.{IsAscii, IsUtf8}
use Rattle.std.proofs.lemmas.Str.{IsUtf8-from_ascii}
use Rattle.std.proofs.lemmas.Str.Ascii.{IsAscii-nil, IsAscii-cons}
use Rattle.std.proofs.lemmas.Bool.{and_parts}
use Rattle.std.proofs.lemmas.Bool.Decides.{nat_tests}
use Rattle.zi_packages.specs.Table.{is_word_byte, is_name_byte, is_name, is_machine}

byte_ascii : (c : ℕ) → is_name_byte c ≡ true → c < 128
byte_ascii c h = grind (arith, nat_tests)

all_ascii : (t : List ℕ) → list_all is_name_byte t ≡ true → IsAscii t
all_ascii [] h = IsAscii-nil
all_ascii (c ∷ t) h = let p = and_parts (is_name_byte c) (list_all is_name_byte t) h in IsAscii-cons c t (byte_ascii c p.0) (all_ascii t p.1)

pub name_utf8 : (t : List ℕ) → is_name t ≡ true → IsUtf8 t
unfolding is_name
name_utf8 t h = IsUtf8-from_ascii t (all_ascii t (and_parts (not (length t == 0)) (list_all is_name_byte t) h).1)

word_is_name : (c : ℕ) → is_word_byte c ≡ true → is_name_byte c ≡ true
word_is_name c h = rw h refl

words_are : (t : List ℕ) → list_all is_word_byte t ≡ true → list_all is_name_byte t ≡ true
words_are [] h = refl
words_are (c ∷ t) h = let p = and_parts (is_word_byte c) (list_all is_word_byte t) h in rw (word_is_name c p.0, words_are t p.1) refl

-- a machine that isn't `*` is a name
name_by : (t : List ℕ) (a b c : Bool) → bytes_eq t (codes "*") ≡ a → not (length t == 0) ≡ b → list_all is_word_byte t ≡ c → (a || (b && c)) ≡ true → bytes_eq t (codes "*") ≡ false → is_name t ≡ true
unfolding is_name
name_by t true b c e f g h n = absurd (cc)
name_by t false true true e f g h n = rw (f, words_are t g) refl
name_by t false true false e f g h n = absurd (cc)
name_by t false false c e f g h n = absurd (cc)

pub machine_name : (t : List ℕ) → is_machine t ≡ true → bytes_eq t (codes "*") ≡ false → is_name t ≡ true
unfolding is_machine
machine_name t h n = name_by t (bytes_eq t (codes "*")) (not (length t == 0)) (list_all is_word_byte t) refl refl refl h n
