-- Texts that are shown one behind another, and the line of them.
use Rattle.std.proofs.Common.{◌≡◌, ℕ, List, ◌++◌, Option, sym, subst}
use Rattle.std.specs.Prelude.{IsUtf8, codes, OnOk, Result, Ok, Err}
use Rattle.std.specs.Io.KnownBytes.{Appends}
use Rattle.zi_shown.specs.Shown.{shown}
use Rattle.zi_shown.proofs.ShownLemmas.{both, shown_both}
use Rattle.zi_hints.specs.Saying.{line}

pub two_shown : (a b c : Option (List ℕ)) (xs ys : List ℕ) → IsUtf8 xs → Appends a b (shown xs) → Appends b c (shown ys) → Appends a c (shown (xs ++ ys))
two_shown a b c xs ys utf8 p q = subst (Appends a c) (sym (shown_both xs ys utf8)) (both a b c (shown xs) (shown ys) p q)

pub line_of : (a b c d : Option (List ℕ)) (text : List ℕ) → Appends a b (codes "hint: ") → Appends b c (shown text) → Appends c d (codes "\n") → Appends a d (line text)
line_of a b c d text p q r = both a b d (codes "hint: ") (shown text ++ codes "\n") p (both b c d (shown text) (codes "\n") q r)

-- three hints
pub three_hints : (a b c d : Option (List ℕ)) (xs ys zs : List ℕ) → Appends a b xs → Appends b c ys → Appends c d zs → Appends a d (xs ++ (ys ++ zs))
three_hints a b c d xs ys zs p q r = both a b d xs (ys ++ zs) p (both b c d ys zs q r)

-- the same where the last write may be refused
pub then_shown : {T E : Type 0} (r : Result T E) (a b c : Option (List ℕ)) (xs ys : List ℕ) → IsUtf8 xs → Appends a b (shown xs) → OnOk r (Appends b c (shown ys)) → OnOk r (Appends a c (shown (xs ++ ys)))
then_shown (Ok x) a b c xs ys utf8 p q = two_shown a b c xs ys utf8 p q
then_shown (Err e) a b c xs ys utf8 p q = q

pub then_third : {T E : Type 0} (r : Result T E) (a b c d : Option (List ℕ)) (xs ys zs : List ℕ) → Appends a b xs → Appends b c ys → OnOk r (Appends c d zs) → OnOk r (Appends a d (xs ++ (ys ++ zs)))
then_third (Ok x) a b c d xs ys zs p q r = three_hints a b c d xs ys zs p q r
then_third (Err e) a b c d xs ys zs p q r = r
