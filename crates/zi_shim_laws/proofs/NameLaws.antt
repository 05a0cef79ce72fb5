-- A text of a document is the name of a shim, where it isn't one that no program can have: it holds no NUL, since XML can't carry that.
use Rattle.std.proofs.Common.{◌≡◌, ℕ, ◌≤◌, Bool, true, false, ◌&&◌, ◌||◌, ◌==◌, cond, ltb, List, [], ◌∷◌, refl, sym, ap, ◌∙◌, subst, arith}
use Rattle.std.specs.Prelude.{encode_utf8, encode_utf8_all, not, nat_eq, bytes_eq, codes}
use Rattle.std.specs.List.{list_any, starts_with}
use Rattle.std.proofs.Math.Utf8.{encode}
use Rattle.std.proofs.lemmas.Bool.{and_from, or_from, both_ways}
use Rattle.std.proofs.lemmas.Bool.Decides.{nat_tests}
use Rattle.zi_tree.specs.Order.{has_byte}
use Rattle.zi_shim.specs.Trees.{is_shim_name}
use Rattle.zi_xml.specs.Chars.{is_char}
use Rattle.zi_xml.specs.Syntax.{AllAre}
use Rattle.zi_doc_laws.specs.Trees.{IsCarried}
use Rattle.zi_docout.proofs.BitLemmas.{pick}
use Rattle.zi_address.specs.Texts.{is_none}
use Rattle.zi_faults.specs.Faults.{holds, is_no_program}
use Rattle.zi_sels_laws.proofs.LikeLaws.{Each, each_append}

-- No NUL.

abbrev IsOther : ℕ → Type 0
IsOther b = (b == 0) ≡ false

high_other : (x : ℕ) → ltb x 128 ≡ false → Each IsOther (encode x)
unfolding encode
high_other x high =
    pick (Each IsOther) (ltb x 128) _ _ (λ e. absurd (both_ways (ltb x 128) high e))
    (λ _. pick (Each IsOther) (ltb x 2048) _ _ (λ _. (other _ (omega arith), (other _ (omega arith), tt)))
    (λ _. pick (Each IsOther) (ltb x 65536) _ _ (λ _. (other _ (omega arith), (other _ (omega arith), (other _ (omega arith), tt))))
    (λ _. (other _ (omega arith), (other _ (omega arith), (other _ (omega arith), (other _ (omega arith), tt)))))))
  where
    other : (b : ℕ) → 128 ≤ b → (b == 0) ≡ false
    other b h = grind (arith, nat_tests)

low_one : (x : ℕ) → ltb x 128 ≡ true → encode_utf8 x ≡ x ∷ []
unfolding encode
low_one x h = taken (ltb x 128) _ _ h
  where
    taken : (b : Bool) (u v : List ℕ) → b ≡ true → cond b u v ≡ u
    taken true u v h = refl
    taken false u v h = cc

char_other : (c : ℕ) → is_char c ≡ true → (c == 0) ≡ false
unfolding is_char
char_other c h = grind (arith, nat_tests)

one_other : (x : ℕ) → is_char x ≡ true → Each IsOther (encode_utf8 x)
one_other x h = by (ltb x 128) refl
  where
    by : (b : Bool) → ltb x 128 ≡ b → Each IsOther (encode_utf8 x)
    by true e = let P : List ℕ → Type 0 = λ v. Each IsOther v in subst P (sym (low_one x e)) (char_other x h, tt)
    by false e = high_other x e

all_other : (cs : List ℕ) → AllAre is_char cs → Each IsOther (encode_utf8_all cs)
all_other [] h = tt
all_other (x ∷ cs) h = each_append IsOther (encode_utf8 x) (encode_utf8_all cs) (one_other x h.0) (all_other cs h.1)

none_there : (bs : List ℕ) → Each IsOther bs → has_byte 0 bs ≡ false
none_there [] h = refl
none_there (b ∷ bs) h = or_from (b == 0) (has_byte 0 bs) h.0 (none_there bs h.1)

carried_other : (t : List ℕ) → IsCarried t → has_byte 0 t ≡ false
carried_other t h = ap (has_byte 0) h.bytes ∙ none_there (encode_utf8_all h.chars) (all_other h.chars h.right)

-- What a name that a program can have isn't.

record IsProgram (name : List ℕ) : Type 0 where
  dot : starts_with nat_eq name (codes ".") ≡ false
  slash : has_byte 47 name ≡ false
  line : has_byte 10 name ≡ false

program_name : (name : List ℕ) → is_no_program name ≡ false → IsProgram name
program_name name h = by (is_none name) (starts_with nat_eq name (codes ".")) (holds 47 name) (holds 61 name) (holds 10 name) refl refl refl h
  where
    by : (a b c d e : Bool) → starts_with nat_eq name (codes ".") ≡ b → holds 47 name ≡ c → holds 10 name ≡ e → (a || b || c || d || e) ≡ false → IsProgram name
    by true b c d e p q r k = absurd (cc k)
    by false true c d e p q r k = absurd (cc k)
    by false false true d e p q r k = absurd (cc k)
    by false false false true e p q r k = absurd (cc k)
    by false false false false true p q r k = absurd (cc k)
    by false false false false false p q r k = record { dot = p; slash = q; line = r }

is_dot : (c : ℕ) → nat_eq c 46 ≡ true → c ≡ 46
is_dot c h = grind (arith, nat_tests)

no_dot : (c : ℕ) (cs : List ℕ) → starts_with nat_eq (c ∷ cs) (codes ".") ≡ false → nat_eq c 46 ≡ false
no_dot c cs h = by (nat_eq c 46) refl
  where
    by : (b : Bool) → nat_eq c 46 ≡ b → b ≡ false
    by true e = let k : starts_with nat_eq (46 ∷ cs) (codes ".") ≡ false = subst (λ (v : ℕ). starts_with nat_eq (v ∷ cs) (codes ".") ≡ false) (is_dot c e) h in absurd (cc k)
    by false e = refl

pub shim_named : (name : List ℕ) → is_no_program name ≡ false → IsCarried name → is_shim_name name ≡ true
shim_named [] h k = absurd (cc h)
shim_named (c ∷ cs) h k =
    let p : IsProgram (c ∷ cs) = program_name (c ∷ cs) h in
    let dot : nat_eq c 46 ≡ false = no_dot c cs p.dot in
    let one : bytes_eq (c ∷ cs) (codes ".") ≡ false = ap (λ b. b && bytes_eq cs []) dot in
    let two : bytes_eq (c ∷ cs) (codes "..") ≡ false = ap (λ b. b && bytes_eq cs (codes ".")) dot in
    and_from _ _
    (and_from _ _ (ap not one) (and_from _ _ (ap not two) (and_from _ _ (ap not p.slash) (ap not (carried_other (c ∷ cs) k)))))
    (and_from _ _ (ap not p.line) (ap not dot))
