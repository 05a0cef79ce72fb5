-- Arguments and loops of them as they are written: what is read of them, and that nothing is wrong with them.
use Rattle.std.proofs.Common.{◌≡◌, ℕ, Bool, true, false, ◌||◌, List, [], ◌∷◌, ◌++◌, map, Option, Some, None, codes, refl, sym, ap, subst, ◌∙◌, append-nil}
use Rattle.std.specs.Prelude.{not, bytes_eq, is_some, unwrap_or, if◌then◌else◌}
use Rattle.zi_elements.specs.declared.element.Attr.{Attr}
use Rattle.zi_elements.specs.Forest.{Forest, none, words, child, Elem, elements, attribute, text_in}
use Rattle.zi_elements.specs.Namespace.{injector}
use Rattle.zi_docout.specs.Elements.{attr}
use Rattle.zi_docout.specs.Same.{IsSame, has_child, bare, unplaced}
use Rattle.zi_address.specs.Texts.{same, is_none}
use Rattle.zi_reading.specs.Ways.{AsWritten}
use Rattle.zi_reading.specs.Words.{is_among, listed, is_wrong, repeated}
use Rattle.zi_reading.specs.Reading.{is_unclear, parts, read_in}
use Rattle.zi_faults.specs.Said.{Said}
use Rattle.zi_parts.specs.Values.{word_of}
use Rattle.zi_faults.specs.Faults.{faults_with, kinds_at, is_bad_part, repeats_in, shims_in, share}
use Rattle.zi_parts.specs.declared.types.Word.{Word}
use Rattle.zi_parts.specs.declared.types.Word.TheVariants.{Arg, ForEach}
use Rattle.zi_sels.specs.Written.{attr_of, attr_unless, text_node, arg_elem, word_elem}
use Rattle.zi_sels_laws.proofs.LikeLaws.{AreSame, same_inside, Each, each_read, values_back, same_text}
use Rattle.zi_sels_laws.proofs.FieldLaws.{Field, field, fields, looked, unless, unless_field, unless_back, app}
use Rattle.zi_sels_laws.proofs.PlainLaws.{here_is, made_is, condition, IsPlain, IsOf, of_parts, of_those, free_clear, stood, plain_open, all_parts}
use Rattle.zi_sels_laws.proofs.CleanLaws.{IsClean, clean_inside, tested_faults, quiet_where}
use Rattle.zi_sels_laws.proofs.BindingLaws.{no_repeats, empty_repeats, good_part}
use Rattle.zi_docout.proofs.ToldLemmas.{child_bare}

-- an argument, or a loop, as it may be read
abbrev pub IsProperWord : Word → Type 0
IsProperWord (Arg text) = Unit {0}
IsProperWord (ForEach item_from separator args) = is_none separator ≡ false

-- Arguments.

text_alone : (text : List ℕ) → has_child (text_node text) ≡ false
text_alone [] = refl
text_alone (c ∷ cs) = refl

text_unplaced : (text : List ℕ) → unplaced (text_node text) ≡ text_node text
text_unplaced [] = refl
text_unplaced (c ∷ cs) = refl

text_again : (text : List ℕ) → text_in (text_node text) ≡ text
text_again [] = refl
text_again (c ∷ cs) = append-nil (c ∷ cs)

childless : (f : Forest) → has_child f ≡ false → elements f ≡ []
childless none h = refl
childless (words t k) h = childless k h
childless (child s n a f p k) h = absurd (cc h)

arg_same : (text : List ℕ) (r : Elem) → IsSame (arg_elem text) r → here_is (codes "arg") [] r.inside r.place ≡ r
unfolding arg_elem
arg_same text r s = made_is (codes "arg") [] (text_node text) r s

arg_inside : (text : List ℕ) (r : Elem) → IsSame (arg_elem text) r → bare (has_child r.inside) r.inside ≡ text_node text
unfolding arg_elem
arg_inside text r s = s.inside ∙ text_unplaced text

arg_empty : (text : List ℕ) (r : Elem) → IsSame (arg_elem text) r → elements r.inside ≡ []
arg_empty text r s = childless r.inside (sym (child_bare (has_child r.inside) r.inside) ∙ (ap has_child (arg_inside text r s) ∙ text_alone text))

pub arg_text : (text : List ℕ) (r : Elem) → IsSame (arg_elem text) r → text_in r.inside ≡ text
arg_text text r s = same_text r.inside (text_node text) (text_alone text) (arg_inside text r s) ∙ text_again text

arg_means : (f : Forest) (p : ℕ) → word_of AsWritten (here_is (codes "arg") [] f p) ≡ Arg (text_in f)
unfolding word_of same injector
arg_means f p = refl

arg_back : (text : List ℕ) (r : Elem) → IsSame (arg_elem text) r → word_of AsWritten r ≡ Arg text
arg_back text r s = ap (word_of AsWritten) (sym (arg_same text r s)) ∙ (arg_means r.inside r.place ∙ ap Arg (arg_text text r s))

arg_tested : (s : Said) (f : Forest) (p : ℕ)
    → faults_with AsWritten s (here_is (codes "arg") [] f p) ≡ tested_faults (here_is (codes "arg") [] f p) false false false false false (repeats_in AsWritten (here_is (codes "arg") [] f p)) []
unfolding faults_with kinds_at shims_in same is_among is_unclear injector
arg_tested s f p = refl

arg_clean : (text : List ℕ) (r : Elem) → IsSame (arg_elem text) r → IsClean r
arg_clean text r s =
    let e = here_is (codes "arg") [] r.inside r.place in
    subst IsClean (arg_same text r s) (
      λ v. arg_tested v r.inside r.place ∙ quiet_where e false false false false false (repeats_in AsWritten e) [] refl refl refl refl refl (empty_repeats e (arg_empty text r s)) refl,
      clean_inside (codes "arg") r.inside (subst (Each IsClean) (sym (arg_empty text r s)) tt),
    )

abbrev pub word_names : List (List ℕ)
word_names = listed (codes "arg for-each")

abbrev pub arg_names : List (List ℕ)
arg_names = listed (codes "arg")

arg_known : is_among word_names (codes "arg") ≡ true
unfolding is_among same injector
arg_known = refl

arg_alone : is_among arg_names (codes "arg") ≡ true
unfolding is_among same injector
arg_alone = refl

loop_known : is_among word_names (codes "for-each") ≡ true
unfolding is_among same injector
loop_known = refl

arg_plain : (text : List ℕ) (r : Elem) → IsSame (arg_elem text) r → IsPlain (codes "arg") r
arg_plain text r s = subst (IsPlain (codes "arg")) (arg_same text r s) (record { space = refl; named = refl; free = refl })

arg_is : (text : List ℕ) (r : Elem) → Unit {0} → IsSame (arg_elem text) r → IsOf arg_names r
arg_is text r h s = record { name = codes "arg"; plain = arg_plain text r s; known = arg_alone }

-- Loops.

abbrev loop_fields : List ℕ → List ℕ → List Field
loop_fields item_from separator = field (codes "item-from") (Some item_from) ∷ field (codes "separator") (unless (codes ":") separator) ∷ []

abbrev loop_attrs : List ℕ → List ℕ → List Attr
loop_attrs item_from separator = attr (codes "item-from") item_from ∷ [] ++ attr_unless (codes ":") (codes "separator") separator

loop_as_fields : (item_from separator : List ℕ) → loop_attrs item_from separator ≡ fields (loop_fields item_from separator)
loop_as_fields item_from separator =
    ap (λ v. attr (codes "item-from") item_from ∷ v) (unless_field (codes ":") (codes "separator") separator ∙ sym (append-nil (attr_of (codes "separator") (unless (codes ":") separator))))

abbrev loop_here : List Field → Forest → ℕ → Elem
loop_here fs f p = here_is (codes "for-each") (fields fs) f p

abbrev loop_by : Option (List ℕ) → Option (List ℕ) → List (List ℕ) → Word
loop_by i s args = ForEach (unwrap_or i []) (unwrap_or s (codes ":")) args

abbrev text_of : Elem → List ℕ
text_of a = text_in a.inside

loop_means : (fs : List Field) (f : Forest) (p : ℕ)
    → word_of AsWritten (loop_here fs f p) ≡ loop_by (attribute (codes "item-from") (loop_here fs f p)) (attribute (codes "separator") (loop_here fs f p)) (map text_of (parts AsWritten (loop_here fs f p)))
unfolding word_of same injector
loop_means fs f p = refl

loop_tested : (s : Said) (fs : List Field) (f : Forest) (p : ℕ)
    → faults_with AsWritten s (loop_here fs f p) ≡ tested_faults (loop_here fs f p) (is_unclear (loop_here fs f p)) false (is_bad_part (loop_here fs f p)) false false (repeats_in AsWritten (loop_here fs f p)) []
unfolding faults_with kinds_at shims_in same is_among injector
loop_tested s fs f p = refl

stood_loop : Each (λ n. stood (codes "for-each") n ≡ true) arg_names
unfolding is_among same read_in injector
stood_loop = (refl, tt)

arg_no_runner : Each (λ n. is_among (listed (codes "runner")) n ≡ false) arg_names
unfolding is_among same injector
arg_no_runner = (refl, tt)

arg_no_command : Each (λ n. is_among (listed (codes "command")) n ≡ false) arg_names
unfolding is_among same injector
arg_no_command = (refl, tt)

no_recipe : same (codes "for-each") (codes "recipe") ≡ false
unfolding same injector
no_recipe = refl

loop_plain : (item_from separator : List ℕ) (f : Forest) (p : ℕ) → IsPlain (codes "for-each") (loop_here (loop_fields item_from separator) f p)
loop_plain item_from separator f p = record { space = refl; named = refl; free = looked condition (loop_fields item_from separator) refl }

loop_parts : (item_from separator : List ℕ) (f : Forest) (p : ℕ) → Each (IsOf arg_names) (elements f) → parts AsWritten (loop_here (loop_fields item_from separator) f p) ≡ elements f
loop_parts item_from separator f p h =
    let e = loop_here (loop_fields item_from separator) f p in
    all_parts e (plain_open (codes "for-each") e (loop_plain item_from separator f p) no_recipe) (of_parts arg_names (codes "for-each") stood_loop (elements f) h)

abbrev any : List ℕ → Type 0
any text = Unit {0}

each_any : (args : List (List ℕ)) → Each any args
each_any [] = tt
each_any (a ∷ args) = (tt, each_any args)

args_are : (args : List (List ℕ)) (rs : List Elem) → AreSame (map arg_elem args) rs → Each (IsOf arg_names) rs
args_are args rs s = each_read arg_elem any (IsOf arg_names) arg_is args rs (each_any args) s

args_back : (args : List (List ℕ)) (rs : List Elem) → AreSame (map arg_elem args) rs → map text_of rs ≡ args
args_back args rs s = values_back arg_elem text_of any (λ text r h k. arg_text text r k) args rs (each_any args) s

args_clean : (args : List (List ℕ)) (rs : List Elem) → AreSame (map arg_elem args) rs → Each IsClean rs
args_clean args rs s = each_read arg_elem any IsClean (λ text r h k. arg_clean text r k) args rs (each_any args) s

loop_here_back : (item_from separator : List ℕ) (args : List (List ℕ)) (f : Forest) (p : ℕ) → AreSame (map arg_elem args) (elements f)
    → word_of AsWritten (loop_here (loop_fields item_from separator) f p) ≡ ForEach item_from separator args
loop_here_back item_from separator args f p s =
    let fs = loop_fields item_from separator in
    let found = ap (map text_of) (loop_parts item_from separator f p (args_are args (elements f) s)) ∙ args_back args (elements f) s in
    loop_means fs f p
    ∙ (app (app (ap loop_by (looked (codes "item-from") fs refl)) (looked (codes "separator") fs refl)) found
    ∙ ap (λ v. ForEach item_from v args) (unless_back (codes ":") separator))

loop_good : (item_from separator : List ℕ) (f : Forest) (p : ℕ) → is_none separator ≡ false → is_bad_part (loop_here (loop_fields item_from separator) f p) ≡ false
unfolding same injector
loop_good item_from separator f p h =
    good_part (loop_here (loop_fields item_from separator) f p) refl refl
    (app (ap {B = Bool → Bool} (λ x y. x || y) (ap (λ o. not (is_some o)) (looked (codes "item-from") (loop_fields item_from separator) refl)))
    (ap (is_wrong (λ t. not (is_none t))) (looked (codes "separator") (loop_fields item_from separator) refl) ∙ either (bytes_eq separator (codes ":"))))
    refl
  where
    either : (b : Bool) → is_wrong (λ (t : List ℕ). not (is_none t)) (if b then None else Some separator) ≡ false
    either true = refl
    either false = ap (λ v. not (not v)) h

loop_here_clean : (item_from separator : List ℕ) (args : List (List ℕ)) (f : Forest) (p : ℕ) → is_none separator ≡ false → AreSame (map arg_elem args) (elements f)
    → IsClean (loop_here (loop_fields item_from separator) f p)
loop_here_clean item_from separator args f p h s =
    let fs = loop_fields item_from separator in
    let e = loop_here fs f p in
    let are = args_are args (elements f) s in (
      λ v. loop_tested v fs f p ∙ quiet_where e (is_unclear e) false (is_bad_part e) false false (repeats_in AsWritten e) []
          (free_clear e (looked condition fs refl)) refl (loop_good item_from separator f p h) refl refl
          (no_repeats e (elements f) (loop_parts item_from separator f p are) (ap (repeated (λ a b. true)) (of_those arg_names (listed (codes "runner")) false arg_no_runner (elements f) are))
          (ap (repeated (share (codes "name"))) (of_those arg_names (listed (codes "command")) false arg_no_command (elements f) are)))
          refl,
      clean_inside (codes "for-each") f (args_clean args (elements f) s),
    )

loop_same : (item_from separator : List ℕ) (args : List (List ℕ)) (r : Elem) → IsSame (word_elem (ForEach item_from separator args)) r → loop_here (loop_fields item_from separator) r.inside r.place ≡ r
unfolding word_elem
loop_same item_from separator args r s =
    ap (λ v. here_is (codes "for-each") v r.inside r.place) (sym (loop_as_fields item_from separator)) ∙ made_is (codes "for-each") (loop_attrs item_from separator) _ r s

loop_inside : (item_from separator : List ℕ) (args : List (List ℕ)) (r : Elem) → IsSame (word_elem (ForEach item_from separator args)) r → AreSame (map arg_elem args) (elements r.inside)
unfolding word_elem
loop_inside item_from separator args r s = same_inside (codes "for-each") (loop_attrs item_from separator) (map arg_elem args) r s

-- Both.

pub word_is : (w : Word) (r : Elem) → IsProperWord w → IsSame (word_elem w) r → IsOf word_names r
unfolding word_elem
word_is (Arg text) r h s = record { name = codes "arg"; plain = arg_plain text r s; known = arg_known }
word_is (ForEach item_from separator args) r h s =
    record { name = codes "for-each"; plain = subst (IsPlain (codes "for-each")) (loop_same item_from separator args r s) (loop_plain item_from separator r.inside r.place); known = loop_known }

pub word_back : (w : Word) (r : Elem) → IsProperWord w → IsSame (word_elem w) r → word_of AsWritten r ≡ w
unfolding word_elem
word_back (Arg text) r h s = arg_back text r s
word_back (ForEach item_from separator args) r h s =
    ap (word_of AsWritten) (sym (loop_same item_from separator args r s)) ∙ loop_here_back item_from separator args r.inside r.place (loop_inside item_from separator args r s)

pub word_clean : (w : Word) (r : Elem) → IsProperWord w → IsSame (word_elem w) r → IsClean r
unfolding word_elem
word_clean (Arg text) r h s = arg_clean text r s
word_clean (ForEach item_from separator args) r h s =
    subst IsClean (loop_same item_from separator args r s) (loop_here_clean item_from separator args r.inside r.place h (loop_inside item_from separator args r s))

-- all of them
pub words_are : (ws : List Word) (rs : List Elem) → Each IsProperWord ws → AreSame (map word_elem ws) rs → Each (IsOf word_names) rs
words_are ws rs h s = each_read word_elem IsProperWord (IsOf word_names) word_is ws rs h s

pub words_back : (ws : List Word) (rs : List Elem) → Each IsProperWord ws → AreSame (map word_elem ws) rs → map (word_of AsWritten) rs ≡ ws
words_back ws rs h s = values_back word_elem (word_of AsWritten) IsProperWord word_back ws rs h s

pub words_clean : (ws : List Word) (rs : List Elem) → Each IsProperWord ws → AreSame (map word_elem ws) rs → Each IsClean rs
words_clean ws rs h s = each_read word_elem IsProperWord IsClean word_clean ws rs h s
