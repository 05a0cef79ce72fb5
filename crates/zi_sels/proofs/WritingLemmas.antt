-- What is written for a default, for no element, a text, and digests.
use Rattle.std.proofs.Common.{◌≡◌, ◌≢◌, ℕ, ◌==◌, true, false, List, [], ◌∷◌, ◌++◌, map, length, refl, sym, ap, ◌∙◌, arith}
use Rattle.std.specs.Prelude.{bytes_eq, codes}
use Rattle.std.specs.List.{position_or_len, after_first}
use Rattle.zi_elements.specs.declared.element.Node.{Node}
use Rattle.zi_elements.specs.declared.element.Node.TheVariants as nodes
use Rattle.std.proofs.lemmas.List.{append-nil}
use Rattle.zi_elements.specs.Forest.{Elem, node_view, nodes_view}
use Rattle.zi_digest.specs.declared.DigestName.{DigestName}
use Rattle.zi_docout.specs.Amiss.{alone}
use Rattle.zi_docout.proofs.ForestLemmas.{words_view, node_alone}
use Rattle.zi_docout.specs.Elements.{attr, elem, Adds}
use Rattle.zi_sels.specs.Written.{attr_unless, text_node, digest_attrs, digests_elems}

-- a value that is the default is left out, and another one is written
pub unless_same : (default name value : List ℕ) → bytes_eq value default ≡ true → attr_unless default name value ≡ []
unless_same default name value e = rw e refl

pub unless_other : (default name value : List ℕ) → bytes_eq value default ≡ false → attr_unless default name value ≡ attr name value ∷ []
unless_other default name value e = rw e refl

pub ruleset leaving_out = (unless_same, unless_other)

-- no element adds nothing
pub nothing_added : (old : List Node) (elems : List Elem) → elems ≡ [] → Adds old old elems
nothing_added old elems e = sym (ap (λ (v : List Elem). map node_view old ++ map alone v) e ∙ append-nil (map node_view old))

-- a text as nodes
pub no_text : (t : List ℕ) → t ≡ [] → nodes_view [] ≡ text_node t
no_text t e = ap text_node (sym e)

pub text_alone : (t : List ℕ) → t ≢ [] → nodes_view (nodes.Words t ∷ []) ≡ text_node t
text_alone [] n = absurd (n refl)
text_alone (c ∷ cs) n = node_alone (nodes.Words (c ∷ cs)) ∙ words_view (c ∷ cs)

pub ruleset texts = (no_text, text_alone)

-- the letters of a digest in base 32 stand behind the first `_` of its text
pub letters_behind : (text letters : List ℕ) → text ≡ codes "sha256new_" ++ letters → after_first (λ b. b == 95) text ≡ letters
letters_behind text letters e = ap (after_first (λ b. b == 95)) e

pub letters_there : (text letters : List ℕ) → text ≡ codes "sha256new_" ++ letters → position_or_len (λ b. b == 95) text ≢ length text
letters_there text letters e n =
    let f : 9 ≡ length (codes "sha256new_" ++ letters) = ap (position_or_len (λ b. b == 95)) (sym e) ∙ n ∙ ap length e in
    omega (arith, f)

pub ruleset letters = (letters_behind, letters_there)

-- the element with the digests
pub no_digests : (names : List DigestName) → names ≡ [] → digests_elems names ≡ []
unfolding digests_elems
no_digests names e = ap digests_elems e

pub some_digests : (names : List DigestName) → names ≢ [] → digests_elems names ≡ elem (codes "manifest-digest") (digest_attrs names) [] ∷ []
unfolding digests_elems
some_digests [] n = absurd (n refl)
some_digests (name ∷ names) n = refl

pub ruleset all_digests = (no_digests, some_digests)
