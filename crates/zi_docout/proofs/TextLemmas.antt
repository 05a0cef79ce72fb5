-- Texts among children, child by child.
use Rattle.std.proofs.Common.{◌≡◌, ℕ, Bool, true, false, ◌||◌, List, [], ◌∷◌, ◌++◌, refl, ap, ◌∙◌}
use Rattle.std.specs.List.{list_any}
use Rattle.std.proofs.lemmas.List.Folds.{list_any-append}
use Rattle.zi_elements.specs.declared.element.Node.{Node}
use Rattle.zi_elements.specs.Forest.{Forest, joined, node_view, nodes_view}
use Rattle.zi_docout.specs.Amiss.{is_amiss_text, texts}
use Rattle.zi_docout.proofs.ForestLemmas.{texts_joined}
use Rattle.std.proofs.Math.Bool.{or-false}
use Rattle.zi_doc_laws.proofs.FineLaws.{nodes_append}

abbrev pub HasAmiss : ℕ → Forest → Bool
HasAmiss n f = list_any (is_amiss_text n) (texts f)

among : (n : ℕ) (xs : List Node) (x : Node) (ys : List Node) → HasAmiss n (nodes_view (xs ++ x ∷ ys)) ≡ (HasAmiss n (nodes_view xs) || (HasAmiss n (node_view x) || HasAmiss n (nodes_view ys)))
among n xs x ys =
    ap (HasAmiss n) (nodes_append xs (x ∷ ys))
    ∙ (ap (list_any (is_amiss_text n)) (texts_joined (nodes_view xs) (joined (node_view x) (nodes_view ys)))
    ∙ (list_any-append (is_amiss_text n) (texts (nodes_view xs)) (texts (joined (node_view x) (nodes_view ys)))
    ∙ ap (λ b. HasAmiss n (nodes_view xs) || b)
    (ap (list_any (is_amiss_text n)) (texts_joined (node_view x) (nodes_view ys)) ∙ list_any-append (is_amiss_text n) (texts (node_view x)) (texts (nodes_view ys)))))

or_second : (a b c : Bool) → b ≡ true → (a || (b || c)) ≡ true
or_second true b c h = refl
or_second false b c h = ap (λ v. v || c) h

or_both : (a b : Bool) → a ≡ false → b ≡ false → (a || (b || false)) ≡ false
or_both true b h k = cc
or_both false b h k = or-false b ∙ k

-- a child that is amiss
pub amiss_found : (n : ℕ) (all xs : List Node) (x : Node) (ys : List Node) → all ≡ xs ++ x ∷ ys → HasAmiss n (node_view x) ≡ true → HasAmiss n (nodes_view all) ≡ true
amiss_found n all xs x ys e h = ap (λ v. HasAmiss n (nodes_view v)) e ∙ (among n xs x ys ∙ or_second (HasAmiss n (nodes_view xs)) _ _ h)

-- a child more that isn't
pub amiss_not_found : (n : ℕ) (all xs : List Node) (x : Node) → all ≡ xs ++ x ∷ [] → HasAmiss n (nodes_view xs) ≡ false → HasAmiss n (node_view x) ≡ false → HasAmiss n (nodes_view all) ≡ false
amiss_not_found n all xs x e h k = ap (λ v. HasAmiss n (nodes_view v)) e ∙ (among n xs x [] ∙ or_both _ _ h k)
