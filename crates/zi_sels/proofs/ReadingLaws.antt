-- Bytes say one value or have one fault.
use Rattle.std.proofs.Common.{◌≡◌, ℕ, ◌⊎◌, inl, inr, List, Option, Some, None, Result, Ok, Err, IfOk, IfErr, refl, sym, ap, ◌∙◌}
use Rattle.std.proofs.lemmas.Option.{same_Some}
use Rattle.zi_elements.specs.declared.element.Element.{Element}
use Rattle.zi_elements.specs.Forest.{element_view}
use Rattle.zi_doc.specs.Documents as doc
use Rattle.zi_doc.specs.Laws as docs
use Rattle.zi_doc.specs.declared.fault.DocFault.{DocFault}
use Rattle.zi_doc.specs.declared.fault.DocFault.TheVariants as of
use Rattle.zi_sels.specs.declared.types.Selections.{Selections}
use Rattle.zi_sels.specs.declared.fault.SelsFault.{SelsFault}
use Rattle.zi_sels.specs.declared.fault.SelsFault.TheVariants as fault
use Rattle.zi_sels.specs.Read.{selections_of}
use Rattle.zi_sels.specs.Refused.{tree_fault}
use Rattle.zi_sels.specs.Reading.{Says, HasFault, FaultMeans, Gives, ReadsTree, IsSettled, IsOfDocument}

-- the fault of a document
pub refused : (w : List ℕ) (e : DocFault) (f : SelsFault) → doc.FaultMeans w e → IsOfDocument e f → FaultMeans w f
refused w of.Memory f h is = inl is
refused w (of.Bad k p) f h is = inr (inl (k, p, h, is))

-- the answer of reading the tree that bytes spell
pub read_right : (w : List ℕ) (t : Element) (s : Selections) → doc.Spells w t → ReadsTree (tree_fault (element_view t)) (selections_of (element_view t)) (Ok s) → Says w s
read_right w t s spells r = record { tree = t; spells = spells; right = r.0; means = r.1 }

pub read_wrong : (w : List ℕ) (t : Element) (f : SelsFault) → doc.Spells w t → ReadsTree (tree_fault (element_view t)) (selections_of (element_view t)) (Err f) → FaultMeans w f
read_wrong w t f spells (inl m) = inl m
read_wrong w t f spells (inr is) = inr (inr (t, spells, is))

pub reads_value : (w : List ℕ) (t : Element) (r : Result Selections SelsFault) → doc.Spells w t → ReadsTree (tree_fault (element_view t)) (selections_of (element_view t)) r → IfOk r (λ s. Says w s)
reads_value w t (Ok s) spells h = read_right w t s spells h
reads_value w t (Err f) spells h = tt

pub reads_fault : (w : List ℕ) (t : Element) (r : Result Selections SelsFault) → doc.Spells w t → ReadsTree (tree_fault (element_view t)) (selections_of (element_view t)) r
    → IfErr r (λ f. FaultMeans w f)
reads_fault w t (Ok s) spells h = tt
reads_fault w t (Err f) spells h = read_wrong w t f spells h

same_value : (w : List ℕ) → docs.IsSettled w → (s t : Selections) → Says w s → Says w t → s ≡ t
same_value w one s t a b = a.means ∙ (ap (λ v. selections_of (element_view v)) (one.tree a.tree b.tree a.spells b.spells) ∙ sym b.means)

tree_of : (w : List ℕ) → docs.IsSettled w → (t u : Element) (f g : Option SelsFault) → doc.Spells w t → doc.Spells w u
    → tree_fault (element_view t) ≡ f → tree_fault (element_view u) ≡ g → f ≡ g
tree_of w one t u f g st su p q = sym p ∙ (ap (λ v. tree_fault (element_view v)) (one.tree t u st su) ∙ q)

same_fault : (w : List ℕ) → docs.IsSettled w → (f g : SelsFault) → HasFault w f → HasFault w g → f ≡ g
same_fault w one f g (inl a) (inl b) = let e = one.fault a.0 b.0 a.1 b.1 a.2 b.2 in let p = a.3 in let q = b.3 in p ∙ (ap (λ k. fault.Doc k a.1) e.0 ∙ (ap (λ n. fault.Doc b.0 n) e.1 ∙ sym q))
same_fault w one f g (inl a) (inr b) = absurd (one.apart b.0 a.0 a.1 b.1 a.2)
same_fault w one f g (inr a) (inl b) = absurd (one.apart a.0 b.0 b.1 a.1 b.2)
same_fault w one f g (inr a) (inr b) = same_Some _ _ (tree_of w one a.0 b.0 (Some f) (Some g) a.1 b.1 a.2 b.2)

never_both : (w : List ℕ) → docs.IsSettled w → (s : Selections) (f : SelsFault) → Says w s → HasFault w f → ⊥
never_both w one s f a (inl b) = one.apart a.tree b.0 b.1 a.spells b.2
never_both w one s f a (inr b) = let e : None ≡ Some f = tree_of w one a.tree b.0 None (Some f) a.spells b.1 a.right b.2 in cc

one_of : (w : List ℕ) (t : Element) → doc.Spells w t → (o : Option SelsFault) → tree_fault (element_view t) ≡ o
    → ((s : Selections) × Says w s) ⊎ ((f : SelsFault) × HasFault w f)
one_of w t spells None is = inl (selections_of (element_view t), record { tree = t; spells = spells; right = is; means = refl })
one_of w t spells (Some f) is = inr (f, inr (t, spells, is))

pub settled : (w : List ℕ) → docs.IsSettled w → IsSettled w
settled w one = record {
  some = elim one.some [
    | inl d ↦ one_of w d.0 d.1 (tree_fault (element_view d.0)) refl
    | inr d ↦ inr (fault.Doc d.0 d.1, inl (d.0, d.1, d.2, refl))
  ];
  value = same_value w one;
  fault = same_fault w one;
  apart = never_both w one;
}

-- what is said, and only that, is answered
pub only : (w : List ℕ) (r : Result Selections SelsFault) → IsSettled w → IfOk r (λ s. Says w s) → IfErr r (λ f. FaultMeans w f)
    → (s : Selections) → Says w s → Gives r (Ok s)
only w (Ok s) one found wrong t h = inr (ap (λ v. Ok v) (one.value s t found h))
only w (Err f) one found wrong t h = elim wrong [
  | inl m ↦ inl (ap (λ v. Err v) m)
  | inr b ↦ absurd (one.apart t f h b)
]

pub faulty : (w : List ℕ) (r : Result Selections SelsFault) → IsSettled w → IfOk r (λ s. Says w s) → IfErr r (λ f. FaultMeans w f)
    → (f : SelsFault) → HasFault w f → Gives r (Err f)
faulty w (Ok s) one found wrong g h = absurd (one.apart s g found h)
faulty w (Err f) one found wrong g h = elim wrong [
  | inl m ↦ inl (ap (λ v. Err v) m)
  | inr b ↦ inr (ap (λ v. Err v) (one.fault f g b h))
]
