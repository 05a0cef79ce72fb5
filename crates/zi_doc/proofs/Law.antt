-- Each input has one answer, and the reader's is that.
use Rattle.std.proofs.Common.{◌≡◌, ℕ, List, [], ◌∷◌, Bool, true, false, Result, Ok, Err, IfOk, IfErr, ap, sym, ◌∙◌, refl, subst, ◌⊎◌, inl, inr}
use Rattle.std.specs.Prelude.{IsUtf8, encode_utf8_all}
use Rattle.std.specs.Str.{chars, is_utf8}
use Rattle.std.specs.Str.Lossy.{utf8_valid_len}
use Rattle.std.proofs.lemmas.Str.{encodes-chars, scalars-chars, IsUtf8-from_is_utf8, is_utf8-from_IsUtf8}
use Rattle.zi_xml.specs.Unique as unique
use Rattle.zi_elements.specs.declared.element.Element.{Element}
use Rattle.zi_elements.specs.declared.element.Node.{Node}
use Rattle.zi_elements.specs.declared.element.Node.TheVariants.{Child}
use Rattle.zi_xml.specs.Meaning.{Level, Fault, Kind, encoding_kind, doctype_kind, entity_kind, prefix_kind, repeated_kind, depth_kind}
use Rattle.zi_xml.specs.Documents as documents
use Rattle.zi_xml.specs.Documents.{SaysChars, faults_of, end_of}
use Rattle.zi_xml.specs.Machine.{Answer, answer, first_state}
use Rattle.zi_xml.specs.Right.{Right, IsRight, IsOne}
use Rattle.zi_doc.specs.Answers.{Finished, Blamed, Found, EndsAsChild}
use Rattle.zi_doc.specs.Documents.{Spells, Shows, HasFault, FaultMeans, GivesTree, GivesFault}
use Rattle.zi_doc.specs.Laws.{IsSettled}
use Rattle.zi_doc.specs.declared.fault.DocFault.{DocFault}
use Rattle.zi_doc.specs.declared.fault.DocFault.TheVariants as faults
use Rattle.zi_doc.specs.declared.fault.DocKind.{DocKind}
use Rattle.zi_doc.specs.declared.fault.DocKind.TheVariants as kinds
use Rattle.zi_doc.proofs.Roots.{one_root, child_same}

abbrev kind_of : Kind → DocKind
kind_of encoding_kind = kinds.Encoding
kind_of doctype_kind = kinds.Doctype
kind_of entity_kind = kinds.Entity
kind_of prefix_kind = kinds.Prefix
kind_of repeated_kind = kinds.Repeated
kind_of depth_kind = kinds.Depth

module _ (right : IsRight) where
  right_at : (w : List ℕ) (a : Answer) → IsUtf8 w → answer first_state (chars w) ≡ a → Right (chars w) a
  right_at w a u h = let P : Answer → Type 0 = λ v. Right (chars w) v in subst P h (right (chars w) (scalars-chars w u))

  says_at : (w : List ℕ) (r : Level) → IsUtf8 w → SaysChars (chars w) r → documents.Says w r
  says_at w r u s = (chars w, sym (encodes-chars w u), s)

  shows_at : (w : List ℕ) (f : Fault) → IsUtf8 w → answer first_state (chars w) ≡ inr (inl f) → documents.Shows w f
  shows_at w f u h = let P : List ℕ → Type 0 = λ v. documents.Shows v f in subst P (encodes-chars w u) (right_at w (inr (inl f)) u h)

  stops_at : (w : List ℕ) (k : ℕ) → IsUtf8 w → answer first_state (chars w) ≡ inr (inr k) → documents.Stops w k
  stops_at w k u h = let P : List ℕ → Type 0 = λ v. documents.Stops v k in subst P (encodes-chars w u) (right_at w (inr (inr k)) u h)

  pub ends_as_child : (w : List ℕ) → IsUtf8 w → EndsAsChild (answer first_state (chars w))
  ends_as_child w u l h = let x = right_at w (inl l) u h in one_root (chars w) l x.0 x.1

  pub found : (w : List ℕ) (x : Result Element DocFault) → IsUtf8 w → Finished (answer first_state (chars w)) x → IfOk x (λ e. Spells w e)
  found w (Ok e) u h = let x = right_at w (inl h.0) u h.1 in (u, (h.0, says_at w h.0 u x.0, x.1, h.2))
  found w (Err e) u h = tt

  shown_at : (w : List ℕ) (k : Kind) (p : ℕ) → IsUtf8 w → Found (answer first_state (chars w)) k p → Shows w k p
  shown_at w k p u h = (u, (h.0, shows_at w h.0 u h.1, h.2, h.3))

  blamed : (w : List ℕ) (k : DocKind) (p : ℕ) → IsUtf8 w → Blamed (answer first_state (chars w)) k p → HasFault w k p
  blamed w kinds.NotUtf8 p u h = absurd h
  blamed w kinds.Encoding p u h = shown_at w encoding_kind p u h
  blamed w kinds.Doctype p u h = shown_at w doctype_kind p u h
  blamed w kinds.Syntax p u h = (u, stops_at w p u h)
  blamed w kinds.Entity p u h = shown_at w entity_kind p u h
  blamed w kinds.Prefix p u h = shown_at w prefix_kind p u h
  blamed w kinds.Repeated p u h = shown_at w repeated_kind p u h
  blamed w kinds.Depth p u h = shown_at w depth_kind p u h

  pub fault : (w : List ℕ) (x : Result Element DocFault) → IsUtf8 w → Finished (answer first_state (chars w)) x → IfErr x (λ e. FaultMeans w e)
  fault w (Ok e) u h = tt
  fault w (Err faults.Memory) u h = tt
  fault w (Err (faults.Bad k p)) u h = blamed w k p u h

  has_shown : (w : List ℕ) (k : Kind) (p : ℕ) → Shows w k p → HasFault w (kind_of k) p
  has_shown w encoding_kind p h = h
  has_shown w doctype_kind p h = h
  has_shown w entity_kind p h = h
  has_shown w prefix_kind p h = h
  has_shown w repeated_kind p h = h
  has_shown w depth_kind p h = h

  some_of : (w : List ℕ) (a : Answer) → IsUtf8 w → answer first_state (chars w) ≡ a → ((t : Element) × Spells w t) ⊎ ((k : DocKind) × (p : ℕ) × HasFault w k p)
  some_of w (inl l) u h =
      let x = right_at w (inl l) u h in
      let y = one_root (chars w) l x.0 x.1 in inl (y.0, (u, (l, says_at w l u x.0, x.1, y.1)))
  some_of w (inr (inl f)) u h = inr (kind_of f.kind, f.place, has_shown w f.kind f.place (u, (f, shows_at w f u h, refl, refl)))
  some_of w (inr (inr k)) u h = inr (kinds.Syntax, k, (u, stops_at w k u h))

-- what a fault is, by its case
abbrev Case : List ℕ → DocKind → ℕ → Type 0
Case w k p =
    ((¬ IsUtf8 w) × (p ≡ utf8_valid_len w) × (k ≡ kinds.NotUtf8))
    ⊎ ((IsUtf8 w × documents.Stops w p × (k ≡ kinds.Syntax)) ⊎ (IsUtf8 w × ((f : Fault) × documents.Shows w f × (f.place ≡ p) × (k ≡ kind_of f.kind))))

case_of : (w : List ℕ) (k : DocKind) (p : ℕ) → HasFault w k p → Case w k p
case_of w kinds.NotUtf8 p h = inl (h.0, h.1, refl)
case_of w kinds.Encoding p h = inr (inr (h.0, (h.1.0, h.1.1, h.1.3, ap kind_of (sym h.1.2))))
case_of w kinds.Doctype p h = inr (inr (h.0, (h.1.0, h.1.1, h.1.3, ap kind_of (sym h.1.2))))
case_of w kinds.Syntax p h = inr (inl (h.0, h.1, refl))
case_of w kinds.Entity p h = inr (inr (h.0, (h.1.0, h.1.1, h.1.3, ap kind_of (sym h.1.2))))
case_of w kinds.Prefix p h = inr (inr (h.0, (h.1.0, h.1.1, h.1.3, ap kind_of (sym h.1.2))))
case_of w kinds.Repeated p h = inr (inr (h.0, (h.1.0, h.1.1, h.1.3, ap kind_of (sym h.1.2))))
case_of w kinds.Depth p h = inr (inr (h.0, (h.1.0, h.1.1, h.1.3, ap kind_of (sym h.1.2))))

both : (w : List ℕ) (j k : DocKind) (p q : ℕ) → Case w j p → Case w k q → (j ≡ k) × (p ≡ q)
both w j k p q (inl (a, b, c)) (inl (d, e, f)) = (c ∙ sym f, b ∙ sym e)
both w j k p q (inl (a, b, c)) (inr (inl (u, s, e))) = absurd (a u)
both w j k p q (inl (a, b, c)) (inr (inr (u, x))) = absurd (a u)
both w j k p q (inr (inl (u, s, e))) (inl (a, b, c)) = absurd (a u)
both w j k p q (inr (inr (u, x))) (inl (a, b, c)) = absurd (a u)
both w j k p q (inr (inl (u, s, e))) (inr (inl (v, t, f))) = (e ∙ sym f, unique.one_stop Level Fault faults_of end_of documents.Says w p q s t)
both w j k p q (inr (inl (u, s, e))) (inr (inr (v, (f, x, y, z)))) = absurd (unique.shows_not_stops Level Fault faults_of end_of documents.Says w f p x s)
both w j k p q (inr (inr (v, (f, x, y, z)))) (inr (inl (u, s, e))) = absurd (unique.shows_not_stops Level Fault faults_of end_of documents.Says w f q x s)
both w j k p q (inr (inr (u, (f, x, y, z)))) (inr (inr (v, (g, s, t, e)))) =
    let same : f ≡ g = unique.one_shown Level Fault faults_of end_of documents.Says w f g x s in
    (z ∙ (ap (λ n. kind_of n.kind) same ∙ sym e), sym y ∙ (ap (λ n. n.place) same ∙ t))

apart : (w : List ℕ) (t : Element) (k : DocKind) (p : ℕ) → Spells w t → Case w k p → ⊥
apart w t k p (u, s) (inl (a, b, c)) = a u
apart w t k p (u, (r, says, clean, root)) (inr (inl (v, s, e))) = unique.spells_not_stops Level Fault faults_of end_of documents.Says w r p says s
apart w t k p (u, (r, says, clean, root)) (inr (inr (v, (f, x, y, z)))) = unique.spells_not_shows Level Fault faults_of end_of documents.Says w r f says clean x

pub utf8_or_not : (w : List ℕ) → IsUtf8 w ⊎ (¬ IsUtf8 w)
utf8_or_not w = cases (is_utf8 w) refl
  where
    cases : (b : Bool) → is_utf8 w ≡ b → IsUtf8 w ⊎ (¬ IsUtf8 w)
    cases true e = inl (IsUtf8-from_is_utf8 w e)
    cases false e = inr (λ u. let z : false ≡ true = sym e ∙ is_utf8-from_IsUtf8 w u in cc)

one_node : (x y : Node) → x ∷ [] ≡ y ∷ [] → x ≡ y
one_node x y h = cc

pub settled_law : IsRight → IsOne → (w : List ℕ) → IsUtf8 w ⊎ (¬ IsUtf8 w) → IsSettled w
settled_law right one w utf8 = record {
  some = elim utf8 [ inl u ↦ some_of right w (answer first_state (chars w)) u refl | inr n ↦ inr (kinds.NotUtf8, utf8_valid_len w, (n, refl)) ];
  tree = λ t u a b. child_same t u (one_node (Child t) (Child u) (sym a.1.3 ∙ (ap (λ l. l.before) (one w a.1.0 b.1.0 a.1.1 b.1.1) ∙ b.1.3)));
  fault = λ j k p q a b. both w j k p q (case_of w j p a) (case_of w k q b);
  apart = λ t k p a b. apart w t k p a (case_of w k p b);
}

-- from what holds of an answer to what is answered
pub only : (w : List ℕ) (x : Result Element DocFault) → IsSettled w → IfOk x (λ e. Spells w e) → IfErr x (λ e. FaultMeans w e) → (t : Element) → Spells w t → GivesTree x t
only w (Ok e) s f g t h = s.tree e t f h
only w (Err faults.Memory) s f g t h = tt
only w (Err (faults.Bad k p)) s f g t h = s.apart t k p h g

pub faulty : (w : List ℕ) (x : Result Element DocFault) → IsSettled w → IfOk x (λ e. Spells w e) → IfErr x (λ e. FaultMeans w e) → (k : DocKind) (p : ℕ) → HasFault w k p → GivesFault x k p
faulty w (Ok e) s f g k p h = s.apart e k p f h
faulty w (Err faults.Memory) s f g k p h = tt
faulty w (Err (faults.Bad j q)) s f g k p h = s.fault j k q p g h
