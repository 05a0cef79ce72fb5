-- What a document says is a tree of which all holds that a tree keeps.
use Rattle.std.proofs.Common.{◌≡◌, ℕ, true, false, List, [], ◌++◌, sym, ap, ◌∙◌, subst, arith, append-nil}
use Rattle.std.specs.Prelude.{codes, encode_utf8_all}
use Rattle.zi_elements.specs.declared.element.Element.{Element}
use Rattle.zi_elements.specs.Forest.{Forest, none, joined, nodes_view, whole}
use Rattle.zi_names.specs.Names.{first_scope}
use Rattle.zi_xml.specs.Syntax.{stop, void, pair, Root, alone, whole as of_content, doctype, root_text, IsRoot, Document, IsDocument, document_text, mark_text, declared_text, miscs_text}
use Rattle.zi_xml.specs.Meaning.{Level, doctype_kind, passed, start, declared_told, root_told, document_told}
use Rattle.zi_xml.specs.Documents.{SaysChars, Spells}
use Rattle.zi_elements.specs.Places.{places, AreRising}
use Rattle.zi_doc_laws.proofs.CarriedLaws.{none_carried}
use Rattle.zi_doc_laws.proofs.PastLaws.{Past, past_both, past_passed, past_declared, not_blamed}
use Rattle.zi_doc_laws.proofs.FineLaws.{child_alone, joined_none, Fine, fine_none, RisesFrom, rising, Good, goes_on, good_start}
use Rattle.zi_doc_laws.proofs.TagLaws.{Stands, stand_all, stand_front, stand_behind}
use Rattle.zi_doc_laws.proofs.KeepLaws.{kept}

-- the root
root_kept : (w : List ℕ) (t : Root) (l : Level) → IsRoot t → Stands w l.at (root_text t) → (root_told t l).found ≡ [] → Good w 0 0 l → Good w 0 0 (root_told t l)
root_kept w (alone n ws e) l h s clean g = kept w 0 0 0 first_scope (void n ws e stop) l h s clean g
root_kept w (of_content n ws e i f) l h s clean g = kept w 0 0 0 first_scope (pair n ws e i f stop) l h s clean g
root_kept w doctype l h s clean g = absurd (true_false (not_blamed true doctype_kind l.at (passed (codes "<!DOCTYPE") l) clean).0)
  where
    true_false : true ≡ false → ⊥
    true_false e = cc

-- Before the root nothing stands.
document_kept : (w : List ℕ) (d : Document) → IsDocument d → Stands w 0 (document_text d) → (document_told d).found ≡ [] → Good w 0 0 (document_told d)
document_kept w d h s clean =
    let m : List ℕ = mark_text d.mark in
    let x : List ℕ = declared_text d.declaration in
    let f : List ℕ = miscs_text d.front in
    let t : List ℕ = miscs_text d.tail in
    let r : List ℕ = root_text d.root in
    let a : Level = passed m start in
    let b : Level = declared_told d.declaration a in
    let c : Level = passed f b in
    let e : Level = root_told d.root c in
    let o : Level = passed t e in
    let before : Past (m ++ (x ++ f)) start c = past_both m (x ++ f) start a c (past_passed m start) (past_both x f a b c (past_declared d.declaration a) (past_passed f b)) in
    let to_b : Stands w a.at (x ++ (f ++ (r ++ t))) = stand_behind w 0 a.at m (x ++ (f ++ (r ++ t))) (past_passed m start).at s in
    let to_c : Stands w b.at (f ++ (r ++ t)) = stand_behind w a.at b.at x (f ++ (r ++ t)) (past_declared d.declaration a).at to_b in
    let root : Stands w c.at (r ++ t) = stand_behind w b.at c.at f (r ++ t) (past_passed f b).at to_c in
    let behind : Past t e o = past_passed t e in
    let opened : Good w 0 0 c = good_start w 0 0 c before.before (omega arith) (before.letters none_carried) in
    let closed : Good w 0 0 e = root_kept w d.root c h.root (stand_front w c.at r t root) (behind.clean clean) opened in
    goes_on w 0 0 t e o behind closed

-- What a tree keeps that bytes spell.
pub record IsKept (w : List ℕ) (t : Element) : Type 0 where
  pub fine : Fine w 0 (whole t)
  pub order : AreRising (places (whole t))

pub spelled : (w : List ℕ) (t : Element) → Spells w t → IsKept w t
spelled w t h =
    let r : Level = h.0 in
    let says = h.1 in
    let chars : SaysChars says.0 r = says.2 in
    let d : Document = chars.document in
    let stands : Stands w 0 (document_text d) = stand_all w (document_text d) (says.1 ∙ ap encode_utf8_all chars.written) in
    let clean : (document_told d).found ≡ [] = ap (λ (v : Level). v.found) (sym chars.told) ∙ h.2 in
    let good : Good w 0 0 (document_told d) = document_kept w d chars.right stands clean in
    let root : nodes_view (document_told d).before ≡ whole t = ap (λ (v : Level). nodes_view v.before) (sym chars.told) ∙ (ap nodes_view h.3 ∙ child_alone t) in
    let fine : Fine w 0 (joined (nodes_view (document_told d).before) none) = good.nodes.fine none (fine_none w 0 (omega arith)) in
    let rises : RisesFrom 0 (places (nodes_view (document_told d).before) ++ []) = good.nodes.order [] tt in
    let P : Forest → Type 0 = λ v. Fine w 0 v in
    let Q : List ℕ → Type 0 = λ v. RisesFrom 0 v in
    record {
      fine = subst P (joined_none (nodes_view (document_told d).before) ∙ root) fine;
      order = rising 0 (places (whole t)) (subst Q (append-nil (places (nodes_view (document_told d).before)) ∙ ap places root) rises);
    }
