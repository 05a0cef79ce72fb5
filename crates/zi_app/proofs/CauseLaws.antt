-- Bytes have one fault or say one feed.
use Rattle.std.proofs.Common.{◌≡◌, ℕ, ◌⊎◌, inl, inr, List, refl, sym, ap, subst, ◌∙◌, Option, Some, None}
use Rattle.zi_elements.specs.declared.element.Element.{Element}
use Rattle.zi_doc.specs.Documents as documents
use Rattle.zi_doc.specs.Laws.{IsSettled}
use Rattle.zi_elements.specs.Forest.{element_view}
use Rattle.zi_feed.specs.Feeds.{feed_fault, feed_of}
use Rattle.zi_faults.specs.declared.fault.Fault.{Fault}
use Rattle.zi_faults.specs.declared.fault.FeedKind.{FeedKind}
use Rattle.zi_feed.specs.declared.feed.Feed.{Feed}
use Rattle.zi_feed.specs.IdLaws.{AreDistinct, ids_distinct}
use Rattle.zi_universe.specs.declared.fault.BadFeed.{BadFeed}
use Rattle.zi_universe.specs.declared.fault.BadFeed.TheVariants as bad
use Rattle.zi_universe.specs.Loading.{Says, HasFault}
use Rattle.zi_app.specs.Laws.{HasOneCause}

some_same : {f g : Fault} → Some f ≡ Some g → f ≡ g
some_same e = cc

no_fault : {f : Fault} → None ≡ Some f → ⊥
no_fault e = cc

fault_or_feed : (root bytes : List ℕ) (tree : Element) (o : Option Fault) → documents.Spells bytes tree → feed_fault (element_view tree) root ≡ o
    → ((fault : BadFeed) × HasFault root bytes fault) ⊎ ((feed : Feed) × Says root bytes feed)
fault_or_feed root bytes tree None spells e = inr (feed_of (element_view tree) root, (tree, spells, e, refl))
fault_or_feed root bytes tree (Some f) spells e = inl (bad.Feed f.kind f.place, (tree, spells, e))

some_cause : (root bytes : List ℕ) → IsSettled bytes → ((fault : BadFeed) × HasFault root bytes fault) ⊎ ((feed : Feed) × Says root bytes feed)
some_cause root bytes settled = elim settled.some [
  | inl p ↦ fault_or_feed root bytes p.0 (feed_fault (element_view p.0) root) p.1 refl
  | inr q ↦ inl (bad.Doc q.0 q.1, q.2)
]

same_feed_fault : (k l : FeedKind) (p q : ℕ) (f g : Fault) → f ≡ record { kind = k; place = p } → g ≡ record { kind = l; place = q } → Some f ≡ Some g → bad.Feed k p ≡ bad.Feed l q
same_feed_fault k l p q f g at_f at_g e =
    let same : f ≡ g = some_same e in
    let kinds : k ≡ l = sym (ap (λ (x : Fault). x.kind) at_f) ∙ ap (λ (x : Fault). x.kind) same ∙ ap (λ (x : Fault). x.kind) at_g in
    let places : p ≡ q = sym (ap (λ (x : Fault). x.place) at_f) ∙ ap (λ (x : Fault). x.place) same ∙ ap (λ (x : Fault). x.place) at_g in
    both kinds places
  where
    both : {k l : FeedKind} {p q : ℕ} → k ≡ l → p ≡ q → bad.Feed k p ≡ bad.Feed l q
    both e f = cc

one_fault : (root bytes : List ℕ) → IsSettled bytes → (a b : BadFeed) → HasFault root bytes a → HasFault root bytes b → a ≡ b
one_fault root bytes settled (bad.Doc j p) (bad.Doc k q) x y = let e : (j ≡ k) × (p ≡ q) = settled.fault j k p q x y in (cc)
one_fault root bytes settled (bad.Doc j p) (bad.Feed k q) x (tree, spells, f) = absurd (settled.apart tree j p spells x)
one_fault root bytes settled (bad.Feed j p) (bad.Doc k q) (tree, spells, f) y = absurd (settled.apart tree k q spells y)
one_fault root bytes settled (bad.Feed j p) (bad.Feed k q) (tree, spells, f) (more, spelled, g) =
    let e : tree ≡ more = settled.tree tree more spells spelled in
    let same : feed_fault (element_view tree) root ≡ feed_fault (element_view more) root = ap (λ t. feed_fault (element_view t) root) e in
    same_feed_fault j k p q _ _ refl refl (sym f ∙ same ∙ g)

one_feed : (root bytes : List ℕ) → IsSettled bytes → (f g : Feed) → Says root bytes f → Says root bytes g → f ≡ g
one_feed root bytes settled f g (tree, spells, right, says) (more, spelled, also_right, also_says) =
    let e : tree ≡ more = settled.tree tree more spells spelled in
    says ∙ ap (λ t. feed_of (element_view t) root) e ∙ sym also_says

never_both : (root bytes : List ℕ) → IsSettled bytes → (a : BadFeed) (f : Feed) → HasFault root bytes a → Says root bytes f → ⊥
never_both root bytes settled (bad.Doc j p) f x (tree, spells, right, says) = settled.apart tree j p spells x
never_both root bytes settled (bad.Feed j p) f (more, spelled, e) (tree, spells, right, says) =
    let same : tree ≡ more = settled.tree tree more spells spelled in
    no_fault (sym right ∙ ap (λ t. feed_fault (element_view t) root) same ∙ e)

pub one_cause : (root bytes : List ℕ) → IsSettled bytes → HasOneCause root bytes
one_cause root bytes settled = record {
  some = some_cause root bytes settled;
  fault = one_fault root bytes settled;
  feed = one_feed root bytes settled;
  apart = never_both root bytes settled;
}

-- each id of a feed stands once
pub ids_apart : (uri bytes : List ℕ) (feed : Feed) → Says uri bytes feed → AreDistinct feed.impls
ids_apart uri bytes feed (t, spells, right, is) = subst (λ (f : Feed). AreDistinct f.impls) (sym is) (ids_distinct (element_view t) uri right)
