-- The places of the elements of a document rise, so those of the implementations of its feed do.
use Rattle.std.proofs.Common.{◌≡◌, ℕ, List, None, subst, append-nil}
use Rattle.zi_elements.specs.declared.element.Element.{Element}
use Rattle.zi_elements.specs.Forest.{Forest, element_view, whole}
use Rattle.zi_elements.specs.Places.{places, AreRising}
use Rattle.zi_xml.specs.Documents as documents
use Rattle.zi_doc.specs.Documents.{Spells}
use Rattle.zi_feed.specs.Feeds.{feed_fault, feed_of}
use Rattle.zi_feed.specs.Places.{impl_places, StandApart, ImplsAreInOrder}

-- what every document keeps
abbrev pub HaveOrder : Type 0
HaveOrder = (w : List ℕ) (t : Element) → documents.Spells w t → AreRising (places (whole t))

inner_rise : HaveOrder → (w : List ℕ) (t : Element) → Spells w t → AreRising (places (element_view t).inside)
inner_rise order w t h =
    let f : Forest = (element_view t).inside in
    subst AreRising (append-nil (places f)) (order w t h.1).1

pub rise : HaveOrder → ImplsAreInOrder → (w : List ℕ) (t : Element) (uri : List ℕ) → Spells w t → feed_fault (element_view t) uri ≡ None → AreRising (impl_places (feed_of (element_view t) uri).impls)
rise order impls w t uri h right = (impls (element_view t) uri right).rising (inner_rise order w t h)

pub apart : HaveOrder → ImplsAreInOrder → (w : List ℕ) (t : Element) (uri : List ℕ) → Spells w t → feed_fault (element_view t) uri ≡ None → StandApart (feed_of (element_view t) uri).impls
apart order impls w t uri h right = (impls (element_view t) uri right).apart (inner_rise order w t h)
