-- Where the implementations of a feed stand.
use Rattle.std.specs.Prelude.{ℕ, ◌≡◌, List, map, Some, None}
use Rattle.std.specs.List.{slice_get}
use Rattle.zi_elements.specs.Forest.{Elem}
use Rattle.zi_elements.specs.Places.{places, AreRising}
use Rattle.zi_faults.specs.Sites.{Site}
use Rattle.zi_faults.specs.Faults.{implementations}
use Rattle.zi_feed.specs.Feeds.{feed_fault, feed_of, feed_sites}
use Rattle.zi_parts.specs.declared.types.Impl.{Impl}

abbrev pub impl_places : List Impl → List ℕ
impl_places = map (λ i. i.place)

abbrev pub site_places : List Site → List ℕ
site_places = map (λ t. t.element.place)

-- no two of them have one place
abbrev pub StandApart : List Impl → Type 0
StandApart impls = (i k : ℕ) (c d : Impl) → slice_get impls i ≡ Some c → slice_get impls k ≡ Some d → c.place ≡ d.place → i ≡ k

-- What holds where a tree has no fault at an address. The implementations stand where the elements do that count, one for
-- each, in document order. So their places rise where those of the tree's elements do, and no two have one place.
pub record AreInOrder (root : Elem) (uri : List ℕ) : Type 0 where
  pub all : impl_places (feed_of root uri).impls ≡ site_places (implementations (feed_sites uri root))
  pub rising : AreRising (places root.inside) → AreRising (impl_places (feed_of root uri).impls)
  pub apart : AreRising (places root.inside) → StandApart (feed_of root uri).impls

abbrev pub ImplsAreInOrder : Type 0
ImplsAreInOrder = (root : Elem) (uri : List ℕ) → feed_fault root uri ≡ None → AreInOrder root uri
