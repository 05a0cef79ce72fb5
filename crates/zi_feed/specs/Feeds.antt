-- The feed that a tree says, or its fault.
use Rattle.std.specs.Prelude.{ℕ, List, [], ◌++◌, map, Option, Some, None, codes, if◌then◌else◌}
use Rattle.std.specs.List.{filter, filter_map, flat_map}
use Rattle.zi_elements.specs.Forest.{Elem}
use Rattle.zi_reading.specs.Ways.{AsWritten, InFeed}
use Rattle.zi_reading.specs.Reading.{is, is_unclear}
use Rattle.zi_faults.specs.Sites.{Site, sites, here}
use Rattle.zi_feed.specs.Impls.{impl_of, import_of}
use Rattle.zi_feed.specs.Natives.{native_of, packages}
use Rattle.zi_faults.specs.Faults.{fault_at, faults_at, root_faults, same_ids, implementations, least}
use Rattle.zi_feed.specs.declared.feed.Feed.{Feed}
use Rattle.zi_faults.specs.declared.fault.Fault.{Fault}
use Rattle.zi_faults.specs.declared.fault.FeedKind.TheVariants.{NotInterface}

-- every element of the feed at an address that is read; what its root has is inherited by none
abbrev pub feed_sites : List ℕ → Elem → List Site
feed_sites uri root = sites (InFeed uri) root.name root.inside

abbrev pub all_faults : List ℕ → Elem → List Fault
all_faults uri root =
    root_faults uri root ++ (flat_map (faults_at (InFeed uri)) (feed_sites uri root) ++ same_ids (map (λ t. t.element) (feed_sites uri root)))

-- the fault that is answered
unfoldable pub feed_fault : Elem → List ℕ → Option Fault
feed_fault root uri = if is (codes "interface") root then least (all_faults uri root) else Some (fault_at root NotInterface)

-- what the tree says, where it has no fault
unfoldable pub feed_of : Elem → List ℕ → Feed
feed_of root uri = record {
  uri = uri;
  imports = map (λ t. import_of (InFeed uri) t.element) (filter (λ t. is (codes "feed") t.element) (feed_sites uri root));
  impls = filter_map (impl_of (InFeed uri)) (implementations (feed_sites uri root));
  natives = map (native_of (InFeed uri)) (packages (feed_sites uri root));
}

-- the fault of an element of a selections document and all in it
unfoldable pub part_fault : Elem → Option Fault
part_fault e = least (faults_at AsWritten (here e) ++ (if is_unclear e then [] else flat_map (faults_at AsWritten) (sites AsWritten e.name e.inside)))
