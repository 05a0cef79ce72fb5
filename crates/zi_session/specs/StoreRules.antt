-- The rules of the store: what its names are, and what stands under them.
use Rattle.std.specs.Prelude.{◌≡◌, true, None}
use Rattle.zi_digest.specs.declared.DigestName.{DigestName}
use Rattle.zi_digest.specs.Name.{spelling, algorithm_of, IsDigest}
use Rattle.zi_tree.specs.Dir.{Dir}
use Rattle.zi_tree.specs.Order.{is_tree}
use Rattle.zi_tree.specs.Paths.{items, node_in}
use Rattle.zi_manifest.specs.Manifest.{own_name, digest_of, HasManifest}
use Rattle.zi_shelf.specs.Names.{Name}
use Rattle.zi_shelf.specs.Filling.{Work, trees}
use Rattle.zi_session.specs.Machine.{Rules}
use Rattle.zi_session.specs.Phases.{tmp_name}
use Rattle.zi_session.specs.StoreWorks.{store_works}

-- the text of a digest name
abbrev pub IsDigestName : Name → Type 0
IsDigestName n = (d : DigestName) × IsDigest d × (spelling d ≡ n)

-- the tree as read has a manifest, and its digest, by the algorithm of the name with this text, is that name
abbrev pub IsNamed : Dir → Name → Type 0
IsNamed tree n = (d : DigestName) × (spelling d ≡ n) × HasManifest tree × (digest_of (algorithm_of d) tree ≡ d)

-- A tree may be added under a name that is its own: its names are names, in order, and it has no entry `.manifest` at the top.
abbrev pub MayBegin : Dir → Name → Type 0
MayBegin tree n = (is_tree tree ≡ true) × (node_in own_name (items tree) ≡ None) × IsNamed tree n

abbrev pub rules : Rules Dir Work
rules = record {
  trees = trees;
  is_digest = IsDigestName;
  is_named = IsNamed;
  begins = MayBegin;
  tmp = tmp_name;
  tries = 10000;
  works = store_works;
}
