-- What was loaded is whole.
use Rattle.std.proofs.Common.{◌≡◌, zero, suc, ◌<◌, Bool, List, [], ◌∷◌, ◌++◌, length, map, All, Option, refl, sym, ap, subst, ◌∙◌, arith}
use Rattle.std.specs.List.{AllZip, flat_map}
use Rattle.std.proofs.lemmas.List.Elements.{All-nil, All-cons}
use Rattle.std.proofs.lemmas.List.{length-map}
use Rattle.zi_policy.specs.declared.types.Policy.{Policy}
use Rattle.zi_policy.specs.Platform.{listed}
use Rattle.zi_digest.specs.declared.DigestName.{DigestName}
use Rattle.zi_digest.specs.Name.{spelling}
use Rattle.zi_outside.specs.Views.{Holding}
use Rattle.zi_packages.specs.declared.types.Packages.{Packages}
use Rattle.zi_universe.specs.declared.types.Requirement.{Requirement}
use Rattle.zi_universe.specs.declared.types.Interface.{Interface}
use Rattle.zi_universe.specs.Naming.{Uri, Uris, in_set, without_repeats, all_of, AreApart}
use Rattle.zi_universe.specs.Candidates.{Store, AreRanked, asked_by}
use Rattle.zi_universe.specs.Whole.{uris_of, BeginsWith, IsWhole}
use Rattle.zi_universe.specs.Loading.{Reading, IsInterface, Loads, Task, names_of}
use Rattle.zi_universe.proofs.NamingLemmas.{joined_behind, without_repeats_apart, listed-joined, listed-cons, Contains-listed, listed-Contains, listed-without_repeats}

-- a list of names begins with the first
begins_named : (root : Uri) (ys : Uris) → (zs : Uris) × (without_repeats (root ∷ ys) ≡ root ∷ zs)
begins_named root ys = let b = joined_behind (root ∷ []) ys in (b.0, b.1)

begins_at : (is : List Interface) (root : Uri) (zs : Uris) → uris_of is ≡ root ∷ zs → BeginsWith is root
begins_at [] root zs e = absurd (let k : zero ≡ suc (length zs) = ap length e in omega (arith, k))
begins_at (i ∷ is) root zs e = cc

each_ranked : (at : Reading) (req : Requirement) (p : Policy) (stored : Store) (groups : List Uris) (is : List Interface)
    → AllZip (IsInterface at req p stored) groups is → All (λ i. AreRanked p i.candidates) is
each_ranked at req p stored [] [] z = All-nil (λ i. AreRanked p i.candidates)
each_ranked at req p stored [] (i ∷ is) z = absurd z
each_ranked at req p stored (g ∷ groups) [] z = absurd z
each_ranked at req p stored (g ∷ groups) (i ∷ is) z =
    All-cons (λ i. AreRanked p i.candidates) i is z.0.candidates.ranked (each_ranked at req p stored groups is z.1)

all_of-map : (is : List Interface) → all_of (map asked_by is) ≡ flat_map asked_by is
all_of-map [] = refl
all_of-map (i ∷ is) = ap (λ q. asked_by i ++ q) (all_of-map is)

rooted_by : (is : List Interface) (root : Uri) → BeginsWith is root → 0 < length is
rooted_by [] root b = absurd b
rooted_by (i ∷ is) root b = omega arith

module _ (told : Option Holding) (req : Requirement) (p : Policy) (stored : Store) (is : List Interface) (l : Loads told req p stored is) where
  names : uris_of is ≡ without_repeats (req.interface ∷ all_of (map asked_by is))
  names = l.universe.named.are

  pub begins : BeginsWith is req.interface
  begins = let b = begins_named req.interface (all_of (map asked_by is)) in begins_at is req.interface b.0 (names ∙ b.1)

  pub whole : IsWhole is
  whole = record {
    rooted = rooted_by is req.interface begins;
    apart = subst AreApart (sym names) (without_repeats_apart (req.interface ∷ all_of (map asked_by is)));
    few_interfaces = (let e : length (uris_of is) ≡ length is = length-map is (λ (i : Interface). i.uri) in omega (arith, e, l.universe.few_interfaces));
    few_candidates = l.universe.few_candidates;
    closed = λ uri c. listed-Contains uri (uris_of is) (ap (listed uri) names ∙ listed-joined uri [] (req.interface ∷ all_of (map asked_by is)) (listed-cons uri req.interface (all_of (map asked_by is)) (ap (listed uri) (all_of-map is) ∙ Contains-listed uri (flat_map asked_by is) c)));
    policy = p;
    ranked = each_ranked l.at req p stored l.groups is l.universe.each;
  }

-- The names of the stored trees, each once, are the same store.
abbrev pub task : Requirement → Policy → Store → Task
task req p stored = record { req = req; policy = p; stored = stored }

abbrev store : (Uri → Bool) → Packages → Store
store trees packages = record { trees = trees; packages = packages }

same_trees : (keys : Uris) (digests : List DigestName) → keys ≡ without_repeats (map spelling digests) → in_set keys ≡ (λ t. listed t (map spelling digests))
same_trees keys digests e = λ i t. (ap (listed t) e ∙ listed-without_repeats t (map spelling digests)) i

pub same_task : (req : Requirement) (p : Policy) (keys : Uris) (digests : List DigestName) (rows packages : Packages) → keys ≡ without_repeats (map spelling digests) → rows ≡ packages
    → task req p (record { trees = in_set keys; packages = rows }) ≡ task req p (names_of digests packages)
same_task req p keys digests rows packages e f = ap (λ t. task req p (store t rows)) (same_trees keys digests e) ∙ ap (λ q. task req p (names_of digests q)) f
