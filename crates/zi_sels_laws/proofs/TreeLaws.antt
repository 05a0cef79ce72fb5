-- Selections of packages have neither a folder nor digests, whether they were read or chosen.
use Rattle.std.proofs.Common.{◌≡◌, ℕ, List, [], Option, Some, None, sym, subst}
use Rattle.std.specs.Prelude.{IfSome}
use Rattle.zi_digest.specs.declared.DigestName.{DigestName}
use Rattle.zi_elements.specs.Forest.{element_view}
use Rattle.zi_policy.specs.declared.types.Policy.{Policy}
use Rattle.zi_outside.specs.Views.{Holding}
use Rattle.zi_universe.specs.declared.types.Requirement.{Requirement}
use Rattle.zi_universe.specs.declared.types.Interface.{Interface}
use Rattle.zi_universe.specs.Candidates.{Store}
use Rattle.zi_universe.specs.Loading.{Loads}
use Rattle.zi_choice.specs.Choice.{Choice}
use Rattle.zi_choice.specs.Valid.{IsValid}
use Rattle.zi_sels.specs.declared.types.Selection.{Selection}
use Rattle.zi_sels.specs.declared.types.Selections.{Selections}
use Rattle.zi_sels.specs.Chosen.{selection_by, selected, AreSelected}
use Rattle.zi_sels.specs.Reading.{Says}
use Rattle.zi_sels_laws.specs.Trees.{HasNoTree, PackagesHaveNoTrees}
use Rattle.zi_sels_laws.proofs.ItemLaws.{HasPath, HasDigests, IsProperItem}
use Rattle.zi_sels_laws.proofs.AskedLaws.{IsMetWhole}
use Rattle.zi_sels_laws.proofs.RootLaws.{interfaces_of, IsProper}
use Rattle.zi_sels_laws.proofs.FreeLaws.{each_weak}
use Rattle.zi_sels_laws.proofs.EachLaws.{each_all, each_permuted}
use Rattle.zi_sels_laws.proofs.LoadedLaws.{loaded_given}
use Rattle.zi_sels_laws.proofs.ReadBackLaws.{said_proper}
use Rattle.zi_sels_laws.proofs.ChosenLaws.{chosen_given}
use Rattle.zi_sels_laws.proofs.SelectedLaws.{each_selected}
use Rattle.zi_sels_laws.proofs.FeedLaws.{IsGiven, package_of}
use Rattle.zi_universe.specs.declared.types.Candidate.{Candidate}
use Rattle.zi_choice.specs.Walk.{Walk}

item_no_tree : (x : Selection) → IsProperItem x → HasNoTree x
item_no_tree x h = by x.«package» x.local x.digests h.local h.digests
  where
    by : (o l : Option (List ℕ)) (ds : List DigestName) → HasPath o l → HasDigests o x.id ds → IfSome o (λ name. (l ≡ None) × (ds ≡ []))
    by None l ds p d = tt
    by (Some name) l ds p d = (p, d)

proper_no_trees : (s : Selections) → IsProper s → PackagesHaveNoTrees s
proper_no_trees s h = each_all HasNoTree s.items (each_weak (IsMetWhole (interfaces_of s)) HasNoTree (λ x k. item_no_tree x k.0) s.items h.items)

pub read_no_trees : (bytes : List ℕ) (s : Selections) → Says bytes s → PackagesHaveNoTrees s
read_no_trees bytes s h = proper_no_trees s (subst IsProper (sym h.means) (said_proper (element_view h.tree) h.right))

made_no_tree : (u : List Interface) (s : Choice) (w : Walk) (i : ℕ) (uri : List ℕ) (k : Candidate) → IsGiven k.imp → HasNoTree (selection_by u s w i uri k)
unfolding selection_by
made_no_tree u s w i uri k h = by (package_of k.imp) k.imp.local k.imp.digests h.local h.digests
  where
    by : (o l : Option (List ℕ)) (ds : List DigestName) → HasPath o l → HasDigests o k.imp.id ds → IfSome o (λ name. (l ≡ None) × (ds ≡ []))
    by None l ds p d = tt
    by (Some name) l ds p d = (p, d)

pub chosen_no_trees : (told : Option Holding) (req : Requirement) (p : Policy) (stored : Store) (u : List Interface) (s : Choice) (sels : Selections) → Loads told req p stored u → IsValid u req s → AreSelected u req s sels → PackagesHaveNoTrees sels
chosen_no_trees told req p stored u s sels loads valid are =
    let w = are.walk in
    let each = each_selected HasNoTree u s w 0 u (λ n j x k q at e. made_no_tree u s w j x.uri k (chosen_given u s j k (loaded_given told req p stored u loads) e)) in
    each_all HasNoTree sels.items (each_permuted HasNoTree (selected u s w) sels.items are.same each)
