-- What a valid choice selects in a universe that was loaded can be written.
use Rattle.std.specs.Prelude.{IfSome, IsSome, IsSomeAnd, bytes_eq}
use Rattle.std.proofs.Common.{◌≡◌, ℕ, Bool, true, false, cond, List, [], ◌∷◌, Option, Some, None, refl, sym, subst}
use Rattle.std.specs.List.{find}
use Rattle.zi_policy.specs.declared.types.Policy.{Policy}
use Rattle.zi_outside.specs.Views.{Holding}
use Rattle.zi_docout.specs.Amiss.{is_carried, first_amiss}
use Rattle.zi_parts.specs.declared.types.Command.{Command}
use Rattle.zi_universe.specs.declared.types.Requirement.{Requirement}
use Rattle.zi_universe.specs.declared.types.Candidate.{Candidate}
use Rattle.zi_universe.specs.declared.types.Interface.{Interface}
use Rattle.zi_universe.specs.Candidates.{Store}
use Rattle.zi_universe.specs.Loading.{Loads}
use Rattle.zi_universe.proofs.NamingLemmas.{bytes_eq-true}
use Rattle.zi_choice.specs.Choice.{Choice, chosen}
use Rattle.zi_choice.specs.Walk.{Walk}
use Rattle.zi_choice.specs.Valid.{Has, IsValid}
use Rattle.zi_choice.proofs.Base.{chosen_from, interface_at}
use Rattle.zi_sels.specs.declared.types.Selections.{Selections}
use Rattle.zi_sels.specs.Chosen.{selected, AreSelected}
use Rattle.zi_sels.specs.Written.{tree}
use Rattle.zi_doc_laws.specs.Trees.{IsCarried}
use Rattle.zi_sels_laws.proofs.LikeLaws.{Each}
use Rattle.zi_sels_laws.proofs.ItemLaws.{IsProperItem}
use Rattle.zi_sels_laws.proofs.EachLaws.{each_permuted, each_at}
use Rattle.zi_sels_laws.proofs.LoadedLaws.{AreGivenIn, loaded_given, AreReadableIn, loaded_readable}
use Rattle.zi_sels_laws.specs.Rows.{HasRightRows}
use Rattle.zi_sels_laws.proofs.SelectedLaws.{each_selected}
use Rattle.zi_sels_laws.proofs.MadeLaws.{made_proper}
use Rattle.zi_written_laws.proofs.TextLaws.{passes_carried, IsCarriedOr}
use Rattle.zi_written_laws.proofs.PartLaws.{IsCarriedCommand}
use Rattle.zi_written_laws.proofs.UniverseLaws.{IsKept, IsCarriedCandidate, IsCarriedInterface, loaded_carried}
use Rattle.zi_written_laws.proofs.MadeLaws.{IsCarriedItem, made_carried}
use Rattle.zi_written_laws.proofs.WrittenLaws.{tree_stands}
use Rattle.zi_sels_laws.proofs.ChosenLaws.{chosen_given, chosen_readable}

-- What is chosen is a candidate of a loaded interface.

chosen_carried : (u : List Interface) (s : Choice) (j : ℕ) (k : Candidate) → Each IsCarriedInterface u → chosen u s j ≡ Some k → IsCarriedCandidate k
chosen_carried u s j k h e =
    let c = chosen_from u s j k e in
    let x = interface_at u j c.0 k c.2 in
    each_at IsCarriedCandidate x.0.candidates c.0 k (each_at IsCarriedInterface u j x.0 h x.1).candidates x.2

-- The command that is asked of the root is one of a feed.

named_carried : (name : List ℕ) (cs : List Command) → Each IsCarriedCommand cs → IsSome (find (λ (m : Command). bytes_eq m.name name) cs) → IsCarried name
named_carried name [] h k = absurd (cc k)
named_carried name (m ∷ cs) h k = by (bytes_eq m.name name) refl k (named_carried name cs h.1)
  where
    by : (b : Bool) → bytes_eq m.name name ≡ b → IsSome (cond b (Some m) (find (λ (m : Command). bytes_eq m.name name) cs)) → (IsSome (find (λ (m : Command). bytes_eq m.name name) cs) → IsCarried name) → IsCarried name
    by true e q more = subst IsCarried (bytes_eq-true m.name name e) h.0.name
    by false e q more = more q

asked_carried : (u : List Interface) (s : Choice) (command : Option (List ℕ)) → Each IsCarriedInterface u → IsSomeAnd (chosen u s 0) (λ c. IfSome command (λ name. Has c name)) → IsCarriedOr command
asked_carried u s None h k = tt
asked_carried u s (Some name) h k = by (chosen u s 0) refl k
  where
    by : (o : Option Candidate) → chosen u s 0 ≡ o → IsSomeAnd o (λ c. Has c name) → IsCarried name
    by None e q = absurd q
    by (Some c) e q = named_carried name c.imp.commands (chosen_carried u s 0 c h e).imp.commands q

pub can_be_written : IsKept → (told : Option Holding) (req : Requirement) (p : Policy) (stored : Store) (u : List Interface) (s : Choice) (sels : Selections) → is_carried req.interface ≡ true
    → HasRightRows stored.packages → Loads told req p stored u → IsValid u req s → AreSelected u req s sels → first_amiss (tree sels) ≡ None
can_be_written kept told req p stored u s sels root rows loads valid are =
    let w : Walk = are.walk in
    let r : IsCarried req.interface = passes_carried req.interface root in
    let carried : Each IsCarriedInterface u = loaded_carried kept told req p stored u r rows loads in
    let given : Each AreGivenIn u = loaded_given told req p stored u loads in
    let readable : Each AreReadableIn u = loaded_readable told req p stored u rows loads in
    let proper : Each IsProperItem (selected u s w) = each_selected IsProperItem u s w 0 u (λ n j x k q at e. made_proper u s w j x.uri k (chosen_given u s j k given e) (chosen_readable u s j k readable e)) in
    let items : Each IsCarriedItem (selected u s w) = each_selected IsCarriedItem u s w 0 u
    (λ n j x k q at e. made_carried u s w j x.uri k (each_at IsCarriedInterface u n x carried at).uri (chosen_carried u s j k carried e)) in
    tree_stands sels (subst IsCarried (sym are.interface) r) (subst IsCarriedOr (sym are.command) (asked_carried u s req.command carried valid.root))
    (each_permuted IsProperItem (selected u s w) sels.items are.same proper) (each_permuted IsCarriedItem (selected u s w) sels.items are.same items)
