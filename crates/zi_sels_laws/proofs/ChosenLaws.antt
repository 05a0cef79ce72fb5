-- What a valid choice selects in a universe that was loaded is as it may be written, and so is read again where it was written.
use Rattle.std.proofs.Common.{◌≡◌, ℕ, suc, Bool, true, false, ◌||◌, List, [], ◌∷◌, map, Option, Some, None, refl, sym, ap, ◌∙◌, subst, arith}
use Rattle.std.specs.Prelude.{All, IfSome, IsSomeAnd, slice_get, is_some}
use Rattle.std.specs.List.{list_any}
use Rattle.std.specs.Ordering.{nat_cmp}
use Rattle.std.specs.declared.cmp.Ordering.TheVariants.{Less, Equal}
use Rattle.std.specs.Cmp.Lexicographic.{slice_cmp}
use Rattle.std.proofs.lemmas.Cmp.{nat_list_cmp_total, tied_itself}
use Rattle.std.proofs.lemmas.List.Sorted.{IsPermutation-sym}
use Rattle.std.proofs.lemmas.Bool.{or_right}
use Rattle.zi_policy.specs.declared.types.Policy.{Policy}
use Rattle.zi_outside.specs.Views.{Holding}
use Rattle.zi_docout.specs.Amiss.{first_amiss}
use Rattle.zi_address.specs.Texts.{same}
use Rattle.zi_reading.specs.Words.{is_among}
use Rattle.zi_parts.specs.declared.types.Dep.{Dep}
use Rattle.zi_reading.proofs.TextLaws.{same_text, same_refl}
use Rattle.zi_universe.specs.declared.types.Requirement.{Requirement}
use Rattle.zi_universe.specs.declared.types.Candidate.{Candidate}
use Rattle.zi_universe.specs.declared.types.Interface.{Interface}
use Rattle.zi_universe.specs.Candidates.{Store}
use Rattle.zi_universe.specs.Whole.{BeginsWith}
use Rattle.zi_universe.specs.Loading.{Loads}
use Rattle.zi_universe.proofs.WholeLemmas.{begins}
use Rattle.zi_choice.specs.Choice.{Choice, chosen}
use Rattle.zi_choice.specs.Walk.{Walk}
use Rattle.zi_choice.specs.Valid.{Has, target, IsValid}
use Rattle.zi_choice.proofs.Base.{chosen_from, interface_at}
use Rattle.zi_choice.proofs.WalkLaws.{walk_one}
use Rattle.zi_sels.specs.declared.types.Selection.{Selection}
use Rattle.zi_sels.specs.declared.types.Selections.{Selections}
use Rattle.zi_sels.specs.Chosen.{selected, AreSorted, AreSelected}
use Rattle.zi_sels.specs.Written.{tree, document}
use Rattle.zi_sels.specs.Reading.{Says}
use Rattle.zi_sels_laws.proofs.LikeLaws.{Each}
use Rattle.zi_sels_laws.proofs.AskedLaws.{IsMetWhole}
use Rattle.zi_sels_laws.proofs.RootLaws.{interfaces_of, IsProper, IsWritten, written_says}
use Rattle.zi_sels_laws.proofs.FreeLaws.{each_weak, each_map}
use Rattle.zi_sels_laws.proofs.ApartLaws.{AreOther, none_repeated}
use Rattle.zi_sels_laws.proofs.EachLaws.{all_each, each_permuted, each_at}
use Rattle.zi_sels_laws.proofs.LoadedLaws.{IsGivenCandidate, AreGivenIn, AreReadableIn, loaded_given, loaded_readable}
use Rattle.zi_sels_laws.specs.Rows.{HasRightRows}
use Rattle.zi_sels_laws.proofs.FeedLaws.{IsReadable}
use Rattle.zi_sels_laws.proofs.SelectedLaws.{IsThere, each_selected, target_there, there_among}
use Rattle.zi_sels_laws.proofs.MadeLaws.{made_proper}
use Rattle.zi_sels_laws.proofs.UsedLaws.{AreUsesMet, made_met}

-- Addresses.

abbrev StandsBefore : Selection → Selection → Type 0
StandsBefore x y = slice_cmp nat_cmp x.interface y.interface ≡ Less

before_other : (x y : Selection) → StandsBefore x y → same x.interface y.interface ≡ false
before_other x y h = either (same x.interface y.interface) refl
  where
    either : (b : Bool) → same x.interface y.interface ≡ b → b ≡ false
    either true k =
        let itself : slice_cmp nat_cmp x.interface x.interface ≡ Less = subst (λ v. slice_cmp nat_cmp x.interface v ≡ Less) (sym (same_text x.interface y.interface k)) h in
        let e : Less ≡ Equal = sym itself ∙ tied_itself nat_list_cmp_total x.interface in absurd (cc e)
    either false k = refl

pub sorted_other : (items : List Selection) → AreSorted items → AreOther (map (λ (x : Selection). x.interface) items)
sorted_other [] h = tt
sorted_other (x ∷ items) h =
    let first : All (StandsBefore x) items = λ k d lt. h 0 (suc k) d (omega arith) (omega (arith, lt)) in
    let rest : AreSorted items = λ i j d l m. h (suc i) (suc j) d (omega (arith, l)) (omega (arith, m)) in (
      each_map (λ m. same x.interface m ≡ false) (λ (y : Selection). y.interface) items
          (each_weak (StandsBefore x) (λ y. same x.interface y.interface ≡ false) (before_other x) items (all_each (StandsBefore x) items first)),
      sorted_other items rest,
    )

-- each is among all
abbrev IsAmong : List (List ℕ) → Selection → Type 0
IsAmong is x = is_among is x.interface ≡ true

each_among : (items : List Selection) → Each (IsAmong (map (λ (x : Selection). x.interface) items)) items
unfolding is_among
each_among [] = tt
each_among (x ∷ items) =
    let is = map (λ (y : Selection). y.interface) items in (
      ap (λ b. b || list_any (same x.interface) is) (same_refl x.interface x.interface refl),
      each_weak (IsAmong is) (IsAmong (x.interface ∷ is)) (λ y h. or_right (same y.interface x.interface) (list_any (same y.interface) is) h) items (each_among items),
    )

-- The candidates that are chosen, and the root's.

pub chosen_given : (u : List Interface) (s : Choice) (j : ℕ) (k : Candidate) → Each AreGivenIn u → chosen u s j ≡ Some k → IsGivenCandidate k
chosen_given u s j k h e =
    let c = chosen_from u s j k e in
    let x = interface_at u j c.0 k c.2 in
    each_at IsGivenCandidate x.0.candidates c.0 k (each_at AreGivenIn u j x.0 h x.1) x.2

pub chosen_readable : (u : List Interface) (s : Choice) (j : ℕ) (k : Candidate) → Each AreReadableIn u → chosen u s j ≡ Some k → IsReadable k.imp
chosen_readable u s j k h e =
    let c = chosen_from u s j k e in
    let x = interface_at u j c.0 k c.2 in
    each_at (λ (y : Candidate). IsReadable y.imp) x.0.candidates c.0 k (each_at AreReadableIn u j x.0 h x.1) x.2

root_there : (u : List Interface) (s : Choice) (root : List ℕ) (P : Candidate → Type 0) → BeginsWith u root → IsSomeAnd (chosen u s 0) P → IsThere u s root
root_there u s root P first valid = by (slice_get u 0) (chosen u s 0) refl refl first valid
  where
    by : (o : Option Interface) (c : Option Candidate) → slice_get u 0 ≡ o → chosen u s 0 ≡ c → IsSomeAnd o (λ i. i.uri ≡ root) → IsSomeAnd c P → IsThere u s root
    by None c at picked h k = absurd h
    by (Some x) None at picked h k = absurd k
    by (Some x) (Some y) at picked h k = record { place = 0; interface = x; candidate = y; at = at; named = h; picked = picked }

-- The selections.

pub chosen_proper : (u : List Interface) (req : Requirement) (s : Choice) (sels : Selections) → BeginsWith u req.interface → Each AreGivenIn u → Each AreReadableIn u → IsValid u req s → AreSelected u req s sels
    → IsProper sels
chosen_proper u req s sels first given readable valid are =
    let w = are.walk in
    let is = interfaces_of sels in
    let uses : AreUsesMet u s w = subst (λ (v : Walk). AreUsesMet u s v) (walk_one u req s valid.walk w valid.walks are.walks) valid.used_met in
    let among : Each (IsAmong is) (selected u s w) = each_permuted (IsAmong is) sels.items (selected u s w) (IsPermutation-sym (selected u s w) sels.items are.same) (each_among sels.items) in
    let one : (d : Dep) → is_some (target u s d) ≡ true → is_among is d.interface ≡ true = λ d t. there_among is u s w d.interface among (target_there u s d t) in record {
      items = each_permuted (IsMetWhole is) (selected u s w) sels.items are.same
          (each_selected (IsMetWhole is) u s w 0 u
          (λ n j x k q at e. let g = chosen_given u s j k given e in (made_proper u s w j x.uri k g (chosen_readable u s j k readable e), made_met is u s w one uses j x.uri k e g)));
      apart = none_repeated is (sorted_other sels.items are.sorted);
      rooted = subst (λ a. is_among is a ≡ true) (sym are.interface) (there_among is u s w req.interface among (root_there u s req.interface (λ c. IfSome req.command (λ name. Has c name)) first valid.root));
    }

-- the canonical document of what a valid choice selects says it
pub chosen_read : IsWritten → (told : Option Holding) (req : Requirement) (p : Policy) (stored : Store) (u : List Interface) (s : Choice) (sels : Selections) → HasRightRows stored.packages → Loads told req p stored u → IsValid u req s
    → AreSelected u req s sels → first_amiss (tree sels) ≡ None → Says (document sels) sels
chosen_read written told req p stored u s sels rows loads valid are right =
    written_says written sels (chosen_proper u req s sels (begins told req p stored u loads) (loaded_given told req p stored u loads) (loaded_readable told req p stored u rows loads) valid are) right
