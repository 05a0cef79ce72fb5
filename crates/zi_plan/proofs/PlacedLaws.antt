-- Selections that are placed one after another.
use Rattle.std.proofs.Common.{◌≡◌, ℕ, ◌+◌, ◌<◌, ◌≤◌, Bool, true, false, ◌||◌, if◌then◌else◌, List, [], ◌∷◌, ◌++◌, length, take, drop, get_or, map, refl, sym, ap, ◌∙◌, arith, Option, Some, None, Ok, append_assoc, option_map}
use Rattle.std.specs.Option.{is_some}
use Rattle.std.proofs.lemmas.List.{append-nil, drop_all, map-append, take_more, take_all}
use Rattle.std.proofs.lemmas.List.Elements.{filter_map-append}
use Rattle.zi_outside.specs.declared.launch.Dir.{Dir}
use Rattle.zi_sels.specs.declared.types.Selection.{Selection}
use Rattle.zi_plan.specs.declared.placing.InFolder.{InFolder}
use Rattle.zi_plan.specs.declared.fault.PlanFault.TheVariants as fault
use Rattle.zi_plan.specs.Placed.{Placed, placed_in, all_placed, without_folder, exposed}
use Rattle.zi_plan.specs.Steps.{Places, PlacesOne, placed_seen}
use Rattle.zi_reading.proofs.NodeLaws.{drop_turn}

pub record IsPlacedSoFar (items : List Selection) (folders : List (Option (List ℕ))) (i : ℕ) (placed : List InFolder) : Type 0 where
  pub all : all_placed items folders ≡ map placed_seen placed ++ all_placed (drop i items) (drop i folders)
  pub without : without_folder items folders ≡ without_folder (drop i items) (drop i folders)

pub placed_start : (items : List Selection) (folders : List (Option (List ℕ))) → IsPlacedSoFar items folders 0 []
placed_start items folders = record { all = refl; without = refl }

module _ (items : List Selection) (folders : List (Option (List ℕ))) (i : ℕ) (placed : List InFolder) (x : Selection) (f : Option (List ℕ)) (e : length folders ≡ length items) (within : i < length items)
    (here : x ≡ get_or items i x) (there : f ≡ get_or folders i f) (s : IsPlacedSoFar items folders i placed) where
  items_rest : drop i items ≡ x ∷ drop (i + 1) items
  items_rest = drop_turn items i x within here

  folders_rest : drop i folders ≡ f ∷ drop (i + 1) folders
  folders_rest = drop_turn folders i f (omega (arith, e, within)) there

  all_rest : all_placed (drop i items) (drop i folders) ≡ placed_in x f ∷ all_placed (drop (i + 1) items) (drop (i + 1) folders)
  all_rest = ap (λ xs. all_placed xs (drop i folders)) items_rest ∙ ap (λ fs. all_placed (x ∷ drop (i + 1) items) fs) folders_rest

  without_rest : without_folder items folders ≡ without_folder (x ∷ drop (i + 1) items) (f ∷ drop (i + 1) folders)
  without_rest = s.without ∙ ap (λ xs. without_folder xs (drop i folders)) items_rest ∙ ap (λ fs. without_folder (x ∷ drop (i + 1) items) fs) folders_rest

  by_test : (b : Bool) → (is_some x.«package» || is_some f) ≡ b
      → without_folder (x ∷ drop (i + 1) items) (f ∷ drop (i + 1) folders) ≡ (if b then without_folder (drop (i + 1) items) (drop (i + 1) folders) else Some x.interface)
  by_test b h = ap (λ t. if t then without_folder (drop (i + 1) items) (drop (i + 1) folders) else Some x.interface) h

  pub placed_more : (new : List InFolder) (p : InFolder) → PlacesOne x f (Some (placed_seen p)) → map placed_seen new ≡ map placed_seen placed ++ placed_seen p ∷ [] → IsPlacedSoFar items folders (i + 1) new
  placed_more new p one more = record {
    all = s.all ∙ ap (λ ps. map placed_seen placed ++ ps) all_rest
        ∙ ap (λ q. map placed_seen placed ++ q ∷ all_placed (drop (i + 1) items) (drop (i + 1) folders)) (sym one.1)
        ∙ sym (append_assoc (map placed_seen placed) (placed_seen p ∷ []) (all_placed (drop (i + 1) items) (drop (i + 1) folders)))
        ∙ ap (λ ps. ps ++ all_placed (drop (i + 1) items) (drop (i + 1) folders)) (sym more);
    without = without_rest ∙ by_test true one.0;
  }

  pub placed_none : PlacesOne x f None → (t : List ℕ) → t ≡ x.interface → option_map (λ interface. fault.NoFolder interface) (without_folder items folders) ≡ Some (fault.NoFolder t)
  placed_none none t is = ap (option_map (λ interface. fault.NoFolder interface)) (without_rest ∙ by_test false none) ∙ ap (λ u. Some (fault.NoFolder u)) (sym is)

pub placed_all : (items : List Selection) (folders : List (Option (List ℕ))) (i : ℕ) (placed : List InFolder) → length items ≤ i → IsPlacedSoFar items folders i placed → Places items folders (Ok placed)
placed_all items folders i placed le s = (
  s.without ∙ ap (λ xs. without_folder xs (drop i folders)) (drop_all i items le),
  sym (s.all ∙ ap (λ xs. map placed_seen placed ++ all_placed xs (drop i folders)) (drop_all i items le) ∙ append-nil (map placed_seen placed)),
)

-- The folders that are exposed, one more.
abbrev dir_of : Placed → Option Dir
dir_of p = option_map (λ folder. record { interface = p.selection.interface; folder = folder }) p.folder

pub exposed_more : (xs : List InFolder) (i : ℕ) (x : InFolder) (dirs new : List Dir) → i < length xs → x ≡ get_or xs i x → dirs ≡ exposed (map placed_seen (take i xs))
    → new ≡ dirs ++ exposed (placed_seen x ∷ []) → new ≡ exposed (map placed_seen (take (i + 1) xs))
exposed_more xs i x dirs new within at h k =
    k ∙ ap (λ ds. ds ++ exposed (placed_seen x ∷ [])) h ∙ sym (filter_map-append dir_of (map placed_seen (take i xs)) (placed_seen x ∷ []))
    ∙ ap exposed (sym (map-append placed_seen (take i xs) (x ∷ [])))
    ∙ ap (λ ys. exposed (map placed_seen ys)) (ap (λ y. take i xs ++ y ∷ []) at ∙ sym (take_more xs i x within))

pub exposed_all : (xs : List InFolder) (i : ℕ) (dirs : List Dir) → length xs ≤ i → dirs ≡ exposed (map placed_seen (take i xs)) → dirs ≡ exposed (map placed_seen xs)
exposed_all xs i dirs le h = h ∙ ap (λ ys. exposed (map placed_seen ys)) (take_all i xs le)
