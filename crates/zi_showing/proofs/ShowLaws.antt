-- What `show` comes to, put together.
use Rattle.std.proofs.Common.{◌≡◌, ◌⊎◌, ℕ, inl, inr, List, [], ◌∷◌, map, refl, sym, ap, ◌∙◌, subst, Ok, Err, flat_map}
use Rattle.zi_digest.specs.declared.DigestName.{DigestName}
use Rattle.zi_outside.specs.Views.{Feeding, Sinking}
use Rattle.zi_shelf.specs.Shelving.{Shelving}
use Rattle.zi_store.specs.Keeping.{Keeps, is_names}
use Rattle.zi_store.specs.Stores.{Each, IsCalm, AreStored}
use Rattle.zi_store.proofs.StoresLemmas.{each_same}
use Rattle.zi_sels.specs.declared.types.Selections.{Selections}
use Rattle.zi_opening.specs.Opening.{GetsSelections}
use Rattle.zi_outcome.specs.declared.outcome.Outcome.{Outcome}
use Rattle.zi_outcome.specs.declared.outcome.Outcome.TheVariants.{Memory}
use Rattle.zi_world.specs.Asking.{FeedsStay}
use Rattle.zi_world.specs.Shelves.{Untouched}
use Rattle.zi_world.specs.StoreRead.{StopsAt}
use Rattle.zi_world.specs.World.{World, all_stores}
use Rattle.zi_world.proofs.ShelvesLemmas.{untouched, untouched_keeps}
use Rattle.zi_sels.specs.declared.types.Selection.{Selection}
use Rattle.zi_showing.specs.Text.{stored_names, trees_text}
use Rattle.zi_showing.specs.Showing.{IsShown, ShowsSelections}
use Rattle.zi_showing.specs.Steps.{AreWalked, places_of, place_text, PrintsText}
use Rattle.zi_showing.proofs.PieceLaws.{lines_in}

-- the lines of the walk are the text
pub text_shown : (sels : Selections) (digests : List DigestName) (names : List (List ℕ)) (places : List (Selection × ℕ)) (text : List ℕ) → names ≡ stored_names digests → AreWalked sels places
    → text ≡ flat_map (place_text names) places → IsShown sels digests text
text_shown sels digests names places text n (trees, are, walked) e = record {
  trees = trees;
  are = are;
  is = e ∙ ap (λ ps. flat_map (place_text names) ps) walked ∙ lines_in names 0 trees ∙ ap (λ v. trees_text v 0 trees) n;
}

abbrev pub world : Feeding → List Shelving → Shelving → Sinking → World
world f others shelf out = record { feeds = f; shelf = shelf; others = others; out = out }

-- the file isn't read
pub unread : (file : List ℕ) (f g : Feeding) (shelf : Shelving) (others : List Shelving) (out : Sinking) (outcome : Outcome) → GetsSelections file f (Err outcome) g → FeedsStay f g
    → ShowsSelections file (world f others shelf out) (world g others shelf out) outcome
unread file f g shelf others out outcome gets stay = record {
  feeds = stay;
  stores = each_same (Keeps is_names) (λ s. untouched_keeps is_names s s (untouched s)) (shelf ∷ others);
  comes = inl (record { why = gets; stores = each_same Untouched untouched (shelf ∷ others); nothing = refl });
}

-- it is read, and a store fails, or memory is refused
module _ (file : List ℕ) (f g : Feeding) (k l : Shelving) (ks ls : List Shelving) (sels : Selections) (gets : GetsSelections file f (Ok sels) g) (stay : FeedsStay f g) (keeps : Each (Keeps is_names) (k ∷ ks) (l ∷ ls)) where
  pub store_fails : (out : Sinking) (outcome : Outcome) → StopsAt [] (k ∷ ks) (l ∷ ls) outcome → ShowsSelections file (world f ks k out) (world g ls l out) outcome
  store_fails out outcome s = record {
    feeds = stay;
    stores = keeps;
    comes = inr (record { sels = sels; got = gets; answer = inl (s, refl) });
  }

  -- or the text is printed
  pub printed : (old new : Sinking) (outcome : Outcome) (digests : List DigestName) → Each IsCalm (k ∷ ks) (l ∷ ls) → AreStored (k ∷ ks) digests → PrintsText sels digests old new outcome
      → ShowsSelections file (world f ks k old) (world g ls l new) outcome
  printed old new outcome digests calm stored (inl (text, shown, p)) = record {
    feeds = stay;
    stores = keeps;
    comes = inr (record { sels = sels; got = gets; answer = inr (record { calm = calm; digests = digests; stored = stored; text = text; shown = shown; printed = p }) });
  }
  printed old new outcome digests calm stored (inr (e, same)) = record {
    feeds = stay;
    stores = keeps;
    comes = inr (record { sels = sels; got = gets; answer = inl (subst (λ o. StopsAt [] (k ∷ ks) (l ∷ ls) o) (sym e) calm, same) });
  }
