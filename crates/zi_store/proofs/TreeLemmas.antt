-- A whole tree, read.
use Rattle.std.proofs.Common.{◌≡◌, ℕ, true, List, [], Option, Some, None, IsSome, Result, Ok, Err, refl, sym, ◌∙◌, ap, subst}
use Rattle.zi_tree.specs.Dir.{Dir}
use Rattle.zi_tree.specs.Order.{is_tree}
use Rattle.zi_tree.specs.declared.change.TreeLimit.{TreeLimit}
use Rattle.zi_shelf.specs.Names.{Name}
use Rattle.zi_shelf.specs.Shelved.{Top}
use Rattle.zi_shelf.specs.Told.{Told, TellsTrees}
use Rattle.zi_shelf.specs.Reading.{folder_at}
use Rattle.zi_manifest.specs.Manifest.{as_read}
use Rattle.zi_store.specs.Walking.{met, passed}
use Rattle.zi_store.specs.Standing.{Stands}
use Rattle.zi_store.specs.Entries.{Walks}
use Rattle.zi_store.specs.TreeAnswers.{ReadsWhole}
use Rattle.zi_store.specs.declared.stop.Stop.{Stop}
use Rattle.zi_store.specs.declared.stop.Stop.TheVariants as stop
use Rattle.zi_store.proofs.WalkLemmas.{passed_none, passed_some}
use Rattle.zi_text.proofs.ListLaws.{some_of}

-- what stands under a name of an honest shelf that tells what it holds
pub record Whole (honest : Type 0) (told : Option Told) (top : Name) (path : List Name) (s : Told) : Type 0 where
  pub entry : Top Dir
  pub is_top : s.shelf.tops top ≡ Some entry
  pub stands : Stands honest told top path entry.tree
  pub tree : is_tree entry.tree ≡ true

pub whole_there : {h : Type 0} {told : Option Told} {top : Name} (path : List Name) (s : Told) → path ≡ [] → (h → TellsTrees told) → h → told ≡ Some s → IsSome (s.shelf.tops top) → Whole h told top path s
whole_there {top = top} path s root law keeps tells some =
    let e = some_of (s.shelf.tops top) some in record {
      entry = e.0;
      is_top = e.1;
      stands = record {
        keeps = keeps;
        state = s;
        tells = tells;
        entry = e.0;
        is_top = e.1;
        is_there = ap (λ p. folder_at p e.0.tree) root;
      };
      tree = law keeps s tells top e.0 e.1;
    }

-- what the walk says of the whole tree
from_nothing : (d : Dir) (top : Name) (s : Told) (e : Top Dir) (nodes bytes : ℕ) (r : Result Dir Stop) → e.tree ≡ d → s.shelf.tops top ≡ Some e → Walks (as_read d) (met 0 (as_read d)) 0 0 r nodes bytes → ReadsWhole top r s.shelf
from_nothing d top s e nodes bytes (Ok t) same is walks = (e, is, walks.0 ∙ ap as_read (sym same), ap (λ x. passed (as_read x)) same ∙ passed_none nodes bytes (as_read d) walks.1)
from_nothing d top s e nodes bytes (Err stop.Missing) same is walks = absurd walks
from_nothing d top s e nodes bytes (Err (stop.TooLarge what)) same is walks = (e, is, ap (λ x. passed (as_read x)) same ∙ passed_some (as_read d) what walks)
from_nothing d top s e nodes bytes (Err (stop.Fault fault)) same is walks = tt

pub walked : {h : Type 0} {told : Option Told} {top : Name} {path : List Name} {s : Told} (w : Whole h told top path s) (n b nodes bytes : ℕ) (r : Result Dir Stop) → n ≡ 0 → b ≡ 0 → Walks (as_read w.entry.tree) (met 0 (as_read w.entry.tree)) n b r nodes bytes → ReadsWhole top r s.shelf
walked {top = top} {s = s} w n b nodes bytes r e f walks =
    from_nothing w.entry.tree top s w.entry nodes bytes r refl w.is_top
    (subst (λ k. Walks (as_read w.entry.tree) (met 0 (as_read w.entry.tree)) 0 k r nodes bytes) f (subst (λ k. Walks (as_read w.entry.tree) (met 0 (as_read w.entry.tree)) k b r nodes bytes) e walks))

-- a listing that stopped
pub unlisted : (top : Name) (s : Told) (e : Stop) → (e ≡ stop.Missing → s.shelf.tops top ≡ None) → ((what : TreeLimit) → e ≡ stop.TooLarge what → ⊥) → ReadsWhole top (Err e) s.shelf
unlisted top s stop.Missing missing limit = missing refl
unlisted top s (stop.TooLarge what) missing limit = absurd (limit what refl)
unlisted top s (stop.Fault fault) missing limit = tt
