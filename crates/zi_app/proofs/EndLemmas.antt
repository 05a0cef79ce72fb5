-- What was written and whose calls failed: what the commands have in common.
use Rattle.std.proofs.Common.{◌≡◌, ℕ, inl, inr, List, [], Option, Some, None, refl, sym, ap, subst}
use Rattle.std.proofs.lemmas.List.{append-nil}
use Rattle.zi_outside.specs.Views.{Feeding, Sinking}
use Rattle.zi_outside.specs.Outside.{gained}
use Rattle.zi_outside.specs.Launched.{Spawning}
use Rattle.zi_shelf.specs.Names.{Name}
use Rattle.zi_shelf.specs.Shelving.{Shelving}
use Rattle.zi_store.specs.Stores.{Each, IsCalm}
use Rattle.zi_outcome.specs.declared.outcome.Outcome.{Outcome}
use Rattle.zi_outcome.specs.declared.outcome.Outcome.TheVariants.{Done, FeedRead, NoSolution, FetchRead, DamagedTree, StoreFault, SpawnFault, SinkFault, Memory}
use Rattle.zi_outcome.specs.Writing.{PrintsThen, Prints}
use Rattle.zi_outcome.proofs.WritingLemmas.{nothing_put}
use Rattle.zi_world.specs.Shelves.{Untouched}
use Rattle.zi_world.specs.World.{World, all_stores, FeedsUnasked, StoresCalm, NothingWritten}
use Rattle.zi_world.specs.Meets.{world_of}
use Rattle.zi_world.specs.StoreRead.{StopsAt}
use Rattle.zi_world.specs.Surroundings.{Surroundings, NothingDoneAround, meets_of}
use Rattle.zi_world.proofs.PlacesLemmas.{each_by}
use Rattle.zi_app.specs.Outcomes.{WritesText, Leaves, RoseOnFeedRead, RoseOnFetchRead, RoseOnSpawnFault, RoseOnSinkFault, FailsOnStoreFault, Blames}

-- what may be blamed
pub data Object : Type 0 where
  Feeds : Object
  Stores : Object
  Web : Object
  Spawner : Object
  Output : Object

-- this outcome doesn't blame it
abbrev pub IsSpared : Object → Outcome → Type 0
IsSpared Feeds (FeedRead uri) = ⊥
IsSpared Stores (StoreFault name) = ⊥
IsSpared Web (FetchRead href) = ⊥
IsSpared Spawner SpawnFault = ⊥
IsSpared Output SinkFault = ⊥
IsSpared object other = Unit {0}

-- What isn't blamed stood still.
pub same_count : (old new : Feeding) → new ≡ old → new.faults ≡ old.faults
same_count old new e = ap (λ (f : Feeding). f.faults) e

pub feeds_still : (o : Outcome) {old new : ℕ} → IsSpared Feeds o → new ≡ old → RoseOnFeedRead o old new
feeds_still (FeedRead uri) s e = absurd s
feeds_still other s e = e

pub stores_still : (o : Outcome) (before after : List Shelving) → IsSpared Stores o → Each IsCalm before after → FailsOnStoreFault o before after
stores_still (StoreFault name) before after s calm = absurd s
stores_still other before after s calm = calm

pub web_still : (o : Outcome) {old new : ℕ} → IsSpared Web o → new ≡ old → RoseOnFetchRead o old new
web_still (FetchRead href) s e = absurd s
web_still other s e = e

pub spawner_still : (o : Outcome) (old new : Spawning) → IsSpared Spawner o → new ≡ old → RoseOnSpawnFault o old.faults new.faults
spawner_still SpawnFault old new s e = absurd s
spawner_still other old new s e = ap (λ (p : Spawning). p.faults) e

-- Nothing is written: this is the empty text.
gained-nil : (told : Option (List ℕ)) → told ≡ gained told []
gained-nil None = refl
gained-nil (Some bytes) = ap (λ x. Some x) (sym (append-nil bytes))

pub no_text : (old new : Sinking) → new ≡ old → WritesText old new
no_text old new e = subst (λ s. WritesText old s) (sym e) ([], record { written = gained-nil old.written; faults = refl; plan = refl })

pub unwritten : (o : Outcome) (old new : Sinking) → IsSpared Output o → new ≡ old → Leaves o old new
unwritten Done old new s e = no_text old new e
unwritten (NoSolution proof) old new s e = no_text old new e
unwritten (DamagedTree name found) old new s e = no_text old new e
unwritten SinkFault old new s e = absurd s
unwritten Memory old new s e = ([], nothing_put old [] new e)
unwritten other old new s e = e

-- what was written says whether the output failed
out_counts : (o : Outcome) (old new : Sinking) → Leaves o old new → RoseOnSinkFault o old.faults new.faults
out_counts Done old new (text, w) = w.faults
out_counts (NoSolution proof) old new (text, w) = w.faults
out_counts (DamagedTree name found) old new (text, w) = w.faults
out_counts SinkFault old new (text, w) = w.failed
out_counts Memory old new (text, w) = w.faults
out_counts other old new e = ap (λ (s : Sinking). s.faults) e

-- Both.
pub record Ends (o : Outcome) (before after : Surroundings) : Type 0 where
  pub out : Leaves o before.out after.out
  pub blamed : Blames o before after

pub ends : (o : Outcome) (before after : Surroundings) → RoseOnFeedRead o before.feeds.faults after.feeds.faults → FailsOnStoreFault o (all_stores (world_of (meets_of before))) (all_stores (world_of (meets_of after)))
    → RoseOnFetchRead o before.web.faults after.web.faults → RoseOnSpawnFault o before.spawner.faults after.spawner.faults → Leaves o before.out after.out → Ends o before after
ends o before after feeds stores web spawner out = record {
  out = out;
  blamed = record { feeds = feeds; stores = stores; web = web; spawner = spawner; out = out_counts o before.out after.out out };
}

-- what is written, by an outcome that blames nothing else
abbrev pub EndsOut : Outcome → Sinking → Sinking → Type 0
EndsOut o old new = Leaves o old new × IsSpared Feeds o × IsSpared Stores o × IsSpared Web o × IsSpared Spawner o

-- what a command comes to that meets neither web nor spawner
abbrev pub EndsIn : Outcome → World → World → Type 0
EndsIn o before after =
    RoseOnFeedRead o before.feeds.faults after.feeds.faults × FailsOnStoreFault o (all_stores before) (all_stores after) × Leaves o before.out after.out
    × IsSpared Web o × IsSpared Spawner o

pub apart : (o : Outcome) (before after : Surroundings) → EndsIn o (world_of (meets_of before)) (world_of (meets_of after)) → after.web ≡ before.web → after.spawner ≡ before.spawner → Ends o before after
apart o before after e web spawner =
    ends o before after e.0 e.1 (web_still o e.3 (same_count before.web after.web web)) (spawner_still o before.spawner after.spawner e.4 spawner) e.2

-- the feeds weren't asked, and no store failed
pub calm_in : (o : Outcome) (before after : World) → FeedsUnasked before after → StoresCalm before after → EndsOut o before.out after.out → EndsIn o before after
calm_in o before after feeds calm e = (feeds_still o e.1 (same_count before.feeds after.feeds feeds), stores_still o (all_stores before) (all_stores after) e.2 calm, e.0, e.3, e.4)

-- no call of a store was made
pub untouched_calm : (before after : List Shelving) → Each Untouched before after → Each IsCalm before after
untouched_calm before after u = each_by Untouched IsCalm (λ b a t. t.faults) before after u

pub nothing_ends : (o : Outcome) (before after : Surroundings) → EndsOut o before.out after.out → NothingDoneAround before after → Ends o before after
nothing_ends o before after e n =
    let b : World = world_of (meets_of before) in
    let a : World = world_of (meets_of after) in
    apart o before after (calm_in o b a n.nothing.nothing.feeds (untouched_calm (all_stores b) (all_stores a) n.nothing.nothing.stores) e) n.nothing.web n.started

-- a text is printed
pub printed : (text : List ℕ) (ending : Outcome) (old new : Sinking) (o : Outcome) → (WritesText old new → EndsOut ending old new) → PrintsThen text ending old new o → EndsOut o old new
printed text ending old new o whole (inl (w, e)) = subst (λ x. EndsOut x old new) (sym e) (whole (text, w))
printed text ending old new o whole (inr (inl (w, e))) = subst (λ x. EndsOut x old new) (sym e) ((text, w), tt, tt, tt, tt)
printed text ending old new o whole (inr (inr (w, e))) = subst (λ x. EndsOut x old new) (sym e) ((text, w), tt, tt, tt, tt)

pub prints : (text : List ℕ) (old new : Sinking) (o : Outcome) → Prints text old new o → EndsOut o old new
prints text old new o p = printed text Done old new o (λ w. (w, tt, tt, tt, tt)) p

-- a store failed, or memory was refused, before anything else was done
pub stopped : (top : Name) (o : Outcome) (before after : List Shelving) → StopsAt top before after o → FailsOnStoreFault o before after × IsSpared Feeds o × IsSpared Web o × IsSpared Spawner o × IsSpared Output o
stopped top (StoreFault name) before after s = (s.1, tt, tt, tt, tt)
stopped top Memory before after s = (s, tt, tt, tt, tt)
stopped top other before after s = absurd s

pub stopped_in : (top : Name) (o : Outcome) (before after : World) → StopsAt top (all_stores before) (all_stores after) o → FeedsUnasked before after → NothingWritten before after → EndsIn o before after
stopped_in top o before after s feeds out =
    let t = stopped top o (all_stores before) (all_stores after) s in
    (feeds_still o t.1 (same_count before.feeds after.feeds feeds), t.0, unwritten o before.out after.out t.4 out, t.2, t.3)
