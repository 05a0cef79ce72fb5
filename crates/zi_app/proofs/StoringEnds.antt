-- What was written and whose calls failed, of the commands on the store.
use Rattle.std.proofs.Common.{◌≡◌, ℕ, ◌⊎◌, inl, inr, List, [], ◌∷◌, ◌++◌, Result, Ok, Err, sym, ap, subst}
use Rattle.std.proofs.lemmas.List.{append-nil}
use Rattle.zi_digest.specs.declared.Algorithm.{Algorithm}
use Rattle.zi_digest.specs.declared.DigestName.{DigestName}
use Rattle.zi_digest.specs.Name.{spelling}
use Rattle.zi_outside.specs.Views.{Feeding, Sinking}
use Rattle.zi_tree.specs.Dir.{Dir}
use Rattle.zi_tree.specs.declared.change.TreeLimit.TheVariants.{Size, Nodes, Depth}
use Rattle.zi_shelf.specs.Names.{Name}
use Rattle.zi_shelf.specs.Shelving.{Shelving}
use Rattle.zi_store.specs.Stores.{Each, IsCalm, Fails}
use Rattle.zi_adding.specs.declared.adding.Added.{Added}
use Rattle.zi_adding.specs.declared.adding.Added.TheVariants as added
use Rattle.zi_adding.specs.declared.adding.AddFault.{AddFault}
use Rattle.zi_adding.specs.declared.adding.AddFault.TheVariants as fault
use Rattle.zi_adding.specs.Trying.{Tried, Costs, CostsAll}
use Rattle.zi_adding.specs.Answers.{Ends}
use Rattle.zi_adding.proofs.HistoryLaws.{AreDone, calm_done}
use Rattle.zi_words.specs.Forms.{Word}
use Rattle.zi_opening.specs.Files.{ReadsAll, ReadsNot}
use Rattle.zi_outcome.specs.declared.outcome.Outcome.{Outcome}
use Rattle.zi_outcome.specs.declared.outcome.Outcome.TheVariants.{Done, FeedRead, FeedTooLong, NoFile, BadSels, Overlap, Mismatch, MissingTree, DamagedTree, BadName, TreeTooLarge, StoreFault, Crowded, SinkFault, Memory}
use Rattle.zi_world.specs.Shelves.{Untouched}
use Rattle.zi_world.specs.World.{World, all_stores}
use Rattle.zi_storing.specs.declared.checked.Checked.{Checked}
use Rattle.zi_storing.specs.declared.checked.Checked.TheVariants as checked
use Rattle.zi_storing.specs.StoreList.{names_text, Lists}
use Rattle.zi_storing.specs.ManifestCommand.{HasNoManifest, Manifests}
use Rattle.zi_storing.specs.StoreVerify.{TellsCheck, VerifiesTree}
use Rattle.zi_storing.specs.Adding.{lent, AddsGathered, added_line, AddsTo, AddsFiles}
use Rattle.zi_storing.specs.StorePurge.{PurgesBut, PurgesFiles}
use Rattle.zi_storing.specs.StorePurge as purge
use Rattle.zi_app.specs.Outcomes.{Leaves}
use Rattle.zi_app.proofs.EndLemmas.{EndsOut, EndsIn, calm_in, untouched_calm, unwritten, printed, prints, stopped_in}

pub list_ends : (o : Outcome) (before after : World) → Lists before after o → EndsIn o before after
list_ends o before after d = elim d.answer [
  | inl f ↦ stopped_in [] o before after f.0 d.feeds f.1
  | inr s ↦ calm_in o before after d.feeds s.0 (prints (names_text s.1.0) before.out after.out o s.1.2)
]

-- there is no manifest
no_manifest : (algorithm : Algorithm) (name : Name) (before after : World) (o : Outcome) → HasNoManifest algorithm name before after o → EndsOut o before.out after.out
no_manifest algorithm name before after (MissingTree missing) h = (h.2, tt, tt, tt, tt)
no_manifest algorithm name before after (TreeTooLarge what limit) h = (h.1, tt, tt, tt, tt)
no_manifest algorithm name before after (BadName path) h = (h.1, tt, tt, tt, tt)
no_manifest algorithm name before after other h = absurd h

pub manifest_ends : (algorithm : Algorithm) (name : Name) (o : Outcome) (before after : World) → Manifests algorithm name before after o → EndsIn o before after
manifest_ends algorithm name o before after d = elim d.answer [
  | inl f ↦ stopped_in name o before after f.0 d.feeds f.1
  | inr s ↦ calm_in o before after d.feeds s.0 (elim s.1 [
    | inl none ↦ no_manifest algorithm name before after o none
    | inr t ↦ prints _ before.out after.out o t.2
  ])
]

-- what is told of a tree
told : (name : DigestName) (c : Checked) (old new : Sinking) (o : Outcome) → TellsCheck name c old new o → EndsOut o old new
told name checked.Sound old new o t = prints _ old new o t
told name (checked.Damaged found difference) old new o t = printed _ (DamagedTree (spelling name) (spelling found)) old new o (λ w. (w, tt, tt, tt, tt)) t
told name checked.Missing old new o (is, e) = subst (λ x. EndsOut x old new) (sym is) (e, tt, tt, tt, tt)
told name (checked.BadName path) old new o (is, e) = subst (λ x. EndsOut x old new) (sym is) (e, tt, tt, tt, tt)
told name (checked.TooLarge what limit) old new o (is, e) = subst (λ x. EndsOut x old new) (sym is) (e, tt, tt, tt, tt)

pub verify_ends : (name : DigestName) (o : Outcome) (before after : World) → VerifiesTree name before after o → EndsIn o before after
verify_ends name o before after d = elim d.answer [
  | inl f ↦ stopped_in (spelling name) o before after f.0 d.feeds f.1
  | inr s ↦ calm_in o before after d.feeds s.0 (told name s.1.0 before.out after.out o s.1.2)
]

-- What an adding costs: the store failed, or no call of it did.
abbrev pub AddCosts : Result Added AddFault → Shelving → Shelving → Type 0
AddCosts (Err (fault.Failed blamed)) before after = Fails before after
AddCosts other before after = IsCalm before after

-- whatever was added before
costs_last : (done : List Tried) (a : Tried) (before after : Shelving) → CostsAll (done ++ a ∷ []) before after → Costs a.answer before after
costs_last [] a before after c = c
costs_last (x ∷ []) a before after c = c
costs_last (x ∷ y ∷ done) a before after c = costs_last (y ∷ done) a before after c

module _ (done : List Tried) (are : AreDone done) (before after : Shelving) where
  pub none_costs : (tried : List Tried) → tried ≡ [] → CostsAll (done ++ tried) before after → IsCalm before after
  none_costs tried e c = calm_done done before after are (subst (λ t. CostsAll t before after) (append-nil done) (subst (λ t. CostsAll (done ++ t) before after) e c))

  one_costs : (a : Tried) (tried : List Tried) → tried ≡ a ∷ [] → CostsAll (done ++ tried) before after → Costs a.answer before after
  one_costs a tried e c = costs_last done a before after (subst (λ t. CostsAll (done ++ t) before after) e c)

  pub add_costs : (name : DigestName) (tree : Dir) (answer : Result Added AddFault) (tried : List Tried) → Ends name tree answer tried → CostsAll (done ++ tried) before after → AddCosts answer before after
  add_costs name tree (Ok added.Stored) tried e c = one_costs _ tried e c
  add_costs name tree (Ok added.Present) tried e c = one_costs _ tried e c
  add_costs name tree (Err (fault.BadName path)) tried e c = none_costs tried e.0 c
  add_costs name tree (Err (fault.Mismatch wanted found)) tried e c = none_costs tried e.0 c
  add_costs name tree (Err (fault.Crowded number)) tried e c = one_costs _ tried e.1 c
  add_costs name tree (Err (fault.Failed blamed)) tried e c = one_costs _ tried e.2 c
  add_costs name tree (Err fault.Memory) tried (inl e) c = none_costs tried e c
  add_costs name tree (Err fault.Memory) tried (inr e) c = one_costs _ tried e c

module _ (name : DigestName) (files : List Word) (tried : List Tried) (before after : World) (cost : CostsAll tried before.shelf after.shelf) (others : Each IsCalm before.others after.others) where
  idle : tried ≡ [] → IsCalm before.shelf after.shelf
  idle e = none_costs [] tt before.shelf after.shelf tried e cost

  cost_of : (answer : Result Added AddFault) → AddsGathered name files tried before.feeds after.feeds answer → AddCosts answer before.shelf after.shelf
  cost_of answer g = add_costs [] tt before.shelf after.shelf name g.tree answer tried g.ends cost

  got : (answer : Result Added AddFault) → AddsGathered name files tried before.feeds after.feeds answer → after.feeds.faults ≡ before.feeds.faults
  got answer g = g.gathers.got.asked.calm

  adds : (o : Outcome) → AddsTo name files tried (lent before) (lent after) o → EndsIn o before after
  adds Done (a, g, w) = (got (Ok a) g, (cost_of (Ok a) g, others), (added_line a, w), tt, tt)
  adds (FeedRead uri) (u, n) = (u.1, (idle n.0, others), n.1, tt, tt)
  adds (NoFile file) (u, n) = (u.1, (idle n.0, others), n.1, tt, tt)
  adds (FeedTooLong uri limit) (u, n) = (u.1, (idle n.0, others), n.1, tt, tt)
  adds (Overlap path) (u, n) = (u.1.asked.calm, (idle n.0, others), n.1, tt, tt)
  adds (TreeTooLarge Size limit) (u, n) = (u.1.asked.calm, (idle n.0, others), n.1, tt, tt)
  adds (TreeTooLarge Nodes limit) (u, n) = (u.1.asked.calm, (idle n.0, others), n.1, tt, tt)
  adds (TreeTooLarge Depth limit) (u, n) = absurd u
  adds (BadName path) (g, e) = (got _ g, (cost_of _ g, others), e, tt, tt)
  adds (Mismatch right found) (g, e) = (got _ g, (cost_of _ g, others), e, tt, tt)
  adds (Crowded number) (g, e) = (got _ g, (cost_of _ g, others), e, tt, tt)
  adds (StoreFault blamed) (g, e) = (got _ g, inl (cost_of (Err (fault.Failed blamed)) g), e, tt, tt)
  adds SinkFault (a, g, w) = (got (Ok a) g, (cost_of (Ok a) g, others), (added_line a, w), tt, tt)
  adds Memory (inl (s, n)) = (s.1.calm, (idle n.0, others), unwritten Memory before.out after.out tt n.1, tt, tt)
  adds Memory (inr (inl (g, e))) = (got _ g, (cost_of _ g, others), unwritten Memory before.out after.out tt e, tt, tt)
  adds Memory (inr (inr (a, g, w))) = (got (Ok a) g, (cost_of (Ok a) g, others), (added_line a, w), tt, tt)
  adds other u = absurd u

pub add_ends : (name : DigestName) (files : List Word) (o : Outcome) (before after : World) → AddsFiles name files before after o → EndsIn o before after
add_ends name files o before after d = adds name files d.tried before after d.shelf.cost (untouched_calm before.others after.others d.others) o d.comes

-- The files are read, and of the store is taken away what they don't keep.
module _ (before after : World) (others : Each IsCalm before.others after.others) where
  reads_not : (files : List Word) (o : Outcome) → ReadsNot files before.feeds o after.feeds → IsCalm before.shelf after.shelf → after.out ≡ before.out → EndsIn o before after
  reads_not files (FeedRead uri) r calm e = (r.1, (calm, others), e, tt, tt)
  reads_not files (NoFile name) r calm e = (r.0.calm, (calm, others), e, tt, tt)
  reads_not files (FeedTooLong uri limit) r calm e = (r.0.calm, (calm, others), e, tt, tt)
  reads_not files (BadSels fault) r calm e = (r.1.calm, (calm, others), e, tt, tt)
  reads_not files Memory r calm e = (r.1.calm, (calm, others), unwritten Memory before.out after.out tt e, tt, tt)
  reads_not files other r calm e = absurd r

  purges : (kept : List Name) (o : Outcome) → after.feeds.faults ≡ before.feeds.faults → PurgesBut kept (purge.lent before) (purge.lent after) o → EndsIn o before after
  purges kept Done read (gone, p, w) = (read, (p.cost, others), (names_text gone, w), tt, tt)
  purges kept (Crowded number) read (p, e) = (read, (p.1.1.cost, others), e, tt, tt)
  purges kept (StoreFault blame) read (inl p, e) = (read, inl p.1, e, tt, tt)
  purges kept (StoreFault blame) read (inr p, e) = (read, inl p.2.1.cost, e, tt, tt)
  purges kept SinkFault read (gone, p, w) = (read, (p.cost, others), (names_text gone, w), tt, tt)
  purges kept Memory read (inl (inl p, e)) = (read, (p.0, others), unwritten Memory before.out after.out tt e, tt, tt)
  purges kept Memory read (inl (inr p, e)) = (read, (p.1.cost, others), unwritten Memory before.out after.out tt e, tt, tt)
  purges kept Memory read (inr (gone, p, w)) = (read, (p.cost, others), (names_text gone, w), tt, tt)
  purges kept other read p = absurd p

pub purge_ends : (files : List Word) (o : Outcome) (before after : World) → PurgesFiles files before after o → EndsIn o before after
purge_ends files o before after d = elim d.comes [
  | inl r ↦ reads_not before after (untouched_calm before.others after.others d.others) files o r.why r.shelf.faults r.nothing
  | inr r ↦ purges before after (untouched_calm before.others after.others d.others) (purge.kept_by r.all) o r.read.asked.calm r.purges
]
