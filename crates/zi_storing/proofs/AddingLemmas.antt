-- What the outcomes of `store add` follow from.
use Rattle.std.proofs.Common.{◌≡◌, inl, inr, List, [], refl, sym, subst, Result, Ok, Err}
use Rattle.zi_digest.specs.declared.DigestName.{DigestName}
use Rattle.zi_outside.specs.Views.{Feeding, Sinking}
use Rattle.zi_tree.specs.Dir.{Dir}
use Rattle.zi_tree.specs.declared.change.TreeLimit.TheVariants as limit
use Rattle.zi_shelf.specs.Shelving.{Shelving}
use Rattle.zi_store.specs.Keeping.{is_reading}
use Rattle.zi_store.proofs.KeepingLemmas.{keeps_none}
use Rattle.zi_store.proofs.StoresLemmas.{each_same}
use Rattle.zi_adding.specs.declared.adding.Added.{Added}
use Rattle.zi_adding.specs.declared.adding.AddFault.{AddFault}
use Rattle.zi_adding.specs.Trying.{Tried, Adds}
use Rattle.zi_adding.specs.Answers.{AddsTree}
use Rattle.zi_adding.specs.Gains.{Uses}
use Rattle.zi_adding.proofs.AddingLemmas.{adds_nothing}
use Rattle.zi_adding.proofs.HistoryLaws.{reads_use, uses_gain}
use Rattle.zi_words.specs.Forms.{Word}
use Rattle.zi_outcome.specs.declared.outcome.Outcome.{Outcome}
use Rattle.zi_outcome.specs.Writing.{Prints}
use Rattle.zi_world.specs.Asking.{FeedsStay}
use Rattle.zi_world.specs.Shelves.{Untouched}
use Rattle.zi_world.specs.World.{World}
use Rattle.zi_world.proofs.AskingLemmas.{asks_stay}
use Rattle.zi_world.proofs.ShelvesLemmas.{untouched}
use Rattle.zi_storing.specs.declared.gathering.GatherFault.{GatherFault}
use Rattle.zi_storing.specs.declared.gathering.GatherFault.TheVariants as gather
use Rattle.zi_storing.specs.Gathering.{Gathers, Refuses}
use Rattle.zi_storing.specs.Adding.{LentToAdd, AddsGathered, FailsToAdd, AddsTo, AddsFiles, added_line, files_outcome}

-- what is met where no stores are read besides
abbrev pub world : Feeding → Shelving → Sinking → World
world feeds shelf out = record { feeds = feeds; shelf = shelf; others = []; out = out }

-- the steps of the sessions are a use of the store in which nothing is read
pub adds_use : (tried : List Tried) (before after : Shelving) → Adds tried before after → Uses tried before after
adds_use tried before after a = reads_use tried before before after after (keeps_none is_reading before) a (keeps_none is_reading after)

-- There is no tree of the files.
refuses_adds : (name : DigestName) (files : List Word) (before after : LentToAdd) (fault : GatherFault) → Refuses files before.feeds after.feeds fault → after.out ≡ before.out
    → AddsTo name files [] before after (files_outcome fault)
refuses_adds name files before after (gather.Read file) r w = (r, (refl, w))
refuses_adds name files before after (gather.Absent file) r w = (r, (refl, w))
refuses_adds name files before after (gather.TooLong file limit) r w = (r, (refl, w))
refuses_adds name files before after (gather.Twice twice) r w = (r, (refl, w))
refuses_adds name files before after (gather.TooLarge what limit) r w = (r, (refl, w))
refuses_adds name files before after gather.Memory r w = inl (r, (refl, w))

refuses_stay : (files : List Word) (f g : Feeding) (fault : GatherFault) → Refuses files f g fault → FeedsStay f g
refuses_stay files f g (gather.Read file) r = asks_stay _ f g r.0.asked
refuses_stay files f g (gather.Absent file) r = asks_stay _ f g r.0.asked
refuses_stay files f g (gather.TooLong file limit) r = asks_stay _ f g r.0.asked
refuses_stay files f g (gather.Twice twice) r = asks_stay _ f g r.1.asked.asked
refuses_stay files f g (gather.TooLarge limit.Size number) r = asks_stay _ f g r.1.asked.asked
refuses_stay files f g (gather.TooLarge limit.Nodes number) r = asks_stay _ f g r.1.asked.asked
refuses_stay files f g (gather.TooLarge limit.Depth number) r = absurd r
refuses_stay files f g gather.Memory r = asks_stay _ f g r.1.asked

pub not_gathered : (name : DigestName) (files : List Word) (f g : Feeding) (shelf : Shelving) (out : Sinking) (fault : GatherFault) (outcome : Outcome) → Refuses files f g fault → outcome ≡ files_outcome fault
    → AddsFiles name files (world f shelf out) (world g shelf out) outcome
not_gathered name files f g shelf out fault outcome r e = record {
  feeds = refuses_stay files f g fault r;
  tried = [];
  comes = subst (λ x. AddsTo name files [] (record { feeds = f; out = out }) (record { feeds = g; out = out }) x) (sym e)
      (refuses_adds name files (record { feeds = f; out = out }) (record { feeds = g; out = out }) fault r refl);
  shelf = adds_nothing shelf;
  stored = uses_gain [] shelf shelf (adds_use [] shelf shelf (adds_nothing shelf));
  others = tt;
}

-- There is one, and its adding was answered: what comes of that is the outcome.
answered : (name : DigestName) (files : List Word) (f g : Feeding) (k l : Shelving) (o p : Sinking) (tree : Dir) (answer : Result Added AddFault) (outcome : Outcome)
    → Gathers files f g tree → AddsTree name tree k l answer
    → ((tried : List Tried) → AddsGathered name files tried f g answer → AddsTo name files tried (record { feeds = f; out = o }) (record { feeds = g; out = p }) outcome)
    → AddsFiles name files (world f k o) (world g l p) outcome
answered name files f g k l o p tree answer outcome gathers t comes = record {
  feeds = asks_stay files f g gathers.got.asked.asked;
  tried = t.tried;
  comes = comes t.tried (record { tree = tree; gathers = gathers; ends = t.ends });
  shelf = t.adds;
  stored = uses_gain t.tried k l (adds_use t.tried k l t.adds);
  others = tt;
}

tells : (name : DigestName) (files : List Word) (before after : LentToAdd) (a : Added) (outcome : Outcome) → Prints (added_line a) before.out after.out outcome
    → (tried : List Tried) → AddsGathered name files tried before.feeds after.feeds (Ok a) → AddsTo name files tried before after outcome
tells name files before after a outcome (inl (w, e)) tried c = subst (λ x. AddsTo name files tried before after x) (sym e) (a, c, w)
tells name files before after a outcome (inr (inl (w, e))) tried c = subst (λ x. AddsTo name files tried before after x) (sym e) (a, c, w)
tells name files before after a outcome (inr (inr (w, e))) tried c = subst (λ x. AddsTo name files tried before after x) (sym e) (inr (inr (a, c, w)))

-- it was added, and its line is printed
pub added : (name : DigestName) (files : List Word) (f g : Feeding) (k l : Shelving) (o p : Sinking) (tree : Dir) (a : Added) (outcome : Outcome)
    → Gathers files f g tree → AddsTree name tree k l (Ok a) → Prints (added_line a) o p outcome → AddsFiles name files (world f k o) (world g l p) outcome
added name files f g k l o p tree a outcome gathers t printed =
    answered name files f g k l o p tree (Ok a) outcome gathers t (tells name files (record { feeds = f; out = o }) (record { feeds = g; out = p }) a outcome printed)

-- it wasn't added
pub not_added : (name : DigestName) (files : List Word) (f g : Feeding) (k l : Shelving) (o : Sinking) (tree : Dir) (x why : AddFault) (outcome : Outcome)
    → Gathers files f g tree → x ≡ why → AddsTree name tree k l (Err x)
    → ((tried : List Tried) → FailsToAdd name files tried (record { feeds = f; out = o }) (record { feeds = g; out = o }) why → AddsTo name files tried (record { feeds = f; out = o }) (record { feeds = g; out = o }) outcome)
    → AddsFiles name files (world f k o) (world g l o) outcome
not_added name files f g k l o tree x why outcome gathers is t comes =
    answered name files f g k l o o tree (Err why) outcome gathers (subst (λ y. AddsTree name tree k l (Err y)) is t) (λ tried n. comes tried (n, refl))

-- Where stores are read besides, no call of them was made.
pub adds_besides : (name : DigestName) (files : List Word) (others : List Shelving) (f g : Feeding) (k l : Shelving) (o p : Sinking) (outcome : Outcome) → AddsFiles name files (world f k o) (world g l p) outcome
    → AddsFiles name files (record { feeds = f; shelf = k; others = others; out = o }) (record { feeds = g; shelf = l; others = others; out = p }) outcome
adds_besides name files others f g k l o p outcome a = record {
  feeds = a.feeds;
  tried = a.tried;
  comes = a.comes;
  shelf = a.shelf;
  stored = a.stored;
  others = each_same Untouched untouched others;
}
