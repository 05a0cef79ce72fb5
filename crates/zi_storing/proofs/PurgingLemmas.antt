-- What the outcomes of `store purge` follow from, and what it leaves.
use Rattle.std.proofs.Common.{◌≡◌, ◌⊎◌, ℕ, inl, inr, List, [], map, Some, refl, sym, ◌∙◌, ap, subst, Result, Ok, Err}
use Rattle.std.specs.Prelude.{IsSome}
use Rattle.zi_digest.specs.declared.DigestName.{DigestName}
use Rattle.zi_digest.specs.Name.{spelling}
use Rattle.zi_outside.specs.Views.{Feeding, Sinking}
use Rattle.zi_shelf.specs.Names.{Name}
use Rattle.zi_shelf.specs.Shelving.{Shelving}
use Rattle.zi_store.specs.Stores.{Each}
use Rattle.zi_store.proofs.StoresLemmas.{each_same}
use Rattle.zi_purge.specs.Stepping.{standing}
use Rattle.zi_purge.specs.declared.purge.Purge.{Purge}
use Rattle.zi_purge.specs.declared.step.PurgeStep.TheVariants as step
use Rattle.zi_purging.specs.Purged.{Spares}
use Rattle.zi_purging.specs.Purging.{HasPurged, PurgesTo, PurgesStore}
use Rattle.zi_purging.specs.declared.purging.PurgeFault.{PurgeFault}
use Rattle.zi_purging.specs.declared.purging.PurgeFault.TheVariants as fault
use Rattle.zi_words.specs.Forms.{Word}
use Rattle.zi_sels.specs.declared.types.Selections.{Selections}
use Rattle.zi_opening.specs.Files.{digests_of, ReadsAll, ReadsNot, ReadsFiles}
use Rattle.zi_outcome.specs.declared.outcome.Outcome.{Outcome}
use Rattle.zi_outcome.specs.declared.outcome.Outcome.TheVariants.{Done, Usage, Crowded, StoreFault, SinkFault, Memory}
use Rattle.zi_outcome.specs.Writing.{Prints}
use Rattle.zi_world.specs.Asking.{FeedsStay}
use Rattle.zi_world.specs.Shelves.{Untouched, Lasts}
use Rattle.zi_world.specs.World.{World}
use Rattle.zi_text.proofs.ListLaws.{some_is}
use Rattle.zi_world.proofs.ShelvesLemmas.{untouched, untouched_lasts}
use Rattle.zi_storing.specs.StoreList.{names_text}
use Rattle.zi_storing.specs.StorePurge.{kept_by, Lent, ReadsNone, PurgesBut, PurgesRead, PurgesFiles, SparesNamed, purge_outcome}
use Rattle.zi_storing.proofs.AddingLemmas.{world}

-- The files aren't read.
pub files_unread : (files : List Word) (f g : Feeding) (shelf : Shelving) (out : Sinking) (outcome : Outcome) → ReadsFiles files f (Err outcome) g → FeedsStay f g
    → PurgesFiles files (world f shelf out) (world g shelf out) outcome
files_unread files f g shelf out outcome r stay = record {
  feeds = stay;
  comes = inl (record { why = r; shelf = untouched shelf; nothing = refl });
  others = tt;
}

-- the store can be used on
lasts_by : {result : Result Purge PurgeFault} (kept : List Name) (k l : Shelving) → PurgesStore kept k result l → Lasts k l
lasts_by kept k l s = record { tells = λ t h e. (let x = s.spares t h e in some_is l.told x.0 x.1); later = s.later; stays = s.stays }

-- They are read, and this is what is kept.
module _ (files : List Word) (f g : Feeding) (k l : Shelving) (o p : Sinking) (kept : List DigestName) (r : ReadsFiles files f (Ok kept) g) (stay : FeedsStay f g) where
  abbrev from : Lent
  from = record { shelf = k; out = o }

  abbrev to : Lent
  to = record { shelf = l; out = p }

  purges_but : (outcome : Outcome) (result : Result Purge PurgeFault) → PurgesStore (kept_by r.0) k result l → PurgesBut (kept_by r.0) from to outcome
      → PurgesFiles files (world f k o) (world g l p) outcome
  purges_but outcome result s h = record {
    feeds = stay;
    comes = inr (record { all = r.0; read = r.1; purges = h; spares = s.spares; shelf = lasts_by (kept_by r.0) k l s });
    others = tt;
  }

  -- by what the kept names are
  as_kept : (result : Result Purge PurgeFault) → PurgesStore (map spelling kept) k result l → PurgesStore (kept_by r.0) k result l
  as_kept result s = subst (λ ns. PurgesStore (map spelling ns) k result l) r.2 s

  fails_by : (why : PurgeFault) → PurgesTo (kept_by r.0) k (Err why) l → p ≡ o → PurgesBut (kept_by r.0) from to (purge_outcome why)
  fails_by (fault.Crowded tried) h e = (h, e)
  fails_by (fault.Failed blame) h e = (h, e)
  fails_by fault.Memory h e = inl (h, e)

  -- the purge came to no end
  pub purge_fails : (why : PurgeFault) (outcome : Outcome) → PurgesStore (map spelling kept) k (Err why) l → outcome ≡ purge_outcome why → p ≡ o → PurgesFiles files (world f k o) (world g l p) outcome
  purge_fails why outcome s e same =
      purges_but outcome (Err why) (as_kept (Err why) s) (subst (λ x. PurgesBut (kept_by r.0) from to x) (sym e) (fails_by why (as_kept (Err why) s).comes same))

  written : (gone : List DigestName) (outcome : Outcome) → HasPurged (kept_by r.0) k l step.Done (map spelling gone) → Prints (names_text gone) o p outcome
      → PurgesBut (kept_by r.0) from to outcome
  written gone outcome h (inl (w, e)) = subst (λ x. PurgesBut (kept_by r.0) from to x) (sym e) (gone, h, w)
  written gone outcome h (inr (inl (w, e))) = subst (λ x. PurgesBut (kept_by r.0) from to x) (sym e) (gone, h, w)
  written gone outcome h (inr (inr (w, e))) = subst (λ x. PurgesBut (kept_by r.0) from to x) (sym e) (inr (gone, h, w))

  -- the names are gone, and are written
  pub purge_tells : (x : Purge) (gone : List DigestName) (outcome : Outcome) → PurgesStore (map spelling kept) k (Ok x) l → map spelling gone ≡ (standing x).gone → Prints (names_text gone) o p outcome
      → PurgesFiles files (world f k o) (world g l p) outcome
  purge_tells x gone outcome s e w =
      purges_but outcome (Ok x) (as_kept (Ok x) s) (written gone outcome (subst (λ ns. HasPurged (kept_by r.0) k l step.Done ns) (sym e) (as_kept (Ok x) s).comes) w)

-- Where stores are read besides, no call of them was made.
pub purges_besides : (files : List Word) (others : List Shelving) (f g : Feeding) (k l : Shelving) (o p : Sinking) (outcome : Outcome) → PurgesFiles files (world f k o) (world g l p) outcome
    → PurgesFiles files (record { feeds = f; shelf = k; others = others; out = o }) (record { feeds = g; shelf = l; others = others; out = p }) outcome
purges_besides files others f g k l o p outcome a = record {
  feeds = a.feeds;
  comes = elim a.comes [
    | inl r ↦ inl (record { why = r.why; shelf = r.shelf; nothing = r.nothing })
    | inr r ↦ inr (record { all = r.all; read = r.read; purges = r.purges; spares = r.spares; shelf = r.shelf })
  ];
  others = each_same Untouched untouched others;
}

-- What it leaves, whatever it comes to.
pub purge_lasts : (files : List Word) (before after : World) (outcome : Outcome) → PurgesFiles files before after outcome → Lasts before.shelf after.shelf
purge_lasts files before after outcome d = elim d.comes [ inl r ↦ untouched_lasts before.shelf after.shelf r.shelf | inr r ↦ r.shelf ]

pub purge_spares : (files : List Word) (before after : World) (outcome : Outcome) → PurgesFiles files before after outcome → Untouched before.shelf after.shelf ⊎ SparesNamed files before after
purge_spares files before after outcome d = elim d.comes [
  | inl r ↦ inl r.shelf
  | inr r ↦ inr (record { all = r.all; read = r.read.are; spares = r.spares })
]
