-- A shelf that nothing was done to, and one that was only read.
use Rattle.std.proofs.Common.{◌≡◌, ◌∙◌, refl, sym, [], Bool, arith}
use Rattle.std.proofs.lemmas.List.{append-nil}
use Rattle.zi_shelf.specs.Shelving.{Shelving, Stays}
use Rattle.zi_shelf.specs.declared.call.CallKind.{CallKind}
use Rattle.zi_store.specs.Keeping.{Keeps}
use Rattle.zi_world.specs.Shelves.{Untouched, Lasts}
use Rattle.zi_store.proofs.StoresLemmas.{each_same}
use Rattle.zi_world.specs.World.{World, all_stores, NothingDone}
use Rattle.zi_text.proofs.ListLaws.{some_is}

stays_same : (shelf : Shelving) → Stays shelf shelf
stays_same shelf = record { honest = λ h. h; sure = λ s. s; in_memory = λ m. m; root = refl; plan = refl }

pub untouched : (shelf : Shelving) → Untouched shelf shelf
untouched shelf = record { told = refl; faults = refl; stays = stays_same shelf }

pub nothing_done : (world : World) → NothingDone world world
nothing_done world = record { feeds = refl; stores = each_same Untouched untouched (all_stores world); out = refl }

pub untouched_lasts : (before after : Shelving) → Untouched before after → Lasts before after
untouched_lasts before after u = record { tells = λ s h e. some_is after.told s (u.told ∙ e); later = omega (arith, u.faults); stays = u.stays }

pub keeps_lasts : (kinds : CallKind → Bool) (before after : Shelving) → Keeps kinds before after → Lasts before after
keeps_lasts kinds before after k = record { tells = λ s h e. let m = k.holds s h e in some_is after.told m.0 m.1; later = k.later; stays = k.stays }

-- no call is a call that reads
pub untouched_keeps : (kinds : CallKind → Bool) (before after : Shelving) → Untouched before after → Keeps kinds before after
untouched_keeps kinds before after u = record {
  holds = λ s h e. (s, u.told ∙ e, refl, record { more = []; is = sym (append-nil s.calls); of_kind = refl });
  later = omega (arith, u.faults);
  stays = u.stays;
}
