-- What the commands that add trees leave of the store, and that `download` never comes to Usage.
use Rattle.std.proofs.Common.{◌≡◌, ℕ, inl, inr, List}
use Rattle.zi_outside.specs.Views.{Feeding}
use Rattle.zi_shelf.specs.Shelving.{Shelving}
use Rattle.zi_recipe.specs.declared.fault.RecipeFault.{RecipeFault}
use Rattle.zi_recipe.specs.declared.fault.RecipeFault.TheVariants as recipe
use Rattle.zi_adding.specs.declared.adding.AddFault.{AddFault}
use Rattle.zi_adding.specs.declared.adding.AddFault.TheVariants as add
use Rattle.zi_adding.specs.Trying.{Tried}
use Rattle.zi_adding.specs.Gains.{Uses}
use Rattle.zi_sels.specs.Written.{document}
use Rattle.zi_outcome.specs.declared.outcome.Outcome.TheVariants.{Usage}
use Rattle.zi_world.specs.Shelves.{Lasts}
use Rattle.zi_world.specs.Meets.{Meets}
use Rattle.zi_choosing.specs.declared.asked.Asked.{Asked}
use Rattle.zi_choosing.specs.declared.chosen.Chosen.{Chosen}
use Rattle.zi_choosing.proofs.KnownLemmas.{unknown_right}
use Rattle.zi_fetching.specs.Outcomes.{unmade, unadded}
use Rattle.zi_fetching.specs.Fetching.{FetchesNot}
use Rattle.zi_fetching.specs.Download.{sources, Downloads, DownloadsTo, FetchesThen}
use Rattle.zi_storing.proofs.RightLemmas.{prints_right}
use Rattle.zi_text.proofs.ListLaws.{some_is}

-- `download`: what was read and added to can be used on
pub uses_last : (tried : List Tried) (before after : Shelving) → Uses tried before after → Lasts before after
uses_last tried before after u = record { tells = λ s h e. let w = u.works s h e in some_is after.told w.0 w.1; later = u.later; stays = u.stays }

-- and it never comes to Usage.
unmade_right : (fault : RecipeFault) (index : ℕ) → Usage index ≡ unmade fault → ⊥
unmade_right (recipe.FetchRead href) index e = cc e
unmade_right (recipe.NoRemote href) index e = cc e
unmade_right (recipe.WrongSize href said got) index e = cc e
unmade_right (recipe.Overlap path) index e = cc e
unmade_right (recipe.NoPath path) index e = cc e
unmade_right (recipe.TooLarge what limit) index e = cc e
unmade_right recipe.Memory index e = cc e

unadded_right : (fault : AddFault) (index : ℕ) → Usage index ≡ unadded fault → ⊥
unadded_right (add.BadName path) index e = cc e
unadded_right (add.Mismatch name found) index e = cc e
unadded_right (add.Crowded tried) index e = cc e
unadded_right (add.Failed blamed) index e = cc e
unadded_right add.Memory index e = cc e

pub not_right : (c : Chosen) (old : Feeding) (index : ℕ) (tried : List Tried) (new : Feeding) → FetchesNot c old (Usage index) tried new → ⊥
not_right c old index tried new (inl s) = (let e = s.is in (cc e))
not_right c old index tried new (inr (inl s)) = elim s.fails.fails [
  | inl made ↦ unmade_right made.0.fault index made.0.is
  | inr added ↦ unadded_right added.fault index added.is
]
not_right c old index tried new (inr (inr s)) = (let e = s.is in (cc e))

pub download_right : (asked : Asked) (before after : Meets) (index : ℕ) → Downloads asked before after (Usage index) → ⊥
download_right asked before after index d = by d.comes
  where
    then_right : (c : Chosen) → FetchesThen c d.tried before after (Usage index) → ⊥
    then_right c (inl (not, same)) = not_right c before.web index d.tried after.web not
    then_right c (inr fetched) = prints_right (document c.sels) before.out after.out index fetched.printed

    by : DownloadsTo asked d.tried before after (Usage index) → ⊥
    by (inl (inl none, nothing, same)) = unknown_right asked.table (sources before) (sources after) index none
    by (inl (inr found, nothing, same)) = found.1
    by (inr (c, chosen, cost, calm, then)) = then_right c then
