-- Each command that loads a universe ends as is due.
use Rattle.std.proofs.Common.{◌≡◌, ℕ, Bool, List, refl, sym, ap, ◌∙◌, Some, Result, Ok, Err}
use Rattle.zi_outside.specs.Views.{holding}
use Rattle.zi_universe.specs.declared.types.Interface.{Interface}
use Rattle.zi_outcome.specs.declared.outcome.Outcome.{Outcome}
use Rattle.zi_world.specs.Places.{AreTold}
use Rattle.zi_world.specs.World.{World, all_stores}
use Rattle.zi_choosing.specs.declared.asked.Asked.{Asked}
use Rattle.zi_choosing.specs.declared.shows.Shows.{Shows}
use Rattle.zi_choosing.specs.Wanted.{requirement_of}
use Rattle.zi_choosing.specs.Loaded.{DoesOver}
use Rattle.zi_choosing.specs.Select.{SelectsOver}
use Rattle.zi_choosing.specs.Refute.{RefutesOver, ChecksNone}
use Rattle.zi_choosing.specs.Check.{ChecksOver, ChecksBest}
use Rattle.zi_due.specs.Due.{Due, plainly, Ends}
use Rattle.zi_due.specs.Held.{Held}
use Rattle.zi_due.specs.Choosing.{ChoosesBy, OfUniverse, RefutesBy, ChecksBy, EndsSelect, EndsRefute, EndsCheck}
use Rattle.zi_due.specs.Laws.{TextsAreOne, SelectEndsAsDue, RefuteEndsAsDue, CheckEndsAsDue, LoadingsAreOne, LaunchesAreOne}
use Rattle.zi_due.proofs.KnowingEnds.{IsQuietAll, IsOfLoading, over_ends}

-- the laws
pub record DueLaws : Type 0 where
  pub texts : TextsAreOne
  pub select : SelectEndsAsDue
  pub refute : RefuteEndsAsDue
  pub check : CheckEndsAsDue
  pub loadings : LoadingsAreOne
  pub launches : LaunchesAreOne

plainly_same : (due outcome : Outcome) → due ≡ outcome → plainly due ≡ plainly outcome
plainly_same due outcome e = ap plainly e

module _ (laws : DueLaws) (asked : Asked) (before after : World) (held : Held) (outcome : Outcome) (told : AreTold (all_stores before) held.stores) (feeds : holding before.feeds ≡ Some held.feeds)
    (quiet : IsQuietAll before after) where
  pub select_command : (shows : Shows) (due : Due) → EndsSelect asked held due → DoesOver asked.table (SelectsOver asked.ask shows) before after outcome → Ends due outcome
  select_command shows due (result, comes, by) d =
      let By : Result (List Interface) Outcome → Due → Type 0 = ChoosesBy (requirement_of asked.ask) asked.ask.search in
      over_ends laws.texts asked (SelectsOver asked.ask shows) By before after held due outcome
      (λ known old new r q s l b. laws.select asked.ask shows known held.feeds old new outcome r due q s l b) (record { plain = λ o e. e }) told feeds quiet result comes by d

  pub refute_command : (proof : List ℕ) (due : Outcome) → EndsRefute asked proof held due → ChecksNone asked proof before after outcome → Ends (plainly due) outcome
  refute_command proof due (result, comes, by) d =
      let By : Result (List Interface) Outcome → Due → Type 0 = λ r q. OfUniverse (RefutesBy asked.ask proof held.feeds) r due in
      over_ends laws.texts asked (RefutesOver asked.ask proof) By before after held (plainly due) outcome
      (λ known old new r q s l b. laws.refute asked.ask proof known held.feeds old new outcome r due q s l b) (record { plain = λ o e. plainly_same due o e }) told feeds quiet result comes by d

  pub check_command : (sels proof : List ℕ) (due : Outcome) → EndsCheck asked sels proof held due → ChecksBest asked sels proof before after outcome → Ends (plainly due) outcome
  check_command sels proof due (result, comes, by) d =
      let By : Result (List Interface) Outcome → Due → Type 0 = λ r q. OfUniverse (ChecksBy asked.ask sels proof held.feeds) r due in
      over_ends laws.texts asked (ChecksOver asked.ask sels proof) By before after held (plainly due) outcome
      (λ known old new r q s l b. laws.check asked.ask sels proof known held.feeds old new outcome r due q s l b) (record { plain = λ o e. plainly_same due o e }) told feeds quiet result comes by d
