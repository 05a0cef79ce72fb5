-- `download`: what the best choice selects is fetched, and its document is written.
use Rattle.std.specs.Prelude.{◌≡◌, ◌⊎◌, List, [], ◌∷◌, map, Some, IsSome, All, Contains, Err}
use Rattle.zi_digest.specs.declared.DigestName.{DigestName}
use Rattle.zi_digest.specs.Name.{spelling}
use Rattle.zi_tree.specs.Dir.{Dir}
use Rattle.zi_outside.specs.Views.{Feeding}
use Rattle.zi_shelf.specs.Shelved.{Shelved}
use Rattle.zi_shelf.specs.Shelving.{Shelving}
use Rattle.zi_shelf.specs.Told.{Told}
use Rattle.zi_store.specs.Keeping.{Keeps, is_names}
use Rattle.zi_store.specs.Stores.{Each, IsCalm, HaveNames}
use Rattle.zi_sels.specs.declared.types.Selection.{Selection}
use Rattle.zi_sels.specs.Written.{document}
use Rattle.zi_adding.specs.Trying.{Tried, CostsAll}
use Rattle.zi_adding.specs.Gains.{Uses, GainsOnly}
use Rattle.zi_outcome.specs.declared.outcome.Outcome.{Outcome}
use Rattle.zi_outcome.specs.Writing.{Prints}
use Rattle.zi_world.specs.Asking.{FeedsStay}
use Rattle.zi_world.specs.Meets.{Meets}
use Rattle.zi_world.specs.Places.{AreTold}
use Rattle.zi_choosing.specs.declared.asked.Asked.{Asked}
use Rattle.zi_choosing.specs.declared.chosen.Chosen.{Chosen}
use Rattle.zi_choosing.specs.Table.{HasTable}
use Rattle.zi_choosing.specs.Knowing.{Sources}
use Rattle.zi_choosing.specs.Finding.{IsChosen, FindsOver}
use Rattle.zi_fetching.specs.Known.{Names}
use Rattle.zi_fetching.specs.Fetching.{From, from_chosen, IsInstalled, Fetches, FetchesNot}

-- all stores, in the order in which they are searched
abbrev pub stores_of : Meets → List Shelving
stores_of m = m.shelf ∷ m.others

-- what the choosing is lent of that
abbrev pub sources : Meets → Sources
sources m = record { feeds = m.feeds; stores = stores_of m }

-- nothing was fetched
abbrev pub NothingFetched : List Tried → Feeding → Feeding → Type 0
NothingFetched tried before after = (tried ≡ []) × (after ≡ before)

-- The best choice was made over the names in the stores and the packages in the table.
pub record HasChosen (asked : Asked) (stores : List Shelving) (before : Feeding) (c : Chosen) (after : Feeding) : Type 0 where
  pub names : HaveNames stores c.known.each
  -- as they were behind the table
  pub feeds : Feeding
  pub table : HasTable asked.table before c.known.packages feeds
  pub chosen : IsChosen asked.ask feeds c after

-- a tree stands under one of its digests in one of the stores
abbrev pub HasTree : List (Shelved Dir) → Selection → Type 0
HasTree held x = (d : DigestName) × Contains x.digests d × (s : Shelved Dir) × Contains held s × IsSome (s.tops (spelling d))

-- what is selected has a path of its own, or is a package that is installed, or has such a tree
abbrev pub StandsIn : From → List (Shelved Dir) → Selection → Type 0
StandsIn on held x = IsSome x.local ⊎ (IsInstalled on x ⊎ HasTree held x)

-- so it is of all selections at the end, where all stores are honest and told what they held
abbrev pub AreThere : From → List Shelving → List Shelving → List Selection → Type 0
AreThere on before after items = (ss : List Told) → AreTold before ss → (ts : List Told) × AreTold after ts × All (StandsIn on (map (λ (t : Told). t.shelf) ts)) items

-- All that is selected was fetched, each is there at the end, and the document is printed.
pub record FetchesAndPrints (c : Chosen) (tried : List Tried) (before after : Meets) (outcome : Outcome) : Type 0 where
  pub stored : Names
  pub fetched : Fetches c before.web stored tried after.web
  pub there : AreThere (from_chosen c) (stores_of before) (stores_of after) c.sels.items
  pub printed : Prints (document c.sels) before.out after.out outcome

-- Behind the choice: one of the selections can't be fetched, and nothing is written; or the document is printed.
abbrev pub FetchesThen : Chosen → List Tried → Meets → Meets → Outcome → Type 0
FetchesThen c tried before after outcome =
    (FetchesNot c before.web outcome tried after.web × (after.out ≡ before.out)) ⊎ FetchesAndPrints c tried before after outcome

-- how far it comes, to which outcome; behind the choice no call of the other stores failed
abbrev pub DownloadsTo : Asked → List Tried → Meets → Meets → Outcome → Type 0
DownloadsTo asked tried before after outcome =
    (FindsOver asked (sources before) (sources after) (Err outcome) × NothingFetched tried before.web after.web × (after.out ≡ before.out))
    ⊎ ((c : Chosen) × HasChosen asked (stores_of before) before.feeds c after.feeds × CostsAll tried before.shelf after.shelf
    × Each IsCalm before.others after.others × FetchesThen c tried before after outcome)

-- Whatever the outcome, feeds and web hold what they held, the stored trees are as before but for those whose adding was begun, which was in
-- the store that is written, and the other stores were asked for their names alone.
pub record Downloads (asked : Asked) (before after : Meets) (outcome : Outcome) : Type 0 where
  pub feeds : FeedsStay before.feeds after.feeds
  pub web : FeedsStay before.web after.web
  pub tried : List Tried
  pub comes : DownloadsTo asked tried before after outcome
  pub shelf : Uses tried before.shelf after.shelf
  pub stored : GainsOnly tried before.shelf after.shelf
  pub others : Each (Keeps is_names) before.others after.others
