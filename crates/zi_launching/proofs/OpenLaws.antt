-- What the launch of a document comes to, stage by stage.
use Rattle.std.proofs.Common.{ℕ, inl, inr, List, [], ◌∷◌, refl, Ok, Err}
use Rattle.zi_digest.specs.declared.DigestName.{DigestName}
use Rattle.zi_outside.specs.Views.{Feeding, Sinking}
use Rattle.zi_outside.specs.Launched.{Spawning}
use Rattle.zi_outside.specs.declared.var.Var.{Var}
use Rattle.zi_shelf.specs.Shelving.{Shelving}
use Rattle.zi_store.specs.Keeping.{Keeps, is_names, is_reading}
use Rattle.zi_store.specs.Stores.{Each}
use Rattle.zi_store.proofs.KeepingLemmas.{keeps_none}
use Rattle.zi_store.proofs.StoresLemmas.{each_same}
use Rattle.zi_sels.specs.declared.types.Selections.{Selections}
use Rattle.zi_adding.proofs.AddingLemmas.{adds_nothing}
use Rattle.zi_adding.proofs.HistoryLaws.{reads_use, uses_gain, names_only_read}
use Rattle.zi_outcome.specs.declared.outcome.Outcome.{Outcome}
use Rattle.zi_world.specs.Asking.{FeedsStay}
use Rattle.zi_world.specs.Shelves.{Untouched}
use Rattle.zi_world.proofs.ShelvesLemmas.{untouched}
use Rattle.zi_choosing.specs.Knowing.{all_names, AreNamed}
use Rattle.zi_fetching.specs.Known.{names_of}
use Rattle.zi_launching.specs.Launching.{LaunchesWith}
use Rattle.zi_opening.specs.Opening.{GetsSelections}
use Rattle.zi_launching.specs.Opening.{LaunchesFile}
use Rattle.zi_launching.proofs.LaunchLaws.{reads_then}
use Rattle.zi_launching.proofs.AddLaws.{read_use}
use Rattle.zi_launching.proofs.RunLaws.{lift_over}
use Rattle.zi_launching.proofs.LiftLaws.{all_named, all_only_read}

module _ (file : List ℕ) (vars : List Var) (user : List (List ℕ)) (old new web : Feeding) (out : Sinking) (stay : FeedsStay old new) where
  -- The document wasn't got.
  pub unread_file : (shelf : Shelving) (others : List Shelving) (spawner : Spawning) (outcome : Outcome) → GetsSelections file old (Err outcome) new
      → LaunchesFile file vars user (record { feeds = old; shelf = shelf; others = others; web = web; spawner = spawner; out = out }) (record { feeds = new; shelf = shelf; others = others; web = web; spawner = spawner; out = out }) outcome
  unread_file shelf others spawner outcome g =
      let u = reads_use [] shelf shelf shelf shelf (keeps_none is_reading shelf) (adds_nothing shelf) (keeps_none is_reading shelf) in
      record {
        feeds = stay;
        web = refl;
        out = refl;
        tried = [];
        comes = inl (refl, g, record { stores = each_same Untouched untouched (shelf ∷ others); nothing = refl });
        shelf = u;
        stored = uses_gain [] shelf shelf u;
        others = each_same (Keeps is_reading) (keeps_none is_reading) others;
      }

  -- The names in the stores weren't found out.
  pub unnamed_file : (sels : Selections) (shelf after : Shelving) (others thens : List Shelving) (spawner : Spawning) (outcome : Outcome) → GetsSelections file old (Ok sels) new
      → AreNamed (shelf ∷ others) (after ∷ thens) (Err outcome) → Each (Keeps is_names) (shelf ∷ others) (after ∷ thens)
      → LaunchesFile file vars user (record { feeds = old; shelf = shelf; others = others; web = web; spawner = spawner; out = out }) (record { feeds = new; shelf = after; others = thens; web = web; spawner = spawner; out = out }) outcome
  unnamed_file sels shelf after others thens spawner outcome g n k =
      let u = reads_use [] shelf after after after (names_only_read shelf after k.0) (adds_nothing after) (keeps_none is_reading after) in
      record {
        feeds = stay;
        web = refl;
        out = refl;
        tried = [];
        comes = inr (sels, g, inl (refl, n, k, refl));
        shelf = u;
        stored = uses_gain [] shelf after u;
        others = all_only_read others thens k.1;
      }

  -- The selections are launched.
  pub opened_file : (sels : Selections) (each : List (List DigestName)) (shelf mid after : Shelving) (others thens ends : List Shelving) (spawner then : Spawning) (outcome : Outcome) → GetsSelections file old (Ok sels) new
      → AreNamed (shelf ∷ others) (mid ∷ thens) (Ok each) → Each (Keeps is_names) (shelf ∷ others) (mid ∷ thens)
      → LaunchesWith (record { sels = sels; each = each; stored = names_of (all_names each); vars = vars; user = user }) (record { stores = mid ∷ thens; spawner = spawner }) (record { stores = after ∷ ends; spawner = then }) outcome
      → LaunchesFile file vars user (record { feeds = old; shelf = shelf; others = others; web = web; spawner = spawner; out = out }) (record { feeds = new; shelf = after; others = ends; web = web; spawner = then; out = out }) outcome
  opened_file sels each shelf mid after others thens ends spawner then outcome g n k l =
      let u = read_use l.tried shelf mid after (names_only_read shelf mid k.0) l.works.0 in
      record {
        feeds = stay;
        web = refl;
        out = refl;
        tried = l.tried;
        comes = inr (
          sels,
          g,
          inr (
            each,
            n.1,
            lift_over (shelf ∷ others) (mid ∷ thens) (after ∷ ends) (all_named (shelf ∷ others) (mid ∷ thens) n.0 k)
                (record { sels = sels; each = each; stored = names_of (all_names each); vars = vars; user = user }) l.tried spawner then outcome l.launches,
          ),
        );
        shelf = u;
        stored = uses_gain l.tried shelf after u;
        others = reads_then others thens ends (all_only_read others thens k.1) l.works.1;
      }
