-- The selection of a candidate can be carried, where the candidate and the address of its interface can be.
use Rattle.std.specs.Prelude.{option_map, filter}
use Rattle.std.proofs.Common.{ℕ, List, ◌++◌, Option, Some, None, codes, refl}
use Rattle.zi_policy.specs.declared.types.Arch.{Arch}
use Rattle.zi_policy.specs.declared.types.Stability.{Stability}
use Rattle.zi_policy.specs.declared.types.Stability.TheVariants.{Insecure, Buggy, Developer, Testing, Stable, Packaged, Preferred}
use Rattle.zi_reading.specs.Words.{optional}
use Rattle.zi_parts.specs.declared.types.Dep.{Dep}
use Rattle.zi_parts.specs.declared.types.Runner.{Runner}
use Rattle.zi_parts.specs.declared.types.Command.{Command}
use Rattle.zi_universe.specs.declared.types.Candidate.{Candidate}
use Rattle.zi_universe.specs.declared.types.Interface.{Interface}
use Rattle.zi_choice.specs.Choice.{Choice}
use Rattle.zi_choice.specs.Walk.{Walk, is_used}
use Rattle.zi_sels.specs.declared.types.Selection.{Selection}
use Rattle.zi_policy.specs.Stabilities.{stability_text}
use Rattle.zi_sels.specs.Chosen.{arch_text, plain, is_met, met, plain_runner, used_command, used_of, selection_by}
use Rattle.zi_doc_laws.specs.Trees.{IsCarried}
use Rattle.zi_doc_laws.proofs.CarriedLaws.{both_carried}
use Rattle.zi_sels_laws.proofs.LikeLaws.{Each}
use Rattle.zi_sels_laws.proofs.FreeLaws.{each_weak, each_map, sub_filter}
use Rattle.zi_written_laws.proofs.TextLaws.{shown_carried, IsCarriedOr}
use Rattle.zi_written_laws.proofs.PartLaws.{IsCarriedBinding, IsCarriedDep, IsCarriedRunner, IsCarriedCommand}
use Rattle.zi_written_laws.proofs.ImplLaws.{IsCarriedArch}
use Rattle.zi_written_laws.proofs.UniverseLaws.{IsCarriedCandidate}

pub record IsCarriedItem (item : Selection) : Type 0 where
  pub interface : IsCarried item.interface
  pub id : IsCarried item.id
  pub version : IsCarried item.version
  pub from_feed : IsCarried item.from_feed
  pub named : IsCarriedOr item.«package»
  pub local : IsCarriedOr item.local
  pub arch : IsCarriedOr item.arch
  pub released : IsCarriedOr item.released
  pub stability : IsCarriedOr item.stability
  pub deps : Each IsCarriedDep item.deps
  pub commands : Each IsCarriedCommand item.commands
  pub bindings : Each IsCarriedBinding item.bindings

arch_carried : (o : Option Arch) → IsCarriedArch o → IsCarriedOr (option_map arch_text o)
arch_carried None h = tt
arch_carried (Some a) h = both_carried (a.os ++ codes "-") a.machine (both_carried a.os (codes "-") h.0 (shown_carried (codes "-") refl)) h.1

stability_carried : (s : Stability) → IsCarried (stability_text s)
stability_carried Insecure = shown_carried (codes "insecure") refl
stability_carried Buggy = shown_carried (codes "buggy") refl
stability_carried Developer = shown_carried (codes "developer") refl
stability_carried Testing = shown_carried (codes "testing") refl
stability_carried Stable = shown_carried (codes "stable") refl
stability_carried Packaged = shown_carried (codes "packaged") refl
stability_carried Preferred = shown_carried (codes "preferred") refl

plain_carried : (d : Dep) → IsCarriedDep d → IsCarriedDep (plain d)
plain_carried d h = record { interface = h.interface; bindings = h.bindings }

met_carried : (u : List Interface) (s : Choice) (ds : List Dep) → Each IsCarriedDep ds → Each IsCarriedDep (met u s ds)
met_carried u s ds h =
    each_map IsCarriedDep plain (filter (is_met u s) ds) (each_weak IsCarriedDep (λ d. IsCarriedDep (plain d)) plain_carried (filter (is_met u s) ds) (sub_filter IsCarriedDep (is_met u s) ds h))

runner_carried : (o : Option Runner) → Each IsCarriedRunner (optional o) → Each IsCarriedRunner (optional (option_map plain_runner o))
runner_carried None h = tt
runner_carried (Some r) h = (record { dep = plain_carried r.dep h.0.dep; wanted = h.0.wanted; words = h.0.words }, tt)

used_carried : (u : List Interface) (s : Choice) (c : Command) → IsCarriedCommand c → IsCarriedCommand (used_command u s c)
used_carried u s c h = record {
  name = h.name;
  path = h.path;
  words = h.words;
  runner = runner_carried c.runner h.runner;
  deps = met_carried u s c.deps h.deps;
  bindings = h.bindings;
}

all_used : (u : List Interface) (s : Choice) (w : Walk) (i : ℕ) (cs : List Command) → Each IsCarriedCommand cs → Each IsCarriedCommand (used_of u s w i cs)
all_used u s w i cs h =
    each_map IsCarriedCommand (used_command u s) (filter (λ c. is_used w i c.name) cs)
    (each_weak IsCarriedCommand (λ c. IsCarriedCommand (used_command u s c)) (used_carried u s) (filter (λ c. is_used w i c.name) cs) (sub_filter IsCarriedCommand (λ c. is_used w i c.name) cs h))

pub made_carried : (u : List Interface) (s : Choice) (w : Walk) (i : ℕ) (uri : List ℕ) (k : Candidate) → IsCarried uri → IsCarriedCandidate k → IsCarriedItem (selection_by u s w i uri k)
unfolding selection_by
made_carried u s w i uri k known h = record {
  interface = known;
  id = h.imp.id;
  version = h.imp.version;
  from_feed = h.feed;
  named = h.imp.named;
  local = h.imp.local;
  arch = arch_carried k.imp.arch h.imp.arch;
  released = h.imp.released;
  stability = stability_carried k.standing.stability;
  deps = met_carried u s k.imp.deps h.imp.deps;
  commands = all_used u s w i k.imp.commands h.imp.commands;
  bindings = h.imp.bindings;
}
