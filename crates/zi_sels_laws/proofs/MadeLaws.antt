-- The selection of a candidate: it is as it may be written, since the candidate's implementation is one of a feed.
use Rattle.std.proofs.Common.{◌≡◌, ℕ, true, List, Option, Some, None, refl}
use Rattle.std.specs.Prelude.{filter, is_some, option_map}
use Rattle.std.proofs.lemmas.Bool.{and_parts}
use Rattle.zi_reading.specs.Words.{optional}
use Rattle.zi_parts.specs.declared.types.Dep.{Dep}
use Rattle.zi_parts.specs.declared.types.DepKind.{DepKind}
use Rattle.zi_parts.specs.declared.types.DepKind.TheVariants.{Essential, Recommended, Restricts}
use Rattle.zi_parts.specs.declared.types.Runner.{Runner}
use Rattle.zi_parts.specs.declared.types.Command.{Command}
use Rattle.zi_universe.specs.declared.types.Candidate.{Candidate}
use Rattle.zi_universe.specs.declared.types.Interface.{Interface}
use Rattle.zi_universe.specs.Candidates.{kind_asks, asks}
use Rattle.zi_choice.specs.Choice.{Choice}
use Rattle.zi_choice.specs.Walk.{Walk, is_used}
use Rattle.zi_choice.specs.Valid.{target}
use Rattle.zi_sels.specs.Chosen.{plain, is_met, met, plain_runner, used_command, used_of, selection_by}
use Rattle.zi_sels_laws.proofs.LikeLaws.{Each}
use Rattle.zi_sels_laws.proofs.DepLaws.{IsProperDep, IsAsked}
use Rattle.zi_sels_laws.proofs.RunnerLaws.{IsProperRunner}
use Rattle.zi_sels_laws.proofs.CommandLaws.{IsProperCommand}
use Rattle.zi_sels_laws.proofs.ItemLaws.{IsProperItem}
use Rattle.zi_sels_laws.proofs.AskedLaws.{IsMet}
use Rattle.zi_sels_laws.proofs.FreeLaws.{each_filter, each_weak, each_map, each_true, sub_filter}
use Rattle.zi_sels_laws.proofs.GivenLaws.{IsGivenDep, IsGivenRunner, IsGivenCommand}
use Rattle.zi_sels_laws.proofs.ApartLaws.{filter_apart, map_apart, apart_names}
use Rattle.zi_sels_laws.proofs.FeedLaws.{IsGiven, IsReadable}

-- Dependencies that are met.

asked : (k : DepKind) → kind_asks k ≡ true → IsAsked k
asked Essential h = tt
asked Recommended h = tt
asked Restricts h = absurd (cc h)

plain_proper : (u : List Interface) (s : Choice) (d : Dep) → IsGivenDep d → is_met u s d ≡ true → IsProperDep (plain d)
plain_proper u s d h k = record {
  kind = asked d.kind (and_parts (asks d) (is_some (target u s d)) k).0;
  ranges = refl;
  os = refl;
  wanted = refl;
  commands = h.commands;
  bindings = h.bindings (and_parts (asks d) (is_some (target u s d)) k).0;
}

met_proper : (u : List Interface) (s : Choice) (ds : List Dep) → Each IsGivenDep ds → Each IsProperDep (met u s ds)
met_proper u s ds h =
    each_map IsProperDep plain (filter (is_met u s) ds)
    (each_weak (λ d. IsGivenDep d × (is_met u s d ≡ true)) (λ d. IsProperDep (plain d)) (λ d k. plain_proper u s d k.0 k.1) (filter (is_met u s) ds) (each_filter IsGivenDep (is_met u s) ds h))

-- each of them is on an interface for which something is chosen
pub met_among : (is : List (List ℕ)) (u : List Interface) (s : Choice) → ((d : Dep) → is_some (target u s d) ≡ true → IsMet is d) → (ds : List Dep) → Each (IsMet is) (met u s ds)
met_among is u s one ds =
    each_map (IsMet is) plain (filter (is_met u s) ds)
    (each_weak (λ d. Unit {0} × (is_met u s d ≡ true)) (λ d. IsMet is (plain d)) (λ d k. one d (and_parts (asks d) (is_some (target u s d)) k.1).1) (filter (is_met u s) ds)
    (each_filter (λ d. Unit {0}) (is_met u s) ds (each_true ds)))

-- Commands that are used.

runner_proper : (o : Option Runner) → Each IsGivenRunner (optional o) → Each IsProperRunner (optional (option_map plain_runner o))
runner_proper None h = tt
runner_proper (Some r) h = (record { kind = h.0.kind; ranges = refl; os = refl; wanted = refl; commands = h.0.commands; bindings = h.0.bindings; words = h.0.words }, tt)

used_proper : (u : List Interface) (s : Choice) (c : Command) → IsGivenCommand c → IsProperCommand (used_command u s c)
used_proper u s c h = record {
  words = h.words;
  runner = runner_proper c.runner h.runner;
  deps = met_proper u s c.deps h.deps;
  bindings = h.bindings;
  unbuilt = h.unbuilt;
}

all_used : (u : List Interface) (s : Choice) (w : Walk) (i : ℕ) (cs : List Command) → Each IsGivenCommand cs → Each IsProperCommand (used_of u s w i cs)
all_used u s w i cs h =
    each_map IsProperCommand (used_command u s) (filter (λ c. is_used w i c.name) cs)
    (each_weak IsGivenCommand (λ c. IsProperCommand (used_command u s c)) (used_proper u s) (filter (λ c. is_used w i c.name) cs) (sub_filter IsGivenCommand (λ c. is_used w i c.name) cs h))

-- The whole of it.

pub made_proper : (u : List Interface) (s : Choice) (w : Walk) (i : ℕ) (uri : List ℕ) (k : Candidate) → IsGiven k.imp → IsReadable k.imp → IsProperItem (selection_by u s w i uri k)
unfolding selection_by
made_proper u s w i uri k h readable = record {
  id = h.id;
  version = readable.version;
  named = readable.named;
  local = h.local;
  digests = h.digests;
  deps = met_proper u s k.imp.deps h.deps;
  commands = all_used u s w i k.imp.commands h.commands;
  apart = apart_names (used_of u s w i k.imp.commands)
      (map_apart (used_command u s) (λ c. refl) (filter (λ c. is_used w i c.name) k.imp.commands) (filter_apart (λ c. is_used w i c.name) k.imp.commands h.apart));
  bindings = h.bindings;
}
