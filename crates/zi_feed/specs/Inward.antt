-- What is made of what is said along a path, what its elements add, and the implementations and packages, by the recursion that
-- carries both.
use Rattle.std.specs.Prelude.{ℕ, ◌≡◌, false, ◌||◌, List, [], ◌∷◌, ◌++◌, Option, Some, None, option_and_then, if◌then◌else◌}
use Rattle.std.specs.List.{list_any}
use Rattle.zi_elements.specs.Forest.{Forest, none, child, Elem}
use Rattle.zi_version.specs.Range.{a_version}
use Rattle.zi_policy.specs.Platform.{arch_of}
use Rattle.zi_policy.specs.declared.types.Policy.{Policy}
use Rattle.zi_address.specs.Address.{is_local, placed}
use Rattle.zi_reading.specs.Words.{optional, latest}
use Rattle.zi_reading.specs.Ways.{Ways, AsWritten, InFeed}
use Rattle.zi_parts.specs.Values.{deps_of, commands_of, bindings_of}
use Rattle.zi_parts.specs.declared.types.Impl.{Impl}
use Rattle.zi_parts.specs.declared.types.Native.{Native}
use Rattle.zi_faults.specs.Said.{Said, version_text, taken}
use Rattle.zi_faults.specs.Faults.{counts}
use Rattle.zi_faults.specs.Carrying.{carry}
use Rattle.zi_feed.specs.Impls.{langs_of, are_alike, is_run, impl_from}
use Rattle.zi_feed.specs.Natives.{counts_native, native_with}
use Rattle.zi_feed.specs.Active.{kept_own}
use Rattle.zi_feed.specs.declared.along.Own.{Own}
use Rattle.zi_feed.specs.declared.along.Added.{Added}
use Rattle.zi_feed.specs.declared.made.Made.{Made}

-- Where a local path lies, in a feed that is local.
abbrev pub placed_in : Ways → Option (List ℕ) → Option (List ℕ)
placed_in AsWritten text = None
placed_in (InFeed uri) text = if is_local uri then option_and_then (placed uri) text else None

-- what is made of what is said along a path
abbrev pub made_of : Ways → Said → Made
made_of ways s = record {
  version = option_and_then a_version (version_text s);
  arch = option_and_then arch_of s.arch;
  langs = langs_of s.langs;
  local = placed_in ways s.local_path;
}

-- What a group or an implementation adds.
abbrev pub own_of : Ways → Elem → Own
own_of ways e = record { deps = deps_of ways e; commands = commands_of ways e; bindings = bindings_of ways e }

-- what the elements along a path add: nothing, and with one element more
abbrev pub added_nothing : Added
added_nothing = record { deps = []; commands = []; has_run = false; bindings = [] }

abbrev pub added_with : Added → Own → Added
added_with a o = record {
  deps = a.deps ++ o.deps;
  commands = latest are_alike (a.commands ++ o.commands);
  has_run = a.has_run || list_any is_run o.commands;
  bindings = a.bindings ++ o.bindings;
}

-- each command is the latest of its name, and it is known whether one is `run`
pub record IsAdded (a : Added) : Type 0 where
  pub latest_alone : latest are_alike a.commands ≡ a.commands
  pub run : a.has_run ≡ list_any is_run a.commands

-- the implementation at an element, where this is said there and this is added along its path, itself included
unfoldable pub impl_at : Ways → Said → Added → Elem → Option Impl
impl_at ways s a e = impl_from ways s a.deps a.commands a.bindings e

-- what goes inward: what is said, and what is added
abbrev pub State : Type 0
State = Said × Added

abbrev pub entered : Ways → Option Policy → State → Elem → State
entered ways p s e = (taken s.0 e, added_with s.1 (kept_own p (own_of ways e)))

abbrev pub impls_at : Ways → Option Policy → State → Elem → List Impl
impls_at ways p s e = if counts e then optional (impl_at ways (taken s.0 e) (added_with s.1 (kept_own p (own_of ways e))) e) else []

-- the implementations among nodes, where this goes inward
unfoldable pub carried_impls : Ways → Option Policy → State → List ℕ → Forest → List Impl
carried_impls ways p s parent f = carry (entered ways p) (impls_at ways p) ways s parent f

abbrev pub carried_impls_in : Ways → Option Policy → State → List ℕ → Elem → List Impl
carried_impls_in ways p s parent e = carried_impls ways p s parent (child e.space e.name e.attrs e.inside e.place none)

-- what an element says of a package, where this is said there and this is added along its path, itself included
unfoldable pub native_at : Said → Added → Elem → Native
native_at s a e = native_with s a.deps a.commands a.bindings e

abbrev pub natives_at : Ways → Option Policy → State → Elem → List Native
natives_at ways p s e = if counts_native e then native_at (taken s.0 e) (added_with s.1 (kept_own p (own_of ways e))) e ∷ [] else []

-- the packages among nodes, where this goes inward
unfoldable pub carried_natives : Ways → Option Policy → State → List ℕ → Forest → List Native
carried_natives ways p s parent f = carry (entered ways p) (natives_at ways p) ways s parent f

abbrev pub carried_natives_in : Ways → Option Policy → State → List ℕ → Elem → List Native
carried_natives_in ways p s parent e = carried_natives ways p s parent (child e.space e.name e.attrs e.inside e.place none)
