-- What implementations and imports mean (the Zero Install feed format). A path goes from the outermost group to the
-- implementation.
use Rattle.std.specs.Prelude.{ℕ, Bool, List, [], ◌∷◌, ◌++◌, Option, Some, None, option_map, option_and_then, unwrap_or, codes, if◌then◌else◌}
use Rattle.std.specs.List.{list_any, filter_map, flat_map}
use Rattle.zi_elements.specs.Forest.{Elem, attribute, value}
use Rattle.zi_version.specs.Range.{a_version}
use Rattle.zi_policy.specs.Platform.{arch_of}
use Rattle.zi_policy.specs.declared.types.Stability.TheVariants.{Testing}
use Rattle.zi_address.specs.Texts.{same}
use Rattle.zi_address.specs.Address.{is_local, placed}
use Rattle.zi_reading.specs.Words.{latest, words_in}
use Rattle.zi_reading.specs.Forms.{stability_of}
use Rattle.zi_reading.specs.Ways.{Ways, AsWritten, InFeed}
use Rattle.zi_reading.specs.Reading.{parts}
use Rattle.zi_parts.specs.Values.{address_in, deps_of, commands_of, bindings_of}
use Rattle.zi_parts.specs.declared.types.Impl.{Impl}
use Rattle.zi_parts.specs.declared.types.Import.{Import}
use Rattle.zi_parts.specs.declared.types.Dep.{Dep}
use Rattle.zi_parts.specs.declared.types.Binding.{Binding}
use Rattle.zi_parts.specs.declared.types.Command.{Command}
use Rattle.zi_parts.specs.Digests.{digests_of}
use Rattle.zi_parts.specs.Methods.{method_of}
use Rattle.zi_faults.specs.Sites.{Site, path}
use Rattle.zi_faults.specs.Said.{Said, said, version_text, local_text}

-- two commands of one name
abbrev pub are_alike : Command → Command → Bool
are_alike c d = same c.name d.name

-- the command that `main` means
abbrev pub main_command : List ℕ → Command
main_command p = record { name = codes "run"; path = Some p; words = []; runner = None; deps = []; bindings = []; unbuilt = None }

abbrev pub is_run : Command → Bool
is_run c = same c.name (codes "run")

-- `main` counts where there is no command `run`
abbrev pub with_main : Option (List ℕ) → List Command → List Command
with_main None cs = cs
with_main (Some p) cs = if list_any is_run cs then cs else cs ++ main_command p ∷ []

-- where it lies, in a feed that is local
abbrev pub local_in : List ℕ → Said → Elem → Option (List ℕ)
local_in uri s e = if is_local uri then option_and_then (placed uri) (local_text s e) else None

abbrev pub local_of : Ways → Said → Elem → Option (List ℕ)
local_of AsWritten s e = None
local_of (InFeed uri) s e = local_in uri s e

abbrev pub langs_of : Option (List ℕ) → List (List ℕ)
langs_of text = words_in (unwrap_or text [])

-- The implementation of an element, of a version, where this is said along its path and its groups and itself have these
-- dependencies, commands and bindings, outer ones first. A command further in replaces an outer one of its name.
abbrev pub impl_with : Ways → Said → List Dep → List Command → List Binding → Elem → List ℕ → Impl
impl_with ways s deps commands bindings e version = record {
  id = value (codes "id") e;
  version = version;
  arch = option_and_then arch_of s.arch;
  stability = unwrap_or (option_and_then stability_of s.stability) Testing;
  langs = langs_of s.langs;
  released = s.released;
  local = local_of ways s e;
  digests = digests_of ways e;
  methods = filter_map (method_of ways) (parts ways e);
  deps = deps;
  commands = with_main s.main (latest are_alike commands);
  bindings = bindings;
  place = e.place;
  «package» = None;
}

-- the same; none where its version is none, which is a fault
unfoldable pub impl_from : Ways → Said → List Dep → List Command → List Binding → Elem → Option Impl
impl_from ways s deps commands bindings e =
    option_map (impl_with ways s deps commands bindings e) (option_and_then a_version (version_text s))

-- an implementation by its path: each attribute is the one on the last element that has it
unfoldable pub impl_of : Ways → Site → Option Impl
impl_of ways s =
    let es = path s in
    impl_from ways (said es) (flat_map (deps_of ways) es) (flat_map (commands_of ways) es) (flat_map (bindings_of ways) es) s.element

unfoldable pub import_of : Ways → Elem → Import
import_of ways e = record {
  uri = address_in ways (codes "src") e;
  arch = option_and_then arch_of (attribute (codes "arch") e);
  langs = langs_of (attribute (codes "langs") e);
}
