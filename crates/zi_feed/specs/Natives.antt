-- What a feed says of packages of the operating system (the Zero Install feed format). A path goes from the outermost group to the
-- `package-implementation`.
use Rattle.std.specs.Prelude.{ℕ, Bool, not, ◌&&◌, List, codes}
use Rattle.std.specs.List.{filter, flat_map}
use Rattle.zi_elements.specs.Forest.{Elem, value}
use Rattle.zi_reading.specs.Words.{latest, words_in}
use Rattle.zi_reading.specs.Ways.{Ways}
use Rattle.zi_reading.specs.Reading.{is, is_unclear}
use Rattle.zi_parts.specs.Values.{deps_of, commands_of, bindings_of}
use Rattle.zi_parts.specs.declared.types.Dep.{Dep}
use Rattle.zi_parts.specs.declared.types.Binding.{Binding}
use Rattle.zi_parts.specs.declared.types.Command.{Command}
use Rattle.zi_parts.specs.declared.types.Native.{Native}
use Rattle.zi_faults.specs.Sites.{Site, path}
use Rattle.zi_faults.specs.Said.{Said, said}
use Rattle.zi_feed.specs.Impls.{are_alike, langs_of, with_main}

abbrev pub is_package : Elem → Bool
is_package = is (codes "package-implementation")

-- it names a package, and something is read in it
abbrev pub counts_native : Elem → Bool
counts_native e = is_package e && not (is_unclear e)

abbrev pub packages : List Site → List Site
packages = filter (λ t. counts_native t.element)

-- What an element says of a package, where this is said along its path and its groups and itself have these dependencies,
-- commands and bindings, outer ones first. A command further in replaces an outer one of its name. The package's name and its
-- distributions are the element's own; no group says them.
abbrev pub native_with : Said → List Dep → List Command → List Binding → Elem → Native
native_with s deps commands bindings e = record {
  «package» = value (codes "package") e;
  distributions = words_in (value (codes "distributions") e);
  released = s.released;
  langs = langs_of s.langs;
  deps = deps;
  commands = with_main s.main (latest are_alike commands);
  bindings = bindings;
  place = e.place;
}

-- the same by its path: each attribute is the one on the last element that has it
unfoldable pub native_of : Ways → Site → Native
native_of ways t =
    let es = path t in
    native_with (said es) (flat_map (deps_of ways) es) (flat_map (commands_of ways) es) (flat_map (bindings_of ways) es) t.element
