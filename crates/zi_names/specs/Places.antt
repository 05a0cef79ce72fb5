-- Bindings with an index of the newest of each prefix. Lists of bindings begin with the newest, and places count from the oldest.
use Rattle.std.specs.Prelude.{◌≡◌, ℕ, List, [], ◌∷◌, Option, Some, None, if◌then◌else◌, length, map}
use Rattle.std.specs.declared.alloc.Global.{Global}
use Rattle.std.specs.declared.string.String.{String}
use Rattle.std.specs.BTreeMap.{BTreeMap, get_by_text}
use Rattle.std.specs.Str.{bytes_eq}
use Rattle.zi_names.specs.declared.attributes.Binding.{Binding}
use Rattle.zi_names.specs.declared.bound.Bound.{Bound}

abbrev pub bindings_of : List Bound → List Binding
bindings_of bs = map (λ b. b.binding) bs

-- the place of the newest binding of a prefix
abbrev pub place : List Bound → List ℕ → Option ℕ
place [] p = None
place (b ∷ bs) p = if bytes_eq b.binding.prefix p then Some (length bs) else place bs p

-- each binding knows the one that it hides
abbrev pub IsLinked : List Bound → Type 0
IsLinked [] = Unit {0}
IsLinked (b ∷ bs) = (b.hides ≡ place bs b.binding.prefix) × IsLinked bs

-- the index has the newest binding of each prefix
pub record IsIndexed (bs : List Bound) (newest : BTreeMap (String Global) ℕ) : Type 0 where
  pub linked : IsLinked bs
  pub placed : (p : List ℕ) → get_by_text newest p ≡ place bs p
