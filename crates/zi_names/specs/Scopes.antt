-- What start tags mean in the scopes of the open elements (Namespaces in XML 1.0, 6).
use Rattle.std.specs.Prelude.{◌≡◌, ℕ, true, false, List, [], ◌∷◌}
use Rattle.zi_names.specs.declared.attributes.Raw.{Raw}
use Rattle.zi_names.specs.declared.attributes.Binding.{Binding}
use Rattle.zi_names.specs.declared.entered.Started.{Started as Tag}
use Rattle.zi_names.specs.declared.entered.Entered.{Entered}
use Rattle.zi_names.specs.declared.entered.Entered.TheVariants.{Started, BadPrefix, Repeated}
use Rattle.zi_names.specs.Names.{prefix, local, address_of, attributes_of, scope_in, has_bad_prefix, has_repeated}

-- the scope of the innermost open element
abbrev pub innermost : List (List Binding) → List Binding
innermost [] = []
innermost (s ∷ ss) = s

-- the tag is resolved so inside its scope
pub record Resolves (n : List ℕ) (ws : List Raw) (inside : List Binding) (t : Tag) : Type 0 where
  pub space : t.space ≡ address_of inside (prefix n)
  pub name : t.name ≡ local n
  pub attributes : t.attrs ≡ attributes_of ws inside

-- the tag keeps the constraints and is resolved so, and the new scopes are the old ones and its own
pub record Opens (n : List ℕ) (ws : List Raw) (old new : List (List Binding)) (t : Tag) : Type 0 where
  pub entered : new ≡ scope_in ws (innermost old) ∷ old
  pub prefixes : has_bad_prefix n ws (scope_in ws (innermost old)) ≡ false
  pub distinct : has_repeated ws (scope_in ws (innermost old)) ≡ false
  pub resolved : Resolves n ws (scope_in ws (innermost old)) t

-- what comes of a start tag of this name with these attributes
abbrev pub Enters : List ℕ → List Raw → List (List Binding) → List (List Binding) → Entered → Type 0
Enters n ws old new (Started t) = Opens n ws old new t
Enters n ws old new BadPrefix = has_bad_prefix n ws (scope_in ws (innermost old)) ≡ true
Enters n ws old new Repeated = (has_bad_prefix n ws (scope_in ws (innermost old)) ≡ false) × (has_repeated ws (scope_in ws (innermost old)) ≡ true)
