-- The attributes of an element that was made, by their names.
use Rattle.std.proofs.Common.{◌≡◌, ℕ, Bool, true, false, cond, ◌&&◌, ◌||◌, List, [], ◌∷◌, ◌++◌, Option, Some, None, refl, sym, ap, subst, ◌∙◌}
use Rattle.std.specs.Prelude.{not, bytes_eq, option_map, unwrap_or, if◌then◌else◌}
use Rattle.std.specs.List.{find, list_any}
use Rattle.std.proofs.lemmas.Slice.Eq.{bytes_eq-Decides}
use Rattle.std.proofs.lemmas.Bool.{and_parts, not-true}
use Rattle.zi_elements.specs.declared.element.Attr.{Attr}
use Rattle.zi_elements.specs.Forest.{is_attribute, value_among}
use Rattle.zi_docout.specs.Elements.{attr}
use Rattle.zi_sels.specs.Written.{attr_of, attr_unless}

-- a name, and the value where there is one
pub record Field : Type 0 where
  pub name : List ℕ
  pub value : Option (List ℕ)

abbrev pub field : List ℕ → Option (List ℕ) → Field
field name value = record { name = name; value = value }

-- those that have values, as attributes
abbrev pub fields : List Field → List Attr
fields [] = []
fields (f ∷ fs) = attr_of f.name f.value ++ fields fs

-- the value of a name
abbrev pub look : List ℕ → List Field → Option (List ℕ)
look name [] = None
look name (f ∷ fs) = if bytes_eq f.name name then f.value else look name fs

-- no name stands twice
abbrev pub are_apart : List Field → Bool
are_apart [] = true
are_apart (f ∷ fs) = not (list_any (λ (g : Field). bytes_eq g.name f.name) fs) && are_apart fs

absent : (name : List ℕ) (fs : List Field) → list_any (λ (g : Field). bytes_eq g.name name) fs ≡ false → look name fs ≡ None
absent name [] h = refl
absent name (f ∷ fs) h = either (bytes_eq f.name name) h (absent name fs)
  where
    either : (b : Bool) → (b || list_any (λ (g : Field). bytes_eq g.name name) fs) ≡ false
        → (list_any (λ (g : Field). bytes_eq g.name name) fs ≡ false → look name fs ≡ None) → (if b then f.value else look name fs) ≡ None
    either true k more = absurd (cc k)
    either false k more = more k

pub looked : (name : List ℕ) (fs : List Field) → are_apart fs ≡ true → value_among name (fields fs) ≡ look name fs
looked name [] apart = refl
looked name (f ∷ fs) apart =
    let parts = and_parts (not (list_any (λ (g : Field). bytes_eq g.name f.name) fs)) (are_apart fs) apart in
    either f.value (bytes_eq f.name name) refl (looked name fs parts.1) (λ is. absent name fs (subst (λ n. list_any (λ (g : Field). bytes_eq g.name n) fs ≡ false) is (not-true _ parts.0)))
  where
    either : (v : Option (List ℕ)) (b : Bool) → bytes_eq f.name name ≡ b → value_among name (fields fs) ≡ look name fs → (f.name ≡ name → look name fs ≡ None)
        → value_among name (attr_of f.name v ++ fields fs) ≡ (if b then v else look name fs)
    either None true is rest none = rest ∙ none ((bytes_eq-Decides f.name name).0 is)
    either None false is rest none = rest
    either (Some v) true is rest none = ap (λ b. option_map (λ (a : Attr). a.value) (cond b (Some (attr f.name v)) (find (is_attribute name) (fields fs)))) is
    either (Some v) false is rest none = ap (λ b. option_map (λ (a : Attr). a.value) (cond b (Some (attr f.name v)) (find (is_attribute name) (fields fs)))) is ∙ rest

-- A value that is left out where it is another one.

abbrev pub unless : List ℕ → List ℕ → Option (List ℕ)
unless default value = if bytes_eq value default then None else Some value

pub unless_field : (default name value : List ℕ) → attr_unless default name value ≡ attr_of name (unless default value)
unless_field default name value = either (bytes_eq value default)
  where
    either : (b : Bool) → (if b then [] else attr name value ∷ []) ≡ attr_of name (if b then None else Some value)
    either true = refl
    either false = refl

pub unless_back : (default value : List ℕ) → unwrap_or (unless default value) default ≡ value
unless_back default value = either (bytes_eq value default) refl
  where
    either : (b : Bool) → bytes_eq value default ≡ b → unwrap_or (if b then None else Some value) default ≡ value
    either true is = sym ((bytes_eq-Decides value default).0 is)
    either false is = refl

-- functions of what is the same give the same
pub app : {A B : Type 0} {f g : A → B} {a b : A} → f ≡ g → a ≡ b → f a ≡ g b
app {g = g} {a = a} p q = ap (λ h. h a) p ∙ ap g q
