-- Elements of the namespace of feeds that have no condition: what they count as, and what stands in them.
use Rattle.std.proofs.Common.{◌≡◌, ℕ, Bool, true, false, cond, ◌&&◌, ◌||◌, List, [], ◌∷◌, None, codes, refl, sym, ap, subst, ◌∙◌}
use Rattle.std.specs.Prelude.{not, filter, if◌then◌else◌}
use Rattle.std.specs.List.{list_any}
use Rattle.zi_elements.specs.declared.element.Attr.{Attr}
use Rattle.zi_elements.specs.Forest.{Forest, Elem, elements, attribute}
use Rattle.zi_elements.specs.Namespace.{injector}
use Rattle.zi_docout.specs.Same.{IsSame}
use Rattle.zi_address.specs.Texts.{same}
use Rattle.zi_reading.specs.Ways.{AsWritten}
use Rattle.zi_reading.specs.Words.{is_among, listed}
use Rattle.zi_reading.specs.Reading.{is, is_unclear, is_left_out, is_unbuilt, is_closed, is_part, stands, read_in, parts, is_refused_by, binding_names, those}
use Rattle.zi_feed.specs.Means.{counts_as, counts_as_binding}
use Rattle.zi_reading.proofs.TextLaws.{same_text}
use Rattle.zi_sels_laws.proofs.LikeLaws.{Each, if_all, sifted}

-- an element of the namespace of feeds
abbrev pub here_is : List ℕ → List Attr → Forest → ℕ → Elem
here_is name attrs inside place = record { space = injector; name = name; attrs = attrs; inside = inside; place = place }

-- what is read where this was made
pub made_is : (n : List ℕ) (a : List Attr) (f : Forest) (r : Elem) → IsSame (record { space = injector; name = n; attrs = a; inside = f; place = 0 }) r → here_is n a r.inside r.place ≡ r
made_is n a f r s = step (sym s.space) (sym s.name) (sym s.attrs)
  where
    step : injector ≡ r.space → n ≡ r.name → a ≡ r.attrs → here_is n a r.inside r.place ≡ r
    step p q t = ap (λ (v : List ℕ). record { space = v; name = n; attrs = a; inside = r.inside; place = r.place }) p
        ∙ (ap (λ (v : List ℕ). record { space = r.space; name = v; attrs = a; inside = r.inside; place = r.place }) q
        ∙ ap (λ (v : List Attr). record { space = r.space; name = r.name; attrs = v; inside = r.inside; place = r.place }) t)

abbrev pub condition : List ℕ
condition = codes "if-0install-version"

-- it is of this name, and has no condition
pub record IsPlain (name : List ℕ) (r : Elem) : Type 0 where
  pub space : r.space ≡ injector
  pub named : r.name ≡ name
  pub free : attribute condition r ≡ None

pub free_clear : (r : Elem) → attribute condition r ≡ None → is_unclear r ≡ false
unfolding is_unclear
free_clear r h = rw h refl

pub free_stays : (r : Elem) → attribute condition r ≡ None → is_left_out r ≡ false
unfolding is_left_out
free_stays r h = ap is_refused_by h

-- it stands in an element of this name
abbrev pub stood : List ℕ → List ℕ → Bool
stood parent name = is_among (read_in parent) name && not (is_among (listed (codes "version restricts")) name)

ours : (s : List ℕ) → s ≡ injector → same s injector ≡ true
unfolding same injector
ours s h = rw h refl

pub plain_part : (parent name : List ℕ) (r : Elem) → IsPlain name r → is_part AsWritten parent r ≡ stood parent name
unfolding stands
plain_part parent name r p = rw (free_stays r p.free, free_clear r p.free, ours r.space p.space, p.named) (ends (is_among (read_in parent) name) (is_among (listed (codes "version restricts")) name))
  where
    ends : (a b : Bool) → ((true && a && not false && (false || not b)) && not false) ≡ (a && not b)
    ends true true = refl
    ends true false = refl
    ends false true = refl
    ends false false = refl

pub plain_counts : (name other : List ℕ) (r : Elem) → IsPlain name r → counts_as other r ≡ same name other
plain_counts name other r p = rw (free_stays r p.free, ours r.space p.space, p.named) (ends (same name other))
  where
    ends : (a : Bool) → ((true && a) && not false) ≡ a
    ends true = refl
    ends false = refl

pub plain_binding : (name : List ℕ) (r : Elem) → IsPlain name r → counts_as_binding r ≡ is_among binding_names name
plain_binding name r p = rw (free_stays r p.free, ours r.space p.space, p.named) (ends (is_among binding_names name))
  where
    ends : (a : Bool) → (true && a && not false) ≡ a
    ends true = refl
    ends false = refl

pub plain_among : (names : List (List ℕ)) (name : List ℕ) (r : Elem) → IsPlain name r → is_among names r.name ≡ is_among names name
plain_among names name r p = ap (is_among names) p.named

-- all that stands in an element that isn't closed is read
pub all_parts : (e : Elem) → is_closed e ≡ false → Each (λ r. is_part AsWritten e.name r ≡ true) (elements e.inside) → parts AsWritten e ≡ elements e.inside
unfolding parts
all_parts e open_ h = ap (λ b. if b then [] else filter (is_part AsWritten e.name) (elements e.inside)) open_ ∙ kept (elements e.inside) h
  where
    kept : (rs : List Elem) → Each (λ r. is_part AsWritten e.name r ≡ true) rs → filter (is_part AsWritten e.name) rs ≡ rs
    kept [] k = refl
    kept (r ∷ rs) k = ap (λ b. cond b (r ∷ filter (is_part AsWritten e.name) rs) (filter (is_part AsWritten e.name) rs)) k.0 ∙ ap (λ v. r ∷ v) (kept rs k.1)

-- an element of another name than that of a recipe is open, where its condition is none
pub plain_open : (name : List ℕ) (r : Elem) → IsPlain name r → same name (codes "recipe") ≡ false → is_closed r ≡ false
unfolding is_unbuilt
plain_open name r p other = rw (free_clear r p.free, ours r.space p.space, p.named, other) refl

-- a name that is among some is so where each of these is
pub among_each : (Q : List ℕ → Type 0) (names : List (List ℕ)) (n : List ℕ) → Each Q names → is_among names n ≡ true → Q n
unfolding is_among
among_each Q [] n h is = absurd (cc is)
among_each Q (m ∷ names) n h is = either (same n m) refl is (among_each Q names n h.1)
  where
    either : (b : Bool) → same n m ≡ b → (b || list_any (same n) names) ≡ true → (list_any (same n) names ≡ true → Q n) → Q n
    either true k l more = subst Q (sym (same_text n m k)) h.0
    either false k l more = more l

-- it is of one of these names, and has no condition
pub record IsOf (names : List (List ℕ)) (r : Elem) : Type 0 where
  pub name : List ℕ
  pub plain : IsPlain name r
  pub known : is_among names name ≡ true

-- a test that tells the same of all these names tells it of an element
pub of_test : (names : List (List ℕ)) (g : List ℕ → Bool) (b : Bool) → Each (λ n. g n ≡ b) names → (test : Elem → Bool) → ((n : List ℕ) (r : Elem) → IsPlain n r → test r ≡ g n)
    → (rs : List Elem) → Each (IsOf names) rs → Each (λ r. test r ≡ b) rs
of_test names g b all test told [] h = tt
of_test names g b all test told (r ∷ rs) h =
    (told h.0.name r h.0.plain ∙ among_each (λ n. g n ≡ b) names h.0.name all h.0.known, of_test names g b all test told rs h.1)

-- all or none of them are among others
pub of_those : (names others : List (List ℕ)) (b : Bool) → Each (λ n. is_among others n ≡ b) names → (rs : List Elem) → Each (IsOf names) rs → those others rs ≡ if_all b rs
of_those names others b all rs h =
    sifted (λ c. is_among others c.name) b rs (of_test names (is_among others) b all (λ c. is_among others c.name) (plain_among others) rs h)

-- all of them are read in an element
pub of_parts : (names : List (List ℕ)) (parent : List ℕ) → Each (λ n. stood parent n ≡ true) names → (rs : List Elem) → Each (IsOf names) rs → Each (λ r. is_part AsWritten parent r ≡ true) rs
of_parts names parent all rs h = of_test names (stood parent) true all (is_part AsWritten parent) (plain_part parent) rs h

-- elements of one name
pub of_one : (name : List ℕ) (r : Elem) → IsPlain name r → is_among (name ∷ []) name ≡ true → IsOf (name ∷ []) r
of_one name r h k = record { name = name; plain = h; known = k }
