-- What a choice selects, interface by interface, and for which addresses.
use Rattle.std.proofs.Common.{◌≡◌, ℕ, zero, suc, ◌+◌, Bool, true, false, cond, List, [], ◌∷◌, Option, Some, None, refl, sym, ap, ◌∙◌, subst, arith}
use Rattle.std.specs.Prelude.{slice_get, bytes_eq, is_some, option_map, option_and_then, option_to_list}
use Rattle.std.specs.List.{position_from}
use Rattle.std.proofs.lemmas.Option.{same_Some}
use Rattle.zi_elements.specs.Namespace.{injector}
use Rattle.zi_address.specs.Texts.{same}
use Rattle.zi_reading.specs.Words.{is_among}
use Rattle.zi_parts.specs.declared.types.Dep.{Dep}
use Rattle.zi_reading.proofs.TextLaws.{same_text}
use Rattle.zi_universe.specs.declared.types.Candidate.{Candidate}
use Rattle.zi_universe.specs.declared.types.Interface.{Interface}
use Rattle.zi_universe.specs.Whole.{uris_of}
use Rattle.zi_choice.specs.Choice.{Choice, chosen, number}
use Rattle.zi_choice.specs.Walk.{Walk}
use Rattle.zi_choice.specs.Valid.{target}
use Rattle.zi_sels.specs.declared.types.Selection.{Selection}
use Rattle.zi_sels.specs.Chosen.{selection_by, selected_at, selected_from, selected}
use Rattle.zi_sels_laws.proofs.LikeLaws.{Each, each_append}
use Rattle.zi_sels_laws.proofs.FreeLaws.{each_front}

-- What is so of all that is selected is so of each, and the other way round.

-- this is so of what is selected for the interfaces, the first of them with this number
abbrev IsSoFrom : (Selection → Type 0) → List Interface → Choice → Walk → ℕ → List Interface → Type 0
IsSoFrom P u s w i is = (n j : ℕ) (x : Interface) (k : Candidate) → j ≡ i + n → slice_get is n ≡ Some x → chosen u s j ≡ Some k → P (selection_by u s w j x.uri k)

each_optional : {A B : Type 0} (P : B → Type 0) (f : A → B) (o : Option A) → ((x : A) → o ≡ Some x → P (f x)) → Each P (option_to_list (option_map f o))
each_optional P f None h = tt
each_optional P f (Some x) h = (h x refl, tt)

one_optional : {A B : Type 0} (P : B → Type 0) (f : A → B) (o : Option A) (x : A) → o ≡ Some x → Each P (option_to_list (option_map f o)) → P (f x)
one_optional P f None x e h = absurd (cc e)
one_optional P f (Some y) x e h = subst (λ z. P (f z)) (same_Some y x e) h.0

pub each_selected : (P : Selection → Type 0) (u : List Interface) (s : Choice) (w : Walk) (i : ℕ) (is : List Interface) → IsSoFrom P u s w i is → Each P (selected_from u s w i is)
each_selected P u s w i [] h = tt
each_selected P u s w i (x ∷ is) h =
    each_append P (selected_at u s w i x) (selected_from u s w (i + 1) is) (each_optional P (selection_by u s w i x.uri) (chosen u s i) (λ k e. h zero i x k (omega arith) refl e))
    (each_selected P u s w (i + 1) is (λ n j y k q at e. h (suc n) j y k (omega (arith, q)) at e))

pub so_selected : (P : Selection → Type 0) (u : List Interface) (s : Choice) (w : Walk) (i : ℕ) (is : List Interface) → Each P (selected_from u s w i is) → IsSoFrom P u s w i is
so_selected P u s w i [] h n j x k q at e = absurd (cc at)
so_selected P u s w i (y ∷ is) h zero j x k q at e =
    let here : i ≡ j = omega (arith, q) in
    let front = (each_front P (selected_at u s w i y) (selected_from u s w (i + 1) is) h).0 in
    let one = one_optional P (selection_by u s w i y.uri) (chosen u s i) k (ap (λ m. chosen u s m) here ∙ e) front in
    subst (λ (m : ℕ). P (selection_by u s w m x.uri k)) here (subst (λ (z : Interface). P (selection_by u s w i z.uri k)) (same_Some y x at) one)
so_selected P u s w i (y ∷ is) h (suc n) j x k q at e =
    so_selected P u s w (i + 1) is (each_front P (selected_at u s w i y) (selected_from u s w (i + 1) is) h).1 n j x k (omega (arith, q)) at e

-- For an address something is chosen.
pub record IsThere (u : List Interface) (s : Choice) (uri : List ℕ) : Type 0 where
  pub place : ℕ
  pub interface : Interface
  pub candidate : Candidate
  pub at : slice_get u place ≡ Some interface
  pub named : interface.uri ≡ uri
  pub picked : chosen u s place ≡ Some candidate

-- what stands at the place of an address
pub record IsPlaced (u : List Interface) (uri : List ℕ) (n m : ℕ) : Type 0 where
  pub place : ℕ
  pub interface : Interface
  pub far : m ≡ n + place
  pub at : slice_get u place ≡ Some interface
  pub named : interface.uri ≡ uri

address_is : (x y : List ℕ) → bytes_eq x y ≡ true → y ≡ x
unfolding same injector
address_is x y h = sym (same_text x y h)

pub placed : (u : List Interface) (uri : List ℕ) (n m : ℕ) → position_from (bytes_eq uri) n (uris_of u) ≡ Some m → IsPlaced u uri n m
placed [] uri n m e = absurd (cc e)
placed (x ∷ u) uri n m e = by (bytes_eq uri x.uri) refl e (placed u uri (n + 1) m)
  where
    by : (b : Bool) → bytes_eq uri x.uri ≡ b → cond b (Some n) (position_from (bytes_eq uri) (n + 1) (uris_of u)) ≡ Some m → (position_from (bytes_eq uri) (n + 1) (uris_of u) ≡ Some m → IsPlaced u uri (n + 1) m)
        → IsPlaced (x ∷ u) uri n m
    by true h k more = let q = same_Some n m k in record { place = zero; interface = x; far = omega (arith, q); at = refl; named = address_is uri x.uri h }
    by false h k more = let r = more k in record { place = suc r.place; interface = r.interface; far = omega (arith, r.far); at = r.at; named = r.named }

-- where a dependency's interface is chosen, something is chosen for its address
pub target_there : (u : List Interface) (s : Choice) (d : Dep) → is_some (target u s d) ≡ true → IsThere u s d.interface
target_there u s d h = by_number (number u d.interface) refl h
  where
    by_candidate : (j : ℕ) (o : Option Candidate) → number u d.interface ≡ Some j → chosen u s j ≡ o → is_some o ≡ true → IsThere u s d.interface
    by_candidate j None e c k = absurd (cc k)
    by_candidate j (Some y) e c k =
        let r = placed u d.interface 0 j e in
        let q : j ≡ r.place = omega (arith, r.far) in
        record { place = r.place; interface = r.interface; candidate = y; at = r.at; named = r.named; picked = subst (λ (m : ℕ). chosen u s m ≡ Some y) q c }

    by_number : (o : Option ℕ) → number u d.interface ≡ o → is_some (option_and_then (λ i. chosen u s i) o) ≡ true → IsThere u s d.interface
    by_number None e k = absurd (cc k)
    by_number (Some j) e k = by_candidate j (chosen u s j) e refl k

-- where all that is selected is among these addresses, so is each for which something is chosen
pub there_among : (is : List (List ℕ)) (u : List Interface) (s : Choice) (w : Walk) (uri : List ℕ) → Each (λ (x : Selection). is_among is x.interface ≡ true) (selected u s w) → IsThere u s uri → is_among is uri ≡ true
unfolding selection_by
there_among is u s w uri h t =
    subst (λ a. is_among is a ≡ true) t.named (so_selected (λ (x : Selection). is_among is x.interface ≡ true) u s w 0 u h t.place t.place t.interface t.candidate (omega arith) t.at t.picked)
