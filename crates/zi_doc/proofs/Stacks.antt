-- Stacks of open elements.
use Rattle.std.proofs.Common.{◌≡◌, ℕ, suc, zero, ◌+◌, ◌-◌, ◌<◌, ◌≤◌, ◌==◌, Bool, true, false, List, [], ◌∷◌, ◌++◌, length, drop, Option, Some, None, slice_get, lit<, refl, sym, ap, ◌∙◌, subst, append_assoc, arith, reverse}
use Rattle.std.proofs.lemmas.List.{reverse-append, length-reverse}
use Rattle.zi_names.specs.declared.attributes.Binding.{Binding}
use Rattle.zi_names.specs.Scopes.{innermost}
use Rattle.zi_xml.specs.Meaning.{Frame, flush}
use Rattle.zi_elements.specs.declared.element.Node.TheVariants.{Words}
use Rattle.zi_xml.specs.Machine.{has, scope_of, top_name, of_key}
use Rattle.std.specs.Prelude.{Result, Ok, Err}
use Rattle.std.proofs.lemmas.Bool.Decides.{nat_tests}
use Rattle.zi_doc.specs.Moves.{Refuses}
use Rattle.zi_doc.specs.declared.fault.DocFault.{DocFault}
use Rattle.zi_doc.specs.declared.fault.DocFault.TheVariants as faults
use Rattle.zi_doc.specs.declared.fault.DocKind.TheVariants as kinds
use Rattle.zi_doc.specs.View.{frame_of, stacked, scopes_of, IsSetting, key_of, later, owner_in, BareOwner}
use Rattle.zi_doc.specs.declared.state.Reader.{Reader}
use Rattle.zi_doc.specs.declared.state.Owner.{Owner}
use Rattle.zi_doc.specs.declared.state.Owner.TheVariants as owners
use Rattle.zi_doc.specs.declared.state.Open.{Open}

length_stacked_in : (os : List Open) (ss : List (List Binding)) → length (stacked os ss) ≡ length os
length_stacked_in [] ss = refl
length_stacked_in (o ∷ os) [] = ap suc (length_stacked_in os [])
length_stacked_in (o ∷ os) (s ∷ ss) = ap suc (length_stacked_in os ss)

pub length_stacked : (os : List Open) (ss : List (List Binding)) → length (stacked (reverse os) ss) ≡ length os
length_stacked os ss = length_stacked_in (reverse os) ss ∙ length-reverse os

has_some : (fs : List Frame) → 0 < length fs → has fs ≡ true
has_some [] h = absurd (omega arith)
has_some (f ∷ fs) h = refl

has_none : (fs : List Frame) → length fs ≡ 0 → has fs ≡ false
has_none [] h = refl
has_none (f ∷ fs) h = absurd (omega arith)

pub has_stacked : (os : List Open) (ss : List (List Binding)) → 0 < length os → has (stacked (reverse os) ss) ≡ true
has_stacked os ss h = has_some (stacked (reverse os) ss) (omega (arith, h, length_stacked os ss))

pub none_stacked : (os : List Open) (ss : List (List Binding)) → length os ≡ 0 → has (stacked (reverse os) ss) ≡ false
none_stacked os ss h = has_none (stacked (reverse os) ss) (omega (arith, h, length_stacked os ss))

-- one more open element, and one less
pub stacked_push : (os : List Open) (o : Open) (s : List Binding) (ss : List (List Binding)) → stacked (reverse (os ++ o ∷ [])) (s ∷ ss) ≡ frame_of o s ∷ stacked (reverse os) ss
stacked_push os o s ss = ap (λ v. stacked v (s ∷ ss)) (reverse-append os (o ∷ []))

-- the scope of a tag
pub scope_inner : (fs : List Frame) → innermost (scopes_of fs) ≡ scope_of fs
scope_inner [] = refl
scope_inner (f ∷ fs) = refl

pub flush_some : (t : List ℕ) → 0 < length t → flush t ≡ Words t ∷ []
flush_some [] h = absurd (omega arith)
flush_some (c ∷ t) h = refl

pub flush_none : (t : List ℕ) → length t ≡ 0 → flush t ≡ []
flush_none [] h = refl
flush_none (c ∷ t) h = absurd (omega arith)

-- a letter of a name, and what is left behind it
pub drop_some : (xs : List ℕ) (m x : ℕ) → slice_get xs m ≡ Some x → drop m xs ≡ x ∷ drop (suc m) xs
drop_some [] m x h = cc
drop_some (y ∷ xs) zero x h = let e : y ≡ x = cc in ap (λ v. v ∷ xs) e
drop_some (y ∷ xs) (suc m) x h = drop_some xs m x h

pub drop_none : (xs : List ℕ) (m : ℕ) → slice_get xs m ≡ None → drop m xs ≡ []
drop_none [] m h = drop_nil m
  where
    drop_nil : (m : ℕ) → drop {A = ℕ} m [] ≡ []
    drop_nil zero = refl
    drop_nil (suc m) = refl
drop_none (y ∷ xs) zero h = cc
drop_none (y ∷ xs) (suc m) h = drop_none xs m h

-- there is always a scope
pub scopes_some : (fs : List Frame) → 0 < length (scopes_of fs)
scopes_some [] = lit< tt
scopes_some (f ∷ fs) = omega (arith, scopes_some fs)

tails : {A : Type 0} (x y : A) (xs ys : List A) → x ∷ xs ≡ y ∷ ys → xs ≡ ys
tails x y xs ys h = cc

pub record Popped (os : List Open) (top : Open) (ss : List (List Binding)) : Type 0 where
  pub scope : List Binding
  pub split : stacked (reverse (os ++ top ∷ [])) ss ≡ frame_of top scope ∷ stacked (reverse os) (drop 1 ss)
  pub kept : drop 1 ss ≡ scopes_of (stacked (reverse os) (drop 1 ss))
  pub more : 1 < length ss

-- the innermost element goes
pub popped : (os : List Open) (top : Open) (ss : List (List Binding)) → ss ≡ scopes_of (stacked (reverse (os ++ top ∷ [])) ss) → Popped os top ss
popped os top [] h =
    let e : stacked (reverse (os ++ top ∷ [])) [] ≡ frame_of top [] ∷ stacked (reverse os) [] = ap (λ v. stacked v []) (reverse-append os (top ∷ [])) in
    let z : [] ≡ [] ∷ scopes_of (stacked (reverse os) []) = h ∙ ap scopes_of e in cc
popped os top (s ∷ ss) h =
    let e = stacked_push os top s ss in
    let k : ss ≡ scopes_of (stacked (reverse os) ss) = tails s s ss _ (h ∙ ap scopes_of e) in
    record { scope = s; split = e; kept = k; more = omega (arith, scopes_some (stacked (reverse os) ss), ap length k) }

pub code_not : (c k : ℕ) → (c ≡ k → ⊥) → (c == k) ≡ false
code_not c k h = grind (arith, nat_tests)

pub refused : (stop : ℕ) (x : Result (Unit {0}) DocFault) → x ≡ Err (faults.Bad kinds.Syntax stop) → Refuses stop x
refused stop x h = subst (Refuses stop) (sym h) (tt, refl)

-- the letter of a name by the top of the stack
pub last_of : (os : List Open) (top : Open) (ss : List (List Binding)) → top_name (stacked (reverse (os ++ top ∷ [])) ss) ≡ top.written.items
last_of os top [] = ap top_name (ap (λ v. stacked v []) (reverse-append os (top ∷ [])))
last_of os top (s ∷ ss) = ap top_name (stacked_push os top s ss)

last_get : (os : List Open) (top : Open) → slice_get os (length os - 1) ≡ Some top → (init : List Open) × (os ≡ init ++ top ∷ [])
last_get [] top h = cc
last_get (x ∷ []) top h = let e : x ≡ top = cc in ([], ap (λ v. v ∷ []) e)
last_get (x ∷ y ∷ os) top h =
    let n : length (x ∷ y ∷ os) - 1 ≡ suc (length (y ∷ os) - 1) = omega arith in
    let r = last_get (y ∷ os) top (ap (slice_get (x ∷ y ∷ os)) (sym n) ∙ h) in
    (x ∷ r.0, ap (λ v. x ∷ v) r.1)

pub top_is : (os : List Open) (top : Open) (ss : List (List Binding)) → Some top ≡ slice_get os (length os - 1) → top_name (stacked (reverse os) ss) ≡ top.written.items
top_is os top ss h = let r = last_get os top (sym h) in ap (λ v. top_name (stacked (reverse v) ss)) r.1 ∙ last_of r.0 top ss

-- a setting's name is read
pub named_owner : (o : Owner) (r : Reader) → IsSetting o → of_key (key_of o) (later o) ≡ owner_in o r
named_owner owners.Attr r h = absurd h
named_owner owners.Version r h = refl
named_owner owners.Encoding r h = refl
named_owner owners.Standalone r h = refl

pub bare_owner : (o : Owner) (b : Bool) → b ≡ false → BareOwner o b
bare_owner owners.Attr b h = tt
bare_owner owners.Version b h = h
bare_owner owners.Encoding b h = h
bare_owner owners.Standalone b h = h
