-- Texts that are put one behind another.
use Rattle.std.proofs.Common.{◌≡◌, ℕ, List, [], ◌∷◌, ◌++◌, map, take, length, get_or, ◌+◌, ◌<◌, refl, sym, ap, ◌∙◌, append_assoc, Result, Ok, Err, OnOk, flat_map}
use Rattle.std.proofs.lemmas.List.{take_more, append-nil}
use Rattle.std.specs.Prelude.{slice_get, option_map, unwrap_or}
use Rattle.zi_text.specs.declared.memory.Memory.{Memory}
use Rattle.zi_universe.specs.declared.types.Candidate.{Candidate}
use Rattle.zi_universe.specs.declared.types.Interface.{Interface}
use Rattle.zi_choice.specs.Vars.{candidates_of}
use Rattle.zi_report.specs.Text.{id_at}

both : (old mid new a b : List ℕ) → mid ≡ old ++ a → new ≡ mid ++ b → new ≡ old ++ (a ++ b)
both old mid new a b e f = f ∙ ap (λ y. y ++ b) e ∙ append_assoc old a b

-- the last of them may be refused
pub put_two : {X : Type 0} (old mid new a b : List ℕ) (r : Result X Memory) → mid ≡ old ++ a → OnOk r (new ≡ mid ++ b) → OnOk r (new ≡ old ++ (a ++ b))
put_two old mid new a b (Ok x) e f = both old mid new a b e f
put_two old mid new a b (Err m) e f = tt

pub put_four : {X : Type 0} (old one two three new a b c d : List ℕ) (r : Result X Memory) → one ≡ old ++ a → two ≡ one ++ b → three ≡ two ++ c → OnOk r (new ≡ three ++ d) → OnOk r (new ≡ old ++ (a ++ (b ++ (c ++ d))))
put_four old one two three new a b c d (Ok x) e f g h = both old one new a (b ++ (c ++ d)) e (both one two new b (c ++ d) f (both two three new c d g h))
put_four old one two three new a b c d (Err m) e f g h = tt

flat-append : {A B : Type 0} (f : A → List B) (xs ys : List A) → flat_map f (xs ++ ys) ≡ flat_map f xs ++ flat_map f ys
flat-append f [] ys = refl
flat-append f (x ∷ xs) ys = ap (λ l. f x ++ l) (flat-append f xs ys) ∙ sym (append_assoc (f x) (flat_map f xs) (flat_map f ys))

-- one item more of a list
pub item_more : {A : Type 0} (f : A → List ℕ) (old mid new : List ℕ) (xs : List A) (i : ℕ) (d x : A) → i < length xs → x ≡ get_or xs i d → mid ≡ old ++ flat_map f (take i xs) → new ≡ mid ++ f x → new ≡ old ++ flat_map f (take (i + 1) xs)
item_more f old mid new xs i d x lt e m n =
    let t : flat_map f (take (i + 1) xs) ≡ flat_map f (take i xs) ++ f x = ap (flat_map f) (take_more xs i d lt) ∙ flat-append f (take i xs) (get_or xs i d ∷ []) ∙ ap (λ y. flat_map f (take i xs) ++ y) (append-nil (f (get_or xs i d)) ∙ ap f (sym e)) in
    both old mid new (flat_map f (take i xs)) (f x) m n ∙ ap (λ y. old ++ y) (sym t)

-- an interface without candidates has no id
pub id_none : (u : List Interface) (i c : ℕ) → candidates_of u i ≡ [] → [] ≡ id_at u i c
id_none u i c e = sym (ap (λ ks. unwrap_or (option_map (λ (k : Candidate). k.imp.id) (slice_get ks c)) []) e)
