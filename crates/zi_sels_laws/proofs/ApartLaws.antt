-- Commands of which no two have one name: those of an implementation are so.
use Rattle.std.proofs.Common.{◌≡◌, ℕ, Bool, true, false, cond, ◌||◌, List, [], ◌∷◌, ◌++◌, map, Option, Some, None, refl, sym, ap, ◌∙◌}
use Rattle.std.specs.Prelude.{filter, find, bytes_eq, if◌then◌else◌}
use Rattle.std.specs.List.{list_any}
use Rattle.std.proofs.lemmas.Bool.{or_parts}
use Rattle.zi_elements.specs.Namespace.{injector}
use Rattle.zi_address.specs.Texts.{same}
use Rattle.zi_reading.specs.Words.{repeated, repeated_after, latest}
use Rattle.zi_feed.specs.Impls.{are_alike, main_command, is_run, with_main}
use Rattle.zi_parts.specs.declared.types.Command.{Command}
use Rattle.zi_reading.proofs.TextLaws.{same_text, same_refl}
use Rattle.zi_sels_laws.proofs.LikeLaws.{Each}
use Rattle.zi_sels_laws.proofs.FieldLaws.{app}
use Rattle.zi_sels_laws.proofs.FreeLaws.{each_map}
use Rattle.zi_text.proofs.ListLaws.{bytes_itself}

-- none of these has the name of one
abbrev pub IsOther : Command → Command → Type 0
IsOther c d = are_alike c d ≡ false

-- none has the name of one behind it
abbrev pub AreApart : List Command → Type 0
AreApart [] = Unit {0}
AreApart (c ∷ cs) = Each (IsOther c) cs × AreApart cs

each_other : (c : Command) (cs : List Command) → list_any (are_alike c) cs ≡ false → Each (IsOther c) cs
each_other c [] h = tt
each_other c (d ∷ cs) h = let b = or_parts (are_alike c d) (list_any (are_alike c) cs) h in (b.0, each_other c cs b.1)

-- The last of each name.

still_other : (c : Command) (cs : List Command) → Each (IsOther c) cs → Each (IsOther c) (latest are_alike cs)
still_other c [] h = tt
still_other c (d ∷ cs) h = either (list_any (are_alike d) cs) (still_other c cs h.1)
  where
    either : (b : Bool) → Each (IsOther c) (latest are_alike cs) → Each (IsOther c) (if b then latest are_alike cs else d ∷ latest are_alike cs)
    either true more = more
    either false more = (h.0, more)

latest_apart : (cs : List Command) → AreApart (latest are_alike cs)
latest_apart [] = tt
latest_apart (c ∷ cs) = either (list_any (are_alike c) cs) refl (latest_apart cs)
  where
    either : (b : Bool) → list_any (are_alike c) cs ≡ b → AreApart (latest are_alike cs) → AreApart (if b then latest are_alike cs else c ∷ latest are_alike cs)
    either true h more = more
    either false h more = (still_other c cs (each_other c cs h), more)

-- `main`

other_behind : (c m : Command) (cs : List Command) → Each (IsOther c) cs → IsOther c m → Each (IsOther c) (cs ++ m ∷ [])
other_behind c m [] h k = (k, tt)
other_behind c m (d ∷ cs) h k = (h.0, other_behind c m cs h.1 k)

run_behind : (p : List ℕ) (cs : List Command) → AreApart cs → list_any is_run cs ≡ false → AreApart (cs ++ main_command p ∷ [])
run_behind p [] h k = (tt, tt)
run_behind p (c ∷ cs) h k =
    let b = or_parts (is_run c) (list_any is_run cs) k in
    (other_behind c (main_command p) cs h.0 b.0, run_behind p cs h.1 b.1)

main_apart : (main : Option (List ℕ)) (cs : List Command) → AreApart cs → AreApart (with_main main cs)
main_apart None cs h = h
main_apart (Some p) cs h = either (list_any is_run cs) refl
  where
    either : (b : Bool) → list_any is_run cs ≡ b → AreApart (if b then cs else cs ++ main_command p ∷ [])
    either true k = h
    either false k = run_behind p cs h k

-- those of an implementation
pub commands_apart : (main : Option (List ℕ)) (cs : List Command) → AreApart (with_main main (latest are_alike cs))
commands_apart main cs = main_apart main (latest are_alike cs) (latest_apart cs)

-- What keeps names.

others_kept : (test : Command → Bool) (c : Command) (cs : List Command) → Each (IsOther c) cs → Each (IsOther c) (filter test cs)
others_kept test c [] h = tt
others_kept test c (d ∷ cs) h = either (test d) (others_kept test c cs h.1)
  where
    either : (b : Bool) → Each (IsOther c) (filter test cs) → Each (IsOther c) (cond b (d ∷ filter test cs) (filter test cs))
    either true more = (h.0, more)
    either false more = more

pub filter_apart : (test : Command → Bool) (cs : List Command) → AreApart cs → AreApart (filter test cs)
filter_apart test [] h = tt
filter_apart test (c ∷ cs) h = either (test c) (filter_apart test cs h.1)
  where
    either : (b : Bool) → AreApart (filter test cs) → AreApart (cond b (c ∷ filter test cs) (filter test cs))
    either true more = (others_kept test c cs h.0, more)
    either false more = more

others_mapped : (f : Command → Command) → ((c : Command) → (f c).name ≡ c.name) → (c : Command) (cs : List Command) → Each (IsOther c) cs → Each (IsOther (f c)) (map f cs)
others_mapped f keeps c [] h = tt
others_mapped f keeps c (d ∷ cs) h = (app (ap same (keeps c)) (keeps d) ∙ h.0, others_mapped f keeps c cs h.1)

pub map_apart : (f : Command → Command) → ((c : Command) → (f c).name ≡ c.name) → (cs : List Command) → AreApart cs → AreApart (map f cs)
map_apart f keeps [] h = tt
map_apart f keeps (c ∷ cs) h = (others_mapped f keeps c cs h.0, map_apart f keeps cs h.1)

-- No name is repeated.

-- no text is among those behind it
abbrev pub AreOther : List (List ℕ) → Type 0
AreOther [] = Unit {0}
AreOther (n ∷ ns) = Each (λ m. same n m ≡ false) ns × AreOther ns

same_turned : (x y : List ℕ) → same x y ≡ false → same y x ≡ false
same_turned x y h = either (same y x) refl
  where
    either : (b : Bool) → same y x ≡ b → same y x ≡ false
    either true k = let e : true ≡ false = sym (same_refl x y (sym (same_text y x k))) ∙ h in absurd (cc e)
    either false k = k

-- it is none of these
abbrev IsNew : List (List ℕ) → List ℕ → Type 0
IsNew before n = list_any (same n) before ≡ false

new_behind : (n : List ℕ) (before ns : List (List ℕ)) → Each (λ m. same n m ≡ false) ns → Each (IsNew before) ns → Each (IsNew (n ∷ before)) ns
new_behind n before [] h k = tt
new_behind n before (m ∷ ns) h k = (app (ap {B = Bool → Bool} (λ x y. x || y) (same_turned n m h.0)) k.0, new_behind n before ns h.1 k.1)

other_after : (before ns : List (List ℕ)) → Each (IsNew before) ns → AreOther ns → repeated_after same before ns ≡ []
other_after before [] h k = refl
other_after before (n ∷ ns) h k =
    ap (λ b. if b then n ∷ repeated_after same (n ∷ before) ns else repeated_after same (n ∷ before) ns) h.0
    ∙ other_after (n ∷ before) ns (new_behind n before ns k.0 h.1) k.1

all_new : (ns : List (List ℕ)) → Each (IsNew []) ns
all_new [] = tt
all_new (n ∷ ns) = (refl, all_new ns)

pub none_repeated : (ns : List (List ℕ)) → AreOther ns → repeated same ns ≡ []
none_repeated ns h = other_after [] ns (all_new ns) h

names_other : (cs : List Command) → AreApart cs → AreOther (map (λ c. c.name) cs)
names_other [] h = tt
names_other (c ∷ cs) h = (each_map (λ m. same c.name m ≡ false) (λ (d : Command). d.name) cs h.0, names_other cs h.1)

pub apart_names : (cs : List Command) → AreApart cs → repeated same (map (λ (c : Command). c.name) cs) ≡ []
apart_names cs h = none_repeated (map (λ (c : Command). c.name) cs) (names_other cs h)

-- Each is found by its name.

abbrev pub IsFound : List Command → Command → Type 0
IsFound cs c = find (λ m. bytes_eq m.name c.name) cs ≡ Some c

found_behind : (c : Command) (cs ds : List Command) → Each (IsOther c) ds → Each (IsFound cs) ds → Each (IsFound (c ∷ cs)) ds
unfolding same injector
found_behind c cs [] h k = tt
found_behind c cs (d ∷ ds) h k = (ap (λ b. cond b (Some c) (find (λ m. bytes_eq m.name d.name) cs)) h.0 ∙ k.0, found_behind c cs ds h.1 k.1)

pub each_found : (cs : List Command) → AreApart cs → Each (IsFound cs) cs
each_found [] h = tt
each_found (c ∷ cs) h = (ap (λ b. cond b (Some c) (find (λ m. bytes_eq m.name c.name) cs)) (bytes_itself c.name), found_behind c cs cs h.0 (each_found cs h.1))
