-- The elements along the paths of a feed without a fault: each of them is without one, and so is what is read in it.
use Rattle.std.proofs.Common.{◌≡◌, ℕ, Bool, true, false, List, [], ◌∷◌, ◌++◌, map, refl}
use Rattle.std.specs.Prelude.{not, if◌then◌else◌}
use Rattle.std.proofs.lemmas.Bool.{both_ways}
use Rattle.zi_elements.specs.Forest.{Forest, none, words, child, Elem}
use Rattle.zi_reading.specs.Ways.{Ways}
use Rattle.zi_reading.specs.Reading.{stands, is_closed}
use Rattle.zi_faults.specs.Sites.{Site, here, under, path, sites}
use Rattle.zi_sels_laws.proofs.LikeLaws.{Each, each_append}
use Rattle.zi_sels_laws.proofs.FreeLaws.{each_front, IsFree, IsRight, strip}

-- of all elements on the way to one this holds
abbrev pub IsRightAlong : Ways → Site → Type 0
IsRightAlong ways t = Each (IsRight ways) (path t)

each_under : (ways : Ways) (e : Elem) → IsRight ways e → (ss : List Site) → Each (IsRightAlong ways) ss → Each (IsRightAlong ways) (map (under e) ss)
each_under ways e right [] h = tt
each_under ways e right (s ∷ ss) h = ((right, h.0), each_under ways e right ss h.1)

pub along : (ways : Ways) (parent : List ℕ) (f : Forest) → Each (IsFree ways) (sites ways parent f) → Each (IsRightAlong ways) (sites ways parent f)
along ways parent none h = tt
along ways parent (words t k) h = along ways parent k h
along ways parent (child s n a f p k) h =
    let e : Elem = record { space = s; name = n; attrs = a; inside = f; place = p } in
    either e (stands ways parent e) (is_closed e) refl h (along ways n f) (along ways parent k)
  where
    either : (e : Elem) (b c : Bool) → is_closed e ≡ c
        → Each (IsFree ways) (if not b then sites ways parent k else if c then here e ∷ sites ways parent k else here e ∷ (map (under e) (sites ways e.name e.inside) ++ sites ways parent k))
        → (Each (IsFree ways) (sites ways e.name e.inside) → Each (IsRightAlong ways) (sites ways e.name e.inside))
        → (Each (IsFree ways) (sites ways parent k) → Each (IsRightAlong ways) (sites ways parent k))
        → Each (IsRightAlong ways) (if not b then sites ways parent k else if c then here e ∷ sites ways parent k else here e ∷ (map (under e) (sites ways e.name e.inside) ++ sites ways parent k))
    either e false c shut free within more = more free
    either e true true shut free within more =
        ((record { said = free.0.0; free = free.0.1; inside = λ open_. absurd (both_ways (is_closed e) open_ shut) }, tt), more free.1)
    either e true false shut free within more =
        let both = each_front (IsFree ways) (map (under e) (sites ways e.name e.inside)) (sites ways parent k) free.1 in
        let inner = strip ways e (sites ways e.name e.inside) both.0 in
        let right : IsRight ways e = record { said = free.0.0; free = free.0.1; inside = λ open_. inner } in
        ((right, tt), each_append (IsRightAlong ways) (map (under e) (sites ways e.name e.inside)) (sites ways parent k) (each_under ways e right (sites ways e.name e.inside) (within inner)) (more both.1))
