-- Hints on a place that is known by another name.
use Rattle.std.proofs.Common.{◌≡◌, ℕ, List, Option, Result, subst}
use Rattle.std.specs.Prelude.{OnOk}
use Rattle.std.specs.Io.KnownBytes.{Appends}
use Rattle.zi_usage.specs.declared.place.Place.{Place}
use Rattle.zi_hints.specs.Hints.{hints_at}

pub at_place : {T E : Type 0} (r : Result T E) (a b : Option (List ℕ)) (p q : Place × Option (List ℕ)) → p ≡ q → OnOk r (Appends a b (hints_at p)) → OnOk r (Appends a b (hints_at q))
at_place r a b p q e h = subst (λ x. OnOk r (Appends a b (hints_at x))) e h
