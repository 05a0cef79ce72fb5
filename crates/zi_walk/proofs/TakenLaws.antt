-- What the decider keeps between its picks stays so: where the trail is taken in, and where that goes back.
use Rattle.std.proofs.Common.{◌≡◌, ◌≢◌, ℕ, List, [], ◌∷◌, length, take, refl, sym, ap, ◌∙◌, subst, arith, Some, ◌⊎◌, inl, inr}
use Rattle.std.specs.Prelude.{slice_get}
use Rattle.std.proofs.lemmas.List.{take_all}
use Rattle.zi_proof.specs.Known.{nothing}
use Rattle.zi_sat.specs.declared.entry.Entry.{Entry}
use Rattle.zi_sat.specs.Trail.{lits_of, OpenAll}
use Rattle.zi_sat.specs.Ends.{AreDecided}
use Rattle.zi_sat.specs.Behind.{Behind}
use Rattle.zi_universe.specs.declared.types.Requirement.{Requirement}
use Rattle.zi_universe.specs.declared.types.Interface.{Interface}
use Rattle.zi_walk.specs.declared.path.Stop.{Stop}
use Rattle.zi_walk.specs.declared.kept.Kept.{Kept}
use Rattle.zi_walk.specs.Kept.{Stand, stand_of, back_at, IsBefore, Rise, IsEmpty, PathIs}
use Rattle.zi_walk.specs.Firm.{AreFirm, AreWithin, OnWay, GoesBack, KeptIs}
use Rattle.zi_walk.proofs.KeptLaws.{back_path}
use Rattle.zi_walk.proofs.FirmLaws.{firm_less, firm_longer, decided_longer}
use Rattle.zi_feed.specs.IdLaws.{none_some}

no_item : {A : Type 0} {G : Type 0} (xs : List A) (n : ℕ) (x : A) → xs ≡ [] → slice_get xs n ≡ Some x → G
no_item xs n x e f = absurd (none_some (ap (λ ys. slice_get ys n) (sym e) ∙ f))

pub none_firm : (u : List Interface) (es : List Entry) (xs : List Stop) → xs ≡ [] → AreFirm u es xs
none_firm u es xs e n x f = no_item xs n x e f

pub kept_rises : (u : List Interface) (req : Requirement) (k : Kept) → KeptIs u req k → Rise k.path.stops.items
kept_rises u req k h = at h.path
  where
    at : IsEmpty (stand_of k.path) ⊎ OnWay u req k.taken.items (stand_of k.path) → Rise k.path.stops.items
    at (inl e) = λ m n x y l f g. no_item k.path.stops.items m x e.stops f
    at (inr w) = w.path.rise

-- where the trail is taken in
pub way_longer : (u : List Interface) (req : Requirement) (es fs : List Entry) (z : Stand) → Behind es fs → OnWay u req es z → OnWay u req fs z
way_longer u req es fs z b w = record { path = w.path; firm = firm_longer u es fs z.stops b w.firm }

-- it has come nowhere exactly where it has no place
pub way_of : (u : List Interface) (req : Requirement) (k : Kept) → KeptIs u req k → k.path.order.keys ≢ [] → OnWay u req k.taken.items (stand_of k.path)
way_of u req k h some = at h.path
  where
    at : IsEmpty (stand_of k.path) ⊎ OnWay u req k.taken.items (stand_of k.path) → OnWay u req k.taken.items (stand_of k.path)
    at (inl e) = absurd (some e.order)
    at (inr w) = w

pub empty_of : (u : List Interface) (req : Requirement) (k : Kept) → KeptIs u req k → k.path.order.keys ≡ [] → IsEmpty (stand_of k.path)
empty_of u req k h none = at h.path
  where
    at : IsEmpty (stand_of k.path) ⊎ OnWay u req k.taken.items (stand_of k.path) → IsEmpty (stand_of k.path)
    at (inl e) = e
    at (inr w) =
        let b = w.path.begun in
        let l : length k.path.order.keys ≡ 0 = ap length none in
        absurd (omega (arith, b, l))

-- where it goes back
module _ (u : List Interface) (req : Requirement) (old new : Kept) (len : ℕ) (taken : new.taken.items ≡ take len old.taken.items) (low : new.low ≡ 0) (back : GoesBack (stand_of old.path) (stand_of new.path) len) where
  abbrev y : Stand
  y = stand_of old.path

  abbrev z : Stand
  z = stand_of new.path

  none_left : IsEmpty y → GoesBack y z len → IsEmpty z
  none_left e (inl s) = subst (λ w. IsEmpty w) (sym s.0) e
  none_left e (inr b) = no_item y.stops b.0 b.1 e.stops b.2

  less : OnWay u req old.taken.items y → (n : ℕ) (w : Stand) → PathIs u req w → w.stops ≡ take n y.stops → AreWithin y.stops n len → OnWay u req new.taken.items w
  less way n w path stops within = record {
    path = path;
    firm = subst (λ xs. AreFirm u new.taken.items xs) (sym stops) (subst (λ es. AreFirm u es (take n y.stops)) (sym taken) (firm_less u old.taken.items y.stops n len way.firm within));
  }

  way_left : OnWay u req old.taken.items y → GoesBack y z len → OnWay u req new.taken.items z
  way_left way (inl s) =
      subst (λ w. OnWay u req new.taken.items w) (sym s.0) (less way (length y.stops) y way.path (sym (take_all (length y.stops) y.stops (omega arith))) s.1)
  way_left way (inr b) =
      less way b.0 z (back_path u req y z b.0 b.1 way.path b.2 b.3) (ap (λ (w : Stand). w.stops) b.3) b.4

  nothing_low : AreDecided new.low new.taken.items
  nothing_low x l h = absurd (omega (arith, l, h, low))

  pub kept_back : KeptIs u req old → KeptIs u req new
  kept_back h = record {
    path = elim h.path [ inl e ↦ inl (none_left e back) | inr w ↦ inr (way_left w back) ];
    low = nothing_low;
  }
