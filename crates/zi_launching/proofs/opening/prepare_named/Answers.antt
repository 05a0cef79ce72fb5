use Rattle.std.proofs.Common.{◌≡◌, inl, inr, false, List, [], ◌∷◌, map, refl, sym, subst}
use Rattle.zi_store.proofs.StoresLemmas.{calm_same}
use Rattle.zi_digest.specs.declared.DigestName.{DigestName}
use Rattle.zi_world.specs.Places.{place}
use Rattle.zi_choosing.specs.Knowing.{all_names}
use Rattle.zi_fetching.specs.Known.{Names, names_of, is_known}
use Rattle.zi_launching.specs.Launching.{PreparesWith}
use Rattle.zi_launching.proofs.PlacesLaws.{new_first}
use Rattle.zi_launching.proofs.ReadyLaws.{works_none}
use Rattle.zi_launching.proofs.opening.prepare_named.Goals as goal

pub prepared-requires-clause-fresh : goal.prepared-requires-clause-fresh
prepared-requires-clause-fresh g c =
    let P : Names → Type 0 = λ q. (d : DigestName) → is_known q d ≡ false → place c.args.each.now d ≡ 0 in
    let Q : List (List DigestName) → Type 0 = λ q. P (names_of (all_names q)) in
    subst P (sym c.in-Ok.ensures) (subst Q (sym c.as_slice.ensures) (new_first c.args.each.now))

pub returns-in-Ok : goal.returns-in-Ok
returns-in-Ok g c =
    let P : Names → Type 0 = λ q. PreparesWith (record { sels = c.args.sels.now; each = c.args.each.now; stored = q; vars = c.args.vars.now; user = c.args.user.now })
    (g.K.Shelf.seen c.args.shelf.now ∷ map g.R.Shelf.seen c.args.others.now) c.prepared.result (g.K.Shelf.seen c.prepared.new.shelf ∷ map g.R.Shelf.seen c.prepared.new.others) in
    let Q : List (List DigestName) → Type 0 = λ q. P (names_of (all_names q)) in
    subst Q c.as_slice.ensures (subst P c.in-Ok.ensures c.prepared.ensures)

pub returns-in-Err : goal.returns-in-Err
returns-in-Err g c = record {
  tried = [];
  prepares = inl (refl, inr (inr refl, calm_same (g.K.Shelf.seen c.args.shelf.now ∷ map g.R.Shelf.seen c.args.others.now)));
  works = works_none (g.K.Shelf.seen c.args.shelf.now) (map g.R.Shelf.seen c.args.others.now);
}
