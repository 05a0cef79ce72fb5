-- When a certificate excludes, by what was looked at.
use Rattle.std.proofs.Common.{◌≡◌, ℕ, zero, suc, ◌<◌, Bool, true, false, List, [], ◌∷◌, length, map, sym, ap, ◌∙◌, subst, Some, Decides}
use Rattle.std.specs.Prelude.{slice_get, All}
use Rattle.std.proofs.lemmas.Bool.{false≢true}
use Rattle.std.proofs.lemmas.Option.{same_Some}
use Rattle.zi_formula.specs.declared.formula.Formula.{Formula}
use Rattle.zi_proof.specs.declared.proof.Block.{Block}
use Rattle.zi_proof.specs.declared.proof.Certificate.{Certificate}
use Rattle.zi_proof.specs.Accepted.{follows}
use Rattle.zi_universe.specs.declared.types.Requirement.{Requirement}
use Rattle.zi_universe.specs.declared.types.Interface.{Interface}
use Rattle.zi_choice.specs.Choice.{Choice, Fits}
use Rattle.zi_choice.specs.Walk.{Walk, Walks}
use Rattle.zi_choice.specs.Walk.{Place as APlace}
use Rattle.zi_choice.specs.Traces.{as_place, as_walk}
use Rattle.zi_choice.specs.declared.traced.Place.{Place}
use Rattle.zi_choice.specs.declared.traced.Traced.{Traced}
use Rattle.zi_choice.specs.Vars.{candidates_of}
use Rattle.zi_choice.proofs.Base.{all_from, if_some_from}
use Rattle.zi_choice.proofs.WalkFacts.{faithful}
use Rattle.zi_choice.proofs.WalkLaws.{walk_one}
use Rattle.zi_build.specs.Clauses.{formula}
use Rattle.zi_certificate.specs.Certificates.{asked_from, AreBlocks, Excludes}
use Rattle.zi_check.specs.Taking.{Within}
use Rattle.zi_check.proofs.ValidLaws.{there_within}
use Rattle.zi_feed.specs.IdLaws.{none_some}

pub not_followed : (u : List Interface) (req : Requirement) (s : Choice) (c : Certificate) (f : Formula) (b : Bool) → f ≡ formula u req → b ≡ follows f c.proof.lemmas → b ≡ false → Decides false (Excludes u req s c)
not_followed u req s c f b e h g = (λ t. absurd (false≢true t), λ x. absurd (false≢true (sym g ∙ h ∙ ap (λ f. follows f c.proof.lemmas) e ∙ x.follow)))

pub excluded : (u v : List Interface) (req : Requirement) (s : Choice) (c : Certificate) (f : Formula) (w : Walk) (ps : List APlace) (bs : List Block) (b : Bool) → f ≡ formula u req → v ≡ u → ps ≡ w.places → bs ≡ c.blocks → follows f c.proof.lemmas ≡ true → Walks u req s w → Decides b (AreBlocks f c.proof.lemmas (asked_from v 1 [] ps) bs) → Decides b (Excludes u req s c)
excluded u v req s c f w ps bs b e n p q follow walks t = (
  λ y. record {
    follow = subst (λ g. follows g c.proof.lemmas ≡ true) e follow;
    walk = w;
    walks = walks;
    blocks = subst (λ g. AreBlocks g c.proof.lemmas (asked_from u 1 [] w.places) c.blocks) e (subst (λ x. AreBlocks f c.proof.lemmas (asked_from x 1 [] w.places) c.blocks) n (subst (λ x. AreBlocks f c.proof.lemmas (asked_from v 1 [] x) c.blocks) p (subst (λ x. AreBlocks f c.proof.lemmas (asked_from v 1 [] ps) x) q (t.0 y))));
  },
  λ x. t.1 (subst (λ y. AreBlocks f c.proof.lemmas (asked_from v 1 [] ps) y) (sym q) (subst (λ y. AreBlocks f c.proof.lemmas (asked_from v 1 [] y) c.blocks) (sym p) (subst (λ y. AreBlocks f c.proof.lemmas (asked_from y 1 [] w.places) c.blocks) (sym n) (subst (λ g. AreBlocks g c.proof.lemmas (asked_from u 1 [] w.places) c.blocks) (sym e)
      (subst (λ (z : Walk). AreBlocks (formula u req) c.proof.lemmas (asked_from u 1 [] z.places) c.blocks) (walk_one u req s x.walk w x.walks walks) x.blocks))))),
)

-- what is picked at a place of a walk is one of the candidates
mapped : (ps : List Place) (m : ℕ) (p : Place) → slice_get ps m ≡ Some p → slice_get (map as_place ps) m ≡ Some (as_place p)
mapped [] m p e = absurd (none_some e)
mapped (x ∷ ps) zero p e = ap (λ y. Some (as_place y)) (same_Some _ _ e)
mapped (x ∷ ps) (suc m) p e = mapped ps m p e

pub all_within : (u v : List Interface) (req : Requirement) (s : Choice) (t : Traced) (ps : List Place) → v ≡ u → ps ≡ t.places → Fits u s → Walks u req s (as_walk t) → All (λ p. Within v (as_place p)) ps
all_within u v req s t ps n q fits walks =
    all_from (λ p. Within v (as_place p)) ps
    (λ m p e. if_some_from (λ c. c < length (candidates_of v p.interface)) p.pick
    (λ c g. subst (λ x. c < length (candidates_of x p.interface)) (sym n)
    (there_within u s p.interface c (faithful u req s (as_walk t) walks p.interface p.pick m (mapped t.places m p (ap (λ xs. slice_get xs m) (sym q) ∙ e)) ∙ g) (λ d h. fits.there p.interface d h))))
