-- What is made of a trail on which every variable is decided, and what the other ends say.
use Rattle.std.proofs.Common.{◌≡◌, ◌<◌, ◌≤◌, true, List, [], length, map, refl, sym, ap, ◌∙◌, subst}
use Rattle.std.specs.Prelude.{All}
use Rattle.std.proofs.lemmas.List.{length-map}
use Rattle.zi_proof.specs.declared.proof.Lemma.{Lemma}
use Rattle.zi_proof.specs.declared.proof.Proof.{Proof}
use Rattle.zi_proof.specs.declared.proof.Block.{Block}
use Rattle.zi_proof.specs.Accepted.{citable, follows}
use Rattle.zi_proof.specs.Known.{nothing}
use Rattle.zi_sat.specs.declared.entry.Entry.{Entry}
use Rattle.zi_sat.specs.Trail.{known_from, lits_of, OpenAll}
use Rattle.zi_sat.specs.Moves.{Lawful}
use Rattle.zi_sat.specs.Ends.{NoModelHere}
use Rattle.zi_universe.specs.declared.types.Requirement.{Requirement}
use Rattle.zi_universe.specs.declared.types.Interface.{Interface}
use Rattle.zi_choice.specs.Choice.{Choice}
use Rattle.zi_choice.specs.Walk.{Walks}
use Rattle.zi_choice.specs.Best.{IsBest}
use Rattle.zi_choice.specs.Traces.{as_place, as_walk}
use Rattle.zi_choice.specs.declared.traced.Traced.{Traced}
use Rattle.zi_choice.specs.Vars.{var_count}
use Rattle.zi_build.specs.Clauses.{formula}
use Rattle.zi_certificate.specs.Certificates.{asked_from, AreBlocks, Excludes}
use Rattle.zi_walk.specs.Rule.{so_far, walk_picks}
use Rattle.zi_walk.specs.Laws.{IsHeld}
use Rattle.zi_walk.proofs.Found.{search_finds_best}
use Rattle.zi_walk.proofs.First.{first_is_kept}
use Rattle.zi_solve.specs.Laws.{AreGiven}
use Rattle.zi_solve.specs.Making.{IsCut, IsWithin}
use Rattle.zi_solve.specs.Answers.{FirstIsValid, IsFound}
use Rattle.zi_solve.proofs.GivenLaws.{blocks_are_there}
use Rattle.zi_solve.proofs.HeldLaws.{held, are_within}
use Rattle.zi_solve.proofs.FewLaws.{few_places}

-- the choice's walk, and the choice cut down to it
module _ (u : List Interface) (req : Requirement) (ms : List Lemma) (es : List Entry) (found : IsFound u req ms es) (numbered named : List Interface) (picks picks_lent : Choice) (t : Traced) (same_numbers : numbered ≡ u) (same_names : named ≡ u) (are_picks : picks ≡ so_far numbered (known_from es)) (lent : picks_lent ≡ picks) (traced : Walks named req picks_lent (as_walk t)) where
  pub picks_are : picks ≡ so_far u (known_from es)
  picks_are = are_picks ∙ ap (λ v. so_far v (known_from es)) same_numbers

  pub walks : Walks u req (so_far u (known_from es)) (as_walk t)
  walks = subst (λ s. Walks u req s (as_walk t)) (lent ∙ picks_are) (subst (λ v. Walks v req picks_lent (as_walk t)) same_names traced)

  pub within : All (λ p. IsWithin u (as_place p)) t.places
  within = are_within u req es found.model t.places (as_walk t) walks refl

  pub few : 0 < length u → length t.places ≤ length u
  few l = subst (λ n. n ≤ length u) (length_places t) (few_places u req (so_far u (known_from es)) (as_walk t) l walks)
    where
      length_places : (t : Traced) → length (map as_place t.places) ≡ length t.places
      length_places t = length-map t.places as_place

  module _ (cut : Choice) (is_cut : IsCut (so_far u (known_from es)) (map as_place t.places) cut) where
    abbrev is_held : IsHeld u req es cut
    is_held = held u req es found.model cut (as_walk t) walks is_cut

    pub given : AreGiven (formula u req) ms es (asked_from u 1 [] (map as_place t.places))
    given = blocks_are_there u req ms es cut found.follow found.lawful found.fresh found.decided found.model is_held

    pub best : IsBest u req cut
    best = search_finds_best u req ms es cut found.follow found.lawful found.fresh found.decided found.model is_held

    pub excludes : (p : Proof) (blocks : List Block) → p.lemmas ≡ ms → AreBlocks (formula u req) ms (asked_from u 1 [] (map as_place t.places)) blocks → Excludes u req cut (record { proof = p; blocks = blocks })
    excludes p blocks e b = record {
      follow = subst (λ xs. follows (formula u req) xs ≡ true) (sym e) found.follow;
      walk = as_walk t;
      walks = is_held.walks;
      blocks = subst (λ xs. AreBlocks (formula u req) xs (asked_from u 1 [] (map as_place t.places)) blocks) (sym e) b;
    }

-- where the budget is spent
pub not_first : (u : List Interface) (req : Requirement) (ms : List Lemma) (es : List Entry) → follows (formula u req) ms ≡ true → Lawful (citable (formula u req).constraints ms) (formula u req).constraints (walk_picks u req (var_count u)) es → OpenAll nothing (lits_of es) → NoModelHere (formula u req) es → ¬ FirstIsValid u req
not_first u req ms es log lawful fresh none first =
    first_is_kept u req ms es first.choice log lawful fresh first.valid first.first none
