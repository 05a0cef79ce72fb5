-- The choice of a trail with its blocks, by what the calls on the way answer.
use Rattle.std.proofs.Common.{◌≡◌, ℕ, ◌+◌, ◌<◌, ◌≤◌, ◌^◌, Bool, true, Option, List, [], length, map, refl, sym, ap, ◌∙◌, subst, arith}
use Rattle.std.specs.Prelude.{All}
use Rattle.zi_formula.specs.declared.formula.Formula.{Formula}
use Rattle.zi_formula.specs.Form.{WellFormed}
use Rattle.zi_proof.specs.declared.proof.Proof.{Proof}
use Rattle.zi_proof.specs.declared.proof.Block.{Block}
use Rattle.zi_proof.specs.Accepted.{follows}
use Rattle.zi_proof.proofs.Cites.{follows_within}
use Rattle.zi_sat.specs.declared.entry.Entry.{Entry}
use Rattle.zi_sat.specs.Trail.{known_from}
use Rattle.zi_universe.specs.declared.types.Requirement.{Requirement}
use Rattle.zi_universe.specs.declared.types.Interface.{Interface}
use Rattle.zi_universe.specs.Whole.{IsWhole}
use Rattle.zi_choice.specs.Choice.{Choice}
use Rattle.zi_choice.specs.Walk.{Walks}
use Rattle.zi_choice.specs.Traces.{as_place, as_walk}
use Rattle.zi_choice.specs.declared.traced.Place.{Place}
use Rattle.zi_choice.specs.declared.traced.Traced.{Traced}
use Rattle.zi_choice.specs.Vars.{var_count}
use Rattle.zi_build.specs.Clauses.{formula}
use Rattle.zi_certificate.specs.Certificates.{asked_from, AreBlocks}
use Rattle.zi_walk.specs.Rule.{so_far}
use Rattle.zi_solve.specs.Laws.{AreGiven}
use Rattle.zi_solve.specs.Making.{IsCut, IsWithin}
use Rattle.zi_solve.specs.Replays.{Knows}
use Rattle.zi_solve.specs.Answers.{IsFound, IsCertified}
use Rattle.zi_solve.proofs.SolveLaws.{picks_are, within, few, given, best, excludes}

-- the trail has room for the walk
pub room_for : (u numbered : List Interface) (req : Requirement) (f : Formula) (variables : ℕ) → f ≡ formula u req → numbered ≡ u → variables ≡ f.variables → var_count numbered ≤ variables
room_for u numbered req f variables is same room =
    let e : f.variables ≡ var_count u = ap (λ (g : Formula). g.variables) is in
    let s : var_count numbered ≡ var_count u = ap var_count same in
    omega (arith, e, s, room)

pub knows : (f : Formula) (log : Proof) (marks : List (Option Bool)) → WellFormed f → follows f log.lemmas ≡ true → length marks ≡ f.variables + 1 → Knows f log.lemmas marks
knows f log marks formed follow made = record { within = formed.within; earlier = follows_within f [] log.lemmas follow; made = made }

module _ (u : List Interface) (req : Requirement) (f : Formula) (log : Proof) (es : List Entry) (is : f ≡ formula u req) (found : IsFound u req log.lemmas es) where
  pub follow : follows f log.lemmas ≡ true
  follow = subst (λ (g : Formula). follows g log.lemmas ≡ true) (sym is) found.follow

  module _ (numbered named : List Interface) (picks lent lent-2 kept : Choice) (t : Traced) (places : List Place) (same_numbers : numbered ≡ u) (same_names : named ≡ u) (are_picks : picks ≡ so_far numbered (known_from es)) (is_lent : lent ≡ picks) (traced : Walks named req lent (as_walk t)) (are_places : places ≡ t.places) (is_lent-2 : lent-2 ≡ picks) (is_cut : IsCut lent-2 (map as_place places) kept) where
    cut_u : IsCut (so_far u (known_from es)) (map as_place t.places) kept
    cut_u =
        subst (λ s. IsCut s (map as_place t.places) kept) (is_lent-2 ∙ picks_are u req log.lemmas es found numbered named picks lent t same_numbers same_names are_picks is_lent traced)
        (subst (λ ps. IsCut lent-2 (map as_place ps) kept) are_places is_cut)

    pub within_on : All (λ p. IsWithin numbered (as_place p)) places
    within_on =
        subst (λ ps. All (λ p. IsWithin numbered (as_place p)) ps) (sym are_places)
        (subst (λ v. All (λ p. IsWithin v (as_place p)) t.places) (sym same_numbers) (within u req log.lemmas es found numbered named picks lent t same_numbers same_names are_picks is_lent traced))

    pub few_on : IsWhole u → length places < 2 ^ 32
    few_on whole =
        let l : length t.places ≤ length u = few u req log.lemmas es found numbered named picks lent t same_numbers same_names are_picks is_lent traced whole.rooted in
        let m : length u ≤ 4096 = whole.few_interfaces in
        let e : length places ≡ length t.places = ap length are_places in
        omega (arith, l, m, e)

    pub given_on : AreGiven f log.lemmas es (asked_from numbered 1 [] (map as_place places))
    given_on =
        subst (λ ps. AreGiven f log.lemmas es (asked_from numbered 1 [] (map as_place ps))) (sym are_places)
        (subst (λ v. AreGiven f log.lemmas es (asked_from v 1 [] (map as_place t.places))) (sym same_numbers)
        (subst (λ (g : Formula). AreGiven g log.lemmas es (asked_from u 1 [] (map as_place t.places))) (sym is)
        (given u req log.lemmas es found numbered named picks lent t same_numbers same_names are_picks is_lent traced kept cut_u)))

    pub certified : (blocks : List Block) → AreBlocks f log.lemmas (asked_from numbered 1 [] (map as_place places)) blocks → IsCertified u req log (record { choice = record { picks = kept }; blocks = blocks })
    certified blocks b = record {
      best = best u req log.lemmas es found numbered named picks lent t same_numbers same_names are_picks is_lent traced kept cut_u;
      excludes = excludes u req log.lemmas es found numbered named picks lent t same_numbers same_names are_picks is_lent traced kept cut_u log blocks refl
          (subst (λ (g : Formula). AreBlocks g log.lemmas (asked_from u 1 [] (map as_place t.places)) blocks) is
          (subst (λ v. AreBlocks f log.lemmas (asked_from v 1 [] (map as_place t.places)) blocks) same_numbers
          (subst (λ ps. AreBlocks f log.lemmas (asked_from numbered 1 [] (map as_place ps)) blocks) are_places b)));
    }
