-- What the ends of the search say of the universe and the requirement.
use Rattle.std.proofs.Common.{◌≡◌, ℕ, ◌+◌, ◌-◌, ◌<◌, ◌≤◌, ◌^◌, true, List, [], length, refl, sym, ap, ◌∙◌, subst, arith}
use Rattle.zi_formula.specs.declared.formula.Formula.{Formula}
use Rattle.zi_formula.specs.Truth.{Models}
use Rattle.zi_proof.specs.declared.proof.Lemma.{Lemma}
use Rattle.zi_proof.specs.declared.proof.Proof.{Proof}
use Rattle.zi_proof.specs.Accepted.{citable, follows, proves}
use Rattle.zi_proof.specs.Known.{nothing}
use Rattle.zi_proof.specs.Lean.{AreLean}
use Rattle.zi_sat.specs.declared.entry.Entry.{Entry}
use Rattle.zi_sat.specs.declared.found.Found.{Found}
use Rattle.zi_sat.specs.View.{Seen, SearchSeen}
use Rattle.zi_walk.specs.Seen.{WalkSeen}
use Rattle.zi_sat.specs.declared.found.Found.TheVariants.{Model, Refuted, Spent}
use Rattle.zi_sat.specs.Trail.{lits_of, OpenAll}
use Rattle.zi_sat.specs.Moves.{Lawful}
use Rattle.zi_sat.specs.Ends.{Ends, MayGoOn, values_of, AreDecided, NoModelHere}
use Rattle.zi_sat.specs.Fresh.{AreFresh, Filled}
use Rattle.zi_universe.specs.declared.types.Requirement.{Requirement}
use Rattle.zi_universe.specs.declared.types.Interface.{Interface}
use Rattle.zi_choice.specs.Valid.{NoneIsValid}
use Rattle.zi_choice.specs.Vars.{var_count}
use Rattle.zi_build.specs.Clauses.{formula, literals, most_literals}
use Rattle.zi_build.proofs.Formed.{is_formed}
use Rattle.zi_certificate.specs.Certificates.{Refutes}
use Rattle.zi_certificate.proofs.Certified.{refuted_is_none}
use Rattle.zi_walk.specs.Rule.{walk_picks}
use Rattle.zi_solve.specs.Answers.{FirstIsValid, IsFound, IsSpent, HasEnded}
use Rattle.zi_solve.specs.Turns.{IsBetween, HasCome}
use Rattle.zi_solve.proofs.SolveLaws.{not_first}

module _ (u : List Interface) (req : Requirement) (f : Formula) (is : f ≡ formula u req) where
  -- the search's conditions
  pub needed : (w : WalkSeen) → w ≡ record { universe = u; requirement = req; taken = [] } → var_count w.universe ≤ f.variables
  needed w by =
      let e : f.variables ≡ var_count u = ap (λ (g : Formula). g.variables) is in
      subst (λ (v : WalkSeen). var_count v.universe ≤ f.variables) (sym by) (omega (arith, e))

  pub nothing_taken : (w : WalkSeen) → w ≡ record { universe = u; requirement = req; taken = [] } → w.taken ≡ []
  nothing_taken w by = ap (λ (v : WalkSeen). v.taken) by

  pub few_constraints : (budget : ℕ) → literals (formula u req).constraints ≤ most_literals → budget ≤ 4000000000 → length f.constraints + budget < 2 ^ 32 - 1
  few_constraints budget few small =
      let e : length f.constraints ≡ length (formula u req).constraints = ap (λ (g : Formula). length g.constraints) is in
      let l : length (formula u req).constraints ≤ 1 + literals (formula u req).constraints = (is_formed u req).2 in
      let m : literals (formula u req).constraints ≤ 8000000 = few in
      omega (arith, e, l, m, small)

  -- the ends of a run by any decider
  module _ (ms : List Lemma) (es : List Entry) (follow : follows f ms ≡ true) where
    log_follows : follows (formula u req) ms ≡ true
    log_follows = subst (λ (g : Formula). follows g ms ≡ true) is follow

    pub refuted : (budget : ℕ) (p : Proof) → p.lemmas ≡ ms → Ends f ms es budget Refuted → Refutes u req p × NoneIsValid u req
    refuted budget p e end =
        let r : Refutes u req p = (subst (λ xs. follows (formula u req) xs ≡ true) (sym e) log_follows, subst (λ xs. proves [] xs ≡ true) (sym e) end) in
        (r, refuted_is_none u req p r)

    pub spent_by : (budget count : ℕ) (p : Proof) → p.lemmas ≡ ms → AreFresh f.constraints ms → AreLean f.constraints ms → Ends f ms es budget (Spent count) → ¬ FirstIsValid u req → (count ≡ budget) × IsSpent u req budget p
    spent_by budget count p e new lean end none = (
      end.0,
      record {
        each = ap length e ∙ end.1;
        follow = subst (λ xs. follows (formula u req) xs ≡ true) (sym e) log_follows;
        fresh = subst (λ xs. AreFresh (formula u req).constraints xs) (sym e) (subst (λ (g : Formula). AreFresh g.constraints ms) is new);
        lean = subst (λ xs. AreLean (formula u req).constraints xs) (sym e) (subst (λ (g : Formula). AreLean g.constraints ms) is lean);
        filled = subst Filled (sym e) end.3;
        not_first = none;
        less = subst (λ (g : Formula). budget < 3 ^ g.variables) is end.4;
      },
    )

  -- the ends of a run by the walk's decider
  module _ (ms : List Lemma) (es : List Entry) (follow : follows f ms ≡ true) (lawful : Lawful (citable f.constraints ms) f.constraints (walk_picks u req f.variables) es) (fresh : OpenAll nothing (lits_of es)) where
    follow_u : follows (formula u req) ms ≡ true
    follow_u = subst (λ (g : Formula). follows g ms ≡ true) is follow

    lawful_u : Lawful (citable (formula u req).constraints ms) (formula u req).constraints (walk_picks u req (var_count u)) es
    lawful_u = subst (λ (g : Formula). Lawful (citable g.constraints ms) g.constraints (walk_picks u req g.variables) es) is lawful

    pub is_found : (budget : ℕ) → Ends f ms es budget Model → IsFound u req ms es
    is_found budget end = record {
      follow = follow_u;
      lawful = lawful_u;
      fresh = fresh;
      decided = subst (λ (g : Formula). AreDecided g.variables es) is end.0;
      model = subst (λ (g : Formula). Models (values_of es) g) is end.1;
    }

    pub spent : (budget count : ℕ) (p : Proof) → p.lemmas ≡ ms → AreFresh f.constraints ms → AreLean f.constraints ms → Ends f ms es budget (Spent count) → (count ≡ budget) × IsSpent u req budget p
    spent budget count p e new lean end =
        spent_by ms es follow budget count p e new lean end (not_first u req ms es follow_u lawful_u fresh (subst (λ (g : Formula). NoModelHere g es) is end.2))

-- whatever the search came to
pub ended : (u : List Interface) (req : Requirement) (old new : SearchSeen) (w : WalkSeen) (budget : ℕ) (found : Found) → old.formula ≡ formula u req → w ≡ record { universe = u; requirement = req; taken = [] } → follows old.formula new.log.lemmas ≡ true → AreFresh old.formula.constraints new.log.lemmas → AreLean old.formula.constraints new.log.lemmas → Lawful (citable old.formula.constraints new.log.lemmas) old.formula.constraints (walk_picks w.universe w.requirement old.formula.variables) new.trail.entries → OpenAll nothing (lits_of new.trail.entries) → Ends old.formula new.log.lemmas new.trail.entries budget found → HasEnded u req budget new found
ended u req old new w budget found is by follow new_ones lean lawful open_all end = at found end
  where
    by_walk : Lawful (citable old.formula.constraints new.log.lemmas) old.formula.constraints (walk_picks u req old.formula.variables) new.trail.entries
    by_walk = subst (λ (v : WalkSeen). Lawful (citable old.formula.constraints new.log.lemmas) old.formula.constraints (walk_picks v.universe v.requirement old.formula.variables) new.trail.entries) by lawful

    at : (x : Found) → Ends old.formula new.log.lemmas new.trail.entries budget x → HasEnded u req budget new x
    at Model e = is_found u req old.formula is new.log.lemmas new.trail.entries follow by_walk open_all budget e
    at Refuted e = refuted u req old.formula is new.log.lemmas new.trail.entries follow budget new.log refl e
    at (Spent count) e = spent u req old.formula is new.log.lemmas new.trail.entries follow by_walk open_all budget count new.log refl new_ones lean e

-- what is lent of a search that has found a model
pub found_in : (u : List Interface) (req : Requirement) (s : SearchSeen) (log : Proof) (t : Seen) (budget : ℕ) (found : Found) → log ≡ s.log → t ≡ s.trail → found ≡ Model → HasEnded u req budget s found → IsFound u req log.lemmas t.entries
found_in u req s log t budget found l e is end =
    subst (λ (p : Proof). IsFound u req p.lemmas t.entries) (sym l)
    (subst (λ (x : Seen). IsFound u req s.log.lemmas x.entries) (sym e) (subst (λ x. HasEnded u req budget s x) is end))

-- whatever a run by any decider came to
pub come : (u : List Interface) (req : Requirement) (old new : SearchSeen) (limit : ℕ) (found : Found) → old.formula ≡ formula u req → follows old.formula new.log.lemmas ≡ true → AreFresh old.formula.constraints new.log.lemmas → AreLean old.formula.constraints new.log.lemmas → Ends old.formula new.log.lemmas new.trail.entries limit found → HasCome u req limit new found
come u req old new limit Model is follow new_ones lean end = tt
come u req old new limit Refuted is follow new_ones lean end =
    refuted u req old.formula is new.log.lemmas new.trail.entries follow limit new.log refl end
come u req old new limit (Spent count) is follow new_ones lean end =
    spent_by u req old.formula is new.log.lemmas new.trail.entries follow limit count new.log refl new_ones lean end

-- between two runs

pub begun : (u : List Interface) (req : Requirement) (old new : SearchSeen) (limit budget count : ℕ) (found : Found) → found ≡ Spent count → old.formula ≡ formula u req → new.formula ≡ old.formula → limit ≤ budget → MayGoOn new.log.lemmas limit found → HasEnded u req limit new found → IsBetween u req budget new
begun u req old new limit budget count found e is same low goes end =
    let log : (length new.log.lemmas ≤ limit) × Filled new.log.lemmas = subst (MayGoOn new.log.lemmas limit) e goes in
    let spent : (count ≡ limit) × IsSpent u req limit new.log = subst (HasEnded u req limit new) e end in
    record { formula = same ∙ is; bound = omega (arith, log.0, low); filled = log.1; not_first = spent.1.not_first }

pub goes_on : (u : List Interface) (req : Requirement) (old new : SearchSeen) (limit budget : ℕ) → IsBetween u req budget old → new.formula ≡ old.formula → limit ≤ budget → (length new.log.lemmas ≤ limit) × Filled new.log.lemmas → IsBetween u req budget new
goes_on u req old new limit budget b same low log =
    record { formula = same ∙ b.formula; bound = omega (arith, log.0, low); filled = log.1; not_first = b.not_first }

-- at the end

pub is_model : (u : List Interface) (req : Requirement) (s : SearchSeen) (limit budget : ℕ) (found : Found) → found ≡ Model → HasEnded u req limit s found → HasEnded u req budget s found
is_model u req s limit budget found e h = subst (HasEnded u req budget s) (sym e) (subst (HasEnded u req limit s) e h)

pub is_refuted : (u : List Interface) (req : Requirement) (s : SearchSeen) (limit budget : ℕ) (found : Found) → found ≡ Refuted → HasEnded u req limit s found → HasEnded u req budget s found
is_refuted u req s limit budget found e h = subst (HasEnded u req budget s) (sym e) (subst (HasEnded u req limit s) e h)

pub has_refuted : (u : List Interface) (req : Requirement) (s : SearchSeen) (limit budget : ℕ) (found : Found) → found ≡ Refuted → HasCome u req limit s found → HasEnded u req budget s found
has_refuted u req s limit budget found e h = subst (HasEnded u req budget s) (sym e) (subst (HasCome u req limit s) e h)

pub has_spent : (u : List Interface) (req : Requirement) (s : SearchSeen) (limit budget count : ℕ) (found : Found) → found ≡ Spent count → limit ≡ budget → ¬ FirstIsValid u req → HasCome u req limit s found → HasEnded u req budget s found
has_spent u req s limit budget count found e same none h =
    let spent : (count ≡ limit) × IsSpent u req limit s.log = (subst (HasCome u req limit s) e h) none in
    subst (HasEnded u req budget s) (sym e) (subst (λ b. (count ≡ b) × IsSpent u req b s.log) same spent)

-- what is lent of a search has room for the walk
pub room_in : (u numbered : List Interface) (req : Requirement) (s : SearchSeen) (t : Seen) → numbered ≡ u → s.formula ≡ formula u req → t.variables ≡ s.formula.variables → var_count numbered ≤ t.variables
room_in u numbered req s t same is room =
    let e : s.formula.variables ≡ var_count u = ap (λ (g : Formula). g.variables) is in
    let n : var_count numbered ≡ var_count u = ap var_count same in
    omega (arith, e, n, room)
