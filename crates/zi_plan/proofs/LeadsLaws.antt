-- The chain from a command on has one answer.
use Rattle.std.proofs.Common.{◌≡◌, ℕ, List, [], ◌∷◌, Option, Some, None, Result, Ok, sym, ap, ◌∙◌, subst}
use Rattle.zi_outside.specs.declared.var.Var.{Var}
use Rattle.zi_outside.specs.declared.launch.Launch.{Launch}
use Rattle.zi_sels.specs.declared.types.Selections.{Selections}
use Rattle.zi_plan.specs.declared.fault.PlanFault.{PlanFault}
use Rattle.zi_plan.specs.Chain.{Asked, Link, Leads, stops, ends, goes_on, behind, asked_by}
use Rattle.zi_plan.specs.Placed.{Placed, all_placed, without_folder}
use Rattle.zi_plan.specs.Plans.{Plans, PlansPlaced, PlansCommand, PlansFrom, by_chain}

pub leads_once : {ps : List Placed} {met : List Asked} {asked : Asked} {r q : Result (List Link) PlanFault} → Leads ps met asked r → Leads ps met asked q → r ≡ q
leads_once (stops l) (stops l') = cc
leads_once (stops l) (ends x' l' n') = absurd (cc)
leads_once (stops l) (goes_on x' r' l' n' o') = absurd (cc)
leads_once (ends x l n) (stops l') = absurd (cc)
leads_once (ends x l n) (ends x' l' n') = let e : x ≡ x' = cc in ap (λ y. Ok (y ∷ [])) e
leads_once (ends x l n) (goes_on x' r' l' n' o') = let e : x ≡ x' = cc in absurd (cc)
leads_once (goes_on x r l n o) (stops l') = absurd (cc)
leads_once (goes_on x r l n o) (ends x' l' n') = let e : x ≡ x' = cc in absurd (cc)
leads_once {ps = ps} {met = met} {asked = asked} (goes_on {answer = a} x r l n o) (goes_on {answer = b} x' r' l' n' o') =
    let e : x ≡ x' = cc in
    let t : r ≡ r' = cc in
    let same : a ≡ b = leads_once o (subst (λ q. Leads ps (asked ∷ met) (asked_by q) b) (sym t) o') in
    ap (λ y. behind y a) e ∙ ap (behind x') same

-- selections have one plan
from_once : (ps : List Placed) (shims : List (List ℕ)) (vars : List Var) (user : List (List ℕ)) (asked : Asked) (r q : Result Launch PlanFault)
    → PlansFrom ps shims vars user asked r → PlansFrom ps shims vars user asked q → r ≡ q
from_once ps shims vars user asked r q (c, l, e) (d, m, f) = e ∙ ap (by_chain ps shims vars user) (leads_once l m) ∙ sym f

command_once : (ps : List Placed) (shims : List (List ℕ)) (vars : List Var) (user : List (List ℕ)) (interface : List ℕ) (command : Option (List ℕ)) (r q : Result Launch PlanFault)
    → PlansCommand ps shims vars user interface command r → PlansCommand ps shims vars user interface command q → r ≡ q
command_once ps shims vars user interface None r q h k = h ∙ sym k
command_once ps shims vars user interface (Some n) r q h k = from_once ps shims vars user (record { interface = interface; command = n }) r q h k

placed_once : (s : Selections) (vars : List Var) (user : List (List ℕ)) (ps : List Placed) (shims : List (List ℕ)) (without : Option (List ℕ)) (r q : Result Launch PlanFault)
    → PlansPlaced s vars user ps shims without r → PlansPlaced s vars user ps shims without q → r ≡ q
placed_once s vars user ps shims (Some i) r q h k = h ∙ sym k
placed_once s vars user ps shims None r q h k = command_once ps shims vars user s.interface s.command r q h k

pub plans_once : (s : Selections) (vars : List Var) (user : List (List ℕ)) (folders : List (Option (List ℕ))) (shims : List (List ℕ)) (r q : Result Launch PlanFault)
    → Plans s vars user folders shims r → Plans s vars user folders shims q → r ≡ q
plans_once s vars user folders shims r q h k = placed_once s vars user (all_placed s.items folders) shims (without_folder s.items folders) r q h k
