-- The text of refusals.
use Rattle.std.specs.Prelude.{ℕ, List, [], ◌∷◌, ◌++◌, codes}
use Rattle.std.specs.List.{flat_map}
use Rattle.zi_universe.specs.Naming.{Uri}
use Rattle.zi_refused.specs.declared.refusal.Reason.{Reason}
use Rattle.zi_refused.specs.declared.refusal.Reason.TheVariants as reason
use Rattle.zi_refused.specs.declared.refusal.Refusal.{Refusal}

-- what a reason says of an implementation
abbrev pub reason_text : Reason → List ℕ
reason_text reason.Stability = codes " is buggy or insecure"
reason_text reason.Source = codes " is source code"
reason_text reason.Arch = codes " is for another operating system or machine"
reason_text reason.Unreachable = codes " is neither local nor stored, and can't be fetched"
reason_text reason.Offline = codes " is neither local nor stored, and the network is off"
reason_text reason.Limit = codes " is no version that is asked for"

-- the interface, the version and the id
abbrev pub named_text : Uri → Refusal → List ℕ
named_text interface r = codes "  " ++ (interface ++ (codes " " ++ (r.version ++ (codes " (" ++ (r.id ++ codes ")")))))

-- these, and the reason
abbrev pub refusal_text : Uri → Refusal → List ℕ
refusal_text interface r = named_text interface r ++ (reason_text r.reason ++ codes "\n")

-- for an interface that has no candidate: a line for each; where there is none its feeds have no implementation, and a line says so
abbrev pub refusals_text : Uri → List Refusal → List ℕ
refusals_text interface [] = codes "  " ++ (interface ++ codes " has no implementation in its feeds\n")
refusals_text interface (r ∷ rs) = flat_map (refusal_text interface) (r ∷ rs)
