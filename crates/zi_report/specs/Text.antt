-- The text of a report: for each place of the walk its line, and below it those of its reports. Each line ends in LF.
use Rattle.std.specs.Prelude.{ℕ, ◌-◌, ◌==◌, Bool, List, [], ◌++◌, codes, decimal, filter, slice_get, Option, Some, None, option_map, unwrap_or}
use Rattle.std.specs.List.{flat_map}
use Rattle.zi_universe.specs.declared.types.Candidate.{Candidate}
use Rattle.zi_universe.specs.declared.types.Interface.{Interface}
use Rattle.zi_choice.specs.Walk.{Place}
use Rattle.zi_choice.specs.Vars.{Cand, candidates_of, var_number}
use Rattle.zi_build.specs.Clauses.{each}
use Rattle.zi_why.specs.Reasons.{uri_of}
use Rattle.zi_why.specs.declared.report.Reason.{Reason}
use Rattle.zi_why.specs.declared.report.Reason.TheVariants.{Version, Lacking, Bits, Against, Needs, Search}
use Rattle.zi_why.specs.declared.report.Report.{Report}

-- the id of the candidate of a number of an interface
abbrev pub id_at : List Interface → ℕ → ℕ → List ℕ
id_at u i c = unwrap_or (option_map (λ (k : Candidate). k.imp.id) (slice_get (candidates_of u i) c)) []

-- the id of the candidate of an interface whose variable has this number: they count from that of the first
abbrev pub id_of : List Interface → ℕ → ℕ → List ℕ
id_of u i v = id_at u i (v - var_number u (Cand i 0))

-- `INTERFACE ID`, or `INTERFACE none`
abbrev pub chosen_words : List Interface → ℕ → Option ℕ → List ℕ
chosen_words u i None = codes "none"
chosen_words u i (Some c) = id_at u i c

abbrev pub place_line : List Interface → Place → List ℕ
place_line u p = uri_of u p.interface ++ (codes " " ++ (chosen_words u p.interface p.pick ++ codes "\n"))

-- what is said of each reason
abbrev pub reason_words : Reason → List ℕ
reason_words (Version by) = codes " version refused by " ++ by
reason_words (Lacking command) = codes " has no command " ++ command
reason_words (Bits by) = codes " other bits than " ++ by
reason_words (Against interface) = codes " against " ++ interface
reason_words (Needs interface) = codes " needs " ++ interface
reason_words (Search hints) = codes " excluded by " ++ (decimal hints ++ codes " steps")

-- two spaces, the candidate's id, and the reason
abbrev pub report_line : List Interface → ℕ → Report → List ℕ
report_line u i r = codes "  " ++ (id_of u i r.candidate ++ (reason_words r.reason ++ codes "\n"))

-- the report is one of the place of this number
abbrev pub is_of : ℕ → Report → Bool
is_of n r = r.place == n

abbrev pub place_text : List Interface → List Report → ℕ → Place → List ℕ
place_text u rs n p = place_line u p ++ flat_map (report_line u p.interface) (filter (is_of n) rs)

-- the places count from 1
abbrev pub report_text : List Interface → List Place → List Report → List ℕ
report_text u ps rs = each 1 (place_text u rs) ps
