-- Reports that are taken place by place from the front, where they stand in order.
use Rattle.std.specs.Prelude.{ℕ, suc, cond, List, [], ◌∷◌, ◌++◌}
use Rattle.std.specs.List.{flat_map}
use Rattle.zi_universe.specs.declared.types.Interface.{Interface}
use Rattle.zi_choice.specs.Walk.{Place}
use Rattle.zi_why.specs.declared.report.Report.{Report}
use Rattle.zi_report.specs.Text.{place_line, report_line, is_of}

-- those at the front that are of a place, and those behind them
abbrev pub front : ℕ → List Report → List Report
front n [] = []
front n (r ∷ rs) = cond (is_of n r) (r ∷ front n rs) []

abbrev pub behind : ℕ → List Report → List Report
behind n [] = []
behind n (r ∷ rs) = cond (is_of n r) (behind n rs) (r ∷ rs)

-- the lines of a place with these reports
abbrev pub part : List Interface → Place → List Report → List ℕ
part u p rs = place_line u p ++ flat_map (report_line u p.interface) rs

-- the lines of places, the first having this number
abbrev pub text_from : List Interface → ℕ → List Place → List Report → List ℕ
text_from u n [] rs = []
text_from u n (p ∷ ps) rs = part u p (front n rs) ++ text_from u (suc n) ps (behind n rs)
