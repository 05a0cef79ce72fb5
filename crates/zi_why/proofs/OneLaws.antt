-- A block has one report at most.
use Rattle.std.proofs.Common.{◌≡◌, ℕ, zero, suc, ◌+◌, Bool, true, false, List, [], ◌∷◌, length, take, refl, sym, ap, ◌∙◌, arith, Some}
use Rattle.std.specs.Prelude.{slice_get}
use Rattle.std.proofs.lemmas.Bool.{false≢true}
use Rattle.std.proofs.lemmas.Option.{same_Some}
use Rattle.zi_universe.specs.declared.types.Requirement.{Requirement}
use Rattle.zi_universe.specs.declared.types.Interface.{Interface}
use Rattle.zi_choice.specs.declared.traced.Stop.{Stop}
use Rattle.zi_choice.specs.declared.traced.Stop.TheVariants.{Came, Needed}
use Rattle.zi_choice.specs.Choice.{Choice, candidate_at}
use Rattle.zi_choice.specs.Stops.{places_of}
use Rattle.zi_choice.specs.Vars.{Cand, before, own_candidates, var_number}
use Rattle.zi_choice.proofs.StopLaws.{stops_one}
use Rattle.zi_why.specs.Reasons.{reason}
use Rattle.zi_why.specs.Laws.{Passed, place_number, reason_of}
use Rattle.zi_why.specs.Reports.{ReportIsOne}
use Rattle.zi_why.specs.declared.report.Report.{Report}
use Rattle.zi_why.specs.declared.report.Reason.{Reason}
use Rattle.zi_why.proofs.BlockLaws.{place_more}
use Rattle.zi_feed.specs.IdLaws.{none_some}

is_place : Stop → Bool
is_place (Came i) = true
is_place (Needed i name) = false

number_of : Stop → ℕ
number_of (Came i) = i
number_of (Needed i name) = i

-- The stops of two places of one number are one.
same_stop : (s : Choice) (xs : List Stop) (n m i j : ℕ) → slice_get xs n ≡ Some (Came i) → slice_get xs m ≡ Some (Came j) → length (places_of s (take (suc n) xs)) ≡ length (places_of s (take (suc m) xs)) → n ≡ m
unfolding is_place
same_stop s [] n m i j e f h = absurd (none_some e)
same_stop s (x ∷ xs) zero zero i j e f h = refl
same_stop s (Came k ∷ xs) zero (suc m) i j e f h =
    let more : length (places_of s (take (suc m) xs)) ≡ suc (length (places_of s (take m xs))) = place_more s xs m j f in
    absurd (omega (arith, h, more))
same_stop s (Came k ∷ xs) (suc n) zero i j e f h =
    let more : length (places_of s (take (suc n) xs)) ≡ suc (length (places_of s (take n xs))) = place_more s xs n i e in
    absurd (omega (arith, h, more))
same_stop s (Came k ∷ xs) (suc n) (suc m) i j e f h =
    let less : length (places_of s (take (suc n) xs)) ≡ length (places_of s (take (suc m) xs)) = omega (arith, h) in
    ap (λ l. suc l) (same_stop s xs n m i j e f less)
same_stop s (Needed k name ∷ xs) zero (suc m) i j e f h = absurd (false≢true (ap is_place (same_Some _ _ e)))
same_stop s (Needed k name ∷ xs) (suc n) zero i j e f h = absurd (false≢true (ap is_place (same_Some _ _ f)))
same_stop s (Needed k name ∷ xs) (suc n) (suc m) i j e f h = ap (λ l. suc l) (same_stop s xs n m i j e f h)

-- so a place and a candidate there have one reason
same_reason : (u : List Interface) (req : Requirement) (s : Choice) (p q : Passed u req s) (hints : ℕ) → place_number u req s p ≡ place_number u req s q → var_number u (Cand p.interface p.number) ≡ var_number u (Cand q.interface q.number) → reason_of u req s p hints ≡ reason_of u req s q hints
unfolding number_of
same_reason u req s p q hints e f =
    let stops : p.stops ≡ q.stops = stops_one u req s p.stops q.stops p.are q.are in
    let there : slice_get p.stops q.at ≡ Some (Came q.interface) = ap (λ xs. slice_get xs q.at) stops ∙ q.here in
    let at : p.at ≡ q.at = same_stop s p.stops p.at q.at p.interface q.interface p.here there (e ∙ ap (λ xs. length (places_of s (take (suc q.at) xs))) (sym stops)) in
    let interface : p.interface ≡ q.interface = ap number_of (same_Some _ _ (sym p.here ∙ ap (slice_get p.stops) at ∙ there)) in
    let g : 1 + (before own_candidates u p.interface + p.number) ≡ 1 + (before own_candidates u p.interface + q.number) = f ∙ ap (λ i. var_number u (Cand i q.number)) (sym interface) in
    let number : p.number ≡ q.number = omega (arith, g) in
    let candidate : p.candidate ≡ q.candidate = same_Some _ _ (sym p.there ∙ ap (λ i. candidate_at u i p.number) interface ∙ ap (candidate_at u q.interface) number ∙ q.there) in
    ap (λ xs. reason u req s (take p.at xs) p.interface p.candidate hints) stops ∙ ap (λ n. reason u req s (take n q.stops) p.interface p.candidate hints) at
    ∙ ap (λ i. reason u req s (take q.at q.stops) i p.candidate hints) interface ∙ ap (λ k. reason u req s (take q.at q.stops) q.interface k hints) candidate

a_report : ℕ → ℕ → Reason → Report
a_report place candidate reason = record { place = place; candidate = candidate; reason = reason }

pub report_one : ReportIsOne
unfolding a_report
report_one u req s b r q h g =
    ap (λ n. a_report n r.candidate r.reason) (h.place ∙ sym g.place) ∙ ap (λ n. a_report q.place n r.reason) (h.candidate ∙ sym g.candidate)
    ∙ ap (λ x. a_report q.place q.candidate x) (h.is ∙ same_reason u req s h.passed g.passed (length b.hints) (sym h.of.place ∙ g.of.place) (sym h.of.candidate ∙ g.of.candidate) ∙ sym g.is)
