use Rattle.std.proofs.Common.{◌≡◌, ◌+◌, ℕ, Bool, true, List, [], ◌∷◌, ◌++◌, Bor, map, take, cond, ap, sym, ◌∙◌, rules}
use Rattle.std.specs.Prelude.{bytes_eq}
use Rattle.std.specs.Ordering.{nat_cmp}
use Rattle.std.specs.Cmp.Lexicographic.{slice_cmp}
use Rattle.std.specs.BTreeSet as tree
use Rattle.std.proofs.lemmas.List.{take_more, map-append}
use Rattle.std.proofs.lemmas.Map.Text.{is_eq-slice_cmp}
use Rattle.zi_reading.specs.Words.{is_among}
use Rattle.zi_sels.specs.declared.types.Selection.{Selection}
use Rattle.zi_sels.proofs.ClosedLaws.{among_more}
use Rattle.zi_sels.proofs.closed.Selected.of.Goals as goal

pub loop-item-init : goal.loop-item-init
unfolding is_among
loop-item-init c = search rules

pub loop-item-preserved : goal.loop-item-preserved
loop-item-preserved c = λ q.
    let n : ℕ = c.loop-item.item-index in
    let all : List Selection = c.args.items.now in
    let x : Selection = c.item-item.result in
    let t : List ℕ = c.as_str.result.now in
    let names : List (List ℕ) = map (λ (y : Selection). y.interface) (take n all) in
    let had : Bool = tree.contains (λ (v : Bor (List ℕ)) (y : Bor (List ℕ)). slice_cmp nat_cmp v.now y.now) c.loop-item.interfaces q in
    let more : map (λ (y : Selection). y.interface) (take (n + 1) all) ≡ names ++ x.interface ∷ [] =
    ap (map (λ (y : Selection). y.interface)) (take_more all n x c.loop-item-test.true ∙ ap (λ v. take n all ++ v ∷ []) (sym c.item-item.is))
    ∙ map-append (λ (y : Selection). y.interface) (take n all) (x ∷ []) in
    c.in_ok-insert.ensures.updates.0 q
    ∙ (ap (λ b. cond b true had) (is_eq-slice_cmp t q.now)
    ∙ (ap (λ v. cond (bytes_eq t q.now) true v) (c.loop-item.invariant q)
    ∙ (ap (λ v. cond (bytes_eq v q.now) true (is_among names q.now)) c.as_str.ensures
    ∙ sym (ap (λ v. is_among v q.now) more ∙ among_more names x.interface q.now))))
