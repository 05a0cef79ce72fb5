use Rattle.std.proofs.Common.{◌≡◌, ◌∙◌, ◌<◌, ◌++◌, ◌∷◌, [], length, set, ap, sym, arith, Vec, Global}
use Rattle.std.specs.Prelude.{Result, Ok, Err, OnErr}
use Rattle.std.proofs.lemmas.List.{length-map}
use Rattle.zi_sat.specs.declared.rows.Watcher.{Watcher}
use Rattle.zi_sat.specs.Rows.{row_at}
use Rattle.zi_sat.proofs.RowLaws.{rows_row, rows_set, rows_same}
use Rattle.zi_sat.proofs.rows.Rows.add.Goals as goal

held_on_err : {A E X : Type 0} → (r : Result A E) → X → OnErr r X
held_on_err (Ok a) x = tt
held_on_err (Err e) x = x

pub returns-clause-ok : goal.returns-clause-ok
returns-clause-ok c =
    let vs = c.self.inside.rows.items in
    let low : c.args.r < length vs = omega (arith, c.requires, ap length c.self.view_is, length-map vs (λ (x : Vec Watcher Global). x.items)) in
    rows_set vs c.args.r c.index_mut.result.now c.push.new.self _ (c.in_ok-push.ensures.items ∙ ap (λ ws. ws ++ c.args.w ∷ []) (sym (rows_row vs c.args.r c.index_mut.result.now low c.index_mut.ensures.value)))
    ∙ ap (λ rows. set rows c.args.r (row_at rows c.args.r ++ c.args.w ∷ [])) c.self.view_is

pub returns-in_err-push-clause-err : goal.returns-in_err-push-clause-err
returns-in_err-push-clause-err c =
    let vs = c.self.inside.rows.items in
    let low : c.args.r < length vs = omega (arith, c.requires, ap length c.self.view_is, length-map vs (λ (x : Vec Watcher Global). x.items)) in
    held_on_err c.from_residual.result (rows_same vs c.args.r c.index_mut.result.now c.push.new.self low c.index_mut.ensures.value c.in_err-push.ensures.items ∙ c.self.view_is)
