use Rattle.std.proofs.Common.{◌≡◌, ◌∙◌, ◌<◌, length, set, swap_remove, ap, sym, arith, Vec, Global}
use Rattle.std.proofs.lemmas.List.{length-map}
use Rattle.zi_sat.specs.declared.rows.Watcher.{Watcher}
use Rattle.zi_sat.specs.Rows.{row_at}
use Rattle.zi_sat.proofs.RowLaws.{rows_row, rows_set}
use Rattle.zi_sat.proofs.rows.Rows.take_out.Goals as goal

pub returns-clause-rows : goal.returns-clause-rows
returns-clause-rows c =
    let vs = c.self.inside.rows.items in
    let low : c.args.r < length vs = omega (arith, c.requires.row, ap length c.self.view_is, length-map vs (λ (x : Vec Watcher Global). x.items)) in
    rows_set vs c.args.r c.index_mut.result.now c.swap_remove.new.self _ (c.swap_remove.ensures.items ∙ ap (λ ws. swap_remove ws c.args.j c.swap_remove.result) (sym (rows_row vs c.args.r c.index_mut.result.now low c.index_mut.ensures.value)))
    ∙ ap (λ rows. set rows c.args.r (swap_remove (row_at rows c.args.r) c.args.j c.swap_remove.result)) c.self.view_is
