use Rattle.std.proofs.Common.{◌≡◌, ◌+◌, true, [], ◌∷◌, ◌++◌, take, cond, ap, sym, ◌∙◌}
use Rattle.std.specs.Prelude.{◌==◌, ◌&&◌, bytes_eq}
use Rattle.std.proofs.lemmas.List.{take_more}
use Rattle.zi_choice.specs.Walk.{is_used}
use Rattle.zi_sels.specs.Using.{walk_with}
use Rattle.zi_sels.specs.declared.used.Key.{Key}
use Rattle.zi_sels.proofs.UsedLemmas.{used_more}
use Rattle.zi_sels.proofs.used.UsedTable.of.Goals as goal

pub loop-x-preserved : goal.loop-x-preserved
loop-x-preserved c = λ i name.
    let n = c.loop-x.x-index in
    let all = c.args.used.now in
    let x = c.x-item.result in
    let key : Key = record { interface = i; command = record { ref_ptr = c.as_str.result.ref_ptr; now = name } } in
    let more : take (n + 1) all ≡ take n all ++ x ∷ [] = take_more all n x c.loop-x-test.true ∙ ap (λ v. take n all ++ v ∷ []) (sym c.x-item.is) in
    c.in_ok-insert.ensures.updates.0 key
    ∙ ap (λ v. cond (x.interface == i && bytes_eq c.as_str.result.now name) true v) (c.loop-x.invariant i name)
    ∙ ap (λ v. cond (x.interface == i && bytes_eq v name) true (is_used (walk_with (take n all)) i name)) c.as_str.ensures
    ∙ sym (ap (λ us. is_used (walk_with us) i name) more ∙ used_more (take n all) x i name)
