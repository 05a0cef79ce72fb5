use Rattle.std.proofs.Common.{Some, refl, sym, ◌∙◌, ap, w64}
use Rattle.std.proofs.lemmas.Int.{to_z-of_z}
use Rattle.zi_shelf.specs.Fillings.{finished_file}
use Rattle.zi_shelf.proofs.FillingLemmas.{no_file, file_finished, put_back}
use Rattle.zi_memory.proofs.filling.finish.Goals as goal

pub returns-then-not-exchange : goal.returns-then-not-exchange
returns-then-not-exchange c = absurd (no_file c.args.path.now c.args.exec c.args.mtime c.args.tree.now (c.if-not-exchange.ensures.none refl) c.requires)

pub returns : goal.returns
returns c =
    let path = c.args.path.now in
    let x = c.exchange.new.node in
    file_finished path c.args.exec c.args.mtime c.args.tree.now x (c.if-not-exchange.ensures.there refl) c.requires
    ∙ ap Some (sym (put_back path c.args.tree.now c.exchange.new.self c.exchange-2.new.self c.empty_file-place.result c.stamped-file.result (finished_file c.args.exec c.args.mtime x) c.exchange.ensures.after c.exchange-2.ensures.after
    (c.stamped-file.ensures ∙ ap (λ t. finished_file c.args.exec t x) (to_z-of_z w64 c.args.mtime c.ranges.mtime))))
