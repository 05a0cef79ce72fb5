use Rattle.std.proofs.Common.{◌||◌, ap, ◌∙◌}
use Rattle.std.specs.List.{list_any}
use Rattle.zi_feed.specs.Impls.{is_run}
use Rattle.zi_feed.proofs.AddedLaws.{four_added}
use Rattle.zi_feed.proofs.along.added_with.Goals as goal

pub returns : goal.returns
returns c =
    four_added c.args.outer.now _ c.args.own c.in_ok-deps.ensures c.in_ok-commands.ensures (c.has_run_with-has_run.ensures ∙ ap (λ cs. c.args.outer.now.has_run || list_any is_run cs) c.as_slice.ensures) c.in_ok-bindings.ensures c.requires
