use Rattle.std.proofs.Common.{◌++◌, map, sym, subst}
use Rattle.zi_choice.specs.Choice.{with_runner}
use Rattle.zi_why.specs.Reasons.{owned_by}
use Rattle.zi_why.specs.Known.{RowsAre}
use Rattle.zi_why.proofs.KnownLaws.{owned_then}
use Rattle.zi_why.proofs.known.own_needs.Goals as goal

pub returns-in_default-clause-ok : goal.returns-in_default-clause-ok
returns-in_default-clause-ok c os h =
    subst (λ r. RowsAre c.args.names.now c.own_each.new.rows.items (os ++ map (owned_by c.args.owner) (with_runner c.args.command.now.deps r))) (sym c.in_default.is)
    (subst (λ ds. RowsAre c.args.names.now c.own_each.new.rows.items (os ++ map (owned_by c.args.owner) ds)) c.as_slice.ensures (c.in_ok-own_each.ensures.ok os h))

pub returns-clause-ok : goal.returns-clause-ok
returns-clause-ok c os h =
    subst (λ r. RowsAre c.args.names.now c.own.new.rows.items (os ++ map (owned_by c.args.owner) (with_runner c.args.command.now.deps r))) (sym c.in-Some.is)
    (owned_then c.args.names.now c.own.new.rows.items os c.args.owner c.args.command.now.deps c.in-Some.runner.dep
    (c.in_ok-own.ensures.ok (os ++ map (owned_by c.args.owner) c.args.command.now.deps)
    (subst (λ ds. RowsAre c.args.names.now c.own_each.new.rows.items (os ++ map (owned_by c.args.owner) ds)) c.as_slice.ensures (c.in_ok-own_each.ensures.ok os h))))
