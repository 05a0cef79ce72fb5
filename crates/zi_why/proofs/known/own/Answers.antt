use Rattle.std.proofs.Common.{◌∙◌, sym}
use Rattle.zi_why.proofs.KnownLaws.{indexed, not_indexed}
use Rattle.zi_why.proofs.known.own.Goals as goal

pub returns-in_default-clause-ok : goal.returns-in_default-clause-ok
returns-in_default-clause-ok c os h = not_indexed c.args.names.now c.args.rows.now.items os c.args.owned (sym c.number.ensures.is ∙ c.in_default.is) h

pub returns-clause-ok : goal.returns-clause-ok
returns-clause-ok c os h = indexed c.args.names.now c.args.rows.now.items c.add.new.rows.items os c.args.owned c.in-Some.i c.add.ensures.len (sym c.number.ensures.is ∙ c.in-Some.is) c.in_ok-add.ensures.ok h
