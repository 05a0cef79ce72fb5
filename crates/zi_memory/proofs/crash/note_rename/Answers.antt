use Rattle.std.proofs.Common.{◌≡◌, cond, true, false, None, Some, sym, ◌∙◌, ap, bytes_eq, if◌then◌else◌}
use Rattle.zi_shelf.specs.Shelved.{Renamed}
use Rattle.zi_memory.specs.Comers.{at, first_or, first_step}
use Rattle.zi_memory.proofs.ComingLemmas.{at_new, renamed_more}
use Rattle.zi_memory.proofs.crash.note_rename.Goals as goal

pub returns : goal.returns
returns c =
    renamed_more c.args.firsts.now c.take_first.new.firsts c.insert.new.self c.args.old.now c.args.new.now c.in_ok-copy.field-0 c.args.number c.in_ok-first.first c.args.pick.renames c.if-not-pick.false
    c.in_ok-first.ensures.ok c.take_first.ensures.out c.in_ok-copy.ensures c.in_ok-insert.ensures.updates
