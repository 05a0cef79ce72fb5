use Rattle.std.proofs.Common.{inl, refl, sym}
use Rattle.zi_store.proofs.KeptLemmas.{only_more, still_more, there_now, same_entries, or_told}
use Rattle.zi_store.proofs.checked.Checked.keep.Goals as goal

pub returns-clause-only : goal.returns-clause-only
returns-clause-only c n h = or_told (only_more c.args.self.now.sound c.insert.new.self c.args.spelled c.args.name.now c.in_ok-insert.ensures.updates n h) refl

pub returns-clause-still : goal.returns-clause-still
returns-clause-still c n d h =
    still_more c.spelling_is_one_to_one.ensures c.args.self.now.sound c.insert.new.self c.args.spelled c.args.name.now c.requires c.whole_digest.ensures c.in_ok-insert.ensures.updates n d h

pub returns-clause-there : goal.returns-clause-there
returns-clause-there c = there_now c.args.self.now.sound c.insert.new.self c.args.spelled c.args.name.now c.requires c.in_ok-insert.ensures.updates

pub returns-in_err-insert-clause-only : goal.returns-in_err-insert-clause-only
returns-in_err-insert-clause-only c n h = inl (same_entries c.args.self.now.sound c.insert.new.self c.in_err-insert.ensures.err n h)

pub returns-in_err-insert-clause-still : goal.returns-in_err-insert-clause-still
returns-in_err-insert-clause-still c n d h = same_entries c.insert.new.self c.args.self.now.sound (sym c.in_err-insert.ensures.err) n h
