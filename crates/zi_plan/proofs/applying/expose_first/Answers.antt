use Rattle.zi_plan.specs.Steps.{bound_seen}
use Rattle.zi_plan.proofs.NextLaws.{exposes_end, exposes_first}
use Rattle.zi_plan.proofs.applying.expose_first.Goals as goal

pub returns-in-empty : goal.returns-in-empty
returns-in-empty c = exposes_end (bound_seen c.args.bound.now) c.args.shims.now c.args.dirs.now c.requires c.in-empty.len_below

pub returns-in_ok-add_dir-in-len1-up : goal.returns-in_ok-add_dir-in-len1-up
returns-in_ok-add_dir-in-len1-up c =
    exposes_first (bound_seen c.args.bound.now) c.args.shims.now c.folder-item.result c.args.dirs.now c.add_dir.new.dirs c.requires c.in-len1-up.len_at_least c.folder-item.is
    c.in_ok-add_dir-in-len1-up.ensures
