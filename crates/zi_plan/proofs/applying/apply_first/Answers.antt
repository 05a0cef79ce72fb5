use Rattle.std.proofs.Common.{ap, ◌∙◌}
use Rattle.zi_bind.specs.Shims.{with_shim}
use Rattle.zi_plan.specs.Steps.{bound_seen}
use Rattle.zi_plan.proofs.NextLaws.{no_fault, at_end, at_first}
use Rattle.zi_plan.proofs.applying.apply_first.Goals as goal

pub returns-in-empty : goal.returns-in-empty
returns-in-empty c =
    (no_fault c.args.bound.now.binding.now c.requires, at_end (bound_seen c.args.bound.now) c.args.shims.now c.args.vars.now c.requires c.in-empty.len_below)

pub returns-in_ok-apply_shim-in-len1-up : goal.returns-in_ok-apply_shim-in-len1-up
returns-in_ok-apply_shim-in-len1-up c = (
  no_fault c.args.bound.now.binding.now c.requires,
  at_first (bound_seen c.args.bound.now) c.args.shims.now c.folder-item.result c.args.vars.now c.apply_shim.new.vars c.requires c.in-len1-up.len_at_least c.folder-item.is
      (c.in_ok-apply_shim-in-len1-up.ensures.ok ∙ ap (λ f. with_shim f c.args.bound.now.binding.now c.args.vars.now) c.as_str.ensures),
)
