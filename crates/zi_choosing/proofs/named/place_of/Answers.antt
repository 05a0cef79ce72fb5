use Rattle.std.proofs.Common.{◌∙◌}
use Rattle.zi_choosing.proofs.named.place_of.Goals as goal

pub returns : goal.returns
returns c = c.copied.ensures ∙ (c.get.ensures.value ∙ c.requires c.args.interface.now)
