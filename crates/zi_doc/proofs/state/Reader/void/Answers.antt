use Rattle.std.proofs.Common.{◌≡◌, ap, ◌∙◌, arith, length}
use Rattle.zi_doc.specs.View.{stack}
use Rattle.zi_doc.proofs.Stacks.{scopes_some}
use Rattle.zi_doc.proofs.state.Reader.void.Goals as goal

pub leave_scope-requires : goal.leave_scope-requires
leave_scope-requires c =
    omega (arith, ap length c.in-Ok.ensures.1.entered, scopes_some (stack c.args.self.now), ap length c.requires.0)
