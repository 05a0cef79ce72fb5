use Rattle.std.proofs.Common.{rules, ◌≡◌, ◌∙◌, length, sym, ap}
use Rattle.zi_formula.proofs.Flat.{as_many}
use Rattle.zi_formula.proofs.constraints.Constraints.len.Goals as goal

pub returns : goal.returns
returns c =
    let n : c.len.result ≡ length c.self.inside.ends.items = search rules in
    n ∙ sym (as_many c.self.inside.lits.items c.self.inside.variables.items c.self.inside.groups.items 0 c.self.inside.ends.items) ∙ ap length c.self.view_is
