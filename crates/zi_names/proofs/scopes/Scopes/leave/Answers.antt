use Rattle.std.proofs.Common.{◌≡◌, ◌<◌, ◌∷◌, [], length, drop, reverse, sym, ap, ◌∙◌, arith}
use Rattle.std.proofs.lemmas.List.{reverse-append}
use Rattle.zi_names.specs.Levels.{levels}
use Rattle.zi_names.proofs.LevelsLemmas.{levels_some}
use Rattle.zi_names.proofs.scopes.Scopes.leave.Goals as goal

-- where an element is open there are two scopes
pub returns-in-Some-clause-none : goal.returns-in-Some-clause-none
returns-in-Some-clause-none c one =
    let rest = reverse c.pop.new.self.items in
    let n = c.in-Some.count in
    let scope = c.self.inside.scope in
    let open_now : c.args.self.now ≡ scope ∷ levels rest (drop n scope) =
    sym c.self.view_is ∙ ap (λ ns. levels ns scope) (ap reverse c.in-Some.ensures.items ∙ reverse-append c.pop.new.self.items (n ∷ [])) in
    let outer : 0 < length (levels rest (drop n scope)) = levels_some rest (drop n scope) in
    absurd (omega (arith, ap length open_now))
