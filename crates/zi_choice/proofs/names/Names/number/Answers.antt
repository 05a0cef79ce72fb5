use Rattle.std.proofs.Common.{◌<◌, length, ◌∙◌, ap, sym, arith, ◌≡◌}
use Rattle.std.specs.Prelude.{bytes_eq, Some}
use Rattle.std.proofs.lemmas.Iterator.Adapters.{position_from-zero}
use Rattle.zi_policy.specs.Platform.{place}
use Rattle.zi_universe.specs.Whole.{uris_of}
use Rattle.zi_choice.specs.Choice.{number}
use Rattle.zi_choice.proofs.TaskLaws.{number_within}
use Rattle.zi_choice.proofs.names.Names.number.Goals as goal

pub returns-in_err-i-clause-is : goal.returns-in_err-i-clause-is
returns-in_err-i-clause-is c =
    c.from_residual.ensures ∙ c.in_err-i.ensures.index ∙ position_from-zero (bytes_eq c.args.uri.now) c.self.inside.addresses.keys ∙ ap (place c.args.uri.now) (c.self.invariant.are_addresses ∙ ap uris_of c.self.view_is)

pub returns-clause-is : goal.returns-clause-is
returns-clause-is c =
    c.in_ok-i.ensures.index ∙ position_from-zero (bytes_eq c.args.uri.now) c.self.inside.addresses.keys ∙ ap (place c.args.uri.now) (c.self.invariant.are_addresses ∙ ap uris_of c.self.view_is)

pub returns-clause-within : goal.returns-clause-within
returns-clause-within c =
    let e : Some c.in_ok-i.i ≡ number c.args.self.now c.args.uri.now = c.in_ok-i.ensures.index ∙ position_from-zero (bytes_eq c.args.uri.now) c.self.inside.addresses.keys ∙ ap (place c.args.uri.now) (c.self.invariant.are_addresses ∙ ap uris_of c.self.view_is) in
    number_within c.args.self.now c.args.uri.now c.in_ok-i.i (sym e)

pub overflow_cast-result : goal.overflow_cast-result
overflow_cast-result c =
    let e : Some c.in_ok-i.i ≡ number c.self.inside.universe.now c.args.uri.now = c.in_ok-i.ensures.index ∙ position_from-zero (bytes_eq c.args.uri.now) c.self.inside.addresses.keys ∙ ap (place c.args.uri.now) c.self.invariant.are_addresses in
    let within : c.in_ok-i.i < length c.self.inside.universe.now = number_within c.self.inside.universe.now c.args.uri.now c.in_ok-i.i (sym e) in
    let few = c.interfaces-whole.ensures.whole.few_interfaces in
    omega (arith, within, few)
