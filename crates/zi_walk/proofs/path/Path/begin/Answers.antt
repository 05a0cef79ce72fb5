use Rattle.std.proofs.Common.{◌≡◌, ◌<◌, length, subst, Some}
use Rattle.std.specs.Prelude.{slice_get}
use Rattle.std.proofs.lemmas.Option.{slice_get_within}
use Rattle.zi_walk.specs.Kept.{stand_of}
use Rattle.zi_walk.proofs.StepLaws.{added_inside}
use Rattle.zi_walk.proofs.PathLaws.{begins, root_needs_none, root_needs_one, empty_inside}
use Rattle.zi_walk.proofs.path.Path.begin.Goals as goal

pub returns-in_default-clause-is : goal.returns-in_default-clause-is
returns-in_default-clause-is c =
    let y = stand_of c.args.self.now in
    let there : 0 < length c.args.names.now = slice_get_within c.args.names.now 0 c.root.result.now (subst (λ u. slice_get u 0 ≡ Some c.root.result.now) c.universe.ensures c.root.ensures) in
    begins c.args.names.now c.args.req.now y c.insert.new.self.keys c.in_ok-insert.field-0 c.args.self.now.tasks c.args.self.now.left c.requires there (record { added = c.in_ok-insert.ensures.added; keys = c.in_ok-insert.ensures.keys })
    (empty_inside y c.requires) (root_needs_none c.args.names.now c.args.req.now.command y c.requires c.in_default.is)

pub returns-clause-is : goal.returns-clause-is
returns-clause-is c =
    let y = stand_of c.args.self.now in
    let there : 0 < length c.args.names.now = slice_get_within c.args.names.now 0 c.root.result.now (subst (λ u. slice_get u 0 ≡ Some c.root.result.now) c.universe.ensures c.root.ensures) in
    begins c.args.names.now c.args.req.now y c.insert.new.self.keys c.in_ok-insert.field-0 c.add.new.self c.in_ok-self.field-0 c.requires there (record { added = c.in_ok-insert.ensures.added; keys = c.in_ok-insert.ensures.keys })
    (added_inside c.in_ok-self.ensures.added)
    (root_needs_one c.args.names.now c.args.req.now.command y c.in-Some.name c.from_ref.result c.add.new.self c.in_ok-self.field-0 c.requires c.in-Some.is c.from_ref.ensures.value c.in_ok-self.ensures.added)
