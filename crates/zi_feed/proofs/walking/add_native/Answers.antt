use Rattle.std.proofs.Common.{◌++◌, ◌∷◌, [], ap, ◌∙◌}
use Rattle.std.proofs.lemmas.Result.{IfOk-weaker}
use Rattle.zi_elements.specs.Forest.{element_view}
use Rattle.zi_faults.specs.Carrying.{said_by}
use Rattle.zi_feed.proofs.ShareLaws.{native_numbers}
use Rattle.zi_feed.proofs.walking.add_native.Goals as goal

pub push_native-requires-clause-fit : goal.push_native-requires-clause-fit
push_native-requires-clause-fit c =
    native_numbers (said_by c.args.around.now.said) c.args.around.now.added (element_view c.args.e.now) c.args.around.now.made c.in_ok-native.native
    c.args.found.now.shares c.args.around.now.numbers c.requires.langs c.in_ok-native.ensures c.requires.fit

pub returns-clause-natives : goal.returns-clause-natives
returns-clause-natives c = IfOk-weaker c.push_native.result _ _ (λ v h. h ∙ ap (λ n. c.args.found.now.natives ++ n ∷ []) c.in_ok-native.ensures) c.push_native.ensures.natives
