use Rattle.std.proofs.Common.{None, Some, lit<, ◌∙◌}
use Rattle.std.proofs.lemmas.Str.Pattern.{split_once_first}
use Rattle.zi_edge.proofs.EntryLemmas.{none_halved, some_halved}
use Rattle.zi_edge.proofs.environment.halves.Goals as goal

pub returns-in-None : goal.returns-in-None
returns-in-None c = none_halved c.args.entry.now (split_once_first 61 c.args.entry.now None c.in-None.ensures.cases (lit< tt))

pub returns-in-Some : goal.returns-in-Some
returns-in-Some c =
    let found = split_once_first 61 c.args.entry.now (Some (c.in-Some.name, c.in-Some.value)) c.in-Some.ensures.cases (lit< tt) in
    c.named.ensures ∙ some_halved c.args.entry.now c.in-Some.name.now c.in-Some.value.now found.0 found.1 found.2
