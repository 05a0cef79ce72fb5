use Rattle.std.proofs.Common.{Some, lit<}
use Rattle.std.proofs.lemmas.Str.Pattern.{strip_prefix_char}
use Rattle.zi_address.proofs.SettledLaws.{front_away}
use Rattle.zi_address.proofs.address.without_dot.Goals as goal

pub returns-in-Some-strip_prefix : goal.returns-in-Some-strip_prefix
returns-in-Some-strip_prefix c =
    front_away c.args.text.now c.in-Some.behind.now c.in-Some-strip_prefix.rest.now
    (strip_prefix_char 46 c.args.text.now (Some c.in-Some.behind) c.in-Some.ensures.cases (lit< tt))
    (strip_prefix_char 47 c.in-Some.behind.now (Some c.in-Some-strip_prefix.rest) c.in-Some-strip_prefix.ensures.cases (lit< tt))
