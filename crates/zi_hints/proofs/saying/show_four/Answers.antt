use Rattle.std.proofs.Common.{◌++◌}
use Rattle.std.proofs.lemmas.Str.{IsUtf8-append}
use Rattle.zi_hints.proofs.SayingLemmas.{then_shown}
use Rattle.zi_hints.proofs.saying.show_four.Goals as goal

pub returns : goal.returns
returns g c =
    let utf8 = (IsUtf8-append (c.args.a.now ++ c.args.b.now) c.args.c.now (IsUtf8-append (c.args.a.now) c.args.b.now c.utf8.a c.utf8.b) c.utf8.c) in
    then_shown _ _ _ _ (c.args.a.now ++ c.args.b.now ++ c.args.c.now) c.args.d.now utf8 c.in_ok-show_three.ensures c.show.ensures
