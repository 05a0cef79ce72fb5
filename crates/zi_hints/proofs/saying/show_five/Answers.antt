use Rattle.std.proofs.Common.{◌++◌}
use Rattle.std.proofs.lemmas.Str.{IsUtf8-append}
use Rattle.zi_hints.proofs.SayingLemmas.{then_shown}
use Rattle.zi_hints.proofs.saying.show_five.Goals as goal

pub returns : goal.returns
returns g c =
    let utf8 = (IsUtf8-append (c.args.a.now ++ c.args.b.now ++ c.args.c.now) c.args.d.now (IsUtf8-append (c.args.a.now ++ c.args.b.now) c.args.c.now (IsUtf8-append (c.args.a.now) c.args.b.now c.utf8.a c.utf8.b) c.utf8.c) c.utf8.d) in
    then_shown _ _ _ _ (c.args.a.now ++ c.args.b.now ++ c.args.c.now ++ c.args.d.now) c.args.e.now utf8 c.in_ok-show_four.ensures c.show.ensures
