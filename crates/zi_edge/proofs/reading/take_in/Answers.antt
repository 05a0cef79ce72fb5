use Rattle.std.proofs.Common.{◌≡◌, ◌+◌, ◌<◌, ◌++◌, length, take, subst, arith}
use Rattle.std.specs.Prelude.{option_map, IfSome}
use Rattle.zi_edge.proofs.ReadLemmas.{whole}
use Rattle.zi_edge.proofs.reading.take_in.Goals as goal

pub returns-in-Ok-clause-taken : goal.returns-in-Ok-clause-taken
returns-in-Ok-clause-taken g c =
    let grown : length c.read_to_end.new.buf.items ≡ length c.args.into.now.items + c.in-Ok.count = omega (arith, c.in-Ok.ensures.ok, c.read_to_end.new.buf.ok.0, c.args.into.now.ok.0) in
    let short : c.in-Ok.count < c.saturating_add.result = omega (arith, c.saturating_add.ensures, c.if-count-limit.true, c.in-Ok.ensures.ok, c.read_to_end.new.buf.ok.1, c.read_to_end.new.buf.small) in
    let known : IfSome (option_map (take c.saturating_add.result) (g.R.Read.remaining c.args.reader)) (λ xs. c.read_to_end.new.buf.items ≡ c.args.into.now.items ++ xs) =
    subst (λ m. IfSome (option_map (take m) (g.R.Read.remaining c.args.reader)) (λ xs. c.read_to_end.new.buf.items ≡ c.args.into.now.items ++ xs)) c.take-reader.ensures.limit
    (subst (λ r. IfSome (option_map (take c.take-reader.result.limit) (g.R.Read.remaining r)) (λ xs. c.read_to_end.new.buf.items ≡ c.args.into.now.items ++ xs)) c.take-reader.ensures.inner
    c.in-Ok.ensures.bytes) in
    whole (g.R.Read.remaining c.args.reader) c.args.limit c.saturating_add.result c.args.into.now.items c.read_to_end.new.buf.items c.in-Ok.count c.in-Ok.ensures.appends grown c.if-count-limit.true short known
