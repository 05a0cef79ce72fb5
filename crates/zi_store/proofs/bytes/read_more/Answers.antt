use Rattle.std.proofs.Common.{◌≡◌, ◌≤◌, rules, arith, length, nat_lt, Ok, subst}
use Rattle.zi_shelf.specs.Reading.{Read, ReadAnswer}
use Rattle.zi_store.proofs.BytesLemmas.{read_front}
use Rattle.zi_store.proofs.bytes.read_more.Goals as goal

pub returns-clause-front : goal.returns-clause-front
returns-clause-front g c all exec mtime st front =
    let had : c.len-had.result ≡ length c.args.bytes.now.items = search rules in
    let some : 1 ≤ c.min-room.result = omega (arith, c.min-room.ensures, c.saturating_add.ensures) in
    read_front all exec mtime st c.min-room.result c.args.bytes.now.items c.ask_bytes.new.into.items c.in_ok-ask_bytes.field-0
    (subst (λ n. ReadAnswer (Read c.args.top.now c.args.path.now n c.min-room.result) c.args.bytes.now.items (Ok c.in_ok-ask_bytes.field-0) c.ask_bytes.new.into.items st.state.shelf) had (c.in_ok-ask_bytes.ensures.answer st.state st.keeps st.tells))
    some front (nat_lt c.len-had.result c.len.result)
    (λ e. let k : c.len.result ≤ c.len-had.result = search (rules, e) in omega (arith, k, had, c.len.ensures))
