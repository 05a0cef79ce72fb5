use Rattle.std.proofs.Common.{◌≡◌, refl, ◌≤◌, ◌<◌, true, false, ◌++◌, ap, sym, ◌∙◌, rules, arith, length, vec_len, length-append, subst}
use Rattle.std.proofs.lemmas.Bool.{MatchBool-at_true, MatchBool-at_false}
use Rattle.zi_store.specs.Keeping.{is_reading}
use Rattle.zi_store.specs.Entries.{IsFront}
use Rattle.zi_store.proofs.KeepingLemmas.{keeps_none, keeps_then, node_later}
use Rattle.zi_store.proofs.bytes.read_bytes.Goals as goal

pub loop-bytes-init : goal.loop-bytes-init
loop-bytes-init g c = (
  keeps_none is_reading _,
  λ all exec mtime st. (all, ap (λ l. l ++ all) c.new-bytes.ensures.items),
  refl,
)

pub returns-in_err-read_more-clause-sure : goal.returns-in_err-read_more-clause-sure
returns-in_err-read_more-clause-sure g c sure bytes exec mtime st e =
    c.in_err-read_more.ensures.sure (c.loop-bytes.invariant.0.stays.sure sure) bytes exec mtime (node_later c.loop-bytes.invariant.0 st) (search (rules, e))

pub returns-then-not-branch-clause-bytes : goal.returns-then-not-branch-clause-bytes
returns-then-not-branch-clause-bytes g c bytes exec mtime st =
    let last : c.in_ok-read_more.field-0 ≡ false = search (rules, c.if-not-branch.true) in
    let whole = MatchBool-at_false (IsFront c.read_more.new.bytes.items bytes) (c.loop-bytes.bytes.items ≡ bytes) last (c.in_ok-read_more.ensures.front bytes exec mtime (node_later c.loop-bytes.invariant.0 st) (c.loop-bytes.invariant.1 bytes exec mtime st)) in
    let same = MatchBool-at_false (vec_len c.loop-bytes.bytes < vec_len c.read_more.new.bytes) (c.read_more.new.bytes.items ≡ c.loop-bytes.bytes.items) last c.in_ok-read_more.ensures.more in
    let few : length c.loop-bytes.bytes.items ≤ c.args.limit = omega (arith, c.loop-bytes-test.true, c.len.ensures) in
    (c.from_vec.ensures ∙ same ∙ whole, subst (λ l. length l ≤ c.args.limit) whole few)

pub loop-bytes-preserved : goal.loop-bytes-preserved
loop-bytes-preserved g c = (
  keeps_then c.loop-bytes.invariant.0 c.in_ok-read_more.ensures.keeps,
  λ all exec mtime st.
      let more : c.in_ok-read_more.field-0 ≡ true = search (rules, c.if-not-branch.false) in
      MatchBool-at_true (IsFront c.read_more.new.bytes.items all) (c.loop-bytes.bytes.items ≡ all) more (c.in_ok-read_more.ensures.front all exec mtime (node_later c.loop-bytes.invariant.0 st) (c.loop-bytes.invariant.1 all exec mtime st)),
  c.in_ok-read_more.ensures.count (λ e. cc e) ∙ c.loop-bytes.invariant.2,
)

pub returns-clause-bytes : goal.returns-clause-bytes
returns-clause-bytes g c bytes exec mtime st =
    let front = c.loop-bytes.invariant.1 bytes exec mtime st in
    let sum = ap length (sym front.1) ∙ length-append c.loop-bytes.bytes.items front.0 in
    let many : c.args.limit < length c.loop-bytes.bytes.items = omega (arith, c.loop-bytes-test.false, c.len.ensures) in
    omega (arith, sum, many)
