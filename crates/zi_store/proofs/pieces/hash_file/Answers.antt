use Rattle.std.proofs.Common.{◌≡◌, ◌≤◌, ◌<◌, ◌+◌, ◌++◌, [], true, false, Ok, ap, sym, ◌∙◌, rules, refl, arith, length, length-append, subst}
use Rattle.std.proofs.lemmas.Bool.{MatchBool-at_true, MatchBool-at_false}
use Rattle.zi_digest.specs.Taken.{HasTaken}
use Rattle.zi_digest.specs.Name.{name_of}
use Rattle.zi_shelf.specs.Reading.{Read, ReadAnswer}
use Rattle.zi_store.specs.Keeping.{is_reading}
use Rattle.zi_store.specs.Entries.{IsFront}
use Rattle.zi_store.proofs.BytesLemmas.{next_front}
use Rattle.zi_store.proofs.KeepingLemmas.{keeps_none, keeps_then, node_later}
use Rattle.zi_store.proofs.pieces.hash_file.Goals as goal

pub loop-size-init : goal.loop-size-init
loop-size-init g c = (
  keeps_none is_reading _,
  λ all exec mtime st. ([], (all, refl), c.new-hasher.ensures, refl),
  refl,
  ([], c.new-hasher.ensures, refl),
)

pub loop-size-preserved : goal.loop-size-preserved
loop-size-preserved g c = (
  keeps_then c.loop-size.invariant.0 c.in_ok-ask_bytes.ensures.keeps,
  λ all exec mtime st.
      let (front, before, taken, size) = c.loop-size.invariant.1 all exec mtime st in
      let now = node_later c.loop-size.invariant.0 st in
      let piece = c.ask_bytes.new.into.items in
      let answer : ReadAnswer (Read c.args.top.now c.args.path.now c.loop-size.size 65536) [] (Ok c.in_ok-ask_bytes.field-0) piece now.state.shelf =
      subst (λ l. ReadAnswer (Read c.args.top.now c.args.path.now c.loop-size.size 65536) l (Ok c.in_ok-ask_bytes.field-0) piece now.state.shelf) c.clear.ensures.items (c.in_ok-ask_bytes.ensures.answer now.state now.keeps now.tells) in
      let more = MatchBool-at_true (IsFront (front ++ piece) all) (front ≡ all) refl (next_front all exec mtime now 65536 c.loop-size.size front piece c.in_ok-ask_bytes.field-0 size answer (omega arith) before true (λ e. absurd (cc e))) in
      let bytes = subst (λ l. HasTaken c.update.new.self c.args.a (front ++ l)) c.as_slice.ensures.value (c.update.ensures c.args.a front taken) in
      (front ++ piece, more, bytes, omega (arith, size, c.len.ensures, length-append front piece)),
  c.in_ok-ask_bytes.ensures.count (λ e. cc e) ∙ c.loop-size.invariant.2,
  let (front, taken, size) = c.loop-size.invariant.3 in
      let piece = c.ask_bytes.new.into.items in
      let bytes = subst (λ l. HasTaken c.update.new.self c.args.a (front ++ l)) c.as_slice.ensures.value (c.update.ensures c.args.a front taken) in
      (front ++ piece, bytes, omega (arith, size, c.len.ensures, length-append front piece)),
)

pub returns-then-is_empty-clause-some : goal.returns-then-is_empty-clause-some
returns-then-is_empty-clause-some g c =
    let (front, taken, size) = c.loop-size.invariant.3 in
    record { bytes = front; hash = c.finish.ensures c.args.a front taken; size = size }

pub returns-then-is_empty-clause-hash : goal.returns-then-is_empty-clause-hash
returns-then-is_empty-clause-hash g c all exec mtime st =
    let (front, before, taken, size) = c.loop-size.invariant.1 all exec mtime st in
    let now = node_later c.loop-size.invariant.0 st in
    let piece = c.ask_bytes.new.into.items in
    let answer : ReadAnswer (Read c.args.top.now c.args.path.now c.loop-size.size 65536) [] (Ok c.in_ok-ask_bytes.field-0) piece now.state.shelf =
    subst (λ l. ReadAnswer (Read c.args.top.now c.args.path.now c.loop-size.size 65536) l (Ok c.in_ok-ask_bytes.field-0) piece now.state.shelf) c.clear.ensures.items (c.in_ok-ask_bytes.ensures.answer now.state now.keeps now.tells) in
    let none : piece ≡ [] = search rules in
    let whole = MatchBool-at_false (IsFront (front ++ piece) all) (front ≡ all) refl (next_front all exec mtime now 65536 c.loop-size.size front piece c.in_ok-ask_bytes.field-0 size answer (omega arith) before false (λ e. none)) in
    (c.finish.ensures c.args.a front taken ∙ ap (name_of c.args.a) whole, size ∙ ap length whole, subst (λ l. length l ≤ c.args.limit) whole (omega (arith, size, c.loop-size-test.true)))

pub returns-clause-hash : goal.returns-clause-hash
returns-clause-hash g c all exec mtime st =
    let (front, before, taken, size) = c.loop-size.invariant.1 all exec mtime st in
    let sum = ap length (sym before.1) ∙ length-append front before.0 in
    (refl, omega (arith, size, sum, c.loop-size-test.false))
