use Rattle.std.proofs.Common.{◌∙◌, ◌++◌, List, ℕ, drop, sym, ap, subst, arith, refl}
use Rattle.std.proofs.lemmas.Option.{get_or_from_slice_get}
use Rattle.zi_proof.specs.Cells.{known_by}
use Rattle.zi_proof.specs.Accepted.{citable}
use Rattle.zi_walk.proofs.Replay.{replay}
use Rattle.zi_solve.specs.Replays.{Replays}
use Rattle.zi_solve.proofs.ReplayLaws.{replay_starts, replay_next, replay_ends, replay_done, within_at}
use Rattle.zi_solve.proofs.replaying.replay.Goals as goal

pub loop-i-init : goal.loop-i-init
loop-i-init c = record { left = ap (λ (hs : List ℕ). hs ++ replay (citable c.args.f.now.constraints c.args.lemmas.now) (known_by c.args.marks.now) (drop 0 c.args.t.now.entries)) c.new-hints.ensures ∙ replay_starts (citable c.args.f.now.constraints c.args.lemmas.now) (known_by c.args.marks.now) c.args.t.now.entries; same = refl }

pub add_entry-requires-clause-within : goal.add_entry-requires-clause-within
add_entry-requires-clause-within c =
    let less = c.loop-i-test.true in
    let made = c.requires.knows.made in
    let room = c.requires.room in
    let same = c.loop-i.invariant.same in
    let l = within_at c.args.t.now.variables c.args.t.now.entries c.loop-i.i c.at-e.result c.are_new.ensures.within c.at-e.ensures in
    omega (arith, made, room, same, l)

pub loop-i-preserved : goal.loop-i-preserved
loop-i-preserved c =
    let less = c.loop-i-test.true in
    let len = c.len-i-end.ensures in
    let all = citable c.args.f.now.constraints c.args.lemmas.now in
    record {
      left = replay_next all (known_by c.loop-i.marks) (known_by c.add_entry.new.marks) c.args.t.now.entries c.loop-i.i c.at-e.result c.loop-i.hints c.add_entry.new.hints (replay all (known_by c.args.marks.now) c.args.t.now.entries) c.loop-i.invariant.left (omega (arith, less, len)) (sym (get_or_from_slice_get c.args.t.now.entries c.loop-i.i c.at-e.result c.at-e.result c.at-e.ensures))
          (subst (λ b. Replays all (known_by c.loop-i.marks) c.at-e.result c.loop-i.hints b c.add_entry.new.hints (known_by c.add_entry.new.marks)) c.if-branch.false c.in_ok-add_entry.ensures.hints);
      same = c.add_entry.ensures.same ∙ c.loop-i.invariant.same;
    }

pub returns-then-branch : goal.returns-then-branch
returns-then-branch c =
    let less = c.loop-i-test.true in
    let len = c.len-i-end.ensures in
    let all = citable c.args.f.now.constraints c.args.lemmas.now in
    record {
      same = c.add_entry.ensures.same ∙ c.loop-i.invariant.same;
      hints = replay_ends all (known_by c.loop-i.marks) (known_by c.add_entry.new.marks) c.args.t.now.entries c.loop-i.i c.at-e.result c.loop-i.hints c.add_entry.new.hints (replay all (known_by c.args.marks.now) c.args.t.now.entries) c.loop-i.invariant.left (omega (arith, less, len)) (sym (get_or_from_slice_get c.args.t.now.entries c.loop-i.i c.at-e.result c.at-e.result c.at-e.ensures))
          (subst (λ b. Replays all (known_by c.loop-i.marks) c.at-e.result c.loop-i.hints b c.add_entry.new.hints (known_by c.add_entry.new.marks)) c.if-branch.true c.in_ok-add_entry.ensures.hints);
    }

pub returns : goal.returns
returns c =
    let more = c.loop-i-test.false in
    let len = c.len-i-end.ensures in
    let all = citable c.args.f.now.constraints c.args.lemmas.now in
    record {
      same = c.loop-i.invariant.same;
      hints = replay_done all (known_by c.loop-i.marks) c.args.t.now.entries c.loop-i.i c.loop-i.hints (replay all (known_by c.args.marks.now) c.args.t.now.entries) c.loop-i.invariant.left (omega (arith, more, len));
    }
