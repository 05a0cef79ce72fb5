use Rattle.std.proofs.Common.{◌≡◌, true, None, Some, List, ap, ◌∙◌, subst}
use Rattle.zi_memory.specs.declared.top_entry.TopEntry.{TopEntry}
use Rattle.zi_shelf.specs.Names.{put}
use Rattle.zi_memory.specs.Memory.{IsAt, tops_of}
use Rattle.zi_memory.proofs.TopsLemmas.{apart_set, at_name}
use Rattle.zi_memory.proofs.WholeLemmas.{whole_set}
use Rattle.zi_memory.proofs.DoingLemmas.{placed_in, placed_new}
use Rattle.zi_memory.proofs.held.Held.place.Goals as goal

pub invariant_of-self : goal.invariant_of-self
invariant_of-self c =
    let s = c.args.self.now in
    let x = c.index_mut-entry.result.now in
    let y : TopEntry = record { name = x.name; tree = c.args.tree; settled = true } in
    let at = subst (λ l. IsAt c.args.top.now l c.in-Some.i) c.as_slice.ensures.value c.in-Some.ensures.1 in
    let name : x.name ≡ c.args.top.now = ap (λ (t : TopEntry). t.name) c.index_mut-entry.ensures.value ∙ at_name s.entries.items c.args.top.now c.in-Some.i x at in
    record {
      apart = apart_set s.entries.items c.args.top.now c.in-Some.i y at name s.apart;
      whole = whole_set s.entries.items c.in-Some.i y c.is_whole.ensures s.whole;
    }

pub put_in-requires-clause-free : goal.put_in-requires-clause-free
put_in-requires-clause-free c =
    let free = subst (λ l. tops_of l c.args.top.now ≡ None) c.as_slice.ensures.value c.in-None.ensures in
    rw (c.in_ok-reserve-in-None.ensures.items, c.in_ok-name-in-None.ensures) free

pub returns-in-Some-clause-ok : goal.returns-in-Some-clause-ok
returns-in-Some-clause-ok c =
    let s = c.args.self.now in
    let at = subst (λ l. IsAt c.args.top.now l c.in-Some.i) c.as_slice.ensures.value c.in-Some.ensures.1 in
    placed_in s.entries.items s.pending.items s.calls c.args.top.now c.in-Some.i c.index_mut-entry.result.now c.args.tree at c.index_mut-entry.ensures.value

pub returns-in_ok-reserve-in-None-clause-ok : goal.returns-in_ok-reserve-in-None-clause-ok
returns-in_ok-reserve-in-None-clause-ok c =
    let s = c.args.self.now in
    placed_new s.entries.items c.put_in.new.entries.items s.pending.items s.calls c.args.top.now c.in_ok-name-in-None.name c.args.tree c.in_ok-name-in-None.ensures
    (c.put_in.ensures.tops ∙ ap (λ (l : List TopEntry). put (tops_of l) c.in_ok-name-in-None.name (Some (record { tree = c.args.tree; settled = true }))) c.in_ok-reserve-in-None.ensures.items)
