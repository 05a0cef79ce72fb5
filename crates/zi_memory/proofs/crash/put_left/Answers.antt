use Rattle.std.proofs.Common.{◌≡◌, ◌<◌, ◌+◌, ◌++◌, ◌∷◌, suc, true, length, refl, sym, ◌∙◌, ap, subst, map, arith}
use Rattle.zi_memory.specs.Memory.{are_trees}
use Rattle.zi_memory.specs.Comers.{moved}
use Rattle.zi_memory.proofs.MovedLemmas.{made_more, trees_more, place_head, places_rest, still_there, taken_is, all_made}
use Rattle.zi_memory.proofs.crash.put_left.Goals as goal

pub taken-entry-requires : goal.taken-entry-requires
taken-entry-requires c = place_head c.loop-name.comers.entries c.pop_first.new.self.entries c.loop-name.sources.items c.in-Some.name c.in-Some.comer c.in-Some.ensures.removal c.loop-name.invariant.places

pub loop-name-preserved : goal.loop-name-preserved
loop-name-preserved c =
    let old = c.loop-name.comers.entries in
    let new = c.pop_first.new.self.entries in
    let split = c.in-Some.ensures.removal in
    let inv = c.loop-name.invariant in
    let n = c.in-Some.name in
    let x = c.in-Some.comer in
    let e = c.taken-entry.result in
    let is : e ≡ moved c.args.sources.now.items (n, x) = taken_is old new c.loop-name.sources.items c.args.sources.now.items n x e split c.taken-entry.ensures.entry inv.same in
    let pushed = c.push_reserved.ensures.items in
    let short : length old ≡ suc (length new) = ap length split in
    record {
      made = ap (λ xs. xs ++ map (moved c.args.sources.now.items) new) pushed ∙ made_more (moved c.args.sources.now.items) c.loop-name.left.items (map (moved c.args.sources.now.items) c.args.comers.entries) e old new (n, x) split is inv.made;
      room = omega (arith, inv.room, short, c.push_reserved.ensures.len, c.push_reserved.ensures.capacity);
      whole = ap are_trees pushed ∙ trees_more c.loop-name.left.items e inv.whole c.taken-entry.ensures.whole;
      places = places_rest old new c.loop-name.sources.items c.taken-entry.new.sources.items (n, x) split c.taken-entry.ensures.len inv.places;
      same = still_there old new c.loop-name.sources.items c.taken-entry.new.sources.items c.args.sources.now.items n x split inv.places c.taken-entry.ensures.left inv.same;
    }
