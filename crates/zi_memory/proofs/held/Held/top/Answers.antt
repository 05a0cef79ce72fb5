use Rattle.std.proofs.Common.{ap, sym, subst, option_map}
use Rattle.zi_tree.specs.Dir.{Dir}
use Rattle.zi_memory.specs.Memory.{IsAt}
use Rattle.zi_shelf.specs.Shelved.{Top}
use Rattle.zi_memory.proofs.ReadingLemmas.{top_at}
use Rattle.zi_memory.proofs.held.Held.top.Goals as goal

pub returns-in-Some : goal.returns-in-Some
returns-in-Some c =
    let s = c.args.self.now in
    let at = subst (λ l. IsAt c.args.name.now l c.in-Some.i) c.as_slice.ensures.value c.in-Some.ensures.1 in
    ap (option_map (λ (e : Top Dir). e.tree)) (sym (top_at s.entries.items c.args.name.now c.in-Some.i c.index.result.now at c.index.ensures))
