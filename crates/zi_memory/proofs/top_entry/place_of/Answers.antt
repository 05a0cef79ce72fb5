-- The closure compares a top entry's name with the one that is sought.
use Rattle.std.proofs.Common.{rules}
use Rattle.std.specs.Ordering.{nat_cmp}
use Rattle.std.specs.Cmp.Lexicographic.{slice_cmp}
use Rattle.std.proofs.lemmas.Fn.{always_returns_same}
use Rattle.zi_memory.specs.declared.top_entry.TopEntry.{TopEntry}
use Rattle.zi_memory.proofs.FoundLemmas.{top_found}
use Rattle.zi_memory.proofs.top_entry.place_of.Goals as goal

pub returns : goal.returns
returns c =
    let facts = c.binary_search_by.ensures in
    let by_name = facts.position (λ (e : TopEntry). slice_cmp nat_cmp e.name c.args.name.now) (always_returns_same _ _ _ (λ a r g called. search rules)) in
    top_found c.args.entries.now c.requires c.args.name.now c.binary_search_by.result facts.bound by_name
