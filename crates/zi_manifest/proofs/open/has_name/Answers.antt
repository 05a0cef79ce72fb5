-- The closure compares a name with the one that is sought.
use Rattle.std.proofs.Common.{rules, ◌∙◌, List, ℕ}
use Rattle.std.specs.Ordering.{nat_cmp}
use Rattle.std.specs.Cmp.Lexicographic.{slice_cmp}
use Rattle.std.proofs.lemmas.Fn.{always_returns_same}
use Rattle.zi_manifest.proofs.OpenLemmas.{name_found}
use Rattle.zi_manifest.proofs.open.has_name.Goals as goal

pub returns : goal.returns
returns c =
    let facts = c.binary_search_by.ensures in
    let by_name = facts.position (λ (m : List ℕ). slice_cmp nat_cmp m c.args.name.now) (always_returns_same _ _ _ (λ a r g called. search rules)) in
    c.is_ok.ensures.value ∙ name_found c.args.names.now c.requires c.args.name.now c.binary_search_by.result facts.bound by_name
