use Rattle.std.proofs.Common.{◌≡◌, true, filter, sym, ◌∙◌, ap, subst, rules, nat_cmp, IsPermutation}
use Rattle.std.specs.Ordering.{is_lt}
use Rattle.std.specs.Cmp.Lexicographic.{slice_cmp}
use Rattle.std.proofs.lemmas.Fn.{always_returns_same}
use Rattle.std.proofs.lemmas.Cmp.{nat_list_cmp_total}
use Rattle.std.proofs.lemmas.List.Sorted.{ranks_by}
use Rattle.std.proofs.lemmas.List.Elements.{filter_from_retain}
use Rattle.zi_shelf.specs.declared.shelf.Entry.{Entry}
use Rattle.zi_store.specs.Entries.{is_shown}
use Rattle.zi_store.proofs.ListingLemmas.{all_shown}
use Rattle.zi_store.proofs.listings.in_order.Goals as goal
use Rattle.zi_store.proofs.listings.in_order.Goals.{then-whole, else-whole}

pub returns-clause-same : goal.returns-clause-same
returns-clause-same c =
    let kept : c.if-whole.shown.items ≡ filter (λ e. is_shown c.args.whole e) c.args.entries.items = elim c.if-whole.branch [
      | then-whole w ↦ ap (λ v. v.items) w.shown-is ∙ filter_from_retain _ (λ e. is_shown true e) (λ p x b q k. search rules) _ c.args.entries.items w.retain.new.self.items w.retain.ensures.filtered ∙ ap (λ o. filter (λ e. is_shown o e) c.args.entries.items) (sym w.if-whole.true)
      | else-whole w ↦ ap (λ v. v.items) w.shown-is ∙ all_shown c.args.entries.items ∙ ap (λ o. filter (λ e. is_shown o e) c.args.entries.items) (sym w.if-whole.false)
    ] in
    subst (λ l. IsPermutation l c.sort_unstable_by.new.self.items) kept c.sort_unstable_by.ensures.permutation

pub returns-clause-sorted : goal.returns-clause-sorted
returns-clause-sorted c =
    c.sort_unstable_by.ensures.sorted
    (λ (a b : Entry). is_lt (slice_cmp nat_cmp a.name b.name))
    (ranks_by nat_list_cmp_total (λ (e : Entry). e.name))
    (always_returns_same _ _ _ (λ a r f' k. (let e : r ≡ slice_cmp nat_cmp a.0.now.name a.1.0.now.name = search rules in ap is_lt e, search rules)))
