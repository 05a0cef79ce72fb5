use Rattle.std.proofs.Common.{Ok, sym, subst}
use Rattle.zi_shelf.specs.Reading.{EntriesAnswer, ListsAll}
use Rattle.zi_store.proofs.ListingLemmas.{in_order_is, listed_there, entry_there}
use Rattle.zi_store.proofs.listings.listing.Goals as goal

pub returns-in-Absent-clause-missing : goal.returns-in-Absent-clause-missing
returns-in-Absent-clause-missing g c s keeps e none =
    subst (λ l. EntriesAnswer c.args.top.now c.args.path.now (Ok l) s.shelf) c.in-Absent.is (c.in_ok-ask_entries.ensures.answer s keeps e)

pub returns-in-Entries-clause-entries : goal.returns-in-Entries-clause-entries
returns-in-Entries-clause-entries g c d st t =
    let lists = listed_there st c.in-Entries.entries (subst (λ l. EntriesAnswer c.args.top.now c.args.path.now (Ok l) st.state.shelf) c.in-Entries.is (c.in_ok-ask_entries.ensures.answer st.state st.keeps st.tells)) in
    in_order_is c.args.whole d c.into_vec.result.items c.in_order.result.items t (subst (λ l. ListsAll l d) (sym c.into_vec.ensures) lists) c.in_order.ensures.same c.in_order.ensures.sorted

pub returns-in-Entries-clause-there : goal.returns-in-Entries-clause-there
returns-in-Entries-clause-there g c s keeps e =
    entry_there c.args.top.now c.args.path.now c.in-Entries.entries s.shelf (subst (λ l. EntriesAnswer c.args.top.now c.args.path.now (Ok l) s.shelf) c.in-Entries.is (c.in_ok-ask_entries.ensures.answer s keeps e))
