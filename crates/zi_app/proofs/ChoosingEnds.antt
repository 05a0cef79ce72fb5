-- What was written and whose calls failed, of the commands that choose.
use Rattle.std.proofs.Common.{◌≡◌, ℕ, ◌⊎◌, inl, inr, Bool, List, [], Option, Some, None, Err, sym, ap, subst, ◌∙◌, arith}
use Rattle.zi_text.specs.Count.{Rose}
use Rattle.zi_outside.specs.Views.{Feeding, Sinking}
use Rattle.zi_shelf.specs.Shelving.{Shelving}
use Rattle.zi_words.specs.declared.request.Ask.{Ask}
use Rattle.zi_universe.specs.declared.fault.LoadFault.{LoadFault}
use Rattle.zi_universe.specs.declared.fault.LoadFault.TheVariants as load
use Rattle.zi_universe.specs.declared.types.Interface.{Interface}
use Rattle.zi_universe.specs.declared.types.Requirement.{Requirement}
use Rattle.zi_universe.specs.Loading.{CountsFault}
use Rattle.zi_packages.specs.declared.types.Packages.{Packages}
use Rattle.zi_proof.specs.declared.proof.Certificate.{Certificate}
use Rattle.zi_sels.specs.declared.types.Selections.{Selections}
use Rattle.zi_outcome.specs.declared.outcome.Outcome.{Outcome}
use Rattle.zi_outcome.specs.declared.outcome.Outcome.TheVariants.{Done, FeedRead, NoRootFeed, BadFeed, FeedTooLong, TooManyFeeds, TooManyInterfaces, TooManyCandidates, TooLarge, NoSolution, Spent, NoFile, BadSels, BadProof, Rejected, SinkFault, Memory, BadPackages}
use Rattle.zi_outcome.proofs.WritingLemmas.{nothing_put}
use Rattle.zi_world.specs.World.{World, all_stores}
use Rattle.zi_world.specs.Files.{AsksFor, IsAbsent, IsLonger, IsUnread}
use Rattle.zi_choosing.specs.declared.asked.Asked.{Asked}
use Rattle.zi_choosing.specs.declared.known.Known.{Known}
use Rattle.zi_choosing.specs.declared.shows.Shows.{Shows}
use Rattle.zi_choosing.specs.Table.{HasTable, LacksTable}
use Rattle.zi_choosing.specs.Knowing.{Sources, IsUnknown, Starts}
use Rattle.zi_choosing.specs.Loaded.{Lent, lent, IsRefused, Refused, Over, sources, DoesOver, IsUnloaded}
use Rattle.zi_choosing.specs.Select.{WritesSome, SelectsOver}
use Rattle.zi_choosing.specs.Refute.{proof_limit, yes_line, IsBad, IsChecked, Then, RefutesOver}
use Rattle.zi_choosing.specs.Check.{sels_limit, ReadsSels, AreUnlike, AreJudged, Next, AtFile, ChecksOver}
use Rattle.zi_choosing.specs.Demo.{none_known, demo_ask, CountsOver, Demos}
use Rattle.zi_choosing.specs.Finding.{FindsNot, FindsOver}
use Rattle.zi_app.specs.Outcomes.{WritesText, Leaves, RoseOnFeedRead, FailsOnStoreFault}
use Rattle.zi_app.proofs.EndLemmas.{IsSpared, Feeds, Stores, Web, Spawner, Output, EndsOut, EndsIn, same_count, feeds_still, stores_still, no_text, unwritten, stopped}

-- what the work over known stores comes to
abbrev pub EndsOver : Outcome → Lent → Lent → Type 0
EndsOver o before after =
    RoseOnFeedRead o before.feeds.faults after.feeds.faults × Leaves o before.out after.out × IsSpared Stores o × IsSpared Web o × IsSpared Spawner o

-- a loading was refused, and this is so
unloaded : (Is : LoadFault → Type 0) (P : Type 0) (m n : ℕ) → ((f : LoadFault) → Is f → CountsFault f m n × P) → (o : Outcome) → IsUnloaded Is o
    → RoseOnFeedRead o m n × P × IsSpared Stores o × IsSpared Web o × IsSpared Spawner o × IsSpared Output o
unloaded Is P m n by (FeedRead uri) r = let c = by (load.FeedRead uri) r in (c.0, c.1, tt, tt, tt, tt)
unloaded Is P m n by NoRootFeed r = let c = by load.NoRootFeed r in (c.0, c.1, tt, tt, tt, tt)
unloaded Is P m n by (BadFeed uri fault) r = let c = by (load.BadFeed uri fault) r in (c.0, c.1, tt, tt, tt, tt)
unloaded Is P m n by (FeedTooLong uri limit) r = let c = by (load.FeedTooLong uri limit) r in (c.0, c.1, tt, tt, tt, tt)
unloaded Is P m n by (TooManyFeeds limit) r = let c = by (load.TooManyFeeds limit) r in (c.0, c.1, tt, tt, tt, tt)
unloaded Is P m n by (TooManyInterfaces limit) r = let c = by (load.TooManyInterfaces limit) r in (c.0, c.1, tt, tt, tt, tt)
unloaded Is P m n by (TooManyCandidates limit) r = let c = by (load.TooManyCandidates limit) r in (c.0, c.1, tt, tt, tt, tt)
unloaded Is P m n by other r = absurd r

-- what is shown, where something is
written_some : (shown : Option (List ℕ)) (old new : Sinking) → WritesSome old shown new → WritesText old new
written_some None old new e = no_text old new e
written_some (Some text) old new w = (text, w)

-- a count stood still
abbrev Still : ℕ → ℕ → Type 0
Still old new = new ≡ old

module _ (known : Known) (ask : Ask) (before after : Lent) where
  unread : (o : Outcome) → IsUnloaded (Refused known ask before after) o → EndsOver o before after
  unread o u =
      let r = unloaded (Refused known ask before after) (after.out ≡ before.out) before.feeds.faults after.feeds.faults (λ f r. (r.0.count, r.1)) o u in
      (r.0, unwritten o before.out after.out r.5 r.1, r.2, r.3, r.4)

  -- nothing is written where memory is refused
  short : after.out ≡ before.out → Leaves Memory before.out after.out
  short e = unwritten Memory before.out after.out tt e

  selects : (shows : Shows) (o : Outcome) → SelectsOver ask shows known before after o → EndsOver o before after
  selects shows Done (text, c, w) = (c.there.loaded.asked.faults, (text, w), tt, tt, tt)
  selects shows (TooLarge limit) ((universe, loaded, many), e) = (loaded.asked.faults, e, tt, tt, tt)
  selects shows (NoSolution p) (shown, n, w) = (n.has.there.loaded.asked.faults, written_some shown before.out after.out w, tt, tt, tt)
  selects shows (Spent p count) (s, e) = (s.there.loaded.asked.faults, e, tt, tt, tt)
  selects shows SinkFault (inl (text, c, w)) = (c.there.loaded.asked.faults, (text, w), tt, tt, tt)
  selects shows SinkFault (inr (p, text, n, w)) = (n.has.there.loaded.asked.faults, (text, w), tt, tt, tt)
  selects shows Memory (inl e) = (ap (λ (l : Lent). l.feeds.faults) e, short (ap (λ (l : Lent). l.out) e), tt, tt, tt)
  selects shows Memory (inr (inl r)) = (r.0.count, short r.1, tt, tt, tt)
  selects shows Memory (inr (inr (inl ((universe, loaded, any), e)))) = (loaded.asked.faults, short e, tt, tt, tt)
  selects shows Memory (inr (inr (inr (inl (text, c, w))))) = (c.there.loaded.asked.faults, (text, w), tt, tt, tt)
  selects shows Memory (inr (inr (inr (inr (p, text, n, w))))) = (n.has.there.loaded.asked.faults, (text, w), tt, tt, tt)
  selects shows other u = unread other u

  -- what is so of the feeds behind the loading, and behind the selections, is so of all
  behind : (R : ℕ → ℕ → Type 0) (Is : Feeding → Type 0) → ((f : Feeding) → Is f → R f.faults after.feeds.faults) → Then known ask before.feeds Is → R before.feeds.faults after.feeds.faults
  behind R Is by (there, is) = subst (λ m. R m after.feeds.faults) there.loaded.asked.faults (by there.feeds is)

  read_calm : (sels : List ℕ) (read : ReadsSels known ask sels before.feeds) → read.feeds.faults ≡ before.feeds.faults
  read_calm sels read = read.got.asked.calm ∙ read.there.loaded.asked.faults

  next : (R : ℕ → ℕ → Type 0) (sels : List ℕ) (Is : Feeding → Type 0) → ((f : Feeding) → Is f → R f.faults after.feeds.faults) → Next known ask sels before.feeds Is → R before.feeds.faults after.feeds.faults
  next R sels Is by (read, is) = subst (λ m. R m after.feeds.faults) (read_calm sels read) (by read.feeds is)

  at_file : (R : ℕ → ℕ → Type 0) (sels proof name : List ℕ) (Is : ℕ → List ℕ → Feeding → Feeding → Type 0) → ((most : ℕ) (file : List ℕ) (f : Feeding) → Is most file f after.feeds → R f.faults after.feeds.faults)
      → AtFile known ask sels proof before after name Is → R before.feeds.faults after.feeds.faults
  at_file R sels proof name Is by (inl (e, t), w) = behind R (λ f. Is sels_limit sels f after.feeds) (λ f is. by sels_limit sels f is) t
  at_file R sels proof name Is by (inr (e, t), w) = next R sels (λ f. Is proof_limit proof f after.feeds) (λ f is. by proof_limit proof f is) t

  judged : (sels proof : List ℕ) (Are : List Interface → Requirement → Selections → Certificate → Type 0) → AreJudged known ask sels proof before.feeds after.feeds Are → after.feeds.faults ≡ before.feeds.faults
  judged sels proof Are j = j.reads.got.asked.calm ∙ read_calm sels j.read

  checked : (name : List ℕ) (Is : List Interface → Requirement → Certificate → Type 0) → IsChecked known ask name before.feeds after.feeds Is → after.feeds.faults ≡ before.feeds.faults
  checked name Is c = c.reads.got.asked.calm ∙ c.there.loaded.asked.faults

  -- a file may have been asked for
  asked_or : (name : List ℕ) (f : Feeding) → (after.feeds ≡ f) ⊎ AsksFor name f after.feeds → Still f.faults after.feeds.faults
  asked_or name f (inl e) = same_count f after.feeds e
  asked_or name f (inr a) = a.calm

  refutes : (name : List ℕ) (o : Outcome) → RefutesOver ask name known before after o → EndsOver o before after
  refutes name Done (c, w) = (checked name _ c, (yes_line, w), tt, tt, tt)
  refutes name (FeedRead uri) (inl r) = unread (FeedRead uri) r
  refutes name (FeedRead uri) (inr (is, t, e)) = (behind Rose (λ f. IsUnread name f after.feeds) (λ f u. u.1) t, e, tt, tt, tt)
  refutes name (FeedTooLong uri limit) (inl r) = unread (FeedTooLong uri limit) r
  refutes name (FeedTooLong uri limit) (inr (is, t, e)) = (behind Still (λ f. IsLonger proof_limit name f after.feeds limit) (λ f l. l.0.calm) t, e, tt, tt, tt)
  refutes name (NoFile absent) (is, t, e) = (behind Still (λ f. IsAbsent name f after.feeds) (λ f a. a.0.calm) t, e, tt, tt, tt)
  refutes name (BadProof line) (t, e) = (behind Still (λ f. IsBad name f after.feeds line) (λ f b. b.got.asked.calm) t, e, tt, tt, tt)
  refutes name Rejected (c, e) = (checked name _ c, e, tt, tt, tt)
  refutes name (TooLarge limit) (c, e) = (checked name _ c, e, tt, tt, tt)
  refutes name SinkFault (c, w) = (checked name _ c, (yes_line, w), tt, tt, tt)
  refutes name Memory (inl e) = (ap (λ (l : Lent). l.feeds.faults) e, short (ap (λ (l : Lent). l.out) e), tt, tt, tt)
  refutes name Memory (inr (inl r)) = (r.0.count, short r.1, tt, tt, tt)
  refutes name Memory (inr (inr (inl (t, e)))) = (behind Still (λ f. (after.feeds ≡ f) ⊎ AsksFor name f after.feeds) (asked_or name) t, short e, tt, tt, tt)
  refutes name Memory (inr (inr (inr (c, w)))) = (checked name _ c, (yes_line, w), tt, tt, tt)
  refutes name other u = unread other u

  checks : (sels proof : List ℕ) (o : Outcome) → ChecksOver ask sels proof known before after o → EndsOver o before after
  checks sels proof Done (j, w) = (judged sels proof _ j, (yes_line, w), tt, tt, tt)
  checks sels proof (FeedRead uri) (inl r) = unread (FeedRead uri) r
  checks sels proof (FeedRead uri) (inr f) = (at_file Rose sels proof uri (λ most file old new. IsUnread file old new) (λ most file g u. u.1) f, f.1, tt, tt, tt)
  checks sels proof (FeedTooLong uri limit) (inl r) = unread (FeedTooLong uri limit) r
  checks sels proof (FeedTooLong uri limit) (inr f) = (at_file Still sels proof uri (λ most file old new. IsLonger most file old new limit) (λ most file g l. l.0.calm) f, f.1, tt, tt, tt)
  checks sels proof (NoFile absent) f = (at_file Still sels proof absent (λ most file old new. IsAbsent file old new) (λ most file g a. a.0.calm) f, f.1, tt, tt, tt)
  checks sels proof (BadSels fault) (t, e) = (behind Still (λ f. AreUnlike sels f after.feeds fault) (λ f u. u.got.asked.calm) t, e, tt, tt, tt)
  checks sels proof (BadProof line) (t, e) = (next Still sels (λ f. IsBad proof f after.feeds line) (λ f b. b.got.asked.calm) t, e, tt, tt, tt)
  checks sels proof (TooLarge limit) (j, e) = (judged sels proof _ j, e, tt, tt, tt)
  checks sels proof Rejected (j, e) = (judged sels proof _ j, e, tt, tt, tt)
  checks sels proof SinkFault (j, w) = (judged sels proof _ j, (yes_line, w), tt, tt, tt)
  checks sels proof Memory (inl e) = (ap (λ (l : Lent). l.feeds.faults) e, short (ap (λ (l : Lent). l.out) e), tt, tt, tt)
  checks sels proof Memory (inr (inl r)) = (r.0.count, short r.1, tt, tt, tt)
  checks sels proof Memory (inr (inr (inl (t, e)))) = (behind Still (λ f. (after.feeds ≡ f) ⊎ AsksFor sels f after.feeds) (asked_or sels) t, short e, tt, tt, tt)
  checks sels proof Memory (inr (inr (inr (inl (t, e))))) = (next Still sels (λ f. AsksFor proof f after.feeds) (λ f a. a.calm) t, short e, tt, tt, tt)
  checks sels proof Memory (inr (inr (inr (inr (j, w))))) = (judged sels proof _ j, (yes_line, w), tt, tt, tt)
  checks sels proof other u = unread other u

-- Before the loading.

-- the table was got by calls that didn't fail
pub table_calm : (table : Option (List ℕ)) (old : Feeding) (packages : Packages) (new : Feeding) → HasTable table old packages new → new.faults ≡ old.faults
table_calm None old packages new (none, same) = same_count old new same
table_calm (Some file) old packages new (bytes, got, is) = got.asked.calm

lacks_table : (table : Option (List ℕ)) (old new : Feeding) (o : Outcome) → LacksTable table old o new
    → RoseOnFeedRead o old.faults new.faults × IsSpared Stores o × IsSpared Web o × IsSpared Spawner o × IsSpared Output o
lacks_table None old new o l = absurd l
lacks_table (Some file) old new (FeedRead uri) l = (l.1.1, tt, tt, tt, tt)
lacks_table (Some file) old new (FeedTooLong uri limit) l = (l.1.0.calm, tt, tt, tt, tt)
lacks_table (Some file) old new (NoFile name) l = (l.1.0.calm, tt, tt, tt, tt)
lacks_table (Some file) old new (BadPackages line) (bytes, got, bad) = (got.asked.calm, tt, tt, tt, tt)
lacks_table (Some file) old new Memory (inl e) = (same_count old new e, tt, tt, tt, tt)
lacks_table (Some file) old new Memory (inr a) = (a.calm, tt, tt, tt, tt)
lacks_table (Some file) old new other l = absurd l

unknown : (table : Option (List ℕ)) (before after : Sources) (o : Outcome) → IsUnknown table before after o
    → RoseOnFeedRead o before.feeds.faults after.feeds.faults × FailsOnStoreFault o before.stores after.stores × IsSpared Web o × IsSpared Spawner o × IsSpared Output o
unknown table before after o (inl (named, e)) =
    let t = stopped [] o before.stores after.stores named in
    (feeds_still o t.1 (same_count before.feeds after.feeds e), t.0, t.2, t.3, t.4)
unknown table before after o (inr (each, named, lacks)) =
    let l = lacks_table table before.feeds after.feeds o lacks in
    (l.0, stores_still o before.stores after.stores l.1 named.0, l.2, l.3, l.4)

start_calm : (table : Option (List ℕ)) (before : Sources) (stores : List Shelving) (start : Starts table before stores) → start.feeds.faults ≡ before.feeds.faults
start_calm table before stores start = table_calm table before.feeds start.known.packages start.feeds start.found.1

-- Over what is known.
pub does_over : (table : Option (List ℕ)) (Does : Over) (o : Outcome) (before after : World) → ((known : Known) (old : Lent) → Does known old (lent after) o → EndsOver o old (lent after)) → DoesOver table Does before after o
    → EndsIn o before after
does_over table Does o before after over d = elim d.answer [
  | inl s ↦ let u = unknown table (sources before) (sources after) o s.0 in (u.0, u.1, unwritten o before.out after.out u.4 s.1, u.2, u.3)
  | inr w ↦
      let start : Starts table (sources before) (all_stores after) = w.0 in
      let old : Lent = record { feeds = start.feeds; out = before.out } in
      let e = over start.known old w.1 in
      (subst (λ m. RoseOnFeedRead o m after.feeds.faults) (start_calm table (sources before) (all_stores after) start) e.0, stores_still o (all_stores before) (all_stores after) e.2 start.found.0.0, e.1, e.3, e.4)
]

module _ (table : Option (List ℕ)) (ask : Ask) where
  pub select_ends : (shows : Shows) (o : Outcome) (before after : World) → DoesOver table (SelectsOver ask shows) before after o → EndsIn o before after
  select_ends shows o before after d = does_over table (SelectsOver ask shows) o before after (λ known old x. selects known ask old (lent after) shows o x) d

  pub refute_ends : (name : List ℕ) (o : Outcome) (before after : World) → DoesOver table (RefutesOver ask name) before after o → EndsIn o before after
  refute_ends name o before after d = does_over table (RefutesOver ask name) o before after (λ known old x. refutes known ask old (lent after) name o x) d

  pub check_ends : (sels proof : List ℕ) (o : Outcome) (before after : World) → DoesOver table (ChecksOver ask sels proof) before after o → EndsIn o before after
  check_ends sels proof o before after d = does_over table (ChecksOver ask sels proof) o before after (λ known old x. checks known ask old (lent after) sels proof o x) d

-- A demonstration, whose feeds never fail.
counts : (before after : Lent) (o : Outcome) → CountsOver before after o → EndsOver o before after
counts before after Done (text, c, w) = (c.there.loaded.asked.faults, (text, w), tt, tt, tt)
counts before after (TooLarge limit) ((universe, loaded, many), e) = (loaded.asked.faults, e, tt, tt, tt)
counts before after (NoSolution p) (n, e) = (n.there.loaded.asked.faults, no_text before.out after.out e, tt, tt, tt)
counts before after (Spent p count) (s, e) = (s.there.loaded.asked.faults, e, tt, tt, tt)
counts before after SinkFault (text, c, w) = (c.there.loaded.asked.faults, (text, w), tt, tt, tt)
counts before after Memory (inl e) = (ap (λ (l : Lent). l.feeds.faults) e, short none_known demo_ask before after (ap (λ (l : Lent). l.out) e), tt, tt, tt)
counts before after Memory (inr (inl r)) = (r.0.count, short none_known demo_ask before after r.1, tt, tt, tt)
counts before after Memory (inr (inr (inl ((universe, loaded, any), e)))) = (loaded.asked.faults, short none_known demo_ask before after e, tt, tt, tt)
counts before after Memory (inr (inr (inr (text, c, w)))) = (c.there.loaded.asked.faults, (text, w), tt, tt, tt)
counts before after other u = unread none_known demo_ask before after other u

never_read : (o : Outcome) (m n : ℕ) → m ≡ 0 → n ≡ 0 → RoseOnFeedRead o m n → IsSpared Feeds o
never_read (FeedRead uri) m n e f (inl rose) = omega (arith, e, f, rose)
never_read (FeedRead uri) m n e f (inr stands) = omega (arith, e, f, stands)
never_read other m n e f r = tt

pub demo_ends : (number : ℕ) (old new : Sinking) (o : Outcome) → Demos number old new o → EndsOut o old new
demo_ends number old new o (inl d) =
    let e = counts (record { feeds = d.before; out = old }) (record { feeds = d.after; out = new }) o d.counts in
    (e.1, never_read o d.before.faults d.after.faults (ap (λ (f : Feeding). f.faults) d.made.2) d.sure e.0, e.2, e.3, e.4)
demo_ends number old new o (inr (is, e)) = subst (λ x. EndsOut x old new) (sym is) (([], nothing_put old [] new e), tt, tt, tt, tt)

-- The finding of a choice that is fetched.
finds_not : (known : Known) (ask : Ask) (before after : Feeding) (o : Outcome) → FindsNot known ask before after o
    → RoseOnFeedRead o before.faults after.faults × Unit {0} × IsSpared Stores o × IsSpared Web o × IsSpared Spawner o × IsSpared Output o
finds_not known ask before after (TooLarge limit) (universe, loaded, many) = (loaded.asked.faults, tt, tt, tt, tt, tt)
finds_not known ask before after (NoSolution p) n = (n.there.loaded.asked.faults, tt, tt, tt, tt, tt)
finds_not known ask before after (Spent p count) s = (s.there.loaded.asked.faults, tt, tt, tt, tt, tt)
finds_not known ask before after Memory (inl e) = (same_count before after e, tt, tt, tt, tt, tt)
finds_not known ask before after Memory (inr (inl r)) = (r.count, tt, tt, tt, tt, tt)
finds_not known ask before after Memory (inr (inr (universe, loaded, any))) = (loaded.asked.faults, tt, tt, tt, tt, tt)
finds_not known ask before after other u = unloaded (IsRefused known ask before after) (Unit {0}) before.faults after.faults (λ f r. (r.count, tt)) other u

pub found_not : (asked : Asked) (before after : Sources) (o : Outcome) → FindsOver asked before after (Err o)
    → RoseOnFeedRead o before.feeds.faults after.feeds.faults × FailsOnStoreFault o before.stores after.stores × IsSpared Web o × IsSpared Spawner o × IsSpared Output o
found_not asked before after o (inl u) = unknown asked.table before after o u
found_not asked before after o (inr (start, n)) =
    let f = finds_not start.known asked.ask start.feeds after.feeds o n in
    (subst (λ m. RoseOnFeedRead o m after.feeds.faults) (start_calm asked.table before after.stores start) f.0, stores_still o before.stores after.stores f.2 start.found.0.0, f.3, f.4, f.5)
