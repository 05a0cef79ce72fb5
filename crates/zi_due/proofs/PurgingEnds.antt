-- `store purge` ends as is due.
use Rattle.std.proofs.Common.{◌≡◌, ℕ, zero, suc, ◌+◌, ◌<◌, ◌≤◌, ◌⊎◌, inl, inr, List, [], ◌∷◌, take, map, length, Option, Some, None, Result, Ok, Err, slice_get, refl, sym, ap, subst, ◌∙◌}
use Rattle.std.specs.Prelude.{IfSome, IsSomeAnd}
use Rattle.std.proofs.lemmas.Option.{same_Some}
use Rattle.zi_text.specs.Count.{Rose}
use Rattle.zi_digest.specs.declared.DigestName.{DigestName}
use Rattle.zi_digest.specs.Name.{spelling}
use Rattle.zi_outside.specs.Views.{Holding, Feeding, holding}
use Rattle.zi_shelf.specs.Names.{Name}
use Rattle.zi_shelf.specs.Shelving.{Shelving}
use Rattle.zi_shelf.specs.Told.{Told}
use Rattle.zi_store.specs.Stored.{NamesStored}
use Rattle.zi_session.specs.Phases.{tmp_name}
use Rattle.zi_purge.specs.Machine.{purged}
use Rattle.zi_purge.specs.declared.step.PurgeStep.TheVariants as step
use Rattle.zi_purging.specs.Purging.{HasPurged, Purges, PurgesTo}
use Rattle.zi_purging.specs.declared.purging.PurgeFault.TheVariants as fault
use Rattle.zi_words.specs.Forms.{Word}
use Rattle.zi_sels.specs.declared.types.Selections.{Selections}
use Rattle.zi_sels.specs.declared.fault.SelsFault.{SelsFault}
use Rattle.zi_sels.specs.Reading.{Says, HasFault, IsSettled}
use Rattle.zi_outcome.specs.declared.outcome.Outcome.{Outcome}
use Rattle.zi_outcome.specs.declared.outcome.Outcome.TheVariants.{Done, FeedRead, NoFile, FeedTooLong, BadSels, Crowded, StoreFault, SinkFault, Memory}
use Rattle.zi_opening.specs.Opening.{document_limit}
use Rattle.zi_opening.specs.Files.{IsRead, AreRead, Reaches, ReadsNot}
use Rattle.zi_world.specs.World.{World, all_stores}
use Rattle.zi_world.specs.Places.{AreTold}
use Rattle.zi_storing.specs.StorePurge.{kept_by, lent, PurgesBut, PurgesRead, ReadsNone, PurgesFiles}
use Rattle.zi_due.specs.Due.{plainly, Ends}
use Rattle.zi_due.specs.Files.{got}
use Rattle.zi_due.specs.Adding.{AreTaken, IsFree, InFirst}
use Rattle.zi_due.specs.Purging.{with_sels, FileThen, ReadsTo, GoesTo, EndsKept, OfAll, EndsPurge}
use Rattle.zi_due.proofs.PlainLemmas.{memory_ends, same_ends}
use Rattle.zi_due.proofs.NamesLemmas.{names_are_one}
use Rattle.zi_due.proofs.FilesLemmas.{held_got, large_got}
use Rattle.zi_due.proofs.CrowdedLemmas.{none_some}
use Rattle.zi_due.proofs.PurgerLemmas.{taken_not_done, none_not_crowded}
use Rattle.zi_due.proofs.KnowingEnds.{IsQuietAll}

-- what is read is one

file_one : ((bytes : List ℕ) → IsSettled bytes) → (g : Result (List ℕ) Outcome) (Rest : Result (List Selections) Outcome → Type 0)
    → ((r q : Result (List Selections) Outcome) → Rest r → Rest q → r ≡ q) → (r q : Result (List Selections) Outcome) → FileThen g Rest r → FileThen g Rest q → r ≡ q
file_one one (Err why) Rest same r q a b = a ∙ sym b
file_one one (Ok bytes) Rest same r q (inl (f, h, e)) (inl (g, k, d)) = e ∙ ap (λ x. Err (BadSels x)) ((one bytes).fault f g h k) ∙ sym d
file_one one (Ok bytes) Rest same r q (inl (f, h, e)) (inr (s, rest, says, is, d)) = absurd ((one bytes).apart s f says h)
file_one one (Ok bytes) Rest same r q (inr (s, rest, says, is, d)) (inl (f, h, e)) = absurd ((one bytes).apart s f says h)
file_one one (Ok bytes) Rest same r q (inr (s, rest, says, is, e)) (inr (t, more, tells, are, d)) =
    e ∙ ap (λ x. with_sels x rest) ((one bytes).value s t says tells) ∙ ap (with_sels t) (same rest more is are) ∙ sym d

reads_one : ((bytes : List ℕ) → IsSettled bytes) → (holds : Holding) (files : List Word) (r q : Result (List Selections) Outcome) → ReadsTo holds files r → ReadsTo holds files q → r ≡ q
reads_one one holds [] r q a b = a ∙ sym b
reads_one one holds (f ∷ fs) r q a b = file_one one (got document_limit f (holds f)) (ReadsTo holds fs) (reads_one one holds fs) r q a b

module _ (holds : Holding) where
  -- one file is read
  file_read : (f : Word) (s : Selections) (Rest : Result (List Selections) Outcome → Type 0) (rest : Result (List Selections) Outcome) → IsRead (Some holds) f s → Rest rest
      → FileThen (got document_limit f (holds f)) Rest (with_sels s rest)
  file_read f s Rest rest r is =
      subst (λ g. FileThen g Rest (with_sels s rest)) (sym (held_got document_limit f (holds f) r.bytes r.held r.small)) (inr (s, rest, r.says, is, refl))

  -- all are
  reads_so : (files : List Word) (all : List Selections) → AreRead (Some holds) files all → ReadsTo holds files (Ok all)
  reads_so [] [] a = refl
  reads_so [] (s ∷ ss) a = absurd a
  reads_so (f ∷ fs) [] a = absurd a
  reads_so (f ∷ fs) (s ∷ ss) a = file_read f s (ReadsTo holds fs) (Ok ss) a.0 (reads_so fs ss a.1)

  -- one isn't, and all before it are
  stops_reading : (files : List Word) (place : ℕ) (file : Word) (all : List Selections) (why : Outcome) → slice_get files place ≡ Some file → AreRead (Some holds) (take place files) all
      → ((Rest : Result (List Selections) Outcome → Type 0) → FileThen (got document_limit file (holds file)) Rest (Err why)) → ReadsTo holds files (Err why)
  stops_reading [] place file all why here a e = absurd (cc here)
  stops_reading (f ∷ fs) zero file all why here a e =
      let same : f ≡ file = same_Some _ _ here in
      subst (λ x. FileThen (got document_limit x (holds x)) (ReadsTo holds fs) (Err why)) (sym same) (e (ReadsTo holds fs))
  stops_reading (f ∷ fs) (suc place) file [] why here a e = absurd a
  stops_reading (f ∷ fs) (suc place) file (s ∷ ss) why here a e = file_read f s (ReadsTo holds fs) (Err why) a.0 (stops_reading fs place file ss why here a.1 e)

  got_none : (file : Word) (why : Outcome) → got document_limit file (holds file) ≡ Err why → (Rest : Result (List Selections) Outcome → Type 0) → FileThen (got document_limit file (holds file)) Rest (Err why)
  got_none file why e Rest = subst (λ g. FileThen g Rest (Err why)) (sym e) refl

module _ (one : (bytes : List ℕ) → IsSettled bytes) (files : List Word) (before after : World) (holds : Holding) (s : Told) (honest : before.shelf.honest) (told : before.shelf.told ≡ Some s)
    (feeds : holding before.feeds ≡ Some holds) (quiet : IsQuietAll before after) (due : Outcome) (result : Result (List Selections) Outcome) (reads : ReadsTo holds files result) (h : OfAll result s due) where
  -- the files weren't all read
  unread : (why : Outcome) → ReadsTo holds files (Err why) → Ends (plainly due) why
  unread why r = same_ends why due (sym (subst (λ q. OfAll q s due) (reads_one one holds files result (Err why) reads r) h))

  reached : (file : Word) (why : Outcome) → Reaches files before.feeds after.feeds file → ((Rest : Result (List Selections) Outcome → Type 0) → FileThen (got document_limit file (holds file)) Rest (Err why))
      → Ends (plainly due) why
  reached file why r e = unread why (stops_reading holds files r.place file r.all why r.here (subst (λ o. AreRead o (take r.place files) r.all) feeds r.are) e)

  reads_not : (outcome : Outcome) → ReadsNot files before.feeds outcome after.feeds → Ends (plainly due) outcome
  reads_not (FeedRead uri) c = absurd (quiet.feeds c.1)
  reads_not (NoFile name) c =
      reached name (NoFile name) c.0.reaches (got_none holds name (NoFile name) (ap (got document_limit name) (subst (λ o. IfSome o (λ h. h name ≡ None)) feeds c.1)))
  reads_not (FeedTooLong uri limit) c =
      let e : got document_limit uri (holds uri) ≡ Err (FeedTooLong uri document_limit) =
      large_got document_limit uri (holds uri) (subst (λ o. IfSome o (λ h. IsSomeAnd (h uri) (λ bytes. document_limit < length bytes))) feeds c.2) in
      subst (λ n. Ends (plainly due) (FeedTooLong uri n)) (sym c.1) (reached uri (FeedTooLong uri document_limit) c.0.reaches (got_none holds uri (FeedTooLong uri document_limit) e))
  reads_not (BadSels fault) c =
      let bad = c.2 in
      let is : got document_limit c.0 (holds c.0) ≡ Ok bad.bytes =
      held_got document_limit c.0 (holds c.0) bad.bytes (subst (λ o. IfSome o (λ h. h c.0 ≡ Some bad.bytes)) feeds bad.held) bad.small in
      reached c.0 (BadSels fault) c.1.reaches (λ Rest. subst (λ g. FileThen g Rest (Err (BadSels fault))) (sym is) (inl (fault, bad.has, refl)))
  reads_not Memory c = memory_ends (plainly due)
  reads_not other c = absurd c

  -- they were
  all_due : (all : List Selections) → AreRead (holding before.feeds) files all → EndsKept (kept_by all) s due
  all_due all a =
      subst (λ q. OfAll q s due) (reads_one one holds files result (Ok all) reads (reads_so holds files all (subst (λ o. AreRead o files all) feeds a))) h

  module _ (kept : List Name) (k : EndsKept kept s due) where
    same_names : (there : List DigestName) → NamesStored (Ok there) s.shelf → GoesTo (purged kept (map spelling there)) s due
    same_names there n = subst (λ (ns : List DigestName). GoesTo (purged kept (map spelling ns)) s due) (names_are_one s.shelf k.0 there k.1 n) k.2

    taken_all : (gone : List Name) → HasPurged kept before.shelf after.shelf step.Done gone → Done ≡ due
    taken_all gone p = by (purged kept (map spelling p.there)) refl (same_names p.there (p.names s honest told))
      where
        free : (d : Name) (ds : List Name) (o : Outcome) → purged kept (map spelling p.there) ≡ d ∷ ds → GoesTo (d ∷ ds) s o → Done ≡ o
        free d ds Done e g = refl
        free d ds (Crowded tried) e g =
            let l = p.leaves s honest told in
            absurd (taken_not_done s l.works.mid kept (map spelling p.there) d ds p.end l.told g.1 e l.works.named.same l.works.calls)
        free d ds other e g = absurd g

        by : (ns : List Name) → purged kept (map spelling p.there) ≡ ns → GoesTo ns s due → Done ≡ due
        by [] e g = sym g
        by (d ∷ ds) e g = free d ds due e g

    crowded : (tried : ℕ) (gone : List Name) → tried ≡ 10000 → HasPurged kept before.shelf after.shelf (step.Crowded tried) gone → Crowded tried ≡ due
    crowded tried gone is p = by (purged kept (map spelling p.there)) refl (same_names p.there (p.names s honest told))
      where
        taken : AreTaken s
        taken = (p.leaves s honest told).leaves

        full : (d : Name) (ds : List Name) (o : Outcome) → GoesTo (d ∷ ds) s o → Crowded tried ≡ o
        full d ds Done g = absurd (none_some (s.shelf.tops (tmp_name g.0)) g.2 (taken g.0 g.1))
        full d ds (Crowded other) g = ap Crowded (is ∙ sym g.0)
        full d ds other g = absurd g

        by : (ns : List Name) → purged kept (map spelling p.there) ≡ ns → GoesTo ns s due → Crowded tried ≡ due
        by [] e g =
            let l = p.leaves s honest told in
            absurd (none_not_crowded l.works.mid kept (map spelling p.there) p.end l.told tried e l.works.calls)
        by (d ∷ ds) e g = full d ds due g

    purges : (outcome : Outcome) → PurgesBut kept (lent before) (lent after) outcome → Ends (plainly due) outcome
    purges Done c = same_ends Done due (taken_all (map spelling c.0) c.1)
    purges (Crowded tried) c = same_ends (Crowded tried) due (crowded tried c.0.1.0 c.0.0 c.0.1.1)
    purges (StoreFault blame) (inl f, w) = absurd (quiet.world.stores.0 f.1.0)
    purges (StoreFault blame) (inr (tmp, e, p), w) = absurd (quiet.world.stores.0 p.1.cost.0)
    purges SinkFault c = absurd (quiet.world.out c.2.failed)
    purges Memory c = memory_ends (plainly due)
    purges other c = absurd c

  purge_ends : (outcome : Outcome) → ReadsNone files before after outcome ⊎ PurgesRead files before after outcome → Ends (plainly due) outcome
  purge_ends outcome (inl n) = reads_not outcome n.why
  purge_ends outcome (inr r) = purges (kept_by r.all) (all_due r.all r.read.are) outcome r.purges

pub purge_command : ((bytes : List ℕ) → IsSettled bytes) → (files : List Word) (before after : World) (holds : Holding) (held : List Told) (outcome due : Outcome) → AreTold (all_stores before) held
    → holding before.feeds ≡ Some holds → IsQuietAll before after → EndsPurge files holds held due → PurgesFiles files before after outcome → Ends (plainly due) outcome
purge_command one files before after holds [] outcome due told feeds quiet h p = absurd told
purge_command one files before after holds (s ∷ ss) outcome due told feeds quiet (result, reads, h) p =
    purge_ends one files before after holds s told.0 told.1 feeds quiet due result reads h outcome p.comes
