-- The files, as they are read.
use Rattle.std.proofs.Common.{◌≡◌, ℕ, List, [], ◌∷◌, ◌++◌, take, length, get_or, Option, Some, None, Ok, Err, refl, sym, ◌∙◌, ap, subst, ◌<◌, ◌≤◌, ◌+◌, inl, inr}
use Rattle.std.specs.Prelude.{slice_get, IfSome, IsSomeAnd}
use Rattle.std.specs.List.{flat_map}
use Rattle.std.proofs.lemmas.Option.{slice_get_read}
use Rattle.std.proofs.lemmas.List.{take_more, take_all}
use Rattle.zi_text.specs.Count.{Rose}
use Rattle.zi_digest.specs.declared.DigestName.{DigestName}
use Rattle.zi_outside.specs.Outside.{Asks}
use Rattle.zi_outside.specs.Views.{Holding, Feeding, holding}
use Rattle.zi_outside.proofs.AskingLemmas.{asks_none, asks_more, holding_asked}
use Rattle.zi_sels.specs.declared.types.Selections.{Selections}
use Rattle.zi_outcome.specs.declared.outcome.Outcome.{Outcome}
use Rattle.zi_outcome.specs.declared.outcome.Outcome.TheVariants.{FeedRead, NoFile, FeedTooLong, BadSels, Memory}
use Rattle.zi_world.specs.Asking.{FeedsStay}
use Rattle.zi_opening.specs.Opening.{document_limit, AsksCalmly, GetsNot, GetsSelections}
use Rattle.zi_opening.specs.Files.{digests_in, digests_of, IsRead, AreRead, ReadsAll, Reaches, ReadsNot, ReadsFiles}

-- nothing was asked
calm_none : (seen : Feeding) → AsksCalmly [] seen seen
calm_none seen = record { asked = asks_none seen; calm = refl }

calm_more : (keys more : List (List ℕ)) (old mid new : Feeding) → AsksCalmly keys old mid → AsksCalmly more mid new → AsksCalmly (keys ++ more) old new
calm_more keys more old mid new a b = record { asked = asks_more keys more old mid new a.asked b.asked; calm = b.calm ∙ a.calm }

-- the front up to a file and it
front_more : (files : List (List ℕ)) (i : ℕ) (f : List ℕ) → i < length files → f ≡ get_or files i f → take i files ++ f ∷ [] ≡ take (i + 1) files
front_more files i f lt at = sym (take_more files i f lt ∙ ap (λ x. take i files ++ x ∷ []) (sym at))

calm_next : (files : List (List ℕ)) (i : ℕ) (f : List ℕ) (old mid new : Feeding) → i < length files → f ≡ get_or files i f → AsksCalmly (take i files) old mid → AsksCalmly (f ∷ []) mid new
    → AsksCalmly (take (i + 1) files) old new
calm_next files i f old mid new lt at a b = subst (λ fs. AsksCalmly fs old new) (front_more files i f lt at) (calm_more (take i files) (f ∷ []) old mid new a b)

asks_next : (files : List (List ℕ)) (i : ℕ) (f : List ℕ) (old mid new : Feeding) → i < length files → f ≡ get_or files i f → AsksCalmly (take i files) old mid → Asks (f ∷ []) mid new
    → Asks (take (i + 1) files) old new
asks_next files i f old mid new lt at a b = subst (λ fs. Asks fs old new) (front_more files i f lt at) (asks_more (take i files) (f ∷ []) old mid new a.asked b)

-- what is held now was held before
since : (P : Holding → Type 0) (files : List (List ℕ)) (old mid : Feeding) → AsksCalmly files old mid → IfSome (holding mid) P → IfSome (holding old) P
since P files old mid a h = subst (λ told. IfSome told P) (holding_asked files old mid a.asked) h

more_read : (told : Option Holding) (fs : List (List ℕ)) (ss : List Selections) (f : List ℕ) (s : Selections) → AreRead told fs ss → IsRead told f s → AreRead told (fs ++ f ∷ []) (ss ++ s ∷ [])
more_read told [] [] f s h i = (i, tt)
more_read told [] (q ∷ ss) f s h i = absurd h
more_read told (g ∷ fs) [] f s h i = absurd h
more_read told (g ∷ fs) (q ∷ ss) f s h i = (h.0, more_read told fs ss f s h.1 i)

more_digests : (ss : List Selections) (s : Selections) (old new : List DigestName) → old ≡ digests_of ss → new ≡ old ++ digests_in s → new ≡ digests_of (ss ++ s ∷ [])
more_digests ss s old new e n = n ∙ ap (λ l. l ++ digests_in s) e ∙ joined ss
  where
    none : (l : List DigestName) → l ≡ l ++ []
    none [] = refl
    none (x ∷ l) = ap (λ y. x ∷ y) (none l)

    assoc : (a b c : List DigestName) → (a ++ b) ++ c ≡ a ++ (b ++ c)
    assoc [] b c = refl
    assoc (x ∷ a) b c = ap (λ y. x ∷ y) (assoc a b c)

    joined : (l : List Selections) → digests_of l ++ digests_in s ≡ digests_of (l ++ s ∷ [])
    joined [] = none (digests_in s)
    joined (x ∷ l) = assoc (digests_in x) (digests_of l) (digests_in s) ∙ ap (λ y. digests_in x ++ y) (joined l)

-- what the loop over the files keeps: those before are read, and their digests are gathered
pub record Read (files : List (List ℕ)) (old now : Feeding) (digests : List DigestName) : Type 0 where
  pub all : List Selections
  pub reads : ReadsAll files old all now
  pub are : digests ≡ digests_of all
  pub stays : FeedsStay old now

pub read_none : (files : List (List ℕ)) (seen : Feeding) (digests : List DigestName) → digests ≡ [] → Read (take 0 files) seen seen digests
read_none files seen digests e = record {
  all = [];
  reads = record { are = tt; asked = calm_none seen };
  are = e;
  stays = record { holds = refl; plan = refl };
}

stays_on : (old mid new : Feeding) → FeedsStay old mid → FeedsStay mid new → FeedsStay old new
stays_on old mid new a b = record { holds = b.holds ∙ a.holds; plan = b.plan ∙ a.plan }

pub read_stays : (files : List (List ℕ)) (old mid new : Feeding) (digests : List DigestName) → Read files old mid digests → FeedsStay mid new → FeedsStay old new
read_stays files old mid new digests r s = stays_on old mid new r.stays s

module _ (files : List (List ℕ)) (i : ℕ) (f name : List ℕ) (old mid new : Feeding) (digests : List DigestName) (lt : i < length files) (at : f ≡ get_or files i f) (same : name ≡ f) (r : Read (take i files) old mid digests) where
  -- the next is right
  pub read_next : (s : Selections) (more : List DigestName) → GetsSelections name mid (Ok s) new → FeedsStay mid new → more ≡ digests ++ digests_in s → Read (take (i + 1) files) old new more
  read_next s more g stay m = by (subst (λ n. GetsSelections n mid (Ok s) new) same g)
    where
      by : GetsSelections f mid (Ok s) new → Read (take (i + 1) files) old new more
      by (bytes, gets, says) = record {
        all = r.all ++ s ∷ [];
        reads = record {
          are =
              subst (λ fs. AreRead (holding old) fs (r.all ++ s ∷ [])) (front_more files i f lt at)
              (more_read (holding old) (take i files) r.all f s r.reads.are
              (record { bytes = bytes; small = gets.small; held = since (λ holds. holds f ≡ Some bytes) (take i files) old mid r.reads.asked gets.held; says = says }));
          asked = calm_next files i f old mid new lt at r.reads.asked gets.asked;
        };
        are = more_digests r.all s digests more r.are m;
        stays = stays_on old mid new r.stays stay;
      }

  -- and then there was no memory for its digests
  pub read_short : (s : Selections) → GetsSelections name mid (Ok s) new → ReadsNot files old Memory new
  read_short s g = by (subst (λ n. GetsSelections n mid (Ok s) new) same g)
    where
      by : GetsSelections f mid (Ok s) new → ReadsNot files old Memory new
      by (bytes, gets, says) = (i + 1, calm_next files i f old mid new lt at r.reads.asked gets.asked)

  reached : Asks (f ∷ []) mid new → Reaches files old new f
  reached asked = record {
    place = i;
    here = slice_get_read files (length files) i f refl lt at;
    all = r.all;
    are = r.reads.are;
    asked = asks_next files i f old mid new lt at r.reads.asked asked;
  }

  -- it isn't got, or isn't right
  not_read : (outcome : Outcome) → GetsNot f mid outcome new → ReadsNot files old outcome new
  not_read (FeedRead uri) (e, asked, rose) = (subst (λ n. Reaches files old new n) (sym e) (reached asked), subst (λ n. Rose n new.faults) r.reads.asked.calm rose)
  not_read (NoFile file) (e, asked, none) =
      subst (λ n. ReadsNot files old (NoFile n) new) (sym e)
      (record { reaches = reached asked.asked; calm = asked.calm ∙ r.reads.asked.calm }, since (λ holds. holds f ≡ None) (take i files) old mid r.reads.asked none)
  not_read (FeedTooLong uri limit) (e, asked, l, long) =
      subst (λ n. ReadsNot files old (FeedTooLong n limit) new) (sym e) (
        record { reaches = reached asked.asked; calm = asked.calm ∙ r.reads.asked.calm },
        l,
        since (λ holds. IsSomeAnd (holds f) (λ bytes. document_limit < length bytes)) (take i files) old mid r.reads.asked long,
      )
  not_read (BadSels fault) (bytes, gets, has) = (
    f,
    record { reaches = reached gets.asked.asked; calm = gets.asked.calm ∙ r.reads.asked.calm },
    record { bytes = bytes; small = gets.small; held = since (λ holds. holds f ≡ Some bytes) (take i files) old mid r.reads.asked gets.held; has = has },
  )
  not_read Memory (inl e) = (i, subst (λ seen. AsksCalmly (take i files) old seen) (sym e) r.reads.asked)
  not_read Memory (inr asked) = (i + 1, calm_next files i f old mid new lt at r.reads.asked asked)
  not_read other h = absurd h

  pub read_stops : (outcome : Outcome) → GetsSelections name mid (Err outcome) new → ReadsNot files old outcome new
  read_stops outcome g = not_read outcome (subst (λ n. GetsNot n mid outcome new) same g)

-- there was no memory for the next one's name
pub read_unnamed : (files : List (List ℕ)) (i : ℕ) (old mid : Feeding) (digests : List DigestName) → Read (take i files) old mid digests → ReadsNot files old Memory mid
read_unnamed files i old mid digests r = (i, r.reads.asked)

pub read_all : (files : List (List ℕ)) (n : ℕ) (old now : Feeding) (digests : List DigestName) → length files ≤ n → Read (take n files) old now digests → ReadsFiles files old (Ok digests) now
read_all files n old now digests most r =
    let whole : take n files ≡ files = take_all n files most in
    (r.all, subst (λ fs. ReadsAll fs old r.all now) whole r.reads, r.are)
