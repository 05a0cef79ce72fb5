-- Each call of a purger, with each reply, and what a call of an adder leaves of the purger's.
use Rattle.std.proofs.Common.{◌≡◌, ◌≢◌, ℕ, zero, suc, ◌+◌, ◌<◌, true, false, List, [], ◌∷◌, length, Option, Some, None, inl, inr, refl, sym, ◌∙◌, ap, subst, slice_get, slice_set, arith, if◌then◌else◌, nat_lt}
use Rattle.std.proofs.lemmas.Bool.{ltb-true}
use Rattle.zi_shelf.specs.Names.{Name, put, IsIn}
use Rattle.zi_shelf.specs.Shelved.{Top, Pending, Renamed, Removed, Shelved, Call, Rename, SettleTop, RemoveTop, Reply, Did, Exists, Failed, Memory, Answers, Unknown}
use Rattle.zi_shelf.specs.Shelved.{Moves as Renames}
use Rattle.zi_session.specs.Machine.{Rules, Adder}
use Rattle.zi_session.specs.Machine as adding
use Rattle.zi_session.specs.Law.{IsLawful, IsSound}
use Rattle.zi_session.specs.Invariant.{owned}
use Rattle.zi_session.specs.Beside.{IsSealed, PendingFits, AddersFit}
use Rattle.zi_session.proofs.MapsLemmas.{put-same, put-other, put-put, some_none, get_after_set}
use Rattle.zi_session.proofs.PendingLemmas.{before_renamed, before_removed, sealed_fresh, at_name, emptied, at_removed, at_purged}
use Rattle.zi_session.proofs.MovingLemmas.{Frame, Moved, none_owns, owned_few, adder_stays}
use Rattle.zi_session.proofs.CallsLemmas.{at_tmp_frame, at_tmp_sound, at_digest}
use Rattle.zi_shelf.proofs.TopsLemmas.{same_or_not}
use Rattle.zi_text.proofs.ListLaws.{some_is, some_of}
use Rattle.zi_purge.specs.Machine.{Phase, Moving, Sealing, Clearing, Closing, Ended, Stopped, Done, Crowded, Fault, moving, rename_call, next_call, next_phase, AreApart}
use Rattle.zi_purge.specs.Invariant.{IsUnowned, Holds, AreLeft, PurgePhaseFits}

-- what stands at a place is a member
pub is_member : {X : Type 0} (xs : List X) (k : ℕ) (x : X) → slice_get xs k ≡ Some x → IsIn x xs
is_member [] k x h = absurd (cc h)
is_member (y ∷ ys) zero x h = let e : x ≡ y = cc h in inl e
is_member (y ∷ ys) (suc k) x h = inr (is_member ys k x h)

-- names that are apart stand at one place each
pub one_place : (xs : List Name) (j k : ℕ) (x : Name) → AreApart xs → slice_get xs j ≡ Some x → slice_get xs k ≡ Some x → j ≡ k
one_place [] j k x a h g = absurd (cc h)
one_place (y ∷ ys) zero zero x a h g = refl
one_place (y ∷ ys) zero (suc k) x a h g = let e : y ≡ x = cc h in absurd (a.0 (subst (λ z. IsIn z ys) (sym e) (is_member ys k x g)))
one_place (y ∷ ys) (suc j) zero x a h g = let e : y ≡ x = cc g in absurd (a.0 (subst (λ z. IsIn z ys) (sym e) (is_member ys j x h)))
one_place (y ∷ ys) (suc j) (suc k) x a h g = ap suc (one_place ys j k x a.1 h g)

pub rename_is : {W : Type 0} (o : Option Name) (tmp : Name) (call : Call W) → rename_call o tmp ≡ Some call → (d : Name) × (o ≡ Some d) × (Rename d tmp ≡ call)
rename_is None tmp call h = absurd (cc h)
rename_is (Some d) tmp call h = (d, refl, cc h)

-- a call of the purger: what it keeps of the adders, and where it leaves the purger
pub record Took {T W : Type 0} (r : Rules T W) (adders : List (Adder T)) (all : List Name) (old new : Shelved T) (to : Phase) : Type 0 where
  pub place : Name
  pub frame : Frame r (λ n. IsIn n all) old new place
  pub sound : IsSound r new
  pub pending : PendingFits r (λ n. IsIn n all) new
  pub free : (n : ℕ) → n < r.tries → r.tmp n ≡ place → IsUnowned adders n
  pub own : PurgePhaseFits r new adders all to
  -- no digest name comes
  pub none : (d : Name) → r.is_digest d → old.tops d ≡ None → new.tops d ≡ None

module _ {T W : Type 0} (r : Rules T W) (P : Name → Type 0) where
  -- the adders after a call of the purger at a place that none of them owns
  pub beside : (old new : Shelved T) (adders : List (Adder T)) (place : Name) → AddersFit r P old adders → Frame r P old new place → IsSound r new → PendingFits r P new
      → ((n : ℕ) → n < r.tries → r.tmp n ≡ place → IsUnowned adders n) → AddersFit r P new adders
  beside old new adders place inv f sound pending free = record {
    sound = sound;
    pending = pending;
    each = λ j b h. adder_stays r P old new place f b (λ n o e. free n (owned_few r P old b.name b.tree b.phase n o (inv.each j b h).phase) e j b h o) (inv.each j b h);
    apart = inv.apart;
  }

module _ {T W : Type 0} (r : Rules T W) (lawful : IsLawful r) (all : List Name) (digest : (n : Name) → IsIn n all → r.is_digest n) (apart : AreApart all) where
  abbrev Purged : Name → Type 0
  Purged n = IsIn n all

  no_tmp : (d : Name) (n : ℕ) → r.is_digest d → d ≢ r.tmp n
  no_tmp d n is e = lawful.tmp_free n (subst r.is_digest e is)

  -- a call that leaves the shelf as it was; the place is one of no temporary name
  still : (s : Shelved T) (adders : List (Adder T)) (d : Name) (to : Phase) → r.is_digest d → AddersFit r Purged s adders → PurgePhaseFits r s adders all to → Took r adders all s s to
  still s adders d to is inv own = record {
    place = d;
    frame = record { others = λ n ne. refl; kept = λ x e dig last h. h; quiet = λ x dig last there q. q; fresh = λ n ne f. f };
    sound = inv.sound;
    pending = inv.pending;
    free = λ n few e. absurd (no_tmp d n is (sym e));
    own = own;
    none = λ x dig absent. absent;
  }

  -- the top is settled
  at_settle_top : (s : Shelved T) (adders : List (Adder T)) (place : Name) (to : Phase) → ((n : ℕ) → n < r.tries → r.tmp n ≡ place → IsUnowned adders n) → AddersFit r Purged s adders
      → PurgePhaseFits r (record { tops = s.tops; pending = [] }) adders all to → Took r adders all s (record { tops = s.tops; pending = [] }) to
  at_settle_top s adders place to free inv own = record {
    place = place;
    frame = record { others = λ n ne. refl; kept = λ x e dig last h. h; quiet = λ x dig last there q a i. absurd i; fresh = λ n ne f d is i. absurd i };
    sound = inv.sound;
    pending = emptied r lawful Purged s.tops;
    free = free;
    own = own;
    none = λ x dig absent. absent;
  }

  abbrev moved_shelf : Shelved T → Name → ℕ → Top T → Shelved T
  moved_shelf s d n e = record { tops = put (put s.tops d None) (r.tmp n) (Some e); pending = Renamed d (r.tmp n) ∷ s.pending }

  -- what stands under another digest name stays
  off_move : (s : Shelved T) (d x : Name) (n : ℕ) (e : Top T) → r.is_digest x → x ≢ d → (moved_shelf s d n e).tops x ≡ s.tops x
  off_move s d x n e is ne = put-other (put s.tops d None) (r.tmp n) (Some e) x (no_tmp x n is) ∙ put-other s.tops d None x ne

  -- nothing stands under the name then
  pub moved_off : (s new : Shelved T) (d : Name) (n : ℕ) (e : Top T) → r.is_digest d → new ≡ moved_shelf s d n e → new.tops d ≡ None
  moved_off s new d n e is same = ap (λ (x : Shelved T). x.tops d) same ∙ put-other (put s.tops d None) (r.tmp n) (Some e) d (no_tmp d n is) ∙ put-same s.tops d None

  -- the name is renamed to a temporary name that was free
  at_move : (s : Shelved T) (adders : List (Adder T)) (d : Name) (n : ℕ) (e : Top T) (to : Phase) → IsIn d all → n < r.tries → AddersFit r Purged s adders → s.tops d ≡ Some e → s.tops (r.tmp n) ≡ None
      → PurgePhaseFits r (moved_shelf s d n e) adders all to → Took r adders all s (moved_shelf s d n e) to
  at_move s adders d n e to purged few inv there none own = record {
    place = r.tmp n;
    frame = record {
      others = λ m ne. put-other (put s.tops d None) (r.tmp n) (Some e) (r.tmp m) ne ∙ put-other s.tops d None (r.tmp m) (λ same. no_tmp d m (digest d purged) (sym same));
      kept = λ x y is last h. off_move s d x n e is (λ same. last (subst Purged (sym same) purged)) ∙ h;
      quiet = λ x is last some q a i. elim i [
        | inl same ↦ (let ex : x ≡ r.tmp n = cc same in no_tmp x n is ex)
        | inr j ↦ q a j
      ];
      fresh = λ m ne f x is i. elim (before_renamed s.pending d (r.tmp n) (r.tmp m) x i) [
        | inl (same, j) ↦ ne same
        | inr (off, away, j) ↦ f x is j
      ];
    };
    sound = λ x y is h. elim (same_or_not x d) [
      | inl same ↦
          let gone : (moved_shelf s d n e).tops x ≡ None = put-other (put s.tops d None) (r.tmp n) (Some e) x (no_tmp x n is) ∙ rw same (put-same s.tops d None) in
          some_none ((moved_shelf s d n e).tops x) y h gone
      | inr ne ↦ inv.sound x y is (sym (off_move s d x n e is ne) ∙ h)
    ];
    pending = at_purged r lawful Purged s d n e (digest d purged) purged there inv.sound inv.pending;
    free = λ m less same i a at o.
        let is : m ≡ n = lawful.tmp_apart m n less few same in
        none_owns r Purged s a n (inv.each i a at) (o ∙ ap Some is) none;
    own = own;
    none = λ x dig absent. elim (same_or_not x d) [
      | inl same ↦ some_none (s.tops x) e (ap s.tops same ∙ there) absent
      | inr ne ↦ off_move s d x n e dig ne ∙ absent
    ];
  }

  -- the place of a purger's temporary name
  free_at : (s : Shelved T) (adders : List (Adder T)) (n : ℕ) → n < r.tries → IsUnowned adders n → (m : ℕ) → m < r.tries → r.tmp m ≡ r.tmp n → IsUnowned adders m
  free_at s adders n few unowned m less same = subst (λ x. IsUnowned adders x) (sym (lawful.tmp_apart m n less few same)) unowned

  -- a temporary entry is removed, or unknown after its removal
  at_clear : (s : Shelved T) (adders : List (Adder T)) (n : ℕ) (e : Top T) (v : Option (Top T)) (to : Phase) → n < r.tries → IsUnowned adders n → IsSealed r s → AddersFit r Purged s adders
      → PurgePhaseFits r (record { tops = put s.tops (r.tmp n) v; pending = Removed (r.tmp n) e ∷ s.pending }) adders all to
      → Took r adders all s (record { tops = put s.tops (r.tmp n) v; pending = Removed (r.tmp n) e ∷ s.pending }) to
  at_clear s adders n e v to few unowned sealed inv own =
      let f = at_tmp_frame r lawful Purged s n v in
      record {
        place = r.tmp n;
        frame = record {
          others = f.others;
          kept = f.kept;
          quiet = λ d is last there q x i. elim i [ inl same ↦ absurd (cc same) | inr j ↦ q x j ];
          fresh = λ m ne g d is i. g d is (before_removed s.pending (r.tmp n) e (r.tmp m) d i).1;
        };
        sound = at_tmp_sound r lawful Purged s n v inv.sound;
        pending = at_removed r lawful Purged s n e v (sealed_fresh r s (r.tmp n) sealed) inv.pending;
        free = free_at s adders n few unowned;
        own = own;
        none = λ x dig absent. at_digest r lawful Purged s n v x dig ∙ absent;
      }

  -- it is unknown, and nothing more is pending
  at_unknown : (s new : Shelved T) (adders : List (Adder T)) (n : ℕ) → n < r.tries → IsUnowned adders n → IsSealed r s → AddersFit r Purged s adders → Unknown s (r.tmp n) new → Took r adders all s new (Ended Fault)
  at_unknown s new adders n few unowned sealed inv (v, is) = subst (λ x. Took r adders all s x (Ended Fault)) (sym is) (record {
    place = r.tmp n;
    frame = at_tmp_frame r lawful Purged s n v;
    sound = at_tmp_sound r lawful Purged s n v inv.sound;
    pending = at_name r lawful Purged s (r.tmp n) v (sealed_fresh r s (r.tmp n) sealed) inv.pending;
    free = free_at s adders n few unowned;
    own = tt;
    none = λ x dig absent. at_digest r lawful Purged s n v x dig ∙ absent;
  })

  left_after : (s : Shelved T) (d : Name) (k n : ℕ) (e : Top T) → slice_get all k ≡ Some d → AreLeft s all k → AreLeft (moved_shelf s d n e) all (k + 1)
  left_after s d k n e at left j x le h =
      let found = some_of (s.tops x) (left j x (omega arith) h) in
      let ne : x ≢ d = λ same. (let it : j ≡ k = one_place all j k d apart (h ∙ ap Some same) at in omega arith) in
      some_is ((moved_shelf s d n e).tops x) found.0 (off_move s d x n e (digest x (is_member all j x h)) ne ∙ found.1)

  left_clear : (s : Shelved T) (k n : ℕ) (v : Option (Top T)) (ps : List (Pending T)) → AreLeft s all k → AreLeft (record { tops = put s.tops (r.tmp n) v; pending = ps }) all k
  left_clear s k n v ps left j x le h =
      let found = some_of (s.tops x) (left j x le h) in
      some_is (put s.tops (r.tmp n) v x) found.0 (at_digest r lawful Purged s n v x (digest x (is_member all j x h)) ∙ found.1)

  -- the name is renamed away
  moves : (s new : Shelved T) (adders : List (Adder T)) (k n : ℕ) (d : Name) → slice_get all k ≡ Some d → (n < r.tries) → AreLeft s all k → AddersFit r Purged s adders → Renames s d (r.tmp n) new
      → Took r adders all s new (Sealing k n) × Took r adders all s new (Ended Fault)
  moves s new adders k n d at few left inv (e, there, none, is) =
      let purged = is_member all k d at in
      let whole = inv.sound d e (digest d purged) there in
      let holds : Holds r (moved_shelf s d n e) adders d n = record {
        few = few;
        top = e;
        there = put-same (put s.tops d None) (r.tmp n) (Some e);
        settled = whole.1;
        named = whole.0;
        unowned = λ i a a_is o. none_owns r Purged s a n (inv.each i a a_is) o none;
      } in (
        subst (λ x. Took r adders all s x (Sealing k n)) (sym is) (at_move s adders d n e (Sealing k n) purged few inv there none ((d, at, holds), left_after s d k n e at left)),
        subst (λ x. Took r adders all s x (Ended Fault)) (sym is) (at_move s adders d n e (Ended Fault) purged few inv there none tt),
      )

  moved_took : (s new : Shelved T) (adders : List (Adder T)) (k n : ℕ) (d : Name) (reply : Reply) → slice_get all k ≡ Some d → AddersFit r Purged s adders → PurgePhaseFits r s adders all (Moving k n)
      → Answers r.trees s (Rename d (r.tmp n)) reply new → Took r adders all s new (next_phase r.tries (length all) (Moving k n) reply)
  moved_took s new adders k n d Did at inv (few, sealed, left) h = (moves s new adders k n d at few left inv h).0
  moved_took s new adders k n d Exists at inv (few, sealed, left) (here, there, is) =
      subst (λ x. Took r adders all s x (next_phase r.tries (length all) (Moving k n) Exists)) (sym is)
      (elim (nat_lt (n + 1) r.tries) as (λ t. nat_lt (n + 1) r.tries ≡ t → Took r adders all s s (if t then Moving k (n + 1) else Ended Crowded)) [
        | true ↦ λ e. still s adders d (Moving k (n + 1)) (digest d (is_member all k d at)) inv (ltb-true (n + 1) r.tries e, sealed, left)
        | false ↦ λ e. still s adders d (Ended Crowded) (digest d (is_member all k d at)) inv tt
      ] refl)
  moved_took s new adders k n d Failed at inv (few, sealed, left) (inl is) = subst (λ x. Took r adders all s x (Ended Fault)) (sym is) (still s adders d (Ended Fault) (digest d (is_member all k d at)) inv tt)
  moved_took s new adders k n d Failed at inv (few, sealed, left) (inr h) = (moves s new adders k n d at few left inv h).1
  moved_took s new adders k n d Memory at inv own is = subst (λ x. Took r adders all s x (Moving k n)) (sym is) (still s adders d (Moving k n) (digest d (is_member all k d at)) inv own)

  sealed_took : (s new : Shelved T) (adders : List (Adder T)) (k n : ℕ) (reply : Reply) → AddersFit r Purged s adders → PurgePhaseFits r s adders all (Sealing k n)
      → Answers r.trees s SettleTop reply new → Took r adders all s new (next_phase r.tries (length all) (Sealing k n) reply)
  sealed_took s new adders k n Did inv ((d, at, holds), left) is =
      subst (λ x. Took r adders all s x (Clearing k n)) (sym is)
      (at_settle_top s adders (r.tmp n) (Clearing k n) (free_at s adders n holds.few holds.unowned) inv
      ((d, at, record { few = holds.few; top = holds.top; there = holds.there; settled = holds.settled; named = holds.named; unowned = holds.unowned }), λ a b i. absurd i, λ j x le h. left j x le h))
  sealed_took s new adders k n Exists inv own h = absurd h
  sealed_took s new adders k n Failed inv ((d, at, holds), left) is = subst (λ x. Took r adders all s x (Ended Fault)) (sym is) (still s adders d (Ended Fault) (digest d (is_member all k d at)) inv tt)
  sealed_took s new adders k n Memory inv ((d, at, holds), left) is =
      subst (λ x. Took r adders all s x (Sealing k n)) (sym is) (still s adders d (Sealing k n) (digest d (is_member all k d at)) inv ((d, at, holds), left))

  -- a second change under one name hides the first
  twice : (s mid : Shelved T) (n : ℕ) (e : Top T) (what : Option (Top T)) → mid ≡ record { tops = put s.tops (r.tmp n) None; pending = Removed (r.tmp n) e ∷ s.pending }
      → ◌≡◌ {A = Shelved T} (record { tops = put mid.tops (r.tmp n) what; pending = mid.pending }) (record { tops = put s.tops (r.tmp n) what; pending = Removed (r.tmp n) e ∷ s.pending })
  twice s mid n e what is =
      ap (λ (m : Shelved T). let x : Shelved T = record { tops = put m.tops (r.tmp n) what; pending = m.pending } in x) is
      ∙ ap (λ (f : Name → Option (Top T)). let x : Shelved T = record { tops = f; pending = Removed (r.tmp n) e ∷ s.pending } in x) (put-put s.tops (r.tmp n) None what)

  sealed_on : (s : Shelved T) (n : ℕ) (e : Top T) (v : Option (Top T)) → IsSealed r s → IsSealed r (record { tops = put s.tops (r.tmp n) v; pending = Removed (r.tmp n) e ∷ s.pending })
  sealed_on s n e v sealed a b i = elim i [ inl same ↦ absurd (cc same) | inr j ↦ sealed a b j ]

  next_fits : (t : Shelved T) (adders : List (Adder T)) (k : ℕ) → IsSealed r t → AreLeft t all k → PurgePhaseFits r t adders all (moving (length all) k)
  next_fits t adders k sealed left = elim (nat_lt k (length all)) as (λ b. PurgePhaseFits r t adders all (if b then Moving k 0 else Closing)) [ true ↦ (lawful.some, sealed, left) | false ↦ sealed ]

  cleared_took : (s new : Shelved T) (adders : List (Adder T)) (k n : ℕ) (reply : Reply) → AddersFit r Purged s adders → PurgePhaseFits r s adders all (Clearing k n)
      → Answers r.trees s (RemoveTop (r.tmp n)) reply new → Took r adders all s new (next_phase r.tries (length all) (Clearing k n) reply)
  cleared_took s new adders k n Did inv ((d, at, holds), sealed, left) (e, there, is) =
      let t : Shelved T = record { tops = put s.tops (r.tmp n) None; pending = Removed (r.tmp n) e ∷ s.pending } in
      subst (λ x. Took r adders all s x (moving (length all) (k + 1))) (sym is)
      (at_clear s adders n e None (moving (length all) (k + 1)) holds.few holds.unowned sealed inv (next_fits t adders (k + 1) (sealed_on s n e None sealed) (left_clear s (k + 1) n None t.pending left)))
  cleared_took s new adders k n Exists inv own h = absurd h
  cleared_took s new adders k n Failed inv ((d, at, holds), sealed, left) (inl h) = at_unknown s new adders n holds.few holds.unowned sealed inv h
  cleared_took s new adders k n Failed inv ((d, at, holds), sealed, left) (inr (mid, (e, there, is_mid), (what, is))) =
      subst (λ x. Took r adders all s x (Ended Fault)) (sym (is ∙ twice s mid n e what is_mid)) (at_clear s adders n e what (Ended Fault) holds.few holds.unowned sealed inv tt)
  cleared_took s new adders k n Memory inv ((d, at, holds), sealed, left) is =
      subst (λ x. Took r adders all s x (Clearing k n)) (sym is) (still s adders d (Clearing k n) (digest d (is_member all k d at)) inv ((d, at, holds), sealed, left))

  -- the last call names nothing: its place is a name of no temporary entry
  closed_took : (s new : Shelved T) (adders : List (Adder T)) (reply : Reply) (d : Name) → ((n : ℕ) → n < r.tries → r.tmp n ≡ d → IsUnowned adders n) → AddersFit r Purged s adders → PurgePhaseFits r s adders all Closing
      → Answers r.trees s SettleTop reply new → Took r adders all s new (next_phase r.tries (length all) Closing reply)
  closed_took s new adders Did d free inv sealed is = subst (λ x. Took r adders all s x (Ended Done)) (sym is) (at_settle_top s adders d (Ended Done) free inv (λ a b i. absurd i))
  closed_took s new adders Exists d free inv sealed h = absurd h
  closed_took s new adders Failed d free inv sealed is = subst (λ x. Took r adders all s x (Ended Fault)) (sym is) (record {
    place = d;
    frame = record { others = λ n ne. refl; kept = λ x e dig last h. h; quiet = λ x dig last there q. q; fresh = λ n ne f. f };
    sound = inv.sound;
    pending = inv.pending;
    free = free;
    own = tt;
    none = λ x dig absent. absent;
  })
  closed_took s new adders Memory d free inv sealed is = subst (λ x. Took r adders all s x Closing) (sym is) (record {
    place = d;
    frame = record { others = λ n ne. refl; kept = λ x e dig last h. h; quiet = λ x dig last there q. q; fresh = λ n ne f. f };
    sound = inv.sound;
    pending = inv.pending;
    free = free;
    own = sealed;
    none = λ x dig absent. absent;
  })

  -- any call; d is a name of no temporary entry
  pub took : (s new : Shelved T) (adders : List (Adder T)) (p : Phase) (reply : Reply) (call : Call W) (d : Name) → ((n : ℕ) → n < r.tries → r.tmp n ≡ d → IsUnowned adders n) → AddersFit r Purged s adders → PurgePhaseFits r s adders all p
      → next_call r.tmp all p ≡ Some call → Answers r.trees s call reply new → Took r adders all s new (next_phase r.tries (length all) p reply)
  took s new adders (Moving k n) reply call d free inv own makes h =
      let f = rename_is (slice_get all k) (r.tmp n) call makes in moved_took s new adders k n f.0 reply f.1 inv own (subst (λ c. Answers r.trees s c reply new) (sym f.2) h)
  took s new adders (Sealing k n) reply call d free inv own makes h =
      let e : call ≡ SettleTop = cc makes in sealed_took s new adders k n reply inv own (subst (λ c. Answers r.trees s c reply new) e h)
  took s new adders (Clearing k n) reply call d free inv own makes h =
      let e : call ≡ RemoveTop (r.tmp n) = cc makes in cleared_took s new adders k n reply inv own (subst (λ c. Answers r.trees s c reply new) e h)
  took s new adders Closing reply call d free inv own makes h =
      let e : call ≡ SettleTop = cc makes in closed_took s new adders reply d free inv own (subst (λ c. Answers r.trees s c reply new) e h)
  took s new adders (Ended a) reply call d free inv own makes h = absurd (cc makes)
  took s new adders Stopped reply call d free inv own makes h = absurd (cc makes)

  -- what a call of an adder leaves of the purger's
  module _ (P : Name → Type 0) (old new : Shelved T) (adders : List (Adder T)) (i : ℕ) (a : Adder T) (to : adding.Phase) (at : slice_get adders i ≡ Some a) (m : Moved r P old a.name a.tree a.phase new to) where
    left_stays : (k : ℕ) → AreLeft old all k → AreLeft new all k
    left_stays k left j x le h =
        let found = some_of (old.tops x) (left j x le h) in
        some_is (new.tops x) found.0 (m.all x found.0 (digest x (is_member all j x h)) found.1)

    holds_stays : (d : Name) (n : ℕ) → Holds r old adders d n → Holds r new (slice_set adders i (record a { phase = to })) d n
    holds_stays d n h =
        let off : r.tmp n ≢ m.place = λ e. elim (m.free n h.few e) [
          | inl mine ↦ h.unowned i a at mine
          | inr none ↦ some_none (old.tops (r.tmp n)) h.top h.there none
        ] in
        record {
          few = h.few;
          top = h.top;
          there = m.frame.others n off ∙ h.there;
          settled = h.settled;
          named = h.named;
          unowned = λ j b g o. elim (get_after_set adders i j (record a { phase = to }) b g) [
            | inl p ↦ elim (m.owns n (ap (λ (x : Adder T). adder_owned x) (sym p.1) ∙ o)) [
              | inl was ↦ h.unowned i a at was
              | inr none ↦ some_none (old.tops (r.tmp n)) h.top h.there none
            ]
            | inr p ↦ h.unowned j b p.1 o
          ];
        }
      where
        adder_owned : Adder T → Option ℕ
        adder_owned x = owned x.phase

    pub purger_stays : (p : Phase) → PurgePhaseFits r old adders all p → PurgePhaseFits r new (slice_set adders i (record a { phase = to })) all p
    purger_stays (Moving k n) h = (h.0, m.sealed h.1, left_stays k h.2)
    purger_stays (Sealing k n) ((d, g, h), left) = ((d, g, holds_stays d n h), left_stays (k + 1) left)
    purger_stays (Clearing k n) ((d, g, h), sealed, left) = ((d, g, holds_stays d n h), m.sealed sealed, left_stays (k + 1) left)
    purger_stays Closing h = m.sealed h
    purger_stays (Ended Done) h = m.sealed h
    purger_stays (Ended Crowded) h = tt
    purger_stays (Ended Fault) h = tt
    purger_stays Stopped h = tt
