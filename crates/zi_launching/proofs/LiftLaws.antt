-- What is said of stores from a moment on is said of them from an earlier one, where no call of a store failed in between.
use Rattle.std.proofs.Common.{◌≡◌, ℕ, zero, suc, ◌⊎◌, inl, inr, List, [], ◌∷◌, take, get_or, Some, refl, ◌∙◌, subst, Ok}
use Rattle.zi_digest.specs.Name.{spelling}
use Rattle.zi_digest.specs.declared.DigestName.{DigestName}
use Rattle.zi_tree.specs.Dir.{Dir}
use Rattle.zi_shelf.specs.Shelved.{Shelved}
use Rattle.zi_shelf.specs.Shelving.{Shelving}
use Rattle.zi_text.specs.Count.{Rose}
use Rattle.zi_shelf.specs.Told.{Told}
use Rattle.zi_store.specs.Keeping.{Keeps, is_names, is_reading}
use Rattle.zi_store.specs.Verdicts.{Verifies}
use Rattle.zi_store.specs.Stores.{Each, IsCalm, SomeFails}
use Rattle.zi_adding.specs.Trying.{Tried, Adds}
use Rattle.zi_adding.proofs.HistoryLaws.{AreDone, calm_done, names_only_read}
use Rattle.zi_outcome.specs.declared.outcome.Outcome.{Outcome}
use Rattle.zi_outcome.specs.declared.outcome.Outcome.TheVariants.{StoreFault}
use Rattle.zi_world.specs.Shelves.{HeldThen}
use Rattle.zi_world.specs.Places.{InStore, place, root_at}
use Rattle.zi_world.proofs.PlacesLemmas.{each_by, each_then}
use Rattle.zi_launching.specs.Folders.{stored_folder}
use Rattle.zi_launching.specs.Verifying.{IsSound, AreSound, FailsToVerify, StopsVerifying}
use Rattle.zi_launching.specs.Launching.{Task, tree_folder}

-- A shelf has come so from an earlier moment: no call failed, and an honest one that told what it held is honest and tells it.
pub record Reaches (before mid : Shelving) : Type 0 where
  pub calm : IsCalm before mid
  pub root : mid.root ≡ before.root
  pub sure : before.sure → mid.sure
  pub tells : (s : Told) → before.honest → before.told ≡ Some s → mid.honest × ((m : Told) × (mid.told ≡ Some m))

pub lift_held : (before mid after : Shelving) (P : Shelved Dir → Type 0) → Reaches before mid → HeldThen mid after P → HeldThen before after P
lift_held before mid after P r h = λ s honest e. let t = r.tells s honest e in h t.1.0 t.0 t.1.1

lift_fails : (d : DigestName) (outcome : Outcome) (before mid after : Shelving) → Reaches before mid → FailsToVerify d mid outcome after → FailsToVerify d before outcome after
lift_fails d outcome before mid after r (inl (v, c, calm, h)) = inl (v, c, calm ∙ r.calm, lift_held before mid after (λ s. Verifies d (Ok v) s) r h)
lift_fails d outcome before mid after r (inr (inl (e, (rose, ne)))) = inr (inl (e, (subst (λ n. Rose n after.faults) r.calm rose, λ s. ne (r.sure s))))
lift_fails d outcome before mid after r (inr (inr (e, calm))) = inr (inr (e, calm ∙ r.calm))

-- All stores have come so.
pub in_lift : (P Q : Shelving → Shelving → Type 0) → ((b m a : Shelving) → Reaches b m → P m a → Q b a) → (i : ℕ) (before mid after : List Shelving) → Each Reaches before mid → InStore i mid after P → InStore i before after Q
in_lift P Q by i before [] after r h = absurd h
in_lift P Q by i before (m ∷ ms) [] r h = absurd h
in_lift P Q by i [] (m ∷ ms) (a ∷ as_) r h = absurd r
in_lift P Q by zero (b ∷ bs) (m ∷ ms) (a ∷ as_) r h = by b m a r.0 h
in_lift P Q by (suc i) (b ∷ bs) (m ∷ ms) (a ∷ as_) r h = in_lift P Q by i bs ms as_ r.1 h

roots_by : (P : Shelving → Shelving → Type 0) → ((b m : Shelving) → P b m → m.root ≡ b.root) → (i : ℕ) (before mid : List Shelving) → Each P before mid → root_at mid i ≡ root_at before i
roots_by P same i [] [] r = refl
roots_by P same i [] (m ∷ ms) r = absurd r
roots_by P same i (b ∷ bs) [] r = absurd r
roots_by P same zero (b ∷ bs) (m ∷ ms) r = same b m r.0
roots_by P same (suc i) (b ∷ bs) (m ∷ ms) r = roots_by P same i bs ms r.1

roots_stay : (i : ℕ) (before mid : List Shelving) → Each Reaches before mid → root_at mid i ≡ root_at before i
roots_stay i before mid r = roots_by Reaches (λ b m h. h.root) i before mid r

-- reading keeps the folders of all
pub folders_read : (task : Task) (before mid : List Shelving) → Each (Keeps is_reading) before mid → tree_folder task mid ≡ tree_folder task before
folders_read task before mid k = λ j d. stored_folder (roots_by (Keeps is_reading) (λ b m h. h.stays.root) (place task.each d) before mid k j) d

some_after : (before mid after : List Shelving) → Each Reaches before mid → SomeFails mid after → SomeFails before after
some_after before [] [] r h = absurd h
some_after before [] (a ∷ as_) r h = absurd h
some_after before (m ∷ ms) [] r h = absurd h
some_after [] (m ∷ ms) (a ∷ as_) r h = absurd r
some_after (b ∷ bs) (m ∷ ms) (a ∷ as_) r (inl (rose, ne)) = inl (subst (λ n. Rose n a.faults) r.0.calm rose, λ s. ne (r.0.sure s))
some_after (b ∷ bs) (m ∷ ms) (a ∷ as_) r (inr h) = inr (some_after bs ms as_ r.1 h)

module _ (before mid after : List Shelving) (r : Each Reaches before mid) where
  pub lift_calm : Each IsCalm mid after → Each IsCalm before after
  lift_calm calm = each_then Reaches IsCalm IsCalm (λ b m a h c. c ∙ h.calm) before mid after r calm

  pub lift_sound : (number : DigestName → ℕ) (names : List DigestName) → AreSound number mid after names → AreSound number before after names
  lift_sound number names h = λ k d lt.
      let name = get_or names k d in
      in_lift (λ b a. HeldThen b a (λ s. IsSound s name)) (λ b a. HeldThen b a (λ s. IsSound s name)) (λ b m a reach held. lift_held b m a (λ s. IsSound s name) reach held) (number name) before mid after r (h k d lt)

  pub folders_stay : (task : Task) → tree_folder task mid ≡ tree_folder task before
  folders_stay task = λ j d. stored_folder (roots_stay (place task.each d) before mid r j) d

  pub lift_stops : (number : DigestName → ℕ) (names : List DigestName) (outcome : Outcome) → StopsVerifying number names mid outcome after → StopsVerifying number names before outcome after
  lift_stops number names outcome s = record {
    place = s.place;
    name = s.name;
    here = s.here;
    sound = lift_sound number (take s.place names) s.sound;
    fails = in_lift (λ b a. FailsToVerify s.name b outcome a) (λ b a. FailsToVerify s.name b outcome a) (λ b m a reach f. lift_fails s.name outcome b m a reach f) (number s.name) before mid after r s.fails;
    calm = by s.calm;
  }
    where
      by : Each IsCalm mid after ⊎ ((outcome ≡ StoreFault (spelling s.name)) × SomeFails mid after) → Each IsCalm before after ⊎ ((outcome ≡ StoreFault (spelling s.name)) × SomeFails before after)
      by (inl calm) = inl (lift_calm calm)
      by (inr (e, h)) = inr (e, some_after before mid after r h)

-- behind the names and the sessions
pub reaches : (tried : List Tried) (before mid after : Shelving) → AreDone tried → IsCalm before mid → Keeps is_names before mid → Adds tried mid after → Reaches before after
reaches tried before mid after done calm k a = record {
  calm = calm_done tried mid after done a.cost ∙ calm;
  root = a.stays.root ∙ k.stays.root;
  sure = λ s. a.stays.sure (k.stays.sure s);
  tells = λ s h e.
      let m = k.holds s h e in
      let n = a.alone m.0 (k.stays.honest h) m.1 in
      (a.stays.honest (k.stays.honest h), (n.0, n.1));
}

-- behind the sessions alone
pub reaches_added : (tried : List Tried) (before after : Shelving) → AreDone tried → Adds tried before after → Reaches before after
reaches_added tried before after done a = record {
  calm = calm_done tried before after done a.cost;
  root = a.stays.root;
  sure = a.stays.sure;
  tells = λ s h e. let n = a.alone s h e in (a.stays.honest h, (n.0, n.1));
}

-- behind nothing
reaches_same : (shelf : Shelving) → Reaches shelf shelf
reaches_same shelf = record { calm = refl; root = refl; sure = λ s. s; tells = λ s h e. (h, (s, e)) }

pub all_same : (stores : List Shelving) → Each Reaches stores stores
all_same [] = tt
all_same (s ∷ ss) = (reaches_same s, all_same ss)

-- behind the names alone
reaches_named : (before mid : Shelving) → IsCalm before mid → Keeps is_names before mid → Reaches before mid
reaches_named before mid calm k = record {
  calm = calm;
  root = k.stays.root;
  sure = k.stays.sure;
  tells = λ s h e. let m = k.holds s h e in (k.stays.honest h, (m.0, m.1));
}

pub all_named : (before mid : List Shelving) → Each IsCalm before mid → Each (Keeps is_names) before mid → Each Reaches before mid
all_named [] [] calm k = tt
all_named [] (m ∷ ms) calm k = absurd k
all_named (b ∷ bs) [] calm k = absurd k
all_named (b ∷ bs) (m ∷ ms) calm k = (reaches_named b m calm.0 k.0, all_named bs ms calm.1 k.1)

pub all_only_read : (before mid : List Shelving) → Each (Keeps is_names) before mid → Each (Keeps is_reading) before mid
all_only_read before mid k = each_by (Keeps is_names) (Keeps is_reading) (λ b a h. names_only_read b a h) before mid k
