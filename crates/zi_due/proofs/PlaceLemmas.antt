-- What stands under a name at the end in the store of a number, and what is due of verifying it.
use Rattle.std.proofs.Common.{◌≡◌, ◌≢◌, ℕ, zero, suc, ◌⊎◌, inl, inr, List, [], ◌∷◌, Option, Some, Ok, sym, ap, ◌∙◌}
use Rattle.std.specs.Option.{option_map}
use Rattle.std.proofs.lemmas.Option.{same_Some}
use Rattle.zi_text.specs.Count.{Rose}
use Rattle.zi_digest.specs.declared.DigestName.{DigestName}
use Rattle.zi_digest.specs.Name.{spelling, algorithm_of}
use Rattle.zi_tree.specs.Dir.{Dir}
use Rattle.zi_tree.specs.Limits.{limit_of}
use Rattle.zi_manifest.specs.Manifest.{digest_of}
use Rattle.zi_shelf.specs.Names.{Name}
use Rattle.zi_shelf.specs.Shelved.{Top, Shelved}
use Rattle.zi_shelf.specs.Shelving.{Shelving}
use Rattle.zi_shelf.specs.Told.{Told, tree_at}
use Rattle.zi_store.specs.Keeping.{Keeps, is_reading}
use Rattle.zi_store.specs.Stores.{Each}
use Rattle.zi_store.specs.Verdicts.{Verifies}
use Rattle.zi_store.specs.declared.verdicts.Verdict.{Verdict}
use Rattle.zi_store.specs.declared.verdicts.Verdict.TheVariants as verdict
use Rattle.zi_outcome.specs.declared.outcome.Outcome.{Outcome}
use Rattle.zi_outcome.specs.declared.outcome.Outcome.TheVariants.{Done, DamagedTree, BadName, TreeTooLarge, Memory}
use Rattle.zi_world.specs.Places.{InStore, AreTold}
use Rattle.zi_world.specs.Shelves.{HeldThen}
use Rattle.zi_launching.specs.Verifying.{IsSound, Condemns, FailsToVerify}
use Rattle.zi_due.specs.Held.{StandsStill}
use Rattle.zi_due.specs.Trees.{or_next, EndsSound, Compares}
use Rattle.zi_due.specs.Turns.{Addition}
use Rattle.zi_due.specs.Launching.{tree_in, tree_behind}
use Rattle.zi_due.proofs.TreesLemmas.{or_none, entry_tree, no_tree, of_none, of_fault, of_right, passes_fault, bad_fault, no_fault, compares_same, compares_other}

-- One store of many, with what it tells before and what stands there at the end.

-- what is so of a store that stands as it did
abbrev pub BySome : Name → Option Dir → (Shelving → Shelving → Type 0) → Type 0 → Type 1
BySome n tree Q X = (b a : Shelving) (s : Told) → b.honest → b.told ≡ Some s → ¬ Rose b.faults a.faults → ((t : Told) → a.told ≡ Some t → tree_at t n ≡ tree) → Q b a → X

module _ (n : Name) where
  kept_tree : (k l : Shelving) (s t : Told) → k.honest → k.told ≡ Some s → Keeps is_reading k l → l.told ≡ Some t → tree_at t n ≡ tree_at s n
  kept_tree k l s t honest told keep e =
      let m = keep.holds s honest told in
      let same : m.0 ≡ t = same_Some m.0 t (sym m.1 ∙ e) in
      ap (λ (x : Told). tree_at x n) (sym same) ∙ ap (λ (h : Shelved Dir). option_map (λ (e : Top Dir). e.tree) (h.tops n)) m.2

  others_at : (i : ℕ) (ks ls : List Shelving) (ss : List Told) → AreTold ks ss → Each (Keeps is_reading) ks ls → Each StandsStill ks ls → (Q : Shelving → Shelving → Type 0) (X : Type 0)
      → BySome n (tree_behind i ss [] n) Q X → InStore i ks ls Q → X
  others_at i [] ls ss told keep still Q X by h = absurd h
  others_at i (k ∷ ks) [] ss told keep still Q X by h = absurd h
  others_at i (k ∷ ks) (l ∷ ls) [] told keep still Q X by h = absurd told
  others_at zero (k ∷ ks) (l ∷ ls) (s ∷ ss) told keep still Q X by h =
      by k l s told.0 told.1 still.0 (λ t e. kept_tree k l s t told.0 told.1 keep.0 e ∙ sym (or_none (tree_at s n))) h
  others_at (suc i) (k ∷ ks) (l ∷ ls) (s ∷ ss) told keep still Q X by h = others_at i ks ls ss told.2 keep.1 still.1 Q X by h

  pub stores_at : (i : ℕ) (b a : Shelving) (bs as_ : List Shelving) (s : Told) (ss : List Told) (more : List Addition) → b.honest → b.told ≡ Some s → AreTold bs ss
      → ((t : Told) → a.told ≡ Some t → tree_at t n ≡ or_next (tree_at s n) (tree_in more n)) → Each (Keeps is_reading) bs as_ → Each StandsStill (b ∷ bs) (a ∷ as_)
      → (Q : Shelving → Shelving → Type 0) (X : Type 0) → BySome n (tree_behind i (s ∷ ss) more n) Q X → InStore i (b ∷ bs) (a ∷ as_) Q → X
  stores_at zero b a bs as_ s ss more honest told tolds first keep still Q X by h = by b a s honest told still.0 first h
  stores_at (suc i) b a bs as_ s ss more honest told tolds first keep still Q X by h = others_at i bs as_ ss tolds keep still.1 Q X by h

-- What is due of a tree by what is said of it.

module _ (d : DigestName) (t : Told) (tree : Option Dir) (is : tree_at t (spelling d) ≡ tree) where
  abbrev Is : Dir → Outcome → Type 0
  Is x o = Compares d (digest_of (algorithm_of d) x) o

  entry : (e : Top Dir) → t.shelf.tops (spelling d) ≡ Some e → tree ≡ Some e.tree
  entry e at = sym is ∙ entry_tree t (spelling d) e at

  pub sound_due : IsSound t.shelf d → (o : Outcome) → EndsSound d tree o → o ≡ Done
  sound_due h o k =
      compares_same d (digest_of (algorithm_of d) h.0.tree) o h.3.1 (of_right (spelling d) tree Is o h.0.tree (entry h.0 h.1) (no_fault h.0.tree h.2 h.3.0) k)

  pub condemned_due : (v : Verdict) (outcome : Outcome) → Condemns d v outcome → Verifies d (Ok v) t.shelf → ((o : Outcome) → EndsSound d tree o → o ≡ outcome) × (outcome ≢ Done)
  condemned_due verdict.Sound outcome c h = absurd c
  condemned_due verdict.Missing outcome c h =
      (λ o k. of_none (spelling d) tree Is o (sym is ∙ no_tree t (spelling d) h) k ∙ sym c, λ f. cc (sym c ∙ f))
  condemned_due (verdict.Damaged found) outcome c h =
      let digest = digest_of (algorithm_of d) h.0.tree in (
        λ o k. compares_other d digest o h.3.1.1 (of_right (spelling d) tree Is o h.0.tree (entry h.0 h.1) (no_fault h.0.tree h.2 h.3.0) k)
            ∙ ap (λ (x : DigestName). DamagedTree (spelling d) (spelling x)) (sym h.3.1.0) ∙ sym c,
        λ f. cc (sym c ∙ f),
      )
  condemned_due (verdict.BadName path) outcome c h =
      (λ o k. of_fault (spelling d) tree Is o h.0.tree (BadName path) (entry h.0 h.1) (bad_fault h.0.tree path h.2 h.3) k ∙ sym c, λ f. cc (sym c ∙ f))
  condemned_due (verdict.TooLarge what limit) outcome c h = (
    λ o k. of_fault (spelling d) tree Is o h.0.tree (TreeTooLarge what (limit_of what)) (entry h.0 h.1) (passes_fault h.0.tree what h.2) k ∙ ap (TreeTooLarge what) (sym h.3) ∙ sym c,
    λ f. cc (sym c ∙ f),
  )

-- what is due of it where it isn't found sound
abbrev pub FailsDue : DigestName → Option Dir → Outcome → Type 0
FailsDue d tree outcome = (outcome ≡ Memory) ⊎ (((o : Outcome) → EndsSound d tree o → o ≡ outcome) × (outcome ≢ Done))

pub fails_due : (d : DigestName) (tree : Option Dir) (outcome : Outcome) → BySome (spelling d) tree (λ b a. FailsToVerify d b outcome a) (FailsDue d tree outcome)
fails_due d tree outcome b a s honest told still stands (inl (v, c, calm, held)) =
    let r = held s honest told in
    inr (condemned_due d r.0 tree (stands r.0 r.1) v outcome c r.2)
fails_due d tree outcome b a s honest told still stands (inr (inl (e, f))) = absurd (still f.0)
fails_due d tree outcome b a s honest told still stands (inr (inr (e, calm))) = inl e

pub sound_here : (d : DigestName) (tree : Option Dir) → BySome (spelling d) tree (λ b a. HeldThen b a (λ s. IsSound s d)) ((o : Outcome) → EndsSound d tree o → o ≡ Done)
sound_here d tree b a s honest told still stands held =
    let r = held s honest told in
    sound_due d r.0 tree (stands r.0 r.1) r.2
