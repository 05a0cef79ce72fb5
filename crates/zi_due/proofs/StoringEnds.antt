-- `store list`, `manifest` and `store verify` end as is due.
use Rattle.std.proofs.Common.{◌≡◌, ◌≢◌, ℕ, ◌⊎◌, inl, inr, List, [], refl, sym, ap, subst, ◌∙◌, Option, Some, None, Ok, codes}
use Rattle.zi_text.specs.Count.{Rose}
use Rattle.zi_digest.specs.declared.Algorithm.{Algorithm}
use Rattle.zi_digest.specs.declared.DigestName.{DigestName}
use Rattle.zi_digest.specs.Name.{spelling, algorithm_of}
use Rattle.zi_tree.specs.Dir.{Dir}
use Rattle.zi_tree.specs.Limits.{limit_of}
use Rattle.zi_outside.specs.Views.{Sinking}
use Rattle.zi_manifest.specs.Manifest.{as_read, first_bad, digest_of}
use Rattle.zi_shelf.specs.Names.{Name}
use Rattle.zi_shelf.specs.Shelving.{Shelving}
use Rattle.zi_shelf.specs.Told.{Told, tree_at}
use Rattle.zi_store.specs.Stores.{Each, AreStored}
use Rattle.zi_store.specs.Walking.{passed}
use Rattle.zi_store.specs.declared.manifests.ManifestRead.{ManifestRead}
use Rattle.zi_store.specs.declared.manifests.ManifestRead.TheVariants as read
use Rattle.zi_outcome.specs.declared.outcome.Outcome.{Outcome}
use Rattle.zi_outcome.specs.declared.outcome.Outcome.TheVariants.{Done, MissingTree, DamagedTree, BadName, TreeTooLarge}
use Rattle.zi_outcome.specs.Writing.{Prints}
use Rattle.zi_world.specs.StoreRead.{FailsAt}
use Rattle.zi_world.specs.World.{World, all_stores, StoresCalm}
use Rattle.zi_world.specs.Places.{AreTold}
use Rattle.zi_storing.specs.declared.checked.Checked.{Checked}
use Rattle.zi_storing.specs.declared.checked.Checked.TheVariants as checked
use Rattle.zi_storing.specs.StoreList.{Lists, names_text}
use Rattle.zi_storing.specs.ManifestCommand.{digested, ReadsAs, FirstReads, HasNoManifest, Manifests}
use Rattle.zi_storing.specs.StoreVerify.{ChecksAs, TellsCheck, FirstChecks, VerifiesTree, difference_text}
use Rattle.zi_world.specs.Shelves.{Held}
use Rattle.zi_due.specs.Due.{Due, plainly, Ends}
use Rattle.zi_due.specs.Held.{StandsStill}
use Rattle.zi_due.specs.Trees.{first_tree, tree_fault, OfTree, EndsManifest, Compares, EndsVerify}
use Rattle.zi_due.proofs.PlainLemmas.{stopped_ends, printed_ends, same_ends}
use Rattle.zi_due.proofs.TreesLemmas.{entry_tree, no_tree, Meets, first_told, of_none, of_fault, of_right, passes_fault, bad_fault, no_fault, compares_same, compares_other}

-- no call failed on what a command of the store meets
pub record IsQuietWorld (before after : World) : Type 0 where
  pub stores : Each StandsStill (all_stores before) (all_stores after)
  pub out : ¬ Rose before.out.faults after.out.faults

pub list_ends : (before after : World) (outcome : Outcome) → IsQuietWorld before after → Lists before after outcome → Ends (plainly Done) outcome
list_ends before after outcome quiet l = by l.answer
  where
    by : FailsAt [] before after outcome
        ⊎ (StoresCalm before after × ((names : List DigestName) × AreStored (all_stores before) names × Prints (names_text names) before.out after.out outcome))
        → Ends (plainly Done) outcome
    by (inl f) = stopped_ends [] (all_stores before) (all_stores after) outcome (plainly Done) quiet.stores f.0
    by (inr (calm, (names, stored, prints))) = printed_ends (names_text names) Done Done before.out after.out outcome quiet.out refl prints

-- A tree that is there has this fault, or none.
abbrev HasFault : Option Dir → Outcome → Type 0
HasFault t fault = (tree : Dir) × (t ≡ Some tree) × (tree_fault tree ≡ Some fault)

-- `manifest`

abbrev ReadsSo : ManifestRead → Option Dir → Type 0
ReadsSo read.Missing t = t ≡ None
ReadsSo (read.TooLarge what limit) t = HasFault t (TreeTooLarge what limit)
ReadsSo (read.BadName path) t = HasFault t (BadName path)
ReadsSo (read.Read text) t = (tree : Dir) × (t ≡ Some tree) × (tree_fault tree ≡ None)

reads_meet : (a : Algorithm) (top : Name) → Meets (λ k r. ReadsAs a k top r) read.Missing top ReadsSo
reads_meet a top = record { each = each; there = there; lacks = λ t is. is }
  where
    each : (k : Shelving) (s : Told) (x : ManifestRead) → k.honest → k.told ≡ Some s → ReadsAs a k top x → ReadsSo x (tree_at s top)
    each k s read.Missing h e r = no_tree s top (r.0 s h e)
    each k s (read.TooLarge what limit) h e r =
        let q = r.0 s h e in
        (q.0.tree, entry_tree s top q.0 q.1, passes_fault q.0.tree what q.2 ∙ ap (λ n. Some (TreeTooLarge what n)) (sym q.3))
    each k s (read.BadName path) h e r = let q = r.0 s h e in (q.0.tree, entry_tree s top q.0 q.1, bad_fault q.0.tree path q.2 q.3)
    each k s (read.Read text) h e r = let q = r.0 s h e in (q.0.tree, entry_tree s top q.0 q.1, no_fault q.0.tree q.2 q.3)

    there : (x : ManifestRead) (t : Option Dir) → x ≢ read.Missing → ReadsSo x t → (d : Dir) × (t ≡ Some d)
    there read.Missing t n is = absurd (n refl)
    there (read.TooLarge what limit) t n (tree, is, f) = (tree, is)
    there (read.BadName path) t n (tree, is, f) = (tree, is)
    there (read.Read text) t n (tree, is, f) = (tree, is)

module _ (a : Algorithm) (top : Name) (before after : World) (held : List Told) (told : AreTold (all_stores before) held) (quiet : IsQuietWorld before after) where
  reads_so : (r : ManifestRead) → FirstReads a (all_stores before) top r → ReadsSo r (first_tree top held)
  reads_so r f = first_told (λ k r. ReadsAs a k top r) read.Missing top ReadsSo (reads_meet a top) (all_stores before) held r told f

  none_written : (due outcome : Outcome) → EndsManifest top held due → HasNoManifest a top before after outcome → outcome ≡ due
  none_written due (MissingTree name) d (e, f, w) = ap MissingTree e ∙ sym (of_none top (first_tree top held) (λ tree o. o ≡ Done) due (reads_so read.Missing f) d)
  none_written due (TreeTooLarge what limit) d (f, w) =
      let q = reads_so (read.TooLarge what limit) f in
      sym (of_fault top (first_tree top held) (λ tree o. o ≡ Done) due q.0 (TreeTooLarge what limit) q.1 q.2 d)
  none_written due (BadName path) d (f, w) =
      let q = reads_so (read.BadName path) f in
      sym (of_fault top (first_tree top held) (λ tree o. o ≡ Done) due q.0 (BadName path) q.1 q.2 d)
  none_written due other d h = absurd h

  pub manifest_ends : (due outcome : Outcome) → EndsManifest top held due → Manifests a top before after outcome → Ends (plainly due) outcome
  manifest_ends due outcome d m = by m.answer
    where
      by : FailsAt top before after outcome
          ⊎ (StoresCalm before after
          × (HasNoManifest a top before after outcome ⊎ ((text : List ℕ) × FirstReads a (all_stores before) top (read.Read text) × Prints (digested a text) before.out after.out outcome)))
          → Ends (plainly due) outcome
      by (inl f) = stopped_ends top (all_stores before) (all_stores after) outcome (plainly due) quiet.stores f.0
      by (inr (calm, inl h)) = same_ends outcome due (none_written due outcome d h)
      by (inr (calm, inr (text, f, p))) =
          let q = reads_so (read.Read text) f in
          printed_ends (digested a text) Done due before.out after.out outcome quiet.out (of_right top (first_tree top held) (λ tree o. o ≡ Done) due q.0 q.1 q.2 d) p

-- `store verify`

abbrev ChecksSo : DigestName → Checked → Option Dir → Type 0
ChecksSo name checked.Missing t = t ≡ None
ChecksSo name (checked.TooLarge what limit) t = HasFault t (TreeTooLarge what limit)
ChecksSo name (checked.BadName path) t = HasFault t (BadName path)
ChecksSo name checked.Sound t = (tree : Dir) × (t ≡ Some tree) × (tree_fault tree ≡ None) × (digest_of (algorithm_of name) tree ≡ name)
ChecksSo name (checked.Damaged found difference) t =
    (tree : Dir) × (t ≡ Some tree) × (tree_fault tree ≡ None) × (found ≡ digest_of (algorithm_of name) tree) × (digest_of (algorithm_of name) tree ≢ name)

checks_meet : (name : DigestName) → Meets (λ k c. Held k (λ s. ChecksAs name c s)) checked.Missing (spelling name) (ChecksSo name)
checks_meet name = record { each = each; there = there; lacks = λ t is. is }
  where
    each : (k : Shelving) (s : Told) (x : Checked) → k.honest → k.told ≡ Some s → Held k (λ s. ChecksAs name x s) → ChecksSo name x (tree_at s (spelling name))
    each k s checked.Missing h e c = no_tree s (spelling name) (c s h e)
    each k s (checked.TooLarge what limit) h e c =
        let q = c s h e in
        (q.0.tree, entry_tree s (spelling name) q.0 q.1, passes_fault q.0.tree what q.2 ∙ ap (λ n. Some (TreeTooLarge what n)) (sym q.3))
    each k s (checked.BadName path) h e c = let q = c s h e in (q.0.tree, entry_tree s (spelling name) q.0 q.1, bad_fault q.0.tree path q.2 q.3)
    each k s checked.Sound h e c = let q = c s h e in (q.0.tree, entry_tree s (spelling name) q.0 q.1, no_fault q.0.tree q.2 q.3.0, q.3.1)
    each k s (checked.Damaged found difference) h e c =
        let q = (c s h e).0 in
        let judged = q.3.1 in
        (q.0.tree, entry_tree s (spelling name) q.0 q.1, no_fault q.0.tree q.2 q.3.0, judged.0, judged.1)

    there : (x : Checked) (t : Option Dir) → x ≢ checked.Missing → ChecksSo name x t → (d : Dir) × (t ≡ Some d)
    there checked.Missing t n is = absurd (n refl)
    there (checked.TooLarge what limit) t n (tree, is, f) = (tree, is)
    there (checked.BadName path) t n (tree, is, f) = (tree, is)
    there checked.Sound t n (tree, is, f, same) = (tree, is)
    there (checked.Damaged found difference) t n (tree, is, f, same, other) = (tree, is)

module _ (name : DigestName) (before after : World) (held : List Told) (told : AreTold (all_stores before) held) (quiet : IsQuietWorld before after) where
  abbrev Is : Dir → Outcome → Type 0
  Is tree o = Compares name (digest_of (algorithm_of name) tree) o

  checks_so : (c : Checked) → FirstChecks name (all_stores before) c → ChecksSo name c (first_tree (spelling name) held)
  checks_so c f = first_told (λ k c. Held k (λ s. ChecksAs name c s)) checked.Missing (spelling name) (ChecksSo name) (checks_meet name) (all_stores before) held c told f

  told_ends : (due outcome : Outcome) (c : Checked) → EndsVerify name held due → FirstChecks name (all_stores before) c → TellsCheck name c before.out after.out outcome → Ends (plainly due) outcome
  told_ends due outcome checked.Missing d f t = same_ends outcome due (t.0 ∙ sym (of_none (spelling name) (first_tree (spelling name) held) Is due (checks_so checked.Missing f) d))
  told_ends due outcome (checked.TooLarge what limit) d f t =
      let q = checks_so (checked.TooLarge what limit) f in
      same_ends outcome due (t.0 ∙ sym (of_fault (spelling name) (first_tree (spelling name) held) Is due q.0 (TreeTooLarge what limit) q.1 q.2 d))
  told_ends due outcome (checked.BadName path) d f t =
      let q = checks_so (checked.BadName path) f in
      same_ends outcome due (t.0 ∙ sym (of_fault (spelling name) (first_tree (spelling name) held) Is due q.0 (BadName path) q.1 q.2 d))
  told_ends due outcome checked.Sound d f t =
      let q = checks_so checked.Sound f in
      let right : Is q.0 due = of_right (spelling name) (first_tree (spelling name) held) Is due q.0 q.1 q.2 d in
      printed_ends (codes "sound\n") Done due before.out after.out outcome quiet.out (compares_same name (digest_of (algorithm_of name) q.0) due q.3 right) t
  told_ends due outcome (checked.Damaged found difference) d f t =
      let q = checks_so (checked.Damaged found difference) f in
      let right : Is q.0 due = of_right (spelling name) (first_tree (spelling name) held) Is due q.0 q.1 q.2 d in
      let e : due ≡ DamagedTree (spelling name) (spelling (digest_of (algorithm_of name) q.0)) = compares_other name (digest_of (algorithm_of name) q.0) due q.4 right in
      printed_ends (difference_text difference) (DamagedTree (spelling name) (spelling found)) due before.out after.out outcome quiet.out
      (e ∙ ap (λ (n : DigestName). DamagedTree (spelling name) (spelling n)) (sym q.3)) t

  pub verify_ends : (due outcome : Outcome) → EndsVerify name held due → VerifiesTree name before after outcome → Ends (plainly due) outcome
  verify_ends due outcome d v = by v.answer
    where
      by : FailsAt (spelling name) before after outcome
          ⊎ (StoresCalm before after × ((c : Checked) × FirstChecks name (all_stores before) c × TellsCheck name c before.out after.out outcome)) → Ends (plainly due) outcome
      by (inl f) = stopped_ends (spelling name) (all_stores before) (all_stores after) outcome (plainly due) quiet.stores f.0
      by (inr (calm, (c, f, t))) = told_ends due outcome c d f t
