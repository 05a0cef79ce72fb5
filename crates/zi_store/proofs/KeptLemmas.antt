-- The names that are kept.
use Rattle.std.proofs.Common.{◌≡◌, ◌⊎◌, inl, inr, true, false, Bool, cond, [], Option, Some, Result, Ok, Err, refl, sym, ◌∙◌, ap, bytes_eq}
use Rattle.std.specs.Ordering.{nat_cmp}
use Rattle.std.specs.Cmp.Lexicographic.{slice_cmp}
use Rattle.std.specs.BTreeMap as tree
use Rattle.std.specs.BTreeMap.{BTreeMap}
use Rattle.std.specs.Map.{lookup}
use Rattle.std.proofs.lemmas.Slice.Eq.{bytes_eq-Decides}
use Rattle.std.proofs.lemmas.Map.Text.{is_eq-slice_cmp}
use Rattle.zi_digest.specs.Name.{spelling, IsDigest}
use Rattle.zi_digest.specs.declared.DigestName.{DigestName}
use Rattle.zi_tree.specs.Dir.{Dir}
use Rattle.zi_shelf.specs.Names.{Name}
use Rattle.zi_shelf.specs.Shelved.{Top, Shelved}
use Rattle.zi_store.specs.Kept.{HoldsSound}
use Rattle.zi_store.specs.KeptNames.{IsKept}
use Rattle.zi_store.specs.Verdicts.{Verifies}
use Rattle.zi_store.specs.declared.checked.Checked.{Checked}
use Rattle.zi_store.specs.declared.verdicts.Verdict.TheVariants as verdict

-- the verdict is that of such a tree
pub is_sound : (name : DigestName) (s : Shelved Dir) → Verifies name (Ok verdict.Sound) s → HoldsSound name s
is_sound name s (e, there, within, (good, digest)) = record { entry = e; is_there = there; within = within; good = good; digest = digest }

pub says_sound : (name : DigestName) (s : Shelved Dir) → HoldsSound name s → Verifies name (Ok verdict.Sound) s
says_sound name s h = (h.entry, h.is_there, h.within, (h.good, h.digest))

-- what is kept under its spelling
abbrev Under : BTreeMap Name DigestName → DigestName → Type 0
Under m n = tree.get (slice_cmp nat_cmp) m (spelling n) ≡ Some n

-- one name more
at_key : (old new : BTreeMap Name DigestName) (key : Name) (name : DigestName) → tree.UpdatesBy (slice_cmp nat_cmp) (slice_cmp nat_cmp key) old new (Some name) → (n : DigestName)
    → tree.get (slice_cmp nat_cmp) new (spelling n) ≡ cond (bytes_eq key (spelling n)) (Some name) (tree.get (slice_cmp nat_cmp) old (spelling n))
at_key old new key name u n = u.0 (spelling n) ∙ ap (λ t. cond t (Some name) (tree.get (slice_cmp nat_cmp) old (spelling n))) (is_eq-slice_cmp key (spelling n))

pub only_more : (old new : BTreeMap Name DigestName) (key : Name) (name : DigestName) → tree.UpdatesBy (slice_cmp nat_cmp) (slice_cmp nat_cmp key) old new (Some name) → (n : DigestName) → Under new n → Under old n ⊎ (n ≡ name)
only_more old new key name u n h = by_test (bytes_eq key (spelling n)) (sym (at_key old new key name u n) ∙ h)
  where
    by_test : (t : Bool) → cond t (Some name) (tree.get (slice_cmp nat_cmp) old (spelling n)) ≡ Some n → Under old n ⊎ (n ≡ name)
    by_test true e = inr (let same : name ≡ n = cc e in sym same)
    by_test false e = inl e

pub still_more : ((a b : DigestName) → IsDigest a → IsDigest b → spelling a ≡ spelling b → a ≡ b) → (old new : BTreeMap Name DigestName) (key : Name) (name : DigestName) → key ≡ spelling name → IsDigest name
    → tree.UpdatesBy (slice_cmp nat_cmp) (slice_cmp nat_cmp key) old new (Some name) → (n : DigestName) → IsDigest n → Under old n → Under new n
still_more one old new key name is digest u n d h = by_test (bytes_eq key (spelling n)) refl (at_key old new key name u n)
  where
    by_test : (t : Bool) → bytes_eq key (spelling n) ≡ t → tree.get (slice_cmp nat_cmp) new (spelling n) ≡ cond (bytes_eq key (spelling n)) (Some name) (tree.get (slice_cmp nat_cmp) old (spelling n)) → Under new n
    by_test true e k =
        let same : n ≡ name = one n name d digest (sym ((bytes_eq-Decides key (spelling n)).0 e) ∙ is) in
        k ∙ ap (λ t. cond t (Some name) (tree.get (slice_cmp nat_cmp) old (spelling n))) e ∙ ap Some (sym same)
    by_test false e k = k ∙ ap (λ t. cond t (Some name) (tree.get (slice_cmp nat_cmp) old (spelling n))) e ∙ h

pub there_now : (old new : BTreeMap Name DigestName) (key : Name) (name : DigestName) → key ≡ spelling name → tree.UpdatesBy (slice_cmp nat_cmp) (slice_cmp nat_cmp key) old new (Some name) → Under new name
there_now old new key name is u = ap (λ k. tree.get_by (slice_cmp nat_cmp k) new) (sym is) ∙ u.1

-- no name more
pub same_entries : (old new : BTreeMap Name DigestName) → new.entries ≡ old.entries → (n : DigestName) → Under new n → Under old n
same_entries old new e n h = ap (λ es. lookup (tree.is_at (slice_cmp nat_cmp (spelling n))) es) (sym e) ∙ h

-- the name stands there
pub is_under : (m : BTreeMap Name DigestName) (name : DigestName) (key : Name) (found : Option DigestName) → key ≡ spelling name → found ≡ tree.get_by (slice_cmp nat_cmp key) m → found ≡ Some name → Under m name
is_under m name key found is here there = ap (λ k. tree.get_by (slice_cmp nat_cmp k) m) (sym is) ∙ sym here ∙ there

pub found_under : (m : BTreeMap Name DigestName) (name : DigestName) (key : Name) (found : Option DigestName) → key ≡ spelling name → found ≡ tree.get_by (slice_cmp nat_cmp key) m → Under m name → found ≡ Some name
found_under m name key found is here there = here ∙ ap (λ k. tree.get_by (slice_cmp nat_cmp k) m) is ∙ there

-- an empty map keeps none
pub nothing_kept : (m : BTreeMap Name DigestName) → m.entries ≡ [] → (n : DigestName) → Under m n → ⊥
nothing_kept m e n kept = let none = ap (λ es. lookup (tree.is_at (slice_cmp nat_cmp (spelling n))) es) e in cc (none, kept)

-- a name that was kept before, or is kept now
pub or_told : {P Q R : Type 0} → P ⊎ Q → R → P ⊎ (Q × R)
or_told (inl p) r = inl p
or_told (inr q) r = inr (q, r)

pub kept_now : {P Q R S : Type 0} → P ⊎ (Q × R) → S → P ⊎ (Q × S)
kept_now (inl p) s = inl p
kept_now (inr q) s = inr (q.0, s)
