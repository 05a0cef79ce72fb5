-- What the commands that read the store say, put together.
use Rattle.std.proofs.Common.{◌≡◌, ℕ, Bool, true, false, List, [], ◌∷◌, length, refl, sym, ap, subst, ◌∙◌, Option, Some, None, Result, Ok, Err, arith}
use Rattle.std.specs.Prelude.{ℤ, ◌≤◌, ◌<◌, bytes_eq, MatchOption, IfOk}
use Rattle.std.proofs.lemmas.Option.{same_Some}
use Rattle.zi_tree.specs.Dir.{Dir, Nothing, AFile, ALink, AFolder}
use Rattle.zi_digest.specs.declared.Algorithm.{Algorithm}
use Rattle.zi_digest.specs.declared.DigestName.{DigestName}
use Rattle.zi_manifest.specs.Sketch.{sketch, text_of}
use Rattle.zi_manifest.specs.Manifest.{own_name, as_read, first_bad}
use Rattle.zi_manifest.specs.Listing.{IsManifest}
use Rattle.zi_shelf.specs.Names.{Name}
use Rattle.zi_shelf.specs.Shelved.{Top, Shelved}
use Rattle.zi_shelf.specs.Shelving.{Shelving}
use Rattle.zi_shelf.specs.Told.{Told}
use Rattle.zi_shelf.specs.declared.shelf.ShelfFault.{ShelfFault}
use Rattle.zi_shelf.specs.declared.call.CallKind.{CallKind}
use Rattle.zi_tree.specs.declared.change.TreeLimit.{TreeLimit}
use Rattle.zi_store.specs.declared.files.FileRead.{FileRead}
use Rattle.zi_store.specs.declared.files.FileRead.TheVariants as file
use Rattle.zi_store.specs.declared.manifests.ManifestRead.{ManifestRead}
use Rattle.zi_store.specs.declared.manifests.ManifestRead.TheVariants as read
use Rattle.zi_store.specs.declared.verdicts.Verdict.{Verdict}
use Rattle.zi_store.specs.declared.verdicts.Verdict.TheVariants as verdict
use Rattle.zi_store.specs.Keeping.{Keeps}
use Rattle.zi_store.specs.ManifestAnswers.{ReadsManifest, IsOfSomeTree}
use Rattle.zi_store.specs.FileAnswers.{file_at, ReadsFile}
use Rattle.zi_store.specs.Walking.{passed}
use Rattle.zi_store.specs.Verdicts.{Verifies}
use Rattle.zi_storing.specs.ManifestCommand.{FirstReads}
use Rattle.zi_storing.specs.declared.difference.Difference.{Difference}
use Rattle.zi_storing.specs.declared.difference.Difference.TheVariants.{NoManifest, Agrees, FirstIn}
use Rattle.zi_world.specs.Shelves.{Held}
use Rattle.zi_storing.specs.StoreVerify.{manifest_limit, HasOwnManifest, HasDigest, HasComputed, Compares, DiffersBy}

some_none : {X : Type 0} {x : X} → Some x ≡ None → ⊥
some_none e = cc

file_twice : (n b : List ℕ) (e : Bool) (t : ℤ) (rest : Dir) (test : Bool) → bytes_eq n own_name ≡ test → as_read (as_read rest) ≡ as_read rest
    → as_read (as_read (AFile n b e t rest)) ≡ as_read (AFile n b e t rest)
file_twice n b e t rest true test h = rw test h
file_twice n b e t rest false test h = rw test (rw test (ap (λ d. AFile n b e t d) h))

-- what was read is read as it is
pub as_read_twice : (d : Dir) → as_read (as_read d) ≡ as_read d
as_read_twice Nothing = refl
as_read_twice (AFile n b e t rest) = file_twice n b e t rest (bytes_eq n own_name) refl (as_read_twice rest)
as_read_twice (ALink n t rest) = ap (λ d. ALink n t d) (as_read_twice rest)
as_read_twice (AFolder n inside rest) = ap (λ d. AFolder n inside d) (as_read_twice rest)

-- what was read under another spelling
pub manifest_at : (a : Algorithm) (top spelled : Name) (s : Shelved Dir) (r : Result ManifestRead ShelfFault) (x y : ManifestRead) → r ≡ Ok x → x ≡ y → spelled ≡ top → ReadsManifest a spelled r s → ReadsManifest a top (Ok y) s
manifest_at a top spelled s r x y at_r at_x at_top reads =
    subst (λ n. ReadsManifest a n (Ok y) s) at_top (subst (λ z. ReadsManifest a spelled (Ok z) s) at_x (subst (λ z. ReadsManifest a spelled z s) at_r reads))

pub some_tree_at : (a : Algorithm) (r : Result ManifestRead ShelfFault) (x y : ManifestRead) → r ≡ Ok x → x ≡ y → IsOfSomeTree a r → IsOfSomeTree a (Ok y)
some_tree_at a r x y at_r at_x is = subst (λ z. IsOfSomeTree a (Ok z)) at_x (subst (IsOfSomeTree a) at_r is)

-- what the first store's tree reads as, under this name
pub first_at : (a : Algorithm) (top spelled : Name) (stores : List Shelving) (x y : ManifestRead) → x ≡ y → spelled ≡ top → FirstReads a stores spelled x → FirstReads a stores top y
first_at a top spelled stores x y at_x at_top reads = subst (λ n. FirstReads a stores n y) at_top (subst (λ z. FirstReads a stores spelled z) at_x reads)

-- `store verify`

-- the file that was read is the manifest that stands there, if it is one
pub own_is : (a : Algorithm) (top : Name) (s : Shelved Dir) (bytes : List ℕ) (own : Option (List ℕ)) → file_at top (own_name ∷ []) s ≡ Some bytes → length bytes ≤ manifest_limit
    → MatchOption own (IsManifest a bytes → ⊥) (λ kept. (kept ≡ bytes) × IsManifest a bytes)
    → MatchOption own ((b : List ℕ) → HasOwnManifest a top s b → ⊥) (λ b. HasOwnManifest a top s b)
own_is a top s bytes None there few m = λ b h. m (subst (λ x. IsManifest a x) (same_Some _ _ (sym h.there ∙ there)) h.good)
own_is a top s bytes (Some kept) there few (e, good) = subst (λ b. HasOwnManifest a top s b) (sym e) (record { there = there; few = few; good = good })

abbrev IsOwn : Algorithm → Name → Shelved Dir → Option (List ℕ) → Type 0
IsOwn a top s own = MatchOption own ((b : List ℕ) → HasOwnManifest a top s b → ⊥) (λ b. HasOwnManifest a top s b)

if_ok : {X E : Type 0} (P Q : X → Type 0) (r : Result X E) → ((x : X) → P x → Q x) → IfOk r P → IfOk r Q
if_ok P Q (Ok x) f p = f x p
if_ok P Q (Err e) f p = p

pub own_read : (a : Algorithm) (top : Name) (path : List Name) (s : Shelved Dir) (bytes : List ℕ) (answer : Result FileRead ShelfFault) → path ≡ own_name ∷ [] → answer ≡ Ok (file.Read bytes)
    → ReadsFile top path manifest_limit answer s → (r : Result (Option (List ℕ)) ShelfFault) → IfOk r (λ own. MatchOption own (IsManifest a bytes → ⊥) (λ kept. (kept ≡ bytes) × IsManifest a bytes))
    → IfOk r (IsOwn a top s)
own_read a top path s bytes answer at_path at_answer reads r m =
    let f : ReadsFile top (own_name ∷ []) manifest_limit (Ok (file.Read bytes)) s = subst (λ x. ReadsFile top x manifest_limit (Ok (file.Read bytes)) s) at_path (subst (λ x. ReadsFile top path manifest_limit x s) at_answer reads) in
    if_ok (λ own. MatchOption own (IsManifest a bytes → ⊥) (λ kept. (kept ≡ bytes) × IsManifest a bytes)) (IsOwn a top s) r (λ own x. own_is a top s bytes own f.0 f.1 x) m

pub own_missing : (a : Algorithm) (top : Name) (path : List Name) (s : Shelved Dir) (answer : Result FileRead ShelfFault) → path ≡ own_name ∷ [] → answer ≡ Ok file.Missing
    → ReadsFile top path manifest_limit answer s → (b : List ℕ) → HasOwnManifest a top s b → ⊥
own_missing a top path s answer at_path at_answer reads b h =
    let f : file_at top (own_name ∷ []) s ≡ None = subst (λ x. ReadsFile top x manifest_limit (Ok file.Missing) s) at_path (subst (λ x. ReadsFile top path manifest_limit x s) at_answer reads) in
    some_none (sym h.there ∙ f)

pub own_long : (a : Algorithm) (top : Name) (path : List Name) (s : Shelved Dir) (answer : Result FileRead ShelfFault) → path ≡ own_name ∷ [] → answer ≡ Ok file.TooLong
    → ReadsFile top path manifest_limit answer s → (b : List ℕ) → HasOwnManifest a top s b → ⊥
own_long a top path s answer at_path at_answer reads b h =
    let f : ReadsFile top (own_name ∷ []) manifest_limit (Ok file.TooLong) s = subst (λ x. ReadsFile top x manifest_limit (Ok file.TooLong) s) at_path (subst (λ x. ReadsFile top path manifest_limit x s) at_answer reads) in
    too_long b f.0 (same_Some _ _ (sym h.there ∙ f.1)) h.few f.2
  where
    too_long : (b own : List ℕ) → b ≡ own → length b ≤ manifest_limit → manifest_limit < length own → ⊥
    too_long b own e few many = absurd (omega (arith, few, subst (λ x. manifest_limit < length x) (sym e) many))

pub own_some : (a : Algorithm) (top : Name) (s : Shelved Dir) (own : List ℕ) (r : Result (Option (List ℕ)) ShelfFault) → r ≡ Ok (Some own) → IfOk r (IsOwn a top s) → HasOwnManifest a top s own
own_some a top s own r e is = subst (λ x. IfOk x (IsOwn a top s)) e is

pub own_none : (a : Algorithm) (top : Name) (s : Shelved Dir) (r : Result (Option (List ℕ)) ShelfFault) → r ≡ Ok None → IfOk r (IsOwn a top s) → DiffersBy a top NoManifest s
own_none a top s r e is = subst (λ x. IfOk x (IsOwn a top s)) e is

-- the manifest that was read is the computed one
entry_is : (top : Name) (s : Shelved Dir) (e : Top Dir) → s.tops top ≡ Some e → (h : HasDigest top s) → e ≡ h.entry
entry_is top s e there h = same_Some _ _ (sym there ∙ h.there)

pub computed_read : (a : Algorithm) (top : Name) (s : Shelved Dir) (text : List ℕ) → ReadsManifest a top (Ok (read.Read text)) s → HasComputed a top s text
computed_read a top s text (e, there, within, good, is) = record { entry = e; there = there; is = is ∙ ap (λ d. text_of (sketch a d)) (sym (as_read_twice e.tree)) }

-- what has a digest has a manifest
abbrev IsNoText : ManifestRead → Type 0
IsNoText (read.Read text) = ⊥
IsNoText other = Unit {0}

not_computed : (a : Algorithm) (top : Name) (s : Shelved Dir) (y : ManifestRead) → ReadsManifest a top (Ok y) s → HasDigest top s → IsNoText y → ⊥
not_computed a top s (read.Read text) reads h other = other
not_computed a top s read.Missing none h other = some_none (sym h.there ∙ none)
not_computed a top s (read.BadName path) (e, there, within, bad) h other =
    some_none (sym bad ∙ ap (λ (x : Top Dir). first_bad (as_read x.tree)) (entry_is top s e there h) ∙ h.good)
not_computed a top s (read.TooLarge what limit) (e, there, past, is) h other =
    some_none (sym past ∙ ap (λ (x : Top Dir). passed (as_read x.tree)) (entry_is top s e there h) ∙ h.few)

pub computed_not : (a : Algorithm) (top : Name) (s : Shelved Dir) (r : Result ManifestRead ShelfFault) (x y : ManifestRead) → r ≡ Ok x → x ≡ y → IsNoText y → ReadsManifest a top r s → HasDigest top s → ⊥
computed_not a top s r x y at_r at_x other reads h = not_computed a top s y (manifest_at a top top s r x y at_r at_x refl reads) h other

pub against_text : (a : Algorithm) (top : Name) (s : Shelved Dir) (own text : List ℕ) (d : Difference) (r : Result (Option (List ℕ)) ShelfFault) → r ≡ Ok (Some text)
    → IfOk r (λ text. MatchOption text ⊥ (λ text. HasComputed a top s text)) → HasOwnManifest a top s own → Compares own text d → DiffersBy a top d s
against_text a top s own text d r e is own_is c = differs d c
  where
    has : HasComputed a top s text
    has = subst (λ x. IfOk x (λ text. MatchOption text ⊥ (λ text. HasComputed a top s text))) e is

    differs : (d : Difference) → Compares own text d → DiffersBy a top d s
    differs NoManifest c = absurd c
    differs Agrees c = (own, text, own_is, has, c)
    differs (FirstIn n) c = (own, text, own_is, has, c)

pub against_none : {P : Type 0} (a : Algorithm) (top : Name) (s : Shelved Dir) {r : Result (Option (List ℕ)) ShelfFault} → r ≡ Ok None
    → IfOk r (λ text. MatchOption text ⊥ (λ text. HasComputed a top s text)) → P
against_none a top s e is = absurd (subst (λ x. IfOk x (λ text. MatchOption text ⊥ (λ text. HasComputed a top s text))) e is)

-- what a later call that reads answers of the same shelf
pub held_later : (kinds : CallKind → Bool) (before after : Shelving) (P Q : Shelved Dir → Type 0) → Keeps kinds before after → Held after (λ s. P s → Q s)
    → (s : Told) → before.honest → before.told ≡ Some s → P s.shelf → Q s.shelf
held_later kinds before after P Q keeps f s h e p =
    let m = keeps.holds s h e in
    subst Q m.2 (f m.0 (keeps.stays.honest h) m.1 (subst P (sym m.2) p))

-- the same of two facts
pub two_later : (kinds : CallKind → Bool) (before after : Shelving) (P Q R : Shelved Dir → Type 0) → Keeps kinds before after → Held after (λ s. P s → Q s → R s)
    → (s : Told) → before.honest → before.told ≡ Some s → P s.shelf → Q s.shelf → R s.shelf
two_later kinds before after P Q R keeps f s h e p q = held_later kinds before after (λ x. P x × Q x) R keeps (λ t g i b. f t g i b.0 b.1) s h e (p, q)

pub damaged_told : (name found : DigestName) (s : Shelved Dir) (r : Result Verdict ShelfFault) → r ≡ Ok (verdict.Damaged found) → Verifies name r s → Verifies name (Ok (verdict.Damaged found)) s
damaged_told name found s r e v = subst (λ x. Verifies name x s) e v

pub sound_told : (name : DigestName) (s : Shelved Dir) (r : Result Verdict ShelfFault) → r ≡ Ok verdict.Sound → Verifies name r s → Verifies name (Ok verdict.Sound) s
sound_told name s r e v = subst (λ x. Verifies name x s) e v

pub missing_told : (name : DigestName) (s : Shelved Dir) (r : Result Verdict ShelfFault) → r ≡ Ok verdict.Missing → Verifies name r s → Verifies name (Ok verdict.Missing) s
missing_told name s r e v = subst (λ x. Verifies name x s) e v

pub bad_told : (name : DigestName) (path : List ℕ) (s : Shelved Dir) (r : Result Verdict ShelfFault) → r ≡ Ok (verdict.BadName path) → Verifies name r s → Verifies name (Ok (verdict.BadName path)) s
bad_told name path s r e v = subst (λ x. Verifies name x s) e v

pub large_told : (name : DigestName) (what : TreeLimit) (limit : ℕ) (s : Shelved Dir) (r : Result Verdict ShelfFault) → r ≡ Ok (verdict.TooLarge what limit) → Verifies name r s
    → Verifies name (Ok (verdict.TooLarge what limit)) s
large_told name what limit s r e v = subst (λ x. Verifies name x s) e v
