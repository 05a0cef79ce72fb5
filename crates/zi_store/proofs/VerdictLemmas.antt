-- What is said of the manifest that was read, said of the tree that is stored.
use Rattle.std.proofs.Common.{◌≡◌, ℕ, List, None, Result, Ok, subst}
use Rattle.zi_tree.specs.Dir.{Dir}
use Rattle.zi_tree.specs.declared.change.TreeLimit.{TreeLimit}
use Rattle.zi_digest.specs.Name.{spelling, algorithm_of, name_of}
use Rattle.zi_digest.specs.declared.Algorithm.{Algorithm}
use Rattle.zi_digest.specs.declared.DigestName.{DigestName}
use Rattle.zi_manifest.specs.Manifest.{as_read, first_bad, digest_of}
use Rattle.zi_shelf.specs.Names.{Name}
use Rattle.zi_shelf.specs.Shelved.{Shelved}
use Rattle.zi_store.specs.ManifestAnswers.{ReadsManifest}
use Rattle.zi_store.specs.Verdicts.{Verifies, Compares}
use Rattle.zi_store.specs.declared.manifests.ManifestRead.{ManifestRead}
use Rattle.zi_store.specs.declared.manifests.ManifestRead.TheVariants as read
use Rattle.zi_store.specs.declared.verdicts.Verdict.{Verdict}
use Rattle.zi_store.specs.declared.verdicts.Verdict.TheVariants as verdict

-- what was read, under the name's spelling and by its algorithm
pub as_named : (name : DigestName) (a : Algorithm) (top : Name) (x y : ManifestRead) (s : Shelved Dir) → top ≡ spelling name → a ≡ algorithm_of name → x ≡ y → ReadsManifest a top (Ok x) s → ReadsManifest (algorithm_of name) (spelling name) (Ok y) s
as_named name a top x y s same by is reads =
    subst (λ (z : ManifestRead). ReadsManifest (algorithm_of name) (spelling name) (Ok z) s) is (subst (λ (b : Algorithm). ReadsManifest b (spelling name) (Ok x) s) by (subst (λ (n : Name). ReadsManifest a n (Ok x) s) same reads))

pub verified : (name : DigestName) (text : List ℕ) (v : Verdict) (s : Shelved Dir) → ReadsManifest (algorithm_of name) (spelling name) (Ok (read.Read text)) s → Compares name (name_of (algorithm_of name) text) v → Verifies name (Ok v) s
verified name text verdict.Sound s (e, top, within, good, is) c = (e, top, within, (good, subst (λ (t : List ℕ). Compares name (name_of (algorithm_of name) t) verdict.Sound) is c))
verified name text (verdict.Damaged other) s (e, top, within, good, is) c = (e, top, within, (good, subst (λ (t : List ℕ). Compares name (name_of (algorithm_of name) t) (verdict.Damaged other)) is c))
verified name text verdict.Missing s r c = absurd c
verified name text (verdict.BadName path) s r c = absurd c
verified name text (verdict.TooLarge what limit) s r c = absurd c
