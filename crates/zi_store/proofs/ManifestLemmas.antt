-- A whole manifest, written.
use Rattle.std.proofs.Common.{◌≡◌, ℕ, List, [], ◌++◌, Option, Some, None, Result, Ok, Err, refl, sym, ◌∙◌, ap, subst}
use Rattle.std.specs.Option.{option_or}
use Rattle.zi_digest.specs.declared.Algorithm.{Algorithm}
use Rattle.zi_tree.specs.Dir.{Dir}
use Rattle.zi_tree.specs.declared.change.TreeLimit.{TreeLimit}
use Rattle.zi_shelf.specs.Names.{Name}
use Rattle.zi_shelf.specs.Told.{Told}
use Rattle.zi_shelf.specs.Shelved.{Top, Shelved}
use Rattle.zi_manifest.specs.Sketch.{sketch, leaf_text, folder_text}
use Rattle.zi_manifest.specs.Manifest.{as_read, leaf_bad, folder_bad, first_bad, manifest}
use Rattle.zi_store.specs.Walking.{met, passed, Passes}
use Rattle.zi_store.specs.Entries.{Walks}
use Rattle.zi_store.specs.ManifestAnswers.{ReadsManifest, WritesWhole, Ends}
use Rattle.zi_store.specs.Written.{Adds}
use Rattle.zi_store.specs.declared.manifests.ManifestRead.{ManifestRead}
use Rattle.zi_store.specs.declared.manifests.ManifestRead.TheVariants as read
use Rattle.zi_store.specs.declared.written.Written.{Written}
use Rattle.zi_store.specs.declared.stop.Stop.{Stop}
use Rattle.zi_store.specs.declared.stop.Stop.TheVariants as stop
use Rattle.zi_store.proofs.TreeLemmas.{Whole}
use Rattle.zi_store.proofs.WalkLemmas.{passed_none, passed_some}

-- the walk came to its end
pub wrote : {h : Type 0} {told : Option Told} {top : Name} {path : List Name} {s : Told} (w : Whole h told top path s) (a : Algorithm) (p : List ℕ) (old new : Written) → p ≡ [] → old.text.items ≡ [] → old.bad ≡ None → old.counts.nodes ≡ 0 → old.counts.bytes ≡ 0
    → Passes old.counts.nodes old.counts.bytes (met 0 (as_read w.entry.tree)) new.counts.nodes new.counts.bytes
    → Adds old new (leaf_text (sketch a (as_read w.entry.tree)) ++ folder_text p (sketch a (as_read w.entry.tree))) (option_or (leaf_bad p (as_read w.entry.tree)) (folder_bad p (as_read w.entry.tree)))
    → WritesWhole a top (Ok new) s.shelf
wrote w a p old new root text bad nodes bytes passes adds =
    let d = as_read w.entry.tree in
    let from = subst (λ n. Passes n old.counts.bytes (met 0 d) new.counts.nodes new.counts.bytes) nodes passes in
    let all = subst (λ b. Passes 0 b (met 0 d) new.counts.nodes new.counts.bytes) bytes from in (
      w.entry,
      w.is_top,
      passed_none new.counts.nodes new.counts.bytes d all,
      adds.first ∙ ap (λ o. option_or o (option_or (leaf_bad p d) (folder_bad p d))) bad ∙ ap (λ q. option_or (leaf_bad q d) (folder_bad q d)) root,
      adds.text ∙ ap (λ t. t ++ (leaf_text (sketch a d) ++ folder_text p (sketch a d))) text ∙ ap (λ q. leaf_text (sketch a d) ++ folder_text q (sketch a d)) root,
    )

-- it stopped
pub wrote_less : {h : Type 0} {told : Option Told} {top : Name} {path : List Name} {s : Told} (w : Whole h told top path s) (a : Algorithm) (n b n' b' : ℕ) (result : Result Written Stop) (passed why : Stop) → result ≡ Err passed → passed ≡ why → n ≡ 0 → b ≡ 0
    → Walks (tt {0}) (met 0 (as_read w.entry.tree)) n b (Err why) n' b' → WritesWhole a top result s.shelf
wrote_less {top = top} {s = s} w a n b n' b' result passed why was same nodes bytes walks =
    let d = as_read w.entry.tree in
    let from = subst (λ k. Walks (tt {0}) (met 0 d) k b (Err why) n' b') nodes walks in
    let all = subst (λ k. Walks (tt {0}) (met 0 d) 0 k (Err why) n' b') bytes from in
    subst (λ z. WritesWhole a top z s.shelf) (sym (was ∙ ap Err same)) (by_case why all)
  where
    by_case : (why : Stop) → Walks (tt {0}) (met 0 (as_read w.entry.tree)) 0 0 (Err why) n' b' → WritesWhole a top (Err why) s.shelf
    by_case stop.Missing x = absurd x
    by_case (stop.TooLarge what) x = (w.entry, w.is_top, passed_some (as_read w.entry.tree) what x)
    by_case (stop.Fault fault) x = tt

-- a listing that stopped
pub not_listed : (a : Algorithm) (top : Name) (s : Told) (e : Stop) → (e ≡ stop.Missing → s.shelf.tops top ≡ None) → ((what : TreeLimit) → e ≡ stop.TooLarge what → ⊥) → WritesWhole a top (Err e) s.shelf
not_listed a top s stop.Missing missing limit = missing refl
not_listed a top s (stop.TooLarge what) missing limit = absurd (limit what refl)
not_listed a top s (stop.Fault fault) missing limit = tt

-- what was written to its end, as it is answered
pub ended : (a : Algorithm) (top : Name) (w : Written) (r : ManifestRead) (s : Shelved Dir) → Ends w r → WritesWhole a top (Ok w) s → ReadsManifest a top (Ok r) s
ended a top w (read.Read text) s (none, is) (e, there, within, bad, manifest_is) = (e, there, within, sym bad ∙ none, is ∙ manifest_is)
ended a top w (read.BadName path) s some (e, there, within, bad, manifest_is) = (e, there, within, sym bad ∙ some)
ended a top w read.Missing s none written = absurd none
ended a top w (read.TooLarge what limit) s none written = absurd none
