-- The commands on the store never come to Usage.
use Rattle.std.proofs.Common.{◌≢◌, ℕ, inl, inr, List, sym}
use Rattle.zi_digest.specs.declared.Algorithm.{Algorithm}
use Rattle.zi_digest.specs.declared.DigestName.{DigestName}
use Rattle.zi_outside.specs.Views.{Sinking}
use Rattle.zi_shelf.specs.Names.{Name}
use Rattle.zi_words.specs.Forms.{Word}
use Rattle.zi_outcome.specs.declared.outcome.Outcome.{Outcome}
use Rattle.zi_outcome.specs.declared.outcome.Outcome.TheVariants.{Done, Usage}
use Rattle.zi_outcome.specs.Writing.{PrintsThen, Prints}
use Rattle.zi_world.specs.World.{World}
use Rattle.zi_storing.specs.declared.checked.Checked.{Checked}
use Rattle.zi_storing.specs.declared.checked.Checked.TheVariants as checked
use Rattle.zi_storing.specs.StoreList.{Lists}
use Rattle.zi_storing.specs.ManifestCommand.{Manifests}
use Rattle.zi_storing.specs.StoreVerify.{TellsCheck, VerifiesTree}
use Rattle.zi_storing.specs.Adding.{AddsFiles}
use Rattle.zi_storing.specs.StorePurge.{PurgesFiles}

prints_then : (text : List ℕ) (ending : Outcome) (old new : Sinking) (index : ℕ) → ending ≢ Usage index → PrintsThen text ending old new (Usage index) → ⊥
prints_then text ending old new index ne (inl (w, e)) = ne (sym e)
prints_then text ending old new index ne (inr (inl (w, e))) = (cc e)
prints_then text ending old new index ne (inr (inr (w, e))) = (cc e)

-- what is printed
pub prints_right : (text : List ℕ) (old new : Sinking) (index : ℕ) → Prints text old new (Usage index) → ⊥
prints_right text old new index p = prints_then text Done old new index (λ e. (cc e)) p

tells_right : (name : DigestName) (c : Checked) (old new : Sinking) (index : ℕ) → TellsCheck name c old new (Usage index) → ⊥
tells_right name checked.Sound old new index t = prints_right _ old new index t
tells_right name (checked.Damaged found difference) old new index t = prints_then _ _ old new index (λ e. (cc e)) t
tells_right name checked.Missing old new index (e, w) = (cc e)
tells_right name (checked.BadName path) old new index (e, w) = (cc e)
tells_right name (checked.TooLarge what limit) old new index (e, w) = (cc e)

pub lists_right : (before after : World) (index : ℕ) → Lists before after (Usage index) → ⊥
lists_right before after index d = elim d.answer [ inl f ↦ f.0 | inr s ↦ prints_right _ before.out after.out index s.1.2 ]

pub manifest_right : (algorithm : Algorithm) (name : Name) (before after : World) (index : ℕ) → Manifests algorithm name before after (Usage index) → ⊥
manifest_right algorithm name before after index d = elim d.answer [
  | inl f ↦ f.0
  | inr s ↦ elim s.1 [
    | inl none ↦ none
    | inr t ↦ prints_right _ before.out after.out index t.2
  ]
]

pub verify_right : (name : DigestName) (before after : World) (index : ℕ) → VerifiesTree name before after (Usage index) → ⊥
verify_right name before after index d = elim d.answer [ inl f ↦ f.0 | inr s ↦ tells_right name s.1.0 before.out after.out index s.1.2 ]

pub add_right : (name : DigestName) (files : List Word) (before after : World) (index : ℕ) → AddsFiles name files before after (Usage index) → ⊥
add_right name files before after index d = d.comes

pub purge_right : (files : List Word) (before after : World) (index : ℕ) → PurgesFiles files before after (Usage index) → ⊥
purge_right files before after index d = elim d.comes [ inl r ↦ r.why | inr r ↦ r.purges ]
