-- What is due of a tree that is to be added, by what has come of it.
use Rattle.std.proofs.Common.{◌≡◌, ◌≢◌, ℕ, List, Option, Some, None, refl, sym, ap, ◌∙◌}
use Rattle.zi_digest.specs.declared.DigestName.{DigestName}
use Rattle.zi_digest.specs.Name.{spelling, algorithm_of}
use Rattle.zi_tree.specs.Dir.{Dir}
use Rattle.zi_manifest.specs.Manifest.{first_bad, digest_of}
use Rattle.zi_shelf.specs.Told.{Told}
use Rattle.zi_session.specs.Phases.{tmp_name}
use Rattle.zi_adding.specs.Trying.{IsRight}
use Rattle.zi_outcome.specs.declared.outcome.Outcome.{Outcome}
use Rattle.zi_outcome.specs.declared.outcome.Outcome.TheVariants.{Done, BadName, Mismatch, Crowded}
use Rattle.zi_due.specs.Adding.{AreTaken, IsFree, EndsTree}
use Rattle.zi_due.proofs.CrowdedLemmas.{none_some}

-- one bad name is the first
some_same : (p q : List ℕ) → Some p ≡ Some q → p ≡ q
some_same p q e = cc

none_or : {A : Type 0} (o : Option A) (x : A) → o ≡ None → o ≡ Some x → ⊥
none_or o x e f = absurd (cc (e, f))

-- none is free where all are taken
pub taken_not_free : (s : Told) → AreTaken s → ¬ IsFree s
taken_not_free s taken f = none_some (s.shelf.tops (tmp_name f.0)) f.2 (taken f.0 f.1)

pub tree_bad : (name : DigestName) (s : Told) (tree : Dir) (path : List ℕ) (due : Outcome) → first_bad tree ≡ Some path → EndsTree name s tree due → BadName path ≡ due
tree_bad name s tree path (BadName other) e h = ap BadName (some_same path other (sym e ∙ h))
tree_bad name s tree path (Mismatch wanted found) e h = absurd (none_or (first_bad tree) path h.0 e)
tree_bad name s tree path (Crowded tried) e h = absurd (none_or (first_bad tree) path h.0.0 e)
tree_bad name s tree path Done e h = absurd (none_or (first_bad tree) path h.0.0 e)
tree_bad name s tree path other e h = absurd h

pub tree_other : (name : DigestName) (s : Told) (tree : Dir) (due : Outcome) → first_bad tree ≡ None → digest_of (algorithm_of name) tree ≢ name → EndsTree name s tree due
    → Mismatch (spelling name) (spelling (digest_of (algorithm_of name) tree)) ≡ due
tree_other name s tree (BadName path) e n h = absurd (none_or (first_bad tree) path e h)
tree_other name s tree (Mismatch wanted found) e n h =
    ap (λ w. Mismatch w (spelling (digest_of (algorithm_of name) tree))) (sym h.2) ∙ ap (Mismatch wanted) (sym h.3)
tree_other name s tree (Crowded tried) e n h = absurd (n h.0.1)
tree_other name s tree Done e n h = absurd (n h.0.1)
tree_other name s tree other e n h = absurd h

pub tree_crowded : (name : DigestName) (s : Told) (tree : Dir) (due : Outcome) → IsRight name tree → ¬ IsFree s → EndsTree name s tree due → Crowded 10000 ≡ due
tree_crowded name s tree (BadName path) r t h = absurd (none_or (first_bad tree) path r.0 h)
tree_crowded name s tree (Mismatch wanted found) r t h = absurd (h.1 r.1)
tree_crowded name s tree (Crowded tried) r t h = ap Crowded (sym h.1)
tree_crowded name s tree Done r t h = absurd (t h.1)
tree_crowded name s tree other r t h = absurd h

pub tree_done : (name : DigestName) (s : Told) (tree : Dir) (due : Outcome) → IsRight name tree → ¬ AreTaken s → EndsTree name s tree due → Done ≡ due
tree_done name s tree (BadName path) r t h = absurd (none_or (first_bad tree) path r.0 h)
tree_done name s tree (Mismatch wanted found) r t h = absurd (h.1 r.1)
tree_done name s tree (Crowded tried) r t h = absurd (t h.2)
tree_done name s tree Done r t h = refl
tree_done name s tree other r t h = absurd h
