-- What is said of the first store that has a tree is so of the first tree that stands there.
use Rattle.std.proofs.Common.{◌≡◌, ◌≢◌, ℕ, ◌⊎◌, inl, inr, List, [], ◌∷◌, refl, sym, ap, subst, ◌∙◌, Option, Some, None}
use Rattle.std.specs.Option.{option_map}
use Rattle.zi_digest.specs.declared.DigestName.{DigestName}
use Rattle.zi_digest.specs.Name.{spelling}
use Rattle.zi_tree.specs.Dir.{Dir}
use Rattle.zi_tree.specs.Limits.{limit_of}
use Rattle.zi_tree.specs.declared.change.TreeLimit.{TreeLimit}
use Rattle.zi_manifest.specs.Manifest.{as_read, first_bad}
use Rattle.zi_shelf.specs.Names.{Name}
use Rattle.zi_shelf.specs.Shelved.{Top}
use Rattle.zi_shelf.specs.Shelving.{Shelving}
use Rattle.zi_shelf.specs.Told.{Told, tree_at}
use Rattle.zi_store.specs.Walking.{passed}
use Rattle.zi_outcome.specs.declared.outcome.Outcome.{Outcome}
use Rattle.zi_outcome.specs.declared.outcome.Outcome.TheVariants.{Done, MissingTree, DamagedTree, BadName, TreeTooLarge}
use Rattle.zi_world.specs.Places.{FirstOf, AreTold}
use Rattle.zi_due.specs.Trees.{or_next, first_tree, fault_by, tree_fault, OfSound, OfTree, Compares}

-- the tree of an entry
pub entry_tree : (s : Told) (top : Name) (e : Top Dir) → s.shelf.tops top ≡ Some e → tree_at s top ≡ Some e.tree
entry_tree s top e is = ap (λ o. option_map (λ (e : Top Dir). e.tree) o) is

pub no_tree : (s : Told) (top : Name) → s.shelf.tops top ≡ None → tree_at s top ≡ None
no_tree s top is = ap (λ o. option_map (λ (e : Top Dir). e.tree) o) is

pub or_none : (t : Option Dir) → or_next t None ≡ t
or_none (Some d) = refl
or_none None = refl

or_some : (t next : Option Dir) → ((d : Dir) × (t ≡ Some d)) → or_next t next ≡ t
or_some t next (d, e) = ap (λ t. or_next t next) e ∙ sym e

-- Of each store this is so of its tree where that is said of it; and what isn't said of a missing one is said of one that is there.
pub record Meets {A : Type 0} (Says : Shelving → A → Type 0) (missing : A) (top : Name) (Is : A → Option Dir → Type 0) : Type 1 where
  pub each : (k : Shelving) (s : Told) (x : A) → k.honest → k.told ≡ Some s → Says k x → Is x (tree_at s top)
  pub there : (x : A) (t : Option Dir) → x ≢ missing → Is x t → (d : Dir) × (t ≡ Some d)
  pub lacks : (t : Option Dir) → Is missing t → t ≡ None

pub first_told : {A : Type 0} (Says : Shelving → A → Type 0) (missing : A) (top : Name) (Is : A → Option Dir → Type 0) → Meets Says missing top Is
    → (stores : List Shelving) (held : List Told) (x : A) → AreTold stores held → FirstOf Says missing stores x → Is x (first_tree top held)
first_told Says missing top Is m [] held x told f = absurd f
first_told Says missing top Is m (k ∷ ks) [] x told f = absurd told
first_told Says missing top Is m (k ∷ []) (s ∷ []) x told f = subst (Is x) (sym (or_none (tree_at s top))) (m.each k s x told.0 told.1 f)
first_told Says missing top Is m (k ∷ []) (s ∷ r ∷ ss) x told f = absurd told.2
first_told Says missing top Is m (k ∷ l ∷ ls) (s ∷ ss) x told (inl (f, n)) =
    let is : Is x (tree_at s top) = m.each k s x told.0 told.1 f in
    subst (Is x) (sym (or_some (tree_at s top) (first_tree top ss) (m.there x (tree_at s top) n is))) is
first_told Says missing top Is m (k ∷ l ∷ ls) (s ∷ ss) x told (inr (f, g)) =
    let none : tree_at s top ≡ None = m.lacks (tree_at s top) (m.each k s missing told.0 told.1 f) in
    let more : Is x (first_tree top ss) = first_told Says missing top Is m (l ∷ ls) ss x told.2 g in
    subst (λ t. Is x (or_next t (first_tree top ss))) (sym none) more

-- what is due of what stands there
pub of_none : (top : Name) (t : Option Dir) (Is : Dir → Outcome → Type 0) (due : Outcome) → t ≡ None → OfTree top t Is due → due ≡ MissingTree top
of_none top t Is due e h = subst (λ z. OfTree top z Is due) e h

pub of_fault : (top : Name) (t : Option Dir) (Is : Dir → Outcome → Type 0) (due : Outcome) (tree : Dir) (fault : Outcome) → t ≡ Some tree → tree_fault tree ≡ Some fault → OfTree top t Is due
    → due ≡ fault
of_fault top t Is due tree fault e f h =
    let there : OfSound (tree_fault tree) (Is tree) due = subst (λ z. OfTree top z Is due) e h in
    subst (λ z. OfSound z (Is tree) due) f there

pub of_right : (top : Name) (t : Option Dir) (Is : Dir → Outcome → Type 0) (due : Outcome) (tree : Dir) → t ≡ Some tree → tree_fault tree ≡ None → OfTree top t Is due → Is tree due
of_right top t Is due tree e f h =
    let there : OfSound (tree_fault tree) (Is tree) due = subst (λ z. OfTree top z Is due) e h in
    subst (λ z. OfSound z (Is tree) due) f there

-- the faults of a tree
pub passes_fault : (tree : Dir) (what : TreeLimit) → passed (as_read tree) ≡ Some what → tree_fault tree ≡ Some (TreeTooLarge what (limit_of what))
passes_fault tree what e = ap (λ o. fault_by o (first_bad (as_read tree))) e

pub bad_fault : (tree : Dir) (path : List ℕ) → passed (as_read tree) ≡ None → first_bad (as_read tree) ≡ Some path → tree_fault tree ≡ Some (BadName path)
bad_fault tree path e f = ap (λ o. fault_by o (first_bad (as_read tree))) e ∙ ap (λ o. fault_by None o) f

pub no_fault : (tree : Dir) → passed (as_read tree) ≡ None → first_bad (as_read tree) ≡ None → tree_fault tree ≡ None
no_fault tree e f = ap (λ o. fault_by o (first_bad (as_read tree))) e ∙ ap (λ o. fault_by None o) f

-- by the digest that a tree has
pub compares_same : (name found : DigestName) (due : Outcome) → found ≡ name → Compares name found due → due ≡ Done
compares_same name found Done e c = refl
compares_same name found (DamagedTree wanted other) e c = absurd (c.0 e)
compares_same name found other e c = absurd c

pub compares_other : (name found : DigestName) (due : Outcome) → found ≢ name → Compares name found due → due ≡ DamagedTree (spelling name) (spelling found)
compares_other name found Done n c = absurd (n c)
compares_other name found (DamagedTree wanted other) n (d, e, f) = ap (λ w. DamagedTree w other) e ∙ ap (DamagedTree (spelling name)) f
compares_other name found other n c = absurd c
