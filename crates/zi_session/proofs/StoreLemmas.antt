-- A session begins as an adder does.
use Rattle.std.proofs.Common.{◌≡◌, List, true, None, length, is_some, refl, sym, ◌∙◌, ap}
use Rattle.zi_digest.specs.declared.DigestName.{DigestName}
use Rattle.zi_digest.specs.declared.DigestName.TheVariants.{Sha1new, Sha256, Sha256new}
use Rattle.zi_digest.specs.Name.{spelling, algorithm_of, IsDigest}
use Rattle.zi_tree.specs.Dir.{Dir}
use Rattle.zi_tree.specs.Order.{is_tree}
use Rattle.zi_shelf.specs.Names.{Name}
use Rattle.zi_shelf.specs.Filling.{Work, trees}
use Rattle.zi_manifest.specs.Manifest.{first_bad, manifest, digest_of}
use Rattle.zi_session.specs.Works.{works_of}
use Rattle.zi_session.specs.Made.{made}
use Rattle.zi_session.specs.Machine.{Making}
use Rattle.zi_session.specs.Phases.{phase_of, residue_of}
use Rattle.zi_session.specs.StoreRules.{MayBegin}
use Rattle.zi_session.specs.StoreWorks.{algorithm_in, store_works}
use Rattle.zi_session.specs.AtPlace.{calls}
use Rattle.zi_session.specs.Begun.{IsBegun}
use Rattle.zi_session.specs.declared.session.Session.{Session}
use Rattle.zi_session.proofs.Remade.{rebuilds, read_free}
use Rattle.zi_session.proofs.BeginLemmas.{own_free}

-- the text of a digest name tells its algorithm
algorithm_told : (d : DigestName) → algorithm_in (spelling d) ≡ algorithm_of d
algorithm_told (Sha1new b) = refl
algorithm_told (Sha256 b) = refl
algorithm_told (Sha256new b) = refl

-- a tree of this name may be added under it
pub may_begin : (d : DigestName) (x : Dir) → is_tree x ≡ true → first_bad x ≡ None → digest_of (algorithm_of d) x ≡ d → MayBegin x (spelling d)
may_begin d x t g h = let free = own_free x g in (t, free, (d, refl, ap first_bad (read_free x free) ∙ g, h))

pub works_for : (d : DigestName) (x : Dir) (ws : List Work) → ws ≡ works_of x (manifest (algorithm_of d) x) → ws ≡ store_works (spelling d) x
works_for d x ws e = e ∙ ap (λ a. works_of x (manifest a x)) (sym (algorithm_told d))

-- its calls fit an empty entry
pub fit_of : (n : Name) (x : Dir) (ws : List Work) → MayBegin x n → ws ≡ store_works n x → is_some (made trees ws (length ws) trees.empty) ≡ true
fit_of n x ws m e = ap (λ vs. is_some (made trees vs (length vs) trees.empty)) e ∙ ap is_some (rebuilds x (manifest (algorithm_in n) x) m.0 m.1).makes

-- a session with these calls stands for an adder that begins
pub begun : (d : DigestName) (x : Dir) (s : Session) → IsDigest d → MayBegin x (spelling d) → s.name ≡ spelling d → calls s.works.items ≡ store_works (spelling d) x
    → phase_of s.phase s.number s.done ≡ Making 0 → residue_of s.phase s.number ≡ None → IsBegun d x s
begun d x s is may named e p none = record {
  leads = λ w. ((d, is, refl), may, refl, refl);
  stands = record { named = sym named; makes = sym e; phase = sym p };
  starts = rw (named, e, p, none) refl;
}
