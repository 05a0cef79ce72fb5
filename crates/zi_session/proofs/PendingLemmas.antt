-- What a change of the shelf does to what a crash may bring back.
use Rattle.std.proofs.Common.{◌≡◌, ◌≢◌, ℕ, zero, suc, true, false, List, [], ◌∷◌, Option, Some, None, ◌⊎◌, inl, inr, refl, sym, ◌∙◌, ap, subst, bytes_eq, slice_get, if◌then◌else◌}
use Rattle.zi_shelf.specs.Names.{Name, put, IsIn}
use Rattle.zi_shelf.specs.Shelved.{Top, Pending, Renamed, Removed, Shelved}
use Rattle.zi_shelf.specs.Crash.{names_before, removed, Source}
use Rattle.zi_session.specs.Machine.{Rules}
use Rattle.zi_session.specs.Law.{IsLawful, IsSound}
use Rattle.zi_session.proofs.MapsLemmas.{put-same, put-other, some_none, is_in_along, with_top}
use Rattle.std.proofs.lemmas.Slice.Eq.{bytes_eq-Decides}
use Rattle.zi_shelf.proofs.TopsLemmas.{test_false, same_or_not}
use Rattle.zi_session.specs.Beside.{IsFresh, IsSealed, Carries, PendingFits}

test_same : (a b : Name) → a ≡ b → bytes_eq a b ≡ true
test_same a b e = (bytes_eq-Decides a b).1 e

-- the names of before after one rename more
pub before_renamed : {T : Type 0} (ps : List (Pending T)) (a b m d : Name) → IsIn d (names_before m (Renamed a b ∷ ps))
    → ((m ≡ b) × IsIn d (a ∷ names_before a ps)) ⊎ ((m ≢ b) × (m ≢ a) × IsIn d (names_before m ps))
before_renamed {T} ps a b m d i = elim (same_or_not b m) [
  | inl e ↦ inl (sym e, is_in_along d _ (a ∷ names_before a ps) (ap (λ t. if t then a ∷ names_before a ps else if bytes_eq a m then [] else names_before m ps) (test_same b m e)) i)
  | inr ne ↦
      let j : IsIn d (if bytes_eq a m then [] else names_before m ps) =
      is_in_along d _ (if bytes_eq a m then [] else names_before m ps) (ap (λ t. if t then a ∷ names_before a ps else if bytes_eq a m then [] else names_before m ps) (test_false b m ne)) i in
      elim (same_or_not a m) [
        | inl e ↦ absurd (is_in_along d _ [] (ap (λ t. if t then [] else names_before m ps) (test_same a m e)) j)
        | inr na ↦ inr (λ e. ne (sym e), λ e. na (sym e), is_in_along d _ (names_before m ps) (ap (λ t. if t then [] else names_before m ps) (test_false a m na)) j)
      ]
]

-- after one removal more
pub before_removed : {T : Type 0} (ps : List (Pending T)) (n : Name) (e : Top T) (m d : Name) → IsIn d (names_before m (Removed n e ∷ ps)) → (m ≢ n) × IsIn d (names_before m ps)
before_removed ps n e m d i = elim (same_or_not n m) [
  | inl s ↦ absurd (is_in_along d _ [] (ap (λ t. if t then [] else names_before m ps) (test_same n m s)) i)
  | inr ne ↦ (λ s. ne (sym s), is_in_along d _ (names_before m ps) (ap (λ t. if t then [] else names_before m ps) (test_false n m ne)) i)
]

-- only names that a rename left are names of before
pub left_names : {T W : Type 0} (r : Rules T W) (ps : List (Pending T)) (n d : Name) → ((a b : Name) → IsIn (Renamed a b) ps → (r.is_digest a → ⊥)) → IsIn d (names_before n ps) → (r.is_digest d → ⊥)
left_names r [] n d free h = absurd h
left_names r (Renamed a b ∷ older) n d free h = elim (before_renamed older a b n d h) [
  | inl (same, i) ↦ elim i [
    | inl e ↦ λ is. free a b (inl refl) (subst r.is_digest e is)
    | inr k ↦ left_names r older a d (λ x y j. free x y (inr j)) k
  ]
  | inr (off, away, k) ↦ left_names r older n d (λ x y j. free x y (inr j)) k
]
left_names r (Removed m e ∷ older) n d free h = left_names r older n d (λ x y j. free x y (inr j)) (before_removed older m e n d h).1

pub sealed_fresh : {T W : Type 0} (r : Rules T W) (s : Shelved T) (n : Name) → IsSealed r s → IsFresh r s n
sealed_fresh r s n sealed d is i = left_names r s.pending n d sealed i is

module _ {T W : Type 0} (r : Rules T W) (lawful : IsLawful r) (P : Name → Type 0) where
  no_tmp : (d : Name) (n : ℕ) → r.is_digest d → d ≢ r.tmp n
  no_tmp d n is e = lawful.tmp_free n (subst r.is_digest e is)

  -- where nothing stands, nothing has a name of before
  pub absent_fresh : (s : Shelved T) (n : Name) → PendingFits r P s → s.tops n ≡ None → IsFresh r s n
  absent_fresh s n fits none d is i = let c = fits.had n d is i in some_none (s.tops n) c.top c.there none

  carries_on : (s t : Shelved T) (n d : Name) → t.tops n ≡ s.tops n → Carries r P s n d → Carries r P t n d
  carries_on s t n d same c = record { purged = c.purged; top = c.top; there = same ∙ c.there; settled = c.settled; named = c.named }

  -- another entry under a name that had none
  pub at_name : (s : Shelved T) (n : Name) (v : Option (Top T)) → IsFresh r s n → PendingFits r P s → PendingFits r P (with_top s n v)
  at_name s n v fresh fits = record {
    had = λ m d is i. elim (same_or_not m n) [
      | inl e ↦ absurd (fresh d is (subst (λ x. IsIn d (names_before x s.pending)) e i))
      | inr ne ↦ carries_on s (with_top s n v) m d (put-other s.tops n v m ne) (fits.had m d is i)
    ];
    gone = fits.gone;
  }

  pub emptied : (tops : Name → Option (Top T)) → PendingFits r P (record { tops = tops; pending = [] })
  emptied tops = record { had = λ n d is i. absurd i; gone = λ k was d h i. absurd (cc h) }

  -- an adder's rename
  pub at_added : (s : Shelved T) (n : ℕ) (name : Name) (e : Top T) → IsFresh r s (r.tmp n) → PendingFits r P s
      → PendingFits r P (record { tops = put (put s.tops (r.tmp n) None) name (Some e); pending = Renamed (r.tmp n) name ∷ s.pending })
  at_added s n name e fresh fits = record {
    had = λ m d is i. elim (before_renamed s.pending (r.tmp n) name m d i) [
      | inl (same, j) ↦ elim j [ inl here ↦ absurd (no_tmp d n is here) | inr k ↦ absurd (fresh d is k) ]
      | inr (off, away, j) ↦
          carries_on s (record { tops = put (put s.tops (r.tmp n) None) name (Some e); pending = Renamed (r.tmp n) name ∷ s.pending }) m d
          (put-other (put s.tops (r.tmp n) None) name (Some e) m off ∙ put-other s.tops (r.tmp n) None m away) (fits.had m d is j)
    ];
    gone = fits.gone;
  }

  -- a removal
  pub at_removed : (s : Shelved T) (n : ℕ) (e : Top T) (v : Option (Top T)) → IsFresh r s (r.tmp n) → PendingFits r P s
      → PendingFits r P (record { tops = put s.tops (r.tmp n) v; pending = Removed (r.tmp n) e ∷ s.pending })
  at_removed s n e v fresh fits = record {
    had = λ m d is i.
        let b = before_removed s.pending (r.tmp n) e m d i in
        carries_on s (record { tops = put s.tops (r.tmp n) v; pending = Removed (r.tmp n) e ∷ s.pending }) m d (put-other s.tops (r.tmp n) v m b.0) (fits.had m d is b.1);
    gone = gone_on;
  }
    where
      gone_on : (k : ℕ) (was : Source T) (d : Name) → slice_get (removed (Removed (r.tmp n) e ∷ s.pending)) k ≡ Some was → IsIn d was.names → (r.is_digest d → ⊥)
      gone_on zero was d h i is =
          let names : r.tmp n ∷ names_before (r.tmp n) s.pending ≡ was.names = cc h in
          let there = is_in_along d was.names (r.tmp n ∷ names_before (r.tmp n) s.pending) (sym names) i in
          elim there [ inl here ↦ no_tmp d n is here | inr j ↦ fresh d is j ]
      gone_on (suc k) was d h i is = fits.gone k was d h i is

  -- the purger's rename
  pub at_purged : (s : Shelved T) (d : Name) (n : ℕ) (e : Top T) → r.is_digest d → P d → s.tops d ≡ Some e → IsSound r s → PendingFits r P s
      → PendingFits r P (record { tops = put (put s.tops d None) (r.tmp n) (Some e); pending = Renamed d (r.tmp n) ∷ s.pending })
  at_purged s d n e digest purged there sound fits = record {
    had = λ m x is i. elim (before_renamed s.pending d (r.tmp n) m x i) [
      | inl (same, j) ↦ elim j [
        | inl here ↦ record {
          purged = subst P (sym here) purged;
          top = e;
          there = at m same;
          settled = (sound d e digest there).1;
          named = subst (λ y. r.is_named e.tree y) (sym here) (sound d e digest there).0;
        }
        | inr k ↦
            let c = fits.had d x is k in
            let it : c.top ≡ e = cc (c.there, there) in
            record { purged = c.purged; top = e; there = at m same; settled = (sound d e digest there).1; named = subst (λ (t : Top T). r.is_named t.tree x) it c.named }
      ]
      | inr (off, away, j) ↦
          carries_on s (record { tops = put (put s.tops d None) (r.tmp n) (Some e); pending = Renamed d (r.tmp n) ∷ s.pending }) m x
          (put-other (put s.tops d None) (r.tmp n) (Some e) m off ∙ put-other s.tops d None m away) (fits.had m x is j)
    ];
    gone = fits.gone;
  }
    where
      at : (m : Name) → m ≡ r.tmp n → put (put s.tops d None) (r.tmp n) (Some e) m ≡ Some e
      at m same = rw same (put-same (put s.tops d None) (r.tmp n) (Some e))
