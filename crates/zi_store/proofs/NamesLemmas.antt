-- The digests that are spelled among names.
use Rattle.std.proofs.Common.{◌≡◌, ℕ, suc, ◌<◌, ◌≤◌, ◌↔◌, true, List, [], ◌∷◌, ◌++◌, map, length, drop, get_or, refl, sym, ◌∙◌, ap, subst, append_assoc, add-one, ◌+◌, IsSome, inl, inr, nat_cmp}
use Rattle.std.specs.Ordering.{is_lt}
use Rattle.std.specs.Cmp.Lexicographic.{slice_cmp}
use Rattle.std.specs.List.Sorted.{IsSorted, IsPermutation}
use Rattle.std.proofs.lemmas.List.{append-nil}
use Rattle.std.proofs.Math.Seq.{drop-cons}
use Rattle.std.proofs.Math.ListN.{drop_of_length-le}
use Rattle.std.proofs.lemmas.Bool.{and_parts, and_from}
use Rattle.zi_tree.specs.Dir.{Dir}
use Rattle.zi_digest.specs.Name.{spelling, IsDigest}
use Rattle.zi_digest.specs.declared.DigestName.{DigestName}
use Rattle.zi_shelf.specs.Names.{Name, IsIn}
use Rattle.zi_shelf.specs.Shelved.{Shelved}
use Rattle.zi_shelf.specs.Reading.{AreDistinct}
use Rattle.zi_store.specs.Rising.{is_below, rises}
use Rattle.zi_store.proofs.OrderLemmas.{in_permuted, distinct_permuted, rises_of_sorted}

-- the names in another order
pub names_permuted : (xs ys : List Name) (s : Shelved Dir) → IsPermutation xs ys → IsPermutation ys xs → AreDistinct xs × ((n : Name) → IsIn n xs ↔ IsSome (s.tops n)) → AreDistinct ys × ((n : Name) → IsIn n ys ↔ IsSome (s.tops n))
names_permuted xs ys s p back a = (
  distinct_permuted xs ys p a.0,
  λ n. (λ h. (a.1 n).0 (in_permuted n ys xs back h), λ h. in_permuted n xs ys p ((a.1 n).1 h)),
)

-- these are the digests that are spelled by these names, in their order
abbrev pub Unspelled : Name → Type 0
Unspelled n = (m : DigestName) → IsDigest m → spelling m ≡ n → ⊥

pub data Picks : List Name → List DigestName → Type 0 where
  end_ : Picks [] []
  skip : (n : Name) (ns : List Name) (ds : List DigestName) → Unspelled n → Picks ns ds → Picks (n ∷ ns) ds
  pick : (ns : List Name) (d : DigestName) (ds : List DigestName) → IsDigest d → Picks ns ds → Picks (spelling d ∷ ns) (d ∷ ds)

spelled_in : (ns : List Name) (ds : List DigestName) → Picks ns ds → (d : DigestName) → IsIn d ds → IsDigest d × IsIn (spelling d) ns
spelled_in _ _ end_ d h = absurd h
spelled_in _ _ (skip n ns ds u p) d h = let r = spelled_in ns ds p d h in (r.0, inr r.1)
spelled_in _ _ (pick ns d' ds v p) d (inl e) = (subst IsDigest (sym e) v, inl (ap spelling e))
spelled_in _ _ (pick ns d' ds v p) d (inr h) = let r = spelled_in ns ds p d h in (r.0, inr r.1)

picked : ((a b : DigestName) → IsDigest a → IsDigest b → spelling a ≡ spelling b → a ≡ b) → (ns : List Name) (ds : List DigestName) → Picks ns ds → (d : DigestName) → IsDigest d → IsIn (spelling d) ns → IsIn d ds
picked one _ _ end_ d v h = absurd h
picked one _ _ (skip n ns ds u p) d v (inl e) = absurd (u d v e)
picked one _ _ (skip n ns ds u p) d v (inr h) = picked one ns ds p d v h
picked one _ _ (pick ns d' ds w p) d v (inl e) = inl (one d d' v w e)
picked one _ _ (pick ns d' ds w p) d v (inr h) = inr (picked one ns ds p d v h)

below_picked : (m : Name) (ns : List Name) (ds : List DigestName) → Picks ns ds → is_below m ns ≡ true → is_below m (map spelling ds) ≡ true
below_picked m _ _ end_ h = refl
below_picked m _ _ (skip n ns ds u p) h = below_picked m ns ds p (and_parts (is_lt (slice_cmp nat_cmp m n)) (is_below m ns) h).1
below_picked m _ _ (pick ns d ds v p) h =
    let q = and_parts (is_lt (slice_cmp nat_cmp m (spelling d))) (is_below m ns) h in
    and_from (is_lt (slice_cmp nat_cmp m (spelling d))) (is_below m (map spelling ds)) q.0 (below_picked m ns ds p q.1)

pub rises_picked : (ns : List Name) (ds : List DigestName) → Picks ns ds → rises ns ≡ true → rises (map spelling ds) ≡ true
rises_picked _ _ end_ h = refl
rises_picked _ _ (skip n ns ds u p) h = rises_picked ns ds p (and_parts (is_below n ns) (rises ns) h).1
rises_picked _ _ (pick ns d ds v p) h =
    let q = and_parts (is_below (spelling d) ns) (rises ns) h in
    and_from (is_below (spelling d) (map spelling ds)) (rises (map spelling ds)) (below_picked (spelling d) ns ds p q.0) (rises_picked ns ds p q.1)

map_same : (ns : List Name) → map (λ n. n) ns ≡ ns
map_same [] = refl
map_same (n ∷ ns) = ap (λ l. n ∷ l) (map_same ns)

pub in_picked : ((a b : DigestName) → IsDigest a → IsDigest b → spelling a ≡ spelling b → a ≡ b) → (ns : List Name) (ds : List DigestName) (d : DigestName) → Picks ns ds → IsIn d ds ↔ (IsDigest d × IsIn (spelling d) ns)
in_picked one ns ds d p = (λ h. spelled_in ns ds p d h, λ h. picked one ns ds p d h.0 h.1)

pub stored_of_digests : (ns : List Name) (ds : List DigestName) (s : Shelved Dir)
    → (rises ns ≡ true → rises (map spelling ds) ≡ true) → ((n : DigestName) → IsIn n ds ↔ (IsDigest n × IsIn (spelling n) ns))
    → IsSorted (slice_cmp nat_cmp) ns → AreDistinct ns × ((n : Name) → IsIn n ns ↔ IsSome (s.tops n))
    → (rises (map spelling ds) ≡ true) × ((n : DigestName) → IsIn n ds ↔ (IsDigest n × IsSome (s.tops (spelling n))))
stored_of_digests ns ds s rising all sorted a =
    let up : rises ns ≡ true = subst (λ l. rises l ≡ true) (map_same ns) (rises_of_sorted (λ n. n) ns sorted (subst AreDistinct (sym (map_same ns)) a.0)) in (
      rising up,
      λ n. (
        λ h. let r = (all n).0 h in (r.0, (a.1 (spelling n)).0 r.1),
        λ h. (all n).1 (h.0, (a.1 (spelling n)).1 h.1),
      ),
    )

-- what is left decides
pub record Picking (ns : List Name) (i : ℕ) (done : List DigestName) : Type 0 where
  pub left : (ds : List DigestName) → Picks (drop i ns) ds → Picks ns (done ++ ds)

rest_at : {X : Type 0} (xs : List X) (i : ℕ) (x : X) → i < length xs → get_or xs i x ≡ x → drop i xs ≡ x ∷ drop (i + 1) xs
rest_at xs i x h e = drop-cons xs i x h ∙ ap (λ y. y ∷ drop (suc i) xs) e ∙ ap (λ k. x ∷ drop k xs) (sym (add-one i))

pub picking_start : (ns : List Name) → Picking ns 0 []
picking_start ns = record { left = λ ds p. p }

pub picking_skip : (ns : List Name) (i : ℕ) (done : List DigestName) (n : Name) → i < length ns → get_or ns i n ≡ n → Unspelled n → Picking ns i done → Picking ns (i + 1) done
picking_skip ns i done n h e u p = record { left = λ ds q. p.left ds (subst (λ l. Picks l ds) (sym (rest_at ns i n h e)) (skip n (drop (i + 1) ns) ds u q)) }

pub picking_pick : (ns : List Name) (i : ℕ) (done : List DigestName) (d : DigestName) → i < length ns → get_or ns i (spelling d) ≡ spelling d → IsDigest d → Picking ns i done → Picking ns (i + 1) (done ++ d ∷ [])
picking_pick ns i done d h e v p = record {
  left = λ ds q. subst (λ l. Picks ns l) (sym (append_assoc done (d ∷ []) ds)) (p.left (d ∷ ds) (subst (λ l. Picks l (d ∷ ds)) (sym (rest_at ns i (spelling d) h e)) (pick (drop (i + 1) ns) d ds v q)));
}

pub picking_end : (ns : List Name) (i : ℕ) (done : List DigestName) → length ns ≤ i → Picking ns i done → Picks ns done
picking_end ns i done h p = subst (λ l. Picks ns l) (append-nil done) (p.left [] (subst (λ l. Picks l []) (sym (drop_of_length-le ns h)) end_))
