-- The implementations that rows make for a feed, with what is active of it.
use Rattle.std.proofs.Common.{◌≡◌, ℕ, Bool, true, false, List, [], ◌∷◌, ◌++◌, map, refl, sym, ap, ◌∙◌}
use Rattle.std.specs.Prelude.{fold, if◌then◌else◌}
use Rattle.std.proofs.lemmas.List.{map-append}
use Rattle.zi_policy.specs.declared.types.Policy.{Policy}
use Rattle.zi_parts.specs.declared.types.Impl.{Impl}
use Rattle.zi_parts.specs.declared.types.Native.{Native}
use Rattle.zi_feed.specs.declared.feed.Feed.{Feed}
use Rattle.zi_feed.specs.Active.{active_part, active_native, active_feed}
use Rattle.zi_packages.specs.declared.types.Packages.{Packages}
use Rattle.zi_packages.specs.declared.types.PackageRow.{PackageRow}
use Rattle.zi_packages.specs.Table.{is_listed}
use Rattle.zi_packages.specs.Natives.{row_impl, is_for, rows_of, made_by, made_of, offered_rows, ids_of, with_new, with_rows}
use Rattle.zi_universe.specs.Candidates.{all_impls}

module _ (p : Policy) where
  active_row : (n : Native) (r : PackageRow) → row_impl (active_native p n) r ≡ active_part p (row_impl n r)
  unfolding row_impl active_native active_part
  active_row n r = refl

  active_made : (n : Native) (rs : List PackageRow) → made_by (active_native p n) rs ≡ map (active_part p) (made_by n rs)
  active_made n [] = refl
  active_made n (r ∷ rs) = ap (λ q. q ∷ made_by (active_native p n) rs) (active_row n r) ∙ ap (λ q. active_part p (row_impl n r) ∷ q) (active_made n rs)

  same_for : (d : List ℕ) (n : Native) → is_for d (active_native p n) ≡ is_for d n
  unfolding is_for active_native
  same_for d n = refl

  same_rows : (rows : List PackageRow) (n : Native) → rows_of rows (active_native p n).«package» ≡ rows_of rows n.«package»
  unfolding active_native
  same_rows rows n = refl

  active_of : (t : Packages) (n : Native) → made_of t (active_native p n) ≡ map (active_part p) (made_of t n)
  active_of t n =
      ap (λ b. if b then made_by (active_native p n) (rows_of t.rows (active_native p n).«package») else []) (same_for t.distribution n)
      ∙ ap (λ q. if is_for t.distribution n then q else []) (ap (made_by (active_native p n)) (same_rows t.rows n) ∙ active_made n (rows_of t.rows n.«package»))
      ∙ by (is_for t.distribution n)
    where
      by : (b : Bool) → (if b then map (active_part p) (made_by n (rows_of t.rows n.«package»)) else []) ≡ map (active_part p) (if b then made_by n (rows_of t.rows n.«package») else [])
      by true = refl
      by false = refl

  active_offered : (t : Packages) (ns : List Native) → offered_rows t (map (active_native p) ns) ≡ map (active_part p) (offered_rows t ns)
  active_offered t [] = refl
  active_offered t (n ∷ ns) =
      ap (λ q. q ++ offered_rows t (map (active_native p) ns)) (active_of t n)
      ∙ ap (λ q. map (active_part p) (made_of t n) ++ q) (active_offered t ns)
      ∙ sym (map-append (active_part p) (made_of t n) (offered_rows t ns))

  same_id : (i : Impl) → (active_part p i).id ≡ i.id
  unfolding active_part
  same_id i = refl

  same_ids : (is : List Impl) → ids_of (map (active_part p) is) ≡ ids_of is
  same_ids [] = refl
  same_ids (i ∷ is) = ap (λ q. q ∷ ids_of (map (active_part p) is)) (same_id i) ∙ ap (λ q. i.id ∷ q) (same_ids is)

  active_new : (is : List Impl) (i : Impl) → with_new (map (active_part p) is) (active_part p i) ≡ map (active_part p) (with_new is i)
  active_new is i =
      ap (λ b. if b then map (active_part p) is else map (active_part p) is ++ active_part p i ∷ []) (ap (λ t. is_listed t (ids_of (map (active_part p) is))) (same_id i) ∙ ap (is_listed i.id) (same_ids is))
      ∙ by (is_listed i.id (ids_of is))
    where
      by : (b : Bool) → (if b then map (active_part p) is else map (active_part p) is ++ active_part p i ∷ []) ≡ map (active_part p) (if b then is else is ++ i ∷ [])
      by true = refl
      by false = sym (map-append (active_part p) is (i ∷ []))

  active_fold : (js is : List Impl) → fold with_new (map (active_part p) is) (map (active_part p) js) ≡ map (active_part p) (fold with_new is js)
  active_fold [] is = refl
  active_fold (j ∷ js) is = ap (λ q. fold with_new q (map (active_part p) js)) (active_new is j) ∙ active_fold js (with_new is j)

  -- what is active of the feed has what is active of them all
  pub active_impls : (t : Packages) (f : Feed) → all_impls t (active_feed p f) ≡ map (active_part p) (all_impls t f)
  unfolding with_rows
  active_impls t f = ap (fold with_new (map (active_part p) f.impls)) (active_offered t f.natives) ∙ active_fold (offered_rows t f.natives) f.impls
