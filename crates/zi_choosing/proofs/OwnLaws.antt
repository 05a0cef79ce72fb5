-- What a choice selects is one value, and selections in order are compared with it.
use Rattle.std.proofs.Common.{◌≡◌, zero, suc, Bool, List, [], ◌∷◌, refl, sym, subst, ◌∙◌, arith, inl, inr, ◌⊎◌, Decides}
use Rattle.std.specs.Prelude.{Contains, IsPermutation, IsSortedBy}
use Rattle.std.specs.Ordering.{nat_cmp, is_lt}
use Rattle.std.specs.declared.cmp.Ordering.TheVariants.{Less, Equal}
use Rattle.std.specs.Cmp.Lexicographic.{slice_cmp}
use Rattle.std.proofs.lemmas.Cmp.{nat_list_cmp_total, tied_itself}
use Rattle.std.proofs.lemmas.List.Sorted.{IsPermutation-trans, IsPermutation-sym, Contains-permutation}
use Rattle.zi_universe.specs.declared.types.Interface.{Interface}
use Rattle.zi_universe.specs.declared.types.Requirement.{Requirement}
use Rattle.zi_universe.specs.Whole.{IsWhole}
use Rattle.zi_choice.specs.Choice.{Choice}
use Rattle.zi_choice.specs.Walk.{Walk}
use Rattle.zi_choice.proofs.WalkLaws.{walk_one}
use Rattle.zi_sels.specs.declared.types.Selection.{Selection}
use Rattle.zi_sels.specs.declared.types.Selections.{Selections}
use Rattle.zi_sels.specs.Chosen.{selected, AreSorted, AreSelected}
use Rattle.zi_sels.proofs.SortedLaws.{sorted_selected}
use Rattle.zi_choosing.specs.Named.{AreReordered, AreOwn}

abbrev Stands : Selection → Selection → Type 0
Stands x y = slice_cmp nat_cmp x.interface y.interface ≡ Less

-- none stands before itself
never_itself : (x : Selection) → Stands x x → ⊥
never_itself x h = let e : Less ≡ Equal = sym h ∙ tied_itself nat_list_cmp_total x.interface in absurd cc

never_both : (x y : Selection) → Stands x y → Stands y x → ⊥
never_both x y h k = never_itself x (nat_list_cmp_total.trans x.interface y.interface x.interface h k)

-- the first and the others
rest_sorted : (x : Selection) (xs : List Selection) → AreSorted (x ∷ xs) → AreSorted xs
rest_sorted x xs h i j d l m = h (suc i) (suc j) d (omega (arith, l)) (omega (arith, m))

first_before : (x : Selection) (xs : List Selection) → AreSorted (x ∷ xs) → (z : Selection) → Contains xs z → Stands x z
first_before x xs h z (k, l, e) = subst (λ y. Stands x y) e (h 0 (suc k) z (omega arith) (omega (arith, l)))

is_there : (x : Selection) (xs : List Selection) → Contains (x ∷ xs) x
is_there x xs = (0, omega arith, refl)

behind : (x : Selection) (xs : List Selection) (z : Selection) → Contains xs z → Contains (x ∷ xs) z
behind x xs z (k, l, e) = (suc k, omega (arith, l), e)

where_it_is : (x : Selection) (xs : List Selection) (z : Selection) → Contains (x ∷ xs) z → (x ≡ z) ⊎ Contains xs z
where_it_is x xs z (zero, l, e) = inl e
where_it_is x xs z (suc k, l, e) = inr (k, omega (arith, l), e)

nothing_there : (z : Selection) → Contains [] z → ⊥
nothing_there z (k, l, e) = absurd (omega (arith, l))

-- of sorted lists with one first item, all that is behind it in the one is behind it in the other
abbrev Within : List Selection → List Selection → Type 0
Within xs ys = (z : Selection) → Contains xs z → Contains ys z

rest_within : (x : Selection) (xs ys : List Selection) → AreSorted (x ∷ xs) → Within (x ∷ xs) (x ∷ ys) → Within xs ys
rest_within x xs ys up h z c = by (where_it_is x ys z (h z (behind x xs z c)))
  where
    by : (x ≡ z) ⊎ Contains ys z → Contains ys z
    by (inl e) = absurd (never_itself z (subst (λ (y : Selection). Stands y z) e (first_before x xs up z c)))
    by (inr k) = k

same_first : (x y : Selection) (xs ys : List Selection) → AreSorted (x ∷ xs) → AreSorted (y ∷ ys) → Within (x ∷ xs) (y ∷ ys) → Within (y ∷ ys) (x ∷ xs) → x ≡ y
same_first x y xs ys a b h k = by (where_it_is y ys x (h x (is_there x xs))) (where_it_is x xs y (k y (is_there y ys)))
  where
    by : (y ≡ x) ⊎ Contains ys x → (x ≡ y) ⊎ Contains xs y → x ≡ y
    by (inl e) q = sym e
    by (inr p) (inl e) = e
    by (inr p) (inr q) = absurd (never_both x y (first_before x xs a y q) (first_before y ys b x p))

-- lists with one first item, by what is behind it
one_more : (x y : Selection) (xs ys : List Selection) → AreSorted (x ∷ xs) → AreSorted (y ∷ ys) → Within (x ∷ xs) (y ∷ ys) → Within (y ∷ ys) (x ∷ xs) → x ≡ y
    → (AreSorted xs → AreSorted ys → Within xs ys → Within ys xs → xs ≡ ys) → x ∷ xs ≡ y ∷ ys
one_more x y xs ys a b h k e rest =
    let b' : AreSorted (x ∷ ys) = subst (λ z. AreSorted (z ∷ ys)) (sym e) b in
    let h' : Within (x ∷ xs) (x ∷ ys) = subst (λ z. Within (x ∷ xs) (z ∷ ys)) (sym e) h in
    let k' : Within (x ∷ ys) (x ∷ xs) = subst (λ z. Within (z ∷ ys) (x ∷ xs)) (sym e) k in
    let same : xs ≡ ys = rest (rest_sorted x xs a) (rest_sorted x ys b') (rest_within x xs ys a h') (rest_within x ys xs b' k') in
    λ i. e i ∷ same i

-- sorted lists of the same items are one list
one_sorted : (xs ys : List Selection) → AreSorted xs → AreSorted ys → Within xs ys → Within ys xs → xs ≡ ys
one_sorted [] [] a b h k = refl
one_sorted [] (y ∷ ys) a b h k = absurd (nothing_there y (k y (is_there y ys)))
one_sorted (x ∷ xs) [] a b h k = absurd (nothing_there x (h x (is_there x xs)))
one_sorted (x ∷ xs) (y ∷ ys) a b h k = one_more x y xs ys a b h k (same_first x y xs ys a b h k) (λ p q r s. one_sorted xs ys p q r s)

-- a choice selects one thing
pub one_selected : (u : List Interface) (req : Requirement) (s : Choice) (a b : Selections) → AreSelected u req s a → AreSelected u req s b → a ≡ b
one_selected u req s a b p q =
    let walk : p.walk ≡ q.walk = walk_one u req s p.walk q.walk p.walks q.walks in
    let same : IsPermutation (selected u s q.walk) a.items = subst (λ (w : Walk). IsPermutation (selected u s w) a.items) walk p.same in
    let there : Within a.items b.items = λ z c. Contains-permutation (selected u s q.walk) b.items z q.same (Contains-permutation a.items (selected u s q.walk) z (IsPermutation-sym (selected u s q.walk) a.items same) c) in
    let back : Within b.items a.items = λ z c. Contains-permutation (selected u s q.walk) a.items z same (Contains-permutation b.items (selected u s q.walk) z (IsPermutation-sym (selected u s q.walk) b.items q.same) c) in
    let items : a.items ≡ b.items = one_sorted a.items b.items p.sorted q.sorted there back in
    let interface : a.interface ≡ b.interface = p.interface ∙ sym q.interface in
    let command : a.command ≡ b.command = p.command ∙ sym q.command in
    λ i. record { interface = interface i; command = command i; items = items i }

-- selections in order are those of the choice, where any order of them is
own_then : (u : List Interface) (req : Requirement) (s : Choice) (sels own ordered : Selections) → IsWhole u → AreSelected u req s own → AreReordered sels ordered
    → IsSortedBy (λ x y. is_lt (slice_cmp nat_cmp x.interface y.interface)) ordered.items → AreOwn u req s sels → own ≡ ordered
own_then u req s sels own ordered whole selects reordered up (other, same, others) =
    let moved : IsPermutation (selected u s others.walk) ordered.items =
    IsPermutation-trans (selected u s others.walk) other.items ordered.items others.same
    (IsPermutation-trans other.items sels.items ordered.items (IsPermutation-sym sels.items other.items same.items) reordered.items) in
    one_selected u req s own ordered selects (record {
      walk = others.walk;
      walks = others.walks;
      interface = reordered.interface ∙ sym same.interface ∙ others.interface;
      command = reordered.command ∙ sym same.command ∙ others.command;
      same = moved;
      sorted = sorted_selected u s others.walk ordered.items whole moved up;
    })

pub tells_own : (u : List Interface) (req : Requirement) (s : Choice) (sels own ordered : Selections) (said : Bool) → IsWhole u → AreSelected u req s own → AreReordered sels ordered
    → IsSortedBy (λ x y. is_lt (slice_cmp nat_cmp x.interface y.interface)) ordered.items → Decides said (own ≡ ordered) → Decides said (AreOwn u req s sels)
tells_own u req s sels own ordered said whole selects reordered up tells =
    (λ t. (ordered, reordered, subst (λ x. AreSelected u req s x) (tells.0 t) selects), λ h. tells.1 (own_then u req s sels own ordered whole selects reordered up h))
