-- What a store holds has one list of digest names, and so have all stores.
use Rattle.std.proofs.Common.{◌≡◌, List, [], ◌∷◌, refl, ap, subst, ◌∙◌, Some, Ok}
use Rattle.zi_digest.specs.declared.DigestName.{DigestName}
use Rattle.zi_digest.specs.Name.{spelling}
use Rattle.zi_tree.specs.Dir.{Dir}
use Rattle.zi_shelf.specs.Names.{IsIn}
use Rattle.zi_shelf.specs.Shelved.{Shelved}
use Rattle.zi_shelf.specs.Shelving.{Shelving}
use Rattle.zi_shelf.specs.Told.{Told}
use Rattle.zi_store.specs.Stored.{NamesStored}
use Rattle.zi_store.specs.Stores.{HaveNames}
use Rattle.zi_store.proofs.OrderLemmas.{same_rising}
use Rattle.zi_world.specs.Places.{AreTold}
use Rattle.zi_due.specs.Knowing.{AreNames}
use Rattle.zi_due.specs.Laws.{NamesAreOne}

pub names_are_one : NamesAreOne
names_are_one s xs ys a b = same_rising spelling xs ys a.0 b.0 (λ n i. (b.1 n).1 ((a.1 n).0 i)) (λ n i. (a.1 n).1 ((b.1 n).0 i))

-- the names that stores are said to have are those of what they hold
pub names_same : (stores : List Shelving) (held : List Told) (xs ys : List (List DigestName)) → AreTold stores held → HaveNames stores xs → AreNames held ys → xs ≡ ys
names_same [] [] [] [] told have are = refl
names_same [] [] [] (y ∷ ys) told have are = absurd are
names_same [] [] (x ∷ xs) ys told have are = absurd have
names_same [] (s ∷ ss) xs ys told have are = absurd told
names_same (k ∷ ks) [] xs ys told have are = absurd told
names_same (k ∷ ks) (s ∷ ss) [] ys told have are = absurd have
names_same (k ∷ ks) (s ∷ ss) (x ∷ xs) [] told have are = absurd are
names_same (k ∷ ks) (s ∷ ss) (x ∷ xs) (y ∷ ys) told have are =
    let e : x ≡ y = names_are_one s.shelf x y (have.0 s told.0 told.1) are.0 in
    let f : xs ≡ ys = names_same ks ss xs ys told.2 have.1 are.1 in
    ap (λ z. z ∷ xs) e ∙ ap (λ zs. y ∷ zs) f

-- and so they are those
pub names_so : (stores : List Shelving) (held : List Told) (xs : List (List DigestName)) → AreTold stores held → HaveNames stores xs → AreNames held xs
names_so [] [] [] told have = tt
names_so [] [] (x ∷ xs) told have = absurd have
names_so [] (s ∷ ss) xs told have = absurd told
names_so (k ∷ ks) [] xs told have = absurd told
names_so (k ∷ ks) (s ∷ ss) [] told have = absurd have
names_so (k ∷ ks) (s ∷ ss) (x ∷ xs) told have = (have.0 s told.0 told.1, names_so ks ss xs told.2 have.1)
