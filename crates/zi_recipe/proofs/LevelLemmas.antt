-- Counting a tree level by level.
use Rattle.std.proofs.Common.{◌≡◌, ℕ, zero, suc, ◌+◌, ◌<◌, ◌≤◌, max, List, [], ◌∷◌, ◌++◌, length, take, drop, get_or, Some, None, refl, sym, ap, subst, ◌∙◌, arith, add-one, append_assoc, length-append}
use Rattle.std.proofs.lemmas.List.{append-nil, take_more, take-append-drop, map-append}
use Rattle.std.proofs.lemmas.Grind.{flat_map-append}
use Rattle.std.proofs.Common.{Bor}
use Rattle.std.specs.List.{flat_map}
use Rattle.std.proofs.lemmas.List.Sums.{sum_by-cons, sum_by-append, sum_by_push}
use Rattle.std.proofs.lemmas.Bool.Decides.{nat_tests}
use Rattle.zi_tree.specs.Dir.{Dir, Nothing, AFile, ALink, AFolder}
use Rattle.zi_tree.specs.Views.{Item}
use Rattle.zi_tree.specs.Paths.{items, node_of}
use Rattle.zi_tree.specs.declared.tree.TreeNode.{TreeNode}
use Rattle.zi_tree.specs.declared.change.TreeLimit.TheVariants.{Nodes, Depth}
use Rattle.zi_recipe.specs.declared.fault.RecipeFault.{RecipeFault}
use Rattle.zi_recipe.specs.declared.fault.RecipeFault.TheVariants as fault
use Rattle.zi_tree.specs.Limits.{nodes_limit, depth_limit, limit_of}
use Rattle.zi_recipe.specs.Limits.{nodes_in, depth_of, passed, Passes}
use Rattle.zi_recipe.specs.Levels.{folder_of, folders_among, folders_in, entries_in, all_nodes_in, levels, trees, CountsLevel, StopsCounting}

abbrev entries : Dir → ℕ
entries d = length (items d)

-- the entries in a folder itself, and those deeper
nodes_split : (d : Dir) → nodes_in d ≡ entries d + all_nodes_in (folders_in d)
nodes_split Nothing = refl
nodes_split (AFile n b e m rest) = omega (arith, nodes_split rest)
nodes_split (ALink n t rest) = omega (arith, nodes_split rest)
nodes_split (AFolder n inside rest) = omega (arith, nodes_split rest, sum_by-cons nodes_in inside (folders_in rest))

pub level_split : (ds : List Dir) → all_nodes_in ds ≡ entries_in ds + all_nodes_in (flat_map folders_in ds)
level_split [] = refl
level_split (d ∷ ds) =
    omega (arith, sum_by-cons nodes_in d ds, sum_by-cons entries d ds, sum_by-append nodes_in (folders_in d) (flat_map folders_in ds), nodes_split d, level_split ds)

-- each folder of the next level is an entry of this one
few_in : (d : Dir) → length (folders_in d) ≤ entries d
few_in Nothing = omega arith
few_in (AFile n b e m rest) = omega (arith, few_in rest)
few_in (ALink n t rest) = omega (arith, few_in rest)
few_in (AFolder n inside rest) = omega (arith, few_in rest)

pub few_below : (ds : List Dir) → length (flat_map folders_in ds) ≤ entries_in ds
few_below [] = omega arith
few_below (d ∷ ds) = omega (arith, sum_by-cons entries d ds, length-append (folders_in d) (flat_map folders_in ds), few_in d, few_below ds)

-- levels
levels-append : (xs ys : List Dir) → levels (xs ++ ys) ≡ max (levels xs) (levels ys)
levels-append [] ys = omega arith
levels-append (x ∷ xs) ys = omega (arith, levels-append xs ys)

depth_levels : (d : Dir) → depth_of d ≡ levels (folders_in d)
depth_levels Nothing = refl
depth_levels (AFile n b e m rest) = depth_levels rest
depth_levels (ALink n t rest) = depth_levels rest
depth_levels (AFolder n inside rest) = omega (arith, depth_levels rest)

pub level_below : (d : Dir) (ds : List Dir) → levels (d ∷ ds) ≡ suc (levels (flat_map folders_in (d ∷ ds)))
level_below d [] = omega (arith, levels-append (folders_in d) [], depth_levels d)
level_below d (e ∷ es) = omega (arith, levels-append (folders_in d) (flat_map folders_in (e ∷ es)), depth_levels d, level_below e es)

-- one node more of a folder
pub more_folders : (is : List Item) (i : ℕ) (x : TreeNode) → node_of is i ≡ Some x → folders_among (take (i + 1) is) ≡ folders_among (take i is) ++ folder_of x
more_folders is i x e = ap (λ n. folders_among (take n is)) (add-one i) ∙ more is i e
  where
    more : (is : List Item) (i : ℕ) → node_of is i ≡ Some x → folders_among (take (suc i) is) ≡ folders_among (take i is) ++ folder_of x
    more [] i e = absurd (cc e)
    more (j ∷ js) zero e = append-nil (folder_of j.1) ∙ ap folder_of (cc e)
    more (j ∷ js) (suc i) e = ap (λ l. folder_of j.1 ++ l) (more js i e) ∙ sym (append_assoc (folder_of j.1) (folders_among (take i js)) (folder_of x))

-- The verdict.
pub within : (d : Dir) → nodes_in d ≤ nodes_limit → depth_of d ≤ depth_limit → passed d ≡ None
within d few flat = grind (arith, nat_tests)

pub passes_nodes : (d : Dir) → nodes_limit < nodes_in d → passed d ≡ Some Nodes
passes_nodes d many = grind (arith, nat_tests)

pub passes_depth : (d : Dir) → nodes_in d ≤ nodes_limit → depth_limit < depth_of d → passed d ≡ Some Depth
passes_depth d few deep = grind (arith, nat_tests)

-- Folders that are lent.
pub trees_more : (ts : List (Bor Dir)) (i : ℕ) (t : Bor Dir) → i < length ts → t ≡ get_or ts i t → trees (take (i + 1) ts) ≡ trees (take i ts) ++ t.now ∷ []
trees_more ts i t lt at =
    ap trees (take_more ts i t lt ∙ ap (λ (x : Bor Dir). take i ts ++ x ∷ []) (sym at)) ∙ map-append (λ (r : Bor Dir). r.now) (take i ts) (t ∷ [])

pub inner_next : (ts : List (Bor Dir)) (i : ℕ) (t : Bor Dir) (next next' : List Dir) → i < length ts → t ≡ get_or ts i t → next ≡ flat_map folders_in (trees (take i ts))
    → next' ≡ next ++ folders_in t.now → next' ≡ flat_map folders_in (trees (take (i + 1) ts))
inner_next ts i t next next' lt at so_far more =
    more ∙ ap (λ l. l ++ folders_in t.now) so_far
    ∙ sym (ap (flat_map folders_in) (trees_more ts i t lt at) ∙ flat_map-append folders_in (trees (take i ts)) (t.now ∷ []) ∙ ap (λ l. flat_map folders_in (trees (take i ts)) ++ l) (append-nil (folders_in t.now)))

pub counted_next : (ts : List (Bor Dir)) (i : ℕ) (t : Bor Dir) → i < length ts → t ≡ get_or ts i t → entries_in (trees (take (i + 1) ts)) ≡ entries_in (trees (take i ts)) + entries t.now
counted_next ts i t lt at = ap entries_in (trees_more ts i t lt at) ∙ sum_by_push entries (trees (take i ts)) t.now

pub entries_front : (ts : List (Bor Dir)) (i : ℕ) → entries_in (trees (take i ts)) ≤ entries_in (trees ts)
entries_front ts i =
    let whole : entries_in (trees ts) ≡ entries_in (trees (take i ts)) + entries_in (trees (drop i ts)) =
    ap (λ (l : List (Bor Dir)). entries_in (trees l)) (sym (take-append-drop i ts)) ∙ ap entries_in (map-append (λ (r : Bor Dir). r.now) (take i ts) (drop i ts)) ∙ sum_by-append entries (trees (take i ts)) (trees (drop i ts)) in
    omega (arith, whole)

pub some_lent : (ts : List (Bor Dir)) (n : ℕ) → n ≡ length ts → 0 < n → (d : Dir) × (ds : List Dir) × (trees ts ≡ d ∷ ds)
some_lent [] n is some = absurd (omega arith)
some_lent (t ∷ ts) n is some = (t.now, trees ts, refl)

pub none_lent : (ts : List (Bor Dir)) (n : ℕ) → n ≡ length ts → n ≤ 0 → trees ts ≡ []
none_lent [] n is none = refl
none_lent (t ∷ ts) n is none = absurd (omega arith)

-- The next level.
module _ (whole : Dir) (level next : List Dir) (n n' lv : ℕ) (counts : CountsLevel level n next n') where
  pub counted_level : n + all_nodes_in level ≡ nodes_in whole → n' + all_nodes_in next ≡ nodes_in whole
  counted_level c = let e : all_nodes_in next ≡ all_nodes_in (flat_map folders_in level) = ap all_nodes_in counts.inner in omega (arith, e, level_split level, counts.nodes)

  pub deeper : (d : Dir) (ds : List Dir) → level ≡ d ∷ ds → lv + levels level ≡ depth_of whole + 1 → (lv + 1) + levels next ≡ depth_of whole + 1
  deeper d ds is e =
      let a : levels level ≡ suc (levels (flat_map folders_in level)) = subst (λ l. levels l ≡ suc (levels (flat_map folders_in l))) (sym is) (level_below d ds) in
      let b : levels next ≡ levels (flat_map folders_in level) = ap levels counts.inner in
      omega (arith, a, b)

  shorter : length next ≤ entries_in level
  shorter = let e : length next ≡ length (flat_map folders_in level) = ap length counts.inner in omega (arith, e, few_below level)

  pub still_bounded : (d : Dir) (ds : List Dir) → level ≡ d ∷ ds → lv + length level ≤ n + 1 → (lv + 1) + length next ≤ n' + 1
  still_bounded d ds is le = let some : length level ≡ suc (length ds) = ap length is in omega (arith, shorter, some, counts.nodes)

  pub falls : (d : Dir) (ds : List Dir) → level ≡ d ∷ ds → all_nodes_in next + length next < all_nodes_in level + length level
  falls d ds is =
      let some : length level ≡ suc (length ds) = ap length is in
      let e : all_nodes_in next ≡ all_nodes_in (flat_map folders_in level) = ap all_nodes_in counts.inner in
      omega (arith, shorter, some, e, level_split level)

-- too many entries so far
pub too_many : (whole : Dir) (level : List Dir) (n : ℕ) (e : RecipeFault) → n + all_nodes_in level ≡ nodes_in whole → StopsCounting level n e → Passes whole e
too_many whole level n (fault.FetchRead href) c s = absurd s
too_many whole level n (fault.NoRemote href) c s = absurd s
too_many whole level n (fault.WrongSize href said got) c s = absurd s
too_many whole level n (fault.Overlap path) c s = absurd s
too_many whole level n (fault.NoPath path) c s = absurd s
too_many whole level n (fault.TooLarge what limit) c s =
    let many : nodes_limit < nodes_in whole = omega (arith, level_split level, s.2) in
    (passes_nodes whole many ∙ ap Some (sym s.0), s.1 ∙ ap limit_of (sym s.0))
too_many whole level n fault.Memory c s = tt

-- The first level.
pub first_level : (items start : List (Bor Dir)) (t : Bor Dir) → start ≡ [] → items ≡ start ++ t ∷ [] → trees items ≡ t.now ∷ []
first_level items start t none pushed = ap trees (pushed ∙ ap (λ l. l ++ t ∷ []) none)

pub first_counted : (d : Dir) (ds : List Dir) → ds ≡ d ∷ [] → 0 + all_nodes_in ds ≡ nodes_in d
first_counted d ds is = ap (λ l. 0 + all_nodes_in l) is ∙ omega (arith, sum_by-cons nodes_in d [])

pub first_deep : (d : Dir) (ds : List Dir) → ds ≡ d ∷ [] → 0 + levels ds ≡ depth_of d + 1
first_deep d ds is = ap (λ l. 0 + levels l) is ∙ omega arith

-- nothing is left
pub all_counted : (whole : Dir) (level : List Dir) (n lv : ℕ) → level ≡ [] → n + all_nodes_in level ≡ nodes_in whole → lv + levels level ≡ depth_of whole + 1 → n ≤ nodes_limit
    → (nodes_in whole ≤ nodes_limit) × (lv ≡ depth_of whole + 1)
all_counted whole level n lv none c e few =
    let a : all_nodes_in level ≡ 0 = ap all_nodes_in none in
    let b : levels level ≡ 0 = ap levels none in
    (omega arith, omega arith)
