-- The first limit that is passed, entry by entry.
use Rattle.std.proofs.Common.{◌≡◌, ℕ, ◌+◌, ◌<◌, ◌≤◌, Bool, true, false, nat_lt, List, [], ◌∷◌, ◌++◌, length, refl, sym, ◌∙◌, ap, subst, append_assoc, arith, rules, Some, None, Result, Ok, Err, if◌then◌else◌}
use Rattle.std.proofs.lemmas.List.{append-nil}
use Rattle.zi_tree.specs.Dir.{Dir}
use Rattle.zi_tree.specs.declared.change.TreeLimit.{TreeLimit}
use Rattle.zi_tree.specs.declared.change.TreeLimit.TheVariants as limit
use Rattle.zi_tree.specs.declared.tree.TreeNode.{TreeNode}
use Rattle.zi_tree.specs.declared.tree.TreeNode.TheVariants.{File, Link, Folder}
use Rattle.zi_tree.specs.Views.{entry_of}
use Rattle.zi_store.specs.Walking.{Met, leaves_met, folders_met, met, first_passed, passed, Passes, Stops}
use Rattle.zi_store.specs.Entries.{leaf_met, inner_met, Walks}
use Rattle.zi_shelf.specs.declared.shelf.ShelfFault.{ShelfFault}
use Rattle.zi_shelf.specs.declared.shelf.ShelfFault.TheVariants as fault
use Rattle.zi_store.specs.declared.stop.Stop.{Stop}
use Rattle.zi_store.specs.declared.stop.Stop.TheVariants as stop

lt_true : (a b : ℕ) → a < b → nat_lt a b ≡ true
lt_true a b h = search (rules, h)

lt_false : (a b : ℕ) → b ≤ a → nat_lt a b ≡ false
lt_false a b h = search (rules, h)

-- one entry
step_of : (n b depth size : ℕ) (rest : List Met) (p q r : Bool) → nat_lt 64 depth ≡ p → nat_lt 100000 (n + 1) ≡ q → nat_lt 268435456 (b + size) ≡ r
    → first_passed n b (record { depth = depth; size = size } ∷ rest) ≡ (if p then Some limit.Depth else if q then Some limit.Nodes else if r then Some limit.Size else first_passed (n + 1) (b + size) rest)
step_of n b depth size rest p q r e f g =
    ap (λ x. if x then Some limit.Depth else if nat_lt 100000 (n + 1) then Some limit.Nodes else if nat_lt 268435456 (b + size) then Some limit.Size else first_passed (n + 1) (b + size) rest) e
    ∙ ap (λ x. if p then Some limit.Depth else if x then Some limit.Nodes else if nat_lt 268435456 (b + size) then Some limit.Size else first_passed (n + 1) (b + size) rest) f
    ∙ ap (λ x. if p then Some limit.Depth else if q then Some limit.Nodes else if x then Some limit.Size else first_passed (n + 1) (b + size) rest) g

pub stops_depth : (n b depth size : ℕ) → 64 < depth → Stops n b (record { depth = depth; size = size } ∷ []) limit.Depth
stops_depth n b depth size h rest = step_of n b depth size rest true (nat_lt 100000 (n + 1)) (nat_lt 268435456 (b + size)) (lt_true 64 depth h) refl refl

pub stops_nodes : (n b depth size : ℕ) → depth ≤ 64 → 100000 ≤ n → Stops n b (record { depth = depth; size = size } ∷ []) limit.Nodes
stops_nodes n b depth size h k rest = step_of n b depth size rest false true (nat_lt 268435456 (b + size)) (lt_false 64 depth h) (lt_true 100000 (n + 1) (omega (arith, k))) refl

pub stops_size : (n b depth size : ℕ) → depth ≤ 64 → n < 100000 → 268435456 < b + size → Stops n b (record { depth = depth; size = size } ∷ []) limit.Size
stops_size n b depth size h k l rest = step_of n b depth size rest false false true (lt_false 64 depth h) (lt_false 100000 (n + 1) (omega (arith, k))) (lt_true 268435456 (b + size) l)

pub passes_one : (n b depth size : ℕ) → depth ≤ 64 → n < 100000 → b + size ≤ 268435456 → Passes n b (record { depth = depth; size = size } ∷ []) (n + 1) (b + size)
passes_one n b depth size h k l rest = step_of n b depth size rest false false false (lt_false 64 depth h) (lt_false 100000 (n + 1) (omega (arith, k))) (lt_false 268435456 (b + size) l)

-- a depth within its limit is as good as 0
same_depth : (n b depth size : ℕ) (rest : List Met) → depth ≤ 64 → first_passed n b (record { depth = depth; size = size } ∷ rest) ≡ first_passed n b (record { depth = 0; size = size } ∷ rest)
same_depth n b depth size rest h = step_of n b depth size rest false (nat_lt 100000 (n + 1)) (nat_lt 268435456 (b + size)) (lt_false 64 depth h) refl refl

pub walks_deeper : {X : Type 0} (x : X) (n b depth size n' b' : ℕ) (r : Result X Stop) → depth ≤ 64 → Walks x (record { depth = 0; size = size } ∷ []) n b r n' b' → Walks x (record { depth = depth; size = size } ∷ []) n b r n' b'
walks_deeper x n b depth size n' b' (Ok y) h w = (w.0, λ rest. same_depth n b depth size rest h ∙ w.1 rest)
walks_deeper x n b depth size n' b' (Err stop.Missing) h w = w
walks_deeper x n b depth size n' b' (Err (stop.TooLarge what)) h w = λ rest. same_depth n b depth size rest h ∙ w rest
walks_deeper x n b depth size n' b' (Err (stop.Fault f)) h w = w

-- some entries, and then others
pub passes_none : (n b : ℕ) → Passes n b [] n b
passes_none n b rest = refl

pub passes_then : (n b n' b' n2 b2 : ℕ) (ms ns : List Met) → Passes n b ms n' b' → Passes n' b' ns n2 b2 → Passes n b (ms ++ ns) n2 b2
passes_then n b n' b' n2 b2 ms ns p q rest = ap (λ l. first_passed n b l) (append_assoc ms ns rest) ∙ p (ns ++ rest) ∙ q rest

pub stops_then : (n b n' b' : ℕ) (ms ns : List Met) (what : TreeLimit) → Passes n b ms n' b' → Stops n' b' ns what → Stops n b (ms ++ ns) what
stops_then n b n' b' ms ns what p q rest = ap (λ l. first_passed n b l) (append_assoc ms ns rest) ∙ p (ns ++ rest) ∙ q rest

pub stops_early : (n b : ℕ) (ms ns : List Met) (what : TreeLimit) → Stops n b ms what → Stops n b (ms ++ ns) what
stops_early n b ms ns what p rest = ap (λ l. first_passed n b l) (append_assoc ms ns rest) ∙ p (ns ++ rest)

-- the first entry of what is left
pub leaves_entry : (n : List ℕ) (x : TreeNode) (d : Dir) → leaves_met (entry_of n x d) ≡ leaf_met x ++ leaves_met d
leaves_entry n (File b e t) d = refl
leaves_entry n (Link t) d = refl
leaves_entry n (Folder i) d = refl

-- what a subfolder adds
pub folders_entry : (depth : ℕ) (n : List ℕ) (x : TreeNode) (d : Dir) → folders_met (depth + 1) (entry_of n x d) ≡ inner_met depth x ++ folders_met (depth + 1) d
folders_entry depth n (File b e t) d = refl
folders_entry depth n (Link t) d = refl
folders_entry depth n (Folder i) d = refl

-- the whole walk
pub passed_none : (n b : ℕ) (d : Dir) → Passes 0 0 (met 0 d) n b → passed d ≡ None
passed_none n b d p = ap (λ l. first_passed 0 0 l) (sym (append-nil (met 0 d))) ∙ p []

pub passed_some : (d : Dir) (what : TreeLimit) → Stops 0 0 (met 0 d) what → passed d ≡ Some what
passed_some d what p = ap (λ l. first_passed 0 0 l) (sym (append-nil (met 0 d))) ∙ p []

-- what stops a walk stops it whatever it was to give
pub walks_err : {X Y : Type 0} (x : X) (y : Y) (ms ns : List Met) (n b n' b' n2 b2 : ℕ) (why : Stop) → ms ≡ ns → Walks x ms n b (Err why) n' b' → Walks y ns n b (Err why) n2 b2
walks_err x y ms ns n b n' b' n2 b2 stop.Missing e w = w
walks_err x y ms ns n b n' b' n2 b2 (stop.TooLarge what) e w = subst (λ l. Stops n b l what) e w
walks_err x y ms ns n b n' b' n2 b2 (stop.Fault f) e w = tt

-- also where it is passed on
pub walks_passed : {X Y : Type 0} (x : X) (y : Y) (ms ns : List Met) (n b n' b' n2 b2 : ℕ) (r : Result Y Stop) (passed why : Stop) → r ≡ Err passed → passed ≡ why → ms ≡ ns → Walks x ms n b (Err why) n' b' → Walks y ns n b r n2 b2
walks_passed x y ms ns n b n' b' n2 b2 r passed why e f g w = subst (λ z. Walks y ns n b z n2 b2) (sym (e ∙ ap Err f)) (walks_err x y ms ns n b n' b' n2 b2 why g w)

pub failed_passed : {X Y : Type 0} (r : Result X Stop) (passed why : Stop) → r ≡ Err passed → passed ≡ why → r ≡ Err (stop.Fault fault.Failed) → ◌≡◌ {A = Result Y Stop} (Err why) (Err (stop.Fault fault.Failed))
failed_passed r passed why e f h = ap Err (sym f ∙ inner passed (stop.Fault fault.Failed) (sym e ∙ h))
  where
    inner : {X : Type 0} (a b : Stop) → ◌≡◌ {A = Result X Stop} (Err a) (Err b) → a ≡ b
    inner a b k = cc k

-- a file of so many bytes
pub sized : (size : ℕ) (bytes read : List ℕ) → size ≡ length read → read ≡ bytes → ◌≡◌ {A = List Met} (record { depth = 0; size = size } ∷ []) (record { depth = 0; size = length bytes } ∷ [])
sized size bytes read e f = ap (λ z. record { depth = 0; size = z } ∷ []) (e ∙ ap length f)

-- the fault that a walk passes on
pub failed_is : {X Y : Type 0} (r : Result X Stop) (why : Stop) (f : ShelfFault) → r ≡ Err why → why ≡ stop.Fault f → r ≡ Err (stop.Fault fault.Failed) → ◌≡◌ {A = Result Y ShelfFault} (Err f) (Err fault.Failed)
failed_is r why f e g h =
    let same : f ≡ fault.Failed = inner f fault.Failed (inner_err (stop.Fault f) (stop.Fault fault.Failed) (ap Err (sym g) ∙ sym e ∙ h)) in
    ap Err same
  where
    inner_err : {X : Type 0} (a b : Stop) → ◌≡◌ {A = Result X Stop} (Err a) (Err b) → a ≡ b
    inner_err a b k = cc k

    inner : (a b : ShelfFault) → stop.Fault a ≡ stop.Fault b → a ≡ b
    inner a b k = cc k
