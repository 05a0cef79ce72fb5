-- What each constraint watches, and why it needn't be looked at before what it watches becomes false.
use Rattle.std.specs.Prelude.{◌≡◌, ◌≢◌, ◌⊎◌, ◌≤◌, ◌+◌, ◌*◌, ℕ, Bool, true, false, cond, List, [], ◌∷◌, ◌++◌, length, take, slice_index_or, Option, Some, None, Result, Ok, Err}
use Rattle.std.specs.List.{All}
use Rattle.std.specs.List.{slice_get}
use Rattle.zi_text.specs.declared.memory.Memory.{Memory}
use Rattle.zi_formula.specs.declared.formula.Lit.{Lit}
use Rattle.zi_formula.specs.declared.formula.Constraint.{Constraint}
use Rattle.zi_formula.specs.declared.formula.Constraint.TheVariants.{Clause, AtMostOne}
use Rattle.zi_formula.specs.Form.{has_lit, same_lit}
use Rattle.zi_formula.specs.declared.formula.Formula.{Formula}
use Rattle.zi_proof.specs.declared.proof.Lemma.{Lemma}
use Rattle.zi_proof.specs.Accepted.{citable}
use Rattle.zi_sat.specs.declared.entry.Entry.{Entry}
use Rattle.zi_proof.specs.Known.{Known, nothing, Contradiction, step, is_true, is_false}
use Rattle.zi_sat.specs.Trail.{silent, known_from}
use Rattle.zi_sat.specs.Rows.{In, Has, At, row_at}
use Rattle.zi_sat.specs.Watching.{SomeTrue, QuietBy, QuietAt, Watches}
use Rattle.zi_sat.specs.declared.rows.Watcher.{Watcher}
use Rattle.zi_sat.specs.declared.watch.Visit.{Visit}
use Rattle.zi_sat.specs.declared.watch.Visit.TheVariants.{Stays, Moves, Clashes}
use Rattle.zi_sat.specs.declared.pair.Pair.{Pair}
use Rattle.zi_sat.specs.declared.watches.Watches.{Watches as Lists}

-- a constraint that was looked at until it was silent, or the contradiction
abbrev pub Exhausted : Known → Constraint → Result Bool Memory → Type 0
Exhausted k c (Ok true) = step k c ≡ Contradiction
Exhausted k c (Ok false) = silent k c ≡ true
Exhausted k c (Err e) = Unit {0}

-- the row of a literal
abbrev pub row_of : Lit → ℕ
row_of l = l.variable * 2 + cond l.positive 1 0

abbrev pub denied : ℕ → Lit
denied x = record { variable = x; positive = false }

abbrev pub pair_at : List (Option Pair) → ℕ → Option Pair
pair_at ps n = slice_index_or ps n None

-- the other literal of a pair that has `l`
abbrev pub Beside : Pair → Lit → Lit → Type 0
Beside p l o = ((p.first ≡ l) × (p.second ≡ o)) ⊎ ((p.second ≡ l) × (p.first ≡ o))

abbrev pub Lacks : Pair → Lit → Type 0
Lacks p l = (p.first ≡ l → ⊥) × (p.second ≡ l → ⊥)

-- What a constraint of number n needs of the lists: a clause of two literals or more stands in the rows of the two that it
-- watches, one with fewer in none, and a group in the rows of the opposites of all its variables.
abbrev pub HeldPair : (ℕ → ℕ → Type 0) → ℕ → List Lit → Option Pair → Type 0
HeldPair has n ls None = length ls ≤ 1
HeldPair has n ls (Some p) = Watches ls p.first p.second × has (row_of p.first) n × has (row_of p.second) n

abbrev pub Held : (ℕ → ℕ → Type 0) → ℕ → Option Pair → Constraint → Type 0
Held has n p (Clause ls) = HeldPair has n ls p
Held has n p (AtMostOne xs) = (x : ℕ) → In x xs → has (row_of (denied x)) n

-- Where a variable of a group was looked at while true, the others are false.
abbrev pub Looked : Known → Known → List ℕ → Type 0
Looked q k xs = (x y : ℕ) → In x xs → In y xs → q x ≡ Some true → y ≢ x → k y ≡ Some false

-- Why it needn't be looked at: `q` is what is known by the entries that were looked at, `k` by all.
abbrev pub GuardPair : Known → Known → List Lit → Option Pair → Type 0
GuardPair q k ls None = Unit {0}
GuardPair q k ls (Some p) = QuietBy q k ls p.first p.second

abbrev pub Guard : Known → Known → Option Pair → Constraint → Type 0
Guard q k p (Clause ls) = GuardPair q k ls p
Guard q k p (AtMostOne xs) = Looked q k xs

-- What a look at a clause does where `l` became false: nothing where it doesn't watch `l`, or one of its literals is true now;
-- else another pair, whose first isn't false, stands in place of the one that has `l`.
abbrev pub StaysPair : List Lit → Lit → Known → Option Pair → Option Pair → Type 0
StaysPair ls l k None r = r ≡ None
StaysPair ls l k (Some p) r = (r ≡ Some p) × (Lacks p l ⊎ SomeTrue k ls)

abbrev pub MovesPair : List Lit → Lit → Known → Option Pair → Option Pair → Pair → Type 0
MovesPair ls l k None r n = ⊥
MovesPair ls l k (Some p) r n =
    Beside p l n.second × (r ≡ Some n) × (has_lit ls n.first ≡ true) × (same_lit n.first n.second ≡ false) × (is_false k n.first ≡ false)

abbrev pub StaysAt : Constraint → Lit → Known → Option Pair → Option Pair → Type 0
StaysAt (Clause ls) l k p r = StaysPair ls l k p r
StaysAt (AtMostOne xs) l k p r = (r ≡ p) × (silent k (AtMostOne xs) ≡ true)

abbrev pub MovesAt : Constraint → Lit → Known → Option Pair → Option Pair → Pair → Type 0
MovesAt (Clause ls) l k p r n = MovesPair ls l k p r n
MovesAt (AtMostOne xs) l k p r n = ⊥

abbrev pub Visited : Constraint → Lit → Known → Option Pair → Option Pair → Visit → Type 0
Visited c l k p r Clashes = (step k c ≡ Contradiction) × (r ≡ p)
Visited c l k p r Stays = StaysAt c l k p r
Visited c l k p r (Moves n) = MovesAt c l k p r n

abbrev pub Looks : Constraint → Lit → Known → Option Pair → Option Pair → Result Visit Memory → Type 0
Looks c l k p r (Ok v) = Visited c l k p r v
Looks c l k p r (Err e) = Unit {0}

-- a constraint of which no literal is watched in place of another
abbrev pub StaysOrClashes : Known → Constraint → Result Visit Memory → Type 0
StaysOrClashes k c (Ok Stays) = silent k c ≡ true
StaysOrClashes k c (Ok (Moves n)) = ⊥
StaysOrClashes k c (Ok Clashes) = step k c ≡ Contradiction
StaysOrClashes k c (Err e) = Unit {0}

abbrev pub IfPair : Option Pair → (Pair → Type 0) → Type 0
IfPair None P = Unit {0}
IfPair (Some p) P = P p

-- each constraint or lemma, by its place
abbrev pub Each : List Constraint → (ℕ → Constraint → Type 0) → Type 0
Each all P = (n : ℕ) (c : Constraint) → slice_get all n ≡ Some c → P n c

-- The literal beside the place of what stands in the row q: one of the clause, or that of the row.
abbrev pub Blocks : Constraint → ℕ → Lit → Type 0
Blocks (Clause ls) q b = has_lit ls b ≡ true
Blocks (AtMostOne xs) q b = row_of b ≡ q

abbrev pub Fits : List Constraint → ℕ → Watcher → Type 0
Fits all q w = (c : Constraint) × (slice_get all w.place ≡ Some c) × Blocks c q w.block

-- each watcher stands for a constraint or lemma, beside such a literal
abbrev pub AllFit : List (List Watcher) → List Constraint → Type 0
AllFit rows all = (q : ℕ) → All (Fits all q) (row_at rows q)

abbrev pub EachHeld : List (List Watcher) → List (Option Pair) → List Constraint → Type 0
EachHeld rows pairs all = Each all (λ n c. Held (Has rows) n (pair_at pairs n) c)

abbrev pub AllHeld : Lists → List Constraint → Type 0
AllHeld w all = EachHeld w.rows w.pairs all × AllFit w.rows all

abbrev pub AllGuard : Known → Known → Lists → List Constraint → Type 0
AllGuard q k w all = Each all (λ n c. Guard q k (pair_at w.pairs n) c)

-- before each decision of the trail the pair was quiet
abbrev pub CalmPair : List Entry → List Lit → Option Pair → Type 0
CalmPair es ls None = Unit {0}
CalmPair es ls (Some p) = QuietAt ls p.first p.second nothing es

abbrev pub Calm : List Entry → Option Pair → Constraint → Type 0
Calm es p (Clause ls) = CalmPair es ls p
Calm es p (AtMostOne xs) = Unit {0}

abbrev pub AllCalm : Lists → List Entry → List Constraint → Type 0
AllCalm w es all = Each all (λ n c. Calm es (pair_at w.pairs n) c)

-- a clause of one literal, once it is true
abbrev pub Firm : Known → List Lit → Type 0
Firm k [] = ⊥
Firm k (l ∷ ls) = is_true k l ≡ true

abbrev pub ShortSet : Known → List Constraint → Type 0
ShortSet k all = (n : ℕ) (ls : List Lit) → slice_get all n ≡ Some (Clause ls) → length ls ≤ 1 → Firm k ls

-- the lists fit the constraints and lemmas
abbrev pub Fitting : Lists → Formula → List Lemma → Type 0
Fitting w f ms =
    AllHeld w (citable f.constraints ms) × (length w.pairs ≡ length f.constraints + length ms) × (f.variables * 2 + 2 ≤ length w.rows)

-- and nothing has to be looked at for the entries before a decision, where the trail goes back to it
abbrev pub Steady : Lists → Formula → List Lemma → List Entry → Type 0
Steady w f ms es = Fitting w f ms × AllCalm w es (citable f.constraints ms)

-- and nothing need be looked at but for the entries that weren't looked at yet
abbrev pub Ready : Lists → Formula → List Lemma → List Entry → Type 0
Ready w f ms es =
    Steady w f ms es × (w.seen ≤ length es) × AllGuard (known_from (take w.seen es)) (known_from es) w (citable f.constraints ms)
    × ((w.seen ≡ 0) ⊎ ShortSet (known_from es) (citable f.constraints ms))

-- a clause watches its last two
abbrev pub LastTwo : Constraint → Option Pair → Type 0
LastTwo (Clause ls) None = Unit {0}
LastTwo (Clause ls) (Some p) = (front : List Lit) × (ls ≡ front ++ p.second ∷ p.first ∷ [])
LastTwo (AtMostOne xs) p = Unit {0}

-- one constraint more is held
pub record Adds (w v : Lists) (c : Constraint) : Type 0 where
  pub pair : Option Pair
  pub pairs : v.pairs ≡ w.pairs ++ pair ∷ []
  pub held : Held (Has v.rows) (length w.pairs) pair c
  pub last : LastTwo c pair
  pub grows : (q m : ℕ) → Has w.rows q m → Has v.rows q m
  pub fits : (all : List Constraint) → length all ≡ length w.pairs → AllFit w.rows all → AllFit v.rows (all ++ c ∷ [])
