-- What the entries of a trail say of their hints, one by one, and how far the backward pass has come.
use Rattle.std.specs.Prelude.{◌≡◌, ◌≤◌, ◌<◌, ℕ, ◌==◌, Bool, true, false, cond, List, [], ◌∷◌, length, take, drop, ◌++◌, slice_index_or, Option, Some, None, ◌⊎◌}
use Rattle.zi_formula.specs.declared.formula.Lit.{Lit}
use Rattle.zi_formula.specs.declared.formula.Constraint.{Constraint}
use Rattle.zi_formula.specs.declared.formula.Constraint.TheVariants.{Clause, AtMostOne}
use Rattle.zi_proof.specs.Known.{Known, nothing, put, is_open, is_true, clause_step, Goes}
use Rattle.zi_proof.specs.Taken.{known_after}
use Rattle.zi_proof.specs.Accepted.{cited, step_cited}
use Rattle.zi_proof.specs.declared.proof.Lemma.{Lemma}
use Rattle.zi_sat.specs.declared.entry.Entry.{Entry}
use Rattle.zi_sat.specs.declared.entry.Why.{Why}
use Rattle.zi_sat.specs.declared.entry.Why.TheVariants.{Decision, Hint}
use Rattle.zi_sat.specs.Trail.{known_from, lits_of}
use Rattle.zi_sat.specs.Moves.{hinted}
use Rattle.zi_sat.specs.Watching.{QuietAt}
use Rattle.zi_sat.specs.Marking.{Inside, Explains, among, lesson, Covered}

-- the next entry has the same hint, and comes to the same
abbrev pub GoesOn : List Constraint → Known → ℕ → Known → List Entry → Type 0
GoesOn all k h g [] = ⊥
GoesOn all k h g (e ∷ es) = (e.why ≡ Hint h) × (step_cited k (cited all h) ≡ Goes g)

-- The hint, from what is known before the entry, makes its literal true. It makes no other, or the next entry is its too.
pub record Linked (all : List Constraint) (k : Known) (l : Lit) (h : ℕ) (es : List Entry) : Type 0 where
  pub made : Known
  pub goes : step_cited k (cited all h) ≡ Goes made
  pub holds : is_true made l ≡ true
  pub ends : (put k l ≡ made) ⊎ GoesOn all (put k l) h made es

abbrev pub LinkBy : List Constraint → Known → Lit → Why → List Entry → Type 0
LinkBy all k l Decision es = Unit {0}
LinkBy all k l (Hint h) es = Linked all k l h es

abbrev pub Chained : List Constraint → Known → List Entry → Type 0
Chained all k [] = Unit {0}
Chained all k (e ∷ es) = LinkBy all k e.lit e.why es × Chained all (put k e.lit) es

-- what is known once the hint of the next entry was walked
abbrev pub range_by : List Constraint → Known → Why → Known
range_by all k Decision = k
range_by all k (Hint h) = known_after k (step_cited k (cited all h))

abbrev pub range : List Constraint → Known → List Entry → Known
range all k [] = k
range all k (e ∷ es) = range_by all k e.why

-- the hint that was kept last
abbrev pub newest : List ℕ → ℕ
newest [] = 0
newest (h ∷ hs) = h

abbrev pub Fronted : List Entry → List ℕ → Type 0
Fronted [] hs = ⊥
Fronted (e ∷ es) hs = e.why ≡ Hint (newest hs)

-- The hints explain the conflict, `es` being the entries that the pass has gone over, and `k` what is known before them.
abbrev pub Explained : List Constraint → Known → List Entry → Known → List ℕ → Type 0
Explained all k es m hs = Explains all (range all k es) m hs ⊎ (Explains all k m hs × Fronted es hs)

-- the hint is kept, a group's once
abbrev pub is_group : Option Constraint → Bool
is_group None = false
is_group (Some (Clause ls)) = false
is_group (Some (AtMostOne xs)) = true

abbrev pub kept_by : Bool → ℕ → List ℕ → List ℕ
kept_by true h hs = cond (newest hs == h) hs (h ∷ hs)
kept_by false h hs = h ∷ hs

abbrev pub kept_hints : Option Constraint → ℕ → List ℕ → List ℕ
kept_hints c h hs = kept_by (is_group c) h hs

-- The pass has come to the place `i` of the trail: what is marked is known before it, and the hints explain the conflict.
pub record Reached (all : List Constraint) (es : List Entry) (i : ℕ) (m : Known) (hs : List ℕ) : Type 0 where
  pub held : i ≤ length es
  pub inside : Inside m (known_from (take i es))
  pub explained : Explained all (known_from (take i es)) (drop i es) m hs

-- a reason is that the decider picked the literal
abbrev pub decides : Why → Bool
decides Decision = true
decides (Hint h) = false

-- What an analysis comes to: the lemma that was added, and how many entries stay. `start` is the place of the last decision.
pub record Learned (all : List Constraint) (es : List Entry) (start keep : ℕ) (ms ns : List Lemma) : Type 0 where
  pub marked : Known
  pub hints : List ℕ
  pub place : ℕ
  pub added : ns ≡ ms ++ lesson marked (lits_of es) hints ∷ []
  pub reached : Reached all es place marked hints
  pub alone : length (among marked (lits_of (drop start es))) ≡ 1
  pub bound : keep ≤ start
  pub decided : (d : Entry) → (slice_index_or es keep d).why ≡ Decision
  pub behind : among marked (lits_of (drop keep (take start es))) ≡ []
  pub covered : Covered marked (take keep es)

-- the same where no decision was made: the pass has gone over all entries
pub record LearnedAll (all : List Constraint) (es : List Entry) (ms ns : List Lemma) : Type 0 where
  pub marked : Known
  pub hints : List ℕ
  pub added : ns ≡ ms ++ lesson marked (lits_of es) hints ∷ []
  pub reached : Reached all es 0 marked hints

-- The last literal of the clause is undecided and the others are false.
pub record Speaks (k : Known) (ls : List Lit) : Type 0 where
  pub front : List Lit
  pub last : Lit
  pub lits : ls ≡ front ++ last ∷ []
  pub undecided : is_open (k last.variable) ≡ true
  pub makes : clause_step k ls ≡ Goes (put k last)

-- The trail `es` is cut to `fs`, at a decision. There the lemma, whose literals are `ls`, makes its last one true; before each
-- decision that stays that one and the one before it aren't false.
pub record Cut (es fs : List Entry) (ls : List Lit) : Type 0 where
  pub place : ℕ
  pub within : place < length es
  pub decided : (d : Entry) → (slice_index_or es place d).why ≡ Decision
  pub cut : fs ≡ take place es
  pub speaks : Speaks (known_from fs) ls
  pub calm : (rest : List Lit) (z : Lit) → speaks.front ≡ rest ++ z ∷ [] → QuietAt ls speaks.last z nothing fs

-- What a conflict leaves: one lemma more, and the trail cut for it.
pub record Grown (ms ns : List Lemma) (es fs : List Entry) : Type 0 where
  pub lemma : Lemma
  pub added : ns ≡ ms ++ lemma ∷ []
  pub cut : Cut es fs lemma.lits

-- the trail has the last literal of a clause more, with the clause's hint
abbrev pub Spoke : List Entry → List Entry → List Lit → Type 0
Spoke es fs ls = (h : ℕ) × ((front : List Lit) (l : Lit) → ls ≡ front ++ l ∷ [] → fs ≡ es ++ hinted h (l ∷ []))
