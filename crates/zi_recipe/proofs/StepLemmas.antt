-- Steps that are done, and the one that isn't.
use Rattle.std.proofs.Common.{◌≡◌, ℕ, ◌+◌, ◌<◌, inl, inr, Bool, List, [], ◌∷◌, ◌++◌, length, take, get_or, Option, Some, refl, sym, ap, subst, ◌∙◌}
use Rattle.std.specs.Prelude.{Result, Ok, Err, MatchResult, IsSome}
use Rattle.std.proofs.lemmas.List.{take_more}
use Rattle.std.proofs.lemmas.Option.{slice_get_read}
use Rattle.zi_tree.specs.Dir.{Dir, Nothing}
use Rattle.zi_tree.specs.Paths.{found, inserted, removed}
use Rattle.zi_tree.specs.declared.tree.TreeNode.{TreeNode}
use Rattle.zi_outside.specs.Views.{Holding, Feeding, holding}
use Rattle.zi_outside.proofs.AskingLemmas.{holding_asked}
use Rattle.zi_parts.specs.declared.types.Step.{Step}
use Rattle.zi_parts.specs.declared.types.Step.TheVariants.{File, Rename, Remove}
use Rattle.zi_recipe.specs.declared.fault.RecipeFault.{RecipeFault}
use Rattle.zi_recipe.specs.declared.fault.RecipeFault.TheVariants as fault
use Rattle.zi_recipe.specs.Steps.{Gives, file, Moves, Places, Does, DoesAll, GetFails, Overlaps, Lacks, FailsToPlace, FailsToMove, Fails}
use Rattle.zi_recipe.specs.Asking.{address, addresses, AreAsked, AsksAt, StopsAt}
use Rattle.zi_recipe.proofs.AskedLemmas.{asked_none, stopped_later}

-- nothing was asked for at a step on paths alone
pub lacks_quietly : (path : List (List ℕ)) (d : Dir) (e : RecipeFault) (seen : Feeding) → Lacks path d e → AsksAt e [] [] seen seen
lacks_quietly path d (fault.FetchRead href) seen l = absurd l
lacks_quietly path d (fault.NoRemote href) seen l = absurd l
lacks_quietly path d (fault.WrongSize href said got) seen l = absurd l
lacks_quietly path d (fault.Overlap p) seen l = absurd l
lacks_quietly path d (fault.NoPath p) seen l = asked_none seen
lacks_quietly path d (fault.TooLarge what limit) seen l = absurd l
lacks_quietly path d fault.Memory seen l = inl (asked_none seen)

-- what has no room had been asked for
pub overlaps_asked : (dest : List (List ℕ)) (placed : Option Dir) (e : RecipeFault) (last : List (List ℕ)) (old new : Feeding) → Overlaps dest placed e → AreAsked last old new → AsksAt e [] last old new
overlaps_asked dest placed (fault.FetchRead href) last old new o a = absurd o
overlaps_asked dest placed (fault.NoRemote href) last old new o a = absurd o
overlaps_asked dest placed (fault.WrongSize href said got) last old new o a = absurd o
overlaps_asked dest placed (fault.Overlap path) last old new o a = a
overlaps_asked dest placed (fault.NoPath path) last old new o a = absurd o
overlaps_asked dest placed (fault.TooLarge what limit) last old new o a = absurd o
overlaps_asked dest placed fault.Memory last old new o a = inr a

pub moves_quietly : (source dest : List (List ℕ)) (d : Dir) (e : RecipeFault) (seen : Feeding) → FailsToMove source dest d e → AsksAt e [] [] seen seen
moves_quietly source dest d e seen (inl l) = lacks_quietly source d e seen l
moves_quietly source dest d e seen (inr h) = overlaps_asked dest (inserted dest h.moved (removed source d)) e [] seen seen h.overlaps (asked_none seen)

-- Steps in a row.
done_more : (told : Option Holding) (d mid new : Dir) (ss : List Step) (s : Step) → DoesAll told d ss mid → Does told mid s new → DoesAll told d (ss ++ s ∷ []) new
done_more told d mid new [] s all one = (new, subst (λ (x : Dir). Does told x s new) all one, refl)
done_more told d mid new (x ∷ xs) s all one = (all.0, all.1, done_more told all.0 mid new xs s all.2 one)

pub done_next : (told : Option Holding) (ss : List Step) (i : ℕ) (s : Step) (mid new : Dir) → i < length ss → s ≡ get_or ss i s
    → DoesAll told Nothing (take i ss) mid → Does told mid s new → DoesAll told Nothing (take (i + 1) ss) new
done_next told ss i s mid new lt at all one =
    subst (λ l. DoesAll told Nothing l new) (sym (take_more ss i s lt ∙ ap (λ (x : Step). take i ss ++ x ∷ []) (sym at))) (done_more told Nothing mid new (take i ss) s all one)

pub stops : (ss : List Step) (i : ℕ) (s : Step) (tree : Dir) (old mid new : Feeding) (e : RecipeFault) → i < length ss → s ≡ get_or ss i s
    → DoesAll (holding old) Nothing (take i ss) tree → AreAsked (addresses (take i ss)) old mid
    → Fails (holding mid) tree s e → AsksAt e [] (address s) mid new → StopsAt ss old e new
stops ss i s tree old mid new e lt at all asked fails asks = record {
  n = i;
  step = s;
  next = slice_get_read ss (length ss) i s refl lt at;
  tree = tree;
  done = all;
  fails = subst (λ (told : Option Holding). Fails told tree s e) (holding_asked (addresses (take i ss)) old mid asked.asks) fails;
  asks = stopped_later e (addresses (take i ss)) (address s) old mid new asked asks;
}

-- The answers of the parts of a step, put together.
pub placed_file : (told : Option Holding) (href : List ℕ) (size : ℕ) (dest : List (List ℕ)) (exec : Bool) (d new : Dir) (bytes : List ℕ) (r : Result (Unit {0}) RecipeFault)
    → Gives told href size bytes → MatchResult r (λ _. inserted dest (file bytes exec) d ≡ Some new) (Overlaps dest (inserted dest (file bytes exec) d))
    → MatchResult r (λ _. Places told href size dest exec d new) (FailsToPlace told href size dest exec d)
placed_file told href size dest exec d new bytes (Ok u) gives p = record { bytes = bytes; gives = gives; placed = p }
placed_file told href size dest exec d new bytes (Err e) gives p = inr (record { bytes = bytes; gives = gives; overlaps = p })

pub placed_asked : (P : Type 0) (dest : List (List ℕ)) (placed : Option Dir) (last : List (List ℕ)) (old new : Feeding) (r : Result (Unit {0}) RecipeFault)
    → MatchResult r (λ _. P) (Overlaps dest placed) → AreAsked last old new → MatchResult r (λ _. AreAsked last old new) (λ e. AsksAt e [] last old new)
placed_asked P dest placed last old new (Ok u) p a = a
placed_asked P dest placed last old new (Err e) p a = overlaps_asked dest placed e last old new p a

pub moved_asked : (source dest : List (List ℕ)) (d new : Dir) (seen : Feeding) (r : Result (Unit {0}) RecipeFault)
    → MatchResult r (λ _. Moves source dest d new) (FailsToMove source dest d) → MatchResult r (λ _. AreAsked [] seen seen) (λ e. AsksAt e [] [] seen seen)
moved_asked source dest d new seen (Ok u) m = asked_none seen
moved_asked source dest d new seen (Err e) m = moves_quietly source dest d e seen m

pub removed_asked : (P : Type 0) (path : List (List ℕ)) (d : Dir) (seen : Feeding) (r : Result (Unit {0}) RecipeFault)
    → MatchResult r (λ _. P) (Lacks path d) → MatchResult r (λ _. AreAsked [] seen seen) (λ e. AsksAt e [] [] seen seen)
removed_asked P path d seen (Ok u) m = asked_none seen
removed_asked P path d seen (Err e) m = lacks_quietly path d e seen m

-- The same at a step of its kind.
module _ (told : Option Holding) (d : Dir) (s : Step) (href : List ℕ) (size : ℕ) (dest : List (List ℕ)) (exec : Bool) where
  pub file_fails : (new : Dir) (r : Result (Unit {0}) RecipeFault) (e : RecipeFault) → s ≡ File href size dest exec → r ≡ Err e → GetFails told href size e
      → MatchResult r (λ _. Does told d s new) (Fails told d s)
  file_fails new r e is err g =
      subst (λ q. MatchResult q (λ _. Does told d s new) (Fails told d s)) (sym err) (subst (λ t. Fails told d t e) (sym is) (inl g))

  pub file_asks : (old new : Feeding) (r : Result (Unit {0}) RecipeFault) (e : RecipeFault) → s ≡ File href size dest exec → r ≡ Err e → AsksAt e [] (href ∷ []) old new
      → MatchResult r (λ _. AreAsked (address s) old new) (λ f. AsksAt f [] (address s) old new)
  file_asks old new r e is err a =
      subst (λ q. MatchResult q (λ _. AreAsked (address s) old new) (λ f. AsksAt f [] (address s) old new)) (sym err) (subst (λ t. AsksAt e [] (address t) old new) (sym is) a)

  pub file_does : (new : Dir) (bytes : List ℕ) (x : TreeNode) (r : Result (Unit {0}) RecipeFault) → s ≡ File href size dest exec → x ≡ file bytes exec → Gives told href size bytes
      → MatchResult r (λ _. inserted dest x d ≡ Some new) (Overlaps dest (inserted dest x d)) → MatchResult r (λ _. Does told d s new) (Fails told d s)
  file_does new bytes x r is node gives m =
      subst (λ t. MatchResult r (λ _. Does told d t new) (Fails told d t)) (sym is)
      (placed_file told href size dest exec d new bytes r gives (subst (λ (y : TreeNode). MatchResult r (λ _. inserted dest y d ≡ Some new) (Overlaps dest (inserted dest y d))) node m))

  pub file_asked : (old new : Feeding) (P : Type 0) (placed : Option Dir) (r : Result (Unit {0}) RecipeFault) → s ≡ File href size dest exec → AreAsked (href ∷ []) old new
      → MatchResult r (λ _. P) (Overlaps dest placed) → MatchResult r (λ _. AreAsked (address s) old new) (λ f. AsksAt f [] (address s) old new)
  file_asked old new P placed r is a m =
      subst (λ t. MatchResult r (λ _. AreAsked (address t) old new) (λ f. AsksAt f [] (address t) old new)) (sym is) (placed_asked P dest placed (href ∷ []) old new r m a)

pub rename_asked : (s : Step) (source dest : List (List ℕ)) (d new : Dir) (seen : Feeding) (r : Result (Unit {0}) RecipeFault) → s ≡ Rename source dest
    → MatchResult r (λ _. Moves source dest d new) (FailsToMove source dest d) → MatchResult r (λ _. AreAsked (address s) seen seen) (λ f. AsksAt f [] (address s) seen seen)
rename_asked s source dest d new seen r is m =
    subst (λ t. MatchResult r (λ _. AreAsked (address t) seen seen) (λ f. AsksAt f [] (address t) seen seen)) (sym is) (moved_asked source dest d new seen r m)

pub rename_does : (told : Option Holding) (s : Step) (source dest : List (List ℕ)) (d new : Dir) (r : Result (Unit {0}) RecipeFault) → s ≡ Rename source dest
    → MatchResult r (λ _. Moves source dest d new) (FailsToMove source dest d) → MatchResult r (λ _. Does told d s new) (Fails told d s)
rename_does told s source dest d new r is m = subst (λ t. MatchResult r (λ _. Does told d t new) (Fails told d t)) (sym is) m

pub remove_asked : (P : Type 0) (s : Step) (path : List (List ℕ)) (d : Dir) (seen : Feeding) (r : Result (Unit {0}) RecipeFault) → s ≡ Remove path
    → MatchResult r (λ _. P) (Lacks path d) → MatchResult r (λ _. AreAsked (address s) seen seen) (λ f. AsksAt f [] (address s) seen seen)
remove_asked P s path d seen r is m =
    subst (λ t. MatchResult r (λ _. AreAsked (address t) seen seen) (λ f. AsksAt f [] (address t) seen seen)) (sym is) (removed_asked P path d seen r m)

pub remove_does : (told : Option Holding) (s : Step) (path : List (List ℕ)) (d new : Dir) (r : Result (Unit {0}) RecipeFault) → s ≡ Remove path
    → MatchResult r (λ _. IsSome (found path d) × (new ≡ removed path d)) (Lacks path d) → MatchResult r (λ _. Does told d s new) (Fails told d s)
remove_does told s path d new r is m = subst (λ t. MatchResult r (λ _. Does told d t new) (Fails told d t)) (sym is) m
