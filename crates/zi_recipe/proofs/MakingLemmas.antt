-- The answers of the whole.
use Rattle.std.proofs.Common.{◌≡◌, ℕ, ◌<◌, ◌≤◌, inl, inr, Bool, true, false, List, None, refl, sym, ap, subst, ◌∙◌, arith}
use Rattle.std.specs.Prelude.{nat_lt}
use Rattle.std.proofs.lemmas.Bool.Decides.{nat_tests}
use Rattle.zi_tree.specs.Dir.{Dir, Nothing}
use Rattle.zi_tree.specs.declared.change.TreeLimit.TheVariants.{Size}
use Rattle.zi_outside.specs.Views.{Feeding, holding}
use Rattle.zi_parts.specs.declared.types.Method.{Method}
use Rattle.zi_parts.specs.declared.types.Step.{Step}
use Rattle.zi_recipe.specs.declared.fault.RecipeFault.{RecipeFault}
use Rattle.zi_recipe.specs.declared.fault.RecipeFault.TheVariants as fault
use Rattle.zi_tree.specs.Limits.{size_limit, limit_of}
use Rattle.zi_recipe.specs.Limits.{said_size, passed, Passes}
use Rattle.zi_recipe.specs.Steps.{DoesAll}
use Rattle.zi_recipe.specs.Asking.{addresses, AreAsked, StopsAt}
use Rattle.zi_recipe.specs.Making.{Makes, Refuses}

pub small : (n : ℕ) (b : Bool) → b ≡ nat_lt size_limit n → b ≡ false → n ≤ size_limit
small n b is below = let e : nat_lt size_limit n ≡ false = sym is ∙ below in grind (arith, nat_tests)

large : (n : ℕ) (b : Bool) → b ≡ nat_lt size_limit n → b ≡ true → size_limit < n
large n b is above = let e : nat_lt size_limit n ≡ true = sym is ∙ above in grind (arith, nat_tests)

pub says_too_much : (m : Method) (steps : List Step) (b : Bool) (e : RecipeFault) (seen : Feeding) → steps ≡ m.steps → b ≡ nat_lt size_limit (said_size steps) → b ≡ true
    → e ≡ fault.TooLarge Size (limit_of Size) → Refuses m seen e seen
says_too_much m steps b e seen same is above fault_is =
    inl (record { passes = large (said_size m.steps) b (is ∙ ap (λ ss. nat_lt size_limit (said_size ss)) same) above; is = fault_is; same = refl })

module _ (m : Method) (steps : List Step) (b : Bool) (old new : Feeding) (same : steps ≡ m.steps) (is : b ≡ nat_lt size_limit (said_size steps)) (below : b ≡ false) where
  few : said_size m.steps ≤ size_limit
  few = small (said_size m.steps) b (is ∙ ap (λ ss. nat_lt size_limit (said_size ss)) same) below

  pub stops_making : (e : RecipeFault) → StopsAt steps old e new → Refuses m old e new
  stops_making e s = inr (inl (record { small = few; stops = subst (λ ss. StopsAt ss old e new) same s }))

  pub makes_too_much : (t : Dir) (e : RecipeFault) → DoesAll (holding old) Nothing steps t → AreAsked (addresses steps) old new → Passes t e → Refuses m old e new
  makes_too_much t e done asked p =
      inr (inr (record { small = few; tree = t; steps = subst (λ ss. DoesAll (holding old) Nothing ss t) same done; passes = p; asked = subst (λ ss. AreAsked (addresses ss) old new) same asked }))

  pub makes : (t : Dir) → DoesAll (holding old) Nothing steps t → AreAsked (addresses steps) old new → passed t ≡ None → Makes m old t new
  makes t done asked p =
      record { small = few; steps = subst (λ ss. DoesAll (holding old) Nothing ss t) same done; within = p; asked = subst (λ ss. AreAsked (addresses ss) old new) same asked }
