-- What a get of a file's bytes finds.
use Rattle.std.proofs.Common.{◌≡◌, ℕ, ◌+◌, ◌<◌, ◌≤◌, min, List, [], ◌∷◌, ◌++◌, length, Option, Some, None, refl, sym, ap, subst, ◌∙◌, arith}
use Rattle.std.specs.Prelude.{Result, Ok, Err, MatchResult, IfSome, IsSomeAnd, ◌≢◌}
use Rattle.zi_outside.specs.Views.{Holding, Feeding, holding}
use Rattle.zi_outside.specs.Outside.{Query, Gets}
use Rattle.zi_outside.specs.declared.feeds.Got.TheVariants.{Held, TooLong}
use Rattle.zi_recipe.specs.declared.fault.RecipeFault.{RecipeFault}
use Rattle.zi_recipe.specs.declared.fault.RecipeFault.TheVariants as fault
use Rattle.zi_recipe.specs.Steps.{IsHeld, Gives, GetFails}
use Rattle.zi_recipe.specs.Asking.{AreAsked, AsksAt}

-- as many bytes as were got
abbrev pub Measures : List ℕ → ℕ → List ℕ → Result (List ℕ) RecipeFault → Type 0
Measures named size bytes r =
    MatchResult r (λ b. (b ≡ bytes) × (length bytes ≡ size)) (λ e. (e ≡ fault.WrongSize named size (length bytes)) × (length bytes ≢ size))

wrong : (told : Option Holding) (href : List ℕ) (size got : ℕ) (P : List ℕ → Type 0) → IfSome told (λ holds. IsSomeAnd (holds href) P)
    → ((bytes : List ℕ) → P bytes → got ≡ min (length bytes) (size + 1)) → IfSome told (λ holds. IsSomeAnd (holds href) (λ bytes. got ≡ min (length bytes) (size + 1)))
wrong None href size got P h f = tt
wrong (Some holds) href size got P h f = by (holds href) h
  where
    by : (o : Option (List ℕ)) → IsSomeAnd o P → IsSomeAnd o (λ bytes. got ≡ min (length bytes) (size + 1))
    by None h = absurd h
    by (Some bytes) h = f bytes h

there : (told : Option Holding) (href bytes : List ℕ) → IsHeld told href (Some bytes) → IfSome told (λ holds. IsSomeAnd (holds href) (λ b. b ≡ bytes))
there None href bytes h = tt
there (Some holds) href bytes h = subst (λ o. IsSomeAnd o (λ b. b ≡ bytes)) (sym h) refl

module _ (before after : Feeding) (href named : List ℕ) (size : ℕ) (start : List ℕ) where
  abbrev query : Query
  query = record { key = href; limit = size; buffer = start }

  -- bytes are held
  pub fetched_held : (bytes : List ℕ) (r : Result (List ℕ) RecipeFault) → named ≡ href → start ≡ [] → Gets before query (Ok Held) bytes after → Measures named size bytes r
      → MatchResult r (λ b. Gives (holding before) href size b) (GetFails (holding before) href size)
  fetched_held bytes (Ok b) name none gets m =
      let found = gets.0 in
      let is : bytes ≡ found.0 = found.1 ∙ ap (λ q. q ++ found.0) none in
      record { held = subst (λ x. IsHeld (holding before) href (Some x)) (sym (m.0 ∙ is)) found.3; whole = ap length m.0 ∙ m.1 }
  fetched_held bytes (Err e) name none gets m =
      let found = gets.0 in
      let is : length found.0 ≡ length bytes = ap length (sym (found.1 ∙ ap (λ q. q ++ found.0) none)) in
      let le : length found.0 ≤ size = found.2 in
      let got = wrong (holding before) href size (length bytes) (λ b. b ≡ found.0) (there (holding before) href found.0 found.3)
      (λ b same. let n : length b ≡ length found.0 = ap length same in omega arith) in
      subst (λ f. GetFails (holding before) href size f) (sym m.0) (name, refl, m.1, got)

  pub asked_held : (bytes : List ℕ) (r : Result (List ℕ) RecipeFault) → Gets before query (Ok Held) bytes after → Measures named size bytes r
      → MatchResult r (λ _. AreAsked (href ∷ []) before after) (λ e. AsksAt e [] (href ∷ []) before after)
  asked_held bytes (Ok b) gets m = record { asks = gets.1; faults = gets.2 }
  asked_held bytes (Err e) gets m = subst (λ f. AsksAt f [] (href ∷ []) before after) (sym m.0) (record { asks = gets.1; faults = gets.2 })

  -- there are more
  pub fetched_more : (bytes : List ℕ) → named ≡ href → Gets before query (Ok TooLong) bytes after → GetFails (holding before) href size (fault.WrongSize named size (size + 1))
  fetched_more bytes name gets =
      let differ : size + 1 ≢ size = λ e. omega arith in
      (name, refl, differ, wrong (holding before) href size (size + 1) (λ b. size < length b) gets.0.1 (λ b lt. omega arith))
