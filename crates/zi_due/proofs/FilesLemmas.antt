-- What a file gives, by what the feeds hold, and that its bytes are bad at one line at most.
use Rattle.std.proofs.Common.{◌≡◌, ℕ, ◌-◌, ◌<◌, ◌≤◌, nat_lt, Bool, true, false, List, length, refl, sym, ap, subst, ◌∙◌, arith, rules, Option, Some, None, Result, Ok, Err, if◌then◌else◌}
use Rattle.std.specs.Prelude.{IfSome, IsSomeAnd}
use Rattle.zi_text.specs.Front.{StopsAt}
use Rattle.zi_outside.specs.Views.{Holding, Feeding, holding}
use Rattle.zi_outside.specs.Outside.{Asks}
use Rattle.zi_outcome.specs.declared.outcome.Outcome.{Outcome}
use Rattle.zi_outcome.specs.declared.outcome.Outcome.TheVariants.{NoFile, FeedTooLong}
use Rattle.zi_world.specs.Files.{AsksFor, GetsWithin, IsAbsent, IsLonger}
use Rattle.zi_world.proofs.AskingLemmas.{asks_stay}
use Rattle.zi_due.specs.Files.{got}

-- feeds hold what they held
pub holds_on : {keys : List (List ℕ)} (old new : Feeding) (holds : Holding) → Asks keys old new → holding old ≡ Some holds → holding new ≡ Some holds
holds_on {keys} old new holds a e = (asks_stay keys old new a).holds ∙ e

lt_true : (a b : ℕ) → a < b → nat_lt a b ≡ true
lt_true a b h = search (rules, h)

lt_false : (a b : ℕ) → b ≤ a → nat_lt a b ≡ false
lt_false a b h = search (rules, h)

-- by whether it has too many bytes
abbrev by_length : ℕ → List ℕ → List ℕ → Bool → Result (List ℕ) Outcome
by_length limit file bytes b = if b then Err (FeedTooLong file limit) else Ok bytes

pub held_got : (limit : ℕ) (file : List ℕ) (o : Option (List ℕ)) (bytes : List ℕ) → o ≡ Some bytes → length bytes ≤ limit → got limit file o ≡ Ok bytes
held_got limit file o bytes is small = ap (got limit file) is ∙ ap (by_length limit file bytes) (lt_false limit (length bytes) small)

pub large_got : (limit : ℕ) (file : List ℕ) (o : Option (List ℕ)) → IsSomeAnd o (λ bytes. limit < length bytes) → got limit file o ≡ Err (FeedTooLong file limit)
large_got limit file None h = absurd h
large_got limit file (Some bytes) h = ap (by_length limit file bytes) (lt_true limit (length bytes) h)

module _ (limit : ℕ) (file : List ℕ) (holds : Holding) (old new : Feeding) (told : holding old ≡ Some holds) where
  pub absent_got : IsAbsent file old new → got limit file (holds file) ≡ Err (NoFile file)
  absent_got h = ap (got limit file) (subst (λ o. IfSome o (λ h. h file ≡ None)) told h.1)

  pub long_got : (said : ℕ) → IsLonger limit file old new said → got limit file (holds file) ≡ Err (FeedTooLong file limit)
  long_got said h = large_got limit file (holds file) (subst (λ o. IfSome o (λ h. IsSomeAnd (h file) (λ bytes. limit < length bytes))) told h.2)

  pub within_got : (bytes : List ℕ) → GetsWithin limit file old new bytes → got limit file (holds file) ≡ Ok bytes
  within_got bytes g = held_got limit file (holds file) bytes (subst (λ o. IfSome o (λ h. h file ≡ Some bytes)) told g.held) g.small

-- lines stop being right at one place
pub one_place : (Right : List (List ℕ) → Type 0) (xs : List (List ℕ)) (m n : ℕ) → StopsAt Right xs m → StopsAt Right xs n → m ≡ n
one_place Right xs m n a b =
    let f : ¬ (m < n) = λ lt. a.longest n lt b.within b.front in
    let g : ¬ (n < m) = λ lt. b.longest m lt a.within a.front in
    omega (arith, f, g)
