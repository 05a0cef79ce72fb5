-- A file that words or variables name: it is got from the feeds, and has no more bytes than a limit.
use Rattle.std.specs.Prelude.{◌≡◌, ℕ, ◌<◌, ◌≤◌, List, [], ◌∷◌, length, Some, None, IfSome, IsSomeAnd}
use Rattle.zi_text.specs.Count.{Rose}
use Rattle.zi_outside.specs.Views.{Feeding, holding}
use Rattle.zi_outside.specs.Outside.{Asks}
use Rattle.zi_outcome.specs.declared.outcome.Outcome.{Outcome}
use Rattle.zi_outcome.specs.declared.outcome.Outcome.TheVariants.{FeedRead, FeedTooLong, NoFile, Memory}

-- it was asked for, and no call failed
pub record AsksFor (file : List ℕ) (before after : Feeding) : Type 0 where
  pub asked : Asks (file ∷ []) before after
  pub calm : after.faults ≡ before.faults

-- it has these bytes, no more than the limit
pub record GetsWithin (limit : ℕ) (file : List ℕ) (before after : Feeding) (bytes : List ℕ) : Type 0 where
  pub asked : AsksFor file before after
  pub small : length bytes ≤ limit
  pub held : IfSome (holding before) (λ holds. holds file ≡ Some bytes)

-- there is no such file
abbrev pub IsAbsent : List ℕ → Feeding → Feeding → Type 0
IsAbsent file before after = AsksFor file before after × IfSome (holding before) (λ holds. holds file ≡ None)

-- it has more bytes than the limit, which is told
abbrev pub IsLonger : ℕ → List ℕ → Feeding → Feeding → ℕ → Type 0
IsLonger limit file before after told =
    AsksFor file before after × (told ≡ limit) × IfSome (holding before) (λ holds. IsSomeAnd (holds file) (λ bytes. limit < length bytes))

-- the feeds failed at it
abbrev pub IsUnread : List ℕ → Feeding → Feeding → Type 0
IsUnread file before after = Asks (file ∷ []) before after × Rose before.faults after.faults

-- it isn't got, and this is why
abbrev pub IsMissing : ℕ → List ℕ → Feeding → Feeding → Outcome → Type 0
IsMissing limit file before after (NoFile name) = (name ≡ file) × IsAbsent file before after
IsMissing limit file before after (FeedTooLong uri told) = (uri ≡ file) × IsLonger limit file before after told
IsMissing limit file before after (FeedRead uri) = (uri ≡ file) × IsUnread file before after
IsMissing limit file before after Memory = after ≡ before
IsMissing limit file before after other = ⊥
