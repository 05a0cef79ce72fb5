-- How much a walk can still list and use: less, the further it goes.
use Rattle.std.specs.Prelude.{ℕ, zero, suc, ◌+◌, Bool, cond, List, [], ◌∷◌, ◌++◌, length, Option, Some, None}
use Rattle.zi_parts.specs.declared.types.Command.{Command}
use Rattle.zi_universe.specs.declared.types.Candidate.{Candidate}
use Rattle.zi_universe.specs.declared.types.Interface.{Interface}
use Rattle.zi_choice.specs.Choice.{Choice, chosen}
use Rattle.zi_choice.specs.Walk.{Use, Walk, is_listed, is_used}

-- how many items a test leaves
unfoldable pub left : {A : Type 0} → (A → Bool) → List A → ℕ
left test [] = zero
left test (x ∷ xs) = cond (test x) (left test xs) (suc (left test xs))

-- the numbers below one
unfoldable pub below : ℕ → List ℕ
below zero = []
below (suc n) = n ∷ below n

-- the commands of an interface that may be used
unfoldable pub uses_in : ℕ → List Command → List Use
uses_in i [] = []
uses_in i (m ∷ ms) = record { interface = i; command = m.name } ∷ uses_in i ms

unfoldable pub commands_in : Option Candidate → List Command
commands_in None = []
commands_in (Some c) = c.imp.commands

unfoldable pub all_uses : List Interface → Choice → ℕ → List Use
all_uses u s zero = []
all_uses u s (suc n) = uses_in n (commands_in (chosen u s n)) ++ all_uses u s n

abbrev pub used_in : Walk → Use → Bool
used_in a x = is_used a x.interface x.command

-- the interfaces that aren't listed, and the commands of chosen candidates that aren't used
unfoldable pub to_come : List Interface → Choice → Walk → ℕ
to_come u s a = left (λ i. is_listed a i) (below (length u)) + left (λ x. used_in a x) (all_uses u s (length u))
