-- What facts are.
use Rattle.std.specs.Prelude.{◌≡◌, ◌≤◌, ◌+◌, Bool, true, false, List, [], map, filter, length}
use Rattle.zi_universe.specs.declared.types.Requirement.{Requirement}
use Rattle.zi_universe.specs.declared.types.Interface.{Interface}
use Rattle.zi_build.specs.Clauses.{rules}
use Rattle.zi_facts.specs.Facts.{Told, Root, told, rule_of}
use Rattle.zi_facts.specs.Lines.{lines_of}

-- Each fact is the constraint of its number.
abbrev pub FactsAreRules : Type 0
FactsAreRules = (u : List Interface) (req : Requirement) → map (rule_of u) (told u req) ≡ rules u req

abbrev pub is_root : Told → Bool
is_root Root = true
is_root other = false

-- Facts have no more lines than they are: that of the root, and the others.
abbrev pub LinesAreFew : Type 0
LinesAreFew = (u : List Interface) (req : Requirement) (ts : List Told) → length (filter is_root ts) + length (lines_of u req [] ts) ≤ length ts
