-- What a variable speaks of.
use Rattle.std.specs.Prelude.{◌≡◌, List, slice_get, Some}
use Rattle.zi_parts.specs.declared.types.Command.{Command}
use Rattle.zi_universe.specs.declared.types.Candidate.{Candidate}
use Rattle.zi_universe.specs.declared.types.Interface.{Interface}
use Rattle.zi_choice.specs.Vars.{Var, Cand, Cmd, Wide, candidates_of}

-- it speaks of a candidate or a command that is there
abbrev pub Listed : List Interface → Var → Type 0
Listed u (Cand i c) = (k : Candidate) × (slice_get (candidates_of u i) c ≡ Some k)
Listed u (Cmd i c n) = (k : Candidate) × (m : Command) × (slice_get (candidates_of u i) c ≡ Some k) × (slice_get k.imp.commands n ≡ Some m)
Listed u Wide = Unit {0}
