-- Where clauses and groups end.
use Rattle.std.specs.Prelude.{ℕ, ◌<◌, List, [], ◌∷◌, length, get_or}
use Rattle.zi_formula.specs.declared.constraints.End.{End}
use Rattle.zi_formula.specs.declared.constraints.End.TheVariants as end
use Rattle.zi_formula.specs.declared.constraints.Group.{Group}

abbrev pub group_at : List Group → ℕ → Group
group_at gs g = get_or gs g (record { lits = 0; start = 0; end = 0 })

-- how many literals the clauses up to this end have
abbrev pub lits_to : List Group → End → ℕ
lits_to gs (end.Clause n) = n
lits_to gs (end.AtMostOne g) = (group_at gs g).lits

-- the same of the last of these ends, where so many literals are before them
abbrev pub lits_after : List Group → ℕ → List End → ℕ
lits_after gs a [] = a
lits_after gs a (e ∷ es) = lits_after gs (lits_to gs e) es

-- the group of an end is there
abbrev pub IsThere : List Group → End → Type 0
IsThere gs (end.Clause n) = Unit {0}
IsThere gs (end.AtMostOne g) = g < length gs
