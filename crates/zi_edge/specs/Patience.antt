-- How long the environment lets a helper take.
use Rattle.std.specs.Prelude.{ℕ, ◌&&◌, nat_lt, nat_le, List, [], ◌∷◌, Option, Some, None, codes, if◌then◌else◌}
use Rattle.zi_text.specs.Numeral.{numeral}
use Rattle.zi_outside.specs.Vars.{value_of}
use Rattle.zi_outside.specs.declared.var.Var.{Var}
use Rattle.zi_edge.specs.declared.waiting.Patience.{Patience}
use Rattle.zi_edge.specs.declared.waiting.Patience.TheVariants.{Endless, Seconds, Unclear}

-- so many seconds, where that is a number from 1 to 1,000,000
abbrev pub patience_with : Option ℕ → Patience
patience_with None = Unclear
patience_with (Some n) = if nat_lt 0 n && nat_le n 1_000_000 then Seconds n else Unclear

abbrev pub patience_by : List ℕ → Patience
patience_by text = patience_with (numeral text)

-- it may take as long as it likes where nothing is said
abbrev pub patience_by_value : Option (List ℕ) → Patience
patience_by_value None = Endless
patience_by_value (Some []) = Endless
patience_by_value (Some (b ∷ bs)) = patience_by (b ∷ bs)

abbrev pub patience_of : List Var → Patience
patience_of vars = patience_by_value (value_of vars (codes "ZI_FETCH_SECONDS"))
