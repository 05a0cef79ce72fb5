-- What is known before loading.
use Rattle.std.proofs.Common.{◌≡◌, ℕ, inl, inr, List, [], ◌∷◌, length, get_or, Option, Some, None, Result, Ok, Err, IfOk, MatchResult, sym, subst, arith}
use Rattle.std.proofs.lemmas.List.{append-nil}
use Rattle.std.proofs.lemmas.List.Elements.{All-nil}
use Rattle.zi_digest.specs.declared.DigestName.{DigestName}
use Rattle.zi_packages.specs.declared.types.Packages.{Packages}
use Rattle.zi_packages.specs.Table.{IsTableText}
use Rattle.zi_outside.specs.Views.{Feeding}
use Rattle.zi_sels_laws.specs.Rows.{IsRightRow, HasRightRows}
use Rattle.zi_outcome.specs.declared.outcome.Outcome.{Outcome}
use Rattle.zi_outcome.specs.declared.outcome.Outcome.TheVariants.{Usage, BadPackages, Memory}
use Rattle.zi_world.specs.Files.{GetsWithin}
use Rattle.zi_choosing.specs.Knowing.{all_names, Sources, IsUnknown}
use Rattle.zi_choosing.specs.Table.{table_limit, no_packages, HasTable, LacksTable, IsNoTable}

-- the names of one store alone
pub one_alone : (each : List (List DigestName)) (d : List DigestName) → length each ≡ 1 → get_or each 0 d ≡ all_names each
one_alone [] d h = absurd (omega (arith, h))
one_alone (ns ∷ []) d h = sym (append-nil ns)
one_alone (ns ∷ ms ∷ each) d h = absurd (omega (arith, h))

-- rows of which there are none are right
pub no_rows : (packages : Packages) → packages ≡ no_packages → HasRightRows packages
no_rows packages e = subst HasRightRows (sym e) (All-nil IsRightRow)

-- The text of the file was read.
unread : (file bytes : List ℕ) (before after : Feeding) (outcome : Outcome) → GetsWithin table_limit file before after bytes → IsNoTable bytes outcome → LacksTable (Some file) before outcome after
unread file bytes before after (BadPackages line) got why = (bytes, got, why)
unread file bytes before after Memory got why = inr got.asked
unread file bytes before after other got why = absurd why

read_so : (file bytes : List ℕ) (before after : Feeding) (result : Result Packages Outcome) → GetsWithin table_limit file before after bytes → MatchResult result (IsTableText bytes) (IsNoTable bytes)
    → MatchResult result (λ packages. HasTable (Some file) before packages after) (λ outcome. LacksTable (Some file) before outcome after)
read_so file bytes before after (Ok packages) got is = (bytes, got, is)
read_so file bytes before after (Err outcome) got why = unread file bytes before after outcome got why

pub table_read : (table : Option (List ℕ)) (file bytes text : List ℕ) (before after : Feeding) (result : Result Packages Outcome) → table ≡ Some file → text ≡ bytes
    → GetsWithin table_limit file before after bytes → MatchResult result (IsTableText text) (IsNoTable text)
    → MatchResult result (λ packages. HasTable table before packages after) (λ outcome. LacksTable table before outcome after)
table_read table file bytes text before after result named is got read =
    subst (λ t. MatchResult result (λ packages. HasTable t before packages after) (λ outcome. LacksTable t before outcome after)) (sym named)
    (read_so file bytes before after result got (subst (λ b. MatchResult result (IsTableText b) (IsNoTable b)) is read))

-- and its rows are right, as the law says
pub rows_read : (text : List ℕ) (result : Result Packages Outcome) → ((bytes : List ℕ) (packages : Packages) → IsTableText bytes packages → HasRightRows packages)
    → MatchResult result (IsTableText text) (IsNoTable text) → IfOk result HasRightRows
rows_read text (Ok packages) law is = law text packages is
rows_read text (Err outcome) law why = tt

-- why it isn't found out is never that words are wrong
pub unknown_right : (table : Option (List ℕ)) (before after : Sources) (index : ℕ) → IsUnknown table before after (Usage index) → ⊥
unknown_right table before after index (inl stops) = stops.0
unknown_right None before after index (inr lacks) = lacks.2
unknown_right (Some file) before after index (inr lacks) = lacks.2
