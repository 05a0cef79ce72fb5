-- The root of what the words ask for, and what was loaded for them.
use Rattle.std.specs.Prelude.{IsUtf8}
use Rattle.std.proofs.Common.{◌≡◌, ℕ, true, List, [], ◌∷◌, Option, None, refl, sym, ap, subst, ◌∙◌, arith}
use Rattle.std.specs.List.{list_all}
use Rattle.std.specs.Str.{chars, is_utf8}
use Rattle.std.proofs.lemmas.Bool.Decides.{nat_tests}
use Rattle.std.proofs.lemmas.Str.{is_utf8-from_IsUtf8}
use Rattle.std.proofs.lemmas.Bool.{and_from, and_parts}
use Rattle.zi_xml.specs.Chars.{is_char}
use Rattle.zi_docout.specs.Amiss.{is_carried, first_amiss}
use Rattle.zi_policy.specs.declared.types.Policy.{Policy}
use Rattle.zi_digest.specs.declared.DigestName.{DigestName}
use Rattle.zi_outside.specs.Views.{Holding, Feeding, holding}
use Rattle.zi_words.specs.declared.request.Ask.{Ask}
use Rattle.zi_words.specs.Forms.{is_address, is_carried as is_right}
use Rattle.zi_packages.specs.declared.types.Packages.{Packages}
use Rattle.zi_universe.specs.declared.types.Interface.{Interface}
use Rattle.zi_universe.specs.declared.types.Requirement.{Requirement}
use Rattle.zi_universe.specs.declared.fault.LoadFault.{LoadFault}
use Rattle.zi_universe.specs.Candidates.{Store}
use Rattle.zi_universe.specs.Loading.{names_of, Loads, Task, LoadsAsking, RefusesAsking}
use Rattle.zi_choice.specs.Choice.{Choice}
use Rattle.zi_choice.specs.Valid.{IsValid}
use Rattle.zi_sels.specs.declared.types.Selections.{Selections}
use Rattle.zi_sels.specs.Chosen.{AreSelected}
use Rattle.zi_sels.specs.Written.{tree}
use Rattle.zi_sels_laws.specs.Rows.{HasRightRows}
use Rattle.zi_choosing.specs.declared.known.Known.{Known}
use Rattle.zi_choosing.specs.Knowing.{all_names}
use Rattle.zi_choosing.specs.Wanted.{requirement_of}
use Rattle.zi_choosing.specs.Loaded.{task_of, IsLoaded, IsRefused}
use Rattle.zi_choosing.specs.SelectParts.{CanBeWritten}

-- The address of a root can be carried by XML.

right_char : (c : ℕ) → is_right c ≡ true → is_char c ≡ true
unfolding is_right is_char
right_char c h = grind (arith, nat_tests)

right_chars : (cs : List ℕ) → list_all is_right cs ≡ true → list_all is_char cs ≡ true
right_chars [] h = refl
right_chars (c ∷ cs) h =
    and_from (is_char c) (list_all is_char cs) (right_char c (and_parts (is_right c) (list_all is_right cs) h).0) (right_chars cs (and_parts (is_right c) (list_all is_right cs) h).1)

carried : (t : List ℕ) → is_address t ≡ true → IsUtf8 t → is_carried t ≡ true
unfolding is_address is_carried
carried t h utf8 = and_from (is_utf8 t) (list_all is_char (chars t)) (is_utf8-from_IsUtf8 t utf8) (right_chars (chars t) (and_parts _ (list_all is_right (chars t)) h).1)

pub root_carried : (text root : List ℕ) → text ≡ root → is_address root ≡ true → IsUtf8 root → is_carried text ≡ true
root_carried text root e h utf8 = subst (λ t. is_carried t ≡ true) (sym e) (carried root h utf8)

-- What was loaded is what the words ask for.

-- each element of what a valid choice from a loaded universe selects can be written, as the law says
pub all_written : (before after : Feeding) (req : Requirement) (policy : Policy) (stored : List DigestName) (packages : Packages) (u : List Interface)
    → ((told : Option Holding) (r : Requirement) (p : Policy) (s : Store) (universe : List Interface) (choice : Choice) (sels : Selections)
    → is_carried r.interface ≡ true → HasRightRows s.packages → Loads told r p s universe → IsValid universe r choice → AreSelected universe r choice sels → first_amiss (tree sels) ≡ None)
    → HasRightRows packages → is_carried req.interface ≡ true → LoadsAsking (record { req = req; policy = policy; stored = names_of stored packages }) before u after → CanBeWritten u req
all_written before after req policy stored packages u law right root loads choice valid sels are =
    law (holding before) req policy (names_of stored packages) u choice sels root right loads.loads valid are

task_is : (known : Known) (ask : Ask) (req : Requirement) (policy : Policy) → req ≡ requirement_of ask → policy ≡ ask.policy
    → ◌≡◌ {A = Task} (record { req = req; policy = policy; stored = names_of (all_names known.each) known.packages }) (task_of known ask)
task_is known ask req policy at_req at_policy =
    let task : Requirement → Policy → Task = λ r p. record { req = r; policy = p; stored = names_of (all_names known.each) known.packages } in
    ap (λ r. task r policy) at_req ∙ ap (λ p. task (requirement_of ask) p) at_policy

pub loaded_as : (known : Known) (ask : Ask) (req : Requirement) (policy : Policy) (before after : Feeding) (u : List Interface) → req ≡ requirement_of ask → policy ≡ ask.policy
    → LoadsAsking (record { req = req; policy = policy; stored = names_of (all_names known.each) known.packages }) before u after → IsLoaded known ask before after u
loaded_as known ask req policy before after u at_req at_policy loads = subst (λ t. LoadsAsking t before u after) (task_is known ask req policy at_req at_policy) loads

pub refused_as : (known : Known) (ask : Ask) (req : Requirement) (policy : Policy) (before after : Feeding) (e : LoadFault) → req ≡ requirement_of ask → policy ≡ ask.policy
    → RefusesAsking (record { req = req; policy = policy; stored = names_of (all_names known.each) known.packages }) before e after → IsRefused known ask before after e
refused_as known ask req policy before after e at_req at_policy refuses = subst (λ t. RefusesAsking t before e after) (task_is known ask req policy at_req at_policy) refuses
