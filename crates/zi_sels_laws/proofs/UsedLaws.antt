-- The commands that a valid choice uses: what each asks for is chosen, its runner too.
use Rattle.std.proofs.Common.{◌≡◌, ℕ, ◌==◌, true, ◌&&◌, List, [], ◌∷◌, ◌++◌, Option, Some, None, refl, ap, ◌∙◌, eqb-true}
use Rattle.std.specs.Prelude.{All, IfSome, filter, bytes_eq, is_some, option_map, option_and_then}
use Rattle.std.proofs.lemmas.Bool.{and_parts}
use Rattle.zi_reading.specs.Words.{is_among, optional}
use Rattle.zi_parts.specs.declared.types.Dep.{Dep}
use Rattle.zi_parts.specs.declared.types.Runner.{Runner}
use Rattle.zi_parts.specs.declared.types.Command.{Command}
use Rattle.zi_universe.specs.declared.types.Candidate.{Candidate}
use Rattle.zi_universe.specs.declared.types.Interface.{Interface}
use Rattle.zi_choice.specs.Choice.{Choice, chosen, command_of, command_at, needs_of, with_runner}
use Rattle.zi_choice.specs.Walk.{Use, Walk, is_used}
use Rattle.zi_choice.specs.Valid.{target, AreMet}
use Rattle.zi_choice.specs.Valid.{IsMet as IsMetBy}
use Rattle.zi_choice.proofs.Base.{all_at, any_found, if_some_at}
use Rattle.zi_sels.specs.Chosen.{plain_runner, used_command, selection_by}
use Rattle.zi_sels_laws.proofs.LikeLaws.{Each, each_both}
use Rattle.zi_sels_laws.proofs.AskedLaws.{IsMetRunner, IsMetCommand, IsMetItem}
use Rattle.zi_sels_laws.proofs.FreeLaws.{each_filter, each_weak, each_map, each_front}
use Rattle.zi_sels_laws.proofs.GivenLaws.{IsGivenRunner, IsGivenCommand}
use Rattle.zi_sels_laws.proofs.ApartLaws.{IsFound, each_found}
use Rattle.zi_sels_laws.proofs.FeedLaws.{IsGiven}
use Rattle.zi_sels_laws.proofs.EachLaws.{all_each}
use Rattle.zi_sels_laws.proofs.MadeLaws.{met_among}
use Rattle.zi_xml.proofs.Backward.{same_list}

-- what the commands need that are used is met
abbrev pub AreUsesMet : List Interface → Choice → Walk → Type 0
AreUsesMet u s w = All (λ (x : Use). IfSome (command_at u s x.interface x.command) (λ m. AreMet u s (needs_of m))) w.used

-- what a command needs that is used is met
pub needs_met : (u : List Interface) (s : Choice) (w : Walk) (i : ℕ) (name : List ℕ) (m : Command) → AreUsesMet u s w → is_used w i name ≡ true → command_at u s i name ≡ Some m → AreMet u s (needs_of m)
needs_met u s w i name m h used at =
    let f = any_found (λ (x : Use). x.interface == i && bytes_eq x.command name) w.used used in
    let x = f.1 in
    let b = and_parts (x.interface == i) (bytes_eq x.command name) f.3 in
    let here : command_at u s x.interface x.command ≡ Some m =
    ap (λ (j : ℕ). command_at u s j x.command) (eqb-true x.interface i b.0) ∙ (ap (λ (n : List ℕ). command_at u s i n) (same_list x.command name b.1) ∙ at) in
    if_some_at (λ m. AreMet u s (needs_of m)) (command_at u s x.interface x.command) m here
    (all_at (λ (x : Use). IfSome (command_at u s x.interface x.command) (λ m. AreMet u s (needs_of m))) w.used f.0 x h f.2)

-- a command that is found among those of what is chosen
pub command_is : (u : List Interface) (s : Choice) (i : ℕ) (k : Candidate) (c : Command) → chosen u s i ≡ Some k → IsFound k.imp.commands c → command_at u s i c.name ≡ Some c
command_is u s i k c picked found = ap (λ o. option_and_then (λ (y : Candidate). command_of y c.name) o) picked ∙ found

module _ (is : List (List ℕ)) (u : List Interface) (s : Choice) (w : Walk) (one : (d : Dep) → is_some (target u s d) ≡ true → is_among is d.interface ≡ true) (uses : AreUsesMet u s w) where
  runner_met : (c : Command) (o : Option Runner) → c.runner ≡ o → Each IsGivenRunner (optional o) → AreMet u s (with_runner c.deps o) → Each (IsMetRunner is) (optional (option_map plain_runner o))
  runner_met c None e h k = tt
  runner_met c (Some r) e h k =
      let last = (each_front (IsMetBy u s) c.deps (r.dep ∷ []) (all_each (IsMetBy u s) (c.deps ++ r.dep ∷ []) k)).1.0 in
      (one r.dep (last.there h.0.kind), tt)

  command_met : (i : ℕ) (k : Candidate) (c : Command) → chosen u s i ≡ Some k → IsGivenCommand c → IsFound k.imp.commands c → is_used w i c.name ≡ true → IsMetCommand is (used_command u s c)
  command_met i k c picked given found used = record {
    deps = met_among is u s (λ d t e. one d t) c.deps;
    runner = runner_met c c.runner refl given.runner (needs_met u s w i c.name c uses used (command_is u s i k c picked found));
  }

  pub made_met : (i : ℕ) (uri : List ℕ) (k : Candidate) → chosen u s i ≡ Some k → IsGiven k.imp → IsMetItem is (selection_by u s w i uri k)
  unfolding selection_by
  made_met i uri k picked given =
      let cs = k.imp.commands in
      let both = each_both IsGivenCommand (IsFound cs) cs given.commands (each_found cs given.apart) in record {
        deps = met_among is u s (λ d t e. one d t) k.imp.deps;
        commands = each_map (IsMetCommand is) (used_command u s) (filter (λ c. is_used w i c.name) cs)
            (each_weak (λ c. (IsGivenCommand c × IsFound cs c) × (is_used w i c.name ≡ true)) (λ c. IsMetCommand is (used_command u s c)) (λ c h. command_met i k c picked h.0.0 h.0.1 h.1) (filter (λ c. is_used w i c.name) cs)
            (each_filter (λ c. IsGivenCommand c × IsFound cs c) (λ c. is_used w i c.name) cs both));
      }
