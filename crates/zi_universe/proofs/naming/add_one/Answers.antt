use Rattle.std.proofs.Common.{ap, ◌∙◌}
use Rattle.std.specs.List.{flat_map}
use Rattle.zi_universe.specs.Naming.{joined}
use Rattle.zi_universe.specs.Candidates.{asked, asked_by_command, asked_by_impl}
use Rattle.zi_universe.proofs.NamingLemmas.{joined_twice}
use Rattle.zi_universe.proofs.LevelLemmas.{named_more}
use Rattle.zi_universe.proofs.naming.add_one.Goals as goal

pub returns-clause-names : goal.returns-clause-names
unfolding asked_by_impl
returns-clause-names c =
    let imp = c.args.one.now.candidate.imp in
    c.in_ok-add_inherited_commands.ensures
    ∙ ap (λ q. joined q (flat_map asked_by_command imp.commands)) c.in_ok-add_needs.ensures.names
    ∙ joined_twice c.args.names.now.keys (asked imp.deps) (flat_map asked_by_command imp.commands)

pub returns-clause-named : goal.returns-clause-named
returns-clause-named c =
    named_more c.args.feeds.now c.add_needs.new.named.keys c.add_needs.new.names.keys _ (flat_map asked_by_command c.args.one.now.candidate.imp.commands) c.in_ok-add_inherited_commands.ensures c.in_ok-add_needs.ensures.named
