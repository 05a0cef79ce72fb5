use Rattle.std.proofs.Common.{◌∙◌, ap, sym}
use Rattle.std.specs.Prelude.{slice_get, option_and_then}
use Rattle.std.proofs.lemmas.Option.{slice_get_past}
use Rattle.zi_universe.specs.declared.types.Candidate.{Candidate}
use Rattle.zi_choice.specs.Choice.{candidate_at, command_place}
use Rattle.zi_choice.proofs.TaskLaws.{slice_some}
use Rattle.zi_choice.proofs.TableLaws.{no_row, no_table, in_table}
use Rattle.zi_choice.proofs.names.Names.command_place.Goals as goal

pub returns-in_err-row : goal.returns-in_err-row
returns-in_err-row c =
    c.from_residual.ensures ∙ no_row c.self.inside.universe.now c.self.inside.commands c.args.interface c.args.candidate c.args.name.now c.self.invariant.are_commands
    (ap (λ rows. slice_get rows c.args.interface) (sym c.as_slice.ensures) ∙ slice_get_past c.as_slice.result.now c.args.interface c.in_err-row.ensures.lookup.3)
    ∙ ap (λ u. option_and_then (λ (k : Candidate). command_place k c.args.name.now) (candidate_at u c.args.interface c.args.candidate)) c.self.view_is

pub returns-in_err-table : goal.returns-in_err-table
returns-in_err-table c =
    c.from_residual-in_err-table.ensures ∙ no_table c.self.inside.universe.now c.self.inside.commands c.in_ok-row.row.now c.args.interface c.args.candidate c.args.name.now c.self.invariant.are_commands
    (ap (λ rows. slice_get rows c.args.interface) (sym c.as_slice.ensures) ∙ slice_some c.as_slice.result.now c.args.interface c.in_ok-row.row.now c.in_ok-row.ensures.lookup.3.0 c.in_ok-row.ensures.lookup.1)
    (ap (λ row. slice_get row c.args.candidate) (sym c.as_slice-2.ensures) ∙ slice_get_past c.as_slice-2.result.now c.args.candidate c.in_err-table.ensures.lookup.3)
    ∙ ap (λ u. option_and_then (λ (k : Candidate). command_place k c.args.name.now) (candidate_at u c.args.interface c.args.candidate)) c.self.view_is

pub returns : goal.returns
returns c =
    c.copied.ensures ∙ c.get-3.ensures.value ∙ in_table c.self.inside.universe.now c.self.inside.commands c.in_ok-row.row.now c.in_ok-table.table.now c.args.interface c.args.candidate c.args.name.now c.self.invariant.are_commands
    (ap (λ rows. slice_get rows c.args.interface) (sym c.as_slice.ensures) ∙ slice_some c.as_slice.result.now c.args.interface c.in_ok-row.row.now c.in_ok-row.ensures.lookup.3.0 c.in_ok-row.ensures.lookup.1)
    (ap (λ row. slice_get row c.args.candidate) (sym c.as_slice-2.ensures) ∙ slice_some c.as_slice-2.result.now c.args.candidate c.in_ok-table.table.now c.in_ok-table.ensures.lookup.3.0 c.in_ok-table.ensures.lookup.1)
    ∙ ap (λ u. option_and_then (λ (k : Candidate). command_place k c.args.name.now) (candidate_at u c.args.interface c.args.candidate)) c.self.view_is
