use Rattle.std.proofs.Common.{◌≡◌, ◌∙◌, Some, option_map, slice_get, sym, ap}
use Rattle.zi_outside.specs.declared.var.Var.{Var}
use Rattle.zi_script.specs.Script.{is_unsettable}
use Rattle.zi_script.proofs.NamingLaws.{first_here, none_then, none_of_all}
use Rattle.zi_script.proofs.naming.unsettable.Goals as goal

pub returns-then-is_unsettable : goal.returns-then-is_unsettable
returns-then-is_unsettable c =
    let name = c.name_at-name.ensures ∙ ap Some (sym c.as_str.ensures) in
    let value = c.value_at.ensures ∙ ap Some (sym c.as_str-in-loop-i.ensures) in
    ap Some (sym c.as_str.ensures)
    ∙ sym (first_here (is_unsettable c.args.old.now) c.args.new.now c.loop-i.i c.as_str.result.now c.as_str-in-loop-i.result.now name value c.loop-i.invariant (sym c.is_unsettable.ensures ∙ c.if-is_unsettable.true))

pub loop-i-preserved : goal.loop-i-preserved
loop-i-preserved c =
    let name = c.name_at-name.ensures ∙ ap Some (sym c.as_str.ensures) in
    let value = c.value_at.ensures ∙ ap Some (sym c.as_str-in-loop-i.ensures) in
    none_then (is_unsettable c.args.old.now) c.args.new.now c.loop-i.i c.as_str.result.now c.as_str-in-loop-i.result.now name value c.loop-i.invariant (sym c.is_unsettable.ensures ∙ c.if-is_unsettable.false)
