use Rattle.std.proofs.Common.{◌≡◌, ◌∙◌, Some, sym, ap, string_bytes}
use Rattle.zi_script.proofs.LineLaws.{lines_then}
use Rattle.zi_script.proofs.writing.put_lines.Goals as goal

pub loop-i-preserved : goal.loop-i-preserved
loop-i-preserved c =
    let name = c.name_at.ensures ∙ ap Some (sym c.as_str.ensures) in
    let value = c.value_at.ensures ∙ ap Some (sym c.as_str-in-loop-i.ensures) in
    lines_then c.args.old.now c.args.new.now c.loop-i.i c.as_str.result.now c.as_str-in-loop-i.result.now (string_bytes c.args.out.now) (string_bytes c.loop-i.out) (string_bytes c.put_changed.new.out) name value c.loop-i.invariant
    c.in_ok-put_changed.ensures
