use Rattle.std.proofs.Common.{◌-◌, ◌++◌, refl, sym, ap, ◌∙◌, arith}
use Rattle.std.proofs.lemmas.List.{append-nil}
use Rattle.zi_showing.specs.Text.{indent}
use Rattle.zi_showing.proofs.PieceLaws.{indented, none_indented}
use Rattle.zi_showing.proofs.lines.put_indent.Goals as goal

pub loop-left-init : goal.loop-left-init
loop-left-init c = refl

pub loop-left-preserved : goal.loop-left-preserved
loop-left-preserved c =
    indented c.args.text.now.items c.loop-left.text.items c.put.new.text.items c.args.level (c.loop-left.left - 1) c.loop-left.left (omega arith) c.in_ok-put.ensures c.loop-left.invariant

pub returns : goal.returns
returns c = none_indented c.args.text.now.items c.loop-left.text.items c.args.level c.loop-left.left (omega arith) c.loop-left.invariant
