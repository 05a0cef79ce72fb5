use Rattle.std.proofs.Common.{ap, sym, ◌∙◌, ◌∷◌, ◌++◌, [], append_assoc}
use Rattle.zi_docout.specs.Canonical.{indent}
use Rattle.zi_docout.proofs.WalkLemmas.{indent_more}
use Rattle.zi_docout.proofs.escapes.put_indent.Goals as goal

pub loop-i-preserved : goal.loop-i-preserved
loop-i-preserved c =
    let i = c.loop-i._i in
    c.in_ok-put.ensures
    ∙ (ap (λ v. v ++ 32 ∷ 32 ∷ []) c.loop-i.invariant
    ∙ (append_assoc c.args.text.now.items (indent i) (32 ∷ 32 ∷ []) ∙ ap (λ v. c.args.text.now.items ++ v) (sym (indent_more i))))
