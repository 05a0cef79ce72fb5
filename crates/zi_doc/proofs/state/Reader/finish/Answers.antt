use Rattle.std.proofs.Common.{◌≡◌, ap, sym, ◌∙◌, Some, None}
use Rattle.zi_xml.specs.Machine.{finish_in, finish}
use Rattle.zi_doc.specs.View.{state_of, doing_in, level, stack}
use Rattle.zi_doc.proofs.Turns.{whole, ends_some}
use Rattle.zi_doc.proofs.state.Reader.finish.Goals as goal

pub root-requires : goal.root-requires
root-requires c =
    let s = c.args.self.now in
    let l = level s c.args.at in
    let e : finish (state_of s c.args.at) ≡ Some l =
    ap (λ m. finish_in (doing_in m s) l) c.in-Inside.is ∙ whole (stack s) s.brackets l (sym c.has_open.ensures ∙ c.if-has_open.false) c.if-self-eq0.true in
    c.requires l (ends_some (state_of s c.args.at) l e)

pub returns-then-self-eq0 : goal.returns-then-self-eq0
returns-then-self-eq0 c =
    let s = c.args.self.now in
    let l = level s c.args.at in
    let e : finish (state_of s c.args.at) ≡ Some l =
    ap (λ m. finish_in (doing_in m s) l) c.in-Inside.is ∙ whole (stack s) s.brackets l (sym c.has_open.ensures ∙ c.if-has_open.false) c.if-self-eq0.true in
    (l, ends_some (state_of s c.args.at) l e, c.root.ensures)
