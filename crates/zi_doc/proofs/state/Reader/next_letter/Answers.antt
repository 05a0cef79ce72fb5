use Rattle.std.proofs.Common.{◌≡◌, ◌-◌, ap, sym, ◌∙◌, length, slice_get}
use Rattle.zi_doc.proofs.Stacks.{top_is}
use Rattle.zi_doc.proofs.state.Reader.next_letter.Goals as goal

pub returns-in-Some-clause-letter : goal.returns-in-Some-clause-letter
returns-in-Some-clause-letter c =
    let s = c.args.self.now in
    let os = c.deref.ensures.value in
    c.letter_of.ensures.letter
    ∙ ap (λ v. slice_get v s.matched) (sym (top_is s.opens.items c.in-Some.top.now s.scopes (c.in-Some.ensures.value ∙ ap (λ v. slice_get v (length v - 1)) os)))
