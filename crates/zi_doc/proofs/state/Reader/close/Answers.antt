use Rattle.std.proofs.Common.{◌≡◌, ◌++◌, ◌∷◌, [], ◌+◌, suc, drop, reverse, refl, sym, ap, ◌∙◌, subst, arith, List, ℕ}
use Rattle.zi_doc.specs.View.{stack, stacked, scopes_of}
use Rattle.zi_doc.proofs.Stacks.{popped, Popped}
use Rattle.zi_doc.proofs.state.Reader.close.Goals as goal

pub close_top-requires : goal.close_top-requires
close_top-requires c =
    let s = c.args.self.now in
    let p = popped c.pop.new.self.items c.in-Some.top s.scopes (c.requires.0 ∙ ap (λ os. scopes_of (stacked (reverse os) s.scopes)) c.in-Some.ensures.items) in
    record { more = p.more; kept = p.kept }

pub returns-in-Some : goal.returns-in-Some
returns-in-Some c =
    let s = c.args.self.now in
    let p = popped c.pop.new.self.items c.in-Some.top s.scopes (c.requires.0 ∙ ap (λ os. scopes_of (stacked (reverse os) s.scopes)) c.in-Some.ensures.items) in
    rw (ap (λ os. stacked (reverse os) s.scopes) c.in-Some.ensures.items ∙ p.split) (c.close_top.ensures p.scope)
