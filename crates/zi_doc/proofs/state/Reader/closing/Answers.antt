use Rattle.std.proofs.Common.{◌≡◌, ◌∷◌, [], ◌+◌, suc, drop, eq-eqb, refl, sym, ap, ◌∙◌, arith, add-one, List, ℕ}
use Rattle.zi_xml.specs.Machine.{top_name, state, closing as closing_at}
use Rattle.zi_xml.specs.Meaning.{tick}
use Rattle.zi_doc.specs.View.{stack, level}
use Rattle.zi_doc.proofs.Stacks.{drop_some, drop_none, code_not, refused}
use Rattle.zi_doc.proofs.state.Reader.closing.Goals as goal

pub overflow_add-self : goal.overflow_add-self
overflow_add-self c = omega (arith, c.in-Some.ensures.room)

pub returns-then-c-x : goal.returns-then-c-x
returns-then-c-x c =
    let s = c.args.self.now in
    let cut : drop s.matched (top_name (stack s)) ≡ c.in-Some.x ∷ drop (s.matched + 1) (top_name (stack s)) =
    drop_some (top_name (stack s)) s.matched c.in-Some.x (sym c.in-Some.ensures.letter) ∙ ap (λ n. c.in-Some.x ∷ drop n (top_name (stack s))) (sym (add-one s.matched)) in
    rw (cut, eq-eqb c.args.c c.in-Some.x c.if-c-x.true) (refl, (c.requires.sound, tt))

pub returns-else-c-x : goal.returns-else-c-x
returns-else-c-x c =
    let s = c.args.self.now in
    let cut : drop s.matched (top_name (stack s)) ≡ c.in-Some.x ∷ drop (suc s.matched) (top_name (stack s)) =
    drop_some (top_name (stack s)) s.matched c.in-Some.x (sym c.in-Some.ensures.letter) in
    rw (cut, code_not c.args.c c.in-Some.x c.if-c-x.false) (refused _ c.refuse.result c.refuse.ensures)

pub returns-then-c-eq62 : goal.returns-then-c-eq62
returns-then-c-eq62 c =
    let s = c.args.self.now in
    let cut : drop s.matched (top_name (stack s)) ≡ [] = drop_none (top_name (stack s)) s.matched (sym c.in-None.ensures.letter) in
    rw (cut, eq-eqb c.args.c 62 c.if-c-eq62.true) c.close.ensures

pub returns-then-is_white : goal.returns-then-is_white
returns-then-is_white c =
    let s = c.args.self.now in
    let cut : drop s.matched (top_name (stack s)) ≡ [] = drop_none (top_name (stack s)) s.matched (sym c.in-None.ensures.letter) in
    rw (cut, code_not c.args.c 62 c.if-c-eq62.false, sym c.is_white.ensures ∙ c.if-is_white.true)
    (ap (λ v. state (closing_at (stack s) v) (tick c.args.c (level s c.args.at))) (sym cut), (c.requires.sound, tt))

pub returns-else-is_white : goal.returns-else-is_white
returns-else-is_white c =
    let s = c.args.self.now in
    let cut : drop s.matched (top_name (stack s)) ≡ [] = drop_none (top_name (stack s)) s.matched (sym c.in-None.ensures.letter) in
    rw (cut, code_not c.args.c 62 c.if-c-eq62.false, sym c.is_white.ensures ∙ c.if-is_white.false) (refused _ c.refuse-else-is_white.result c.refuse-else-is_white.ensures)
