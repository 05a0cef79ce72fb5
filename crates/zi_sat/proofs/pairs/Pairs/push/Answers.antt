use Rattle.std.proofs.Common.{rules, ◌≡◌, suc, ◌++◌, ◌∷◌, [], ◌∙◌, map, length, ap, sym, subst, arith, Some}
use Rattle.std.proofs.lemmas.List.{length-append}
use Rattle.zi_sat.specs.Pairs.{held, StandApart}
use Rattle.zi_sat.proofs.PairLaws.{apart_some, pushed_some}
use Rattle.zi_sat.proofs.pairs.Pairs.push.Goals as goal

pub invariant_of-self-2 : goal.invariant_of-self-2
invariant_of-self-2 c =
    let a = c.self.inside in
    let n : c.in_ok-number.number ≡ suc (length a.pairs.items) = search rules in
    let many : suc (length a.pairs.items) ≡ length c.push.new.self.items = omega (arith, ap length c.in_ok-push.ensures.items, length-append a.pairs.items (c.args.pair ∷ [])) in
    let places : c.push_reserved.new.self.items ≡ a.places.items ++ suc (length a.pairs.items) ∷ [] =
    c.push_reserved.ensures.items ∙ (ap (λ ns. ns ++ c.in_ok-number.number ∷ []) c.in_ok-reserve.ensures.items ∙ ap (λ k. a.places.items ++ k ∷ []) n) in
    subst (λ ns. StandApart 0 (length c.push.new.self.items) ns) (sym places)
    (subst (λ e. StandApart 0 e (a.places.items ++ suc (length a.pairs.items) ∷ [])) many (apart_some 0 (length a.pairs.items) a.places.items c.self.invariant))

pub returns-clause-items : goal.returns-clause-items
returns-clause-items c =
    let a = c.self.inside in
    let n : c.in_ok-number.number ≡ suc (length a.pairs.items) = search rules in
    let places : c.push_reserved.new.self.items ≡ a.places.items ++ suc (length a.pairs.items) ∷ [] =
    c.push_reserved.ensures.items ∙ (ap (λ ns. ns ++ c.in_ok-number.number ∷ []) c.in_ok-reserve.ensures.items ∙ ap (λ k. a.places.items ++ k ∷ []) n) in
    ap (λ ps. map (held ps) c.push_reserved.new.self.items) c.in_ok-push.ensures.items
    ∙ (ap (map (held (a.pairs.items ++ c.args.pair ∷ []))) places
    ∙ (pushed_some a.pairs.items c.args.pair 0 a.places.items c.self.invariant
    ∙ ap (λ os. os ++ Some c.args.pair ∷ []) c.self.view_is))
