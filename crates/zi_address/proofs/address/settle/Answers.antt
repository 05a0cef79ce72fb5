use Rattle.std.proofs.Common.{◌≡◌, true, false, not, ◌||◌, ◌++◌, ◌∷◌, [], map, length, Some, option_map, sym, subst, ◌∙◌, ap, lit<, codes}
use Rattle.std.proofs.lemmas.List.{map-append}
use Rattle.std.proofs.lemmas.Iterator.Splits.{YieldsList-from_str_split}
use Rattle.std.proofs.lemmas.Iterator.Consumers.{YieldsList-so_far, YieldsList-turn, YieldsList-end}
use Rattle.std.specs.Str.Iter.{split_text, split_has_more, split_pattern}
use Rattle.zi_address.specs.Address.{path_of, settled}
use Rattle.zi_address.specs.Texts.{pieces_of, is_none, same}
use Rattle.zi_address.proofs.AddressLemmas.{IsLeft, cut_alike, kept, above_top, at_end, popped, popped_none}
use Rattle.zi_address.proofs.address.settle.Goals as goal

pub loop-part-preserved : goal.loop-part-preserved
unfolding same
loop-part-preserved c =
    let part = c.in-Some.part.now in
    let stays : (is_none part || same part (codes ".")) ≡ false = sym c.falls_away.ensures ∙ c.if-falls_away.false in
    let up : same part (codes "..") ≡ false = sym c.eq.ensures ∙ c.if-eq.false in
    let ys = map (λ x. x.now) c.loop-part.yielded in
    let more : map (λ x. x.now) (c.loop-part.yielded ++ c.in-Some.part ∷ []) ≡ ys ++ part ∷ [] = map-append (λ x. x.now) c.loop-part.yielded (c.in-Some.part ∷ []) in
    let parts = map (λ x. x.now) c.loop-part.parts.items in
    let pushed : map (λ x. x.now) c.push.new.self.items ≡ parts ++ part ∷ [] =
    ap (map (λ x. x.now)) c.in_ok-push.ensures.items ∙ map-append (λ x. x.now) c.loop-part.parts.items (c.in-Some.part ∷ []) in
    (tt, tt, rw (more, pushed) (kept ys parts part c.loop-part.invariant.2 stays up))

pub returns-then-is_none : goal.returns-then-is_none
unfolding same
returns-then-is_none c =
    let text = c.args.text.now in
    let i = c.into_iter-part-iterator.ensures.into_iter_gives in
    let source = YieldsList-from_str_split 47 text (lit< tt) (ap split_text i ∙ c.split-part-items.ensures.text) (ap split_has_more i ∙ c.split-part-items.ensures.has_more) (ap split_pattern i ∙ c.split-part-items.ensures.pattern) in
    let part = c.in-Some.part.now in
    let stays : (is_none part || same part (codes ".")) ≡ false = sym c.falls_away.ensures ∙ c.if-falls_away.false in
    let up : same part (codes "..") ≡ true = sym c.eq.ensures ∙ c.if-eq.true in
    let ys = map (λ x. x.now) c.loop-part.yielded in
    let front = YieldsList-so_far source c.loop-part.yielded _ c.loop-part.yielded_by in
    let none : map (λ x. x.now) c.loop-part.parts.items ≡ [] =
    popped_none _ _ c.loop-part.parts.items c.pop.new.self.items c.pop.result (c.is_none.ensures ∙ ap not c.if-is_none.true) c.pop.ensures.items c.pop.ensures.rest c.pop.ensures.cases in
    let at = YieldsList-turn source c.loop-part.yielded _ c.loop-part.yielded_by _ _ c.in-Some.part c.in-Some.is c.next.ensures.steps in
    ap (option_map path_of) (sym (above_top text ys part (length c.loop-part.yielded) front at (subst (IsLeft ys) none c.loop-part.invariant.2) stays up))

pub loop-part-preserved-else-is_none : goal.loop-part-preserved-else-is_none
unfolding same
loop-part-preserved-else-is_none c =
    let part = c.in-Some.part.now in
    let stays : (is_none part || same part (codes ".")) ≡ false = sym c.falls_away.ensures ∙ c.if-falls_away.false in
    let up : same part (codes "..") ≡ true = sym c.eq.ensures ∙ c.if-eq.true in
    let ys = map (λ x. x.now) c.loop-part.yielded in
    let more : map (λ x. x.now) (c.loop-part.yielded ++ c.in-Some.part ∷ []) ≡ ys ++ part ∷ [] = map-append (λ x. x.now) c.loop-part.yielded (c.in-Some.part ∷ []) in
    (tt, tt, rw more (popped ys c.loop-part.parts.items c.pop.new.self.items part c.pop.result c.loop-part.invariant.2 c.pop.ensures.items (c.is_none.ensures ∙ ap not c.if-is_none.false) stays up))

pub returns : goal.returns
returns c =
    let text = c.args.text.now in
    let i = c.into_iter-part-iterator.ensures.into_iter_gives in
    let source = YieldsList-from_str_split 47 text (lit< tt) (ap split_text i ∙ c.split-part-items.ensures.text) (ap split_has_more i ∙ c.split-part-items.ensures.has_more) (ap split_pattern i ∙ c.split-part-items.ensures.pattern) in
    let t = YieldsList-end source c.loop-part.yielded _ c.loop-part.yielded_by _ _ c.in-None.is c.next.ensures.steps in
    let left : settled (pieces_of 47 text) ≡ Some (map (λ x. x.now) c.loop-part.parts.items) =
    ap settled (sym (t.0 ∙ cut_alike text)) ∙ at_end (map (λ x. x.now) c.loop-part.yielded) (map (λ x. x.now) c.loop-part.parts.items) c.loop-part.invariant.2 in
    ap Some (c.in_ok-path_with.ensures ∙ ap (λ parts. path_of (map (λ x. x.now) parts)) c.as_slice.ensures.value) ∙ ap (option_map path_of) (sym left)
