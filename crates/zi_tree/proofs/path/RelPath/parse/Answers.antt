use Rattle.std.proofs.Common.{◌≡◌, true, false, ◌++◌, [], ◌∷◌, sym, ◌∙◌, ap, map, filter, length, lit<}
use Rattle.std.specs.List.{list_any, list_all}
use Rattle.std.proofs.lemmas.Bool.{or_parts}
use Rattle.std.proofs.lemmas.List.{map-append}
use Rattle.std.proofs.lemmas.List.Folds.{list_any_at}
use Rattle.std.proofs.lemmas.Iterator.Splits.{YieldsList-from_str_split}
use Rattle.std.proofs.lemmas.Iterator.Consumers.{YieldsList-turn, YieldsList-end}
use Rattle.std.proofs.lemmas.Str.{is_utf8-from_IsUtf8}
use Rattle.std.specs.Str.Iter.{split_text, split_has_more, split_pattern}
use Rattle.zi_tree.specs.Order.{is_name, has_byte}
use Rattle.zi_tree.specs.Parts.{is_kept, is_up, is_absolute, between_slashes}
use Rattle.zi_tree.proofs.Pieces.{part_name, names_more, none_of, some_of, kept_more, no_up_more}
use Rattle.zi_tree.proofs.path.RelPath.parse.Goals as goal

pub returns-then-eq : goal.returns-then-eq
returns-then-eq c =
    let text = c.args.text.now in
    let i = c.into_iter-part-iterator.ensures.into_iter_gives in
    let t = YieldsList-turn (YieldsList-from_str_split 47 text (lit< tt) (ap split_text i ∙ c.split-part-items.ensures.text) (ap split_has_more i ∙ c.split-part-items.ensures.has_more) (ap split_pattern i ∙ c.split-part-items.ensures.pattern)) c.loop-part.yielded _ c.loop-part.yielded_by _ _ c.in-Some.part c.in-Some.is c.next.ensures.steps in
    none_of text (list_any_at is_up (between_slashes text) (length c.loop-part.yielded) c.in-Some.part.now t.0 (ap is_up (sym t.1) ∙ sym c.if-eq.ensures))

pub loop-part-preserved-in_ok-push : goal.loop-part-preserved-in_ok-push
loop-part-preserved-in_ok-push c =
    let text = c.args.text.now in
    let i = c.into_iter-part-iterator.ensures.into_iter_gives in
    let part = c.in-Some.part.now in
    let t = YieldsList-turn (YieldsList-from_str_split 47 text (lit< tt) (ap split_text i ∙ c.split-part-items.ensures.text) (ap split_has_more i ∙ c.split-part-items.ensures.has_more) (ap split_pattern i ∙ c.split-part-items.ensures.pattern)) c.loop-part.yielded _ c.loop-part.yielded_by _ _ c.in-Some.part c.in-Some.is c.next.ensures.steps in
    let kept : is_kept part ≡ true = sym c.is_kept_part.ensures.kept ∙ c.if-is_kept_part.true in
    let down : is_up part ≡ false = sym c.eq.ensures ∙ c.if-eq.false in
    let nul : has_byte 0 text ≡ false = (or_parts (is_absolute text) (has_byte 0 text) (sym c.begins_wrong.ensures ∙ c.if-begins_wrong.false)).1 in
    let name : is_name part ≡ true = part_name text part (length c.loop-part.yielded) nul t (is_utf8-from_IsUtf8 part c.is_kept_part.ensures.utf8) kept down in
    let mapped : map (λ x. x.now) (c.loop-part.yielded ++ c.in-Some.part ∷ []) ≡ map (λ x. x.now) c.loop-part.yielded ++ part ∷ [] = map-append (λ x. x.now) c.loop-part.yielded (c.in-Some.part ∷ []) in
    let pushed : c.push.new.self ≡ c.loop-part.parts ++ part ∷ [] = c.in_ok-push.ensures.ok ∙ ap (λ n. c.loop-part.parts ++ n ∷ []) c.in_ok-from_str.ensures in (
      tt,
      tt,
      pushed ∙ ap (λ l. l ++ part ∷ []) c.loop-part.invariant.2 ∙ sym (kept_more (map (λ x. x.now) c.loop-part.yielded) part kept) ∙ ap (filter is_kept) (sym mapped),
      ap (list_any is_up) mapped ∙ no_up_more (map (λ x. x.now) c.loop-part.yielded) part c.loop-part.invariant.3 down,
      ap (list_all is_name) pushed ∙ names_more c.loop-part.parts part c.loop-part.invariant.4 name,
    )

pub returns : goal.returns
returns c =
    let text = c.args.text.now in
    let i = c.into_iter-part-iterator.ensures.into_iter_gives in
    let t = YieldsList-end (YieldsList-from_str_split 47 text (lit< tt) (ap split_text i ∙ c.split-part-items.ensures.text) (ap split_has_more i ∙ c.split-part-items.ensures.has_more) (ap split_pattern i ∙ c.split-part-items.ensures.pattern)) c.loop-part.yielded _ c.loop-part.yielded_by _ _ c.in-None.is c.next.ensures.steps in
    some_of text c.loop-part.parts (sym c.begins_wrong.ensures ∙ c.if-begins_wrong.false) (ap (list_any is_up) (sym t.0) ∙ c.loop-part.invariant.3) (c.loop-part.invariant.2 ∙ ap (filter is_kept) t.0)
