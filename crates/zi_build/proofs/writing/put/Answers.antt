use Rattle.std.proofs.Common.{◌∷◌, [], ◌<◌, ◌≤◌, ◌+◌, ◌-◌, ◌∙◌, sym, ap, subst, refl}
use Rattle.std.proofs.lemmas.Bool.{ltb-true}
use Rattle.zi_formula.specs.Lent.{shows}
use Rattle.zi_build.proofs.WriteLaws.{put_past, put_over, put_more, not_past}
use Rattle.zi_build.proofs.writing.put.Goals as goal

pub returns-then-is_full : goal.returns-then-is_full
returns-then-is_full c = put_past c.args.plan.now.keeps c.args.w.now (shows c.args.c ∷ []) (ltb-true 8000000 c.args.w.now.size (sym c.is_full.ensures ∙ c.if-is_full.true))

pub returns-then-more-w : goal.returns-then-more-w
returns-then-more-w c =
    put_over c.args.plan.now.keeps c.args.w.now (record { size = 8000001; constraints = c.args.w.now.constraints; lits = c.args.w.now.lits }) (shows c.args.c) (not_past c.args.w.now.size (sym c.is_full.ensures ∙ c.if-is_full.false)) (subst (λ n. 8000000 - c.args.w.now.size < n) c.size_of-more.ensures c.if-more-w.true) refl

pub returns : goal.returns
returns c =
    put_more c.args.plan.now.keeps c.args.w.now (record { size = c.keep.new.w.size + c.size_of-more.result; constraints = c.keep.new.w.constraints; lits = c.keep.new.w.lits }) (shows c.args.c) (not_past c.args.w.now.size (sym c.is_full.ensures ∙ c.if-is_full.false)) (subst (λ n. n ≤ 8000000 - c.args.w.now.size) c.size_of-more.ensures c.if-more-w.false)
    (ap (λ n. n + c.size_of-more.result) c.in_ok-keep.ensures.size ∙ ap (λ n. c.args.w.now.size + n) c.size_of-more.ensures) c.in_ok-keep.ensures.kept
