use Rattle.std.proofs.Common.{rules, ◌≡◌, ◌∙◌, ◌<◌, ◌≤◌, ◌*◌, ◌+◌, ◌++◌, ◌∷◌, [], ℕ, List, length, get_or, inl, inr, sym, subst, ap, refl, arith, slice_set}
use Rattle.zi_formula.specs.declared.formula.Constraint.TheVariants.{AtMostOne}
use Rattle.zi_sat.specs.declared.rows.Watcher.{Watcher}
use Rattle.zi_sat.specs.Rows.{Has, row_at}
use Rattle.zi_sat.specs.Guard.{row_of, denied, Fits}
use Rattle.zi_sat.proofs.RowLaws.{in_drop, add_grows, add_has, add_all}
use Rattle.zi_sat.proofs.GuardLaws.{row_low}
use Rattle.zi_sat.proofs.AddLaws.{fits_last, all_fit_more}
use Rattle.zi_sat.proofs.watches.add_group.Goals as goal

pub loop-x-init : goal.loop-x-init
loop-x-init c = (refl, refl, refl, λ q m h. h, λ x h. inr h, λ all e f. all_fit_more c.args.w.now.rows all (AtMostOne c.args.variables.now) f)

pub loop-x-preserved : goal.loop-x-preserved
loop-x-preserved c =
    let i = c.loop-x.invariant in
    let rows : List (List Watcher) = c.add.new.self in
    let size : length c.loop-x.w.rows ≡ length c.args.w.now.rows = i.0 in
    let wide : c.args.n * 2 + 2 ≤ length c.loop-x.w.rows = omega (arith, c.requires.rows, i.0) in
    let low : c.row.result < length c.loop-x.w.rows = subst (λ r. r < length c.loop-x.w.rows) (sym c.row.ensures) (row_low c.args.n (length c.loop-x.w.rows) (denied (get_or c.args.variables.now c.loop-x.x-index 0)) (c.requires.within c.loop-x.x-index 0 c.loop-x-test.true).1 wide) in
    let grows : (q m : ℕ) → Has c.loop-x.w.rows q m → Has c.add.new.self q m = add_grows c.loop-x.w.rows c.add.new.self c.row.result (record { place = c.len-i.result; block = denied (get_or c.args.variables.now c.loop-x.x-index 0) }) low c.in_ok-add.ensures.ok in
    let has : Has c.add.new.self c.row.result c.len-i.result = add_has c.loop-x.w.rows c.add.new.self c.row.result (record { place = c.len-i.result; block = denied (get_or c.args.variables.now c.loop-x.x-index 0) }) low c.in_ok-add.ensures.ok in
    let at : c.len-i.result ≡ length c.args.w.now.pairs = search rules in (
      c.add.ensures.len ∙ i.0,
      i.1,
      i.2,
      λ q m h. grows q m (i.3 q m h),
      λ x h. elim (i.4 x h) [
        | inl a ↦ inl (grows (row_of (denied x)) c.len-i.result a)
        | inr d ↦ elim (in_drop c.args.variables.now c.loop-x.x-index 0 x c.loop-x-test.true d) [
          | inl e ↦ inl (subst (λ y. Has c.add.new.self (row_of (denied y)) c.len-i.result) (sym e) (subst (λ r. Has c.add.new.self r c.len-i.result) c.row.ensures has))
          | inr k ↦ inr k
        ]
      ],
      λ all e f. add_all (Fits (all ++ AtMostOne c.args.variables.now ∷ [])) c.loop-x.w.rows c.add.new.self c.row.result (record { place = c.len-i.result; block = denied (get_or c.args.variables.now c.loop-x.x-index 0) }) low c.in_ok-add.ensures.ok (fits_last all (AtMostOne c.args.variables.now) c.len-i.result c.row.result (record { place = c.len-i.result; block = denied (get_or c.args.variables.now c.loop-x.x-index 0) }) (e ∙ sym at) refl (sym c.row.ensures)) (i.5 all e f),
    )
