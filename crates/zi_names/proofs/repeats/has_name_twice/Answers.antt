use Rattle.std.proofs.Common.{◌≡◌, ◌+◌, ℕ, List, Bool, take, drop, suc, cond, ◌||◌, true, false, Bor, ap, sym, ◌∙◌, ◌∷◌, [], ◌++◌, drop-cons}
use Rattle.std.specs.Ordering.{nat_cmp}
use Rattle.std.specs.Cmp.Lexicographic.{slice_cmp}
use Rattle.std.specs.BTreeSet as tree
use Rattle.std.specs.List.{list_any}
use Rattle.std.specs.Str.{bytes_eq}
use Rattle.std.proofs.lemmas.List.{take-append-drop, take_more}
use Rattle.std.proofs.lemmas.Map.Text.{is_eq-slice_cmp}
use Rattle.std.proofs.lemmas.Bool.{not-false, not-true}
use Rattle.zi_names.specs.declared.attributes.Raw.{Raw}
use Rattle.zi_names.specs.Names.{same_name, has_twice}
use Rattle.zi_names.proofs.Twice.{twice_push, twice_found}
use Rattle.zi_text.proofs.ListLaws.{any_push, cond_or}
use Rattle.zi_names.proofs.repeats.has_name_twice.Goals as goal

pub returns-then-not-branch : goal.returns-then-not-branch
returns-then-not-branch c =
    let i = c.loop-attribute.attribute-index in
    let w = c.attribute-item.result in
    let raw = c.args.raw.now in
    let key = c.as_str.result in
    let split : raw ≡ take i raw ++ w ∷ drop (suc i) raw =
    sym (take-append-drop i raw) ∙ ap (λ v. take i raw ++ v) (drop-cons raw i w c.loop-attribute-test.true ∙ ap (λ v. v ∷ drop (suc i) raw) (sym c.attribute-item.is)) in
    let there = not-false _ (sym (sym c.if-not-branch.true ∙ c.in_ok-insert.ensures.added)) in
    let known : list_any (λ a. bytes_eq a.name w.name) (take i raw) ≡ true =
    ap (λ v. list_any (λ a. bytes_eq a.name v) (take i raw)) (sym c.as_str.ensures) ∙ (sym (c.loop-attribute.invariant.told key) ∙ there) in
    sym (ap (has_twice same_name) split ∙ twice_found same_name (take i raw) w (drop (suc i) raw) known)

pub loop-attribute-preserved : goal.loop-attribute-preserved
loop-attribute-preserved c =
    let i = c.loop-attribute.attribute-index in
    let w = c.attribute-item.result in
    let raw = c.args.raw.now in
    let key = c.as_str.result in
    let front = take i raw in
    let more : take (i + 1) raw ≡ front ++ w ∷ [] = take_more raw i w c.loop-attribute-test.true ∙ ap (λ v. front ++ v ∷ []) (sym c.attribute-item.is) in
    let absent = not-true _ (sym (sym c.if-not-branch.false ∙ c.in_ok-insert.ensures.added)) in
    let unknown : list_any (λ a. bytes_eq a.name w.name) front ≡ false =
    ap (λ v. list_any (λ a. bytes_eq a.name v) front) (sym c.as_str.ensures) ∙ (sym (c.loop-attribute.invariant.told key) ∙ absent) in
    record {
      told = λ q.
          let had : Bool = tree.contains (λ (v : Bor (List ℕ)) (x : Bor (List ℕ)). slice_cmp nat_cmp v.now x.now) c.loop-attribute.seen q in
          c.in_ok-insert.ensures.updates.0 q
          ∙ (ap (λ b. cond b true had) (is_eq-slice_cmp key.now q.now ∙ ap (λ n. bytes_eq n q.now) c.as_str.ensures)
          ∙ (cond_or (bytes_eq w.name q.now) had ∙ (ap (λ v. v || bytes_eq w.name q.now) (c.loop-attribute.invariant.told q)
          ∙ (sym (any_push (λ (a : Raw). bytes_eq a.name q.now) front w) ∙ ap (list_any (λ a. bytes_eq a.name q.now)) (sym more)))));
      once = ap (has_twice same_name) more ∙ twice_push same_name front w c.loop-attribute.invariant.once unknown;
    }
