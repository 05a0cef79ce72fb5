use Rattle.std.proofs.Common.{◌≡◌, ◌+◌, ℕ, List, Bool, take, drop, suc, cond, ◌||◌, true, false, Bor, ap, sym, ◌∙◌, ◌∷◌, [], ◌++◌, drop-cons}
use Rattle.std.specs.Ordering.{nat_cmp}
use Rattle.std.specs.Cmp.Lexicographic.{slice_cmp}
use Rattle.std.specs.BTreeSet as tree
use Rattle.std.specs.List.{list_any}
use Rattle.std.specs.Str.{bytes_eq}
use Rattle.std.proofs.lemmas.List.{take-append-drop, take_more}
use Rattle.std.proofs.lemmas.Map.Text.{is_eq-slice_cmp}
use Rattle.std.proofs.lemmas.Bool.{not-false, not-true}
use Rattle.zi_elements.specs.declared.element.Attr.{Attr}
use Rattle.zi_names.specs.Names.{has_twice}
use Rattle.zi_docout.specs.Amiss.{same_name}
use Rattle.zi_names.proofs.Twice.{twice_push, twice_found}
use Rattle.zi_text.proofs.ListLaws.{any_push, cond_or}
use Rattle.zi_docout.proofs.amiss.has_name_twice.Goals as goal

pub returns-then-not-branch : goal.returns-then-not-branch
returns-then-not-branch c =
    let i = c.loop-attr.attr-index in
    let w = c.attr-item.result in
    let attrs = c.args.attrs.now in
    let key = c.as_str.result in
    let split : attrs ≡ take i attrs ++ w ∷ drop (suc i) attrs =
    sym (take-append-drop i attrs) ∙ ap (λ v. take i attrs ++ v) (drop-cons attrs i w c.loop-attr-test.true ∙ ap (λ v. v ∷ drop (suc i) attrs) (sym c.attr-item.is)) in
    let there = not-false _ (sym (sym c.if-not-branch.true ∙ c.in_ok-insert.ensures.added)) in
    let known : list_any (λ a. bytes_eq a.name w.name) (take i attrs) ≡ true =
    ap (λ v. list_any (λ a. bytes_eq a.name v) (take i attrs)) (sym c.as_str.ensures) ∙ (sym (c.loop-attr.invariant.told key) ∙ there) in
    sym (ap (has_twice same_name) split ∙ twice_found same_name (take i attrs) w (drop (suc i) attrs) known)

pub loop-attr-preserved : goal.loop-attr-preserved
loop-attr-preserved c =
    let i = c.loop-attr.attr-index in
    let w = c.attr-item.result in
    let attrs = c.args.attrs.now in
    let key = c.as_str.result in
    let front = take i attrs in
    let more : take (i + 1) attrs ≡ front ++ w ∷ [] = take_more attrs i w c.loop-attr-test.true ∙ ap (λ v. front ++ v ∷ []) (sym c.attr-item.is) in
    let absent = not-true _ (sym (sym c.if-not-branch.false ∙ c.in_ok-insert.ensures.added)) in
    let unknown : list_any (λ a. bytes_eq a.name w.name) front ≡ false =
    ap (λ v. list_any (λ a. bytes_eq a.name v) front) (sym c.as_str.ensures) ∙ (sym (c.loop-attr.invariant.told key) ∙ absent) in
    record {
      told = λ q.
          let had : Bool = tree.contains (λ (v : Bor (List ℕ)) (x : Bor (List ℕ)). slice_cmp nat_cmp v.now x.now) c.loop-attr.seen q in
          c.in_ok-insert.ensures.updates.0 q
          ∙ (ap (λ b. cond b true had) (is_eq-slice_cmp key.now q.now ∙ ap (λ n. bytes_eq n q.now) c.as_str.ensures)
          ∙ (cond_or (bytes_eq w.name q.now) had ∙ (ap (λ v. v || bytes_eq w.name q.now) (c.loop-attr.invariant.told q)
          ∙ (sym (any_push (λ (a : Attr). bytes_eq a.name q.now) front w) ∙ ap (list_any (λ a. bytes_eq a.name q.now)) (sym more)))));
      once = ap (has_twice same_name) more ∙ twice_push same_name front w c.loop-attr.invariant.once unknown;
    }
