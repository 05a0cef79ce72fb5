use Rattle.std.proofs.Common.{◌≡◌, ◌+◌, List, Bool, take, drop, suc, cond, ◌||◌, ◌&&◌, true, false, ap, sym, ◌∙◌, ◌∷◌, [], ◌++◌}
use Rattle.std.specs.Prelude.{filter}
use Rattle.std.specs.BTreeSet as tree
use Rattle.std.specs.List.{list_any}
use Rattle.std.specs.Str.{bytes_eq}
use Rattle.std.proofs.lemmas.Bool.{not-false, not-true}
use Rattle.zi_names.specs.declared.attributes.Raw.{Raw}
use Rattle.zi_names.specs.declared.attributes.Binding.{Binding}
use Rattle.zi_names.specs.Names.{local, prefix, address_of, is_prefixed, same_expanded, has_twice}
use Rattle.zi_names.proofs.Twice.{twice_push, twice_found}
use Rattle.zi_names.proofs.Expanded.{Key, key_cmp, is_named, key_equal, filter_at, filter_front_more, filter_front_same}
use Rattle.zi_text.proofs.ListLaws.{any_push, cond_or}
use Rattle.zi_names.proofs.repeats.has_expanded_twice.Goals as goal
use Rattle.zi_names.proofs.repeats.has_expanded_twice.Goals.{then-is_prefixed+in_ok-insert+else-not-branch, else-is_prefixed}

-- what the set says of an attribute's key is whether an earlier one is alike
alike_before : (scope : List Binding) (ws : List Raw) (w : Raw) (k : Key) → k.0.now ≡ local w.name → k.1.now ≡ address_of scope (prefix w.name)
    → list_any (λ a. same_expanded scope a w) ws ≡ list_any (is_named scope k) ws
alike_before scope ws w k e f =
    ap (λ n. list_any (λ (a : Raw). bytes_eq (local a.name) n && bytes_eq (address_of scope (prefix a.name)) (address_of scope (prefix w.name))) ws) (sym e)
    ∙ ap (λ n. list_any (λ (a : Raw). bytes_eq (local a.name) k.0.now && bytes_eq (address_of scope (prefix a.name)) n) ws) (sym f)

pub returns-then-not-branch : goal.returns-then-not-branch
returns-then-not-branch c =
    let i = c.loop-attribute.attribute-index in
    let w = c.attribute-item.result in
    let raw = c.args.raw.now in
    let scope = c.args.scope.now in
    let k : Key = (c.split.result.1, c.address_or_empty.result) in
    let behind : k.0.now ≡ local w.name = c.split.ensures.behind ∙ ap local c.as_str.ensures in
    let space : k.1.now ≡ address_of scope (prefix w.name) =
    c.address_or_empty.ensures ∙ ap (address_of scope) (c.split.ensures.before ∙ ap prefix c.as_str.ensures) in
    let passes : is_prefixed w ≡ true = sym c.is_prefixed.ensures ∙ c.if-is_prefixed.true in
    let front = filter is_prefixed (take i raw) in
    let there = not-false _ (sym (sym c.if-not-branch.true ∙ c.in_ok-insert.ensures.added)) in
    let known : list_any (λ a. same_expanded scope a w) front ≡ true = alike_before scope front w k behind space ∙ (sym (c.loop-attribute.invariant.told k) ∙ there) in
    sym (ap (has_twice (same_expanded scope)) (filter_at is_prefixed raw i w c.loop-attribute-test.true c.attribute-item.is passes)
    ∙ twice_found (same_expanded scope) front w (filter is_prefixed (drop (suc i) raw)) known)

pub loop-attribute-preserved : goal.loop-attribute-preserved
loop-attribute-preserved c =
    let i = c.loop-attribute.attribute-index in
    let w = c.attribute-item.result in
    let raw = c.args.raw.now in
    let scope = c.args.scope.now in
    let front = filter is_prefixed (take i raw) in
    elim c.if-is_prefixed.branch [
      | then-is_prefixed+in_ok-insert+else-not-branch b ↦
          let k : Key = (b.split.result.1, b.address_or_empty.result) in
          let behind : k.0.now ≡ local w.name = b.split.ensures.behind ∙ ap local b.as_str.ensures in
          let space : k.1.now ≡ address_of scope (prefix w.name) =
          b.address_or_empty.ensures ∙ ap (address_of scope) (b.split.ensures.before ∙ ap prefix b.as_str.ensures) in
          let passes : is_prefixed w ≡ true = sym c.is_prefixed.ensures ∙ b.if-is_prefixed.true in
          let more : filter is_prefixed (take (i + 1) raw) ≡ front ++ w ∷ [] = filter_front_more is_prefixed raw i w c.loop-attribute-test.true c.attribute-item.is passes in
          let absent = not-true _ (sym (sym b.if-not-branch.false ∙ b.in_ok-insert.ensures.added)) in
          let unknown : list_any (λ a. same_expanded scope a w) front ≡ false = alike_before scope front w k behind space ∙ (sym (c.loop-attribute.invariant.told k) ∙ absent) in
          record {
            told = λ q.
                let had : Bool = tree.contains key_cmp c.loop-attribute.seen q in
                ap (λ s. tree.contains key_cmp s q) b.seen-is ∙ (b.in_ok-insert.ensures.updates.0 q
                ∙ (ap (λ v. cond v true had) (key_equal scope w k q behind space)
                ∙ (cond_or (is_named scope q w) had ∙ (ap (λ v. v || is_named scope q w) (c.loop-attribute.invariant.told q)
                ∙ (sym (any_push (is_named scope q) front w) ∙ ap (list_any (is_named scope q)) (sym more))))));
            once = ap (has_twice (same_expanded scope)) more ∙ twice_push (same_expanded scope) front w c.loop-attribute.invariant.once unknown;
          }
      | else-is_prefixed b ↦
          let no : is_prefixed w ≡ false = sym c.is_prefixed.ensures ∙ b.if-is_prefixed.false in
          let same : filter is_prefixed (take (i + 1) raw) ≡ front = filter_front_same is_prefixed raw i w c.loop-attribute-test.true c.attribute-item.is no in
          record {
            told = λ q. ap (λ s. tree.contains key_cmp s q) b.seen-is ∙ (c.loop-attribute.invariant.told q ∙ ap (list_any (is_named scope q)) (sym same));
            once = ap (has_twice (same_expanded scope)) same ∙ c.loop-attribute.invariant.once;
          }
    ]
