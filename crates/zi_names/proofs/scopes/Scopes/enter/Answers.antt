use Rattle.std.proofs.Common.{◌≡◌, ◌∷◌, length, reverse, sym, ap, ◌∙◌, subst}
use Rattle.zi_names.specs.Names.{declared, scope_in, has_bad_prefix, has_repeated}
use Rattle.zi_names.specs.Levels.{levels}
use Rattle.zi_names.specs.Scopes.{innermost, Resolves}
use Rattle.zi_names.proofs.LevelsLemmas.{innermost_levels, levels_more}
use Rattle.zi_names.proofs.scopes.Scopes.enter.Goals as goal

pub returns-then-branch : goal.returns-then-branch
returns-then-branch c =
    let inner : innermost c.args.self.now ≡ c.self.inside.scope = ap innermost (sym c.self.view_is) ∙ innermost_levels (reverse c.self.inside.counts.items) c.self.inside.scope in
    let inside : c.declare.new.self ≡ scope_in c.args.raw (innermost c.args.self.now) =
    c.in_ok-count.ensures.scope ∙ (ap (λ ws. scope_in ws c.self.inside.scope) c.as_slice.ensures ∙ ap (scope_in c.args.raw) (sym inner)) in (
      ap (has_bad_prefix c.args.name.now c.args.raw) (sym inside)
          ∙ (ap (λ ws. has_bad_prefix c.args.name.now ws c.declare.new.self) (sym c.as_slice-2.ensures)
          ∙ (sym c.has_bad_prefix.ensures ∙ c.if-has_bad_prefix.false)),
      ap (has_repeated c.args.raw) (sym inside)
          ∙ (ap (λ ws. has_repeated ws c.declare.new.self) (sym c.as_slice-3.ensures) ∙ (sym c.in_ok-has_repeated.ensures ∙ c.if-branch.true)),
    )

pub returns : goal.returns
returns c =
    let inner : innermost c.args.self.now ≡ c.self.inside.scope = ap innermost (sym c.self.view_is) ∙ innermost_levels (reverse c.self.inside.counts.items) c.self.inside.scope in
    let declared_in : c.declare.new.self ≡ scope_in c.args.raw c.self.inside.scope =
    c.in_ok-count.ensures.scope ∙ ap (λ ws. scope_in ws c.self.inside.scope) c.as_slice.ensures in
    let inside : c.declare.new.self ≡ scope_in c.args.raw (innermost c.args.self.now) = declared_in ∙ ap (scope_in c.args.raw) (sym inner) in
    record {
      entered =
          levels_more c.self.inside.counts.items c.push.new.self.items c.in_ok-count.count c.args.raw c.self.inside.scope c.declare.new.self
          c.in_ok-push.ensures.items (c.in_ok-count.ensures.count ∙ ap (λ ws. length (declared ws)) c.as_slice.ensures) declared_in
          ∙ (ap (λ s. s ∷ levels (reverse c.self.inside.counts.items) c.self.inside.scope) inside
          ∙ ap (λ ss. scope_in c.args.raw (innermost c.args.self.now) ∷ ss) c.self.view_is);
      prefixes = ap (has_bad_prefix c.args.name.now c.args.raw) (sym inside)
          ∙ (ap (λ ws. has_bad_prefix c.args.name.now ws c.declare.new.self) (sym c.as_slice-2.ensures)
          ∙ (sym c.has_bad_prefix.ensures ∙ c.if-has_bad_prefix.false));
      distinct = ap (has_repeated c.args.raw) (sym inside)
          ∙ (ap (λ ws. has_repeated ws c.declare.new.self) (sym c.as_slice-3.ensures) ∙ (sym c.in_ok-has_repeated.ensures ∙ c.if-branch.false));
      resolved = subst (λ s. Resolves c.args.name.now c.args.raw s c.in_ok-tag.tag) inside c.in_ok-tag.ensures;
    }
