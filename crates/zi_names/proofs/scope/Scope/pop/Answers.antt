use Rattle.std.proofs.Common.{◌≡◌, cond, ◌∷◌, [], Some, is_some, length, reverse, ap, ◌∙◌, subst}
use Rattle.std.proofs.lemmas.List.{reverse-append}
use Rattle.std.specs.Str.{bytes_eq}
use Rattle.std.specs.BTreeMap.{get_by_text}
use Rattle.zi_names.specs.Places.{place, IsIndexed}
use Rattle.zi_names.proofs.PlacesLemmas.{indexed_less}
use Rattle.zi_text.proofs.ListLaws.{bytes_itself}
use Rattle.zi_names.proofs.scope.Scope.pop.Goals as goal

pub restore-requires : goal.restore-requires
restore-requires c =
    let b = c.in-Some.bound in
    let rest = reverse c.pop.new.self.items in
    let m = c.self.inside.newest in
    let p = b.binding.prefix in
    let split : reverse c.self.inside.bounds.items ≡ b ∷ rest = ap reverse c.in-Some.ensures.items ∙ reverse-append c.pop.new.self.items (b ∷ []) in
    let there : get_by_text m p ≡ Some (length rest) =
    c.self.invariant.placed p ∙ (ap (λ bs. place bs p) split ∙ ap (λ v. cond v (Some (length rest)) (place rest p)) (bytes_itself p)) in
    ap is_some (ap (get_by_text m) c.as_str.ensures ∙ there)

pub invariant_of-self : goal.invariant_of-self
invariant_of-self c =
    let b = c.in-Some.bound in
    let rest = reverse c.pop.new.self.items in
    let m = c.self.inside.newest in
    let split : reverse c.self.inside.bounds.items ≡ b ∷ rest = ap reverse c.in-Some.ensures.items ∙ reverse-append c.pop.new.self.items (b ∷ []) in
    let old : IsIndexed (b ∷ rest) m = subst (λ bs. IsIndexed bs m) split c.self.invariant in
    indexed_less b rest m c.restore.new.newest old
    (λ q. c.restore.ensures q ∙ ap (λ v. cond (bytes_eq v q) b.hides (get_by_text m q)) c.as_str.ensures)
