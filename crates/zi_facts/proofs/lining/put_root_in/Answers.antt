use Rattle.std.proofs.Common.{◌≡◌, ◌∙◌, ◌++◌, ◌==◌, List, ℕ, length, sym, ap, false}
use Rattle.std.specs.Prelude.{codes}
use Rattle.std.proofs.lemmas.Result.{on_ok_weaker}
use Rattle.zi_text.proofs.ListLaws.{if_false}
use Rattle.zi_build.specs.Clauses.{each}
use Rattle.zi_facts.specs.Lines.{versions_text, own_number, root_in}
use Rattle.zi_facts.proofs.LineLaws.{three}
use Rattle.zi_facts.proofs.lining.put_root_in.Goals as goal

pub returns : goal.returns
returns c =
    let out = c.args.out.now in
    let ks = c.args.all.now in
    let ns : c.as_slice.result.now ≡ each 0 own_number ks = c.as_slice.ensures ∙ c.in_ok-numbers.ensures in
    let some : (length ks == 0) ≡ false = sym c.is_empty.ensures ∙ c.if-is_empty.false in
    let is : root_in ks ≡ codes " is needed, in one of these: " ++ (versions_text ks (each 0 own_number ks) ++ codes "\n") =
    if_false (length ks == 0) (codes " is needed, and has no version that may be used\n") (codes " is needed, in one of these: " ++ (versions_text ks (each 0 own_number ks) ++ codes "\n")) some in
    let put = c.in_ok-put_versions.ensures ∙ ap (λ ms. c.push_str-2.new.self ++ versions_text ks ms) ns in
    on_ok_weaker c.push_str-3.result
    (λ e. three out c.push_str-2.new.self c.put_versions.new.out c.push_str-3.new.self (codes " is needed, in one of these: ") (versions_text ks (each 0 own_number ks)) (codes "\n") c.in_ok-push_str.ensures.ok put e ∙ ap (λ t. out ++ t) (sym is))
    c.push_str-3.ensures.ok
