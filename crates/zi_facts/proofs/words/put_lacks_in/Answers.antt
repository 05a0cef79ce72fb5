use Rattle.std.proofs.Common.{◌≡◌, ◌∙◌, ◌++◌, ◌==◌, [], List, ℕ, length, sym, ap, false}
use Rattle.std.specs.Prelude.{codes}
use Rattle.std.proofs.lemmas.Result.{on_ok_weaker}
use Rattle.zi_text.proofs.ListLaws.{if_false}
use Rattle.zi_facts.specs.Lines.{versions_text, lacks_in}
use Rattle.zi_facts.proofs.LineLaws.{both}
use Rattle.zi_facts.proofs.words.put_lacks_in.Goals as goal

pub returns : goal.returns
returns c =
    let out = c.args.out.now in
    let ns = c.args.numbers.now in
    let some : (length ns == 0) ≡ false = sym c.is_empty.ensures ∙ c.if-is_empty.false in
    let is : lacks_in c.args.all.now ns ≡ codes ", which isn't there in " ++ versions_text c.args.all.now ns =
    if_false (length ns == 0) [] (codes ", which isn't there in " ++ versions_text c.args.all.now ns) some in
    on_ok_weaker c.put_versions.result (λ e. both out c.push_str.new.self c.put_versions.new.out (codes ", which isn't there in ") (versions_text c.args.all.now ns) c.in_ok-push_str.ensures.ok e ∙ ap (λ t. out ++ t) (sym is)) c.put_versions.ensures
