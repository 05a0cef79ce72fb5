use Rattle.std.proofs.Common.{◌≡◌, ◌∙◌, ◌++◌, List, ℕ, sym, ap, subst}
use Rattle.std.specs.Prelude.{OnOk}
use Rattle.std.proofs.lemmas.Result.{on_ok_weaker}
use Rattle.zi_choice.specs.Vars.{candidates_of}
use Rattle.zi_facts.specs.Telling.{universe_of}
use Rattle.zi_facts.specs.declared.fact.Fact.{Fact}
use Rattle.zi_facts.specs.Facts.{as_told}
use Rattle.zi_facts.specs.Lines.{root_in, root_text}
use Rattle.zi_facts.proofs.LineLaws.{both}
use Rattle.zi_facts.proofs.lining.put_root.Goals as goal

pub returns-in_ok-push_str-in-Root : goal.returns-in_ok-push_str-in-Root
returns-in_ok-push_str-in-Root c =
    let out = c.args.out.now in
    let u = universe_of c.args.on.now in
    let new = c.put_root_in.new.out in
    let mid = c.push_str.new.self in
    let P : Fact → Type 0 = λ f. OnOk c.put_root_in.result (new ≡ out ++ root_text u c.args.req.now (as_told f)) in
    subst P (sym c.in-Root.is)
    (on_ok_weaker c.put_root_in.result
    (λ e. both out mid new c.args.req.now.interface (root_in (candidates_of u 0)) (c.in_ok-push_str-in-Root.ensures.ok ∙ ap (λ t. out ++ t) c.as_str.ensures) (e ∙ ap (λ ks. mid ++ root_in ks) c.candidates.ensures.is))
    c.put_root_in.ensures)
