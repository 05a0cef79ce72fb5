use Rattle.std.proofs.Common.{◌≡◌, ◌∙◌, ◌++◌, List, ℕ, sym, ap}
use Rattle.std.specs.Prelude.{codes}
use Rattle.std.proofs.lemmas.Result.{on_ok_weaker}
use Rattle.zi_facts.specs.Telling.{universe_of}
use Rattle.zi_facts.specs.Lines.{targets, lacking, lacks_in}
use Rattle.zi_facts.proofs.LineLaws.{five}
use Rattle.zi_facts.proofs.words.put_named.Goals as goal

pub returns : goal.returns
returns c =
    let d = c.args.dep.now in
    let name = c.args.name.now in
    let ts = targets (universe_of c.args.on.now) d in
    let all = c.targets-all.result.now in
    let ns : c.as_slice.result.now ≡ lacking d name all = c.as_slice.ensures ∙ c.in_ok-numbers.ensures in
    let is : lacks_in all c.as_slice.result.now ≡ lacks_in ts (lacking d name ts) = ap (lacks_in all) ns ∙ ap (λ ks. lacks_in ks (lacking d name ks)) c.targets-all.ensures.is in
    on_ok_weaker c.put_lacks_in.result
    (λ e. five c.args.out.now c.push_str.new.self c.push_str-2.new.self c.push_str-3.new.self c.push_str-4.new.self c.put_lacks_in.new.out (codes " needs the command ") name (codes " of ") d.interface (lacks_in ts (lacking d name ts))
    c.in_ok-push_str.ensures.ok (c.in_ok-push_str-2.ensures.ok ∙ ap (λ t. c.push_str.new.self ++ t) c.as_str.ensures) c.in_ok-push_str-3.ensures.ok (c.in_ok-push_str-4.ensures.ok ∙ ap (λ t. c.push_str-3.new.self ++ t) c.as_str-2.ensures)
    (e ∙ ap (λ t. c.push_str-4.new.self ++ t) is))
    c.put_lacks_in.ensures
