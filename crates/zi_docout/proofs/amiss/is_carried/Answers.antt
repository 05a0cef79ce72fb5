use Rattle.std.proofs.Common.{◌≡◌, ◌&&◌, ap, sym, ◌∙◌, rules, tests}
use Rattle.std.specs.List.{list_all}
use Rattle.std.specs.Str.{chars}
use Rattle.std.proofs.lemmas.Iterator.{YieldsList-from_chars}
use Rattle.std.proofs.lemmas.Iterator.Search.{all_from_yields_List}
use Rattle.std.proofs.lemmas.Str.{is_utf8-from_IsUtf8}
use Rattle.zi_xml.specs.Chars.{is_char}
use Rattle.zi_docout.specs.Amiss.{is_carried}
use Rattle.zi_docout.proofs.amiss.is_carried.Goals as goal

pub returns : goal.returns
unfolding is_carried
returns c =
    let t = c.args.text.now in
    let all : c.all.result ≡ list_all is_char (chars t) = all_from_yields_List is_char _ _ c.all.result c.all.ensures.ran (YieldsList-from_chars t c.utf8.text cc) (λ x b q k. search (rules, tests)) in
    all ∙ sym (ap (λ b. b && list_all is_char (chars t)) (is_utf8-from_IsUtf8 t c.utf8.text))
