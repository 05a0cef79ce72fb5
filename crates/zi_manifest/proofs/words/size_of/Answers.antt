use Rattle.std.proofs.Common.{◌≡◌, sym, subst, ◌∙◌, ap}
use Rattle.std.specs.Prelude.{decimal}
use Rattle.std.specs.Str.{IsUtf8}
use Rattle.std.specs.Cmp.Lexicographic.{other_text}
use Rattle.std.proofs.lemmas.Fmt.{parse-decimal, IsAscii-decimal}
use Rattle.std.proofs.lemmas.Str.{IsUtf8-from_ascii}
use Rattle.zi_manifest.proofs.words.size_of.Goals as goal

pub returns-in_default : goal.returns-in_default
returns-in_default c = λ n low e.
    c.in_default.ensures.cases.0 (subst IsUtf8 (sym e) (IsUtf8-from_ascii (decimal n) (IsAscii-decimal n low)))

pub returns-in_default-parse : goal.returns-in_default-parse
returns-in_default-parse c = λ n low e.
    let p = parse-decimal 64 n c.in-Ok.text.now c.parse.result low low (c.in-Ok.ensures.cases.0 ∙ e) c.parse.ensures.value.0 in
    absurd (cc (p, c.in_default-parse.is))

pub returns-else-eq : goal.returns-else-eq
returns-else-eq c = λ n low e.
    let p = parse-decimal 64 n c.in-Ok.text.now c.parse.result low low (c.in-Ok.ensures.cases.0 ∙ e) c.parse.ensures.value.0 in
    let is : n ≡ c.in-Ok-parse.n = cc (sym p ∙ c.in-Ok-parse.is) in
    let text : c.format.result.now ≡ decimal c.in-Ok-parse.n = c.format.ensures.text in
    other_text c.as_bytes.result.now c.args.word.now (sym c.if-eq.false ∙ c.eq.ensures) (c.as_bytes.ensures.value ∙ text ∙ sym (ap decimal is) ∙ sym e)
