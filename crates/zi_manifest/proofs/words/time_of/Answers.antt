use Rattle.std.proofs.Common.{◌≡◌, ◌<◌, ◌^◌, ℤ, pos, negsuc, sym, subst, ◌∙◌, ap, w64, FitsSigned}
use Rattle.std.specs.Fmt.{signed_decimal}
use Rattle.std.specs.Str.{IsUtf8}
use Rattle.std.specs.Cmp.Lexicographic.{other_text}
use Rattle.std.specs.Int.Signed.{mag}
use Rattle.std.proofs.lemmas.Fmt.{parse-signed_decimal, IsAscii-signed}
use Rattle.std.proofs.lemmas.Int.{to_z-of_z}
use Rattle.std.proofs.lemmas.Str.{IsUtf8-from_ascii}
use Rattle.zi_manifest.specs.Listing.{IsSigned64}
use Rattle.zi_manifest.proofs.words.time_of.Goals as goal

mag_low : (z : ℤ) → IsSigned64 z → mag z < 2 ^ 63
mag_low (pos n) h = h
mag_low (negsuc n) h = h

fits : (z : ℤ) → IsSigned64 z → FitsSigned w64 z
fits (pos n) h = record { sfits = h }
fits (negsuc n) h = record { sfits = h }

pub returns-in_default : goal.returns-in_default
returns-in_default c = λ z low e.
    c.in_default.ensures.cases.0 (subst IsUtf8 (sym e) (IsUtf8-from_ascii (signed_decimal z) (IsAscii-signed z (mag_low z low))))

pub returns-in_default-parse : goal.returns-in_default-parse
returns-in_default-parse c = λ z low e.
    let p = parse-signed_decimal w64 z c.in-Ok.text.now c.parse.result (fits z low) (mag_low z low) (c.in-Ok.ensures.cases.0 ∙ e) c.parse.ensures.value.0 in
    absurd (cc (p, c.in_default-parse.is))

pub returns-else-eq : goal.returns-else-eq
returns-else-eq c = λ z low e.
    let p = parse-signed_decimal w64 z c.in-Ok.text.now c.parse.result (fits z low) (mag_low z low) (c.in-Ok.ensures.cases.0 ∙ e) c.parse.ensures.value.0 in
    let is : z ≡ c.in-Ok-parse.n = cc (sym p ∙ c.in-Ok-parse.is) in
    let text : c.format.result.now ≡ signed_decimal c.in-Ok-parse.n = c.format.ensures.text ∙ ap signed_decimal (to_z-of_z w64 c.in-Ok-parse.n (subst (FitsSigned w64) is (fits z low))) in
    other_text c.as_bytes.result.now c.args.word.now (sym c.if-eq.false ∙ c.eq.ensures) (c.as_bytes.ensures.value ∙ text ∙ sym (ap signed_decimal is) ∙ sym e)
