use Rattle.std.proofs.Common.{◌≡◌, true, sym, ◌∙◌, ap, rules}
use Rattle.std.specs.Str.{is_utf8}
use Rattle.std.proofs.lemmas.Str.{IsUtf8-from_is_utf8, is_utf8-from_IsUtf8}
use Rattle.std.proofs.lemmas.Bool.{and_parts}
use Rattle.zi_tree.specs.Order.{is_plain}
use Rattle.zi_tree.proofs.Pieces.{plain_name}
use Rattle.zi_manifest.specs.Manifest.{is_bad}
use Rattle.zi_manifest.proofs.words.entry_name.Goals as goal

pub returns-in_default : goal.returns-in_default
returns-in_default c = λ g.
    c.in_default.ensures.cases.0 (IsUtf8-from_is_utf8 c.args.bytes.now (and_parts (is_utf8 c.args.bytes.now) (is_plain c.args.bytes.now) g.0).0)

pub returns-then-not-is_bad : goal.returns-then-not-is_bad
returns-then-not-is_bad c =
    let same = c.in-Ok.ensures.cases.0 in
    let plain : is_plain c.in-Ok.name.now ≡ true = search rules in
    (same, (plain_name c.args.bytes.now (is_utf8-from_IsUtf8 c.args.bytes.now c.in-Ok.ensures.cases.1) (ap is_plain (sym same) ∙ plain), ap is_bad (sym same) ∙ search rules))
