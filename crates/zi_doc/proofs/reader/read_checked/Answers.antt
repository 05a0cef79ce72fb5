use Rattle.std.proofs.Common.{◌≡◌, List, ℕ, Result, IfOk, IfErr, ap, sym, ◌∙◌, subst}
use Rattle.std.specs.Prelude.{IsUtf8}
use Rattle.std.specs.Str.{chars}
use Rattle.zi_xml.specs.Machine.{answer, first_state}
use Rattle.zi_doc.specs.Answers.{Finished, EndsAsChild}
use Rattle.zi_doc.proofs.Law.{ends_as_child, found, fault}
use Rattle.zi_doc.proofs.reader.read_checked.Goals as goal

pub read_text-requires : goal.read_text-requires
read_text-requires c =
    let P : List ℕ → Type 0 = λ w. EndsAsChild (answer first_state (chars w)) in
    subst P (sym c.in-Ok.ensures.cases.0) (ends_as_child c.answers_are_right.ensures c.args.bytes.now c.in-Ok.ensures.cases.1)

pub returns-in-Ok : goal.returns-in-Ok
returns-in-Ok c =
    let P : List ℕ → Type 0 = λ w. Finished (answer first_state (chars w)) c.read_text.result in
    let h = subst P c.in-Ok.ensures.cases.0 c.read_text.ensures in
    record {
      found = found c.answers_are_right.ensures c.args.bytes.now c.read_text.result c.in-Ok.ensures.cases.1 h;
      fault = fault c.answers_are_right.ensures c.args.bytes.now c.read_text.result c.in-Ok.ensures.cases.1 h;
    }
