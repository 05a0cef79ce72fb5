use Rattle.std.proofs.Common.{◌≡◌, ◌+◌, ◌∷◌, ℕ, refl, sym, ap, ◌∙◌, subst, arith, length, List, [], encode_utf8, Err}
use Rattle.std.proofs.lemmas.Str.{chars_past_char, IsUtf8-past_char, chars-nil, length-encode}
use Rattle.std.proofs.lemmas.List.{length-append}
use Rattle.std.specs.Str.{chars}
use Rattle.std.specs.Str.Iter.{chars_rest}
use Rattle.zi_xml.specs.Chars.{width}
use Rattle.zi_xml.specs.Machine.{answer, first_state, Answer}
use Rattle.zi_doc.specs.View.{state_of}
use Rattle.zi_doc.specs.Answers.{Finished}
use Rattle.zi_doc.proofs.Turns.{turn_on, turn_off, Failed, failed_finished}
use Rattle.zi_doc.proofs.reader.read_text.Goals as goal

no_bytes : (xs : List ℕ) → length xs ≡ 0 → xs ≡ []
no_bytes [] h = refl
no_bytes (x ∷ xs) h = absurd (omega arith)

pub returns-in-Err : goal.returns-in-Err
returns-in-Err c =
    let r = c.loop-c.reader in
    let split = chars_past_char (chars_rest c.loop-c.rest) (chars_rest c.next.new.self) c.in-Some.c c.loop-c.invariant.utf8 c.in-Some.ensures.steps.0 in
    let told = ap (answer (state_of r c.loop-c.at)) (sym split) ∙ c.loop-c.invariant.told in
    let P : Answer → Type 0 = λ a. Finished a (Err c.in-Err.e) in
    subst P told (failed_finished _ c.in-Err.e (turn_off r c.step.new.self c.loop-c.at c.in-Some.c (chars (chars_rest c.next.new.self)) c.in-Err.e c.in-Err.ensures))

pub loop-c-preserved : goal.loop-c-preserved
loop-c-preserved c =
    let r = c.loop-c.reader in
    let cs = chars (chars_rest c.next.new.self) in
    let split = chars_past_char (chars_rest c.loop-c.rest) (chars_rest c.next.new.self) c.in-Some.c c.loop-c.invariant.utf8 c.in-Some.ensures.steps.0 in
    let told = ap (answer (state_of r c.loop-c.at)) (sym split) ∙ c.loop-c.invariant.told in
    let turn = turn_on r c.step.new.self c.loop-c.at c.in-Some.c cs c.in-Ok.ensures in
    let far : c.loop-c.at + c.len_utf8.result ≡ c.loop-c.at + width c.in-Some.c = omega (arith, c.len_utf8.ensures.value, length-encode c.in-Some.c) in
    record {
      can = c.loop-c.invariant.can;
      ends = c.loop-c.invariant.ends;
      utf8 = IsUtf8-past_char _ _ c.in-Some.c c.loop-c.invariant.utf8 c.in-Some.ensures.steps.0;
      told = ap (λ n. answer (state_of c.step.new.self n) cs) far ∙ (sym turn.0 ∙ told);
      room = omega (arith, c.loop-c.invariant.room, ap length c.in-Some.ensures.steps.0, length-append (encode_utf8 c.in-Some.c) (chars_rest c.next.new.self), length-encode c.in-Some.c, c.len_utf8.ensures.value);
      sound = turn.1;
    }

pub finish-requires : goal.finish-requires
finish-requires c =
    let empty : chars_rest c.loop-c.rest ≡ [] = no_bytes _ c.in_default.ensures.steps.0.0 in
    let told = ap (answer (state_of c.loop-c.reader c.loop-c.at)) (sym (ap chars empty ∙ chars-nil)) ∙ c.loop-c.invariant.told in
    λ l h. c.requires l (sym told ∙ h)

pub returns : goal.returns
returns c =
    let empty : chars_rest c.loop-c.rest ≡ [] = no_bytes _ c.in_default.ensures.steps.0.0 in
    let told = ap (answer (state_of c.loop-c.reader c.loop-c.at)) (sym (ap chars empty ∙ chars-nil)) ∙ c.loop-c.invariant.told in
    let P : Answer → Type 0 = λ a. Finished a c.finish.result in
    subst P told c.finish.ensures
