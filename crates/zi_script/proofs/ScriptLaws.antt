-- Scripts say their launch.
use Rattle.std.proofs.Common.{◌≡◌, ℕ, List, ◌++◌, map, None, refl, sym, ap, ◌∙◌, codes}
use Rattle.std.specs.List.{flat_map}
use Rattle.std.proofs.lemmas.List.{append_cancel_right}
use Rattle.zi_outside.specs.declared.launch.Launch.{Launch}
use Rattle.zi_outside.specs.declared.var.Var.{Var}
use Rattle.zi_shim.specs.Shell.{word_value, words_text}
use Rattle.zi_shim.specs.Shim.{quoted_words}
use Rattle.zi_shim.proofs.WordLaws.{one_list}
use Rattle.zi_shim.proofs.QuoteLaws.{parts_for, all_right, all_quoted, all_values}
use Rattle.zi_script.specs.Script.{changed, unsettable, lines, line_text, sets, script, Says}
use Rattle.zi_script.specs.Laws.{ScriptsSayTheirLaunch}
use Rattle.zi_script.proofs.SaysLaws.{line_for, right_lines, lines_are, sets_are, all_named, one_of_lines}
use Rattle.zi_script.proofs.TurnLaws.{same_variables}

said : (old : List Var) (launch : Launch) → unsettable old launch.vars ≡ None → Says (script old launch) (changed old launch.vars) launch.words
said old launch h = record {
  lines = map line_for (changed old launch.vars);
  written = map parts_for launch.words;
  are_lines = right_lines (changed old launch.vars) (all_named old launch.vars h);
  are_words = all_right launch.words;
  text_is =
      ap (λ t. t ++ (codes "exec" ++ (quoted_words launch.words ++ codes "\n"))) (lines_are (changed old launch.vars))
      ∙ ap (λ t. flat_map line_text (map line_for (changed old launch.vars)) ++ (codes "exec" ++ (t ++ codes "\n"))) (sym (all_quoted launch.words));
  vars_are = sym (sets_are (changed old launch.vars));
  words_are = sym (all_values launch.words);
}

once : (text : List ℕ) (vars others : List Var) (words more : List (List ℕ)) → Says text vars words → Says text others more → (vars ≡ others) × (words ≡ more)
once text vars others words more a b =
    let i = one_of_lines a.lines b.lines (words_text a.written ++ codes "\n") (words_text b.written ++ codes "\n") a.are_lines b.are_lines (sym a.text_is ∙ b.text_is) in
    let t : words_text a.written ≡ words_text b.written = append_cancel_right _ _ (codes "\n") i.1 in
    (a.vars_are ∙ ap (map sets) i.0 ∙ sym b.vars_are, a.words_are ∙ ap (map word_value) (one_list a.written b.written a.are_words b.are_words t) ∙ sym b.words_are)

pub say_their_launch : ScriptsSayTheirLaunch
say_their_launch = record { said = said; once = once; same_variables = same_variables }
