use Rattle.std.proofs.Common.{◌≡◌, length, true, false, sym, ap, ◌∙◌}
use Rattle.std.proofs.lemmas.Bool.{eqb-true, eq-eqb}
use Rattle.zi_words.proofs.StoreLemmas.{purge_none, purge_right}
use Rattle.zi_words.proofs.store.purge.Goals as goal

pub returns-then-is_empty : goal.returns-then-is_empty
returns-then-is_empty c = purge_none c.args.words.now (eqb-true (length c.args.words.now) 0 (sym c.is_empty.ensures ∙ c.if-is_empty.true))

pub returns : goal.returns
returns c =
    purge_right c.args.words.now c.in_ok-files.files (λ e. cc (eq-eqb (length c.args.words.now) 0 e, c.is_empty.ensures, c.if-is_empty.false)) c.in_ok-files.ensures
