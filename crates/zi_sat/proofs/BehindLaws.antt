-- What was taken in stays a first part of a trail that grows, and a log keeps the lemmas that it had.
use Rattle.std.proofs.Common.{◌≡◌, List, [], ◌∷◌, ◌++◌, sym, ap, ◌∙◌, append_assoc}
use Rattle.std.proofs.lemmas.List.{append-nil}
use Rattle.zi_proof.specs.declared.proof.Lemma.{Lemma}
use Rattle.zi_sat.specs.declared.entry.Entry.{Entry}
use Rattle.zi_sat.specs.Behind.{Behind}
use Rattle.zi_sat.specs.Ends.{Longer}

pub behind_none : (ts es : List Entry) → ts ≡ [] → Behind ts es
behind_none ts es e = (es, ap (λ x. x ++ es) (sym e))

pub behind_more : (ts es fs rest : List Entry) → Behind ts es → fs ≡ es ++ rest → Behind ts fs
behind_more ts es fs rest b e = (b.0 ++ rest, e ∙ ap (λ x. x ++ rest) b.1 ∙ append_assoc ts b.0 rest)

pub longer_none : (ms : List Lemma) → Longer ms ms
longer_none ms = ([], sym (append-nil ms))

pub longer_same : (ms ns : List Lemma) → ns ≡ ms → Longer ms ns
longer_same ms ns e = ([], e ∙ sym (append-nil ms))

pub longer_one : (ms ns : List Lemma) (m : Lemma) → ns ≡ ms ++ m ∷ [] → Longer ms ns
longer_one ms ns m e = (m ∷ [], e)

pub longer_more : (ms ns ps : List Lemma) → Longer ms ns → Longer ns ps → Longer ms ps
longer_more ms ns ps a b = (a.0 ++ b.0, b.1 ∙ ap (λ x. x ++ b.0) a.1 ∙ append_assoc ms a.0 b.0)
