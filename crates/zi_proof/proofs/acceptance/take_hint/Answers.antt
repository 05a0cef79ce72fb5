use Rattle.std.proofs.Common.{◌-◌, length, arith, refl}
use Rattle.zi_formula.specs.Lent.{shows}
use Rattle.zi_proof.proofs.Cites.{lemma_cited, none_cited, constraint_cited, within_at, held_at, lits_all, lemma_lits}
use Rattle.zi_proof.proofs.acceptance.take_hint.Goals as goal

pub take_clause-requires : goal.take_clause-requires
take_clause-requires c =
    rw c.as_slice.ensures (lits_all c.args.f.now.variables (length c.args.marks.now) _ c.requires.made (lemma_lits c.args.f.now.variables c.args.lemmas.now _ c.index-lemmas-place.result c.requires.earlier c.if-place-lemmas.true))

pub returns-then-place-lemmas-clause-kind : goal.returns-then-place-lemmas-clause-kind
returns-then-place-lemmas-clause-kind c =
    let e = lemma_cited c.args.f.now.constraints c.args.lemmas.now c.args.hint c.len-count.result c.index-lemmas-place.result c.len-count.ensures (omega arith) c.if-place-count.false c.if-place-lemmas.true in
    rw e (rw (← c.as_slice.ensures) c.take_clause.ensures.kind)

pub returns-then-place-lemmas-clause-after : goal.returns-then-place-lemmas-clause-after
returns-then-place-lemmas-clause-after c =
    let e = lemma_cited c.args.f.now.constraints c.args.lemmas.now c.args.hint c.len-count.result c.index-lemmas-place.result c.len-count.ensures (omega arith) c.if-place-count.false c.if-place-lemmas.true in
    rw e (rw (← c.as_slice.ensures) c.take_clause.ensures.after)

pub returns-clause-kind : goal.returns-clause-kind
returns-clause-kind c =
    let e = none_cited c.args.f.now.constraints c.args.lemmas.now c.args.hint c.len-count.result c.len-count.ensures (omega arith) c.if-place-count.false c.if-place-lemmas.false in
    rw e refl

pub returns-clause-after : goal.returns-clause-after
returns-clause-after c =
    let e = none_cited c.args.f.now.constraints c.args.lemmas.now c.args.hint c.len-count.result c.len-count.ensures (omega arith) c.if-place-count.false c.if-place-lemmas.false in
    rw e refl

pub take_constraint-requires : goal.take_constraint-requires
take_constraint-requires c =
    held_at c.args.f.now.variables (length c.args.marks.now) (shows c.at.result) c.requires.made (within_at c.args.f.now.variables c.args.f.now.constraints (c.args.hint - 1) (shows c.at.result) c.requires.within c.at.ensures)

pub returns-then-place-count-clause-kind : goal.returns-then-place-count-clause-kind
returns-then-place-count-clause-kind c =
    let e = constraint_cited c.args.f.now.constraints c.args.lemmas.now c.args.hint (shows c.at.result) (omega arith) c.at.ensures in
    rw e c.take_constraint.ensures.kind

pub returns-then-place-count-clause-after : goal.returns-then-place-count-clause-after
returns-then-place-count-clause-after c =
    let e = constraint_cited c.args.f.now.constraints c.args.lemmas.now c.args.hint (shows c.at.result) (omega arith) c.at.ensures in
    rw e c.take_constraint.ensures.after
