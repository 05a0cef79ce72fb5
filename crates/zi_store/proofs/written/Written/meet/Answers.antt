use Rattle.std.proofs.Common.{refl, sym, subst, [], ◌∷◌}
use Rattle.std.proofs.lemmas.Result.{err_from_is_err_and}
use Rattle.zi_store.specs.Walking.{Passes}
use Rattle.zi_store.specs.declared.counts.Counts.{Counts}
use Rattle.zi_store.proofs.WalkLemmas.{walks_passed}
use Rattle.zi_store.proofs.written.Written.meet.Goals as goal

pub returns-in_err-leaf-clause-walks : goal.returns-in_err-leaf-clause-walks
returns-in_err-leaf-clause-walks c =
    let p = err_from_is_err_and c.from_residual.result c.from_residual.ensures.1 in
    walks_passed (tt {0}) (tt {0}) (record { depth = 0; size = c.args.size } ∷ []) (record { depth = 0; size = c.args.size } ∷ []) c.args.self.now.counts.nodes c.args.self.now.counts.bytes c.leaf.new.self.nodes c.leaf.new.self.bytes c.leaf.new.self.nodes c.leaf.new.self.bytes
    c.from_residual.result p.0 c.in_err-leaf.field-0.0 p.1 p.2 refl c.in_err-leaf.ensures.walks

pub returns-clause-walks : goal.returns-clause-walks
returns-clause-walks c =
    (refl, subst (λ (q : Counts). Passes c.args.self.now.counts.nodes c.args.self.now.counts.bytes (record { depth = 0; size = c.args.size } ∷ []) q.nodes q.bytes) (sym c.in_ok-note.ensures.counts) c.in_ok-leaf.ensures.walks.1)

pub returns-clause-noted : goal.returns-clause-noted
returns-clause-noted c = record { text = c.in_ok-note.ensures.noted.text; first = c.in_ok-note.ensures.noted.first }
