use Rattle.std.proofs.Common.{◌∙◌, refl, sym, subst, false, None, [], ◌∷◌}
use Rattle.std.proofs.lemmas.Result.{err_from_is_err_and}
use Rattle.zi_tree.specs.declared.tree.TreeNode.TheVariants.{Link}
use Rattle.zi_manifest.specs.Walk.{bad_name, node_text}
use Rattle.zi_store.specs.Walking.{Passes}
use Rattle.zi_store.specs.Written.{Adds}
use Rattle.zi_store.specs.declared.counts.Counts.{Counts}
use Rattle.zi_store.proofs.WalkLemmas.{walks_passed}
use Rattle.zi_store.proofs.WritingLemmas.{target_is, adds_leaf}
use Rattle.zi_store.proofs.SomeTreeLemmas.{leaf_some}
use Rattle.zi_store.proofs.written.write_link.Goals as goal

pub returns-in_err-meet-clause-walks : goal.returns-in_err-meet-clause-walks
returns-in_err-meet-clause-walks g c target st =
    let p = err_from_is_err_and c.from_residual.result c.from_residual.ensures.1 in
    walks_passed (tt {0}) (tt {0}) (record { depth = 0; size = 0 } ∷ []) (record { depth = 0; size = 0 } ∷ []) c.args.written.now.counts.nodes c.args.written.now.counts.bytes c.meet.new.self.counts.nodes c.meet.new.self.counts.bytes c.meet.new.self.counts.nodes c.meet.new.self.counts.bytes
    c.from_residual.result p.0 c.in_err-meet.field-0.0 p.1 p.2 refl c.in_err-meet.ensures.walks

pub returns-clause-walks : goal.returns-clause-walks
returns-clause-walks g c target st =
    (refl, subst (λ (q : Counts). Passes c.args.written.now.counts.nodes c.args.written.now.counts.bytes (record { depth = 0; size = 0 } ∷ []) q.nodes q.bytes) (sym c.in_ok-put_link.ensures.counts) c.in_ok-meet.ensures.walks.1)

pub returns-clause-adds : goal.returns-clause-adds
returns-clause-adds g c target st =
    let same = target_is target c.in_ok-target.target st (c.in_ok-target.ensures.answer st.state st.keeps st.tells) in
    let line = subst (λ t. Adds c.meet.new.self c.put_link.new.self (node_text c.args.a false c.args.name.now (Link t)) None) (c.as_str.ensures ∙ same) c.in_ok-put_link.ensures.line in
    adds_leaf c.args.written.now c.meet.new.self c.put_link.new.self (node_text c.args.a false c.args.name.now (Link target)) (bad_name c.args.at.text.now c.args.name.now) c.in_ok-meet.ensures.noted line

pub returns-clause-tree : goal.returns-clause-tree
returns-clause-tree g c =
    let n = c.args.name.now in
    let target = Link c.as_str.result.now in
    leaf_some c.args.a c.args.at.text.now n target c.args.written.now c.put_link.new.self (adds_leaf c.args.written.now c.meet.new.self c.put_link.new.self (node_text c.args.a false n target) (bad_name c.args.at.text.now n) c.in_ok-meet.ensures.noted c.in_ok-put_link.ensures.line)
