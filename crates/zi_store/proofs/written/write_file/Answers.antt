use Rattle.std.proofs.Common.{◌≡◌, ◌≤◌, w64, rules, FitsSigned, refl, sym, subst, false, None, length, [], ◌∷◌, arith}
use Rattle.std.proofs.lemmas.Int.{to_z-of_z}
use Rattle.std.proofs.lemmas.Result.{err_from_is_err_and}
use Rattle.zi_tree.specs.declared.tree.TreeNode.TheVariants.{File}
use Rattle.zi_manifest.specs.Walk.{bad_name, node_text}
use Rattle.zi_store.specs.Walking.{Passes}
use Rattle.zi_store.specs.Written.{Adds}
use Rattle.zi_store.specs.declared.counts.Counts.{Counts}
use Rattle.zi_store.proofs.WalkLemmas.{walks_passed, failed_passed, sized}
use Rattle.zi_store.proofs.WritingLemmas.{no_room, hash_stops, file_node, adds_leaf}
use Rattle.zi_store.proofs.SomeTreeLemmas.{leaf_some}
use Rattle.zi_store.proofs.written.write_file.Goals as goal

pub returns-in_err-room-clause-walks : goal.returns-in_err-room-clause-walks
returns-in_err-room-clause-walks g c bytes st =
    let p = err_from_is_err_and c.from_residual.result c.from_residual.ensures.1 in
    no_room c.args.written.now.counts.nodes c.args.written.now.counts.bytes (length bytes) _ _ c.from_residual.result p.0 c.in_err-room.field-0.0 p.1 p.2 c.in_err-room.ensures.err.0 c.in_err-room.ensures.err.1

pub returns-in_err-hashed-clause-walks : goal.returns-in_err-hashed-clause-walks
returns-in_err-hashed-clause-walks g c bytes st =
    let p = err_from_is_err_and c.from_residual-in_err-hashed.result c.from_residual-in_err-hashed.ensures.1 in
    let small : c.args.written.now.counts.bytes ≤ 268435456 = omega arith in
    hash_stops c.args.a bytes c.args.written.now.counts.nodes c.args.written.now.counts.bytes _ _ c.from_residual-in_err-hashed.result p.0 c.in_err-hashed.field-0.0 p.1 p.2 c.in_ok-room.ensures.ok small (c.in_err-hashed.ensures.hash bytes c.args.exec c.args.mtime st)

pub returns-in_err-hashed-clause-sure : goal.returns-in_err-hashed-clause-sure
returns-in_err-hashed-clause-sure g c sure bytes st e =
    let p = err_from_is_err_and c.from_residual-in_err-hashed.result c.from_residual-in_err-hashed.ensures.1 in
    c.in_err-hashed.ensures.sure sure bytes c.args.exec c.args.mtime st (failed_passed c.from_residual-in_err-hashed.result p.0 c.in_err-hashed.field-0.0 p.1 p.2 e)

pub returns-in_err-meet-clause-walks : goal.returns-in_err-meet-clause-walks
returns-in_err-meet-clause-walks g c bytes st =
    let r = c.in_ok-hashed.ensures.hash bytes c.args.exec c.args.mtime st in
    let p = err_from_is_err_and c.from_residual-in_err-meet.result c.from_residual-in_err-meet.ensures.1 in
    walks_passed (tt {0}) (tt {0}) (record { depth = 0; size = c.in_ok-hashed.hashed.size } ∷ []) (record { depth = 0; size = length bytes } ∷ []) c.args.written.now.counts.nodes c.args.written.now.counts.bytes c.meet.new.self.counts.nodes c.meet.new.self.counts.bytes c.meet.new.self.counts.nodes c.meet.new.self.counts.bytes
    c.from_residual-in_err-meet.result p.0 c.in_err-meet.field-0.0 p.1 p.2 (sized c.in_ok-hashed.hashed.size bytes bytes r.1 refl) c.in_err-meet.ensures.walks

pub returns-clause-walks : goal.returns-clause-walks
returns-clause-walks g c bytes st =
    let r = c.in_ok-hashed.ensures.hash bytes c.args.exec c.args.mtime st in (
      refl,
      subst (λ (q : Counts). Passes c.args.written.now.counts.nodes c.args.written.now.counts.bytes (record { depth = 0; size = length bytes } ∷ []) q.nodes q.bytes) (sym c.in_ok-put_file.ensures.counts)
          (subst (λ l. Passes c.args.written.now.counts.nodes c.args.written.now.counts.bytes l c.meet.new.self.counts.nodes c.meet.new.self.counts.bytes) (sized c.in_ok-hashed.hashed.size bytes bytes r.1 refl) c.in_ok-meet.ensures.walks.1),
    )

pub returns-clause-adds : goal.returns-clause-adds
returns-clause-adds g c bytes st =
    let r = c.in_ok-hashed.ensures.hash bytes c.args.exec c.args.mtime st in
    let n = c.args.name.now in
    let fits : FitsSigned w64 c.args.mtime = search rules in
    let is = file_node c.args.a n bytes c.args.exec c.args.mtime _ c.in_ok-hashed.hashed.hash c.in_ok-hashed.hashed.size (to_z-of_z w64 c.args.mtime fits) r.0 r.1 in
    let line = subst (λ l. Adds c.meet.new.self c.put_file.new.self l None) is c.in_ok-put_file.ensures.line in
    let noted : Adds c.args.written.now c.meet.new.self [] (bad_name c.args.at.text.now n) = record { text = c.in_ok-meet.ensures.noted.text; first = c.in_ok-meet.ensures.noted.first } in
    adds_leaf c.args.written.now c.meet.new.self c.put_file.new.self (node_text c.args.a false n (File bytes c.args.exec c.args.mtime)) (bad_name c.args.at.text.now n) noted line

pub returns-clause-tree : goal.returns-clause-tree
returns-clause-tree g c =
    let r = c.in_ok-hashed.ensures.some in
    let n = c.args.name.now in
    let fits : FitsSigned w64 c.args.mtime = search rules in
    let is = file_node c.args.a n r.bytes c.args.exec c.args.mtime _ c.in_ok-hashed.hashed.hash c.in_ok-hashed.hashed.size (to_z-of_z w64 c.args.mtime fits) r.hash r.size in
    let line = subst (λ l. Adds c.meet.new.self c.put_file.new.self l None) is c.in_ok-put_file.ensures.line in
    let noted : Adds c.args.written.now c.meet.new.self [] (bad_name c.args.at.text.now n) = record { text = c.in_ok-meet.ensures.noted.text; first = c.in_ok-meet.ensures.noted.first } in
    leaf_some c.args.a c.args.at.text.now n (File r.bytes c.args.exec c.args.mtime) c.args.written.now c.put_file.new.self
    (adds_leaf c.args.written.now c.meet.new.self c.put_file.new.self (node_text c.args.a false n (File r.bytes c.args.exec c.args.mtime)) (bad_name c.args.at.text.now n) noted line)
