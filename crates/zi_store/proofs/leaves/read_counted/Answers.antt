use Rattle.std.proofs.Common.{◌-◌, ◌<◌, Ok, arith, length, subst}
use Rattle.std.proofs.lemmas.Result.{err_from_is_err_and}
use Rattle.zi_shelf.specs.declared.shelf.ShelfFault.{ShelfFault}
use Rattle.zi_store.specs.Walking.{Passes}
use Rattle.zi_store.specs.Entries.{ReadsBytes}
use Rattle.zi_store.proofs.WalkLemmas.{stops_size, walks_passed, sized, failed_is}
use Rattle.zi_store.proofs.leaves.read_counted.Goals as goal

pub returns-in_err-read_bytes-clause-sure : goal.returns-in_err-read_bytes-clause-sure
returns-in_err-read_bytes-clause-sure g c sure bytes exec mtime st e =
    let p = err_from_is_err_and c.from_residual.result c.from_residual.ensures.1 in
    c.in_err-read_bytes.ensures.sure sure bytes exec mtime st (failed_is c.from_residual.result p.0 c.in_err-read_bytes.field-0.0 p.1 p.2 e)

pub returns-in_err-leaf-in-Some-clause-walks : goal.returns-in_err-leaf-in-Some-clause-walks
returns-in_err-leaf-in-Some-clause-walks g c bytes exec mtime st =
    let r = subst (λ o. ReadsBytes {E = ShelfFault} bytes (268435456 - c.args.counts.now.bytes) (Ok o)) c.in-Some.is (c.in_ok-read_bytes.ensures.bytes bytes exec mtime st) in
    let p = err_from_is_err_and c.from_residual-in_err-leaf-in-Some.result c.from_residual-in_err-leaf-in-Some.ensures.1 in
    walks_passed (tt {0}) bytes _ _ c.args.counts.now.nodes c.args.counts.now.bytes _ _ _ _ _ p.0 c.in_err-leaf-in-Some.field-0.0 p.1 p.2 (sized c.len.result bytes _ c.len.ensures r.0) c.in_err-leaf-in-Some.ensures.walks

pub returns-in-None-clause-walks : goal.returns-in-None-clause-walks
returns-in-None-clause-walks g c bytes exec mtime st =
    let few : 268435456 - c.args.counts.now.bytes < length bytes = subst (λ o. ReadsBytes {E = ShelfFault} bytes (268435456 - c.args.counts.now.bytes) (Ok o)) c.in-None.is (c.in_ok-read_bytes.ensures.bytes bytes exec mtime st) in
    stops_size c.args.counts.now.nodes c.args.counts.now.bytes 0 (length bytes) (omega arith) c.requires (omega arith)

pub returns-in_ok-leaf-in-Some-clause-walks : goal.returns-in_ok-leaf-in-Some-clause-walks
returns-in_ok-leaf-in-Some-clause-walks g c bytes exec mtime st =
    let r = subst (λ o. ReadsBytes {E = ShelfFault} bytes (268435456 - c.args.counts.now.bytes) (Ok o)) c.in-Some.is (c.in_ok-read_bytes.ensures.bytes bytes exec mtime st) in
    (r.0, subst (λ l. Passes c.args.counts.now.nodes c.args.counts.now.bytes l c.leaf.new.self.nodes c.leaf.new.self.bytes) (sized c.len.result bytes _ c.len.ensures r.0) c.in_ok-leaf-in-Some.ensures.walks.1)
