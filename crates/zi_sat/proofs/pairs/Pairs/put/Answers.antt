use Rattle.std.proofs.Common.{rules, ◌≡◌, ◌<◌, ◌-◌, suc, ◌∙◌, length, get_or, set, ap, subst, arith, Some}
use Rattle.std.specs.Vec.{vec_len}
use Rattle.zi_sat.proofs.PairLaws.{place_here, put_at, read_number}
use Rattle.zi_sat.proofs.pairs.Pairs.put.Goals as goal

pub index_mut-requires : goal.index_mut-requires
index_mut-requires c =
    let a = c.self.inside in
    let n : get_or a.places.items c.args.i 0 ≡ c.index-number.result.now = read_number a.places.items c.args.i c.index-number.result.now (search rules) c.index-number.ensures in
    let some : c.index-number.result.now ≡ suc (c.index-number.result.now - 1) = omega (arith, c.if-prove-2.false) in
    let many : length a.pairs.items ≡ vec_len a.pairs = search rules in
    subst (λ e. c.index-number.result.now - 1 < e) many (place_here 0 (length a.pairs.items) a.places.items c.args.i (c.index-number.result.now - 1) c.self.invariant (n ∙ some)).1

pub returns : goal.returns
returns c =
    let a = c.self.inside in
    let n : get_or a.places.items c.args.i 0 ≡ c.index-number.result.now = read_number a.places.items c.args.i c.index-number.result.now (search rules) c.index-number.ensures in
    let some : c.index-number.result.now ≡ suc (c.index-number.result.now - 1) = omega (arith, c.if-prove-2.false) in
    put_at a.pairs.items c.args.pair (c.index-number.result.now - 1) 0 a.places.items c.args.i c.self.invariant (n ∙ some)
    ∙ ap (λ os. set os c.args.i (Some c.args.pair)) c.self.view_is
