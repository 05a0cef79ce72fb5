use Rattle.std.proofs.Common.{rules, ◌≡◌, ◌<◌, ◌-◌, suc, ◌∙◌, length, get_or, ap, sym, subst, arith, Some}
use Rattle.std.specs.Vec.{vec_len}
use Rattle.zi_sat.specs.Guard.{pair_at}
use Rattle.zi_sat.specs.Pairs.{held}
use Rattle.zi_sat.proofs.PairLaws.{place_here, map_at, read_at, read_number}
use Rattle.zi_sat.proofs.pairs.Pairs.at.Goals as goal

pub index-requires : goal.index-requires
index-requires c =
    let a = c.self.inside in
    let n : get_or a.places.items c.args.i 0 ≡ c.index-number.result.now = read_number a.places.items c.args.i c.index-number.result.now (search rules) c.index-number.ensures in
    let some : c.index-number.result.now ≡ suc (c.index-number.result.now - 1) = omega (arith, c.if-number-eq0.false) in
    let many : length a.pairs.items ≡ vec_len a.pairs = search rules in
    subst (λ e. c.index-number.result.now - 1 < e) many (place_here 0 (length a.pairs.items) a.places.items c.args.i (c.index-number.result.now - 1) c.self.invariant (n ∙ some)).1

pub returns : goal.returns
returns c =
    let a = c.self.inside in
    let lt : c.args.i < length a.places.items = search rules in
    let n : get_or a.places.items c.args.i 0 ≡ c.index-number.result.now = read_number a.places.items c.args.i c.index-number.result.now lt c.index-number.ensures in
    let some : c.index-number.result.now ≡ suc (c.index-number.result.now - 1) = omega (arith, c.if-number-eq0.false) in
    let low : c.index-number.result.now - 1 < length a.pairs.items = (place_here 0 (length a.pairs.items) a.places.items c.args.i (c.index-number.result.now - 1) c.self.invariant (n ∙ some)).1 in
    sym (ap (λ ps. pair_at ps c.args.i) (sym c.self.view_is)
    ∙ (map_at a.pairs.items a.places.items c.args.i lt
    ∙ (ap (held a.pairs.items) (n ∙ some)
    ∙ ap Some (read_at a.pairs.items (c.index-number.result.now - 1) c.index.result.now low c.index.ensures))))
