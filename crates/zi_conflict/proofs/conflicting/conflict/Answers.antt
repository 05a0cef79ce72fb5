use Rattle.std.proofs.Common.{◌≡◌, ◌<◌, length, map, sym, subst}
use Rattle.std.specs.List.{All}
use Rattle.zi_facts.specs.Facts.{as_told, told_at}
use Rattle.zi_conflict.specs.Core.{IsCore}
use Rattle.zi_conflict.proofs.ConflictLaws.{numbers_own, conflict_is}
use Rattle.zi_conflict.proofs.GroundLaws.{built_variables}
use Rattle.zi_conflict.proofs.conflicting.conflict.Goals as goal

pub told-requires-clause-few : goal.told-requires-clause-few
told-requires-clause-few c = built_variables c.args.names.now c.args.req.now c.args.f.now c.variables_of-variables.result c.requires.built c.variables_of-variables.ensures.is c.variables_of-variables.ensures.few

pub at_numbers-requires : goal.at_numbers-requires
at_numbers-requires c =
    let all = c.in_ok-all.all.items in
    subst (λ xs. All (λ n. n < length xs) c.as_slice-2.result.now) (sym c.as_slice.ensures.value)
    (subst (λ ns. All (λ n. n < length all) ns) (sym c.as_slice-2.ensures.value) (numbers_own c.args.names.now c.args.req.now all c.in_ok-numbers.numbers.items c.in_ok-all.ensures (subst (λ u. IsCore u c.args.req.now c.in_ok-numbers.numbers.items) c.universe.ensures c.in_ok-numbers.ensures.core)))

pub returns : goal.returns
returns c =
    let all = c.in_ok-all.all.items in
    let ns = c.in_ok-numbers.numbers.items in
    let facts = c.in_ok-facts.facts in
    let a : map as_told facts ≡ map (told_at (map as_told all)) c.as_slice-2.result.now = subst (λ xs. map as_told facts ≡ map (told_at (map as_told xs)) c.as_slice-2.result.now) c.as_slice.ensures.value c.in_ok-facts.ensures in
    let b : map as_told facts ≡ map (told_at (map as_told all)) ns = subst (λ xs. map as_told facts ≡ map (told_at (map as_told all)) xs) c.as_slice-2.ensures.value a in
    conflict_is c.args.names.now c.args.req.now c.args.p.now all facts ns (subst (λ u. IsCore u c.args.req.now ns) c.universe.ensures c.in_ok-numbers.ensures.core) c.in_ok-numbers.ensures.used c.in_ok-all.ensures b
