use Rattle.std.proofs.Common.{◌∙◌, ap, arith}
use Rattle.zi_build.specs.Writing.{command_starts}
use Rattle.zi_build.proofs.variables.table_of.Goals as goal

pub command_numbers-requires : goal.command_numbers-requires
command_numbers-requires c =
    let few = c.in_ok-candidates.ensures.few in
    let n = c.in-Some.ensures.0 in
    let m = c.in-Some.ensures.1 in
    omega (arith, few, n, m)

pub returns : goal.returns
returns c =
    let first = c.in_ok-candidates.ensures.are.1 in
    let few = c.in_ok-candidates.ensures.few in
    let last = c.in_ok-commands.ensures.1 in
    let n = c.in-Some.ensures.0 in
    let m = c.in-Some.ensures.1 in
    record {
      candidates = c.in_ok-candidates.ensures.are.0;
      commands = c.in_ok-commands.ensures.0 ∙ ap (λ k. command_starts k c.args.u.now) first;
      last = omega (arith, last, first);
      few = omega (arith, first, few, n, m);
    }
