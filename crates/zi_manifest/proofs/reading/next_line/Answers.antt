use Rattle.std.proofs.Common.{subst, reverse}
use Rattle.zi_manifest.specs.Reading.{Takes, Tells}
use Rattle.zi_manifest.proofs.TurnLemmas.{refused_line}
use Rattle.zi_manifest.proofs.reading.next_line.Goals as goal

pub returns-in_default-2 : goal.returns-in_default-2
returns-in_default-2 c =
    let told = subst (Tells c.args.a c.args.line.now) c.in-Some.is c.in_ok-entry.ensures in
    let stop = subst (λ p. Takes c.in-Some.entry (reverse c.args.folders.now.items) p (reverse c.step.new.folders.items)) c.in_default-2.is c.in_ok-path.ensures in
    refused_line c.args.a c.in-Some.entry c.args.line.now (reverse c.args.folders.now.items) told stop
