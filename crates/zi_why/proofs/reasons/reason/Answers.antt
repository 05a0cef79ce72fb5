use Rattle.zi_why.specs.Known.{universe_of, picks_of, before}
use Rattle.zi_why.proofs.AnswerLaws.{by_refusing, by_lacking, by_bits, by_against, by_needs, by_search}
use Rattle.zi_why.proofs.reasons.reason.Goals as goal

pub returns-in-Some : goal.returns-in-Some
returns-in-Some c = by_refusing (universe_of c.args.on.now) c.args.on.now.req.now (picks_of c.args.on.now) (before c.args.on.now c.args.at) c.args.p.now.interface c.args.p.now.is.now c.args.known.now c.requires.knows c.bearing_on-bearing.result.now (c.bearing_on-bearing.ensures (universe_of c.args.on.now) (picks_of c.args.on.now) (before c.args.on.now c.args.at) c.requires.knows) c.refusing.result c.in-Some.owner c.args.hints c.in_ok-by.by c.refusing.ensures c.in-Some.is c.in_ok-by.ensures

pub returns-in-Some-lacking : goal.returns-in-Some-lacking
returns-in-Some-lacking c = by_lacking (universe_of c.args.on.now) c.args.on.now.req.now (picks_of c.args.on.now) (before c.args.on.now c.args.at) c.args.p.now.interface c.args.p.now.is.now c.args.known.now c.requires.knows c.bearing_on-bearing.result.now (c.bearing_on-bearing.ensures (universe_of c.args.on.now) (picks_of c.args.on.now) (before c.args.on.now c.args.at) c.requires.knows) c.refusing.result c.lacking.result c.in-Some-lacking.name c.args.hints c.in_ok-command.command c.refusing.ensures c.in_default.is c.lacking.ensures c.in-Some-lacking.is c.in_ok-command.ensures

pub returns-in-Some-other_bits : goal.returns-in-Some-other_bits
returns-in-Some-other_bits c = by_bits (universe_of c.args.on.now) c.args.on.now.req.now (picks_of c.args.on.now) (before c.args.on.now c.args.at) c.args.p.now.interface c.args.p.now.is.now c.args.known.now c.requires.knows c.bearing_on-bearing.result.now (c.bearing_on-bearing.ensures (universe_of c.args.on.now) (picks_of c.args.on.now) (before c.args.on.now c.args.at) c.requires.knows) c.refusing.result c.lacking.result c.refusing.ensures c.in_default.is c.lacking.ensures c.in_default-lacking.is c.group.result c.other_bits.result c.in-Some-other_bits.i c.args.hints c.in_ok-by-2.by c.group.ensures c.other_bits.ensures c.in-Some-other_bits.is c.in_ok-by-2.ensures

pub returns-in-Some-against : goal.returns-in-Some-against
returns-in-Some-against c = by_against (universe_of c.args.on.now) c.args.on.now.req.now (picks_of c.args.on.now) (before c.args.on.now c.args.at) c.args.p.now.interface c.args.p.now.is.now c.args.known.now c.requires.knows c.bearing_on-bearing.result.now (c.bearing_on-bearing.ensures (universe_of c.args.on.now) (picks_of c.args.on.now) (before c.args.on.now c.args.at) c.requires.knows) c.refusing.result c.lacking.result c.refusing.ensures c.in_default.is c.lacking.ensures c.in_default-lacking.is c.group.result c.other_bits.result c.group.ensures c.other_bits.ensures c.in_default-other_bits.is c.against.result c.in-Some-against.dep c.args.hints c.in_ok-interface.interface c.against.ensures c.in-Some-against.is c.in_ok-interface.ensures

pub returns-in-Some-missing : goal.returns-in-Some-missing
returns-in-Some-missing c = by_needs (universe_of c.args.on.now) c.args.on.now.req.now (picks_of c.args.on.now) (before c.args.on.now c.args.at) c.args.p.now.interface c.args.p.now.is.now c.args.known.now c.requires.knows c.bearing_on-bearing.result.now (c.bearing_on-bearing.ensures (universe_of c.args.on.now) (picks_of c.args.on.now) (before c.args.on.now c.args.at) c.requires.knows) c.refusing.result c.lacking.result c.refusing.ensures c.in_default.is c.lacking.ensures c.in_default-lacking.is c.group.result c.other_bits.result c.group.ensures c.other_bits.ensures c.in_default-other_bits.is c.against.result c.missing.result c.in-Some-missing.dep c.args.hints c.in_ok-interface-2.interface c.against.ensures c.in_default-against.is c.missing.ensures c.in-Some-missing.is c.in_ok-interface-2.ensures

pub returns : goal.returns
returns c = by_search (universe_of c.args.on.now) c.args.on.now.req.now (picks_of c.args.on.now) (before c.args.on.now c.args.at) c.args.p.now.interface c.args.p.now.is.now c.args.known.now c.requires.knows c.bearing_on-bearing.result.now (c.bearing_on-bearing.ensures (universe_of c.args.on.now) (picks_of c.args.on.now) (before c.args.on.now c.args.at) c.requires.knows) c.refusing.result c.lacking.result c.refusing.ensures c.in_default.is c.lacking.ensures c.in_default-lacking.is c.group.result c.other_bits.result c.group.ensures c.other_bits.ensures c.in_default-other_bits.is c.against.result c.missing.result c.args.hints c.against.ensures c.in_default-against.is c.missing.ensures c.in_default-missing.is
