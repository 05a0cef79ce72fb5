use Rattle.std.proofs.Common.{◌∙◌, ap, sym, refl}
use Rattle.std.proofs.lemmas.Option.{slice_get_past}
use Rattle.std.specs.Prelude.{slice_get}
use Rattle.zi_choice.proofs.TaskLaws.{slice_some}
use Rattle.zi_certificate.specs.Certificates.{is_passed}
use Rattle.zi_why.specs.Known.{universe_of, picks_of, before}
use Rattle.zi_why.specs.Reasons.{reason}
use Rattle.zi_why.specs.Taking.{place_at}
use Rattle.zi_why.proofs.TakeLaws.{took_one, took_none, took_not}
use Rattle.zi_why.proofs.explaining.report_one.Goals as goal

pub returns-then-not-is_passed : goal.returns-then-not-is_passed
returns-then-not-is_passed c =
    took_not c.args.on.now (place_at c.args.on.now c.args.at) c.args.p.now.interface c.args.p.now.candidate c.args.p.now.is.now c.args.reports.now
    (sym (c.is_passed.ensures ∙ ap (λ o. is_passed o c.args.p.now.candidate) c.picked.ensures) ∙ c.if-not-is_passed.true)

pub returns-in_default : goal.returns-in_default
returns-in_default c =
    took_none c.args.on.now (place_at c.args.on.now c.args.at) c.args.p.now.interface c.args.p.now.candidate c.args.p.now.is.now c.args.reports.now
    (sym (c.is_passed.ensures ∙ ap (λ o. is_passed o c.args.p.now.candidate) c.picked.ensures) ∙ c.if-not-is_passed.false)
    (ap (slice_get c.args.on.now.blocks.now) (sym c.len.ensures) ∙ slice_get_past c.args.on.now.blocks.now c.len.result c.in_default.ensures.lookup.3)

pub returns : goal.returns
returns c =
    took_one c.args.on.now (place_at c.args.on.now c.args.at) c.args.p.now.interface c.args.p.now.candidate c.args.p.now.is.now c.in-Some.block.now
    (record { place = c.in-Some.block.now.place; candidate = c.in-Some.block.now.candidate; reason = c.in_ok-reason.reason }) c.args.reports.now c.push.new.self
    (sym (c.is_passed.ensures ∙ ap (λ o. is_passed o c.args.p.now.candidate) c.picked.ensures) ∙ c.if-not-is_passed.false)
    (ap (slice_get c.args.on.now.blocks.now) (sym c.len.ensures) ∙ slice_some c.args.on.now.blocks.now c.len.result c.in-Some.block.now c.in-Some.ensures.lookup.3.0 c.in-Some.ensures.lookup.1)
    c.in_ok-push.ensures.ok
    (λ due. record {
      passed = record {
        stops = c.args.on.now.stops.now;
        are = c.requires.are;
        at = c.args.at;
        interface = c.args.p.now.interface;
        here = c.requires.here;
        number = c.args.p.now.candidate;
        candidate = c.args.p.now.is.now;
        there = c.requires.there;
      };
      of = record { place = due.0; candidate = due.1 };
      place = refl;
      candidate = refl;
      is = c.in_ok-reason.ensures ∙ ap (reason (universe_of c.args.on.now) c.args.on.now.req.now (picks_of c.args.on.now) (before c.args.on.now c.args.at) c.args.p.now.interface c.args.p.now.is.now) c.len-2.ensures;
    })
