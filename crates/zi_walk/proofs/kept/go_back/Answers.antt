use Rattle.std.proofs.Common.{◌∙◌, ap, sym, subst, take, refl}
use Rattle.zi_sat.specs.Behind.{Behind}
use Rattle.zi_walk.proofs.FirmLaws.{back_behind}
use Rattle.zi_walk.proofs.TakenLaws.{kept_back}
use Rattle.zi_walk.proofs.kept.go_back.Goals as goal

pub returns-clause-behind : goal.returns-clause-behind
returns-clause-behind c =
    subst (λ ts. Behind ts c.args.t.now.entries) (sym (c.truncate.ensures.items ∙ ap (λ n. take n c.args.kept.now.taken.items) c.len-len.ensures)) (back_behind c.args.kept.now.taken.items c.args.t.now.entries c.requires.back)

pub returns-clause-kept : goal.returns-clause-kept
returns-clause-kept c u req h =
    kept_back u req c.args.kept.now (record { taken = c.truncate.new.self; low = 0; path = c.go_to_firm.new.path }) c.len-len.result c.truncate.ensures.items refl c.go_to_firm.ensures h
