use Rattle.std.proofs.Common.{◌∙◌, ap, arith, ℕ, List}
use Rattle.std.specs.Ordering.{is_lt, nat_cmp}
use Rattle.std.specs.Cmp.Lexicographic.{slice_cmp}
use Rattle.zi_manifest.proofs.OpenLemmas.{last_decides}
use Rattle.zi_manifest.proofs.open.comes_last.Goals as goal

pub returns-in-len1-up : goal.returns-in-len1-up
returns-in-len1-up c =
    c.lt.ensures ∙ ap (λ (t : List ℕ). is_lt (slice_cmp nat_cmp t c.args.name.now)) c.as_str.ensures ∙ last_decides c.args.names.now c.args.name.now c.last-item.result _ c.requires (omega arith) c.last-item.is
