use Rattle.std.proofs.Common.{◌≡◌, refl}
use Rattle.zi_words.specs.declared.kind.Kind.{Kind}
use Rattle.zi_words.specs.declared.kind.Kind.TheVariants as kind
use Rattle.zi_words.specs.Options.{name_of, forms}
use Rattle.zi_usage.specs.Places.{step_of}
use Rattle.zi_hints.specs.Laws.{step_by}
use Rattle.zi_hints.proofs.laws.each_option_has_its_place.Goals as goal

each : (k : Kind) → step_of (name_of k) ≡ step_by (forms k)
unfolding step_of
each kind.Command = refl
each kind.NoCommand = refl
each kind.Version = refl
each kind.VersionFor = refl
each kind.Os = refl
each kind.Cpu = refl
each kind.Lang = refl
each kind.Level = refl
each kind.Network = refl
each kind.Use = refl
each kind.Rate = refl
each kind.Search = refl
each kind.Proof = refl

pub returns : goal.returns
returns c = each
