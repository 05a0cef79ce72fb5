use Rattle.std.proofs.Common.{ap, sym, refl, ◌∙◌, Some, take}
use Rattle.zi_feed.proofs.shares.numbers_at.Goals as goal

pub version_number-requires : goal.version_number-requires
version_number-requires c = λ h. c.requires.fit.version ∙ ap (λ q. Some q) (sym (c.requires.version (sym c.says_version.ensures ∙ h)))

pub langs_number-requires : goal.langs_number-requires
langs_number-requires c = λ h. c.requires.fit.langs ∙ ap (λ q. Some q) (sym (c.requires.langs (sym c.has.ensures ∙ h)))

pub level_number-requires-clause-levels : goal.level_number-requires-clause-levels
level_number-requires-clause-levels c = c.requires.levels

pub level_number-requires-clause-outer : goal.level_number-requires-clause-outer
level_number-requires-clause-outer c = c.requires.fit.level ∙ ap (λ q. Some q) (c.requires.deps ∙ ap (λ k. take k c.args.added.now.deps) (sym c.len-around.ensures))

pub returns-clause-adds : goal.returns-clause-adds
returns-clause-adds c = record {
  tables = record { versions = c.in_ok-version.ensures.grows; langs = c.in_ok-langs.ensures.grows; levels = c.in_ok-level.ensures.grows };
  levels = c.in_ok-level.ensures.levels;
  of = refl;
  of_natives = refl;
}

pub returns-clause-fit : goal.returns-clause-fit
returns-clause-fit c = record { version = c.in_ok-version.ensures.at; langs = c.in_ok-langs.ensures.at; level = c.in_ok-level.ensures.at }
