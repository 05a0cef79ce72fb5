-- What to do about a word that can't stand at its place.
use Rattle.std.specs.Prelude.{ℕ, Bool, not, ◌&&◌, nat_eq, if◌then◌else◌, List, codes, Option, Some, None}
use Rattle.std.specs.List.{list_any, starts_with}
use Rattle.zi_usage.specs.Places.{Word, is_option}
use Rattle.zi_usage.specs.declared.advice.Advice.{Advice}
use Rattle.zi_usage.specs.declared.advice.Advice.TheVariants as advice
use Rattle.zi_usage.specs.declared.place.Place.{Place}
use Rattle.zi_usage.specs.declared.place.Place.TheVariants as place

-- the word begins with this
abbrev pub begins : Word → Word → Bool
begins front w = starts_with nat_eq w front

-- a path that begins in the folder where one is
abbrev pub is_path : Word → Bool
is_path w = not (begins (codes "/") w) && not (begins (codes "http") w)

abbrev pub about_path : Word → Option Advice
about_path w = if is_path w then Some advice.WholePath else None

-- 45 is a dash, 61 an equals sign
abbrev pub about_option : Word → Option Advice
about_option w =
    if is_option w then Some advice.Once
    else if not (begins (codes "-") w) then about_path w
    else if list_any (λ b. nat_eq b 61) w then Some advice.TwoWords
    else None

abbrev pub advised : Place → Word → Option Advice
advised place.Command w = if is_option w then Some advice.BehindCommand else None
advised place.Nothing w = if is_option w then Some advice.BeforeRoot else None
advised place.Script w = about_option w
advised (place.Option b) w = about_option w
advised (place.Root b) w = about_path w
advised place.File w = Some advice.FilesAlone
advised place.Digest w = Some advice.LastLine
advised place.Added w = Some advice.LastLine
advised place.Store w = None
advised (place.Argument a b) w = None
advised place.Selections w = None
advised place.Proof w = None
advised place.Algorithm w = None
advised place.Tree w = None
advised place.Shown w = None
advised place.Launched w = None
advised place.Kept w = None
advised place.Number w = None
advised place.Words w = None
