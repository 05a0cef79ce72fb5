-- The options of the commands that load feeds: what each is called, what stands behind it, and what it sets.
use Rattle.std.specs.Prelude.{◌≡◌, Bool, true, false, ◌&&◌, ◌||◌, List, [], ◌∷◌, ◌++◌, codes, bytes_eq, map, get_or, Option, Some, None, unwrap_or, option_and_then, if◌then◌else◌}
use Rattle.std.specs.List.{list_any, flat_map}
use Rattle.std.specs.Option.{option_or}
use Rattle.zi_version.specs.Range.{range_of}
use Rattle.zi_version.specs.declared.alternative.Range.{Range}
use Rattle.zi_policy.specs.declared.types.Stability.{Stability}
use Rattle.zi_policy.specs.declared.types.Stability.TheVariants as stability
use Rattle.zi_policy.specs.declared.types.Network.TheVariants as network
use Rattle.zi_policy.specs.declared.types.Override.{Override}
use Rattle.zi_words.specs.declared.kind.Kind.{Kind}
use Rattle.zi_words.specs.declared.kind.Kind.TheVariants as kind
use Rattle.zi_words.specs.declared.loader.Loader.{Loader}
use Rattle.zi_words.specs.declared.loader.Loader.TheVariants as loader
use Rattle.zi_words.specs.declared.asked.Limit.{Limit}
use Rattle.zi_words.specs.declared.asked.Asked.{Asked}
use Rattle.zi_words.specs.declared.request.Wanted.{Wanted}
use Rattle.zi_words.specs.declared.request.Ask.{Ask}
use Rattle.zi_policy.specs.Stabilities.{stability_of}
use Rattle.zi_words.specs.Forms.{Word, Form, Address, Name, Anything, Range as ARange, Level, Network', Rating, Budget, Are, level_of, network_of, budget_of}

-- the word of an option
abbrev pub name_of : Kind → Word
name_of kind.Command = codes "--command"
name_of kind.NoCommand = codes "--no-command"
name_of kind.Version = codes "--version"
name_of kind.VersionFor = codes "--version-for"
name_of kind.Os = codes "--os"
name_of kind.Cpu = codes "--cpu"
name_of kind.Lang = codes "--lang"
name_of kind.Level = codes "--level"
name_of kind.Network = codes "--network"
name_of kind.Use = codes "--use"
name_of kind.Rate = codes "--rate"
name_of kind.Search = codes "--search"
name_of kind.Proof = codes "--proof"

-- the options that a command has: `--proof` is of `select` alone
abbrev pub has_option : Loader → Kind → Bool
has_option loader.Select k = true
has_option loader.Download kind.Proof = false
has_option loader.Download k = true
has_option loader.Run kind.Proof = false
has_option loader.Run k = true
has_option loader.Check kind.Proof = false
has_option loader.Check k = true
has_option loader.Refute kind.Proof = false
has_option loader.Refute k = true
has_option loader.Why kind.Proof = false
has_option loader.Why k = true
has_option loader.Conflict kind.Proof = false
has_option loader.Conflict k = true
has_option loader.Script kind.Proof = false
has_option loader.Script k = true

-- its arguments
abbrev pub forms : Kind → List Form
forms kind.Command = Name ∷ []
forms kind.NoCommand = []
forms kind.Version = ARange ∷ []
forms kind.VersionFor = Address ∷ ARange ∷ []
forms kind.Os = Name ∷ []
forms kind.Cpu = Name ∷ []
forms kind.Lang = Name ∷ []
forms kind.Level = Level ∷ []
forms kind.Network = Network' ∷ []
forms kind.Use = Name ∷ []
forms kind.Rate = Address ∷ Anything ∷ Rating ∷ []
forms kind.Search = Budget ∷ []
forms kind.Proof = []

-- how often an option may stand: once, once for each pair of its first two arguments, or as often as one likes
pub data Rule : Type 0 where
  Once : Rule
  OncePerPair : Rule
  Often : Rule

abbrev pub rule_of : Kind → Rule
rule_of kind.Command = Once
rule_of kind.NoCommand = Once
rule_of kind.Version = Once
rule_of kind.VersionFor = Often
rule_of kind.Os = Once
rule_of kind.Cpu = Once
rule_of kind.Lang = Often
rule_of kind.Level = Once
rule_of kind.Network = Once
rule_of kind.Use = Often
rule_of kind.Rate = OncePerPair
rule_of kind.Search = Once
rule_of kind.Proof = Once

-- the option that says the same thing: `--no-command` says which command, as `--command` does
abbrev pub topic : Kind → Kind
topic kind.NoCommand = kind.Command
topic k = k

-- an option with its arguments, as it stands among the words
pub record Item : Type 0 where
  pub kind : Kind
  pub arguments : List Word

-- the command has it, and its arguments are of the forms that it wants
abbrev pub IsItem : Loader → Item → Type 0
IsItem l i = (has_option l i.kind ≡ true) × Are (forms i.kind) i.arguments

abbrev pub AreItems : Loader → List Item → Type 0
AreItems l [] = Unit {0}
AreItems l (i ∷ is) = IsItem l i × AreItems l is

-- the words of options
abbrev pub spelled : List Item → List Word
spelled [] = []
spelled (i ∷ is) = name_of i.kind ∷ (i.arguments ++ spelled is)

-- two options say the same thing
abbrev pub alike : Kind → Kind → Bool
alike k l = bytes_eq (name_of (topic k)) (name_of (topic l))

-- the first two arguments
abbrev pub first : List Word → Word
first args = get_or args 0 []

abbrev pub second : List Word → Word
second args = get_or args 1 []

abbrev pub clash_by : Rule → List Word → List Word → Bool
clash_by Once ws vs = true
clash_by OncePerPair ws vs = bytes_eq (first ws) (first vs) && bytes_eq (second ws) (second vs)
clash_by Often ws vs = false

-- two options may not stand together
abbrev pub clash : Item → Item → Bool
clash i j = alike i.kind j.kind && clash_by (rule_of j.kind) i.arguments j.arguments

-- some of them may not
abbrev pub any_clash : List Item → Bool
any_clash [] = false
any_clash (i ∷ is) = list_any (λ j. clash i j) is || any_clash is

-- the limit of a range, where there is one
abbrev pub limit_of : Option Word → Option Range → List Limit
limit_of interface None = []
limit_of interface (Some r) = record { interface = interface; range = r } ∷ []

abbrev pub override_of : Word → Word → Option Stability → List Override
override_of interface id None = []
override_of interface id (Some s) = record { interface = interface; id = id; stability = s } ∷ []

-- what one more option sets
abbrev pub set : Kind → List Word → Asked → Asked
set kind.Command args a = record a { command = Some (Some (first args)) }
set kind.NoCommand args a = record a { command = Some None }
set kind.Version args a = record a { version = true; limits = a.limits ++ limit_of None (range_of (first args)) }
set kind.VersionFor args a = record a { limits = a.limits ++ limit_of (Some (first args)) (range_of (second args)) }
set kind.Os args a = record a { os = Some (first args) }
set kind.Cpu args a = record a { cpu = Some (first args) }
set kind.Lang args a = record a { langs = a.langs ++ first args ∷ [] }
set kind.Level args a = record a { level = level_of (first args) }
set kind.Network args a = record a { network = network_of (first args) }
set kind.Use args a = record a { uses = a.uses ++ first args ∷ [] }
set kind.Rate args a = record a { overrides = a.overrides ++ override_of (first args) (second args) (stability_of (get_or args 2 [])) }
set kind.Search args a = record a { search = budget_of (first args) }
set kind.Proof args a = record a { proof = true }

-- nothing is set
abbrev pub nothing : Asked
nothing = record {
  command = None;
  version = false;
  limits = [];
  os = None;
  cpu = None;
  langs = [];
  level = None;
  network = None;
  uses = [];
  overrides = [];
  search = None;
  proof = false;
}

-- What options say, each setting by itself.

-- it is an option of this kind
abbrev pub is_kind : Kind → Item → Bool
is_kind k i = bytes_eq (name_of k) (name_of i.kind)

-- an option of a kind stands among them
abbrev pub stands : Kind → List Item → Bool
stands k is = list_any (is_kind k) is

abbrev pub argument_in : Kind → Item → List Word
argument_in k i = if is_kind k i then first i.arguments ∷ [] else []

-- the first arguments of the options of a kind, in their order
abbrev pub arguments_of : Kind → List Item → List Word
arguments_of k is = flat_map (argument_in k) is

-- the last of some, where there is one
abbrev pub last : {X : Type 0} → List X → Option X
last [] = None
last (x ∷ xs) = option_or (last xs) (Some x)

-- which command an option says, or that it says none
abbrev pub command_by : Kind → List Word → List (Option Word)
command_by kind.Command args = Some (first args) ∷ []
command_by kind.NoCommand args = None ∷ []
command_by k args = []

-- the limit that an option says
abbrev pub limit_by : Kind → List Word → List Limit
limit_by kind.Version args = limit_of None (range_of (first args))
limit_by kind.VersionFor args = limit_of (Some (first args)) (range_of (second args))
limit_by k args = []

-- the stability that an option says
abbrev pub override_by : Kind → List Word → List Override
override_by kind.Rate args = override_of (first args) (second args) (stability_of (get_or args 2 []))
override_by k args = []

-- What options say. What may stand once is as the last one says it; what may stand often is in the order of the words.
unfoldable pub gathered : List Item → Asked
gathered is = record {
  command = last (flat_map (λ i. command_by i.kind i.arguments) is);
  version = stands kind.Version is;
  limits = flat_map (λ i. limit_by i.kind i.arguments) is;
  os = last (arguments_of kind.Os is);
  cpu = last (arguments_of kind.Cpu is);
  langs = arguments_of kind.Lang is;
  level = option_and_then level_of (last (arguments_of kind.Level is));
  network = option_and_then network_of (last (arguments_of kind.Network is));
  uses = arguments_of kind.Use is;
  overrides = flat_map (λ i. override_by i.kind i.arguments) is;
  search = option_and_then budget_of (last (arguments_of kind.Search is));
  proof = stands kind.Proof is;
}

-- the languages, or English
abbrev pub or_english : List Word → List Word
or_english [] = codes "en" ∷ []
or_english (tag ∷ tags) = tag ∷ tags

-- a limit without an address of its own is on the program
abbrev pub wanted : Word → Limit → Wanted
wanted root l = record { interface = unwrap_or l.interface root; range = l.range }

-- What is asked of the program at an address: what isn't set has its default.
unfoldable pub ask_of : Word → Asked → Ask
ask_of root a = record {
  root = root;
  command = unwrap_or a.command (Some (codes "run"));
  limits = map (wanted root) a.limits;
  policy = record {
    os = unwrap_or a.os (codes "Linux");
    machine = unwrap_or a.cpu (codes "x86_64");
    langs = or_english a.langs;
    level = unwrap_or a.level stability.Stable;
    network = unwrap_or a.network network.Full;
    uses = a.uses;
    overrides = a.overrides;
  };
  search = unwrap_or a.search 100000;
}
