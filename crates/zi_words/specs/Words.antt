-- Which words are right, and what they ask for.
use Rattle.std.specs.Prelude.{◌≡◌, ℕ, ◌≤◌, Bool, true, false, List, [], ◌∷◌, ◌++◌, length, codes, ◌⊎◌}
use Rattle.zi_text.specs.Front.{StopsAt}
use Rattle.zi_words.specs.declared.asked.Asked.{Asked}
use Rattle.zi_words.specs.declared.loader.Loader.{Loader}
use Rattle.zi_words.specs.declared.loader.Loader.TheVariants as loader
use Rattle.zi_words.specs.declared.request.Ask.{Ask}
use Rattle.zi_words.specs.declared.request.Request.{Request}
use Rattle.zi_words.specs.declared.request.Request.TheVariants as request
use Rattle.zi_words.specs.declared.request.WordsFault.{WordsFault}
use Rattle.zi_words.specs.declared.request.WordsFault.TheVariants as fault
use Rattle.zi_words.specs.Forms.{Word, is_address}
use Rattle.zi_words.specs.Options.{Item, AreItems, spelled, any_clash, first, second, gathered, ask_of}
use Rattle.zi_words.specs.Store.{InStore}
use Rattle.zi_words.specs.Demo.{Demonstrates}
use Rattle.zi_words.specs.Launch.{AsksScriptFile, OfFile}

-- what may end the options: nothing, or `--`
abbrev pub EndsOptions : List Word → Type 0
EndsOptions ws = (ws ≡ []) ⊎ (ws ≡ codes "--" ∷ [])

-- the word of a command that loads feeds
abbrev pub loader_word : Loader → Word
loader_word loader.Select = codes "select"
loader_word loader.Download = codes "download"
loader_word loader.Run = codes "run"
loader_word loader.Check = codes "check"
loader_word loader.Refute = codes "refute"
loader_word loader.Why = codes "why"
loader_word loader.Conflict = codes "conflict"
loader_word loader.Script = codes "script"

-- how many words it has behind the root, at least
abbrev pub count_of : Loader → ℕ
count_of loader.Select = 0
count_of loader.Download = 0
count_of loader.Run = 0
count_of loader.Check = 2
count_of loader.Refute = 1
count_of loader.Why = 0
count_of loader.Conflict = 0
count_of loader.Script = 0

-- any number of words may follow those: they are the program's
abbrev pub takes_more : Loader → Bool
takes_more loader.Select = false
takes_more loader.Download = false
takes_more loader.Run = true
takes_more loader.Check = false
takes_more loader.Refute = false
takes_more loader.Why = false
takes_more loader.Conflict = false
takes_more loader.Script = true

-- so many words are as many as these, or where more may follow at least as many
abbrev pub AreMany : Bool → ℕ → ℕ → Type 0
AreMany true least n = least ≤ n
AreMany false least n = n ≡ least

-- as many words as the command may have behind the root
abbrev pub HasMany : Loader → List Word → Type 0
HasMany l named = AreMany (takes_more l) (count_of l) (length named)

-- what it asks for with them
abbrev pub request_of : Loader → Ask → Bool → List Word → Request
request_of loader.Select ask proof named = request.Select ask proof
request_of loader.Download ask proof named = request.Download ask
request_of loader.Run ask proof named = request.Run ask named
request_of loader.Check ask proof named = request.Check ask (first named) (second named)
request_of loader.Refute ask proof named = request.Refute ask (first named)
request_of loader.Why ask proof named = request.Why ask
request_of loader.Conflict ask proof named = request.Conflict ask
request_of loader.Script ask proof named = request.Script ask named

abbrev pub asking : Loader → Word → List Word → Asked → Request
asking l root named a = request_of l (ask_of root a) a.proof named

-- Behind a command that loads feeds: options that it has, each with its arguments; then maybe `--`; then the root, an address; then
-- as many words as it may have there. Options that may not stand together don't.
pub record AsksLoading (l : Loader) (ws : List Word) (r : Request) : Type 0 where
  pub options : List Item
  pub ends : List Word
  pub root : Word
  pub named : List Word
  pub are : ws ≡ spelled options ++ (ends ++ root ∷ named)
  pub items : AreItems l options
  pub apart : any_clash options ≡ false
  pub ended : EndsOptions ends
  pub address : is_address root ≡ true
  pub many : HasMany l named
  pub asked : r ≡ asking l root named (gathered options)

-- the commands that load feeds: their word, and the words behind it
abbrev pub Loads : Word → List Word → Request → Type 0
Loads w ws r = (l : Loader) × (w ≡ loader_word l) × AsksLoading l ws r

-- behind `script`: as behind `run`, or `--launch` first
abbrev pub AsksScript : List Word → Request → Type 0
AsksScript ws r = AsksLoading loader.Script ws r ⊎ AsksScriptFile ws r

-- a word that stands alone
abbrev pub Alone : Word → List Word → Request → Type 0
Alone w ws r = (ws ≡ []) × (((w ≡ codes "--help") × (r ≡ request.Help)) ⊎ ((w ≡ codes "--version") × (r ≡ request.Version)))

-- These words are right, and ask for this.
abbrev pub Right : List Word → Request → Type 0
Right [] r = ⊥
Right (w ∷ ws) r = Loads w ws r ⊎ (InStore w ws r ⊎ (Demonstrates w ws r ⊎ (OfFile w ws r ⊎ Alone w ws r)))

-- these words are right
abbrev pub AreRight : List Word → Type 0
AreRight ws = (r : Request) × Right ws r

-- Words that aren't right stop being so at the index; want of memory says nothing.
abbrev pub FaultMeans : List Word → WordsFault → Type 0
FaultMeans ws (fault.Usage index) = (¬ AreRight ws) × StopsAt AreRight ws index
FaultMeans ws fault.Memory = Unit {0}
