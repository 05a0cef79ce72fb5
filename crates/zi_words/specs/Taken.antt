-- What the readers of options and of their arguments take from the words. The contracts inside the crate cite this.
use Rattle.std.specs.Prelude.{◌≡◌, ◌≢◌, ℕ, Bool, true, false, ◌||◌, codes, is_some, List, [], ◌∷◌, ◌++◌, length, Result, Ok, Err, ◌⊎◌}
use Rattle.std.specs.List.{list_all}
use Rattle.std.specs.Borrow.{Bor}
use Rattle.std.specs.declared.cmp.Ordering.{Ordering}
use Rattle.std.specs.Ordering.{nat_cmp, is_eq, ordering_then}
use Rattle.std.specs.Cmp.Lexicographic.{slice_cmp}
use Rattle.std.specs.BTreeSet as tree
use Rattle.std.specs.BTreeSet.{BTreeSet}
use Rattle.zi_words.specs.declared.kind.Kind.{Kind}
use Rattle.zi_words.specs.declared.kind.Kind.TheVariants as kind
use Rattle.zi_words.specs.declared.loader.Loader.{Loader}
use Rattle.zi_words.specs.declared.asked.Asked.{Asked}
use Rattle.zi_digest.specs.Name.{spelling, IsDigest}
use Rattle.zi_digest.specs.declared.DigestName.{DigestName}
use Rattle.zi_words.specs.declared.request.Request.{Request}
use Rattle.zi_words.specs.declared.refusal.Refusal.{Refusal}
use Rattle.zi_words.specs.declared.refusal.Refusal.TheVariants.{Left, Memory}
use Rattle.zi_words.specs.Forms.{Word, Form, Address, Rating, Is, Are, is_address}
use Rattle.zi_words.specs.Store.{is_file}
use Rattle.zi_words.specs.Words.{HasMany}
use Rattle.zi_words.specs.Options.{Rule, Once, OncePerPair, Often, Item, AreItems, name_of, has_option, forms, rule_of, spelled, first, second, any_clash, set, gathered}

-- the first word is missing, or isn't of this form
abbrev pub Misses : Form → List Word → ℕ → Type 0
Misses f [] n = n ≡ 0
Misses f (w ∷ ws) n = (¬ Is f w) × (n ≡ length (w ∷ ws))

abbrev pub MissesWith : Form → List Word → Refusal → Type 0
MissesWith f ws (Left n) = Misses f ws n
MissesWith f ws Memory = Unit {0}

-- so many words are left from where they stop being of these forms
abbrev pub BreaksOff : List Form → List Word → ℕ → Type 0
BreaksOff [] ws n = ⊥
BreaksOff (f ∷ fs) ws n = Misses f ws n ⊎ ((w : Word) × (rest : List Word) × (ws ≡ w ∷ rest) × Is f w × BreaksOff fs rest n)

-- an address and an id, as a key of a set
abbrev pub Key : Type 0
Key = Bor Word × Bor Word

abbrev pub key_cmp : Key → Key → Ordering
key_cmp x y = ordering_then (slice_cmp nat_cmp x.0.now y.0.now) (slice_cmp nat_cmp x.1.now y.1.now)

abbrev pub holds : BTreeSet Key → Key → Bool
holds pairs q = tree.contains key_cmp pairs q

-- the key of two words
abbrev pub IsKey : Key → Word → Word → Type 0
IsKey key u v = (key.0.now ≡ u) × (key.1.now ≡ v)

-- so many words are left from where those behind `--rate` stop being right, where these pairs stand already
abbrev pub BreaksRate : BTreeSet Key → List Word → ℕ → Type 0
BreaksRate pairs ws n =
    Misses Address ws n ⊎ ((u : Word) × (rest : List Word) × (ws ≡ u ∷ rest) × (is_address u ≡ true)
    × (((rest ≡ []) × (n ≡ 0)) ⊎ ((id : Word) × (last : List Word) × (key : Key) × (rest ≡ id ∷ last) × IsKey key u id
    × (((holds pairs key ≡ true) × (n ≡ length rest)) ⊎ ((holds pairs key ≡ false) × Misses Rating last n)))))

abbrev pub BreaksBy : Rule → List Form → BTreeSet Key → List Word → ℕ → Type 0
BreaksBy Once fs pairs ws n = BreaksOff fs ws n
BreaksBy OncePerPair fs pairs ws n = BreaksRate pairs ws n
BreaksBy Often fs pairs ws n = BreaksOff fs ws n

-- the set has the same pairs
abbrev pub SamePairs : BTreeSet Key → BTreeSet Key → Type 0
SamePairs old new = (q : Key) → holds new q ≡ holds old q

-- the set gained the pair of these arguments
abbrev pub AddsPair : List Word → BTreeSet Key → BTreeSet Key → Type 0
AddsPair args old new =
    (key : Key) × IsKey key (first args) (second args) × (holds old key ≡ false) × ((q : Key) → holds new q ≡ (holds old q || is_eq (key_cmp key q)))

abbrev pub AddsBy : Rule → List Word → BTreeSet Key → BTreeSet Key → Type 0
AddsBy Once args old new = SamePairs old new
AddsBy OncePerPair args old new = AddsPair args old new
AddsBy Often args old new = SamePairs old new

-- an option whose argument pairs don't matter sets what it says with the arguments that it takes
abbrev pub Sets : Kind → Asked → List Word → Result (Bor (List Word)) Refusal → Asked → Type 0
Sets k old ws (Ok left) new = (args : List Word) × (ws ≡ args ++ left.now) × Are (forms k) args × (new ≡ set k args old)
Sets k old ws (Err (Left n)) new = BreaksOff (forms k) ws n
Sets k old ws (Err Memory) new = Unit {0}

-- any option
abbrev pub Takes : Kind → Asked → BTreeSet Key → List Word → Result (Bor (List Word)) Refusal → Asked → BTreeSet Key → Type 0
Takes k old pairs ws (Ok left) new more =
    (args : List Word) × (ws ≡ args ++ left.now) × Are (forms k) args × (new ≡ set k args old) × AddsBy (rule_of k) args pairs more
Takes k old pairs ws (Err (Left n)) new more = BreaksBy (rule_of k) (forms k) pairs ws n
Takes k old pairs ws (Err Memory) new more = Unit {0}

-- whether an option that may stand once was set
abbrev pub has : Kind → Asked → Bool
has kind.Command a = is_some a.command
has kind.NoCommand a = is_some a.command
has kind.Version a = a.version
has kind.VersionFor a = false
has kind.Os a = is_some a.os
has kind.Cpu a = is_some a.cpu
has kind.Lang a = false
has kind.Level a = is_some a.level
has kind.Network a = is_some a.network
has kind.Use a = false
has kind.Rate a = false
has kind.Search a = is_some a.search
has kind.Proof a = a.proof

-- no option of the command stands at the front
abbrev pub NoOption : Loader → List Word → Type 0
NoOption l ws = (k : Kind) (t : List Word) → has_option l k ≡ true → ws ≢ name_of k ∷ t

-- the options at the front of the words are these, and set this; those words are left
pub record Gathers (l : Loader) (ws : List Word) (asked : Asked) (left : List Word) : Type 0 where
  pub options : List Item
  pub are : ws ≡ spelled options ++ left
  pub items : AreItems l options
  pub apart : any_clash options ≡ false
  pub set_by : asked ≡ gathered options
  pub last : NoOption l left

-- what is left is an address, and as many words as the command may have behind it
abbrev pub IsEnd : Loader → List Word → Word × List Word → Type 0
IsEnd l ws v = (ws ≡ v.0 ∷ v.1) × (is_address v.0 ≡ true) × HasMany l v.1

-- what is left behind a `--` at the front, or all
abbrev pub PastDashes : List Word → List Word → Type 0
PastDashes ws rest = (ws ≡ codes "--" ∷ rest) ⊎ ((rest ≡ ws) × ((t : List Word) → ws ≢ codes "--" ∷ t))

-- a digest is spelled so
abbrev pub IsSpelled : Word → Type 0
IsSpelled w = (name : DigestName) × IsDigest name × (spelling name ≡ w)

-- the first word is missing, or spells no digest
abbrev pub MissesDigest : List Word → Refusal → Type 0
MissesDigest [] (Left n) = n ≡ 0
MissesDigest (w ∷ ws) (Left n) = (¬ IsSpelled w) × (n ≡ length (w ∷ ws))
MissesDigest ws Memory = Unit {0}

-- all words are files
abbrev pub AreFiles : List Word → List Word → Type 0
AreFiles ws files = (files ≡ ws) × (list_all is_file ws ≡ true)

-- words stand where none may
abbrev pub IsEnded : Request → List Word → Result Request Refusal → Type 0
IsEnded r [] result = result ≡ Ok r
IsEnded r (w ∷ ws) result = result ≡ Err (Left (length (w ∷ ws)))
