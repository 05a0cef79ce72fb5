-- The words of options: each names one, and none is `--` or an address.
use Rattle.std.proofs.Common.{◌≡◌, true, false, refl, sym, ap, ◌∙◌}
use Rattle.std.specs.Prelude.{if◌then◌else◌, codes, bytes_eq}
use Rattle.zi_words.specs.declared.kind.Kind.{Kind}
use Rattle.zi_words.specs.declared.kind.Kind.TheVariants as kind
use Rattle.zi_words.specs.Forms.{Word, is_address}
use Rattle.zi_words.specs.Options.{name_of}
use Rattle.zi_text.proofs.ListLaws.{bytes_itself}

-- the option of a word, where it is one
found : Word → Kind
found w =
    if bytes_eq w (name_of kind.Command) then kind.Command
    else if bytes_eq w (name_of kind.NoCommand) then kind.NoCommand
    else if bytes_eq w (name_of kind.Version) then kind.Version
    else if bytes_eq w (name_of kind.VersionFor) then kind.VersionFor
    else if bytes_eq w (name_of kind.Os) then kind.Os
    else if bytes_eq w (name_of kind.Cpu) then kind.Cpu
    else if bytes_eq w (name_of kind.Lang) then kind.Lang
    else if bytes_eq w (name_of kind.Level) then kind.Level
    else if bytes_eq w (name_of kind.Network) then kind.Network
    else if bytes_eq w (name_of kind.Use) then kind.Use
    else if bytes_eq w (name_of kind.Rate) then kind.Rate
    else if bytes_eq w (name_of kind.Search) then kind.Search
    else kind.Proof

found_name : (k : Kind) → found (name_of k) ≡ k
unfolding found
found_name kind.Command = refl
found_name kind.NoCommand = refl
found_name kind.Version = refl
found_name kind.VersionFor = refl
found_name kind.Os = refl
found_name kind.Cpu = refl
found_name kind.Lang = refl
found_name kind.Level = refl
found_name kind.Network = refl
found_name kind.Use = refl
found_name kind.Rate = refl
found_name kind.Search = refl
found_name kind.Proof = refl

pub same_name : (k l : Kind) → name_of k ≡ name_of l → k ≡ l
same_name k l e = sym (found_name k) ∙ (ap found e ∙ found_name l)

-- words that a test tells apart are no one word
pub not_same : (u v : Word) → bytes_eq u v ≡ false → u ≡ v → ⊥
not_same u v f e = let g : false ≡ true = sym f ∙ (ap (bytes_eq u) (sym e) ∙ bytes_itself u) in cc

pub not_dashes : (k : Kind) → name_of k ≡ codes "--" → ⊥
not_dashes kind.Command e = cc
not_dashes kind.NoCommand e = cc
not_dashes kind.Version e = cc
not_dashes kind.VersionFor e = cc
not_dashes kind.Os e = cc
not_dashes kind.Cpu e = cc
not_dashes kind.Lang e = cc
not_dashes kind.Level e = cc
not_dashes kind.Network e = cc
not_dashes kind.Use e = cc
not_dashes kind.Rate e = cc
not_dashes kind.Search e = cc
not_dashes kind.Proof e = cc

no_address : (k : Kind) → is_address (name_of k) ≡ false
unfolding is_address
no_address kind.Command = refl
no_address kind.NoCommand = refl
no_address kind.Version = refl
no_address kind.VersionFor = refl
no_address kind.Os = refl
no_address kind.Cpu = refl
no_address kind.Lang = refl
no_address kind.Level = refl
no_address kind.Network = refl
no_address kind.Use = refl
no_address kind.Rate = refl
no_address kind.Search = refl
no_address kind.Proof = refl

pub not_address : (k : Kind) (root : Word) → name_of k ≡ root → is_address root ≡ true → ⊥
not_address k root e h = let f : false ≡ true = sym (no_address k) ∙ (ap is_address e ∙ h) in cc

pub dashes_address : is_address (codes "--") ≡ false
unfolding is_address
dashes_address = refl
