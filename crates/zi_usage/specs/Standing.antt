-- What may stand at a place, in words.
use Rattle.std.specs.Prelude.{ℕ, List, codes}
use Rattle.zi_usage.specs.declared.place.Argument.{Argument}
use Rattle.zi_usage.specs.declared.place.Argument.TheVariants as argument
use Rattle.zi_usage.specs.declared.place.Place.{Place}
use Rattle.zi_usage.specs.declared.place.Place.TheVariants as place

-- as an argument of an option
abbrev pub argued : Argument → List ℕ
argued argument.Name = codes "a name"
argued argument.Versions = codes "versions, as 1.2 or 1.2..!3"
argued argument.Limited = codes "an interface, which begins with /, http:// or https://"
argued argument.Rated = codes "an interface, which begins with /, http:// or https://"
argued argument.Level = codes "developer, testing or stable"
argued argument.Network = codes "full, minimal or off"
argued argument.Id = codes "the id of an implementation, each once"
argued argument.Stability = codes "insecure, buggy, developer, testing, stable, packaged or preferred"
argued argument.Lemmas = codes "a number up to 4000000000"

abbrev pub standing : Place → List ℕ
standing place.Command = codes "a command, which zi --help lists"
standing place.Store = codes "add, verify, list or purge"
standing place.Script = codes "--launch, an option, or ROOT, which begins with /, http:// or https://"
standing (place.Option b) = codes "an option, or ROOT, which begins with /, http:// or https://"
standing (place.Root b) = codes "ROOT, which begins with /, http:// or https://"
standing (place.Argument a b) = argued a
standing place.Selections = codes "a file with a document of selections"
standing place.Shown = codes "a file with a document of selections"
standing place.Launched = codes "a file with a document of selections"
standing place.Kept = codes "a file with a document of selections"
standing place.Proof = codes "a file with a proof"
standing place.Algorithm = codes "sha1new, sha256 or sha256new"
standing place.Tree = codes "the name of a tree in a store"
standing place.Digest = codes "a digest, as zi store list writes it"
standing place.Added = codes "a digest, as zi store list writes it"
standing place.File = codes "a file, by a path that ends with its name"
standing place.Number = codes "a number from 1 to 1000"
standing place.Nothing = codes "nothing more"
standing place.Words = codes "anything"
