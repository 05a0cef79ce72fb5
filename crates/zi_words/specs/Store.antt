-- The words of the commands on the store.
use Rattle.std.specs.Prelude.{◌≡◌, Bool, not, nat_eq, ◌&&◌, true, List, [], ◌∷◌, codes, bytes_eq, ◌⊎◌}
use Rattle.std.specs.List.{list_any, list_all}
use Rattle.zi_text.specs.Pieces.{pieces}
use Rattle.zi_digest.specs.Name.{spelling, IsDigest}
use Rattle.zi_digest.specs.declared.Algorithm.{Algorithm}
use Rattle.zi_digest.specs.declared.Algorithm.TheVariants as algorithm
use Rattle.zi_digest.specs.declared.DigestName.{DigestName}
use Rattle.zi_words.specs.declared.request.Request.{Request}
use Rattle.zi_words.specs.declared.request.Request.TheVariants as request
use Rattle.zi_words.specs.Forms.{Word}

-- the word of an algorithm
abbrev pub word_of : Algorithm → Word
word_of algorithm.Sha1new = codes "sha1new"
word_of algorithm.Sha256 = codes "sha256"
word_of algorithm.Sha256new = codes "sha256new"

-- A name in a tree: it isn't empty, `.` or `..`, and has no `/` (47) and no NUL.
unfoldable pub is_name : Word → Bool
is_name w =
    not (bytes_eq w (codes "")) && (not (bytes_eq w (codes ".")) && (not (bytes_eq w (codes "..")) && (not (list_any (λ b. nat_eq b 47) w) && not (list_any (λ b. nat_eq b 0) w))))

-- the last of some pieces
abbrev pub last_of : Word → List Word → Word
last_of p [] = p
last_of p (q ∷ qs) = last_of q qs

-- the last part of a path between its slashes (47)
unfoldable pub last_part : Word → Word
last_part path = let p = pieces 47 path in last_of p.0 p.1

-- a path of a file that goes into a tree under its last part
abbrev pub is_file : Word → Bool
is_file path = is_name (last_part path)

-- behind `manifest`: an algorithm and a name
abbrev pub AsksManifest : List Word → Request → Type 0
AsksManifest ws r =
    (a : Algorithm) × (name : Word) × (ws ≡ word_of a ∷ name ∷ []) × (is_name name ≡ true) × (r ≡ request.Manifest a name)

-- behind `store add`: a digest's name and files
abbrev pub AsksAdd : List Word → Request → Type 0
AsksAdd ws r =
    (name : DigestName) × (files : List Word) × (ws ≡ spelling name ∷ files) × IsDigest name × (list_all is_file files ≡ true) × (r ≡ request.Add name files)

-- behind `store verify`: a digest's name
abbrev pub AsksVerify : List Word → Request → Type 0
AsksVerify ws r = (name : DigestName) × (ws ≡ spelling name ∷ []) × IsDigest name × (r ≡ request.Verify name)

-- behind `store purge`: one or more names of files, whatever they look like
abbrev pub AsksPurge : List Word → Request → Type 0
AsksPurge ws r = (file : Word) × (files : List Word) × (ws ≡ file ∷ files) × (r ≡ request.Purge (file ∷ files))

-- behind `store`
abbrev pub AsksStore : List Word → Request → Type 0
AsksStore [] r = ⊥
AsksStore (w ∷ ws) r =
    ((w ≡ codes "add") × AsksAdd ws r)
    ⊎ (((w ≡ codes "verify") × AsksVerify ws r) ⊎ (((w ≡ codes "purge") × AsksPurge ws r) ⊎ ((w ≡ codes "list") × (ws ≡ []) × (r ≡ request.Names))))

-- the commands on the store: their first word, and the words behind it
abbrev pub InStore : Word → List Word → Request → Type 0
InStore w ws r = ((w ≡ codes "manifest") × AsksManifest ws r) ⊎ ((w ≡ codes "store") × AsksStore ws r)
