-- The words of the demonstration.
use Rattle.std.specs.Prelude.{◌≡◌, ℕ, List, [], ◌∷◌, codes, Some}
use Rattle.zi_words.specs.declared.request.Request.{Request}
use Rattle.zi_words.specs.declared.request.Request.TheVariants as request
use Rattle.zi_words.specs.Forms.{Word, demo_number}

-- behind `demo`: a number
abbrev pub AsksDemo : List Word → Request → Type 0
AsksDemo ws r = (word : Word) × (n : ℕ) × (ws ≡ word ∷ []) × (demo_number word ≡ Some n) × (r ≡ request.Demo n)

-- the command: its word, and the words behind it
abbrev pub Demonstrates : Word → List Word → Request → Type 0
Demonstrates w ws r = (w ≡ codes "demo") × AsksDemo ws r
