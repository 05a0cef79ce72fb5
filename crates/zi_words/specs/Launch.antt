-- The words of the commands on selections that stand in a file.
use Rattle.std.specs.Prelude.{◌≡◌, List, [], ◌∷◌, codes, ◌⊎◌}
use Rattle.zi_words.specs.declared.request.Request.{Request}
use Rattle.zi_words.specs.declared.request.Request.TheVariants as request
use Rattle.zi_words.specs.Forms.{Word}

-- the name of a file, then the program's words, whatever they look like
abbrev pub AsksFile : (Word → List Word → Request) → List Word → Request → Type 0
AsksFile of ws r = (file : Word) × (user : List Word) × (ws ≡ file ∷ user) × (r ≡ of file user)

-- behind `launch`
abbrev pub AsksLaunch : List Word → Request → Type 0
AsksLaunch ws r = AsksFile request.Launch ws r

-- behind `script`: `--launch`, and then as behind `launch`
abbrev pub AsksScriptFile : List Word → Request → Type 0
AsksScriptFile ws r = (behind : List Word) × (ws ≡ codes "--launch" ∷ behind) × AsksFile request.ScriptLaunch behind r

-- behind `show`: the name of a file, whatever it looks like
abbrev pub AsksShow : List Word → Request → Type 0
AsksShow ws r = (file : Word) × (ws ≡ file ∷ []) × (r ≡ request.Show file)

-- the commands: their word, and the words behind it
abbrev pub OfFile : Word → List Word → Request → Type 0
OfFile w ws r = ((w ≡ codes "launch") × AsksLaunch ws r) ⊎ (((w ≡ codes "script") × AsksScriptFile ws r) ⊎ ((w ≡ codes "show") × AsksShow ws r))
