-- The words behind `script`: where they stop being right.
use Rattle.std.proofs.Common.{◌≡◌, ◌≢◌, ℕ, false, true, List, [], ◌∷◌, ◌++◌, length, refl, sym, ap, ◌∙◌, subst, arith, ◌⊎◌, inl, inr, Result, Ok, Err}
use Rattle.std.specs.Prelude.{codes, bytes_eq, MatchResult}
use Rattle.zi_text.specs.Front.{BeginsRight}
use Rattle.zi_words.specs.declared.kind.Kind.{Kind}
use Rattle.zi_words.specs.declared.kind.Kind.TheVariants as kind
use Rattle.zi_words.specs.declared.loader.Loader.{Loader}
use Rattle.zi_words.specs.declared.loader.Loader.TheVariants as loader
use Rattle.zi_words.specs.declared.request.Request.{Request}
use Rattle.zi_words.specs.declared.request.Request.TheVariants as request
use Rattle.zi_words.specs.declared.refusal.Refusal.{Refusal}
use Rattle.zi_words.specs.declared.refusal.Refusal.TheVariants.{Left, Memory}
use Rattle.zi_words.specs.Forms.{Word, is_address}
use Rattle.zi_words.specs.Options.{Item, name_of, spelled}
use Rattle.zi_words.specs.Launch.{AsksFile, AsksScriptFile}
use Rattle.zi_words.specs.Words.{EndsOptions, AsksLoading, AsksScript}
use Rattle.zi_words.specs.Refused.{Asks, LeftAt, Refused}
use Rattle.std.proofs.lemmas.Slice.Eq.{bytes_eq-Decides}
use Rattle.zi_words.proofs.KindLemmas.{not_same}
use Rattle.zi_words.proofs.LeftLemmas.{behind, alike, short}
use Rattle.zi_words.proofs.LaunchLemmas.{one_launch}
use Rattle.zi_text.proofs.ListLaws.{head_same}

-- `--launch` is no option, doesn't end them, and is no address
not_option : (k : Kind) → codes "--launch" ≡ name_of k → ⊥
not_option kind.Command e = not_same (codes "--launch") (name_of kind.Command) refl e
not_option kind.NoCommand e = not_same (codes "--launch") (name_of kind.NoCommand) refl e
not_option kind.Version e = not_same (codes "--launch") (name_of kind.Version) refl e
not_option kind.VersionFor e = not_same (codes "--launch") (name_of kind.VersionFor) refl e
not_option kind.Os e = not_same (codes "--launch") (name_of kind.Os) refl e
not_option kind.Cpu e = not_same (codes "--launch") (name_of kind.Cpu) refl e
not_option kind.Lang e = not_same (codes "--launch") (name_of kind.Lang) refl e
not_option kind.Level e = not_same (codes "--launch") (name_of kind.Level) refl e
not_option kind.Network e = not_same (codes "--launch") (name_of kind.Network) refl e
not_option kind.Use e = not_same (codes "--launch") (name_of kind.Use) refl e
not_option kind.Rate e = not_same (codes "--launch") (name_of kind.Rate) refl e
not_option kind.Search e = not_same (codes "--launch") (name_of kind.Search) refl e
not_option kind.Proof e = not_same (codes "--launch") (name_of kind.Proof) refl e

no_root : is_address (codes "--launch") ≡ false
unfolding is_address
no_root = refl

no_end : (u ends : List Word) (root : Word) (named : List Word) → codes "--launch" ∷ u ≡ ends ++ root ∷ named → EndsOptions ends → is_address root ≡ true → ⊥
no_end u ends root named e (inl h) a =
    let f : codes "--launch" ∷ u ≡ root ∷ named = e ∙ ap (λ v. v ++ root ∷ named) h in
    let g : false ≡ true = sym no_root ∙ (ap is_address (head_same (codes "--launch") root u named f).0 ∙ a) in
    cc
no_end u ends root named e (inr h) a =
    let f : codes "--launch" ∷ u ≡ codes "--" ∷ root ∷ named = e ∙ ap (λ v. v ++ root ∷ named) h in
    not_same (codes "--launch") (codes "--") refl (head_same (codes "--launch") (codes "--") u (root ∷ named) f).0

never_loads : (l : Loader) (u : List Word) (r : Request) → AsksLoading l (codes "--launch" ∷ u) r → ⊥
never_loads l u r a = by a.options a.are
  where
    by : (options : List Item) → codes "--launch" ∷ u ≡ spelled options ++ (a.ends ++ a.root ∷ a.named) → ⊥
    by [] e = no_end u a.ends a.root a.named e a.ended a.address
    by (i ∷ is) e =
        not_option i.kind (head_same (codes "--launch") (name_of i.kind) u ((i.arguments ++ spelled is) ++ (a.ends ++ a.root ∷ a.named)) e).0

file_only : (u : List Word) → Asks AsksScript (codes "--launch" ∷ u) → Asks (AsksFile request.ScriptLaunch) u
file_only u (r, inl a) = absurd (never_loads loader.Script u r a)
file_only u (r, inr (behind, e, a)) =
    let P : List Word → Type 0 = λ v. AsksFile request.ScriptLaunch v r in
    (r, subst P (sym (head_same (codes "--launch") (codes "--launch") u behind e).1) a)

begins_script : BeginsRight (Asks AsksScript) []
begins_script =
    (codes "--launch" ∷ codes "f" ∷ [], (request.ScriptLaunch (codes "f") [], inr (codes "f" ∷ [], refl, (codes "f", [], refl, refl))))

-- `--launch` stands first
pub script_files : (ws rest : List Word) (w : Word) (result : Result Request Refusal) → ws ≡ w ∷ rest → w ≡ codes "--launch"
    → MatchResult result (AsksFile request.ScriptLaunch rest) (Refused (AsksFile request.ScriptLaunch) rest) → MatchResult result (AsksScript ws) (Refused AsksScript ws)
script_files ws rest w (Ok r) e h a = inr (rest, e ∙ ap (λ v. v ∷ rest) h, a)
script_files ws rest w (Err (Left n)) e h a =
    let P : List Word → Type 0 = λ v. LeftAt (Asks AsksScript) v n in
    subst P (sym (e ∙ ap (λ v. v ∷ rest) h))
    (behind (Asks AsksScript) (Asks (AsksFile request.ScriptLaunch)) (codes "--launch" ∷ []) rest file_only (λ u (r, b). (r, inr (u, refl, b))) n a)
script_files ws rest w (Err Memory) e h a = tt

-- or it doesn't
loads_left : (ws : List Word) (n : ℕ) → ((t : List Word) → ws ≢ codes "--launch" ∷ t) → LeftAt (Asks (AsksLoading loader.Script)) ws n → LeftAt (Asks AsksScript) ws n
loads_left [] n other at =
    let P : ℕ → Type 0 = λ m. LeftAt (Asks AsksScript) [] m in
    let e : 0 ≡ n = omega (arith, at.within) in
    subst P e (short (Asks AsksScript) [] begins_script nothing)
  where
    nothing : Asks AsksScript [] → ⊥
    nothing (r, inl a) = at.wrong (r, a)
    nothing (r, inr (behind, f, a)) = cc
loads_left (w ∷ t) n other at = alike (Asks AsksScript) (Asks (AsksLoading loader.Script)) w t down (λ u (r, a). (r, inl a)) begins_script n at
  where
    down : (u : List Word) → Asks AsksScript (w ∷ u) → Asks (AsksLoading loader.Script) (w ∷ u)
    down u (r, inl a) = (r, a)
    down u (r, inr (behind, f, a)) = absurd (other t (ap (λ v. v ∷ t) (head_same w (codes "--launch") u behind f).0))

pub script_loads : (ws : List Word) (result : Result Request Refusal) → ((t : List Word) → ws ≢ codes "--launch" ∷ t)
    → MatchResult result (AsksLoading loader.Script ws) (Refused (AsksLoading loader.Script) ws) → MatchResult result (AsksScript ws) (Refused AsksScript ws)
script_loads ws (Ok r) other a = inl a
script_loads ws (Err (Left n)) other a = loads_left ws n other a
script_loads ws (Err Memory) other a = tt

-- no words
pub none_first : (ws : List Word) → length ws ≡ 0 → (t : List Word) → ws ≢ codes "--launch" ∷ t
none_first [] e t f = cc
none_first (w ∷ ws) e t f = omega (arith, e)

-- a word by its test
pub is_word : (w v : Word) → bytes_eq w v ≡ true → w ≡ v
is_word w v t = (bytes_eq-Decides w v).0 t

-- another word
pub other_first : (ws rest : List Word) (w : Word) → ws ≡ w ∷ rest → bytes_eq w (codes "--launch") ≡ false → (t : List Word) → ws ≢ codes "--launch" ∷ t
other_first ws rest w e n t f = not_same w (codes "--launch") n (head_same w (codes "--launch") rest t (sym e ∙ f)).0

-- both are never so
pub never_both : (ws : List Word) (a b : Request) → AsksLoading loader.Script ws a → AsksScriptFile ws b → ⊥
never_both ws a b x (behind, e, y) = let P : List Word → Type 0 = λ v. AsksLoading loader.Script v a in never_loads loader.Script behind a (subst P e x)

pub one_file : (ws : List Word) (a b : Request) → AsksScriptFile ws a → AsksScriptFile ws b → a ≡ b
one_file ws a b (u, e, x) (v, f, y) =
    let P : List Word → Type 0 = λ t. AsksFile request.ScriptLaunch t b in
    one_launch request.ScriptLaunch u a b x (subst P (sym (head_same (codes "--launch") (codes "--launch") u v (sym e ∙ f)).1) y)
