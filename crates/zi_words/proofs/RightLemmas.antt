-- All words, by the first.
use Rattle.std.proofs.Common.{◌≡◌, ◌≢◌, false, List, [], ◌∷◌, length, refl, sym, ap, ◌∙◌, subst, arith, ◌⊎◌, inl, inr, Option, Some, None, Result, Ok, Err}
use Rattle.std.specs.Prelude.{if◌then◌else◌, bytes_eq, codes, MatchResult}
use Rattle.zi_text.specs.Front.{BeginsRight}
use Rattle.zi_words.specs.declared.loader.Loader.{Loader}
use Rattle.zi_words.specs.declared.loader.Loader.TheVariants as loader
use Rattle.zi_words.specs.declared.request.Request.{Request}
use Rattle.zi_words.specs.declared.request.Request.TheVariants as request
use Rattle.zi_words.specs.declared.refusal.Refusal.{Refusal}
use Rattle.zi_words.specs.declared.refusal.Refusal.TheVariants.{Left, Memory}
use Rattle.zi_words.specs.Forms.{Word}
use Rattle.zi_words.specs.Store.{AsksManifest, AsksStore, InStore}
use Rattle.zi_words.specs.Demo.{AsksDemo, Demonstrates}
use Rattle.zi_words.specs.Launch.{AsksLaunch, AsksShow, OfFile}
use Rattle.zi_words.specs.Words.{loader_word, AsksLoading, AsksScript, Loads, Alone, Right}
use Rattle.zi_words.specs.Refused.{Asks, LeftAt, Refused}
use Rattle.zi_words.specs.Taken.{IsEnded}
use Rattle.zi_words.proofs.KindLemmas.{not_same}
use Rattle.zi_words.proofs.LeftLemmas.{behind, stuck, short}

begins : BeginsRight (Asks Right) []
begins = (codes "--help" ∷ [], (request.Help, inr (inr (inr (inr (refl, inl (refl, refl)))))))

pub right_none : (ws : List Word) → length ws ≡ 0 → LeftAt (Asks Right) ws 0
right_none [] e = short (Asks Right) [] begins (λ (r, h). h)
right_none (w ∷ ws) e = absurd (omega arith)

-- a word that is that of no command that loads feeds
pub by_loaders : (w : Word) → w ≢ codes "select" → w ≢ codes "download" → w ≢ codes "run" → w ≢ codes "check" → w ≢ codes "refute" → w ≢ codes "why" → w ≢ codes "conflict" → w ≢ codes "script"
    → (l : Loader) → w ≢ loader_word l
by_loaders w ns nd nu nc nr nw nf ni loader.Select = ns
by_loaders w ns nd nu nc nr nw nf ni loader.Download = nd
by_loaders w ns nd nu nc nr nw nf ni loader.Run = nu
by_loaders w ns nd nu nc nr nw nf ni loader.Check = nc
by_loaders w ns nd nu nc nr nw nf ni loader.Refute = nr
by_loaders w ns nd nu nc nr nw nf ni loader.Why = nw
by_loaders w ns nd nu nc nr nw nf ni loader.Conflict = nf
by_loaders w ns nd nu nc nr nw nf ni loader.Script = ni

pub right_unknown : (ws rest : List Word) (w : Word) → ws ≡ w ∷ rest → ((l : Loader) → w ≢ loader_word l) → w ≢ codes "manifest" → w ≢ codes "store" → w ≢ codes "demo" → w ≢ codes "launch" → w ≢ codes "show" → w ≢ codes "--help" → w ≢ codes "--version"
    → LeftAt (Asks Right) ws (length ws)
right_unknown ws rest w e nl nm nt nd na nw nh nv =
    let P : List Word → Type 0 = λ v. LeftAt (Asks Right) v (length v) in
    subst P (sym e) (stuck (Asks Right) [] w rest begins (λ (more, (r, h)). wrong more r h))
  where
    wrong : (more : List Word) (r : Request) → Loads w more r ⊎ (InStore w more r ⊎ (Demonstrates w more r ⊎ (OfFile w more r ⊎ Alone w more r))) → ⊥
    wrong more r (inl (l, h, a)) = nl l h
    wrong more r (inr (inl (inl h))) = nm h.0
    wrong more r (inr (inl (inr h))) = nt h.0
    wrong more r (inr (inr (inl h))) = nd h.0
    wrong more r (inr (inr (inr (inl (inl h))))) = na h.0
    wrong more r (inr (inr (inr (inl (inr (inl h)))))) = nl loader.Script h.0
    wrong more r (inr (inr (inr (inl (inr (inr h)))))) = nw h.0
    wrong more r (inr (inr (inr (inr (e, inl h))))) = nh h.0
    wrong more r (inr (inr (inr (inr (e, inr h))))) = nv h.0

-- the command of a word, where it is that of one that loads feeds
loader_at : Word → Option Loader
loader_at w =
    if bytes_eq w (loader_word loader.Select) then Some loader.Select
    else if bytes_eq w (loader_word loader.Download) then Some loader.Download
    else if bytes_eq w (loader_word loader.Run) then Some loader.Run
    else if bytes_eq w (loader_word loader.Check) then Some loader.Check
    else if bytes_eq w (loader_word loader.Refute) then Some loader.Refute
    else if bytes_eq w (loader_word loader.Why) then Some loader.Why
    else if bytes_eq w (loader_word loader.Conflict) then Some loader.Conflict
    else if bytes_eq w (loader_word loader.Script) then Some loader.Script
    else None

at_word : (l : Loader) → loader_at (loader_word l) ≡ Some l
unfolding loader_at
at_word loader.Select = refl
at_word loader.Download = refl
at_word loader.Run = refl
at_word loader.Check = refl
at_word loader.Refute = refl
at_word loader.Why = refl
at_word loader.Conflict = refl
at_word loader.Script = refl

same_loader : (l m : Loader) → loader_word l ≡ loader_word m → l ≡ m
same_loader l m e = let f : Some l ≡ Some m = sym (at_word l) ∙ (ap loader_at e ∙ at_word m) in cc

-- another word isn't that of one
no_loader : (w : Word) (l : Loader) → loader_at w ≡ None → w ≡ loader_word l → ⊥
no_loader w l n e = let f : None ≡ Some l = sym n ∙ (ap loader_at e ∙ at_word l) in cc

at_manifest : loader_at (codes "manifest") ≡ None
unfolding loader_at
at_manifest = refl

pub manifest_only : (u : List Word) (r : Request) → Right (codes "manifest" ∷ u) r → AsksManifest u r
manifest_only u r (inl (l, h, a)) = absurd (no_loader (codes "manifest") l at_manifest h)
manifest_only u r (inr (inl (inl h))) = h.1
manifest_only u r (inr (inl (inr h))) = absurd (not_same (codes "manifest") (codes "store") refl h.0)
manifest_only u r (inr (inr (inl h))) = absurd (not_same (codes "manifest") (codes "demo") refl h.0)
manifest_only u r (inr (inr (inr (inl (inl h))))) = absurd (not_same (codes "manifest") (codes "launch") refl h.0)
manifest_only u r (inr (inr (inr (inl (inr (inl h)))))) = absurd (not_same (codes "manifest") (codes "script") refl h.0)
manifest_only u r (inr (inr (inr (inl (inr (inr h)))))) = absurd (not_same (codes "manifest") (codes "show") refl h.0)
manifest_only u r (inr (inr (inr (inr (n, inl h))))) = absurd (not_same (codes "manifest") (codes "--help") refl h.0)
manifest_only u r (inr (inr (inr (inr (n, inr h))))) = absurd (not_same (codes "manifest") (codes "--version") refl h.0)

at_store : loader_at (codes "store") ≡ None
unfolding loader_at
at_store = refl

pub store_only : (u : List Word) (r : Request) → Right (codes "store" ∷ u) r → AsksStore u r
store_only u r (inl (l, h, a)) = absurd (no_loader (codes "store") l at_store h)
store_only u r (inr (inl (inl h))) = absurd (not_same (codes "store") (codes "manifest") refl h.0)
store_only u r (inr (inl (inr h))) = h.1
store_only u r (inr (inr (inl h))) = absurd (not_same (codes "store") (codes "demo") refl h.0)
store_only u r (inr (inr (inr (inl (inl h))))) = absurd (not_same (codes "store") (codes "launch") refl h.0)
store_only u r (inr (inr (inr (inl (inr (inl h)))))) = absurd (not_same (codes "store") (codes "script") refl h.0)
store_only u r (inr (inr (inr (inl (inr (inr h)))))) = absurd (not_same (codes "store") (codes "show") refl h.0)
store_only u r (inr (inr (inr (inr (n, inl h))))) = absurd (not_same (codes "store") (codes "--help") refl h.0)
store_only u r (inr (inr (inr (inr (n, inr h))))) = absurd (not_same (codes "store") (codes "--version") refl h.0)

at_demo : loader_at (codes "demo") ≡ None
unfolding loader_at
at_demo = refl

pub demo_only : (u : List Word) (r : Request) → Right (codes "demo" ∷ u) r → AsksDemo u r
demo_only u r (inl (l, h, a)) = absurd (no_loader (codes "demo") l at_demo h)
demo_only u r (inr (inl (inl h))) = absurd (not_same (codes "demo") (codes "manifest") refl h.0)
demo_only u r (inr (inl (inr h))) = absurd (not_same (codes "demo") (codes "store") refl h.0)
demo_only u r (inr (inr (inl h))) = h.1
demo_only u r (inr (inr (inr (inl (inl h))))) = absurd (not_same (codes "demo") (codes "launch") refl h.0)
demo_only u r (inr (inr (inr (inl (inr (inl h)))))) = absurd (not_same (codes "demo") (codes "script") refl h.0)
demo_only u r (inr (inr (inr (inl (inr (inr h)))))) = absurd (not_same (codes "demo") (codes "show") refl h.0)
demo_only u r (inr (inr (inr (inr (n, inl h))))) = absurd (not_same (codes "demo") (codes "--help") refl h.0)
demo_only u r (inr (inr (inr (inr (n, inr h))))) = absurd (not_same (codes "demo") (codes "--version") refl h.0)

at_launch : loader_at (codes "launch") ≡ None
unfolding loader_at
at_launch = refl

pub launch_only : (u : List Word) (r : Request) → Right (codes "launch" ∷ u) r → AsksLaunch u r
launch_only u r (inl (l, h, a)) = absurd (no_loader (codes "launch") l at_launch h)
launch_only u r (inr (inl (inl h))) = absurd (not_same (codes "launch") (codes "manifest") refl h.0)
launch_only u r (inr (inl (inr h))) = absurd (not_same (codes "launch") (codes "store") refl h.0)
launch_only u r (inr (inr (inl h))) = absurd (not_same (codes "launch") (codes "demo") refl h.0)
launch_only u r (inr (inr (inr (inl (inl h))))) = h.1
launch_only u r (inr (inr (inr (inl (inr (inl h)))))) = absurd (not_same (codes "launch") (codes "script") refl h.0)
launch_only u r (inr (inr (inr (inl (inr (inr h)))))) = absurd (not_same (codes "launch") (codes "show") refl h.0)
launch_only u r (inr (inr (inr (inr (n, inl h))))) = absurd (not_same (codes "launch") (codes "--help") refl h.0)
launch_only u r (inr (inr (inr (inr (n, inr h))))) = absurd (not_same (codes "launch") (codes "--version") refl h.0)

at_show : loader_at (codes "show") ≡ None
unfolding loader_at
at_show = refl

pub show_only : (u : List Word) (r : Request) → Right (codes "show" ∷ u) r → AsksShow u r
show_only u r (inl (l, h, a)) = absurd (no_loader (codes "show") l at_show h)
show_only u r (inr (inl (inl h))) = absurd (not_same (codes "show") (codes "manifest") refl h.0)
show_only u r (inr (inl (inr h))) = absurd (not_same (codes "show") (codes "store") refl h.0)
show_only u r (inr (inr (inl h))) = absurd (not_same (codes "show") (codes "demo") refl h.0)
show_only u r (inr (inr (inr (inl (inl h))))) = absurd (not_same (codes "show") (codes "launch") refl h.0)
show_only u r (inr (inr (inr (inl (inr (inl h)))))) = absurd (not_same (codes "show") (codes "script") refl h.0)
show_only u r (inr (inr (inr (inl (inr (inr h)))))) = h.1
show_only u r (inr (inr (inr (inr (n, inl h))))) = absurd (not_same (codes "show") (codes "--help") refl h.0)
show_only u r (inr (inr (inr (inr (n, inr h))))) = absurd (not_same (codes "show") (codes "--version") refl h.0)

at_help : loader_at (codes "--help") ≡ None
unfolding loader_at
at_help = refl

pub help_only : (u : List Word) (r : Request) → Right (codes "--help" ∷ u) r → (u ≡ []) × (r ≡ request.Help)
help_only u r (inl (l, h, a)) = absurd (no_loader (codes "--help") l at_help h)
help_only u r (inr (inl (inl h))) = absurd (not_same (codes "--help") (codes "manifest") refl h.0)
help_only u r (inr (inl (inr h))) = absurd (not_same (codes "--help") (codes "store") refl h.0)
help_only u r (inr (inr (inl h))) = absurd (not_same (codes "--help") (codes "demo") refl h.0)
help_only u r (inr (inr (inr (inl (inl h))))) = absurd (not_same (codes "--help") (codes "launch") refl h.0)
help_only u r (inr (inr (inr (inl (inr (inl h)))))) = absurd (not_same (codes "--help") (codes "script") refl h.0)
help_only u r (inr (inr (inr (inl (inr (inr h)))))) = absurd (not_same (codes "--help") (codes "show") refl h.0)
help_only u r (inr (inr (inr (inr (n, inl h))))) = (n, h.1)
help_only u r (inr (inr (inr (inr (n, inr h))))) = absurd (not_same (codes "--help") (codes "--version") refl h.0)

at_version : loader_at (codes "--version") ≡ None
unfolding loader_at
at_version = refl

pub version_only : (u : List Word) (r : Request) → Right (codes "--version" ∷ u) r → (u ≡ []) × (r ≡ request.Version)
version_only u r (inl (l, h, a)) = absurd (no_loader (codes "--version") l at_version h)
version_only u r (inr (inl (inl h))) = absurd (not_same (codes "--version") (codes "manifest") refl h.0)
version_only u r (inr (inl (inr h))) = absurd (not_same (codes "--version") (codes "store") refl h.0)
version_only u r (inr (inr (inl h))) = absurd (not_same (codes "--version") (codes "demo") refl h.0)
version_only u r (inr (inr (inr (inl (inl h))))) = absurd (not_same (codes "--version") (codes "launch") refl h.0)
version_only u r (inr (inr (inr (inl (inr (inl h)))))) = absurd (not_same (codes "--version") (codes "script") refl h.0)
version_only u r (inr (inr (inr (inl (inr (inr h)))))) = absurd (not_same (codes "--version") (codes "show") refl h.0)
version_only u r (inr (inr (inr (inr (n, inl h))))) = absurd (not_same (codes "--version") (codes "--help") refl h.0)
version_only u r (inr (inr (inr (inr (n, inr h))))) = (n, h.1)

-- a command that loads feeds, other than `script`, has no other words
pub loading_only : (l : Loader) (u : List Word) (r : Request) → bytes_eq (loader_word l) (codes "script") ≡ false → Right (loader_word l ∷ u) r → AsksLoading l u r
loading_only l u r apart (inl (m, h, a)) = let P : Loader → Type 0 = λ v. AsksLoading v u r in subst P (sym (same_loader l m h)) a
loading_only l u r apart (inr (inl (inl h))) = absurd (no_loader (codes "manifest") l at_manifest (sym h.0))
loading_only l u r apart (inr (inl (inr h))) = absurd (no_loader (codes "store") l at_store (sym h.0))
loading_only l u r apart (inr (inr (inl h))) = absurd (no_loader (codes "demo") l at_demo (sym h.0))
loading_only l u r apart (inr (inr (inr (inl (inl h))))) = absurd (no_loader (codes "launch") l at_launch (sym h.0))
loading_only l u r apart (inr (inr (inr (inl (inr (inl h)))))) = absurd (not_same (loader_word l) (codes "script") apart h.0)
loading_only l u r apart (inr (inr (inr (inl (inr (inr h)))))) = absurd (no_loader (codes "show") l at_show (sym h.0))
loading_only l u r apart (inr (inr (inr (inr (n, inl h))))) = absurd (no_loader (codes "--help") l at_help (sym h.0))
loading_only l u r apart (inr (inr (inr (inr (n, inr h))))) = absurd (no_loader (codes "--version") l at_version (sym h.0))

pub script_only : (u : List Word) (r : Request) → Right (codes "script" ∷ u) r → AsksScript u r
script_only u r (inl (l, h, a)) = let P : Loader → Type 0 = λ v. AsksLoading v u r in inl (subst P (sym (same_loader loader.Script l h)) a)
script_only u r (inr (inl (inl h))) = absurd (not_same (codes "script") (codes "manifest") refl h.0)
script_only u r (inr (inl (inr h))) = absurd (not_same (codes "script") (codes "store") refl h.0)
script_only u r (inr (inr (inl h))) = absurd (not_same (codes "script") (codes "demo") refl h.0)
script_only u r (inr (inr (inr (inl (inl h))))) = absurd (not_same (codes "script") (codes "launch") refl h.0)
script_only u r (inr (inr (inr (inl (inr (inl h)))))) = inr h.1
script_only u r (inr (inr (inr (inl (inr (inr h)))))) = absurd (not_same (codes "script") (codes "show") refl h.0)
script_only u r (inr (inr (inr (inr (n, inl h))))) = absurd (not_same (codes "script") (codes "--help") refl h.0)
script_only u r (inr (inr (inr (inr (n, inr h))))) = absurd (not_same (codes "script") (codes "--version") refl h.0)

-- a command whose words are read apart
module _ (name : Word) (Rel : List Word → Request → Type 0) (down : (u : List Word) (r : Request) → Right (name ∷ u) r → Rel u r) (up : (u : List Word) (r : Request) → Rel u r → Right (name ∷ u) r) where
  pub command : (ws rest : List Word) (w : Word) (result : Result Request Refusal) → ws ≡ w ∷ rest → w ≡ name → MatchResult result (Rel rest) (Refused Rel rest)
      → MatchResult result (Right ws) (Refused Right ws)
  command ws rest w (Ok r) e h a = let P : List Word → Type 0 = λ v. Right v r in subst P (sym (e ∙ ap (λ v. v ∷ rest) h)) (up rest r a)
  command ws rest w (Err (Left n)) e h a =
      let P : List Word → Type 0 = λ v. LeftAt (Asks Right) v n in
      subst P (sym (e ∙ ap (λ v. v ∷ rest) h)) (behind (Asks Right) (Asks Rel) (name ∷ []) rest (λ u (r, b). (r, down u r b)) (λ u (r, b). (r, up u r b)) n a)
  command ws rest w (Err Memory) e h a = tt

-- a word that stands alone
module _ (name : Word) (asked : Request) (only : (u : List Word) (r : Request) → Right (name ∷ u) r → (u ≡ []) × (r ≡ asked)) (right : Right (name ∷ []) asked) where
  pub single : (ws rest : List Word) (w : Word) (result : Result Request Refusal) → ws ≡ w ∷ rest → w ≡ name → IsEnded asked rest result
      → MatchResult result (Right ws) (Refused Right ws)
  single ws [] w result e h i =
      let P : Result Request Refusal → Type 0 = λ v. MatchResult v (Right ws) (Refused Right ws) in
      let Q : List Word → Type 0 = λ v. Right v asked in
      subst P (sym i) (subst Q (sym (e ∙ ap (λ v. v ∷ []) h)) right)
  single ws (x ∷ rest) w result e h i =
      let P : Result Request Refusal → Type 0 = λ v. MatchResult v (Right ws) (Refused Right ws) in
      let Q : List Word → Type 0 = λ v. LeftAt (Asks Right) v (length (x ∷ rest)) in
      subst P (sym i)
      (subst Q (sym (e ∙ ap (λ v. v ∷ x ∷ rest) h))
      (stuck (Asks Right) (name ∷ []) x rest ([], (asked, right)) (λ (more, (r, a)). let j = (only (x ∷ more) r a).0 in cc)))

pub right_loading : (l : Loader) → bytes_eq (loader_word l) (codes "script") ≡ false → (ws rest : List Word) (w : Word) (result : Result Request Refusal) → ws ≡ w ∷ rest → w ≡ loader_word l
    → MatchResult result (AsksLoading l rest) (Refused (AsksLoading l) rest) → MatchResult result (Right ws) (Refused Right ws)
right_loading l apart = command (loader_word l) (AsksLoading l) (λ u r h. loading_only l u r apart h) (λ u r a. inl (l, refl, a))

script_too : (u : List Word) (r : Request) → AsksScript u r → Right (codes "script" ∷ u) r
script_too u r (inl a) = inl (loader.Script, refl, a)
script_too u r (inr a) = inr (inr (inr (inl (inr (inl (refl, a))))))

pub right_script : (ws rest : List Word) (w : Word) (result : Result Request Refusal) → ws ≡ w ∷ rest → w ≡ codes "script" → MatchResult result (AsksScript rest) (Refused AsksScript rest)
    → MatchResult result (Right ws) (Refused Right ws)
right_script = command (codes "script") AsksScript script_only script_too

pub right_manifest : (ws rest : List Word) (w : Word) (result : Result Request Refusal) → ws ≡ w ∷ rest → w ≡ codes "manifest" → MatchResult result (AsksManifest rest) (Refused AsksManifest rest)
    → MatchResult result (Right ws) (Refused Right ws)
right_manifest = command (codes "manifest") AsksManifest manifest_only (λ u r a. inr (inl (inl (refl, a))))

pub right_store : (ws rest : List Word) (w : Word) (result : Result Request Refusal) → ws ≡ w ∷ rest → w ≡ codes "store" → MatchResult result (AsksStore rest) (Refused AsksStore rest)
    → MatchResult result (Right ws) (Refused Right ws)
right_store = command (codes "store") AsksStore store_only (λ u r a. inr (inl (inr (refl, a))))

pub right_demo : (ws rest : List Word) (w : Word) (result : Result Request Refusal) → ws ≡ w ∷ rest → w ≡ codes "demo" → MatchResult result (AsksDemo rest) (Refused AsksDemo rest)
    → MatchResult result (Right ws) (Refused Right ws)
right_demo = command (codes "demo") AsksDemo demo_only (λ u r a. inr (inr (inl (refl, a))))

pub right_launch : (ws rest : List Word) (w : Word) (result : Result Request Refusal) → ws ≡ w ∷ rest → w ≡ codes "launch" → MatchResult result (AsksLaunch rest) (Refused AsksLaunch rest)
    → MatchResult result (Right ws) (Refused Right ws)
right_launch = command (codes "launch") AsksLaunch launch_only (λ u r a. inr (inr (inr (inl (inl (refl, a))))))

pub right_show : (ws rest : List Word) (w : Word) (result : Result Request Refusal) → ws ≡ w ∷ rest → w ≡ codes "show" → MatchResult result (AsksShow rest) (Refused AsksShow rest)
    → MatchResult result (Right ws) (Refused Right ws)
right_show = command (codes "show") AsksShow show_only (λ u r a. inr (inr (inr (inl (inr (inr (refl, a)))))))

pub right_help : (ws rest : List Word) (w : Word) (result : Result Request Refusal) → ws ≡ w ∷ rest → w ≡ codes "--help" → IsEnded request.Help rest result
    → MatchResult result (Right ws) (Refused Right ws)
right_help = single (codes "--help") request.Help help_only (inr (inr (inr (inr (refl, inl (refl, refl))))))

pub right_version : (ws rest : List Word) (w : Word) (result : Result Request Refusal) → ws ≡ w ∷ rest → w ≡ codes "--version" → IsEnded request.Version rest result
    → MatchResult result (Right ws) (Refused Right ws)
right_version = single (codes "--version") request.Version version_only (inr (inr (inr (inr (refl, inr (refl, refl))))))
