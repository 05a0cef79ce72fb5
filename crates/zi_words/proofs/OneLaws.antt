-- No words ask for two things.
use Rattle.std.proofs.Common.{◌≡◌, List, [], ◌∷◌, ◌++◌, true, false, refl, sym, ap, ◌∙◌, subst, ◌⊎◌, inl, inr}
use Rattle.std.specs.Prelude.{codes, bytes_eq}
use Rattle.zi_digest.specs.Name.{spelling, IsDigest}
use Rattle.zi_digest.specs.declared.Algorithm.{Algorithm}
use Rattle.zi_digest.specs.declared.Algorithm.TheVariants as algorithm
use Rattle.zi_digest.specs.declared.DigestName.{DigestName}
use Rattle.zi_words.specs.declared.loader.Loader.{Loader}
use Rattle.zi_words.specs.declared.loader.Loader.TheVariants as loader
use Rattle.zi_words.specs.declared.request.Request.{Request}
use Rattle.zi_words.specs.declared.request.Request.TheVariants as request
use Rattle.zi_words.specs.Forms.{Word, is_address}
use Rattle.zi_words.specs.Options.{spelled, gathered}
use Rattle.zi_words.specs.Store.{word_of, AsksManifest, AsksAdd, AsksVerify, AsksPurge, AsksStore}
use Rattle.zi_words.specs.Words.{EndsOptions, loader_word, asking, AsksLoading, AsksScript, Right}
use Rattle.zi_words.proofs.KindLemmas.{dashes_address}
use Rattle.zi_words.proofs.OptionLemmas.{after_none, all_in, no_option_ends}
use Rattle.zi_words.proofs.EndLemmas.{ends_next}
use Rattle.zi_words.proofs.StoreLemmas.{store_add_only, store_verify_only, store_purge_only, store_list_only}
use Rattle.zi_words.proofs.DemoLemmas.{one_demo}
use Rattle.zi_words.proofs.LaunchLemmas.{one_launch, one_show}
use Rattle.zi_words.proofs.ScriptLemmas.{never_both, one_file}
use Rattle.zi_words.proofs.RightLemmas.{loading_only, manifest_only, store_only, demo_only, launch_only, script_only, show_only, help_only, version_only}
use Rattle.zi_text.proofs.ListLaws.{head_same}

-- the root of an end, and what stands behind it
one_end : (ends : List Word) (root other : Word) (named others : List Word) → EndsOptions ends → is_address root ≡ true → is_address other ≡ true
    → (ends ++ root ∷ named ≡ other ∷ others) ⊎ (ends ++ root ∷ named ≡ codes "--" ∷ other ∷ others) → (root ≡ other) × (named ≡ others)
one_end ends root other named others (inl h) a b (inl e) =
    let f : root ∷ named ≡ other ∷ others = sym (ap (λ v. v ++ root ∷ named) h) ∙ e in head_same root other named others f
one_end ends root other named others (inl h) a b (inr e) =
    let f : root ∷ named ≡ codes "--" ∷ other ∷ others = sym (ap (λ v. v ++ root ∷ named) h) ∙ e in
    let g : false ≡ true = sym dashes_address ∙ (ap is_address (sym (head_same root (codes "--") named (other ∷ others) f).0) ∙ a) in
    absurd cc
one_end ends root other named others (inr h) a b (inl e) =
    let f : codes "--" ∷ root ∷ named ≡ other ∷ others = sym (ap (λ v. v ++ root ∷ named) h) ∙ e in
    let g : false ≡ true = sym dashes_address ∙ (ap is_address (head_same (codes "--") other (root ∷ named) others f).0 ∙ b) in
    absurd cc
one_end ends root other named others (inr h) a b (inr e) =
    let f : codes "--" ∷ root ∷ named ≡ codes "--" ∷ other ∷ others = sym (ap (λ v. v ++ root ∷ named) h) ∙ e in
    let g = (head_same (codes "--") (codes "--") (root ∷ named) (other ∷ others) f).1 in
    head_same root other named others g

one_loading : (l : Loader) (ws : List Word) (a b : Request) → AsksLoading l ws a → AsksLoading l ws b → a ≡ b
one_loading l ws a b x y =
    let P : List Word → Type 0 = λ v. AsksLoading l v b in
    let tail = x.ends ++ x.root ∷ x.named in
    let z = all_in l x.options [] tail b x.items (after_none l (spelled x.options ++ tail) b (subst P x.are y)) in
    let e = ends_next l x.options tail b (λ k t its f. no_option_ends k t x.ends x.root x.named (sym f) x.ended x.address) z in
    let same = one_end x.ends x.root e.root x.named e.named x.ended x.address e.address e.are in
    x.asked ∙ (ap (λ v. asking l v x.named (gathered x.options)) same.0 ∙ (ap (λ v. asking l e.root v (gathered x.options)) same.1 ∙ sym e.asked))

-- a command that loads feeds and has no other words, and one that has
one_plain : (l : Loader) (ws : List Word) (a b : Request) → bytes_eq (loader_word l) (codes "script") ≡ false → AsksLoading l ws a → Right (loader_word l ∷ ws) b → a ≡ b
one_plain l ws a b apart x y = one_loading l ws a b x (loading_only l ws b apart y)

one_script : (ws : List Word) (a b : Request) → AsksScript ws a → AsksScript ws b → a ≡ b
one_script ws a b (inl x) (inl y) = one_loading loader.Script ws a b x y
one_script ws a b (inl x) (inr y) = absurd (never_both ws a b x y)
one_script ws a b (inr x) (inl y) = absurd (never_both ws b a y x)
one_script ws a b (inr x) (inr y) = one_file ws a b x y

one_loader : (l : Loader) (ws : List Word) (a b : Request) → AsksLoading l ws a → Right (loader_word l ∷ ws) b → a ≡ b
one_loader loader.Select ws a b x y = one_plain loader.Select ws a b refl x y
one_loader loader.Download ws a b x y = one_plain loader.Download ws a b refl x y
one_loader loader.Run ws a b x y = one_plain loader.Run ws a b refl x y
one_loader loader.Check ws a b x y = one_plain loader.Check ws a b refl x y
one_loader loader.Refute ws a b x y = one_plain loader.Refute ws a b refl x y
one_loader loader.Why ws a b x y = one_plain loader.Why ws a b refl x y
one_loader loader.Conflict ws a b x y = one_plain loader.Conflict ws a b refl x y
one_loader loader.Script ws a b x y = one_script ws a b (inl x) (script_only ws b y)

one_word : (a b : Algorithm) → word_of a ≡ word_of b → a ≡ b
one_word algorithm.Sha1new algorithm.Sha1new e = refl
one_word algorithm.Sha1new algorithm.Sha256 e = cc
one_word algorithm.Sha1new algorithm.Sha256new e = cc
one_word algorithm.Sha256 algorithm.Sha1new e = cc
one_word algorithm.Sha256 algorithm.Sha256 e = refl
one_word algorithm.Sha256 algorithm.Sha256new e = cc
one_word algorithm.Sha256new algorithm.Sha1new e = cc
one_word algorithm.Sha256new algorithm.Sha256 e = cc
one_word algorithm.Sha256new algorithm.Sha256new e = refl

one_manifest : (ws : List Word) (a b : Request) → AsksManifest ws a → AsksManifest ws b → a ≡ b
one_manifest ws a b (x, n, e, h, p) (y, m, f, i, q) =
    let g = head_same (word_of x) (word_of y) (n ∷ []) (m ∷ []) (sym e ∙ f) in
    let j = (head_same n m [] [] g.1).0 in
    p ∙ (ap (λ v. request.Manifest v n) (one_word x y g.0) ∙ (ap (request.Manifest y) j ∙ sym q))

one_purge : (ws : List Word) (a b : Request) → AsksPurge ws a → AsksPurge ws b → a ≡ b
one_purge ws a b (v, vs, e, p) (u, us, f, q) = p ∙ (ap request.Purge (sym e ∙ f) ∙ sym q)

module _ (one : (x y : DigestName) → IsDigest x → IsDigest y → spelling x ≡ spelling y → x ≡ y) where
  one_add : (ws : List Word) (a b : Request) → AsksAdd ws a → AsksAdd ws b → a ≡ b
  one_add ws a b (x, n, e, d, h, p) (y, m, f, c, i, q) =
      let g = head_same (spelling x) (spelling y) n m (sym e ∙ f) in
      p ∙ (ap (λ v. request.Add v n) (one x y d c g.0) ∙ (ap (request.Add y) g.1 ∙ sym q))

  one_verify : (ws : List Word) (a b : Request) → AsksVerify ws a → AsksVerify ws b → a ≡ b
  one_verify ws a b (x, e, d, p) (y, f, c, q) =
      let g = head_same (spelling x) (spelling y) [] [] (sym e ∙ f) in p ∙ (ap request.Verify (one x y d c g.0) ∙ sym q)

  one_store : (ws : List Word) (a b : Request) → AsksStore ws a → AsksStore ws b → a ≡ b
  one_store [] a b x y = absurd x
  one_store (w ∷ ws) a b (inl x) y =
      let P : Word → Type 0 = λ v. AsksStore (v ∷ ws) b in one_add ws a b x.1 (store_add_only ws b (subst P x.0 y))
  one_store (w ∷ ws) a b (inr (inl x)) y =
      let P : Word → Type 0 = λ v. AsksStore (v ∷ ws) b in one_verify ws a b x.1 (store_verify_only ws b (subst P x.0 y))
  one_store (w ∷ ws) a b (inr (inr (inl x))) y =
      let P : Word → Type 0 = λ v. AsksStore (v ∷ ws) b in one_purge ws a b x.1 (store_purge_only ws b (subst P x.0 y))
  one_store (w ∷ ws) a b (inr (inr (inr x))) y =
      let P : Word → Type 0 = λ v. AsksStore (v ∷ ws) b in x.2 ∙ sym (store_list_only ws b (subst P x.0 y)).1

  pub one_right : (ws : List Word) (a b : Request) → Right ws a → Right ws b → a ≡ b
  one_right [] a b x y = absurd x
  one_right (w ∷ ws) a b (inl (l, e, x)) y =
      let P : Word → Type 0 = λ v. Right (v ∷ ws) b in one_loader l ws a b x (subst P e y)
  one_right (w ∷ ws) a b (inr (inl (inl x))) y =
      let P : Word → Type 0 = λ v. Right (v ∷ ws) b in one_manifest ws a b x.1 (manifest_only ws b (subst P x.0 y))
  one_right (w ∷ ws) a b (inr (inl (inr x))) y =
      let P : Word → Type 0 = λ v. Right (v ∷ ws) b in one_store ws a b x.1 (store_only ws b (subst P x.0 y))
  one_right (w ∷ ws) a b (inr (inr (inl x))) y =
      let P : Word → Type 0 = λ v. Right (v ∷ ws) b in one_demo ws a b x.1 (demo_only ws b (subst P x.0 y))
  one_right (w ∷ ws) a b (inr (inr (inr (inl (inl x))))) y =
      let P : Word → Type 0 = λ v. Right (v ∷ ws) b in one_launch request.Launch ws a b x.1 (launch_only ws b (subst P x.0 y))
  one_right (w ∷ ws) a b (inr (inr (inr (inl (inr (inl x)))))) y =
      let P : Word → Type 0 = λ v. Right (v ∷ ws) b in one_script ws a b (inr x.1) (script_only ws b (subst P x.0 y))
  one_right (w ∷ ws) a b (inr (inr (inr (inl (inr (inr x)))))) y =
      let P : Word → Type 0 = λ v. Right (v ∷ ws) b in one_show ws a b x.1 (show_only ws b (subst P x.0 y))
  one_right (w ∷ ws) a b (inr (inr (inr (inr (n, inl x))))) y =
      let P : Word → Type 0 = λ v. Right (v ∷ ws) b in x.1 ∙ sym (help_only ws b (subst P x.0 y)).1
  one_right (w ∷ ws) a b (inr (inr (inr (inr (n, inr x))))) y =
      let P : Word → Type 0 = λ v. Right (v ∷ ws) b in x.1 ∙ sym (version_only ws b (subst P x.0 y)).1
