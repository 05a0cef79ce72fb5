-- The words of the commands on the store: where they stop being right.
use Rattle.std.proofs.Common.{◌≡◌, ◌≢◌, ℕ, ◌<◌, true, false, ◌&&◌, List, [], ◌∷◌, ◌++◌, length, replicate, refl, sym, ap, ◌∙◌, subst, append_assoc, arith, ◌⊎◌, inl, inr, Result, Ok, Err}
use Rattle.std.specs.Prelude.{codes, slice_index, MatchResult}
use Rattle.std.proofs.lemmas.Grind.{common_steps}
use Rattle.std.specs.List.{list_all}
use Rattle.std.proofs.lemmas.List.{append-nil}
use Rattle.std.proofs.lemmas.List.Folds.{list_all-append}
use Rattle.std.proofs.lemmas.Bool.{and_parts}
use Rattle.zi_text.specs.Front.{BeginsRight}
use Rattle.zi_digest.specs.Name.{spelling, IsDigest}
use Rattle.zi_digest.specs.declared.Algorithm.{Algorithm}
use Rattle.zi_digest.specs.declared.Algorithm.TheVariants as algorithm
use Rattle.zi_digest.specs.declared.DigestName.{DigestName}
use Rattle.zi_digest.specs.declared.DigestName.TheVariants as digest
use Rattle.zi_words.specs.declared.request.Request.{Request}
use Rattle.zi_words.specs.declared.request.Request.TheVariants as request
use Rattle.zi_words.specs.declared.refusal.Refusal.{Refusal}
use Rattle.zi_words.specs.declared.refusal.Refusal.TheVariants.{Left, Memory}
use Rattle.zi_words.specs.Forms.{Word}
use Rattle.zi_words.specs.Store.{word_of, is_name, is_file, AsksManifest, AsksAdd, AsksVerify, AsksPurge, AsksStore}
use Rattle.zi_words.specs.Refused.{Asks, LeftAt, Refused}
use Rattle.zi_words.specs.Taken.{IsSpelled, MissesDigest, AreFiles, IsEnded}
use Rattle.zi_words.proofs.LeftLemmas.{behind, stuck, short}
use Rattle.zi_text.proofs.ListLaws.{head_same}

-- files

-- these words were taken as files
pub record FilesRead (ws left files : List Word) : Type 0 where
  pub are : ws ≡ files ++ left
  pub all : list_all is_file files ≡ true

pub files_begun : (ws files : List Word) → files ≡ [] → FilesRead ws ws files
files_begun ws files e = record {
  are = ap (λ v. v ++ ws) (sym e);
  all = ap (list_all is_file) e;
}

all_more : (files : List Word) (w : Word) → list_all is_file files ≡ true → is_file w ≡ true → list_all is_file (files ++ w ∷ []) ≡ true
all_more files w h k =
    list_all-append is_file files (w ∷ []) ∙ (ap (λ v. v && (is_file w && true)) h ∙ ap (λ v. v && true) k)

pub files_next : (ws left rest files new : List Word) (w copy : Word) → FilesRead ws left files → left ≡ w ∷ rest → is_file w ≡ true → new ≡ files ++ copy ∷ [] → copy ≡ w
    → FilesRead ws rest new
files_next ws left rest files new w copy f e h n c =
    let g : new ≡ files ++ w ∷ [] = n ∙ ap (λ v. files ++ v ∷ []) c in
    record {
      are = f.are ∙ (ap (λ v. files ++ v) e ∙ (sym (append_assoc files (w ∷ []) rest) ∙ ap (λ v. v ++ rest) (sym g)));
      all = ap (list_all is_file) g ∙ all_more files w f.all h;
    }

pub files_done : (ws left files : List Word) → FilesRead ws left files → length left ≡ 0 → AreFiles ws files
files_done ws [] files f e = let g : ws ≡ files = f.are ∙ append-nil files in (sym g, ap (list_all is_file) g ∙ f.all)
files_done ws (w ∷ left) files f e = absurd (omega arith)

pub files_wrong : (ws left rest files : List Word) (w : Word) → FilesRead ws left files → left ≡ w ∷ rest → is_file w ≡ false → LeftAt (Asks AreFiles) ws (length left)
files_wrong ws left rest files w f e h =
    let g : ws ≡ files ++ w ∷ rest = f.are ∙ ap (λ v. files ++ v) e in
    let P : List Word → Type 0 = λ v. LeftAt (Asks AreFiles) v (length left) in
    let Q : List Word → Type 0 = λ v. LeftAt (Asks AreFiles) (files ++ w ∷ rest) (length v) in
    subst P (sym g) (subst Q (sym e)
    (stuck (Asks AreFiles) files w rest ([], (files ++ [], (refl, ap (list_all is_file) (append-nil files) ∙ f.all))) (λ (more, (all, a)). wrong more a.1)))
  where
    wrong : (more : List Word) → list_all is_file ((files ++ w ∷ []) ++ more) ≡ true → ⊥
    wrong more a =
        let b = list_all-append is_file (files ++ w ∷ []) more in
        let c = list_all-append is_file files (w ∷ []) in
        let d = (and_parts (list_all is_file (files ++ w ∷ [])) (list_all is_file more) (sym b ∙ a)).0 in
        let i = (and_parts (list_all is_file files) (is_file w && true) (sym c ∙ d)).1 in
        let j : false ≡ true = sym h ∙ (and_parts (is_file w) true i).0 in
        cc

-- digests

-- a digest of twenty zero bytes
zeros : DigestName
zeros = digest.Sha1new (replicate 20 0)

small : (i : ℕ) → slice_index (replicate 20 0) i < 256
small i = zero_at 20 i
  where
    zero_at : (n i : ℕ) → slice_index (replicate n 0) i < 256
    zero_at n i = grind (arith, common_steps)

zeros_is : IsDigest (digest.Sha1new (replicate 20 0))
zeros_is = (refl, small)

begins_verify : BeginsRight (Asks AsksVerify) []
begins_verify = (
  spelling (digest.Sha1new (replicate 20 0)) ∷ [],
  (request.Verify (digest.Sha1new (replicate 20 0)), (digest.Sha1new (replicate 20 0), refl, zeros_is, refl)),
)

begins_add : BeginsRight (Asks AsksAdd) []
begins_add = (
  spelling (digest.Sha1new (replicate 20 0)) ∷ [],
  (request.Add (digest.Sha1new (replicate 20 0)) [], (digest.Sha1new (replicate 20 0), [], refl, zeros_is, refl, refl)),
)

-- a language whose words begin with a digest's name
module _ (R : List Word → Type 0) (begun : BeginsRight R []) (first : (w : Word) (ws : List Word) → R (w ∷ ws) → IsSpelled w) (some : ¬ R []) where
  pub digest_wrong : (ws : List Word) (n : ℕ) → MissesDigest ws (Left n) → LeftAt R ws n
  digest_wrong [] n m = let P : ℕ → Type 0 = λ v. LeftAt R [] v in subst P (sym m) (short R [] begun some)
  digest_wrong (w ∷ ws) n m =
      let P : ℕ → Type 0 = λ v. LeftAt R (w ∷ ws) v in
      subst P (sym m.1) (stuck R [] w ws begun (λ (more, r). m.0 (first w more r)))

add_first : (w : Word) (ws : List Word) → Asks AsksAdd (w ∷ ws) → IsSpelled w
add_first w ws (r, (name, files, e, d, all, q)) = (name, d, sym (head_same w (spelling name) ws files e).0)

add_some : ¬ Asks AsksAdd []
add_some (r, (name, files, e, d, all, q)) = cc

verify_first : (w : Word) (ws : List Word) → Asks AsksVerify (w ∷ ws) → IsSpelled w
verify_first w ws (r, (name, e, d, q)) = (name, d, sym (head_same w (spelling name) ws [] e).0)

verify_some : ¬ Asks AsksVerify []
verify_some (r, (name, e, d, q)) = cc

pub add_wrong : (ws : List Word) (f : Refusal) → MissesDigest ws f → Refused AsksAdd ws f
add_wrong ws (Left n) m = digest_wrong (Asks AsksAdd) begins_add add_first add_some ws n m
add_wrong ws Memory m = tt

pub verify_wrong : (ws : List Word) (f : Refusal) → MissesDigest ws f → Refused AsksVerify ws f
verify_wrong ws (Left n) m = digest_wrong (Asks AsksVerify) begins_verify verify_first verify_some ws n m
verify_wrong ws Memory m = tt

pub add_files_wrong : (ws rest : List Word) (name : DigestName) (f : Refusal) → ws ≡ spelling name ∷ rest → IsDigest name → Refused AreFiles rest f → Refused AsksAdd ws f
add_files_wrong ws rest name (Left n) e d l =
    let P : List Word → Type 0 = λ v. LeftAt (Asks AsksAdd) v n in
    subst P (sym e)
    (behind (Asks AsksAdd) (Asks AreFiles) (spelling name ∷ []) rest (λ u a. down u a) (λ u (files, (g, all)). (request.Add name u, (name, u, refl, d, all, refl))) n l)
  where
    down : (u : List Word) → Asks AsksAdd (spelling name ∷ u) → Asks AreFiles u
    down u (r, (other, files, g, i, all, q)) =
        let h = (head_same (spelling name) (spelling other) u files g).1 in
        (files, (sym h, ap (list_all is_file) h ∙ all))
add_files_wrong ws rest name Memory e d l = tt

pub add_right : (ws rest files : List Word) (name : DigestName) → ws ≡ spelling name ∷ rest → IsDigest name → AreFiles rest files → AsksAdd ws (request.Add name files)
add_right ws rest files name e d (g, all) =
    (name, files, e ∙ ap (λ v. spelling name ∷ v) (sym g), d, ap (list_all is_file) g ∙ all, refl)

-- what may follow no more is right where it ends, and else wrong at the next word
pub verify_ended : (ws rest : List Word) (name : DigestName) (result : Result Request Refusal) → ws ≡ spelling name ∷ rest → IsDigest name → IsEnded (request.Verify name) rest result
    → MatchResult result (AsksVerify ws) (Refused AsksVerify ws)
verify_ended ws [] name result e d h =
    let P : Result Request Refusal → Type 0 = λ v. MatchResult v (AsksVerify ws) (Refused AsksVerify ws) in
    subst P (sym h) (name, e, d, refl)
verify_ended ws (x ∷ rest) name result e d h =
    let P : Result Request Refusal → Type 0 = λ v. MatchResult v (AsksVerify ws) (Refused AsksVerify ws) in
    let Q : List Word → Type 0 = λ v. LeftAt (Asks AsksVerify) v (length (x ∷ rest)) in
    subst P (sym h)
    (subst Q (sym e) (stuck (Asks AsksVerify) (spelling name ∷ []) x rest ([], (request.Verify name, (name, refl, d, refl))) (λ (more, a). wrong more a)))
  where
    wrong : (more : List Word) → Asks AsksVerify (spelling name ∷ x ∷ more) → ⊥
    wrong more (r, (other, g, i, q)) = let j = (head_same (spelling name) (spelling other) (x ∷ more) [] g).1 in cc

-- `manifest`

word_is : Word → Algorithm → Type 0
word_is w a = w ≡ word_of a

name_t : is_name (codes "t") ≡ true
unfolding is_name
name_t = refl

begins_manifest : BeginsRight (Asks AsksManifest) []
begins_manifest = (
  codes "sha256" ∷ codes "t" ∷ [],
  (request.Manifest algorithm.Sha256 (codes "t"), (algorithm.Sha256, codes "t", refl, name_t, refl)),
)

pub manifest_none : (ws : List Word) → length ws ≡ 0 → LeftAt (Asks AsksManifest) ws 0
manifest_none [] e = short (Asks AsksManifest) [] begins_manifest (λ (r, (a, name, g, n, q)). cc)
manifest_none (w ∷ ws) e = absurd (omega arith)

pub manifest_unknown : (ws rest : List Word) (w : Word) → ws ≡ w ∷ rest → ((a : Algorithm) → w ≢ word_of a) → LeftAt (Asks AsksManifest) ws (length ws)
manifest_unknown ws rest w e h =
    let P : List Word → Type 0 = λ v. LeftAt (Asks AsksManifest) v (length v) in
    subst P (sym e)
    (stuck (Asks AsksManifest) [] w rest begins_manifest (λ (more, (r, (a, name, g, n, q))). h a (head_same w (word_of a) more (name ∷ []) g).0))

begins_named : (a : Algorithm) → BeginsRight (Asks AsksManifest) (word_of a ∷ [])
begins_named a = (codes "t" ∷ [], (request.Manifest a (codes "t"), (a, codes "t", refl, name_t, refl)))

pub manifest_short : (ws rest : List Word) (w : Word) (a : Algorithm) → ws ≡ w ∷ rest → w ≡ word_of a → length rest ≡ 0 → LeftAt (Asks AsksManifest) ws 0
manifest_short ws [] w a e h n =
    let P : List Word → Type 0 = λ v. LeftAt (Asks AsksManifest) v 0 in
    subst P (sym (e ∙ ap (λ v. v ∷ []) h)) (short (Asks AsksManifest) (word_of a ∷ []) (begins_named a) (λ (r, (b, name, g, m, q)). wrong b name g))
  where
    wrong : (b : Algorithm) (name : Word) → word_of a ∷ [] ≡ word_of b ∷ name ∷ [] → ⊥
    wrong b name g = let j = (head_same (word_of a) (word_of b) [] (name ∷ []) g).1 in cc
manifest_short ws (x ∷ rest) w a e h n = absurd (omega arith)

pub manifest_unnamed : (ws rest last : List Word) (w name : Word) (a : Algorithm) → ws ≡ w ∷ rest → w ≡ word_of a → rest ≡ name ∷ last → is_name name ≡ false
    → LeftAt (Asks AsksManifest) ws (length rest)
manifest_unnamed ws rest last w name a e h g n =
    let P : List Word → Type 0 = λ v. LeftAt (Asks AsksManifest) v (length rest) in
    let Q : List Word → Type 0 = λ v. LeftAt (Asks AsksManifest) (word_of a ∷ name ∷ last) (length v) in
    subst P (sym (e ∙ (ap (λ v. v ∷ rest) h ∙ ap (λ v. word_of a ∷ v) g)))
    (subst Q (sym g) (stuck (Asks AsksManifest) (word_of a ∷ []) name last (begins_named a) (λ (more, (r, (b, other, i, m, q))). wrong more b other i m)))
  where
    wrong : (more : List Word) (b : Algorithm) (other : Word) → word_of a ∷ name ∷ more ≡ word_of b ∷ other ∷ [] → is_name other ≡ true → ⊥
    wrong more b other i m =
        let j = (head_same (word_of a) (word_of b) (name ∷ more) (other ∷ []) i).1 in
        let k = (head_same name other more [] j).0 in
        let f : false ≡ true = sym n ∙ (ap is_name k ∙ m) in
        cc

pub manifest_ended : (ws rest last : List Word) (w name copy : Word) (a : Algorithm) (result : Result Request Refusal) → ws ≡ w ∷ rest → w ≡ word_of a → rest ≡ name ∷ last
    → is_name name ≡ true → copy ≡ name → IsEnded (request.Manifest a copy) last result → MatchResult result (AsksManifest ws) (Refused AsksManifest ws)
manifest_ended ws rest [] w name copy a result e h g n c i =
    let P : Result Request Refusal → Type 0 = λ v. MatchResult v (AsksManifest ws) (Refused AsksManifest ws) in
    subst P (sym i) (a, name, e ∙ (ap (λ v. v ∷ rest) h ∙ ap (λ v. word_of a ∷ v) g), n, ap (request.Manifest a) c)
manifest_ended ws rest (x ∷ last) w name copy a result e h g n c i =
    let P : Result Request Refusal → Type 0 = λ v. MatchResult v (AsksManifest ws) (Refused AsksManifest ws) in
    let Q : List Word → Type 0 = λ v. LeftAt (Asks AsksManifest) v (length (x ∷ last)) in
    subst P (sym i)
    (subst Q (sym (e ∙ (ap (λ v. v ∷ rest) h ∙ ap (λ v. word_of a ∷ v) g)))
    (stuck (Asks AsksManifest) (word_of a ∷ name ∷ []) x last ([], (request.Manifest a name, (a, name, refl, n, refl))) (λ (more, (r, (b, other, j, m, q))). wrong more b other j)))
  where
    wrong : (more : List Word) (b : Algorithm) (other : Word) → word_of a ∷ name ∷ x ∷ more ≡ word_of b ∷ other ∷ [] → ⊥
    wrong more b other j =
        let k = (head_same (word_of a) (word_of b) (name ∷ x ∷ more) (other ∷ []) j).1 in
        let l = (head_same name other (x ∷ more) [] k).1 in
        cc

-- `store`

begins_store : BeginsRight (Asks AsksStore) []
begins_store = (codes "list" ∷ [], (request.Names, inr (inr (inr (refl, refl, refl)))))

pub store_none : (ws : List Word) → length ws ≡ 0 → LeftAt (Asks AsksStore) ws 0
store_none [] e = short (Asks AsksStore) [] begins_store (λ (r, h). h)
store_none (w ∷ ws) e = absurd (omega arith)

pub store_unknown : (ws rest : List Word) (w : Word) → ws ≡ w ∷ rest → w ≢ codes "add" → w ≢ codes "verify" → w ≢ codes "purge" → w ≢ codes "list"
    → LeftAt (Asks AsksStore) ws (length ws)
store_unknown ws rest w e na nv np nl =
    let P : List Word → Type 0 = λ v. LeftAt (Asks AsksStore) v (length v) in
    subst P (sym e) (stuck (Asks AsksStore) [] w rest begins_store (λ (more, (r, h)). wrong more r h))
  where
    wrong : (more : List Word) (r : Request)
        → ((w ≡ codes "add") × AsksAdd more r)
        ⊎ (((w ≡ codes "verify") × AsksVerify more r) ⊎ (((w ≡ codes "purge") × AsksPurge more r) ⊎ ((w ≡ codes "list") × (more ≡ []) × (r ≡ request.Names)))) → ⊥
    wrong more r (inl h) = na h.0
    wrong more r (inr (inl h)) = nv h.0
    wrong more r (inr (inr (inl h))) = np h.0
    wrong more r (inr (inr (inr h))) = nl h.0

pub store_add_only : (u : List Word) (r : Request) → AsksStore (codes "add" ∷ u) r → AsksAdd u r
store_add_only u r (inl h) = h.1
store_add_only u r (inr (inl h)) = let e = h.0 in absurd cc
store_add_only u r (inr (inr (inl h))) = let e = h.0 in absurd cc
store_add_only u r (inr (inr (inr h))) = let e = h.0 in absurd cc

pub store_verify_only : (u : List Word) (r : Request) → AsksStore (codes "verify" ∷ u) r → AsksVerify u r
store_verify_only u r (inl h) = let e = h.0 in absurd cc
store_verify_only u r (inr (inl h)) = h.1
store_verify_only u r (inr (inr (inl h))) = let e = h.0 in absurd cc
store_verify_only u r (inr (inr (inr h))) = let e = h.0 in absurd cc

pub store_purge_only : (u : List Word) (r : Request) → AsksStore (codes "purge" ∷ u) r → AsksPurge u r
store_purge_only u r (inl h) = let e = h.0 in absurd cc
store_purge_only u r (inr (inl h)) = let e = h.0 in absurd cc
store_purge_only u r (inr (inr (inl h))) = h.1
store_purge_only u r (inr (inr (inr h))) = let e = h.0 in absurd cc

pub store_list_only : (u : List Word) (r : Request) → AsksStore (codes "list" ∷ u) r → (u ≡ []) × (r ≡ request.Names)
store_list_only u r (inl h) = let e = h.0 in absurd cc
store_list_only u r (inr (inl h)) = let e = h.0 in absurd cc
store_list_only u r (inr (inr (inl h))) = let e = h.0 in absurd cc
store_list_only u r (inr (inr (inr h))) = (h.1, h.2)

-- `store purge`

begins_purge : BeginsRight (Asks AsksPurge) []
begins_purge = (codes "f" ∷ [], (request.Purge (codes "f" ∷ []), (codes "f", [], refl, refl)))

pub purge_none : (ws : List Word) → length ws ≡ 0 → LeftAt (Asks AsksPurge) ws 0
purge_none [] e = short (Asks AsksPurge) [] begins_purge (λ (r, (file, files, g, q)). cc)
purge_none (w ∷ ws) e = absurd (omega arith)

pub purge_right : (ws files : List Word) → (length ws ≡ 0 → ⊥) → files ≡ ws → AsksPurge ws (request.Purge files)
purge_right [] files n e = absurd (n refl)
purge_right (w ∷ ws) files n e = (w, ws, refl, ap request.Purge e)

pub store_add : (ws rest : List Word) (w : Word) (result : Result Request Refusal) → ws ≡ w ∷ rest → w ≡ codes "add" → MatchResult result (AsksAdd rest) (Refused AsksAdd rest)
    → MatchResult result (AsksStore ws) (Refused AsksStore ws)
store_add ws rest w (Ok r) e h a =
    let P : List Word → Type 0 = λ v. AsksStore v r in subst P (sym (e ∙ ap (λ v. v ∷ rest) h)) (inl (refl, a))
store_add ws rest w (Err (Left n)) e h a =
    let P : List Word → Type 0 = λ v. LeftAt (Asks AsksStore) v n in
    subst P (sym (e ∙ ap (λ v. v ∷ rest) h)) (behind (Asks AsksStore) (Asks AsksAdd) (codes "add" ∷ []) rest (λ u (r, b). (r, store_add_only u r b)) (λ u (r, b). (r, inl (refl, b))) n a)
store_add ws rest w (Err Memory) e h a = tt

pub store_verify : (ws rest : List Word) (w : Word) (result : Result Request Refusal) → ws ≡ w ∷ rest → w ≡ codes "verify" → MatchResult result (AsksVerify rest) (Refused AsksVerify rest)
    → MatchResult result (AsksStore ws) (Refused AsksStore ws)
store_verify ws rest w (Ok r) e h a =
    let P : List Word → Type 0 = λ v. AsksStore v r in subst P (sym (e ∙ ap (λ v. v ∷ rest) h)) (inr (inl (refl, a)))
store_verify ws rest w (Err (Left n)) e h a =
    let P : List Word → Type 0 = λ v. LeftAt (Asks AsksStore) v n in
    subst P (sym (e ∙ ap (λ v. v ∷ rest) h))
    (behind (Asks AsksStore) (Asks AsksVerify) (codes "verify" ∷ []) rest (λ u (r, b). (r, store_verify_only u r b)) (λ u (r, b). (r, inr (inl (refl, b)))) n a)
store_verify ws rest w (Err Memory) e h a = tt

pub store_purge : (ws rest : List Word) (w : Word) (result : Result Request Refusal) → ws ≡ w ∷ rest → w ≡ codes "purge" → MatchResult result (AsksPurge rest) (Refused AsksPurge rest)
    → MatchResult result (AsksStore ws) (Refused AsksStore ws)
store_purge ws rest w (Ok r) e h a =
    let P : List Word → Type 0 = λ v. AsksStore v r in subst P (sym (e ∙ ap (λ v. v ∷ rest) h)) (inr (inr (inl (refl, a))))
store_purge ws rest w (Err (Left n)) e h a =
    let P : List Word → Type 0 = λ v. LeftAt (Asks AsksStore) v n in
    subst P (sym (e ∙ ap (λ v. v ∷ rest) h))
    (behind (Asks AsksStore) (Asks AsksPurge) (codes "purge" ∷ []) rest (λ u (r, b). (r, store_purge_only u r b)) (λ u (r, b). (r, inr (inr (inl (refl, b))))) n a)
store_purge ws rest w (Err Memory) e h a = tt

pub store_list : (ws rest : List Word) (w : Word) (result : Result Request Refusal) → ws ≡ w ∷ rest → w ≡ codes "list" → IsEnded request.Names rest result
    → MatchResult result (AsksStore ws) (Refused AsksStore ws)
store_list ws [] w result e h i =
    let P : Result Request Refusal → Type 0 = λ v. MatchResult v (AsksStore ws) (Refused AsksStore ws) in
    let Q : List Word → Type 0 = λ v. AsksStore v request.Names in
    subst P (sym i) (subst Q (sym (e ∙ ap (λ v. v ∷ []) h)) (inr (inr (inr (refl, refl, refl)))))
store_list ws (x ∷ rest) w result e h i =
    let P : Result Request Refusal → Type 0 = λ v. MatchResult v (AsksStore ws) (Refused AsksStore ws) in
    let Q : List Word → Type 0 = λ v. LeftAt (Asks AsksStore) v (length (x ∷ rest)) in
    subst P (sym i)
    (subst Q (sym (e ∙ ap (λ v. v ∷ x ∷ rest) h))
    (stuck (Asks AsksStore) (codes "list" ∷ []) x rest ([], (request.Names, inr (inr (inr (refl, refl, refl))))) (λ (more, (r, a)). let j = (store_list_only (x ∷ more) r a).0 in cc)))
