-- Entries that are taken, one after another, are those of a listing.
use Rattle.std.proofs.Common.{◌≡◌, ℕ, Bool, true, false, ◌&&◌, List, [], ◌∷◌, ◌++◌, Option, Some, None, refl, sym, ◌∙◌, ap, subst, if◌then◌else◌, bytes_eq, is_none}
use Rattle.std.specs.List.{list_all, list_any}
use Rattle.std.specs.Ordering.{is_lt, nat_cmp}
use Rattle.std.specs.Cmp.Lexicographic.{slice_cmp}
use Rattle.std.proofs.lemmas.List.{append_assoc, append-nil}
use Rattle.std.proofs.lemmas.Slice.Eq.{bytes_eq-Decides}
use Rattle.std.proofs.lemmas.Bool.{and_parts, and_from, not-true, or_parts}
use Rattle.zi_digest.specs.declared.Algorithm.{Algorithm}
use Rattle.zi_tree.proofs.Order.{lt_trans, lt_flip, lt_less}
use Rattle.zi_manifest.specs.Sketch.{Sketch, Empty, OfFile, OfLink, OfFolder, joined}
use Rattle.zi_manifest.specs.Listing.{IsEntryName, IsListing, is_ahead}
use Rattle.zi_manifest.specs.Reading.{IsEntry, all_before, is_free, is_above, rises, all_rise, fresh, back, enter, step, home, Placed, leaf_entries, folder_entries, all_entries, leaf_names, folder_names, Shape, Outer, Round, Built}
use Rattle.zi_manifest.specs.declared.entries.Entry.{Entry}
use Rattle.zi_manifest.specs.declared.entries.Entry.TheVariants.{File, Link, Folder}
use Rattle.zi_manifest.specs.declared.open.Open.{Open}
use Rattle.zi_manifest.proofs.Accepted.{lt}

-- a file or a link behind all entries
abbrev behind : Sketch → Sketch → Sketch
behind Empty e = e
behind (OfFile n h x t size rest) e = OfFile n h x t size (behind rest e)
behind (OfLink n h size rest) e = OfLink n h size (behind rest e)
behind (OfFolder n i rest) e = OfFolder n i (behind rest e)

-- a folder at its place among the names
abbrev within : List ℕ → Sketch → Sketch → Sketch
within n i Empty = OfFolder n i Empty
within n i (OfFile m h x t size rest) = if lt m n then OfFile m h x t size (within n i rest) else OfFolder n i (OfFile m h x t size rest)
within n i (OfLink m h size rest) = if lt m n then OfLink m h size (within n i rest) else OfFolder n i (OfLink m h size rest)
within n i (OfFolder m j rest) = if lt m n then OfFolder m j (within n i rest) else OfFolder n i (OfFolder m j rest)

leaves_behind : (p : List ℕ) (s e : Sketch) → leaf_entries p (behind s e) ≡ leaf_entries p s ++ leaf_entries p e
leaves_behind p Empty e = refl
leaves_behind p (OfFile n h x t size rest) e = ap (λ l. (p, File n h x t size) ∷ l) (leaves_behind p rest e)
leaves_behind p (OfLink n h size rest) e = ap (λ l. (p, Link n h size) ∷ l) (leaves_behind p rest e)
leaves_behind p (OfFolder n i rest) e = leaves_behind p rest e

names_behind : (s e : Sketch) → leaf_names (behind s e) ≡ leaf_names s ++ leaf_names e
names_behind Empty e = refl
names_behind (OfFile n h x t size rest) e = ap (λ l. n ∷ l) (names_behind rest e)
names_behind (OfLink n h size rest) e = ap (λ l. n ∷ l) (names_behind rest e)
names_behind (OfFolder n i rest) e = names_behind rest e

folders_behind : (p : List ℕ) (s e : Sketch) → folder_names s ≡ [] → folder_entries p (behind s e) ≡ folder_entries p e
folders_behind p Empty e f = refl
folders_behind p (OfFile n h x t size rest) e f = folders_behind p rest e f
folders_behind p (OfLink n h size rest) e f = folders_behind p rest e f
folders_behind p (OfFolder n i rest) e f = absurd (cc f)

folder_names_behind : (s e : Sketch) → folder_names s ≡ [] → folder_names (behind s e) ≡ folder_names e
folder_names_behind Empty e f = refl
folder_names_behind (OfFile n h x t size rest) e f = folder_names_behind rest e f
folder_names_behind (OfLink n h size rest) e f = folder_names_behind rest e f
folder_names_behind (OfFolder n i rest) e f = absurd (cc f)

no_entries : (p : List ℕ) (s : Sketch) → folder_names s ≡ [] → folder_entries p s ≡ []
no_entries p Empty f = refl
no_entries p (OfFile n h x t size rest) f = no_entries p rest f
no_entries p (OfLink n h size rest) f = no_entries p rest f
no_entries p (OfFolder n i rest) f = absurd (cc f)

ahead_behind : (m : List ℕ) (s e : Sketch) → is_ahead m s ≡ true → is_ahead m e ≡ true → is_ahead m (behind s e) ≡ true
ahead_behind m Empty e h k = k
ahead_behind m (OfFile n j x t size rest) e h k = let p = and_parts (lt m n) (is_ahead m rest) h in and_from (lt m n) (is_ahead m (behind rest e)) p.0 (ahead_behind m rest e p.1 k)
ahead_behind m (OfLink n j size rest) e h k = let p = and_parts (lt m n) (is_ahead m rest) h in and_from (lt m n) (is_ahead m (behind rest e)) p.0 (ahead_behind m rest e p.1 k)
ahead_behind m (OfFolder n i rest) e h k = let p = and_parts (lt m n) (is_ahead m rest) h in and_from (lt m n) (is_ahead m (behind rest e)) p.0 (ahead_behind m rest e p.1 k)

listing_behind : (a : Algorithm) (n : List ℕ) (s e : Sketch) → IsListing a s → folder_names s ≡ [] → all_before (leaf_names s) n ≡ true
    → ((m : List ℕ) → lt m n ≡ true → is_ahead m e ≡ true) → IsListing a e → IsListing a (behind s e)
listing_behind a n Empty e g f b one ge = ge
listing_behind a n (OfFile m j x t size rest) e g f b one ge =
    let p = and_parts (lt m n) (all_before (leaf_names rest) n) b in
    (g.0, g.1, g.2, g.3, ahead_behind m rest e g.4 (one m p.0), listing_behind a n rest e g.5 f p.1 one ge)
listing_behind a n (OfLink m j size rest) e g f b one ge =
    let p = and_parts (lt m n) (all_before (leaf_names rest) n) b in
    (g.0, g.1, g.2, ahead_behind m rest e g.3 (one m p.0), listing_behind a n rest e g.4 f p.1 one ge)
listing_behind a n (OfFolder m i rest) e g f b one ge = absurd (cc f)

-- a folder put at its place
leaves_within : (p n : List ℕ) (i s : Sketch) → leaf_entries p (within n i s) ≡ leaf_entries p s
leaves_within p n i Empty = refl
leaves_within p n i (OfFile m h x t size rest) =
    elim (lt m n) as (λ b. leaf_entries p (if b then OfFile m h x t size (within n i rest) else OfFolder n i (OfFile m h x t size rest)) ≡ leaf_entries p (OfFile m h x t size rest)) [
      | true ↦ ap (λ l. (p, File m h x t size) ∷ l) (leaves_within p n i rest)
      | false ↦ refl
    ]
leaves_within p n i (OfLink m h size rest) =
    elim (lt m n) as (λ b. leaf_entries p (if b then OfLink m h size (within n i rest) else OfFolder n i (OfLink m h size rest)) ≡ leaf_entries p (OfLink m h size rest)) [
      | true ↦ ap (λ l. (p, Link m h size) ∷ l) (leaves_within p n i rest)
      | false ↦ refl
    ]
leaves_within p n i (OfFolder m j rest) =
    elim (lt m n) as (λ b. leaf_entries p (if b then OfFolder m j (within n i rest) else OfFolder n i (OfFolder m j rest)) ≡ leaf_entries p (OfFolder m j rest)) [
      | true ↦ leaves_within p n i rest
      | false ↦ refl
    ]

names_within : (n : List ℕ) (i s : Sketch) → leaf_names (within n i s) ≡ leaf_names s
names_within n i Empty = refl
names_within n i (OfFile m h x t size rest) =
    elim (lt m n) as (λ b. leaf_names (if b then OfFile m h x t size (within n i rest) else OfFolder n i (OfFile m h x t size rest)) ≡ leaf_names (OfFile m h x t size rest)) [
      | true ↦ ap (λ l. m ∷ l) (names_within n i rest)
      | false ↦ refl
    ]
names_within n i (OfLink m h size rest) =
    elim (lt m n) as (λ b. leaf_names (if b then OfLink m h size (within n i rest) else OfFolder n i (OfLink m h size rest)) ≡ leaf_names (OfLink m h size rest)) [
      | true ↦ ap (λ l. m ∷ l) (names_within n i rest)
      | false ↦ refl
    ]
names_within n i (OfFolder m j rest) =
    elim (lt m n) as (λ b. leaf_names (if b then OfFolder m j (within n i rest) else OfFolder n i (OfFolder m j rest)) ≡ leaf_names (OfFolder m j rest)) [
      | true ↦ names_within n i rest
      | false ↦ refl
    ]

-- no folder stands both behind m and before n
lt_not : (n : List ℕ) → lt n n ≡ true → ⊥
lt_not n h = absurd (cc (sym h ∙ lt_less n n h))

no_folders : (m n : List ℕ) (s : Sketch) → is_ahead m s ≡ true → lt n m ≡ true → all_before (folder_names s) n ≡ true → folder_names s ≡ []
no_folders m n Empty h l b = refl
no_folders m n (OfFile k j x t size rest) h l b = no_folders m n rest (and_parts (lt m k) (is_ahead m rest) h).1 l b
no_folders m n (OfLink k j size rest) h l b = no_folders m n rest (and_parts (lt m k) (is_ahead m rest) h).1 l b
no_folders m n (OfFolder k i rest) h l b = absurd (lt_not n (lt_trans n k n (lt_trans n m k l (and_parts (lt m k) (is_ahead m rest) h).0) (and_parts (lt k n) (all_before (folder_names rest) n) b).0))

-- a name that isn't before n, and isn't n, is behind it
flipped : (m n : List ℕ) → lt m n ≡ false → bytes_eq m n ≡ false → lt n m ≡ true
flipped m n h ne = lt_flip m n h (λ e. absurd (cc (sym ((bytes_eq-Decides m n).1 e) ∙ ne)))

folders_within : (a : Algorithm) (p n : List ℕ) (i s : Sketch) → IsListing a s → all_before (folder_names s) n ≡ true → list_any (λ m. bytes_eq m n) (leaf_names s) ≡ false
    → folder_entries p (within n i s) ≡ folder_entries p s ++ folder_entries p (OfFolder n i Empty)
folders_within a p n i Empty g b f = refl
folders_within a p n i (OfFile m h x t size rest) g b f =
    let q = or_parts (bytes_eq m n) (list_any (λ m. bytes_eq m n) (leaf_names rest)) f in
    at (lt m n) refl (folders_within a p n i rest g.5 b q.1) q.0
  where
    at : (c : Bool) → lt m n ≡ c → folder_entries p (within n i rest) ≡ folder_entries p rest ++ folder_entries p (OfFolder n i Empty) → bytes_eq m n ≡ false
        → folder_entries p (if c then OfFile m h x t size (within n i rest) else OfFolder n i (OfFile m h x t size rest)) ≡ folder_entries p rest ++ folder_entries p (OfFolder n i Empty)
    at true e ih ne = ih
    at false e ih ne = rw (no_entries p rest (no_folders m n rest g.4 (flipped m n e ne) b)) refl
folders_within a p n i (OfLink m h size rest) g b f =
    let q = or_parts (bytes_eq m n) (list_any (λ m. bytes_eq m n) (leaf_names rest)) f in
    at (lt m n) refl (folders_within a p n i rest g.4 b q.1) q.0
  where
    at : (c : Bool) → lt m n ≡ c → folder_entries p (within n i rest) ≡ folder_entries p rest ++ folder_entries p (OfFolder n i Empty) → bytes_eq m n ≡ false
        → folder_entries p (if c then OfLink m h size (within n i rest) else OfFolder n i (OfLink m h size rest)) ≡ folder_entries p rest ++ folder_entries p (OfFolder n i Empty)
    at true e ih ne = ih
    at false e ih ne = rw (no_entries p rest (no_folders m n rest g.3 (flipped m n e ne) b)) refl
folders_within a p n i (OfFolder m j rest) g b f =
    let q = and_parts (lt m n) (all_before (folder_names rest) n) b in
    ap (λ c. folder_entries p (if c then OfFolder m j (within n i rest) else OfFolder n i (OfFolder m j rest))) q.0
    ∙ simp (folders_within a p n i rest g.3 q.1 f, append_assoc)

ahead_within : (k n : List ℕ) (i s : Sketch) → is_ahead k s ≡ true → lt k n ≡ true → is_ahead k (within n i s) ≡ true
ahead_within k n i Empty h l = and_from (lt k n) true l refl
ahead_within k n i (OfFile m j x t size rest) h l =
    let p = and_parts (lt k m) (is_ahead k rest) h in
    elim (lt m n) as (λ b. is_ahead k (if b then OfFile m j x t size (within n i rest) else OfFolder n i (OfFile m j x t size rest)) ≡ true) [
      | true ↦ and_from (lt k m) (is_ahead k (within n i rest)) p.0 (ahead_within k n i rest p.1 l)
      | false ↦ and_from (lt k n) (lt k m && is_ahead k rest) l h
    ]
ahead_within k n i (OfLink m j size rest) h l =
    let p = and_parts (lt k m) (is_ahead k rest) h in
    elim (lt m n) as (λ b. is_ahead k (if b then OfLink m j size (within n i rest) else OfFolder n i (OfLink m j size rest)) ≡ true) [
      | true ↦ and_from (lt k m) (is_ahead k (within n i rest)) p.0 (ahead_within k n i rest p.1 l)
      | false ↦ and_from (lt k n) (lt k m && is_ahead k rest) l h
    ]
ahead_within k n i (OfFolder m j rest) h l =
    let p = and_parts (lt k m) (is_ahead k rest) h in
    elim (lt m n) as (λ b. is_ahead k (if b then OfFolder m j (within n i rest) else OfFolder n i (OfFolder m j rest)) ≡ true) [
      | true ↦ and_from (lt k m) (is_ahead k (within n i rest)) p.0 (ahead_within k n i rest p.1 l)
      | false ↦ and_from (lt k n) (lt k m && is_ahead k rest) l h
    ]

ahead_before : (n m : List ℕ) (s : Sketch) → lt n m ≡ true → is_ahead m s ≡ true → is_ahead n s ≡ true
ahead_before n m Empty l h = refl
ahead_before n m (OfFile k j x t size rest) l h = let p = and_parts (lt m k) (is_ahead m rest) h in and_from (lt n k) (is_ahead n rest) (lt_trans n m k l p.0) (ahead_before n m rest l p.1)
ahead_before n m (OfLink k j size rest) l h = let p = and_parts (lt m k) (is_ahead m rest) h in and_from (lt n k) (is_ahead n rest) (lt_trans n m k l p.0) (ahead_before n m rest l p.1)
ahead_before n m (OfFolder k i rest) l h = let p = and_parts (lt m k) (is_ahead m rest) h in and_from (lt n k) (is_ahead n rest) (lt_trans n m k l p.0) (ahead_before n m rest l p.1)

listing_within : (a : Algorithm) (n : List ℕ) (i s : Sketch) → IsEntryName n → IsListing a i → IsListing a s → all_before (folder_names s) n ≡ true
    → list_any (λ m. bytes_eq m n) (leaf_names s) ≡ false → IsListing a (within n i s)
listing_within a n i Empty name gi g b f = (name, gi, refl, tt)
listing_within a n i (OfFile m h x t size rest) name gi g b f =
    let q = or_parts (bytes_eq m n) (list_any (λ m. bytes_eq m n) (leaf_names rest)) f in
    at (lt m n) refl (listing_within a n i rest name gi g.5 b q.1) q.0
  where
    at : (c : Bool) → lt m n ≡ c → IsListing a (within n i rest) → bytes_eq m n ≡ false → IsListing a (if c then OfFile m h x t size (within n i rest) else OfFolder n i (OfFile m h x t size rest))
    at true e ih ne = (g.0, g.1, g.2, g.3, ahead_within m n i rest g.4 e, ih)
    at false e ih ne = let l = flipped m n e ne in (name, gi, and_from (lt n m) (is_ahead n rest) l (ahead_before n m rest l g.4), g)
listing_within a n i (OfLink m h size rest) name gi g b f =
    let q = or_parts (bytes_eq m n) (list_any (λ m. bytes_eq m n) (leaf_names rest)) f in
    at (lt m n) refl (listing_within a n i rest name gi g.4 b q.1) q.0
  where
    at : (c : Bool) → lt m n ≡ c → IsListing a (within n i rest) → bytes_eq m n ≡ false → IsListing a (if c then OfLink m h size (within n i rest) else OfFolder n i (OfLink m h size rest))
    at true e ih ne = (g.0, g.1, g.2, ahead_within m n i rest g.3 e, ih)
    at false e ih ne = let l = flipped m n e ne in (name, gi, and_from (lt n m) (is_ahead n rest) l (ahead_before n m rest l g.3), g)
listing_within a n i (OfFolder m j rest) name gi g b f =
    let q = and_parts (lt m n) (all_before (folder_names rest) n) b in
    let whole : IsListing a (OfFolder m j (within n i rest)) = (g.0, g.1, ahead_within m n i rest g.2 q.0, listing_within a n i rest name gi g.3 q.1 f) in
    subst (λ c. IsListing a (if c then OfFolder m j (within n i rest) else OfFolder n i (OfFolder m j rest))) (sym q.0) whole

before_trans : (ms : List (List ℕ)) (n k : List ℕ) → all_before ms n ≡ true → lt n k ≡ true → all_before ms k ≡ true
before_trans [] n k h l = refl
before_trans (m ∷ ms) n k h l = let p = and_parts (lt m n) (all_before ms n) h in and_from (lt m k) (all_before ms k) (lt_trans m n k p.0 l) (before_trans ms n k p.1 l)

before_within : (n k : List ℕ) (i s : Sketch) → all_before (folder_names s) k ≡ true → lt n k ≡ true → all_before (folder_names (within n i s)) k ≡ true
before_within n k i Empty h l = and_from (lt n k) true l refl
before_within n k i (OfFile m j x t size rest) h l =
    elim (lt m n) as (λ b. all_before (folder_names (if b then OfFile m j x t size (within n i rest) else OfFolder n i (OfFile m j x t size rest))) k ≡ true) [
      | true ↦ before_within n k i rest h l
      | false ↦ and_from (lt n k) (all_before (folder_names rest) k) l h
    ]
before_within n k i (OfLink m j size rest) h l =
    elim (lt m n) as (λ b. all_before (folder_names (if b then OfLink m j size (within n i rest) else OfFolder n i (OfLink m j size rest))) k ≡ true) [
      | true ↦ before_within n k i rest h l
      | false ↦ and_from (lt n k) (all_before (folder_names rest) k) l h
    ]
before_within n k i (OfFolder m j rest) h l =
    let p = and_parts (lt m k) (all_before (folder_names rest) k) h in
    elim (lt m n) as (λ b. all_before (folder_names (if b then OfFolder m j (within n i rest) else OfFolder n i (OfFolder m j rest))) k ≡ true) [
      | true ↦ and_from (lt m k) (all_before (folder_names (within n i rest)) k) p.0 (before_within n k i rest p.1 l)
      | false ↦ and_from (lt n k) (lt m k && all_before (folder_names rest) k) l h
    ]

-- the innermost folder is closed
all_within : (a : Algorithm) (p n : List ℕ) (i s : Sketch) → IsListing a s → all_before (folder_names s) n ≡ true → list_any (λ m. bytes_eq m n) (leaf_names s) ≡ false
    → all_entries p (within n i s) ≡ (all_entries p s ++ ((p, Folder p n) ∷ [])) ++ all_entries (joined p n) i
all_within a p n i s g b f = simp (leaves_within p n i s, folders_within a p n i s g b f, append_assoc, append-nil)

popped : (a : Algorithm) (c d : Open) (cs : List Open) (ps : List Placed) → Built a (c ∷ d ∷ cs) ps → Built a (d ∷ cs) ps
popped a c d cs ps (s, before, shape, e, (n, t, earlier, o, path, e2, round)) =
    let free = not-true (list_any (λ m. bytes_eq m n) (leaf_names t)) o.free in
    let whole = all_within a d.path n s t o.good o.above free in
    let x : List Placed = (d.path, Folder d.path n) ∷ [] in
    let shape2 : Shape a d (within n s t) = record {
      leaves = o.leaves ∙ sym (names_within n s t);
      good = listing_within a n s t o.name shape.good o.good o.above free;
      above = λ k h. let l : lt n k ≡ true = subst (λ f. is_above f k ≡ true) o.last h in before_within n k s t (before_trans (folder_names t) n k o.above l) l;
      none = λ h. absurd (cc (sym h ∙ o.last));
    } in
    (within n s t, earlier, shape2, e ∙ ap (λ l. l ++ all_entries c.path s) e2 ∙ append_assoc earlier (all_entries d.path t ++ x) (all_entries c.path s) ∙ ap (λ l. earlier ++ l) (ap (λ p. (all_entries d.path t ++ x) ++ all_entries p s) path ∙ sym whole), round)

-- a test that gave something
pub if_some : {X : Type 0} (b : Bool) (x y : X) → (if b then Some x else None) ≡ Some y → (b ≡ true) × (x ≡ y)
if_some true x y h = (refl, cc h)
if_some false x y h = absurd (cc h)

-- the folder that is looked for, or one round it
back_at : (a : Algorithm) (p : List ℕ) (d : Open) (ds : List Open) (c : Open) (rest : List Open) (ps : List Placed) (b : Bool) → bytes_eq d.path p ≡ b → (if b then Some (d, ds) else back p ds) ≡ Some (c, rest) → Built a (d ∷ ds) ps
    → (back p ds ≡ Some (c, rest) → Built a (c ∷ rest) ps × (c.path ≡ p)) → Built a (c ∷ rest) ps × (c.path ≡ p)
back_at a p d ds c rest ps true t f b later =
    let q : (d, ds) ≡ (c, rest) = cc f in subst (λ (z : Open × List Open). Built a (z.0 ∷ z.1) ps × (z.0.path ≡ p)) q (b, (bytes_eq-Decides d.path p).0 t)
back_at a p d ds c rest ps false t f b later = later f

went_back : (a : Algorithm) (p : List ℕ) (cs : List Open) (c : Open) (rest : List Open) (ps : List Placed) → back p cs ≡ Some (c, rest) → Built a cs ps → Built a (c ∷ rest) ps × (c.path ≡ p)
went_back a p [] c rest ps e b = absurd (cc e)
went_back a p (d ∷ []) c rest ps e b = back_at a p d [] c rest ps (bytes_eq d.path p) refl e b (λ f. absurd (cc f))
went_back a p (d ∷ d2 ∷ ds) c rest ps e b = back_at a p d (d2 ∷ ds) c rest ps (bytes_eq d.path p) refl e b (λ f. went_back a p (d2 ∷ ds) c rest ps f (popped a d d2 ds ps b))

none_of : (o : Option (List ℕ)) → is_none o ≡ true → o ≡ None
none_of None h = refl
none_of (Some n) h = absurd (cc h)

-- one more file or link
round_leaf : (a : Algorithm) (c : Open) (l : List (List ℕ)) (f : Option (List ℕ)) (cs : List Open) (ps : List Placed) → Round a c cs ps → Round a (record { path = c.path; leaves = l; folder = f }) cs ps
round_leaf a c l f [] ps r = r
round_leaf a c l f (d ∷ cs) ps r = r

leaf_built : (a : Algorithm) (n : List ℕ) (s2 : Sketch) (x : Placed) (c : Open) (cs : List Open) (ps : List Placed) → c.folder ≡ None → all_before c.leaves n ≡ true → IsListing a s2
    → ((m : List ℕ) → lt m n ≡ true → is_ahead m s2 ≡ true) → leaf_entries c.path s2 ≡ x ∷ [] → leaf_names s2 ≡ n ∷ [] → folder_names s2 ≡ []
    → Built a (c ∷ cs) ps → Built a (record c { leaves = c.leaves ++ n ∷ [] } ∷ cs) (ps ++ x ∷ [])
leaf_built a n s2 x c cs ps f b g one le ln fn (s, before, shape, e, round) =
    let none : folder_names s ≡ [] = shape.none f in
    let later : folder_names (behind s s2) ≡ [] = folder_names_behind s s2 none ∙ fn in
    let shape2 : Shape a (record c { leaves = c.leaves ++ n ∷ [] }) (behind s s2) = record {
      leaves = ap (λ l. l ++ n ∷ []) shape.leaves ∙ ap (λ l. leaf_names s ++ l) (sym ln) ∙ sym (names_behind s s2);
      good = listing_behind a n s s2 shape.good none (subst (λ l. all_before l n ≡ true) shape.leaves b) one g;
      above = λ k h. subst (λ l. all_before l k ≡ true) (sym later) refl;
      none = λ h. later;
    } in
    let old : all_entries c.path s ≡ leaf_entries c.path s = ap (λ l. leaf_entries c.path s ++ l) (no_entries c.path s none) ∙ append-nil (leaf_entries c.path s) in
    let new : all_entries c.path (behind s s2) ≡ leaf_entries c.path s ++ x ∷ [] =
    ap (λ l. leaf_entries c.path (behind s s2) ++ l) (no_entries c.path (behind s s2) later) ∙ append-nil (leaf_entries c.path (behind s s2)) ∙ leaves_behind c.path s s2 ∙ ap (λ l. leaf_entries c.path s ++ l) le in
    (behind s s2, before, shape2, ap (λ l. l ++ x ∷ []) (e ∙ ap (λ l. before ++ l) old) ∙ append_assoc before (leaf_entries c.path s) (x ∷ []) ∙ ap (λ l. before ++ l) (sym new), round_leaf a c (c.leaves ++ n ∷ []) c.folder cs before round)

-- one more subfolder
folder_built : (a : Algorithm) (n : List ℕ) (c : Open) (cs : List Open) (ps : List Placed) → IsEntryName n → is_above c.folder n ≡ true → is_free c.leaves n ≡ true → Built a (c ∷ cs) ps
    → Built a (fresh (joined c.path n) ∷ record c { folder = Some n } ∷ cs) (ps ++ ((c.path, Folder c.path n) ∷ []))
folder_built a n c cs ps name ab free (s, before, shape, e, round) =
    let x : List Placed = (c.path, Folder c.path n) ∷ [] in
    let empty : Shape a (fresh (joined c.path n)) Empty = record { leaves = refl; good = tt; above = λ k h. refl; none = λ h. refl } in
    let outer : Outer a (record c { folder = Some n }) s n = record {
      leaves = shape.leaves;
      good = shape.good;
      last = refl;
      name = name;
      above = shape.above n ab;
      free = subst (λ l. is_free l n ≡ true) shape.leaves free;
    } in
    (Empty, ps ++ x, empty, sym (append-nil (ps ++ x)), (n, s, before, outer, refl, ap (λ l. l ++ x) e ∙ append_assoc before (all_entries c.path s) x, round_leaf a c c.leaves (Some n) cs before round))

pub built_step : (a : Algorithm) (e : Entry) (cs ds : List Open) (ps : List Placed) → IsEntry a e → step e cs ≡ Some ds → Built a cs ps → Built a ds (ps ++ ((home e cs, e) ∷ []))
built_step a (File n h x t size) [] ds ps g st b = absurd (cc st)
built_step a (File n h x t size) (c ∷ cs) ds ps g st b =
    let q = if_some (is_none c.folder && all_before c.leaves n) (record c { leaves = c.leaves ++ n ∷ [] } ∷ cs) ds st in
    let r = and_parts (is_none c.folder) (all_before c.leaves n) q.0 in
    subst (λ (z : List Open). Built a z (ps ++ ((c.path, File n h x t size) ∷ []))) q.1
    (leaf_built a n (OfFile n h x t size Empty) (c.path, File n h x t size) c cs ps (none_of c.folder r.0) r.1 (g.0, g.1, g.2, g.3, refl, tt) (λ m l. and_from (lt m n) true l refl) refl refl refl b)
built_step a (Link n h size) [] ds ps g st b = absurd (cc st)
built_step a (Link n h size) (c ∷ cs) ds ps g st b =
    let q = if_some (is_none c.folder && all_before c.leaves n) (record c { leaves = c.leaves ++ n ∷ [] } ∷ cs) ds st in
    let r = and_parts (is_none c.folder) (all_before c.leaves n) q.0 in
    subst (λ (z : List Open). Built a z (ps ++ ((c.path, Link n h size) ∷ []))) q.1
    (leaf_built a n (OfLink n h size Empty) (c.path, Link n h size) c cs ps (none_of c.folder r.0) r.1 (g.0, g.1, g.2, refl, tt) (λ m l. and_from (lt m n) true l refl) refl refl refl b)
built_step a (Folder p n) cs ds ps g st b = entered (back p cs) refl st
  where
    entered : (o : Option (Open × List Open)) → back p cs ≡ o → enter n o ≡ Some ds → Built a ds (ps ++ ((p, Folder p n) ∷ []))
    entered None e f = absurd (cc f)
    entered (Some (c, rest)) e f =
        let w = went_back a p cs c rest ps e b in
        let q = if_some (is_above c.folder n && is_free c.leaves n) (fresh (joined c.path n) ∷ record c { folder = Some n } ∷ rest) ds f in
        let r = and_parts (is_above c.folder n) (is_free c.leaves n) q.0 in
        subst (λ (z : List ℕ). Built a ds (ps ++ ((z, Folder z n) ∷ []))) w.1 (subst (λ (z : List Open). Built a z (ps ++ ((c.path, Folder c.path n) ∷ []))) q.1 (folder_built a n c rest ps g.0 r.0 r.1 w.0))

-- all is closed
pub closed : (a : Algorithm) (cs : List Open) (ps : List Placed) → Built a cs ps → (s : Sketch) × IsListing a s × (ps ≡ all_entries [] s)
closed a [] ps b = absurd b
closed a (c ∷ []) ps (s, before, shape, e, (path, nothing)) = (s, shape.good, e ∙ ap (λ l. l ++ all_entries c.path s) nothing ∙ ap (λ p. all_entries p s) path)
closed a (c ∷ d ∷ cs) ps b = closed a (d ∷ cs) ps (popped a c d cs ps b)

-- names rise
all_ahead : (n : List ℕ) (s : Sketch) → is_ahead n s ≡ true → list_all (λ k. is_lt (slice_cmp nat_cmp n k)) (leaf_names s) ≡ true
all_ahead n Empty h = refl
all_ahead n (OfFile m j x t size rest) h = let p = and_parts (lt n m) (is_ahead n rest) h in and_from (lt n m) (list_all (λ k. is_lt (slice_cmp nat_cmp n k)) (leaf_names rest)) p.0 (all_ahead n rest p.1)
all_ahead n (OfLink m j size rest) h = let p = and_parts (lt n m) (is_ahead n rest) h in and_from (lt n m) (list_all (λ k. is_lt (slice_cmp nat_cmp n k)) (leaf_names rest)) p.0 (all_ahead n rest p.1)
all_ahead n (OfFolder m i rest) h = all_ahead n rest (and_parts (lt n m) (is_ahead n rest) h).1

names_rise : (a : Algorithm) (s : Sketch) → IsListing a s → rises (leaf_names s) ≡ true
names_rise a Empty g = refl
names_rise a (OfFile n h x t size rest) g = and_from (list_all (λ k. is_lt (slice_cmp nat_cmp n k)) (leaf_names rest)) (rises (leaf_names rest)) (all_ahead n rest g.4) (names_rise a rest g.5)
names_rise a (OfLink n h size rest) g = and_from (list_all (λ k. is_lt (slice_cmp nat_cmp n k)) (leaf_names rest)) (rises (leaf_names rest)) (all_ahead n rest g.3) (names_rise a rest g.4)
names_rise a (OfFolder n i rest) g = names_rise a rest g.3

round_rises : (a : Algorithm) (c : Open) (cs : List Open) (ps : List Placed) → Round a c cs ps → all_rise cs ≡ true
round_rises a c [] ps r = refl
round_rises a c (d ∷ cs) ps (n, s, before, o, path, e, r) = and_from (rises d.leaves) (all_rise cs) (ap rises o.leaves ∙ names_rise a s o.good) (round_rises a d cs before r)

pub built_rises : (a : Algorithm) (cs : List Open) (ps : List Placed) → Built a cs ps → all_rise cs ≡ true
built_rises a [] ps b = absurd b
built_rises a (c ∷ cs) ps (s, before, shape, e, r) = and_from (rises c.leaves) (all_rise cs) (ap rises shape.leaves ∙ names_rise a s shape.good) (round_rises a c cs before r)

pub built_start : (a : Algorithm) → Built a (fresh [] ∷ []) []
built_start a = (Empty, [], record { leaves = refl; good = tt; above = λ k h. refl; none = λ h. refl }, refl, (refl, refl))
