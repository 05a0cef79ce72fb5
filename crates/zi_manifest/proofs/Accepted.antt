-- The entries of a listing are taken, one after another.
use Rattle.std.proofs.Common.{◌≡◌, ◌<◌, ℕ, Bool, true, false, ◌&&◌, List, [], ◌∷◌, ◌++◌, length, Option, Some, None, refl, sym, ◌∙◌, ap, subst, if◌then◌else◌, arith, bytes_eq, is_none, option_and_then, length-append}
use Rattle.std.specs.List.{list_any}
use Rattle.std.specs.Ordering.{is_lt, nat_cmp}
use Rattle.std.specs.Cmp.Lexicographic.{slice_cmp}
use Rattle.std.proofs.lemmas.List.{append_assoc, append-nil}
use Rattle.std.proofs.lemmas.Slice.Eq.{bytes_eq-Decides}
use Rattle.zi_digest.specs.declared.Algorithm.{Algorithm}
use Rattle.zi_tree.specs.Order.{is_plain, has_byte}
use Rattle.std.specs.Str.{is_utf8}
use Rattle.std.specs.Prelude.{codes, nat_eq}
use Rattle.std.proofs.lemmas.Bool.{and_parts, and_from, not_from_false, or_parts}
use Rattle.zi_tree.proofs.Order.{lt_apart}
use Rattle.zi_manifest.specs.Sketch.{Sketch, Empty, OfFile, OfLink, OfFolder, joined, text_of, leaf_text, folder_text}
use Rattle.zi_manifest.specs.Listing.{IsEntryName, IsListing, is_ahead, lines_of, leaf_lines, folder_lines}
use Rattle.zi_manifest.specs.Reading.{all_before, is_free, is_above, fresh, add, back, enter, step, run, Placed, leaf_entries, folder_entries, all_entries, entries, texts, lines, AreEntries, leaf_names, entry_text, with_path, name_of}
use Rattle.zi_manifest.specs.declared.entries.Entry.TheVariants.{File, Link, Folder}
use Rattle.zi_manifest.specs.declared.open.Open.{Open}
use Rattle.zi_tree.proofs.Found.{apart_flip}
use Rattle.zi_text.proofs.ListLaws.{if_true, if_false}

abbrev pub lt : List ℕ → List ℕ → Bool
lt m n = is_lt (slice_cmp nat_cmp m n)

-- each of the names stands before the entries
abbrev pub AllAhead : List (List ℕ) → Sketch → Type 0
AllAhead [] s = Unit {0}
AllAhead (m ∷ ms) s = (is_ahead m s ≡ true) × AllAhead ms s

ahead_file : (ms : List (List ℕ)) (n h : List ℕ) (e : Bool) (t : _) (size : ℕ) (rest : Sketch) → AllAhead ms (OfFile n h e t size rest) → (all_before ms n ≡ true) × AllAhead ms rest
ahead_file [] n h e t size rest x = (refl, tt)
ahead_file (m ∷ ms) n h e t size rest x =
    let p = and_parts (lt m n) (is_ahead m rest) x.0 in
    let q = ahead_file ms n h e t size rest x.1 in
    (and_from (lt m n) (all_before ms n) p.0 q.0, (p.1, q.1))

ahead_link : (ms : List (List ℕ)) (n h : List ℕ) (size : ℕ) (rest : Sketch) → AllAhead ms (OfLink n h size rest) → (all_before ms n ≡ true) × AllAhead ms rest
ahead_link [] n h size rest x = (refl, tt)
ahead_link (m ∷ ms) n h size rest x =
    let p = and_parts (lt m n) (is_ahead m rest) x.0 in
    let q = ahead_link ms n h size rest x.1 in
    (and_from (lt m n) (all_before ms n) p.0 q.0, (p.1, q.1))

ahead_folder : (ms : List (List ℕ)) (n : List ℕ) (i rest : Sketch) → AllAhead ms (OfFolder n i rest) → (all_before ms n ≡ true) × AllAhead ms rest
ahead_folder [] n i rest x = (refl, tt)
ahead_folder (m ∷ ms) n i rest x =
    let p = and_parts (lt m n) (is_ahead m rest) x.0 in
    let q = ahead_folder ms n i rest x.1 in
    (and_from (lt m n) (all_before ms n) p.0 q.0, (p.1, q.1))

ahead_more : (ms : List (List ℕ)) (n : List ℕ) (rest : Sketch) → AllAhead ms rest → is_ahead n rest ≡ true → AllAhead (ms ++ n ∷ []) rest
ahead_more [] n rest x h = (h, tt)
ahead_more (m ∷ ms) n rest x h = (x.0, ahead_more ms n rest x.1 h)

pub then_parts : {X : Type 0} (f g h : X → Option X) → ((d : X) → f d ≡ option_and_then g (h d)) → (o : Option X) → option_and_then f o ≡ option_and_then g (option_and_then h o)
then_parts f g h k None = refl
then_parts f g h k (Some d) = k d

run_parts : (xs ys : List Placed) (cs : List Open) → run (entries (xs ++ ys)) cs ≡ option_and_then (λ ds. run (entries ys) ds) (run (entries xs) cs)
run_parts [] ys cs = refl
run_parts (x ∷ xs) ys cs = then_parts (λ ds. run (entries (xs ++ ys)) ds) (λ ds. run (entries ys) ds) (λ ds. run (entries xs) ds) (λ d. run_parts xs ys d) (step x.1 cs)

added : (n : List ℕ) (c : Open) (cs : List Open) → c.folder ≡ None → all_before c.leaves n ≡ true → add n (c ∷ cs) ≡ Some (record c { leaves = c.leaves ++ n ∷ [] } ∷ cs)
added n c cs f b = if_true (is_none c.folder && all_before c.leaves n) (Some (record c { leaves = c.leaves ++ n ∷ [] } ∷ cs)) None (and_from (is_none c.folder) (all_before c.leaves n) (ap is_none f) b)

leaves_run : (a : Algorithm) (p : List ℕ) (s : Sketch) (c : Open) (cs : List Open) → IsListing a s → c.folder ≡ None → AllAhead c.leaves s
    → run (entries (leaf_entries p s)) (c ∷ cs) ≡ Some (record c { leaves = c.leaves ++ leaf_names s } ∷ cs)
leaves_run a p Empty c cs g f ah = ap (λ l. Some (record c { leaves = l } ∷ cs)) (sym (append-nil c.leaves))
leaves_run a p (OfFile n h e t size rest) c cs g f ah =
    let q = ahead_file c.leaves n h e t size rest ah in
    let d : Open = record c { leaves = c.leaves ++ n ∷ [] } in
    ap (option_and_then (λ ds. run (entries (leaf_entries p rest)) ds)) (added n c cs f q.0)
    ∙ leaves_run a p rest d cs g.5 f (ahead_more c.leaves n rest q.1 g.4)
    ∙ ap (λ l. Some (record c { leaves = l } ∷ cs)) (append_assoc c.leaves (n ∷ []) (leaf_names rest))
leaves_run a p (OfLink n h size rest) c cs g f ah =
    let q = ahead_link c.leaves n h size rest ah in
    let d : Open = record c { leaves = c.leaves ++ n ∷ [] } in
    ap (option_and_then (λ ds. run (entries (leaf_entries p rest)) ds)) (added n c cs f q.0)
    ∙ leaves_run a p rest d cs g.4 f (ahead_more c.leaves n rest q.1 g.3)
    ∙ ap (λ l. Some (record c { leaves = l } ∷ cs)) (append_assoc c.leaves (n ∷ []) (leaf_names rest))
leaves_run a p (OfFolder n i rest) c cs g f ah = leaves_run a p rest c cs g.3 f (rest_ahead c.leaves ah)
  where
    rest_ahead : (ms : List (List ℕ)) → AllAhead ms (OfFolder n i rest) → AllAhead ms rest
    rest_ahead [] x = tt
    rest_ahead (m ∷ ms) x = ((and_parts (lt m n) (is_ahead m rest) x.0).1, rest_ahead ms x.1)

-- no folder has the name of one of these
abbrev Apart : List (List ℕ) → Sketch → Type 0
Apart ms Empty = Unit {0}
Apart ms (OfFile n h e t size rest) = Apart ms rest
Apart ms (OfLink n h size rest) = Apart ms rest
Apart ms (OfFolder n i rest) = (is_free ms n ≡ true) × Apart ms rest

or_false : (a b : Bool) → a ≡ false → b ≡ false → (if a then true else b) ≡ false
or_false false b h k = k
or_false true b h k = absurd (cc h)

none_before : (ms ns : List (List ℕ)) (n : List ℕ) → all_before ms n ≡ true → list_any (λ m. bytes_eq m n) ns ≡ false → list_any (λ m. bytes_eq m n) (ms ++ ns) ≡ false
none_before [] ns n h k = k
none_before (m ∷ ms) ns n h k = let p = and_parts (lt m n) (all_before ms n) h in rw (lt_apart m n p.0) (none_before ms ns n p.1 k)

none_behind : (n : List ℕ) (s : Sketch) → is_ahead n s ≡ true → list_any (λ m. bytes_eq m n) (leaf_names s) ≡ false
none_behind n Empty h = refl
none_behind n (OfFile m k e t size rest) h = let p = and_parts (lt n m) (is_ahead n rest) h in rw (apart_flip m n (lt_apart n m p.0)) (none_behind n rest p.1)
none_behind n (OfLink m k size rest) h = let p = and_parts (lt n m) (is_ahead n rest) h in rw (apart_flip m n (lt_apart n m p.0)) (none_behind n rest p.1)
none_behind n (OfFolder m i rest) h = none_behind n rest (and_parts (lt n m) (is_ahead n rest) h).1

apart : (a : Algorithm) (ms : List (List ℕ)) (s : Sketch) → IsListing a s → AllAhead ms s → Apart (ms ++ leaf_names s) s
apart a ms Empty g x = tt
apart a ms (OfFile n h e t size rest) g x =
    subst (λ l. Apart l rest) (append_assoc ms (n ∷ []) (leaf_names rest)) (apart a (ms ++ n ∷ []) rest g.5 (ahead_more ms n rest (ahead_file ms n h e t size rest x).1 g.4))
apart a ms (OfLink n h size rest) g x =
    subst (λ l. Apart l rest) (append_assoc ms (n ∷ []) (leaf_names rest)) (apart a (ms ++ n ∷ []) rest g.4 (ahead_more ms n rest (ahead_link ms n h size rest x).1 g.3))
apart a ms (OfFolder n i rest) g x =
    let q = ahead_folder ms n i rest x in
    (not_from_false (list_any (λ m. bytes_eq m n) (ms ++ leaf_names rest)) (none_before ms (leaf_names rest) n q.0 (none_behind n rest g.2)), apart a ms rest g.3 q.1)

-- folders deeper than this path
abbrev Deep : List ℕ → List Open → Type 0
Deep p [] = Unit {0}
Deep p (c ∷ cs) = (length p < length c.path) × Deep p cs

deeper : (p q : List ℕ) (cs : List Open) → length p < length q → Deep q cs → Deep p cs
deeper p q [] l d = tt
deeper p q (c ∷ cs) l d = (omega (arith, d.0), deeper p q cs l d.1)

deep_more : (p : List ℕ) (cs : List Open) (c : Open) → Deep p cs → length p < length c.path → Deep p (cs ++ c ∷ [])
deep_more p [] c d l = (l, tt)
deep_more p (b ∷ cs) c d l = (d.0, deep_more p cs c d.1 l)

back_deep : (inner : List Open) (c : Open) (cs : List Open) → Deep c.path inner → back c.path (inner ++ c ∷ cs) ≡ Some (c, cs)
back_deep [] c cs d = if_true (bytes_eq c.path c.path) (Some (c, cs)) (back c.path cs) ((bytes_eq-Decides c.path c.path).1 refl)
back_deep (b ∷ inner) c cs d = if_false (bytes_eq b.path c.path) (Some (b, inner ++ c ∷ cs)) (back c.path (inner ++ c ∷ cs)) (other (bytes_eq b.path c.path) refl) ∙ back_deep inner c cs d.1
  where
    other : (t : Bool) → bytes_eq b.path c.path ≡ t → bytes_eq b.path c.path ≡ false
    other false e = e
    other true e = absurd (let same = ap length ((bytes_eq-Decides b.path c.path).0 e) in omega (arith, same, d.0))

some_name : (n : List ℕ) → IsEntryName n → 0 < length n
some_name [] g = absurd (cc (and_parts (is_utf8 []) (is_plain []) g.0).1)
some_name (c ∷ cs) g = omega arith

pub joined_longer : (p n : List ℕ) → IsEntryName n → length p < length (joined p n)
joined_longer [] n g = some_name n g
joined_longer (c ∷ cs) n g = omega (arith, length-append cs (47 ∷ n))

abbrev Above : Option (List ℕ) → Sketch → Type 0
Above None s = Unit {0}
Above (Some m) s = is_ahead m s ≡ true

-- what is open after the subfolders
record After (c : Open) (cs : List Open) (r : Option (List Open)) : Type 0 where
  inner : List Open
  last : Option (List ℕ)
  is : r ≡ Some (inner ++ record c { folder = last } ∷ cs)
  deep : Deep c.path inner

folders_run : (a : Algorithm) (s : Sketch) (inner : List Open) (c : Open) (cs : List Open) → IsListing a s → Deep c.path inner → Above c.folder s → Apart c.leaves s
    → After c cs (run (entries (folder_entries c.path s)) (inner ++ c ∷ cs))
folders_run a Empty inner c cs g d ab ap_ = record { inner = inner; last = c.folder; is = refl; deep = d }
folders_run a (OfFile n h e t size rest) inner c cs g d ab ap_ = folders_run a rest inner c cs g.5 d (above_rest c.folder ab) ap_
  where
    above_rest : (o : Option (List ℕ)) → Above o (OfFile n h e t size rest) → Above o rest
    above_rest None x = tt
    above_rest (Some m) x = (and_parts (lt m n) (is_ahead m rest) x).1
folders_run a (OfLink n h size rest) inner c cs g d ab ap_ = folders_run a rest inner c cs g.4 d (above_rest c.folder ab) ap_
  where
    above_rest : (o : Option (List ℕ)) → Above o (OfLink n h size rest) → Above o rest
    above_rest None x = tt
    above_rest (Some m) x = (and_parts (lt m n) (is_ahead m rest) x).1
folders_run a (OfFolder n i rest) inner c cs g d ab ap_ =
    let q = joined c.path n in
    let c2 : Open = record c { folder = Some n } in
    let child : Open = record { path = q; leaves = leaf_names i; folder = None } in
    let own : step (Folder c.path n) (inner ++ c ∷ cs) ≡ Some (fresh q ∷ c2 ∷ cs) =
    ap (enter n) (back_deep inner c cs d) ∙ if_true (is_above c.folder n && is_free c.leaves n) (Some (fresh q ∷ c2 ∷ cs)) None (and_from (is_above c.folder n) (is_free c.leaves n) (above_first c.folder ab) ap_.0) in
    let leaves = leaves_run a q i (fresh q) (c2 ∷ cs) g.1 refl tt in
    let below = folders_run a i [] child (c2 ∷ cs) g.1 tt tt (apart a [] i g.1 tt) in
    let last : Open = record child { folder = below.last } in
    let longer : length c.path < length q = joined_longer c.path n g.0 in
    let later = folders_run a rest (below.inner ++ last ∷ []) c2 cs g.3 (deep_more c.path below.inner last (deeper c.path q below.inner longer below.deep) longer) g.2 ap_.1 in
    record {
      inner = later.inner;
      last = later.last;
      is = ap (option_and_then (λ ds. run (entries (leaf_entries q i ++ (folder_entries q i ++ folder_entries c.path rest))) ds)) own
          ∙ run_parts (leaf_entries q i) (folder_entries q i ++ folder_entries c.path rest) (fresh q ∷ c2 ∷ cs)
          ∙ ap (option_and_then (λ ds. run (entries (folder_entries q i ++ folder_entries c.path rest)) ds)) leaves
          ∙ run_parts (folder_entries q i) (folder_entries c.path rest) (child ∷ c2 ∷ cs)
          ∙ ap (option_and_then (λ ds. run (entries (folder_entries c.path rest)) ds)) below.is
          ∙ ap (λ ds. run (entries (folder_entries c.path rest)) ds) (sym (append_assoc below.inner (last ∷ []) (c2 ∷ cs)))
          ∙ later.is;
      deep = later.deep;
    }
  where
    above_first : (o : Option (List ℕ)) → Above o (OfFolder n i rest) → is_above o n ≡ true
    above_first None x = refl
    above_first (Some m) x = (and_parts (lt m n) (is_ahead m rest) x).0

-- the whole listing
pub taken : (a : Algorithm) (s : Sketch) → IsListing a s → (ds : List Open) × (run (entries (all_entries [] s)) (fresh [] ∷ []) ≡ Some ds)
taken a s g =
    let top : Open = record { path = []; leaves = leaf_names s; folder = None } in
    let after = folders_run a s [] top [] g tt tt (apart a [] s g tt) in (
      after.inner ++ record top { folder = after.last } ∷ [],
      run_parts (leaf_entries [] s) (folder_entries [] s) (fresh [] ∷ []) ∙ ap (option_and_then (λ ds. run (entries (folder_entries [] s)) ds)) (leaves_run a [] s (fresh []) [] g refl tt) ∙ after.is,
    )

-- its text and its lines
pub texts_append : (xs ys : List Placed) → texts (xs ++ ys) ≡ texts xs ++ texts ys
texts_append [] ys = refl
texts_append (x ∷ xs) ys = ap (λ t. entry_text x.1 ++ t) (texts_append xs ys) ∙ sym (append_assoc (entry_text x.1) (texts xs) (texts ys))

pub lines_append : (xs ys : List Placed) → lines (xs ++ ys) ≡ lines xs ++ lines ys
lines_append [] ys = refl
lines_append (x ∷ xs) ys = ap (λ t. with_path (joined x.0 (name_of x.1)) x.1 ∷ t) (lines_append xs ys)

leaf_texts : (p : List ℕ) (s : Sketch) → texts (leaf_entries p s) ≡ leaf_text s
leaf_texts p Empty = refl
leaf_texts p (OfFile n h e t size rest) = ap (λ l. entry_text (File n h e t size) ++ l) (leaf_texts p rest)
leaf_texts p (OfLink n h size rest) = ap (λ l. entry_text (Link n h size) ++ l) (leaf_texts p rest)
leaf_texts p (OfFolder n i rest) = leaf_texts p rest

folder_texts : (p : List ℕ) (s : Sketch) → texts (folder_entries p s) ≡ folder_text p s
folder_texts p Empty = refl
folder_texts p (OfFile n h e t size rest) = folder_texts p rest
folder_texts p (OfLink n h size rest) = folder_texts p rest
folder_texts p (OfFolder n i rest) =
    let q = joined p n in
    let f = entry_text (Folder p n) in
    let inner : texts (leaf_entries q i ++ (folder_entries q i ++ folder_entries p rest)) ≡ leaf_text i ++ (folder_text q i ++ folder_text p rest) = simp (texts_append, leaf_texts q i, folder_texts q i, folder_texts p rest) in
    ap (λ l. f ++ l) inner ∙ sym (append_assoc f (leaf_text i) (folder_text q i ++ folder_text p rest)) ∙ sym (append_assoc (f ++ leaf_text i) (folder_text q i) (folder_text p rest))

pub all_texts : (s : Sketch) → texts (all_entries [] s) ≡ text_of s
all_texts s = texts_append (leaf_entries [] s) (folder_entries [] s) ∙ ap (λ l. l ++ texts (folder_entries [] s)) (leaf_texts [] s) ∙ ap (λ l. leaf_text s ++ l) (folder_texts [] s)

leaf_lined : (p : List ℕ) (s : Sketch) → lines (leaf_entries p s) ≡ leaf_lines p s
leaf_lined p Empty = refl
leaf_lined p (OfFile n h e t size rest) = ap (λ l. with_path (joined p n) (File n h e t size) ∷ l) (leaf_lined p rest)
leaf_lined p (OfLink n h size rest) = ap (λ l. with_path (joined p n) (Link n h size) ∷ l) (leaf_lined p rest)
leaf_lined p (OfFolder n i rest) = leaf_lined p rest

folder_lined : (p : List ℕ) (s : Sketch) → lines (folder_entries p s) ≡ folder_lines p s
folder_lined p Empty = refl
folder_lined p (OfFile n h e t size rest) = folder_lined p rest
folder_lined p (OfLink n h size rest) = folder_lined p rest
folder_lined p (OfFolder n i rest) =
    let q = joined p n in
    simp (lines_append, leaf_lined q i, folder_lined q i, folder_lined p rest, append_assoc)

pub all_lined : (s : Sketch) → lines (all_entries [] s) ≡ lines_of s
all_lined s = lines_append (leaf_entries [] s) (folder_entries [] s) ∙ ap (λ l. l ++ lines (folder_entries [] s)) (leaf_lined [] s) ∙ ap (λ l. leaf_lines [] s ++ l) (folder_lined [] s)

-- its entries are whole
pub are_append : (a : Algorithm) (xs ys : List Placed) → AreEntries a xs → AreEntries a ys → AreEntries a (xs ++ ys)
are_append a [] ys h k = k
are_append a (x ∷ xs) ys h k = (h.0, are_append a xs ys h.1 k)

leaves_are : (a : Algorithm) (p : List ℕ) (s : Sketch) → IsListing a s → AreEntries a (leaf_entries p s)
leaves_are a p Empty g = tt
leaves_are a p (OfFile n h e t size rest) g = ((g.0, g.1, g.2, g.3), leaves_are a p rest g.5)
leaves_are a p (OfLink n h size rest) g = ((g.0, g.1, g.2), leaves_are a p rest g.4)
leaves_are a p (OfFolder n i rest) g = leaves_are a p rest g.3

pub has_append : (b : ℕ) (xs ys : List ℕ) → has_byte b xs ≡ false → has_byte b ys ≡ false → has_byte b (xs ++ ys) ≡ false
has_append b [] ys h k = k
has_append b (x ∷ xs) ys h k = let p = or_parts (nat_eq x b) (has_byte b xs) h in rw p.0 (has_append b xs ys p.1 k)

pub byte_joined : (p n : List ℕ) → has_byte 10 p ≡ false → has_byte 10 n ≡ false → has_byte 10 (joined p n) ≡ false
byte_joined [] n h k = k
byte_joined (c ∷ cs) n h k = has_append 10 (c ∷ cs) (47 ∷ n) h k

pub no_newline : (n : List ℕ) → IsEntryName n → has_byte 10 n ≡ false
no_newline n g = (or_parts (has_byte 10 n) (bytes_eq n (codes ".manifest")) g.1).0

folders_are : (a : Algorithm) (p : List ℕ) (s : Sketch) → has_byte 10 p ≡ false → IsListing a s → AreEntries a (folder_entries p s)
folders_are a p Empty b g = tt
folders_are a p (OfFile n h e t size rest) b g = folders_are a p rest b g.5
folders_are a p (OfLink n h size rest) b g = folders_are a p rest b g.4
folders_are a p (OfFolder n i rest) b g = (
  (g.0, b),
  are_append a (leaf_entries (joined p n) i) (folder_entries (joined p n) i ++ folder_entries p rest) (leaves_are a (joined p n) i g.1)
      (are_append a (folder_entries (joined p n) i) (folder_entries p rest) (folders_are a (joined p n) i (byte_joined p n b (no_newline n g.0)) g.1) (folders_are a p rest b g.3)),
)

pub all_are : (a : Algorithm) (s : Sketch) → IsListing a s → AreEntries a (all_entries [] s)
all_are a s g = are_append a (leaf_entries [] s) (folder_entries [] s) (leaves_are a [] s g) (folders_are a [] s refl g)
