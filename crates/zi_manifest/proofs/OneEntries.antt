-- A line tells of one entry.
use Rattle.std.proofs.Common.{◌≡◌, ◌<◌, ◌^◌, ℕ, true, false, List, [], ◌∷◌, ◌++◌, refl, sym, ◌∙◌, ap, arith}
use Rattle.std.specs.Prelude.{codes, decimal, ℤ, pos, negsuc, bytes_eq, ◌&&◌, not}
use Rattle.std.specs.Fmt.{signed_decimal}
use Rattle.std.specs.Str.{is_utf8}
use Rattle.std.proofs.lemmas.List.{append_assoc}
use Rattle.std.proofs.lemmas.Fmt.{decimal_injective, signed_decimal_injective}
use Rattle.std.proofs.lemmas.Bool.{and_parts, not-true}
use lib.Signed.{mag}
use Rattle.zi_digest.specs.declared.Algorithm.{Algorithm}
use Rattle.zi_tree.specs.Order.{has_byte, is_plain}
use Rattle.zi_manifest.specs.Sketch.{joined}
use Rattle.zi_manifest.specs.Listing.{IsEntryName, IsHash, IsSigned64}
use Rattle.zi_manifest.specs.Reading.{entry_text}
use Rattle.zi_manifest.specs.declared.entries.Entry.{Entry}
use Rattle.zi_manifest.specs.declared.entries.Entry.TheVariants.{File, Link, Folder}
use Rattle.zi_manifest.proofs.Cuts.{decimal_has, signed_has, hash_has, cut_once, cut_last_once, has_middle}
use Rattle.zi_manifest.proofs.LinesRead.{OneEntry}
use Rattle.zi_manifest.proofs.Accepted.{no_newline, byte_joined}
use Rattle.zi_text.proofs.ListLaws.{heads}

mag_fits : (z : ℤ) → IsSigned64 z → mag z < 2 ^ 63
mag_fits (pos n) h = h
mag_fits (negsuc n) h = h

-- a name has no slash
pub no_slash : (n : List ℕ) → IsEntryName n → has_byte 47 n ≡ false
no_slash n g =
    let p = (and_parts (is_utf8 n) (is_plain n) g.0).1 in
    let q = (and_parts (not (bytes_eq n [])) (not (bytes_eq n (codes ".")) && (not (bytes_eq n (codes "..")) && (not (has_byte 47 n) && not (has_byte 0 n)))) p).1 in
    let r = (and_parts (not (bytes_eq n (codes "."))) (not (bytes_eq n (codes "..")) && (not (has_byte 47 n) && not (has_byte 0 n))) q).1 in
    let s = (and_parts (not (bytes_eq n (codes ".."))) (not (has_byte 47 n) && not (has_byte 0 n)) r).1 in
    not-true (has_byte 47 n) (and_parts (not (has_byte 47 n)) (not (has_byte 0 n)) s).0

-- a path has one parent and one name
pub joined_once : (p q n m : List ℕ) → has_byte 47 n ≡ false → has_byte 47 m ≡ false → joined p n ≡ joined q m → (p ≡ q) × (n ≡ m)
joined_once [] [] n m h k e = (refl, e)
joined_once [] (c ∷ cs) n m h k e = absurd (has_middle 47 (c ∷ cs) m (sym (ap (has_byte 47) e) ∙ h))
joined_once (c ∷ cs) [] n m h k e = absurd (has_middle 47 (c ∷ cs) n (ap (has_byte 47) e ∙ k))
joined_once (c ∷ cs) (d ∷ ds) n m h k e = cut_last_once 47 (c ∷ cs) (d ∷ ds) n m h k e

-- the words behind a size
sized : (a : Algorithm) (s z : ℕ) (n m : List ℕ) → s < 2 ^ 64 → z < 2 ^ 64 → IsEntryName n → IsEntryName m → decimal s ++ 32 ∷ (n ++ 10 ∷ []) ≡ decimal z ++ 32 ∷ (m ++ 10 ∷ []) → (s ≡ z) × (n ≡ m)
sized a s z n m ls lz gn gm e =
    let p = cut_once 32 (decimal s) (decimal z) (n ++ 10 ∷ []) (m ++ 10 ∷ []) (decimal_has 32 s (omega arith) ls) (decimal_has 32 z (omega arith) lz) e in
    (decimal_injective s z ls lz p.0, (cut_once 10 n m [] [] (no_newline n gn) (no_newline m gm) p.1).0)

pub one_folder : (a : Algorithm) (p q n m : List ℕ) → IsEntryName n → IsEntryName m → entry_text (Folder p n) ≡ entry_text (Folder q m) → has_byte 10 (joined p n) ≡ false → has_byte 10 (joined q m) ≡ false → Folder p n ≡ Folder q m
one_folder a p q n m gn gm e h k =
    let f : joined p n ++ 10 ∷ [] ≡ joined q m ++ 10 ∷ [] = cc e in
    let r = joined_once p q n m (no_slash n gn) (no_slash m gm) (cut_once 10 (joined p n) (joined q m) [] [] h k f).0 in
    cc (r.0, r.1)

-- the words behind a mark
pub worded : List ℕ → ℤ → ℕ → List ℕ → List ℕ
worded h t s n = h ++ 32 ∷ (signed_decimal t ++ 32 ∷ (decimal s ++ 32 ∷ (n ++ 10 ∷ [])))

pub linked : List ℕ → ℕ → List ℕ → List ℕ
linked h s n = h ++ 32 ∷ (decimal s ++ 32 ∷ (n ++ 10 ∷ []))

file_words : (h : List ℕ) (t : ℤ) (s : ℕ) (n : List ℕ) → entry_text (File n h false t s) ≡ 70 ∷ 32 ∷ worded h t s n
unfolding worded
file_words h t s n = simp append_assoc

exec_words : (h : List ℕ) (t : ℤ) (s : ℕ) (n : List ℕ) → entry_text (File n h true t s) ≡ 88 ∷ 32 ∷ worded h t s n
unfolding worded
exec_words h t s n = simp append_assoc

link_words : (h : List ℕ) (s : ℕ) (n : List ℕ) → entry_text (Link n h s) ≡ 83 ∷ 32 ∷ linked h s n
unfolding linked
link_words h s n = simp append_assoc

pub one_worded : (a : Algorithm) (h k : List ℕ) (t u : ℤ) (s z : ℕ) (n m : List ℕ) → IsHash a h → IsHash a k → IsSigned64 t → IsSigned64 u → s < 2 ^ 64 → z < 2 ^ 64 → IsEntryName n → IsEntryName m
    → worded h t s n ≡ worded k u z m → (h ≡ k) × (t ≡ u) × (s ≡ z) × (n ≡ m)
unfolding worded
one_worded a h k t u s z n m gh gk gt gu ls lz gn gm e =
    let p = cut_once 32 h k (signed_decimal t ++ 32 ∷ (decimal s ++ 32 ∷ (n ++ 10 ∷ []))) (signed_decimal u ++ 32 ∷ (decimal z ++ 32 ∷ (m ++ 10 ∷ []))) (hash_has 32 a h (omega arith) gh) (hash_has 32 a k (omega arith) gk) e in
    let q = cut_once 32 (signed_decimal t) (signed_decimal u) (decimal s ++ 32 ∷ (n ++ 10 ∷ [])) (decimal z ++ 32 ∷ (m ++ 10 ∷ [])) (signed_has 32 t (omega arith) gt) (signed_has 32 u (omega arith) gu) p.1 in
    let r = sized a s z n m ls lz gn gm q.1 in
    (p.0, signed_decimal_injective t u (mag_fits t gt) (mag_fits u gu) q.0, r.0, r.1)

pub one_linked : (a : Algorithm) (h k : List ℕ) (s z : ℕ) (n m : List ℕ) → IsHash a h → IsHash a k → s < 2 ^ 64 → z < 2 ^ 64 → IsEntryName n → IsEntryName m → linked h s n ≡ linked k z m → (h ≡ k) × (s ≡ z) × (n ≡ m)
unfolding linked
one_linked a h k s z n m gh gk ls lz gn gm e =
    let p = cut_once 32 h k (decimal s ++ 32 ∷ (n ++ 10 ∷ [])) (decimal z ++ 32 ∷ (m ++ 10 ∷ [])) (hash_has 32 a h (omega arith) gh) (hash_has 32 a k (omega arith) gk) e in
    let r = sized a s z n m ls lz gn gm p.1 in
    (p.0, r.0, r.1)

mark : Entry → ℕ
mark (File n h true t s) = 88
mark (File n h false t s) = 70
mark (Link n h s) = 83
mark (Folder p n) = 68

marked : (e : Entry) → (w : List ℕ) × (entry_text e ≡ mark e ∷ w)
unfolding mark
marked (File n h true t s) = (32 ∷ worded h t s n, exec_words h t s n)
marked (File n h false t s) = (32 ∷ worded h t s n, file_words h t s n)
marked (Link n h s) = (32 ∷ linked h s n, link_words h s n)
marked (Folder p n) = (32 ∷ 47 ∷ (joined p n ++ 10 ∷ []), simp append_assoc)

same_mark : (e f : Entry) → entry_text e ≡ entry_text f → mark e ≡ mark f
same_mark e f q = let v = marked e in let w = marked f in heads (mark e) (mark f) v.0 w.0 (sym v.1 ∙ q ∙ w.1)

pub one_entry : (a : Algorithm) → OneEntry a
unfolding mark
one_entry a (File n h false t s) (File m k false u z) g i e =
    let f : worded h t s n ≡ worded k u z m = cc (sym (file_words h t s n) ∙ e ∙ file_words k u z m) in
    let r = one_worded a h k t u s z n m g.1 i.1 g.2 i.2 g.3 i.3 g.0 i.0 f in
    cc (r.0, r.1, r.2, r.3)
one_entry a (File n h true t s) (File m k true u z) g i e =
    let f : worded h t s n ≡ worded k u z m = cc (sym (exec_words h t s n) ∙ e ∙ exec_words k u z m) in
    let r = one_worded a h k t u s z n m g.1 i.1 g.2 i.2 g.3 i.3 g.0 i.0 f in
    cc (r.0, r.1, r.2, r.3)
one_entry a (Link n h s) (Link m k z) g i e =
    let f : linked h s n ≡ linked k z m = cc (sym (link_words h s n) ∙ e ∙ link_words k z m) in
    let r = one_linked a h k s z n m g.1 i.1 g.2 i.2 g.0 i.0 f in
    cc (r.0, r.1, r.2)
one_entry a (Folder p n) (Folder q m) g i e = one_folder a p q n m g.0 i.0 e (byte_joined p n g.1 (no_newline n g.0)) (byte_joined q m i.1 (no_newline m i.0))
one_entry a (File n h false t s) (File m k true u z) g i e = absurd (let f = same_mark (File n h false t s) (File m k true u z) e in omega (arith, f))
one_entry a (File n h true t s) (File m k false u z) g i e = absurd (let f = same_mark (File n h true t s) (File m k false u z) e in omega (arith, f))
one_entry a (File n h true t s) (Link m k z) g i e = absurd (let f = same_mark (File n h true t s) (Link m k z) e in omega (arith, f))
one_entry a (File n h false t s) (Link m k z) g i e = absurd (let f = same_mark (File n h false t s) (Link m k z) e in omega (arith, f))
one_entry a (File n h true t s) (Folder q m) g i e = absurd (let f = same_mark (File n h true t s) (Folder q m) e in omega (arith, f))
one_entry a (File n h false t s) (Folder q m) g i e = absurd (let f = same_mark (File n h false t s) (Folder q m) e in omega (arith, f))
one_entry a (Link n h s) (File m k true u z) g i e = absurd (let f = same_mark (Link n h s) (File m k true u z) e in omega (arith, f))
one_entry a (Link n h s) (File m k false u z) g i e = absurd (let f = same_mark (Link n h s) (File m k false u z) e in omega (arith, f))
one_entry a (Link n h s) (Folder q m) g i e = absurd (let f = same_mark (Link n h s) (Folder q m) e in omega (arith, f))
one_entry a (Folder p n) (File m k true u z) g i e = absurd (let f = same_mark (Folder p n) (File m k true u z) e in omega (arith, f))
one_entry a (Folder p n) (File m k false u z) g i e = absurd (let f = same_mark (Folder p n) (File m k false u z) e in omega (arith, f))
one_entry a (Folder p n) (Link m k z) g i e = absurd (let f = same_mark (Folder p n) (Link m k z) e in omega (arith, f))
