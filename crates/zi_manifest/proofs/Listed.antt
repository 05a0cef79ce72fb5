-- A tree as its manifest tells it is a listing.
use Rattle.std.proofs.Common.{◌≡◌, ℕ, zero, suc, ◌*◌, ◌<◌, ◌/◌, ◌%◌, Bool, true, false, ◌&&◌, List, [], ◌∷◌, ◌++◌, length, Option, None, Some, refl, if◌then◌else◌, arith, bytes_eq}
use Rattle.std.specs.Option.{option_or}
use Rattle.std.specs.List.{list_all}
use Rattle.std.specs.Ordering.{is_lt, nat_cmp}
use Rattle.std.specs.Cmp.Lexicographic.{slice_cmp}
use Rattle.hex.specs.Hex.{encode_lower, encode_with, lower_digits}
use Rattle.hex.proofs.HexLemmas.{length-encode_with}
use Rattle.sha1.specs.Sha1.{sha1, digest_bytes as digest_bytes1}
use Rattle.sha2.specs.Sha256.{sha256, digest_bytes}
use Rattle.std.specs.Int.{to_be_bytes}
use Rattle.std.proofs.Common.{w32, slice_index, length-append}
use Rattle.std.proofs.lemmas.Bool.{and_parts, and_from}
use Rattle.zi_digest.specs.declared.Algorithm.{Algorithm}
use Rattle.zi_digest.specs.declared.Algorithm.TheVariants.{Sha1new, Sha256, Sha256new}
use Rattle.zi_tree.specs.Dir.{Dir, Nothing, AFile, ALink, AFolder}
use Rattle.zi_tree.specs.Order.{is_name, is_before, is_tree}
use Rattle.zi_manifest.specs.Sketch.{sketch, joined, hash_of}
use Rattle.zi_manifest.specs.Manifest.{own_name, is_bad, as_read, leaf_bad, folder_bad}
use Rattle.zi_manifest.specs.Listing.{IsHash, is_lower_digit, is_ahead, IsListing, Is64Bits, WrittenIsListed}

-- a name that isn't bad, and what is left
good_first : (b : Bool) (x : List ℕ) (o : Option (List ℕ)) → (if b then Some x else o) ≡ None → (b ≡ false) × (o ≡ None)
good_first true x o h = absurd (cc h)
good_first false x o h = (refl, h)

or_parts : (o p : Option (List ℕ)) → option_or o p ≡ None → (o ≡ None) × (p ≡ None)
or_parts None p h = (refl, h)
or_parts (Some x) p h = absurd (cc h)

ahead : (a : Algorithm) (n : List ℕ) (d : Dir) → is_before n d ≡ true → is_ahead n (sketch a d) ≡ true
ahead a n Nothing h = refl
ahead a n (AFile m b e t rest) h =
    let p = and_parts (is_lt (slice_cmp nat_cmp n m)) (is_before n rest) h in and_from (is_lt (slice_cmp nat_cmp n m)) (is_ahead n (sketch a rest)) p.0 (ahead a n rest p.1)
ahead a n (ALink m t rest) h =
    let p = and_parts (is_lt (slice_cmp nat_cmp n m)) (is_before n rest) h in and_from (is_lt (slice_cmp nat_cmp n m)) (is_ahead n (sketch a rest)) p.0 (ahead a n rest p.1)
ahead a n (AFolder m i rest) h =
    let p = and_parts (is_lt (slice_cmp nat_cmp n m)) (is_before n rest) h in and_from (is_lt (slice_cmp nat_cmp n m)) (is_ahead n (sketch a rest)) p.0 (ahead a n rest p.1)

-- the digits of a hash
abbrev AreBytes : List ℕ → Type 0
AreBytes [] = Unit {0}
AreBytes (b ∷ bs) = (b < 256) × AreBytes bs

bytes_append : (xs ys : List ℕ) → AreBytes xs → AreBytes ys → AreBytes (xs ++ ys)
bytes_append [] ys h k = k
bytes_append (x ∷ xs) ys h k = (h.0, bytes_append xs ys h.1 k)

word_bytes : (x : ℕ) → AreBytes (to_be_bytes w32 x)
word_bytes x = (omega arith, (omega arith, (omega arith, (omega arith, tt))))

bytes256 : (h : List ℕ) (n : ℕ) → AreBytes (digest_bytes h n)
unfolding digest_bytes
bytes256 h zero = tt
bytes256 h (suc n) = bytes_append (digest_bytes h n) (to_be_bytes w32 (slice_index h n)) (bytes256 h n) (word_bytes (slice_index h n))

bytes1 : (h : List ℕ) (n : ℕ) → AreBytes (digest_bytes1 h n)
unfolding digest_bytes1
bytes1 h zero = tt
bytes1 h (suc n) = bytes_append (digest_bytes1 h n) (to_be_bytes w32 (slice_index h n)) (bytes1 h n) (word_bytes (slice_index h n))

length256 : (h : List ℕ) (n : ℕ) → length (digest_bytes h n) ≡ n * 4
unfolding digest_bytes
length256 h zero = refl
length256 h (suc n) =
    let last : length (to_be_bytes w32 (slice_index h n)) ≡ 4 = refl in
    omega (arith, length256 h n, last, length-append (digest_bytes h n) (to_be_bytes w32 (slice_index h n)))

length1 : (h : List ℕ) (n : ℕ) → length (digest_bytes1 h n) ≡ n * 4
unfolding digest_bytes1
length1 h zero = refl
length1 h (suc n) =
    let last : length (to_be_bytes w32 (slice_index h n)) ≡ 4 = refl in
    omega (arith, length1 h n, last, length-append (digest_bytes1 h n) (to_be_bytes w32 (slice_index h n)))

digit_is_lower : (k : ℕ) → k < 16 → is_lower_digit (slice_index lower_digits k) ≡ true
digit_is_lower zero h = refl
digit_is_lower (suc zero) h = refl
digit_is_lower (suc (suc zero)) h = refl
digit_is_lower (suc (suc (suc zero))) h = refl
digit_is_lower (suc (suc (suc (suc zero)))) h = refl
digit_is_lower (suc (suc (suc (suc (suc zero))))) h = refl
digit_is_lower (suc (suc (suc (suc (suc (suc zero)))))) h = refl
digit_is_lower (suc (suc (suc (suc (suc (suc (suc zero))))))) h = refl
digit_is_lower (suc (suc (suc (suc (suc (suc (suc (suc zero)))))))) h = refl
digit_is_lower (suc (suc (suc (suc (suc (suc (suc (suc (suc zero))))))))) h = refl
digit_is_lower (suc (suc (suc (suc (suc (suc (suc (suc (suc (suc zero)))))))))) h = refl
digit_is_lower (suc (suc (suc (suc (suc (suc (suc (suc (suc (suc (suc zero))))))))))) h = refl
digit_is_lower (suc (suc (suc (suc (suc (suc (suc (suc (suc (suc (suc (suc zero)))))))))))) h = refl
digit_is_lower (suc (suc (suc (suc (suc (suc (suc (suc (suc (suc (suc (suc (suc zero))))))))))))) h = refl
digit_is_lower (suc (suc (suc (suc (suc (suc (suc (suc (suc (suc (suc (suc (suc (suc zero)))))))))))))) h = refl
digit_is_lower (suc (suc (suc (suc (suc (suc (suc (suc (suc (suc (suc (suc (suc (suc (suc zero))))))))))))))) h = refl
digit_is_lower (suc (suc (suc (suc (suc (suc (suc (suc (suc (suc (suc (suc (suc (suc (suc (suc k)))))))))))))))) h = absurd (omega arith)

all_lower : (bs : List ℕ) → AreBytes bs → list_all is_lower_digit (encode_lower bs) ≡ true
unfolding encode_with
all_lower [] h = refl
all_lower (b ∷ bs) h = rw (digit_is_lower (b / 16) (omega arith), digit_is_lower (b % 16) (omega arith)) (all_lower bs h.1)

encoded : (bs : List ℕ) (n : ℕ) → length bs ≡ n → length (encode_lower bs) ≡ 2 * n
encoded bs n e = omega (arith, length-encode_with lower_digits bs)

hash256 : (m : List ℕ) → (length (encode_lower (sha256 m)) ≡ 64) × (list_all is_lower_digit (encode_lower (sha256 m)) ≡ true)
unfolding sha256
hash256 m = (encoded (sha256 m) 32 (length256 _ 8), all_lower (sha256 m) (bytes256 _ 8))

hash1 : (m : List ℕ) → (length (encode_lower (sha1 m)) ≡ 40) × (list_all is_lower_digit (encode_lower (sha1 m)) ≡ true)
unfolding sha1
hash1 m = (encoded (sha1 m) 20 (length1 _ 5), all_lower (sha1 m) (bytes1 _ 5))

hash_is : (a : Algorithm) (bytes : List ℕ) → IsHash a (hash_of a bytes)
unfolding hash_of
hash_is Sha1new bytes = hash1 bytes
hash_is Sha256 bytes = hash256 bytes
hash_is Sha256new bytes = hash256 bytes

listing : (a : Algorithm) (p : List ℕ) (d : Dir) → is_tree d ≡ true → leaf_bad p d ≡ None → folder_bad p d ≡ None → Is64Bits d → IsListing a (sketch a d)
listing a p Nothing t l f w = tt
listing a p (AFile n b e m rest) t l f w =
    let q = and_parts (is_name n) (is_before n rest && is_tree rest) t in
    let r = and_parts (is_before n rest) (is_tree rest) q.1 in
    let g = good_first (is_bad n) (joined p n) (leaf_bad p rest) l in
    ((q.0, g.0), hash_is a b, w.0, w.1, ahead a n rest r.0, listing a p rest r.1 g.1 f w.2)
listing a p (ALink n b rest) t l f w =
    let q = and_parts (is_name n) (is_before n rest && is_tree rest) t in
    let r = and_parts (is_before n rest) (is_tree rest) q.1 in
    let g = good_first (is_bad n) (joined p n) (leaf_bad p rest) l in
    ((q.0, g.0), hash_is a b, w.0, ahead a n rest r.0, listing a p rest r.1 g.1 f w.1)
listing a p (AFolder n i rest) t l f w =
    let s = and_parts (is_tree i) (is_name n && (is_before n rest && is_tree rest)) t in
    let q = and_parts (is_name n) (is_before n rest && is_tree rest) s.1 in
    let r = and_parts (is_before n rest) (is_tree rest) q.1 in
    let g = good_first (is_bad n) (joined p n) (option_or (leaf_bad (joined p n) i) (option_or (folder_bad (joined p n) i) (folder_bad p rest))) f in
    let j = or_parts (leaf_bad (joined p n) i) (option_or (folder_bad (joined p n) i) (folder_bad p rest)) g.1 in
    let k = or_parts (folder_bad (joined p n) i) (folder_bad p rest) j.1 in
    ((q.0, g.0), listing a (joined p n) i s.0 j.0 k.0 w.0, ahead a n rest r.0, listing a p rest r.1 l k.1 w.1)

-- the tree as read is one
pub before_read : (n : List ℕ) (d : Dir) → is_before n d ≡ true → is_before n (as_read d) ≡ true
before_read n Nothing h = refl
before_read n (AFile m b e t rest) h =
    let p = and_parts (is_lt (slice_cmp nat_cmp n m)) (is_before n rest) h in
    elim (bytes_eq m own_name) as (λ o. is_before n (if o then as_read rest else AFile m b e t (as_read rest)) ≡ true) [
      | true ↦ before_read n rest p.1
      | false ↦ and_from (is_lt (slice_cmp nat_cmp n m)) (is_before n (as_read rest)) p.0 (before_read n rest p.1)
    ]
before_read n (ALink m t rest) h =
    let p = and_parts (is_lt (slice_cmp nat_cmp n m)) (is_before n rest) h in and_from (is_lt (slice_cmp nat_cmp n m)) (is_before n (as_read rest)) p.0 (before_read n rest p.1)
before_read n (AFolder m i rest) h =
    let p = and_parts (is_lt (slice_cmp nat_cmp n m)) (is_before n rest) h in and_from (is_lt (slice_cmp nat_cmp n m)) (is_before n (as_read rest)) p.0 (before_read n rest p.1)

entry_read : (n : List ℕ) (rest : Dir) → (is_name n && (is_before n rest && is_tree rest)) ≡ true → is_tree (as_read rest) ≡ true → (is_name n && (is_before n (as_read rest) && is_tree (as_read rest))) ≡ true
entry_read n rest t k =
    let q = and_parts (is_name n) (is_before n rest && is_tree rest) t in
    let r = and_parts (is_before n rest) (is_tree rest) q.1 in
    and_from (is_name n) (is_before n (as_read rest) && is_tree (as_read rest)) q.0 (and_from (is_before n (as_read rest)) (is_tree (as_read rest)) (before_read n rest r.0) k)

rest_of : (n : List ℕ) (rest : Dir) → (is_name n && (is_before n rest && is_tree rest)) ≡ true → is_tree rest ≡ true
rest_of n rest t = (and_parts (is_before n rest) (is_tree rest) (and_parts (is_name n) (is_before n rest && is_tree rest) t).1).1

pub tree_read : (d : Dir) → is_tree d ≡ true → is_tree (as_read d) ≡ true
tree_read Nothing t = refl
tree_read (AFile n b e m rest) t =
    elim (bytes_eq n own_name) as (λ o. is_tree (if o then as_read rest else AFile n b e m (as_read rest)) ≡ true) [
      | true ↦ tree_read rest (rest_of n rest t)
      | false ↦ entry_read n rest t (tree_read rest (rest_of n rest t))
    ]
tree_read (ALink n b rest) t = entry_read n rest t (tree_read rest (rest_of n rest t))
tree_read (AFolder n i rest) t =
    let s = and_parts (is_tree i) (is_name n && (is_before n rest && is_tree rest)) t in
    and_from (is_tree i) (is_name n && (is_before n (as_read rest) && is_tree (as_read rest))) s.0 (entry_read n rest s.1 (tree_read rest (rest_of n rest s.1)))

bits_read : (d : Dir) → Is64Bits d → Is64Bits (as_read d)
bits_read Nothing w = tt
bits_read (AFile n b e m rest) w =
    elim (bytes_eq n own_name) as (λ o. Is64Bits (if o then as_read rest else AFile n b e m (as_read rest))) [
      | true ↦ bits_read rest w.2
      | false ↦ (w.0, w.1, bits_read rest w.2)
    ]
bits_read (ALink n b rest) w = (w.0, bits_read rest w.1)
bits_read (AFolder n i rest) w = (w.0, bits_read rest w.1)

pub written_is_listed : WrittenIsListed
written_is_listed a d t good w =
    let p = or_parts (leaf_bad [] (as_read d)) (folder_bad [] (as_read d)) good in
    record {
      listing = sketch a (as_read d);
      good = listing a [] (as_read d) (tree_read d t) p.0 p.1 (bits_read d w);
      text = refl;
      lines_are = refl;
    }
