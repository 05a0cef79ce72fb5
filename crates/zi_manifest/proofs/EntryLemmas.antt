-- Which texts no entry's line is.
use Rattle.std.proofs.Common.{◌≡◌, ◌<◌, ◌^◌, ℕ, Bool, true, false, List, [], ◌∷◌, ◌++◌, Some, None, refl, sym, ◌∙◌, subst, arith, if◌then◌else◌}
use Rattle.std.specs.Prelude.{codes, decimal, ℤ}
use Rattle.std.specs.Fmt.{signed_decimal}
use Rattle.std.proofs.lemmas.List.{append_assoc}
use Rattle.zi_digest.specs.declared.Algorithm.{Algorithm}
use Rattle.zi_tree.specs.Order.{has_byte}
use Rattle.zi_manifest.specs.Sketch.{joined}
use Rattle.zi_manifest.specs.Listing.{IsEntryName, IsHash, IsSigned64}
use Rattle.zi_manifest.specs.Reading.{IsEntry, entry_text, Tells, step, NextLine}
use Rattle.zi_manifest.specs.declared.open.Open.{Open}
use Rattle.zi_manifest.specs.declared.entries.Entry.{Entry}
use Rattle.zi_manifest.specs.declared.entries.Entry.TheVariants.{File, Link, Folder}
use Rattle.zi_manifest.proofs.Cuts.{decimal_has, signed_has, hash_has, cut_once, cut_last_once}
use Rattle.zi_manifest.proofs.OneEntries.{no_slash, joined_once, one_entry}
use Rattle.zi_text.proofs.ListLaws.{heads}

-- a line without its LF
uncut : (v w : List ℕ) → v ++ 10 ∷ [] ≡ w ++ 10 ∷ [] → v ≡ w
uncut v w e = (cut_last_once 10 v w [] [] refl refl e).0

-- the words of a link
abbrev LinkWords : Algorithm → List ℕ → Type 0
LinkWords a rest = (h : List ℕ) × (s : ℕ) × (n : List ℕ) × IsHash a h × (s < 2 ^ 64) × IsEntryName n × (rest ≡ h ++ 32 ∷ (decimal s ++ 32 ∷ n))

link_from : (a : Algorithm) (rest : List ℕ) (e : Entry) → IsEntry a e → entry_text e ≡ (83 ∷ 32 ∷ rest) ++ 10 ∷ [] → LinkWords a rest
link_from a rest (File n h true t s) g q = absurd (let f = heads 88 83 _ _ q in omega (arith, f))
link_from a rest (File n h false t s) g q = absurd (let f = heads 70 83 _ _ q in omega (arith, f))
link_from a rest (Folder p n) g q = absurd (let f = heads 68 83 _ _ q in omega (arith, f))
link_from a rest (Link n h s) g q =
    let w : entry_text (Link n h s) ≡ (83 ∷ 32 ∷ (h ++ 32 ∷ (decimal s ++ 32 ∷ n))) ++ 10 ∷ [] = simp append_assoc in
    let u = uncut (83 ∷ 32 ∷ rest) (83 ∷ 32 ∷ (h ++ 32 ∷ (decimal s ++ 32 ∷ n))) (sym q ∙ w) in
    (h, s, n, g.1, g.2, g.0, cc u)

pub no_link_hash : (a : Algorithm) (rest : List ℕ) → ((h r : List ℕ) → IsHash a h → rest ≡ h ++ 32 ∷ r → ⊥) → Tells a (83 ∷ 32 ∷ rest) None
no_link_hash a rest k e g q = let w = link_from a rest e g q in k w.0 (decimal w.1 ++ 32 ∷ w.2) w.3 w.6

pub no_link_size : (a : Algorithm) (rest h b : List ℕ) → IsHash a h → rest ≡ h ++ 32 ∷ b → ((s : ℕ) (r : List ℕ) → s < 2 ^ 64 → b ≡ decimal s ++ 32 ∷ r → ⊥) → Tells a (83 ∷ 32 ∷ rest) None
no_link_size a rest h b gh eh k e g q =
    let w = link_from a rest e g q in
    k w.1 w.2 w.4 (cut_once 32 h w.0 b (decimal w.1 ++ 32 ∷ w.2) (hash_has 32 a h (omega arith) gh) (hash_has 32 a w.0 (omega arith) w.3) (sym eh ∙ w.6)).1

pub no_link_name : (a : Algorithm) (rest h b : List ℕ) (s : ℕ) (m : List ℕ) → IsHash a h → rest ≡ h ++ 32 ∷ b → s < 2 ^ 64 → b ≡ decimal s ++ 32 ∷ m → (IsEntryName m → ⊥) → Tells a (83 ∷ 32 ∷ rest) None
no_link_name a rest h b s m gh eh ls es k e g q =
    let w = link_from a rest e g q in
    let p = cut_once 32 h w.0 b (decimal w.1 ++ 32 ∷ w.2) (hash_has 32 a h (omega arith) gh) (hash_has 32 a w.0 (omega arith) w.3) (sym eh ∙ w.6) in
    let r = cut_once 32 (decimal s) (decimal w.1) m w.2 (decimal_has 32 s (omega arith) ls) (decimal_has 32 w.1 (omega arith) w.4) (sym es ∙ p.1) in
    k (subst IsEntryName (sym r.1) w.5)

-- the words of a file
abbrev FileWords : Algorithm → List ℕ → Type 0
FileWords a rest = (h : List ℕ) × (t : ℤ) × (s : ℕ) × (n : List ℕ) × IsHash a h × IsSigned64 t × (s < 2 ^ 64) × IsEntryName n × (rest ≡ h ++ 32 ∷ (signed_decimal t ++ 32 ∷ (decimal s ++ 32 ∷ n)))

file_from : (a : Algorithm) (x : Bool) (rest : List ℕ) (e : Entry) → IsEntry a e → entry_text e ≡ ((if x then codes "X " else codes "F ") ++ rest) ++ 10 ∷ [] → FileWords a rest
file_from a true rest (File n h false t s) g q = absurd (let f = heads 70 88 _ _ q in omega (arith, f))
file_from a true rest (Link n h s) g q = absurd (let f = heads 83 88 _ _ q in omega (arith, f))
file_from a true rest (Folder p n) g q = absurd (let f = heads 68 88 _ _ q in omega (arith, f))
file_from a false rest (File n h true t s) g q = absurd (let f = heads 88 70 _ _ q in omega (arith, f))
file_from a false rest (Link n h s) g q = absurd (let f = heads 83 70 _ _ q in omega (arith, f))
file_from a false rest (Folder p n) g q = absurd (let f = heads 68 70 _ _ q in omega (arith, f))
file_from a true rest (File n h true t s) g q =
    let w : entry_text (File n h true t s) ≡ (88 ∷ 32 ∷ (h ++ 32 ∷ (signed_decimal t ++ 32 ∷ (decimal s ++ 32 ∷ n)))) ++ 10 ∷ [] = simp append_assoc in
    let u = uncut (88 ∷ 32 ∷ rest) (88 ∷ 32 ∷ (h ++ 32 ∷ (signed_decimal t ++ 32 ∷ (decimal s ++ 32 ∷ n)))) (sym q ∙ w) in
    (h, t, s, n, g.1, g.2, g.3, g.0, cc u)
file_from a false rest (File n h false t s) g q =
    let w : entry_text (File n h false t s) ≡ (70 ∷ 32 ∷ (h ++ 32 ∷ (signed_decimal t ++ 32 ∷ (decimal s ++ 32 ∷ n)))) ++ 10 ∷ [] = simp append_assoc in
    let u = uncut (70 ∷ 32 ∷ rest) (70 ∷ 32 ∷ (h ++ 32 ∷ (signed_decimal t ++ 32 ∷ (decimal s ++ 32 ∷ n)))) (sym q ∙ w) in
    (h, t, s, n, g.1, g.2, g.3, g.0, cc u)

-- a file's mark
abbrev pub mark : Bool → List ℕ
mark x = if x then codes "X " else codes "F "

pub no_file_hash : (a : Algorithm) (x : Bool) (rest : List ℕ) → ((h r : List ℕ) → IsHash a h → rest ≡ h ++ 32 ∷ r → ⊥) → Tells a (mark x ++ rest) None
no_file_hash a x rest k e g q = let w = file_from a x rest e g q in k w.0 (signed_decimal w.1 ++ 32 ∷ (decimal w.2 ++ 32 ∷ w.3)) w.4 w.8

pub no_file_time : (a : Algorithm) (x : Bool) (rest h b : List ℕ) → IsHash a h → rest ≡ h ++ 32 ∷ b → ((t : ℤ) (r : List ℕ) → IsSigned64 t → b ≡ signed_decimal t ++ 32 ∷ r → ⊥) → Tells a (mark x ++ rest) None
no_file_time a x rest h b gh eh k e g q =
    let w = file_from a x rest e g q in
    k w.1 (decimal w.2 ++ 32 ∷ w.3) w.5 (cut_once 32 h w.0 b (signed_decimal w.1 ++ 32 ∷ (decimal w.2 ++ 32 ∷ w.3)) (hash_has 32 a h (omega arith) gh) (hash_has 32 a w.0 (omega arith) w.4) (sym eh ∙ w.8)).1

pub no_file_size : (a : Algorithm) (x : Bool) (rest h b : List ℕ) (t : ℤ) (d : List ℕ) → IsHash a h → rest ≡ h ++ 32 ∷ b → IsSigned64 t → b ≡ signed_decimal t ++ 32 ∷ d
    → ((s : ℕ) (r : List ℕ) → s < 2 ^ 64 → d ≡ decimal s ++ 32 ∷ r → ⊥) → Tells a (mark x ++ rest) None
no_file_size a x rest h b t d gh eh gt et k e g q =
    let w = file_from a x rest e g q in
    let p = cut_once 32 h w.0 b (signed_decimal w.1 ++ 32 ∷ (decimal w.2 ++ 32 ∷ w.3)) (hash_has 32 a h (omega arith) gh) (hash_has 32 a w.0 (omega arith) w.4) (sym eh ∙ w.8) in
    k w.2 w.3 w.6 (cut_once 32 (signed_decimal t) (signed_decimal w.1) d (decimal w.2 ++ 32 ∷ w.3) (signed_has 32 t (omega arith) gt) (signed_has 32 w.1 (omega arith) w.5) (sym et ∙ p.1)).1

pub no_file_name : (a : Algorithm) (x : Bool) (rest h b : List ℕ) (t : ℤ) (d : List ℕ) (s : ℕ) (m : List ℕ) → IsHash a h → rest ≡ h ++ 32 ∷ b → IsSigned64 t → b ≡ signed_decimal t ++ 32 ∷ d
    → s < 2 ^ 64 → d ≡ decimal s ++ 32 ∷ m → (IsEntryName m → ⊥) → Tells a (mark x ++ rest) None
no_file_name a x rest h b t d s m gh eh gt et ls es k e g q =
    let w = file_from a x rest e g q in
    let p = cut_once 32 h w.0 b (signed_decimal w.1 ++ 32 ∷ (decimal w.2 ++ 32 ∷ w.3)) (hash_has 32 a h (omega arith) gh) (hash_has 32 a w.0 (omega arith) w.4) (sym eh ∙ w.8) in
    let o = cut_once 32 (signed_decimal t) (signed_decimal w.1) d (decimal w.2 ++ 32 ∷ w.3) (signed_has 32 t (omega arith) gt) (signed_has 32 w.1 (omega arith) w.5) (sym et ∙ p.1) in
    let r = cut_once 32 (decimal s) (decimal w.2) m w.3 (decimal_has 32 s (omega arith) ls) (decimal_has 32 w.2 (omega arith) w.6) (sym es ∙ o.1) in
    k (subst IsEntryName (sym r.1) w.7)

-- the path of a folder
folder_from : (a : Algorithm) (path : List ℕ) (e : Entry) → IsEntry a e → entry_text e ≡ (68 ∷ 32 ∷ 47 ∷ path) ++ 10 ∷ [] → (p : List ℕ) × (n : List ℕ) × IsEntryName n × (path ≡ joined p n)
folder_from a path (File n h true t s) g q = absurd (let f = heads 88 68 _ _ q in omega (arith, f))
folder_from a path (File n h false t s) g q = absurd (let f = heads 70 68 _ _ q in omega (arith, f))
folder_from a path (Link n h s) g q = absurd (let f = heads 83 68 _ _ q in omega (arith, f))
folder_from a path (Folder p n) g q =
    let w : entry_text (Folder p n) ≡ (68 ∷ 32 ∷ 47 ∷ joined p n) ++ 10 ∷ [] = simp append_assoc in
    let u = uncut (68 ∷ 32 ∷ 47 ∷ path) (68 ∷ 32 ∷ 47 ∷ joined p n) (sym q ∙ w) in
    (p, n, g.0, cc u)

pub no_folder_parts : (a : Algorithm) (path : List ℕ) → ((p n : List ℕ) → has_byte 47 n ≡ false → path ≡ joined p n → ⊥) → Tells a (68 ∷ 32 ∷ 47 ∷ path) None
no_folder_parts a path k e g q = let w = folder_from a path e g q in k w.0 w.1 (no_slash w.1 w.2) w.3

pub no_folder_name : (a : Algorithm) (path p n : List ℕ) → path ≡ joined p n → has_byte 47 n ≡ false → (IsEntryName n → ⊥) → Tells a (68 ∷ 32 ∷ 47 ∷ path) None
no_folder_name a path p n es h k e g q =
    let w = folder_from a path e g q in
    let r = joined_once w.0 p w.1 n (no_slash w.1 w.2) h (sym w.3 ∙ es) in
    k (subst IsEntryName r.1 w.2)

-- a line with none of the four marks
pub no_mark : (a : Algorithm) (line : List ℕ) → ((r : List ℕ) → line ≡ 70 ∷ 32 ∷ r → ⊥) → ((r : List ℕ) → line ≡ 88 ∷ 32 ∷ r → ⊥) → ((r : List ℕ) → line ≡ 83 ∷ 32 ∷ r → ⊥) → ((r : List ℕ) → line ≡ 68 ∷ 32 ∷ 47 ∷ r → ⊥) → Tells a line None
no_mark a line f x l d (File n h true t s) g q =
    let r = h ++ 32 ∷ (signed_decimal t ++ 32 ∷ (decimal s ++ 32 ∷ n)) in
    let w : entry_text (File n h true t s) ≡ (88 ∷ 32 ∷ (h ++ 32 ∷ (signed_decimal t ++ 32 ∷ (decimal s ++ 32 ∷ n)))) ++ 10 ∷ [] = simp append_assoc in
    x r (uncut line (88 ∷ 32 ∷ r) (sym q ∙ w))
no_mark a line f x l d (File n h false t s) g q =
    let r = h ++ 32 ∷ (signed_decimal t ++ 32 ∷ (decimal s ++ 32 ∷ n)) in
    let w : entry_text (File n h false t s) ≡ (70 ∷ 32 ∷ (h ++ 32 ∷ (signed_decimal t ++ 32 ∷ (decimal s ++ 32 ∷ n)))) ++ 10 ∷ [] = simp append_assoc in
    f r (uncut line (70 ∷ 32 ∷ r) (sym q ∙ w))
no_mark a line f x l d (Link n h s) g q =
    let r = h ++ 32 ∷ (decimal s ++ 32 ∷ n) in
    let w : entry_text (Link n h s) ≡ (83 ∷ 32 ∷ (h ++ 32 ∷ (decimal s ++ 32 ∷ n))) ++ 10 ∷ [] = simp append_assoc in
    l r (uncut line (83 ∷ 32 ∷ r) (sym q ∙ w))
no_mark a line f x l d (Folder p n) g q =
    let w : entry_text (Folder p n) ≡ (68 ∷ 32 ∷ 47 ∷ joined p n) ++ 10 ∷ [] = simp append_assoc in
    d (joined p n) (uncut line (68 ∷ 32 ∷ 47 ∷ joined p n) (sym q ∙ w))

-- no entry of this line is taken where the one that it tells of is not
pub not_next : (a : Algorithm) (text : List ℕ) (cs ds : List Open) (f : Entry) → Tells a text (Some f) → step f cs ≡ None → NextLine a text cs None ds
not_next a text cs ds f t k e g q = subst (λ (x : Entry). step x cs ≡ None) (one_entry a f e t.0 g (t.1 ∙ sym q)) k
