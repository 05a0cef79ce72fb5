-- From characters to bytes: how far bytes can go on as a document, when it is known of characters.
use Rattle.std.proofs.Common.{◌≡◌, ℕ, suc, ◌<◌, ◌≤◌, List, [], ◌∷◌, ◌++◌, length, take, drop, refl, sym, ap, ◌∙◌, subst, append_assoc, arith, append-nil}
use Rattle.std.proofs.lemmas.Str.{encode_same, cons_from_encodes, encodes-append, encode_ascii}
use Rattle.std.proofs.lemmas.List.{take-append-drop, length-take-le, length-append, take_all}
use Rattle.std.proofs.Math.Seq.{take-append_seam}
use Rattle.std.proofs.Math.Utf8.{encode, encodes}

-- The characters of bytes that begin as p does begin with p.
pub front_of : (p ys x : List ℕ) → encodes ys ≡ encodes p ++ x → (zs : List ℕ) × (ys ≡ p ++ zs) × (encodes zs ≡ x)
front_of [] ys x h = (ys, refl, h)
front_of (c ∷ p) ys x h =
    let k = cons_from_encodes ys (encodes p ++ x) c (h ∙ append_assoc (encode c) (encodes p) x) in
    let r = front_of p k.0 x k.2 in
    (r.0, k.1 ∙ ap (λ v. c ∷ v) r.1, r.2)

module _ (L : List ℕ → Type 0) where
  -- Some document of characters begins with these characters.
  abbrev pub BeginsChars : List ℕ → Type 0
  BeginsChars p = (rest : List ℕ) × L (p ++ rest)

  -- The bytes of some document begin with these bytes.
  abbrev pub BeginsBytes : List ℕ → Type 0
  BeginsBytes b = (rest : List ℕ) × (cs : List ℕ) × (encodes cs ≡ b ++ rest) × L cs

  pub bytes_begin : (p : List ℕ) → BeginsChars p → BeginsBytes (encodes p)
  bytes_begin p b = (encodes b.0, p ++ b.0, encodes-append p b.0, b.1)

  -- as far as a character that may stand there goes with c
  pub bytes_begin_shared : (p : List ℕ) (c d j : ℕ) → BeginsChars (p ++ d ∷ []) → take j (encode d) ≡ take j (encode c) → BeginsBytes (encodes p ++ take j (encode c))
  bytes_begin_shared p c d j b e =
      let whole : encodes ((p ++ d ∷ []) ++ b.0) ≡ (encodes p ++ take j (encode c)) ++ (drop j (encode d) ++ encodes b.0) =
      ap encodes (append_assoc p (d ∷ []) b.0) ∙ (encodes-append p (d ∷ b.0)
      ∙ (ap (λ v. encodes p ++ (v ++ encodes b.0)) (sym (take-append-drop j (encode d)) ∙ ap (λ v. v ++ drop j (encode d)) e)
      ∙ (ap (λ v. encodes p ++ v) (append_assoc (take j (encode c)) (drop j (encode d)) (encodes b.0)) ∙ sym (append_assoc (encodes p) (take j (encode c)) (drop j (encode d) ++ encodes b.0))))) in
      (drop j (encode d) ++ encodes b.0, (p ++ d ∷ []) ++ b.0, whole, b.1)

  -- No character that may stand behind p shares the first j + 1 bytes of c.
  abbrev pub SharesLess : List ℕ → ℕ → ℕ → Type 0
  SharesLess p c j = (d : ℕ) (x : List ℕ) → BeginsChars (p ++ d ∷ []) → take (suc j) (encode d ++ x) ≡ take (suc j) (encode c) → ⊥

  pub bytes_stuck : (p : List ℕ) (c j : ℕ) → j < length (encode c) → SharesLess p c j → BeginsBytes (encodes p ++ take (suc j) (encode c)) → ⊥
  bytes_stuck p c j lt less b =
      let f = front_of p b.1 (take (suc j) (encode c) ++ b.0) (b.2 ∙ append_assoc (encodes p) (take (suc j) (encode c)) b.0) in
      let n : length (take (suc j) (encode c)) ≡ suc j = length-take-le (suc j) (encode c) (omega arith) in
      let P : List ℕ → Type 0 = λ v. L v in
      tail f.0 (subst P f.1 b.3) f.2 n
    where
      tail : (zs : List ℕ) → L (p ++ zs) → encodes zs ≡ take (suc j) (encode c) ++ b.0 → length (take (suc j) (encode c)) ≡ suc j → ⊥
      tail [] l e n = absurd (omega (arith, ap length e, length-append (take (suc j) (encode c)) b.0, n))
      tail (d ∷ zs) l e n =
          let Q : List ℕ → Type 0 = λ v. L v in
          let seam : take (suc j) (take (suc j) (encode c) ++ b.0) ≡ take (suc j) (encode c) = ap (λ m. take m (take (suc j) (encode c) ++ b.0)) (sym n) ∙ take-append_seam (take (suc j) (encode c)) b.0 in
          less d (encodes zs) (zs, subst Q (sym (append_assoc p (d ∷ []) zs)) l) (ap (take (suc j)) e ∙ seam)

  -- an ASCII character that is refused shares nothing
  pub ascii_shares_less : (p : List ℕ) (c : ℕ) → c < 128 → (BeginsChars (p ++ c ∷ []) → ⊥) → SharesLess p c 0
  ascii_shares_less p c lt refused d x b e =
      let one : take 1 (encode d ++ x) ≡ c ∷ [] = e ∙ ap (take 1) (encode_ascii c lt) in
      let whole : encode d ++ x ≡ encode c ++ drop 1 (encode d ++ x) =
      sym (take-append-drop 1 (encode d ++ x)) ∙ (ap (λ v. v ++ drop 1 (encode d ++ x)) one ∙ ap (λ v. v ++ drop 1 (encode d ++ x)) (sym (encode_ascii c lt))) in
      let same : d ≡ c = (encode_same d c x (drop 1 (encode d ++ x)) whole).0 in
      refused (let P : ℕ → Type 0 = λ v. BeginsChars (p ++ v ∷ []) in subst P same b)

  -- where only ASCII characters may stand, another one shares nothing
  pub high_shares_less : (p : List ℕ) (c : ℕ) → 128 ≤ c → ((d : ℕ) → BeginsChars (p ++ d ∷ []) → d < 128) → SharesLess p c 0
  high_shares_less p c le small d x b e =
      let lt : d < 128 = small d b in
      let one : take 1 (encode c) ≡ encode d = sym e ∙ (ap (λ v. take 1 (v ++ x)) (encode_ascii d lt) ∙ sym (encode_ascii d lt)) in
      let whole : encode c ++ [] ≡ encode d ++ drop 1 (encode c) =
      append-nil (encode c) ∙ (sym (take-append-drop 1 (encode c)) ∙ ap (λ v. v ++ drop 1 (encode c)) one) in
      let same : c ≡ d = (encode_same c d [] (drop 1 (encode c)) whole).0 in
      absurd (omega arith)

  -- one that shares all its bytes but the last is told from another by that one: so it is with U+FFFE behind U+FFFD
  pub last_shares_less : (p : List ℕ) (c j : ℕ) → length (encode c) ≡ suc j → (BeginsChars (p ++ c ∷ []) → ⊥) → SharesLess p c j
  last_shares_less p c j n refused d x b e =
      let all : take (suc j) (encode c) ≡ encode c = take_all (suc j) (encode c) (omega arith) in
      let whole : encode d ++ x ≡ encode c ++ drop (suc j) (encode d ++ x) =
      sym (take-append-drop (suc j) (encode d ++ x)) ∙ ap (λ v. v ++ drop (suc j) (encode d ++ x)) (e ∙ all) in
      let same : d ≡ c = (encode_same d c x (drop (suc j) (encode d ++ x)) whole).0 in
      refused (let P : ℕ → Type 0 = λ v. BeginsChars (p ++ v ∷ []) in subst P same b)
