-- Laws of texts cut at slashes, and of the parts that are left of a path.
use Rattle.std.proofs.Common.{◌≡◌, ◌≢◌, ℕ, suc, ◌+◌, ◌<◌, ◌==◌, ◌||◌, true, false, List, [], ◌∷◌, ◌++◌, length, get_or, take, drop, map, reverse, Some, None, if◌then◌else◌, refl, sym, ap, ◌∙◌, arith, codes, append_assoc, drop-cons, subst, Bor, Option, option_to_list, is_some, MatchOption, ◌-◌}
use Rattle.std.specs.List.{slice_split, onto_first}
use Rattle.std.proofs.lemmas.Bool.{eqb-true}
use Rattle.std.proofs.lemmas.List.{take-append-drop, take_more, length-drop, get_or-drop, reverse-append, reverse-reverse, append-nil, map-append}
use Rattle.zi_text.specs.Pieces.{pieces}
use Rattle.zi_address.specs.Texts.{pieces_of, is_none, same}
use Rattle.zi_address.specs.Address.{without_last, settled}
use Rattle.zi_address.proofs.WalkLaws.{walked, walk_settles}

abbrev whole : (List ℕ × List (List ℕ)) → List (List ℕ)
whole p = p.0 ∷ p.1

-- a text cut at slashes by the standard library is cut alike
pub cut_alike : (text : List ℕ) → slice_split (λ b. b == 47) text ≡ pieces_of 47 text
cut_alike [] = refl
cut_alike (x ∷ xs) =
    elim (x == 47) as (λ b. (if b then [] ∷ slice_split (λ b. b == 47) xs else onto_first x (slice_split (λ b. b == 47) xs))
    ≡ whole (if b then ([], pieces_of 47 xs) else (x ∷ (pieces 47 xs).0, (pieces 47 xs).1))) [
      | true ↦ ap (λ l. [] ∷ l) (cut_alike xs)
      | false ↦ ap (onto_first x) (cut_alike xs)
    ]

-- a text up to a slash and one behind it
pub cut_at : (front more : List ℕ) → pieces_of 47 (front ++ 47 ∷ more) ≡ pieces_of 47 front ++ pieces_of 47 more
cut_at [] more = refl
cut_at (x ∷ xs) more =
    let P = pieces 47 (xs ++ 47 ∷ more) in
    let Q = pieces 47 xs in
    elim (x == 47) as (λ b. whole (if b then ([], whole P) else (x ∷ P.0, P.1))
    ≡ whole (if b then ([], whole Q) else (x ∷ Q.0, Q.1)) ++ pieces_of 47 more) [
      | true ↦ ap (λ l. [] ∷ l) (cut_at xs more)
      | false ↦ ap (onto_first x) (cut_at xs more)
    ]

-- a text without a slash is one piece
pub one_piece : (text : List ℕ) → ((i : ℕ) → i < length text → get_or text i 0 ≢ 47) → pieces_of 47 text ≡ text ∷ []
one_piece [] free = refl
one_piece (x ∷ xs) free =
    elim (x == 47) as (λ b. (x == 47) ≡ b → whole (if b then ([], pieces_of 47 xs) else (x ∷ (pieces 47 xs).0, (pieces 47 xs).1))
    ≡ (x ∷ xs) ∷ []) [
      | true ↦ λ e. absurd (free 0 (omega arith) (eqb-true x 47 e))
      | false ↦ λ e. ap (onto_first x) (one_piece xs (λ i lt. free (suc i) (omega arith)))
    ] refl

without_last-push : (xs : List (List ℕ)) (x : List ℕ) → without_last (xs ++ x ∷ []) ≡ xs
without_last-push [] x = refl
without_last-push (y ∷ []) x = refl
without_last-push (y ∷ z ∷ zs) x = ap (λ l. y ∷ l) (without_last-push (z ∷ zs) x)

-- an address up to its last slash, and a text behind it
up_to_last : (front last more : List ℕ) → ((i : ℕ) → i < length last → get_or last i 0 ≢ 47)
    → pieces_of 47 (front ++ 47 ∷ [] ++ more) ≡ without_last (pieces_of 47 (front ++ 47 ∷ last)) ++ pieces_of 47 more
up_to_last front last more free =
    let whole : pieces_of 47 (front ++ 47 ∷ last) ≡ pieces_of 47 front ++ last ∷ [] = cut_at front last ∙ ap (λ l. pieces_of 47 front ++ l) (one_piece last free) in
    let folder : without_last (pieces_of 47 (front ++ 47 ∷ last)) ≡ pieces_of 47 front = ap without_last whole ∙ without_last-push (pieces_of 47 front) last in
    ap (pieces_of 47) (append_assoc front (47 ∷ []) more) ∙ cut_at front more ∙ ap (λ l. l ++ pieces_of 47 more) (sym folder)

-- the same, where k is the place of the last slash
pub folder_of : (base folder more : List ℕ) (k : ℕ) → (k < length base) × (get_or base k 0 ≡ 47) × ((i : ℕ) → k < i → i < length base → get_or base i 0 ≢ 47)
    → folder ≡ take (k + 1) base → pieces_of 47 (folder ++ more) ≡ without_last (pieces_of 47 base) ++ pieces_of 47 more
folder_of base folder more k at e =
    let split : base ≡ take k base ++ 47 ∷ drop (suc k) base = sym (take-append-drop k base) ∙ ap (λ l. take k base ++ l) (drop-cons base k 0 at.0 ∙ ap (λ x. x ∷ drop (suc k) base) at.1) in
    let front : take (k + 1) base ≡ take k base ++ 47 ∷ [] = take_more base k 0 at.0 ∙ ap (λ x. take k base ++ x ∷ []) at.1 in
    let free : (i : ℕ) → i < length (drop (suc k) base) → get_or (drop (suc k) base) i 0 ≢ 47 =
    λ i lt same. at.2 (suc k + i) (omega arith) (omega (arith, length-drop (suc k) base)) (sym (get_or-drop (suc k) base i 0) ∙ same) in
    ap (λ f. pieces_of 47 (f ++ more)) (e ∙ front) ∙ up_to_last (take k base) (drop (suc k) base) more free
    ∙ ap (λ b. without_last (pieces_of 47 b) ++ pieces_of 47 more) (sym split)

-- the parts that are left of these, the outermost first
abbrev pub IsLeft : List (List ℕ) → List (List ℕ) → Type 0
IsLeft ys parts = (rest : List (List ℕ)) → walked [] (ys ++ rest) ≡ walked (reverse parts) rest

one_more : (ys parts left : List (List ℕ)) (part : List ℕ) → IsLeft ys parts → ((rest : List (List ℕ)) → walked (reverse parts) (part ∷ rest) ≡ walked (reverse left) rest)
    → IsLeft (ys ++ part ∷ []) left
one_more ys parts left part h step = λ rest. ap (walked []) (append_assoc ys (part ∷ []) rest) ∙ h (part ∷ rest) ∙ step rest

-- a part that is kept, and one that takes away the last
pub kept : (ys parts : List (List ℕ)) (part : List ℕ) → IsLeft ys parts → (is_none part || same part (codes ".")) ≡ false → same part (codes "..") ≡ false
    → IsLeft (ys ++ part ∷ []) (parts ++ part ∷ [])
kept ys parts part h falls up =
    let e : reverse (parts ++ part ∷ []) ≡ part ∷ reverse parts = reverse-append parts (part ∷ []) in
    one_more ys parts (parts ++ part ∷ []) part h (λ rest. rw (falls, up) (ap (λ b. walked b rest) (sym e)))

pub taken_away : (ys parts : List (List ℕ)) (part last : List ℕ) → IsLeft ys (parts ++ last ∷ []) → (is_none part || same part (codes ".")) ≡ false → same part (codes "..") ≡ true
    → IsLeft (ys ++ part ∷ []) parts
taken_away ys parts part last h falls up =
    let e : reverse (parts ++ last ∷ []) ≡ last ∷ reverse parts = reverse-append parts (last ∷ []) in
    one_more ys (parts ++ last ∷ []) parts part h (λ rest. ap (λ b. walked b (part ∷ rest)) e ∙ rw (falls, up) refl)

-- all parts, where this one comes behind the first n
all_parts : (all front : List (List ℕ)) (part : List ℕ) (n : ℕ) → front ≡ take n all → (n < length all) × (part ≡ get_or all n part) → all ≡ front ++ part ∷ drop (suc n) all
all_parts all front part n e at =
    let back : drop n all ≡ part ∷ drop (suc n) all = drop-cons all n part at.0 ∙ ap (λ p. p ∷ drop (suc n) all) (sym at.1) in
    sym (take-append-drop n all) ∙ ap (λ l. l ++ drop n all) (sym e) ∙ ap (λ l. front ++ l) back

-- a `..` that has no part before it
pub above_top : (text : List ℕ) (ys : List (List ℕ)) (part : List ℕ) (n : ℕ) → ys ≡ take n (slice_split (λ b. b == 47) text)
    → (n < length (slice_split (λ b. b == 47) text)) × (part ≡ get_or (slice_split (λ b. b == 47) text) n part) → IsLeft ys []
    → (is_none part || same part (codes ".")) ≡ false → same part (codes "..") ≡ true → settled (pieces_of 47 text) ≡ None
above_top text ys part n e at h falls up =
    sym (walk_settles (pieces_of 47 text)) ∙ ap (walked []) (sym (cut_alike text) ∙ all_parts (slice_split (λ b. b == 47) text) ys part n e at) ∙ h (part ∷ drop (suc n) (slice_split (λ b. b == 47) text)) ∙ rw (falls, up) refl

-- the end of a path
pub at_end : (ys parts : List (List ℕ)) → IsLeft ys parts → settled ys ≡ Some parts
at_end ys parts h = sym (walk_settles ys) ∙ ap (walked []) (sym (append-nil ys)) ∙ h [] ∙ ap Some (reverse-reverse parts)

-- What `pop` of a list of lent parts answers: one, which was the last.
pub popped : (ys : List (List ℕ)) (parts left : List (Bor (List ℕ))) (part : List ℕ) (last : Option (Bor (List ℕ))) → IsLeft ys (map (λ x. x.now) parts)
    → parts ≡ left ++ option_to_list last → is_some last ≡ true → (is_none part || same part (codes ".")) ≡ false → same part (codes "..") ≡ true
    → IsLeft (ys ++ part ∷ []) (map (λ x. x.now) left)
popped ys parts left part None h e some falls up = absurd (cc some)
popped ys parts left part (Some last) h e some falls up =
    let all : map (λ x. x.now) parts ≡ map (λ x. x.now) left ++ last.now ∷ [] = ap (map (λ x. x.now)) e ∙ map-append (λ x. x.now) left (last ∷ []) in
    taken_away ys (map (λ x. x.now) left) part last.now (subst (IsLeft ys) all h) falls up

-- none, where no part is there
pub popped_none : (n m : ℕ) (parts left : List (Bor (List ℕ))) (last : Option (Bor (List ℕ))) → is_some last ≡ false → parts ≡ left ++ option_to_list last
    → left ≡ take (n - 1) parts → MatchOption last ((n ≡ 0) × (m ≡ 0)) (λ _. m + 1 ≡ n) → map (λ x. x.now) parts ≡ []
popped_none n m parts left (Some last) none e front zeros = absurd (cc none)
popped_none n m parts left None none e front zeros =
    ap (map (λ x. x.now)) (e ∙ append-nil left ∙ front ∙ ap (λ k. take (k - 1) parts) zeros.0)
