-- Paths that are settled as they are written.
use Rattle.std.proofs.Common.{◌≡◌, ℕ, suc, ◌+◌, ◌<◌, ◌≤◌, ◌==◌, arith, ◌&&◌, ◌||◌, Bool, true, false, not, List, [], ◌∷◌, ◌++◌, length, get_or, drop, reverse, Some, if◌then◌else◌, refl, sym, ap, subst, ◌∙◌, codes, append_assoc, drop-cons, add-one, eq-eqb, None}
use Rattle.std.specs.Prelude.{nat_eq, option_map}
use Rattle.std.specs.List.{flat_map}
use Rattle.std.proofs.lemmas.Bool.{eqb-true, false≢true}
use Rattle.std.proofs.lemmas.Bool.Decides.{nat_tests, Decides-eqb}
use Rattle.std.proofs.lemmas.Slice.Eq.{starts_is}
use lib.Pointwise.{pointwise}
use Rattle.std.proofs.lemmas.List.{drop_all, reverse-append, append-nil}
use Rattle.zi_text.specs.Pieces.{pieces}
use Rattle.zi_address.specs.Texts.{pieces_of, is_none, same}
use Rattle.zi_address.specs.Address.{settled, path_of, is_local}
use Rattle.zi_address.proofs.WalkLaws.{walked, walk_settles}

-- the scan of a path, where a slash came last or didn't
abbrev pub scan : Bool → List ℕ → Bool
scan behind [] = not behind
scan behind (x ∷ xs) = if behind && (x == 47 || x == 46) then false else scan (x == 47) xs

pub scan_step : (path : List ℕ) (i : ℕ) (behind : Bool) → i < length path
    → scan behind (drop i path) ≡ (if behind && (get_or path i 0 == 47 || get_or path i 0 == 46) then false else scan (get_or path i 0 == 47) (drop (suc i) path))
scan_step path i behind h = rw (drop-cons path i 0 h) refl

-- one byte more
pub scan_on : (path : List ℕ) (i : ℕ) (behind : Bool) → i < length path → (behind && (get_or path i 0 == 47 || get_or path i 0 == 46)) ≡ false
    → scan behind (drop i path) ≡ scan (get_or path i 0 == 47) (drop (i + 1) path)
scan_on path i behind h e = scan_step path i behind h ∙ rw (add-one, e) refl

-- the end
pub scan_end : (path : List ℕ) (i : ℕ) (behind : Bool) → length path ≤ i → scan behind (drop i path) ≡ not behind
scan_end path i behind h = rw (drop_all i path h) refl

-- parts that neither fall away nor take another away
abbrev AllStay : List (List ℕ) → Type 0
AllStay [] = Unit {0}
AllStay (p ∷ ps) = ((is_none p || same p (codes ".")) ≡ false) × (same p (codes "..") ≡ false) × AllStay ps

all_stay : (before ps : List (List ℕ)) → AllStay ps → walked before ps ≡ Some (reverse before ++ ps)
all_stay before [] h = ap Some (sym (append-nil (reverse before)))
all_stay before (p ∷ ps) h =
    let step : walked before (p ∷ ps) ≡ walked (p ∷ before) ps = rw (h.0, h.1) refl in
    let front : reverse (p ∷ before) ≡ reverse before ++ p ∷ [] = reverse-append (p ∷ []) before in
    step ∙ all_stay (p ∷ before) ps h.2 ∙ ap Some (ap (λ l. l ++ ps) front ∙ append_assoc (reverse before) (p ∷ []) ps)

-- a part that begins with neither a slash nor a dot
something : (x : ℕ) (xs : List ℕ) → is_none (x ∷ xs) ≡ false
something x xs = grind (arith, nat_tests)

part_stays : (x : ℕ) (xs : List ℕ) → (x == 46) ≡ false → ((is_none (x ∷ xs) || same (x ∷ xs) (codes ".")) ≡ false) × (same (x ∷ xs) (codes "..") ≡ false)
unfolding same
part_stays x xs e =
    let dot : same (x ∷ xs) (codes ".") ≡ false = ap (λ b. b && pointwise nat_eq xs []) e in
    let dots : same (x ∷ xs) (codes "..") ≡ false = ap (λ b. b && pointwise nat_eq xs (46 ∷ [])) e in
    (ap (λ b. b || same (x ∷ xs) (codes ".")) (something x xs) ∙ dot, dots)

-- the pieces of a text with one byte more, which is a slash or isn't
abbrev cut : Bool → ℕ → List ℕ → List ℕ × List (List ℕ)
cut true x xs = ([], pieces_of 47 xs)
cut false x xs = (x ∷ (pieces 47 xs).0, (pieces 47 xs).1)

cut_is : (x : ℕ) (xs : List ℕ) → pieces 47 (x ∷ xs) ≡ cut (x == 47) x xs
cut_is x xs = elim (x == 47) as (λ b. (if b then ([], pieces_of 47 xs) else (x ∷ (pieces 47 xs).0, (pieces 47 xs).1)) ≡ cut b x xs) [
  | true ↦ refl
  | false ↦ refl
]

-- the parts of a path that is scanned to its end: all but the first, and that one too where a slash came last
record Scanned (xs : List ℕ) : Type 0 where
  within : scan false xs ≡ true → AllStay (pieces 47 xs).1
  behind : scan true xs ≡ true → AllStay (pieces_of 47 xs)

scanned : (xs : List ℕ) → Scanned xs
scanned [] = record {
  within = λ h. tt;
  behind = λ h. absurd (false≢true h);
}
scanned (x ∷ xs) =
    let h = scanned xs in
    record {
      within = λ k. subst (λ p. AllStay p.1) (sym (cut_is x xs)) (within_more (x == 47) x xs h k);
      behind = λ k. subst (λ p. AllStay (p.0 ∷ p.1)) (sym (cut_is x xs)) (behind_more (x == 47) (x == 46) x xs h refl k);
    }
  where
    within_more : (b : Bool) (x : ℕ) (xs : List ℕ) → Scanned xs → scan b xs ≡ true → AllStay (cut b x xs).1
    within_more true x xs h k = h.behind k
    within_more false x xs h k = h.within k

    behind_more : (b d : Bool) (x : ℕ) (xs : List ℕ) → Scanned xs → (x == 46) ≡ d → (if b || d then false else scan b xs) ≡ true → AllStay ((cut b x xs).0 ∷ (cut b x xs).1)
    behind_more true d x xs h e k = absurd (false≢true k)
    behind_more false true x xs h e k = absurd (false≢true k)
    behind_more false false x xs h e k = let s = part_stays x (pieces 47 xs).0 e in (s.0, s.1, h.within k)

-- a text cut at slashes and joined again
joined : (xs : List ℕ) → flat_map (λ p. 47 ∷ p) (pieces_of 47 xs) ≡ 47 ∷ xs
joined [] = refl
joined (x ∷ xs) = ap (λ p. flat_map (λ q. 47 ∷ q) (p.0 ∷ p.1)) (cut_is x xs) ∙ by_cut (x == 47) x xs refl (joined xs)
  where
    by_cut : (b : Bool) (x : ℕ) (xs : List ℕ) → (x == 47) ≡ b → flat_map (λ p. 47 ∷ p) (pieces_of 47 xs) ≡ 47 ∷ xs → flat_map (λ q. 47 ∷ q) ((cut b x xs).0 ∷ (cut b x xs).1) ≡ 47 ∷ x ∷ xs
    by_cut true x xs e h = ap (λ l. 47 ∷ l) h ∙ ap (λ y. 47 ∷ y ∷ xs) (sym (eqb-true x 47 e))
    by_cut false x xs e h = ap (λ l. 47 ∷ x ∷ drop 1 l) h

begun : (x : ℕ) (xs : List ℕ) → (x == 47) ≡ true → scan false (x ∷ xs) ≡ true → option_map path_of (settled (pieces_of 47 (x ∷ xs))) ≡ Some (x ∷ xs)
begun x xs e k =
    let behind : scan true xs ≡ true = ap (λ b. scan b xs) (sym e) ∙ k in
    let parts : pieces 47 (x ∷ xs) ≡ ([], pieces_of 47 xs) = cut_is x xs ∙ ap (λ b. cut b x xs) e in
    ap (option_map path_of) (sym (walk_settles (pieces_of 47 (x ∷ xs))))
    ∙ ap (λ p. option_map path_of (walked [] (p.0 ∷ p.1))) parts
    ∙ ap (option_map path_of) (all_stay [] (pieces_of 47 xs) ((scanned xs).behind behind))
    ∙ ap Some (joined xs ∙ ap (λ y. y ∷ xs) (sym (eqb-true x 47 e)))

slash_first : (x : ℕ) (xs : List ℕ) → is_local (x ∷ xs) ≡ true → x ≡ 47
slash_first x xs h = ap (λ l. get_or l 0 0) ((starts_is Decides-eqb (x ∷ xs) (47 ∷ []) (is_local (x ∷ xs)) refl).0 h)

-- a path that begins with a slash and is scanned to its end
pub is_settled : (path : List ℕ) → is_local path ≡ true → scan false path ≡ true → option_map path_of (settled (pieces_of 47 path)) ≡ Some path
is_settled [] h k = absurd (false≢true h)
is_settled (x ∷ xs) h k = begun x xs (eq-eqb x 47 (slash_first x xs h)) k

-- a `.` says nothing, wherever it stands
pub dot_away : (before xs ys : List (List ℕ)) → walked before (xs ++ (46 ∷ []) ∷ ys) ≡ walked before (xs ++ ys)
unfolding same
dot_away before [] ys = refl
dot_away [] (x ∷ xs) ys =
    let more = walked (x ∷ []) (xs ++ (46 ∷ []) ∷ ys) in
    ap (λ k. if is_none x || same x (codes ".") then k else if same x (codes "..") then None else more) (dot_away [] xs ys)
    ∙ ap (λ k. if is_none x || same x (codes ".") then walked [] (xs ++ ys) else if same x (codes "..") then None else k) (dot_away (x ∷ []) xs ys)
dot_away (y ∷ before) (x ∷ xs) ys =
    let less = walked before (xs ++ (46 ∷ []) ∷ ys) in
    let more = walked (x ∷ y ∷ before) (xs ++ (46 ∷ []) ∷ ys) in
    ap (λ k. if is_none x || same x (codes ".") then k else if same x (codes "..") then less else more) (dot_away (y ∷ before) xs ys)
    ∙ ap (λ k. if is_none x || same x (codes ".") then walked (y ∷ before) (xs ++ ys) else if same x (codes "..") then k else more) (dot_away before xs ys)
    ∙ ap (λ k. if is_none x || same x (codes ".") then walked (y ∷ before) (xs ++ ys) else if same x (codes "..") then walked before (xs ++ ys) else k) (dot_away (x ∷ y ∷ before) xs ys)

-- so does a `./` at the front of a text
pub front_away : (text behind rest : List ℕ) → text ≡ 46 ∷ behind → behind ≡ 47 ∷ rest → (front : List (List ℕ)) → settled (front ++ pieces_of 47 rest) ≡ settled (front ++ pieces_of 47 text)
front_away text behind rest e f front =
    sym (ap (λ t. settled (front ++ pieces_of 47 t)) (e ∙ ap (λ b. 46 ∷ b) f) ∙ (sym (walk_settles (front ++ (46 ∷ []) ∷ pieces_of 47 rest))
    ∙ (dot_away [] front (pieces_of 47 rest) ∙ walk_settles (front ++ pieces_of 47 rest))))
