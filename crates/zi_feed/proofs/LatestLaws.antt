-- Commands along a path, as loops from the end read them.
use Rattle.std.proofs.Common.{◌≡◌, ℕ, suc, ◌+◌, ◌<◌, ◌≤◌, append_assoc, append-nil, Bool, true, false, cond, ◌||◌, List, [], ◌∷◌, ◌++◌, length, map, drop, get_or, reverse, Bor, refl, sym, ap, ◌∙◌, arith}
use Rattle.std.specs.List.{list_any, flat_map}
use Rattle.std.specs.Str.{bytes_eq}
use Rattle.std.proofs.Math.Seq.{drop-cons}
use Rattle.std.proofs.lemmas.List.{drop_all, map-append, reverse-append, length-map, length-reverse}
use Rattle.std.proofs.lemmas.Bool.Decides.{same_from_decides}
use Rattle.std.proofs.lemmas.Slice.Eq.{bytes_eq-Decides}
use Rattle.zi_address.specs.Texts.{same}
use Rattle.zi_reading.specs.Words.{latest}
use Rattle.zi_feed.specs.Impls.{are_alike}
use Rattle.zi_parts.specs.declared.types.Command.{Command}
use Rattle.zi_feed.proofs.KeptLaws.{latest_whole}

-- what is lent, from a place on
abbrev pub rest : List (Bor Command) → ℕ → List Command
rest cs i = map (λ r. r.now) (drop i cs)

-- one of these has the name
abbrev pub is_named_in : List Command → List ℕ → Bool
is_named_in cs q = list_any (λ d. same q d.name) cs

-- one place back
pub rest_back : (cs : List (Bor Command)) (i n : ℕ) (x : Bor Command) → n ≡ i + 1 → i < length cs → x ≡ get_or cs i x → rest cs i ≡ x.now ∷ rest cs n
rest_back cs i n x e h is =
    let m : suc i ≡ n = omega arith in
    ap (map (λ r. r.now)) (drop-cons cs i x h) ∙ (ap (λ y. y.now ∷ rest cs (suc i)) (sym is) ∙ ap (λ k. x.now ∷ rest cs k) m)

pub kept_more : (ks : List (Bor Command)) (x : Bor Command) → reverse (map (λ r. r.now) (ks ++ x ∷ [])) ≡ x.now ∷ reverse (map (λ r. r.now) ks)
kept_more ks x = ap reverse (map-append (λ r. r.now) ks (x ∷ [])) ∙ reverse-append (map (λ r. r.now) ks) (x.now ∷ [])

pub text_swap : (x y : List ℕ) → bytes_eq x y ≡ bytes_eq y x
text_swap x y =
    same_from_decides (bytes_eq x y) (bytes_eq y x) (bytes_eq-Decides x y) (λ e. sym ((bytes_eq-Decides y x).0 e), λ e. (bytes_eq-Decides y x).1 (sym e))

pub cond_or : (a b : Bool) → cond a true b ≡ (a || b)
cond_or true b = refl
cond_or false b = refl

-- a command more, in the set
pub named_more : (x : Command) (xs : List Command) (q key : List ℕ) (had : Bool) → key ≡ x.name → had ≡ is_named_in xs q → cond (bytes_eq key q) true had ≡ is_named_in (x ∷ xs) q
unfolding same
named_more x xs q key had e h =
    ap (λ k. cond (bytes_eq k q) true had) e ∙ (cond_or (bytes_eq x.name q) had ∙ (ap (λ v. v || had) (text_swap x.name q) ∙ ap (λ v. bytes_eq q x.name || v) h))

-- one piece more that is lent, and none more
pub piece_next : (pieces : List (Bor (List Command))) (i : ℕ) (piece : Bor (List Command)) (before now total : List Command) → i < length pieces → piece ≡ get_or pieces i piece → now ≡ before ++ piece.now
    → before ++ flat_map (λ s. s.now) (drop i pieces) ≡ total → now ++ flat_map (λ s. s.now) (drop (i + 1) pieces) ≡ total
piece_next pieces i piece before now total lt is made kept =
    let n : suc i ≡ i + 1 = omega arith in
    let later : List Command = flat_map (λ s. s.now) (drop (i + 1) pieces) in
    let e : drop i pieces ≡ piece ∷ drop (i + 1) pieces = drop-cons pieces i piece lt ∙ (ap (λ y. y ∷ drop (suc i) pieces) (sym is) ∙ ap (λ j. piece ∷ drop j pieces) n) in
    ap (λ v. v ++ later) made ∙ (append_assoc before piece.now later ∙ (ap (λ v. before ++ flat_map (λ s. s.now) v) (sym e) ∙ kept))

pub piece_end : (pieces : List (Bor (List Command))) (i : ℕ) (before total : List Command) → length pieces ≤ i → before ++ flat_map (λ s. s.now) (drop i pieces) ≡ total → before ≡ total
piece_end pieces i before total le kept = sym (append-nil before) ∙ (ap (λ v. before ++ flat_map (λ s. s.now) v) (sym (drop_all i pieces le)) ∙ kept)

-- where as many are the latest as there are, none replaces another
pub none_replaced : (kept lent : List (Bor Command)) (outer own : List Command) → reverse (map (λ r. r.now) kept) ≡ latest are_alike (map (λ r. r.now) lent)
    → map (λ r. r.now) lent ≡ outer ++ own → length kept ≡ length lent → latest are_alike (outer ++ own) ≡ outer ++ own
none_replaced kept lent outer own k all n =
    let cs : List Command = map (λ r. r.now) lent in
    let e : length (latest are_alike cs) ≡ length cs =
    ap length (sym k) ∙ (length-reverse (map (λ r. r.now) kept) ∙ (length-map kept (λ (r : Bor Command). r.now) ∙ (n ∙ sym (length-map lent (λ (r : Bor Command). r.now))))) in
    ap (latest are_alike) (sym all) ∙ (latest_whole are_alike cs e ∙ all)

latest_by : (b : Bool) (x : Command) (xs : List Command) → list_any (are_alike x) xs ≡ b
    → latest are_alike (x ∷ xs) ≡ cond b (latest are_alike xs) (x ∷ latest are_alike xs)
latest_by b x xs h = ap (λ v. cond v (latest are_alike xs) (x ∷ latest are_alike xs)) h

-- a later one has its name
pub latest_old : (x : Command) (xs kept : List Command) → is_named_in xs x.name ≡ true → kept ≡ latest are_alike xs → kept ≡ latest are_alike (x ∷ xs)
latest_old x xs kept h k = k ∙ sym (latest_by true x xs h)

-- no later one has its name
pub latest_new : (x : Command) (xs kept : List Command) → is_named_in xs x.name ≡ false → kept ≡ latest are_alike xs → x ∷ kept ≡ latest are_alike (x ∷ xs)
latest_new x xs kept h k = ap (λ v. x ∷ v) k ∙ sym (latest_by false x xs h)
