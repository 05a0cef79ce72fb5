-- Blocks are passed one after another.
use Rattle.std.proofs.Common.{◌≡◌, ℕ, zero, suc, ◌+◌, ◌-◌, ◌<◌, ◌≤◌, Bool, true, false, not, List, [], ◌∷◌, ◌++◌, length, map, take, drop, get_or, refl, sym, ap, ◌∙◌, subst, arith, append_assoc, Option, Some, None}
use Rattle.std.specs.Prelude.{MatchOption, is_some}
use Rattle.std.proofs.Math.Seq.{drop-cons, take-append_seam}
use Rattle.std.proofs.lemmas.Bool.{false≢true}
use Rattle.std.proofs.lemmas.List.{take_all, drop_all, get_or_default, append-nil, length-append}
use Rattle.zi_formula.specs.declared.formula.Lit.{Lit}
use Rattle.zi_proof.specs.declared.proof.Block.{Block}
use Rattle.zi_proof.specs.Accepted.{accepted}
use Rattle.zi_universe.specs.declared.types.Interface.{Interface}
use Rattle.zi_universe.specs.declared.types.Candidate.{Candidate}
use Rattle.zi_choice.specs.Walk.{Place as APlace}
use Rattle.zi_choice.specs.Traces.{as_place}
use Rattle.zi_choice.specs.declared.traced.Place.{Place}
use Rattle.zi_choice.specs.Vars.{Cand, candidates_of, var_number}
use Rattle.zi_build.specs.Clauses.{each, keep}
use Rattle.zi_build.proofs.WriteLaws.{item_at, each_more}
use Rattle.zi_certificate.specs.Certificates.{Asked, is_passed, is_so, is_not, asked_one, asked_from, said_at, AreBlocks}
use Rattle.zi_check.specs.declared.blocks.Certified.{Certified}
use Rattle.zi_check.specs.Taking.{interfaces_of, formula_of, lemmas_of, blocks_of, asked_at, Alike, Took}

-- one block
pub took_yes : (on : Certified) (a : Asked) (b : Block) (i : ℕ) → i < length (blocks_of on) → b ≡ get_or (blocks_of on) i b → b.place ≡ a.place → b.candidate ≡ a.candidate → accepted (formula_of on) (lemmas_of on) a.assumed b.hints ≡ true → Took on (a ∷ []) i true (i + 1)
took_yes on a b i l e p c h =
    let s : suc i ≡ i + 1 = omega arith in
    let d : drop i (blocks_of on) ≡ b ∷ drop (i + 1) (blocks_of on) = drop-cons (blocks_of on) i b l ∙ ap (λ x. x ∷ drop (suc i) (blocks_of on)) (sym e) ∙ ap (λ n. b ∷ drop n (blocks_of on)) s in
    λ zs. (
      λ h. (subst (λ bs. AreBlocks (formula_of on) (lemmas_of on) (a ∷ zs) bs) d h).3,
      λ g. subst (λ bs. AreBlocks (formula_of on) (lemmas_of on) (a ∷ zs) bs) (sym d) (p, c, h, g),
    )

pub took_no : (on : Certified) (a : Asked) (b : Block) (i j : ℕ) → i < length (blocks_of on) → b ≡ get_or (blocks_of on) i b → (b.place ≡ a.place → b.candidate ≡ a.candidate → accepted (formula_of on) (lemmas_of on) a.assumed b.hints ≡ true → ⊥) → Took on (a ∷ []) i false j
took_no on a b i j l e f =
    let s : suc i ≡ i + 1 = omega arith in
    let d : drop i (blocks_of on) ≡ b ∷ drop (i + 1) (blocks_of on) = drop-cons (blocks_of on) i b l ∙ ap (λ x. x ∷ drop (suc i) (blocks_of on)) (sym e) ∙ ap (λ n. b ∷ drop n (blocks_of on)) s in
    λ zs h. (let g = subst (λ bs. AreBlocks (formula_of on) (lemmas_of on) (a ∷ zs) bs) d h in f g.0 g.1 g.2)

pub took_none : (on : Certified) (a : Asked) (i j : ℕ) → length (blocks_of on) ≤ i → Took on (a ∷ []) i false j
took_none on a i j l = λ zs h. subst (λ bs. AreBlocks (formula_of on) (lemmas_of on) (a ∷ zs) bs) (drop_all i (blocks_of on) l) h

-- the block of one candidate
pub pass_took : (on : Certified) (n : ℕ) (before : List Lit) (p : APlace) (c : ℕ) (b : Bool) (so : Lit) (assumed : List Lit) (i : ℕ) (found : Bool) (j : ℕ) → b ≡ is_passed p.pick c → b ≡ true → so ≡ record { variable = var_number (interfaces_of on) (Cand p.interface c); positive = true } → assumed ≡ before ++ so ∷ [] → Took on (record { place = n; candidate = so.variable; assumed = assumed } ∷ []) i found j → Took on (asked_at (interfaces_of on) n before p c) i found j
pass_took on n before p c b so assumed i found j e t l a h =
    let one : Asked = record { place = n; candidate = var_number (interfaces_of on) (Cand p.interface c); assumed = before ++ is_so (interfaces_of on) p.interface c ∷ [] } in
    subst (λ xs. Took on xs i found j)
    (ap (λ (ls : List Lit). record { place = n; candidate = so.variable; assumed = ls } ∷ []) a ∙ ap (λ (m : Lit). record { place = n; candidate = m.variable; assumed = before ++ m ∷ [] } ∷ []) l ∙ ap (λ q. keep q one) (sym t ∙ e)) h

pub popped : (before items rest : List Lit) (x : Lit) (n : ℕ) → items ≡ before ++ x ∷ [] → n ≡ length items → rest ≡ take (n - 1) items → rest ≡ before
popped before items rest x n e l r =
    let more : length items ≡ length before + 1 = ap length e ∙ length-append before (x ∷ []) in
    let less : n - 1 ≡ length before = omega (arith, more, l) in
    r ∙ ap (λ m. take m items) less ∙ ap (take (length before)) e ∙ take-append_seam before (x ∷ [])

-- several
pub alike_same : (on : Certified) (xs : List Asked) (i : ℕ) → Alike on xs i xs i
alike_same on xs i = λ zs. (λ h. h, λ h. h)

pub alike_then : (on : Certified) (xs ys rest : List Asked) (i j k : ℕ) → Alike on xs i (ys ++ rest) j → Took on ys j true k → Alike on xs i rest k
alike_then on xs ys rest i j k h t =
    λ zs. (
      λ g. (t (rest ++ zs)).0 (subst (λ as'. AreBlocks (formula_of on) (lemmas_of on) as' (drop j (blocks_of on))) (append_assoc ys rest zs) ((h zs).0 g)),
      λ g. (h zs).1 (subst (λ as'. AreBlocks (formula_of on) (lemmas_of on) as' (drop j (blocks_of on))) (sym (append_assoc ys rest zs)) ((t (rest ++ zs)).1 g)),
    )

pub alike_not : (on : Certified) (xs ys rest : List Asked) (i j k : ℕ) → Alike on xs i (ys ++ rest) j → Took on ys j false k → Took on xs i false k
alike_not on xs ys rest i j k h t =
    λ zs g. t (rest ++ zs) (subst (λ as'. AreBlocks (formula_of on) (lemmas_of on) as' (drop j (blocks_of on))) (append_assoc ys rest zs) ((h zs).0 g))

-- the candidates of a place
each_next : (f : ℕ → Candidate → List Asked) (ks : List Candidate) (c : ℕ) (k : Candidate) → c < length ks → each c f (drop c ks) ≡ f c (get_or ks c k) ++ each (c + 1) f (drop (c + 1) ks)
each_next f ks c k l =
    let s : suc c ≡ c + 1 = omega arith in
    ap (each c f) (drop-cons ks c k l) ∙ ap (λ n. f c (get_or ks c k) ++ each n f (drop n ks)) s

abbrev pub RestAlike : Certified → (ℕ → Candidate → List Asked) → List Candidate → ℕ → ℕ → ℕ → Type 0
RestAlike on f ks i c j = Alike on (each 0 f ks) i (each c f (drop c ks)) j

pub each_starts : (on : Certified) (f : ℕ → Candidate → List Asked) (ks : List Candidate) (i : ℕ) → RestAlike on f ks i 0 i
each_starts on f [] i = alike_same on [] i
each_starts on f (k ∷ ks) i = alike_same on (each 0 f (k ∷ ks)) i

item : (ks : List Candidate) (c : ℕ) → c < length ks → Candidate
item [] c l = absurd (omega (arith, l))
item (k ∷ ks) c l = k

pub each_then : (on : Certified) (f : ℕ → Candidate → List Asked) (ks : List Candidate) (i c j m n : ℕ) (ys : List Asked) → ((k : Candidate) → f c k ≡ ys) → RestAlike on f ks i c j → c < n → n ≡ length ks → Took on ys j true m → RestAlike on f ks i (c + 1) m
each_then on f ks i c j m n ys same h less len t =
    let l : c < length ks = omega (arith, less, len) in
    let k = item ks c l in
    alike_then on (each 0 f ks) ys (each (c + 1) f (drop (c + 1) ks)) i j m
    (subst (λ as'. Alike on (each 0 f ks) i as' j) (each_next f ks c k l ∙ ap (λ q. q ++ each (c + 1) f (drop (c + 1) ks)) (same (get_or ks c k))) h) t

pub each_not : (on : Certified) (f : ℕ → Candidate → List Asked) (ks : List Candidate) (i c j m n : ℕ) (ys : List Asked) → ((k : Candidate) → f c k ≡ ys) → RestAlike on f ks i c j → c < n → n ≡ length ks → Took on ys j false m → Took on (each 0 f ks) i false m
each_not on f ks i c j m n ys same h less len t =
    let l : c < length ks = omega (arith, less, len) in
    let k = item ks c l in
    alike_not on (each 0 f ks) ys (each (c + 1) f (drop (c + 1) ks)) i j m
    (subst (λ as'. Alike on (each 0 f ks) i as' j) (each_next f ks c k l ∙ ap (λ q. q ++ each (c + 1) f (drop (c + 1) ks)) (same (get_or ks c k))) h) t

pub each_ends : (on : Certified) (f : ℕ → Candidate → List Asked) (ks : List Candidate) (i c j n : ℕ) → RestAlike on f ks i c j → n ≤ c → n ≡ length ks → Took on (each 0 f ks) i true j
each_ends on f ks i c j n h less len =
    subst (λ as'. Alike on (each 0 f ks) i as' j) (ap (each c f) (drop_all c ks (omega (arith, less, len)))) h

-- the places
abbrev pub here : List Place → ℕ → Place
here ps k = get_or ps k (record { interface = 0; pick = None })

pub is_here : (ps : List Place) (k : ℕ) → k < length ps → here ps k ≡ get_or ps k (here ps k)
is_here ps k l = get_or_default ps k (record { interface = 0; pick = None }) (here ps k) l

abbrev pub PlacesAlike : Certified → List Place → ℕ → List Lit → ℕ → Type 0
PlacesAlike on ps k before j =
    Alike on (asked_from (interfaces_of on) 1 [] (map as_place ps)) 0 (asked_from (interfaces_of on) (k + 1) before (map as_place (drop k ps))) j

pub places_start : (on : Certified) (ps : List Place) (before : List Lit) → before ≡ [] → PlacesAlike on ps 0 before 0
places_start on ps before e =
    subst (λ b. PlacesAlike on ps 0 b 0) (sym e) (subst (λ qs. Alike on (asked_from (interfaces_of on) 1 [] (map as_place ps)) 0 (asked_from (interfaces_of on) 1 [] (map as_place qs)) 0) (sym (none_dropped ps)) (alike_same on (asked_from (interfaces_of on) 1 [] (map as_place ps)) 0))
  where
    none_dropped : (ps : List Place) → drop 0 ps ≡ ps
    none_dropped [] = refl
    none_dropped (p ∷ ps) = refl

place_next : (u : List Interface) (ps : List Place) (k : ℕ) (before : List Lit) (p : Place) → k < length ps → p ≡ get_or ps k p → asked_from u (k + 1) before (map as_place (drop k ps)) ≡ each 0 (asked_one u (k + 1) before (as_place p)) (candidates_of u p.interface) ++ asked_from u ((k + 1) + 1) (before ++ said_at u p.interface p.pick) (map as_place (drop (k + 1) ps))
place_next u ps k before p l e =
    let s : suc k ≡ k + 1 = omega arith in
    let z : suc (k + 1) ≡ (k + 1) + 1 = omega arith in
    ap (λ qs. asked_from u (k + 1) before (map as_place qs)) (drop-cons ps k p l ∙ ap (λ x. x ∷ drop (suc k) ps) (sym e) ∙ ap (λ n. p ∷ drop n ps) s)
    ∙ ap (λ n. each 0 (asked_one u (k + 1) before (as_place p)) (candidates_of u p.interface) ++ asked_from u n (before ++ said_at u p.interface p.pick) (map as_place (drop (k + 1) ps))) z

pub places_then : (on : Certified) (ps : List Place) (k : ℕ) (before mid after : List Lit) (p : Place) (j m : ℕ) → PlacesAlike on ps k before j → k < length ps → p ≡ get_or ps k p → Took on (each 0 (asked_one (interfaces_of on) (k + 1) before (as_place p)) (candidates_of (interfaces_of on) p.interface)) j true m → mid ≡ before → after ≡ mid ++ said_at (interfaces_of on) p.interface p.pick → PlacesAlike on ps (k + 1) after m
places_then on ps k before mid after p j m h l e t same more =
    let u : List Interface = interfaces_of on in
    let all : List Asked = asked_from u 1 [] (map as_place ps) in
    let next = alike_then on all (each 0 (asked_one u (k + 1) before (as_place p)) (candidates_of u p.interface)) (asked_from u ((k + 1) + 1) (before ++ said_at u p.interface p.pick) (map as_place (drop (k + 1) ps))) 0 j m
    (subst (λ as'. Alike on all 0 as' j) (place_next u ps k before p l e) h) t in
    subst (λ b. PlacesAlike on ps (k + 1) b m) (sym (more ∙ ap (λ b. b ++ said_at u p.interface p.pick) same)) next

pub places_not : (on : Certified) (ps : List Place) (k : ℕ) (before : List Lit) (p : Place) (j m : ℕ) → PlacesAlike on ps k before j → k < length ps → p ≡ get_or ps k p → Took on (each 0 (asked_one (interfaces_of on) (k + 1) before (as_place p)) (candidates_of (interfaces_of on) p.interface)) j false m → AreBlocks (formula_of on) (lemmas_of on) (asked_from (interfaces_of on) 1 [] (map as_place ps)) (blocks_of on) → ⊥
places_not on ps k before p j m h l e t g =
    let u : List Interface = interfaces_of on in
    let all : List Asked = asked_from u 1 [] (map as_place ps) in
    alike_not on all (each 0 (asked_one u (k + 1) before (as_place p)) (candidates_of u p.interface)) (asked_from u ((k + 1) + 1) (before ++ said_at u p.interface p.pick) (map as_place (drop (k + 1) ps))) 0 j m
    (subst (λ as'. Alike on all 0 as' j) (place_next u ps k before p l e) h) t []
    (subst (λ as'. AreBlocks (formula_of on) (lemmas_of on) as' (drop 0 (blocks_of on))) (sym (append-nil all)) (subst (λ bs. AreBlocks (formula_of on) (lemmas_of on) all bs) (sym (none_dropped (blocks_of on))) g))
  where
    none_dropped : (bs : List Block) → drop 0 bs ≡ bs
    none_dropped [] = refl
    none_dropped (b ∷ bs) = refl

-- at the end no block may be left
pub places_end : (on : Certified) (ps : List Place) (k : ℕ) (before : List Lit) (j : ℕ) → PlacesAlike on ps k before j → length ps ≤ k → (length (blocks_of on) ≤ j → AreBlocks (formula_of on) (lemmas_of on) (asked_from (interfaces_of on) 1 [] (map as_place ps)) (blocks_of on)) × (AreBlocks (formula_of on) (lemmas_of on) (asked_from (interfaces_of on) 1 [] (map as_place ps)) (blocks_of on) → length (blocks_of on) ≤ j)
places_end on ps k before j h l =
    let u : List Interface = interfaces_of on in
    let all : List Asked = asked_from u 1 [] (map as_place ps) in
    let g : Alike on all 0 [] j = subst (λ qs. Alike on all 0 (asked_from u (k + 1) before (map as_place qs)) j) (drop_all k ps l) h in (
      λ less. subst (λ bs. AreBlocks (formula_of on) (lemmas_of on) all bs) (none_dropped (blocks_of on)) (subst (λ as'. AreBlocks (formula_of on) (lemmas_of on) as' (drop 0 (blocks_of on))) (append-nil all) ((g []).1 (subst (λ bs. AreBlocks (formula_of on) (lemmas_of on) [] bs) (sym (drop_all j (blocks_of on) less)) tt))),
      λ b. none_left (blocks_of on) j ((g []).0 (subst (λ as'. AreBlocks (formula_of on) (lemmas_of on) as' (drop 0 (blocks_of on))) (sym (append-nil all)) (subst (λ bs. AreBlocks (formula_of on) (lemmas_of on) all bs) (sym (none_dropped (blocks_of on))) b))),
    )
  where
    none_dropped : (bs : List Block) → drop 0 bs ≡ bs
    none_dropped [] = refl
    none_dropped (b ∷ bs) = refl

    none_left : (bs : List Block) (j : ℕ) → AreBlocks (formula_of on) (lemmas_of on) [] (drop j bs) → length bs ≤ j
    none_left [] j b = omega arith
    none_left (x ∷ bs) zero b = absurd b
    none_left (x ∷ bs) (suc j) b = let r = none_left bs j b in omega (arith, r)

-- the last block is passed
pub none_when : {A : Type 0} (H : A → Type 0) (o : Option A) (bs : List Block) (j : ℕ) (b : Bool) → MatchOption o (length bs ≤ j) (λ x. (j < length bs) × H x) → is_some o ≡ not b → (b ≡ true → length bs ≤ j) × (length bs ≤ j → b ≡ true)
none_when H None bs j true m e = (λ t. m, λ l. refl)
none_when H None bs j false m e = absurd (false≢true e)
none_when H (Some x) bs j true m e = absurd (false≢true (sym e))
none_when H (Some x) bs j false m e = (λ t. absurd (false≢true t), λ l. absurd (let a = m.0 in omega (arith, a, l)))

-- what a place says
pub said_more : (u : List Interface) (i : ℕ) (b0 b1 b2 : List Lit) (c m : ℕ) (ks : List Candidate) (x : Lit) → ks ≡ candidates_of u i → c < m → m ≡ length ks → b1 ≡ b0 ++ each 0 (is_not u i) (take c (candidates_of u i)) → x ≡ record { variable = var_number u (Cand i c); positive = false } → b2 ≡ b1 ++ x ∷ [] → b2 ≡ b0 ++ each 0 (is_not u i) (take (c + 1) (candidates_of u i))
said_more u i b0 b1 b2 c m ks x s less len h e g =
    let l : c < length (candidates_of u i) = (let q = ap length s in omega (arith, less, len, q)) in
    let k = item_at (candidates_of u i) c l in
    g ∙ ap (λ b. b ++ x ∷ []) h ∙ append_assoc b0 (each 0 (is_not u i) (take c (candidates_of u i))) (x ∷ [])
    ∙ ap (λ y. b0 ++ (each 0 (is_not u i) (take c (candidates_of u i)) ++ y ∷ [])) e
    ∙ ap (λ ls. b0 ++ ls) (sym (each_more (is_not u i) (candidates_of u i) c k.0 l k.1))

pub said_all : (u : List Interface) (i : ℕ) (b0 b1 : List Lit) (c m : ℕ) (ks : List Candidate) → ks ≡ candidates_of u i → m ≤ c → m ≡ length ks → b1 ≡ b0 ++ each 0 (is_not u i) (take c (candidates_of u i)) → b1 ≡ b0 ++ each 0 (is_not u i) (candidates_of u i)
said_all u i b0 b1 c m ks s less len h =
    h ∙ ap (λ qs. b0 ++ each 0 (is_not u i) qs) (take_all c (candidates_of u i) (let q = ap length s in omega (arith, less, len, q)))
