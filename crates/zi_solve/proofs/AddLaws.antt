-- Blocks are made one after another.
use Rattle.std.proofs.Common.{◌≡◌, ℕ, zero, suc, ◌+◌, ◌-◌, ◌<◌, ◌≤◌, Bool, true, false, List, [], ◌∷◌, ◌++◌, length, map, take, drop, get_or, refl, sym, ap, ◌∙◌, subst, arith, append_assoc, Option, Some}
use Rattle.std.specs.Prelude.{slice_get}
use Rattle.std.specs.List.{All}
use Rattle.std.proofs.Math.Seq.{drop-cons, take-append_seam}
use Rattle.std.proofs.lemmas.List.{take_all, drop_all, append-nil, length-append}
use Rattle.std.proofs.lemmas.Option.{same_Some}
use Rattle.std.proofs.lemmas.Bool.{and_parts}
use Rattle.zi_formula.specs.declared.formula.Lit.{Lit}
use Rattle.zi_formula.specs.declared.formula.Formula.{Formula}
use Rattle.zi_proof.specs.declared.proof.Lemma.{Lemma}
use Rattle.zi_proof.specs.declared.proof.Block.{Block}
use Rattle.zi_proof.specs.Accepted.{accepted, citable, assume, walk_from, lits_within, lemmas_within}
use Rattle.zi_proof.specs.Known.{nothing}
use Rattle.zi_proof.proofs.Cites.{lits_all}
use Rattle.zi_sat.specs.declared.entry.Entry.{Entry}
use Rattle.zi_universe.specs.declared.types.Interface.{Interface}
use Rattle.zi_universe.specs.declared.types.Candidate.{Candidate}
use Rattle.zi_choice.specs.Walk.{Place as APlace}
use Rattle.zi_choice.specs.Traces.{as_place}
use Rattle.zi_choice.specs.declared.traced.Place.{Place}
use Rattle.zi_choice.specs.Vars.{Cand, candidates_of, var_number}
use Rattle.zi_build.specs.Clauses.{each, keep}
use Rattle.zi_build.proofs.WriteLaws.{item_at, each_more}
use Rattle.zi_certificate.specs.Certificates.{Asked, is_passed, is_so, is_not, asked_one, asked_from, said_at, AreBlocks}
use Rattle.zi_solve.specs.declared.blocks.Making.{Making}
use Rattle.zi_solve.specs.Laws.{AreGiven}
use Rattle.zi_solve.specs.Replays.{Knows}
use Rattle.zi_solve.specs.Making.{universe_of, formula_of, lemmas_of, entries_of, Adds, asked_at}
use Rattle.zi_feed.specs.IdLaws.{none_some}

pub blocks_both : (f : Formula) (ms : List Lemma) (xs ys : List Asked) (bs cs : List Block) → AreBlocks f ms xs bs → AreBlocks f ms ys cs → AreBlocks f ms (xs ++ ys) (bs ++ cs)
blocks_both f ms [] ys [] cs h g = g
blocks_both f ms [] ys (b ∷ bs) cs h g = absurd h
blocks_both f ms (x ∷ xs) ys [] cs h g = absurd h
blocks_both f ms (x ∷ xs) ys (b ∷ bs) cs h g = (h.0, h.1, h.2, blocks_both f ms xs ys bs cs h.3 g)

pub adds_none : (on : Making) (bs : List Block) → Adds on [] bs bs
adds_none on bs = ([], sym (append-nil bs), tt)

pub adds_one : (on : Making) (a : Asked) (b : Block) (bs cs : List Block) → cs ≡ bs ++ b ∷ [] → b.place ≡ a.place → b.candidate ≡ a.candidate → accepted (formula_of on) (lemmas_of on) a.assumed b.hints ≡ true → Adds on (a ∷ []) bs cs
adds_one on a b bs cs e p c h = (b ∷ [], e, (p, c, h, tt))

pub adds_both : (on : Making) (xs ys : List Asked) (bs cs ds : List Block) → Adds on xs bs cs → Adds on ys cs ds → Adds on (xs ++ ys) bs ds
adds_both on xs ys bs cs ds h g =
    (h.0 ++ g.0, g.1 ∙ ap (λ z. z ++ g.0) h.1 ∙ append_assoc bs h.0 g.0, blocks_both (formula_of on) (lemmas_of on) xs ys h.0 g.0 h.2 g.2)

-- what is given
given_left : (f : Formula) (ms : List Lemma) (es : List Entry) (xs ys : List Asked) → AreGiven f ms es (xs ++ ys) → AreGiven f ms es xs
given_left f ms es [] ys h = tt
given_left f ms es (x ∷ xs) ys h = (h.0, given_left f ms es xs ys h.1)

given_right : (f : Formula) (ms : List Lemma) (es : List Entry) (xs ys : List Asked) → AreGiven f ms es (xs ++ ys) → AreGiven f ms es ys
given_right f ms es [] ys h = h
given_right f ms es (x ∷ xs) ys h = given_right f ms es xs ys h.1

given_at : (f : Formula) (ms : List Lemma) (es : List Entry) (n : ℕ) (g : ℕ → Candidate → List Asked) (ks : List Candidate) (c : ℕ) (k : Candidate) → slice_get ks c ≡ Some k → AreGiven f ms es (each n g ks) → AreGiven f ms es (g (n + c) k)
given_at f ms es n g [] c k e h = absurd (none_some e)
given_at f ms es n g (y ∷ ks) zero k e h =
    let z : n ≡ n + 0 = omega arith in
    subst (λ m. AreGiven f ms es (g m k)) z (subst (λ a. AreGiven f ms es (g n a)) (same_Some _ _ e) (given_left f ms es (g n y) (each (suc n) g ks) h))
given_at f ms es n g (y ∷ ks) (suc c) k e h =
    let z : suc n + c ≡ n + suc c = omega arith in
    subst (λ m. AreGiven f ms es (g m k)) z (given_at f ms es (suc n) g ks c k e (given_right f ms es (g n y) (each (suc n) g ks) h))

-- the candidates of a place
pub given_one : (on : Making) (n : ℕ) (before now : List Lit) (p : APlace) (c m : ℕ) (ks : List Candidate) → ks ≡ candidates_of (universe_of on) p.interface → now ≡ before → c < m → m ≡ length ks → AreGiven (formula_of on) (lemmas_of on) (entries_of on) (each 0 (asked_one (universe_of on) n before p) (candidates_of (universe_of on) p.interface)) → AreGiven (formula_of on) (lemmas_of on) (entries_of on) (asked_at (universe_of on) n now p c)
given_one on n before now p c m ks s same less len h =
    let l : c < length (candidates_of (universe_of on) p.interface) = (let e = ap length s in omega (arith, less, len, e)) in
    let k = item_at (candidates_of (universe_of on) p.interface) c l in
    let z : 0 + c ≡ c = omega arith in
    subst (λ b. AreGiven (formula_of on) (lemmas_of on) (entries_of on) (asked_at (universe_of on) n b p c)) (sym same)
    (subst (λ d. AreGiven (formula_of on) (lemmas_of on) (entries_of on) (asked_one (universe_of on) n before p d k.0)) z (given_at (formula_of on) (lemmas_of on) (entries_of on) 0 (asked_one (universe_of on) n before p) (candidates_of (universe_of on) p.interface) c k.0 k.2 h))

pub adds_next : (on : Making) (n : ℕ) (before now : List Lit) (p : APlace) (c m : ℕ) (ks : List Candidate) (bs cs ds : List Block) → ks ≡ candidates_of (universe_of on) p.interface → now ≡ before → c < m → m ≡ length ks → Adds on (each 0 (asked_one (universe_of on) n before p) (take c (candidates_of (universe_of on) p.interface))) bs cs → Adds on (asked_at (universe_of on) n now p c) cs ds → Adds on (each 0 (asked_one (universe_of on) n before p) (take (c + 1) (candidates_of (universe_of on) p.interface))) bs ds
adds_next on n before now p c m ks bs cs ds s same less len h g =
    let l : c < length (candidates_of (universe_of on) p.interface) = (let e = ap length s in omega (arith, less, len, e)) in
    let k = item_at (candidates_of (universe_of on) p.interface) c l in
    subst (λ xs. Adds on xs bs ds) (sym (each_more (asked_one (universe_of on) n before p) (candidates_of (universe_of on) p.interface) c k.0 l k.1))
    (adds_both on (each 0 (asked_one (universe_of on) n before p) (take c (candidates_of (universe_of on) p.interface))) (asked_at (universe_of on) n before p c) bs cs ds h (subst (λ b. Adds on (asked_at (universe_of on) n b p c) cs ds) same g))

pub adds_start : (on : Making) (f : ℕ → Candidate → List Asked) (ks : List Candidate) (bs : List Block) → Adds on (each 0 f (take 0 ks)) bs bs
adds_start on f [] bs = adds_none on bs
adds_start on f (k ∷ ks) bs = adds_none on bs

pub adds_all : (on : Making) (f : ℕ → Candidate → List Asked) (ks : List Candidate) (c m : ℕ) (bs cs : List Block) → m ≤ c → m ≡ length ks → Adds on (each 0 f (take c ks)) bs cs → Adds on (each 0 f ks) bs cs
adds_all on f ks c m bs cs less len h = subst (λ qs. Adds on (each 0 f qs) bs cs) (take_all c ks (omega (arith, less, len))) h

pub popped : (before items rest : List Lit) (x : Lit) (n : ℕ) → items ≡ before ++ x ∷ [] → n ≡ length items → rest ≡ take (n - 1) items → rest ≡ before
popped before items rest x n e l r =
    let more : length items ≡ length before + 1 = ap length e ∙ length-append before (x ∷ []) in
    let less : n - 1 ≡ length before = omega (arith, more, l) in
    r ∙ ap (λ m. take m items) less ∙ ap (take (length before)) e ∙ take-append_seam before (x ∷ [])

-- marks that have the same room
pub knows_same : (f : Formula) (ms lent : List Lemma) (marks after : List (Option Bool)) → lent ≡ ms → Knows f ms marks → length after ≡ length marks → Knows f lent after
knows_same f ms lent marks after e k l = record {
  within = k.within;
  earlier = subst (λ xs. lemmas_within f.variables xs ≡ true) (sym e) k.earlier;
  made = l ∙ k.made;
}

-- what is accepted is within the formula
pub given_within : (f : Formula) (ms : List Lemma) (assumed : List Lit) (hints : List ℕ) (m : ℕ) → m ≡ f.variables + 1 → accepted f ms assumed hints ≡ true → All (λ l. (1 ≤ l.variable) × (l.variable < m)) assumed
given_within f ms assumed hints m e h =
    lits_all f.variables m assumed e (and_parts (lits_within f.variables assumed) (walk_from (citable f.constraints ms) (assume nothing assumed) hints) h).0

-- the block of one candidate
asked_so : (on : Making) (n : ℕ) (before : List Lit) (p : APlace) (c : ℕ) (b : Bool) (so : Lit) (assumed : List Lit) → b ≡ is_passed p.pick c → b ≡ true → so ≡ record { variable = var_number (universe_of on) (Cand p.interface c); positive = true } → assumed ≡ before ++ so ∷ [] → ◌≡◌ {A = List Asked} (record { place = n; candidate = so.variable; assumed = assumed } ∷ []) (asked_at (universe_of on) n before p c)
asked_so on n before p c b so assumed e t l a =
    let one : Asked = record { place = n; candidate = var_number (universe_of on) (Cand p.interface c); assumed = before ++ is_so (universe_of on) p.interface c ∷ [] } in
    ap (λ (ls : List Lit). record { place = n; candidate = so.variable; assumed = ls } ∷ []) a ∙ ap (λ (m : Lit). record { place = n; candidate = m.variable; assumed = before ++ m ∷ [] } ∷ []) l ∙ ap (λ q. keep q one) (sym t ∙ e)

pub pass_adds : (on : Making) (n : ℕ) (before : List Lit) (p : APlace) (c : ℕ) (b : Bool) (so : Lit) (assumed : List Lit) (bs cs : List Block) → b ≡ is_passed p.pick c → b ≡ true → so ≡ record { variable = var_number (universe_of on) (Cand p.interface c); positive = true } → assumed ≡ before ++ so ∷ [] → Adds on (record { place = n; candidate = so.variable; assumed = assumed } ∷ []) bs cs → Adds on (asked_at (universe_of on) n before p c) bs cs
pass_adds on n before p c b so assumed bs cs e t l a h = subst (λ xs. Adds on xs bs cs) (asked_so on n before p c b so assumed e t l a) h

pub pass_not : (on : Making) (n : ℕ) (before : List Lit) (p : APlace) (c : ℕ) (b : Bool) (bs : List Block) → b ≡ is_passed p.pick c → b ≡ false → Adds on (asked_at (universe_of on) n before p c) bs bs
pass_not on n before p c b bs e t =
    subst (λ xs. Adds on xs bs bs) (ap (λ q. keep q (record { place = n; candidate = var_number (universe_of on) (Cand p.interface c); assumed = before ++ is_so (universe_of on) p.interface c ∷ [] })) (sym t ∙ e)) (adds_none on bs)

pub pass_given : (on : Making) (n : ℕ) (before : List Lit) (p : APlace) (c : ℕ) (b : Bool) (so : Lit) (assumed : List Lit) → b ≡ is_passed p.pick c → b ≡ true → so ≡ record { variable = var_number (universe_of on) (Cand p.interface c); positive = true } → assumed ≡ before ++ so ∷ [] → AreGiven (formula_of on) (lemmas_of on) (entries_of on) (asked_at (universe_of on) n before p c) → AreGiven (formula_of on) (lemmas_of on) (entries_of on) (record { place = n; candidate = so.variable; assumed = assumed } ∷ [])
pass_given on n before p c b so assumed e t l a h =
    subst (λ xs. AreGiven (formula_of on) (lemmas_of on) (entries_of on) xs) (sym (asked_so on n before p c b so assumed e t l a)) h

-- what a place says
pub said_more : (u : List Interface) (i : ℕ) (b0 b1 b2 : List Lit) (c m : ℕ) (ks : List Candidate) (x : Lit) → ks ≡ candidates_of u i → c < m → m ≡ length ks → b1 ≡ b0 ++ each 0 (is_not u i) (take c (candidates_of u i)) → x ≡ record { variable = var_number u (Cand i c); positive = false } → b2 ≡ b1 ++ x ∷ [] → b2 ≡ b0 ++ each 0 (is_not u i) (take (c + 1) (candidates_of u i))
said_more u i b0 b1 b2 c m ks x s less len h e g =
    let l : c < length (candidates_of u i) = (let q = ap length s in omega (arith, less, len, q)) in
    let k = item_at (candidates_of u i) c l in
    g ∙ ap (λ b. b ++ x ∷ []) h ∙ append_assoc b0 (each 0 (is_not u i) (take c (candidates_of u i))) (x ∷ [])
    ∙ ap (λ y. b0 ++ (each 0 (is_not u i) (take c (candidates_of u i)) ++ y ∷ [])) e
    ∙ ap (λ ls. b0 ++ ls) (sym (each_more (is_not u i) (candidates_of u i) c k.0 l k.1))

pub said_none : (u : List Interface) (i : ℕ) (b0 : List Lit) (ks : List Candidate) → b0 ≡ b0 ++ each 0 (is_not u i) (take 0 ks)
said_none u i b0 [] = sym (append-nil b0)
said_none u i b0 (k ∷ ks) = sym (append-nil b0)

pub said_all : (u : List Interface) (i : ℕ) (b0 b1 : List Lit) (c m : ℕ) (ks : List Candidate) → ks ≡ candidates_of u i → m ≤ c → m ≡ length ks → b1 ≡ b0 ++ each 0 (is_not u i) (take c (candidates_of u i)) → b1 ≡ b0 ++ each 0 (is_not u i) (candidates_of u i)
said_all u i b0 b1 c m ks s less len h =
    h ∙ ap (λ qs. b0 ++ each 0 (is_not u i) qs) (take_all c (candidates_of u i) (let q = ap length s in omega (arith, less, len, q)))

-- the places
abbrev pub PlacesLeft : Making → List Place → ℕ → List Lit → List Block → Type 0
PlacesLeft on ps k before bs =
    AreGiven (formula_of on) (lemmas_of on) (entries_of on) (asked_from (universe_of on) (k + 1) before (map as_place (drop k ps))) × ((cs : List Block) → AreBlocks (formula_of on) (lemmas_of on) (asked_from (universe_of on) (k + 1) before (map as_place (drop k ps))) cs → AreBlocks (formula_of on) (lemmas_of on) (asked_from (universe_of on) 1 [] (map as_place ps)) (bs ++ cs))

none_dropped : (ps : List Place) → drop 0 ps ≡ ps
none_dropped [] = refl
none_dropped (p ∷ ps) = refl

pub places_start : (on : Making) (ps : List Place) (before : List Lit) (bs : List Block) → before ≡ [] → bs ≡ [] → AreGiven (formula_of on) (lemmas_of on) (entries_of on) (asked_from (universe_of on) 1 [] (map as_place ps)) → PlacesLeft on ps 0 before bs
places_start on ps before bs e f h =
    subst (λ b. PlacesLeft on ps 0 b bs) (sym e) (subst (λ c. PlacesLeft on ps 0 [] c) (sym f) (
      subst (λ qs. AreGiven (formula_of on) (lemmas_of on) (entries_of on) (asked_from (universe_of on) 1 [] (map as_place qs))) (sym (none_dropped ps)) h,
      λ cs g. subst (λ qs. AreBlocks (formula_of on) (lemmas_of on) (asked_from (universe_of on) 1 [] (map as_place qs)) cs) (none_dropped ps) g,
    ))

-- the place at a number
pub place_here : (ps : List Place) (k : ℕ) (d : Place) → k < length ps → get_or ps k d ≡ get_or ps k (get_or ps k d)
place_here [] k d l = absurd (omega arith)
place_here (p ∷ ps) zero d l = refl
place_here (p ∷ ps) (suc k) d l = place_here ps k d (omega arith)

place_next : (u : List Interface) (ps : List Place) (k : ℕ) (before : List Lit) (p : Place) → k < length ps → p ≡ get_or ps k p → asked_from u (k + 1) before (map as_place (drop k ps)) ≡ each 0 (asked_one u (k + 1) before (as_place p)) (candidates_of u p.interface) ++ asked_from u ((k + 1) + 1) (before ++ said_at u p.interface p.pick) (map as_place (drop (k + 1) ps))
place_next u ps k before p l e =
    let s : suc k ≡ k + 1 = omega arith in
    let z : suc (k + 1) ≡ (k + 1) + 1 = omega arith in
    ap (λ qs. asked_from u (k + 1) before (map as_place qs)) (drop-cons ps k p l ∙ ap (λ x. x ∷ drop (suc k) ps) (sym e) ∙ ap (λ n. p ∷ drop n ps) s)
    ∙ ap (λ n. each 0 (asked_one u (k + 1) before (as_place p)) (candidates_of u p.interface) ++ asked_from u n (before ++ said_at u p.interface p.pick) (map as_place (drop (k + 1) ps))) z

pub place_given : (on : Making) (ps : List Place) (k : ℕ) (before : List Lit) (p : Place) (bs : List Block) → PlacesLeft on ps k before bs → k < length ps → p ≡ get_or ps k p → AreGiven (formula_of on) (lemmas_of on) (entries_of on) (each 0 (asked_one (universe_of on) (k + 1) before (as_place p)) (candidates_of (universe_of on) p.interface))
place_given on ps k before p bs h l e =
    given_left (formula_of on) (lemmas_of on) (entries_of on) (each 0 (asked_one (universe_of on) (k + 1) before (as_place p)) (candidates_of (universe_of on) p.interface)) (asked_from (universe_of on) ((k + 1) + 1) (before ++ said_at (universe_of on) p.interface p.pick) (map as_place (drop (k + 1) ps)))
    (subst (λ xs. AreGiven (formula_of on) (lemmas_of on) (entries_of on) xs) (place_next (universe_of on) ps k before p l e) h.0)

pub places_then : (on : Making) (ps : List Place) (k : ℕ) (before mid after : List Lit) (p : Place) (bs cs : List Block) → PlacesLeft on ps k before bs → k < length ps → p ≡ get_or ps k p → Adds on (each 0 (asked_one (universe_of on) (k + 1) before (as_place p)) (candidates_of (universe_of on) p.interface)) bs cs → mid ≡ before → after ≡ mid ++ said_at (universe_of on) p.interface p.pick → PlacesLeft on ps (k + 1) after cs
places_then on ps k before mid after p bs cs h l e t same more =
    let u : List Interface = universe_of on in
    let here : List Asked = each 0 (asked_one u (k + 1) before (as_place p)) (candidates_of u p.interface) in
    let rest : List Asked = asked_from u ((k + 1) + 1) (before ++ said_at u p.interface p.pick) (map as_place (drop (k + 1) ps)) in
    let next = place_next u ps k before p l e in
    subst (λ b. PlacesLeft on ps (k + 1) b cs) (sym (more ∙ ap (λ b. b ++ said_at u p.interface p.pick) same)) (
      given_right (formula_of on) (lemmas_of on) (entries_of on) here rest (subst (λ xs. AreGiven (formula_of on) (lemmas_of on) (entries_of on) xs) next h.0),
      λ ds g. subst (λ xs. AreBlocks (formula_of on) (lemmas_of on) (asked_from u 1 [] (map as_place ps)) xs) (sym (ap (λ z. z ++ ds) t.1 ∙ append_assoc bs t.0 ds))
          (h.1 (t.0 ++ ds) (subst (λ xs. AreBlocks (formula_of on) (lemmas_of on) xs (t.0 ++ ds)) (sym next) (blocks_both (formula_of on) (lemmas_of on) here rest t.0 ds t.2 g))),
    )

pub places_said : (on : Making) (ps : List Place) (k : ℕ) (before mid after : List Lit) (p : Place) (bs cs ds : List Block) → ds ≡ cs → PlacesLeft on ps k before bs → k < length ps → p ≡ get_or ps k p → Adds on (each 0 (asked_one (universe_of on) (k + 1) before (as_place p)) (candidates_of (universe_of on) p.interface)) bs cs → mid ≡ before → after ≡ mid ++ said_at (universe_of on) p.interface p.pick → PlacesLeft on ps (k + 1) after ds
places_said on ps k before mid after p bs cs ds q h l e t same more =
    subst (λ xs. PlacesLeft on ps (k + 1) after xs) (sym q) (places_then on ps k before mid after p bs cs h l e t same more)

pub places_end : (on : Making) (ps : List Place) (k : ℕ) (before : List Lit) (bs : List Block) → PlacesLeft on ps k before bs → length ps ≤ k → AreBlocks (formula_of on) (lemmas_of on) (asked_from (universe_of on) 1 [] (map as_place ps)) bs
places_end on ps k before bs h l =
    subst (λ xs. AreBlocks (formula_of on) (lemmas_of on) (asked_from (universe_of on) 1 [] (map as_place ps)) xs) (append-nil bs)
    (h.1 [] (subst (λ qs. AreBlocks (formula_of on) (lemmas_of on) (asked_from (universe_of on) (k + 1) before (map as_place qs)) []) (sym (drop_all k ps l)) tt))
