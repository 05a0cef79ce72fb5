-- One constraint more.
use Rattle.std.proofs.Common.{◌≡◌, ℕ, zero, suc, ◌<◌, ◌≤◌, ◌+◌, ◌-◌, ◌*◌, Bool, true, false, cond, List, [], ◌∷◌, ◌++◌, length, length-append, map, take, get_or, set, refl, sym, ap, ◌∙◌, subst, arith, Option, Some, None, ◌⊎◌, inl, inr, All}
use Rattle.std.specs.List.{slice_get}
use Rattle.std.proofs.lemmas.Bool.{false≢true}
use Rattle.std.proofs.lemmas.List.{get_or_append_left, get_or_push, take_more}
use Rattle.std.proofs.Math.Seq.{take-length}
use Rattle.std.proofs.lemmas.Option.{slice_get_within, get_or_from_slice_get}
use Rattle.zi_formula.specs.declared.formula.Lit.{Lit}
use Rattle.zi_formula.specs.declared.formula.Constraint.{Constraint}
use Rattle.zi_formula.specs.declared.formula.Constraint.TheVariants.{Clause, AtMostOne}
use Rattle.zi_formula.specs.Form.{LitsWithin, same_lit, has_lit, Once, OnceAll}
use Rattle.zi_formula.specs.declared.formula.Formula.{Formula}
use Rattle.zi_proof.specs.declared.proof.Lemma.{Lemma}
use Rattle.zi_proof.specs.Accepted.{citable, lemma_clause}
use Rattle.zi_proof.specs.Known.{Known, nothing}
use Rattle.zi_sat.specs.Fresh.{Filled}
use Rattle.zi_sat.specs.declared.entry.Entry.{Entry}
use Rattle.zi_sat.specs.Trail.{known_from}
use Rattle.zi_sat.proofs.FreshLaws.{filled_once}
use Rattle.zi_sat.proofs.MoveLaws.{citable_push}
use Rattle.zi_sat.specs.declared.pair.Pair.{Pair}
use Rattle.zi_sat.specs.declared.watches.Watches.{Watches as Lists}
use Rattle.zi_sat.specs.Rows.{Has, row_at}
use Rattle.zi_sat.specs.declared.rows.Watcher.{Watcher}
use Rattle.zi_proof.proofs.Cites.{get_before}
use Rattle.std.proofs.lemmas.List.Elements.{All-nil}
use Rattle.zi_sat.specs.Guard.{row_of, pair_at, Held, Blocks, Fits, AllFit, EachHeld, AllHeld, AllCalm, LastTwo, Adds, Guard, Fitting, Ready}
use Rattle.zi_sat.specs.Watching.{Watches}
use Rattle.zi_sat.proofs.VisitLaws.{citable_length}
use Rattle.zi_sat.proofs.CalmLaws.{calm_start}
use Rattle.zi_sat.proofs.GuardLaws.{lit_within, row_low}
use Rattle.zi_sat.proofs.RowLaws.{add_grows, add_has, add_all}
use Rattle.std.proofs.lemmas.List.{length-set}
use Rattle.zi_sat.proofs.CountLaws.{or_case, head_in, lit_self}

pub has_at : (ls : List Lit) (i : ℕ) (d : Lit) → i < length ls → has_lit ls (get_or ls i d) ≡ true
has_at [] i d h = absurd (omega arith)
has_at (l ∷ ls) zero d h = head_in (same_lit l l) (has_lit ls l) (lit_self l)
has_at (l ∷ ls) (suc i) d h =
    or_case (same_lit l (get_or ls i d)) (has_lit ls (get_or ls i d)) (has_at ls i d (omega arith))

lacks_case : (m l : Lit) (b : Bool) → cond (same_lit m l) true b ≡ false → (same_lit m l ≡ false) × (b ≡ false)
lacks_case m l b h = go (same_lit m l) refl h
  where
    go : (t : Bool) → same_lit m l ≡ t → cond t true b ≡ false → (same_lit m l ≡ false) × (b ≡ false)
    go true e h = absurd (false≢true (sym h))
    go false e h = (e, h)

lacks_at : (ls : List Lit) (j : ℕ) (l d : Lit) → j < length ls → has_lit ls l ≡ false → same_lit (get_or ls j d) l ≡ false
lacks_at [] j l d h n = absurd (omega arith)
lacks_at (m ∷ ls) zero l d h n = (lacks_case m l (has_lit ls l) n).0
lacks_at (m ∷ ls) (suc j) l d h n = lacks_at ls j l d (omega arith) (lacks_case m l (has_lit ls l) n).1

apart_at : (ls : List Lit) (i j : ℕ) (d e : Lit) → Once ls → i < j → j < length ls → same_lit (get_or ls j d) (get_or ls i e) ≡ false
apart_at [] i j d e o a b = absurd (omega arith)
apart_at (l ∷ ls) zero zero d e o a b = absurd (omega arith)
apart_at (l ∷ ls) zero (suc j) d e o a b = lacks_at ls j l d (omega arith) o.0
apart_at (l ∷ ls) (suc i) zero d e o a b = absurd (omega arith)
apart_at (l ∷ ls) (suc i) (suc j) d e o a b = apart_at ls i j d e o.1 (omega arith) (omega arith)

pub last_two : (ls : List Lit) (n : ℕ) (d e : Lit) → n ≡ length ls → 2 ≤ n → Once ls → Watches ls (get_or ls (n - 1) d) (get_or ls (n - 2) e)
last_two ls n d e s h o =
    record { first = has_at ls (n - 1) d (omega (arith, s, h)); second = has_at ls (n - 2) e (omega (arith, s, h)); apart = apart_at ls (n - 2) (n - 1) d e o (omega (arith, h)) (omega (arith, s, h)) }

last_split : (ls : List Lit) (k : ℕ) (d e : Lit) → length ls ≡ suc (suc k) → ls ≡ take k ls ++ get_or ls k e ∷ get_or ls (suc k) d ∷ []
last_split [] k d e h = absurd (omega (arith, h))
last_split (x ∷ []) k d e h = absurd (omega (arith, h))
last_split (x ∷ y ∷ []) zero d e h = refl
last_split (x ∷ y ∷ z ∷ ls) zero d e h = absurd (omega (arith, h))
last_split (x ∷ y ∷ ls) (suc k) d e h = ap (λ xs. x ∷ xs) (last_split (y ∷ ls) k d e (omega (arith, h)))

pub last_are : (ls : List Lit) (n : ℕ) (d e : Lit) → n ≡ length ls → 2 ≤ n → (front : List Lit) × (ls ≡ front ++ get_or ls (n - 2) e ∷ get_or ls (n - 1) d ∷ [])
last_are ls n d e s h =
    let k : length ls ≡ suc (suc (n - 2)) = omega (arith, s, h) in
    let next : suc (n - 2) ≡ n - 1 = omega (arith, h) in
    (take (n - 2) ls, subst (λ i. ls ≡ take (n - 2) ls ++ get_or ls (n - 2) e ∷ get_or ls i d ∷ []) next (last_split ls (n - 2) d e k))

-- what is held of all

pub push_case : (all : List Constraint) (c d : Constraint) (n : ℕ) → slice_get (all ++ c ∷ []) n ≡ Some d → ((n < length all) × (slice_get all n ≡ Some d)) ⊎ ((n ≡ length all) × (c ≡ d))
push_case [] c d zero e = inr (refl, cc)
push_case [] c d (suc n) e = let z : ◌≡◌ {A = Option Constraint} None (Some d) = e in absurd (cc)
push_case (x ∷ all) c d zero e = inl (omega arith, e)
push_case (x ∷ all) c d (suc n) e =
    elim (push_case all c d n e) [
      | inl p ↦ inl (let q : n < length all = p.0 in omega (arith, q), p.1)
      | inr p ↦ inr (ap suc p.0, p.1)
    ]

held_wider : (h g : ℕ → ℕ → Type 0) (n : ℕ) (p : Option Pair) (c : Constraint) → ((q : ℕ) → h q n → g q n) → Held h n p c → Held g n p c
held_wider h g n None (Clause ls) m d = d
held_wider h g n (Some p) (Clause ls) m d = (d.0, m (row_of p.first) d.1, m (row_of p.second) d.2)
held_wider h g n p (AtMostOne xs) m d = λ x i. m _ (d x i)

each_held : (w v : Lists) (all : List Constraint) (c : Constraint) → length w.pairs ≡ length all → Adds w v c → EachHeld w.rows w.pairs all → EachHeld v.rows v.pairs (all ++ c ∷ [])
each_held w v all c len a h n d e =
    elim (push_case all c d n e) [
      | inl p ↦
          let low : n < length w.pairs = omega (arith, p.0, len) in
          let same : pair_at v.pairs n ≡ pair_at w.pairs n = ap (λ ps. get_or ps n None) a.pairs ∙ get_or_append_left w.pairs (a.pair ∷ []) None n low in
          subst (λ q. Held (Has v.rows) n q d) (sym same) (held_wider (Has w.rows) (Has v.rows) n (pair_at w.pairs n) d (λ q x. a.grows q n x) (h n d p.1))
      | inr p ↦
          let at : n ≡ length w.pairs = p.0 ∙ sym len in
          let same : pair_at v.pairs n ≡ a.pair = ap (λ ps. get_or ps n None) a.pairs ∙ get_or_push w.pairs a.pair None n (sym at) in
          subst (λ q. Held (Has v.rows) n q d) (sym same) (subst (λ m. Held (Has v.rows) m a.pair d) (sym at) (subst (Held (Has v.rows) (length w.pairs) a.pair) p.1 a.held))
    ]

pub added_held : (w v : Lists) (all : List Constraint) (c : Constraint) → length w.pairs ≡ length all → Adds w v c → AllHeld w all → AllHeld v (all ++ c ∷ [])
added_held w v all c len a h = (each_held w v all c len a h.0, a.fits all (sym len) h.1)

-- what stands in the rows fits them with one constraint more

fits_more : (all : List Constraint) (c : Constraint) (q : ℕ) (w : Watcher) → Fits all q w → Fits (all ++ c ∷ []) q w
fits_more all c q w (d, e, b) = (d, get_before all (c ∷ []) w.place d e, b)

pub all_fit_more : (rows : List (List Watcher)) (all : List Constraint) (c : Constraint) → AllFit rows all → AllFit rows (all ++ c ∷ [])
all_fit_more rows all c h q k d low = fits_more all c q (get_or (row_at rows q) k d) (h q k d low)

last_get : (all : List Constraint) (c : Constraint) → slice_get (all ++ c ∷ []) (length all) ≡ Some c
last_get [] c = refl
last_get (x ∷ all) c = last_get all c

pub fits_last : (all : List Constraint) (c : Constraint) (n q : ℕ) (w : Watcher) → length all ≡ n → w.place ≡ n → Blocks c q w.block → Fits (all ++ c ∷ []) q w
fits_last all c n q w e f b = (c, ap (slice_get (all ++ c ∷ [])) (f ∙ sym e) ∙ last_get all c, b)

pub none_fit : (rows : List (List Watcher)) (all : List Constraint) → ((q : ℕ) → row_at rows q ≡ []) → AllFit rows all
none_fit rows all h q = subst (All (Fits all q)) (sym (h q)) (All-nil (Fits all q))

-- a clause is added with a pair
pub pair_adds : (w v : Lists) (more : List (List Watcher)) (r s i n : ℕ) (ls : List Lit) (p : Pair) → LitsWithin n ls → Watches ls p.first p.second → LastTwo (Clause ls) (Some p) → n * 2 + 2 ≤ length w.rows → i ≡ length w.pairs → r ≡ row_of p.first → s ≡ row_of p.second → more ≡ set w.rows r (row_at w.rows r ++ record { place = i; block = p.second } ∷ []) → v.rows ≡ set more s (row_at more s ++ record { place = i; block = p.first } ∷ []) → v.pairs ≡ w.pairs ++ Some p ∷ [] → Adds w v (Clause ls)
pair_adds w v more r s i n ls p a b l rows at x y e f g =
    let one : Watcher = record { place = i; block = p.second } in
    let two : Watcher = record { place = i; block = p.first } in
    let first : r < length w.rows = subst (λ q. q < length w.rows) (sym x) (row_low n (length w.rows) p.first (lit_within n ls p.first a b.first).1 rows) in
    let size : length more ≡ length w.rows = ap length e ∙ length-set w.rows r (row_at w.rows r ++ record { place = i; block = p.second } ∷ []) in
    let wide : n * 2 + 2 ≤ length more = omega (arith, rows, size) in
    let second : s < length more = subst (λ q. q < length more) (sym y) (row_low n (length more) p.second (lit_within n ls p.second a b.second).1 wide) in
    let here : Has more r i = add_has w.rows more r (record { place = i; block = p.second }) first e in
    let there : Has v.rows s i = add_has more v.rows s (record { place = i; block = p.first }) second f in
    let grows : (q m : ℕ) → Has more q m → Has v.rows q m = add_grows more v.rows s (record { place = i; block = p.first }) second f in
    record {
      pair = Some p;
      pairs = g;
      held = (b, subst (Has v.rows (row_of p.first)) at (subst (λ q. Has v.rows q i) x (grows r i here)), subst (Has v.rows (row_of p.second)) at (subst (λ q. Has v.rows q i) y there));
      last = l;
      grows = λ q m h. grows q m (add_grows w.rows more r (record { place = i; block = p.second }) first e q m h);
      fits = λ all z h. add_all (Fits (all ++ Clause ls ∷ [])) more v.rows s (record { place = i; block = p.first }) second f (fits_last all (Clause ls) i s (record { place = i; block = p.first }) (z ∙ sym at) refl b.first) (add_all (Fits (all ++ Clause ls ∷ [])) w.rows more r (record { place = i; block = p.second }) first e (fits_last all (Clause ls) i r (record { place = i; block = p.second }) (z ∙ sym at) refl b.second) (all_fit_more w.rows all (Clause ls) h));
    }

pub start_held : (w : Lists) (cs : List Constraint) → ((q : ℕ) → row_at w.rows q ≡ []) → AllHeld w (take 0 cs)
start_held w cs h = (λ n c e. absurd (none cs n c e), none_fit w.rows (take 0 cs) h)
  where
    none : (cs : List Constraint) (n : ℕ) (c : Constraint) → slice_get (take 0 cs) n ≡ Some c → ⊥
    none [] n c e = let z : ◌≡◌ {A = Option Constraint} None (Some c) = e in absurd (cc)
    none (x ∷ cs) n c e = let z : ◌≡◌ {A = Option Constraint} None (Some c) = e in absurd (cc)

pub added_len : (w v : Lists) (c : Constraint) → Adds w v c → length v.pairs ≡ length w.pairs + 1
added_len w v c a = omega (arith, ap length a.pairs, length-append w.pairs (a.pair ∷ []))

pub take_next : (cs : List Constraint) (i : ℕ) (d : Constraint) → i < length cs → take (i + 1) cs ≡ take i cs ++ get_or cs i d ∷ []
take_next cs i d h =
    let n : i + 1 ≡ suc i = omega arith in
    ap (λ j. take j cs) n ∙ go cs i d h
  where
    go : (cs : List Constraint) (i : ℕ) (d : Constraint) → i < length cs → take (suc i) cs ≡ take i cs ++ get_or cs i d ∷ []
    go [] i d h = absurd (omega arith)
    go (c ∷ cs) zero d h = refl
    go (c ∷ cs) (suc i) d h = ap (λ x. c ∷ x) (go cs i d (omega arith))

take_length : (cs : List Constraint) (i : ℕ) → i ≤ length cs → length (take i cs) ≡ i
take_length [] zero h = refl
take_length [] (suc i) h = absurd (omega arith)
take_length (c ∷ cs) zero h = refl
take_length (c ∷ cs) (suc i) h = ap suc (take_length cs i (omega arith))

pub take_all : (cs : List Constraint) (i : ℕ) → length cs ≤ i → take i cs ≡ cs
take_all [] zero h = refl
take_all [] (suc i) h = refl
take_all (c ∷ cs) zero h = absurd (omega arith)
take_all (c ∷ cs) (suc i) h = ap (λ x. c ∷ x) (take_all cs i (omega arith))

pub next_held : (w v : Lists) (cs : List Constraint) (i : ℕ) (c : Constraint) → slice_get cs i ≡ Some c → length w.pairs ≡ i → Adds w v c → AllHeld w (take i cs) → AllHeld v (take (i + 1) cs)
next_held w v cs i c e n a h =
    let k : i < length cs = slice_get_within cs i c e in
    let same : take i cs ++ c ∷ [] ≡ take (i + 1) cs = ap (λ x. take i cs ++ x ∷ []) (sym (get_or_from_slice_get cs i c c e)) ∙ sym (take_next cs i c k) in
    subst (AllHeld v) same (added_held w v (take i cs) c (n ∙ sym (take_length cs i (omega (arith, k)))) a h)

once_both : (cs ds : List Constraint) → OnceAll cs → OnceAll ds → OnceAll (cs ++ ds)
once_both [] ds a b = b
once_both (c ∷ cs) ds a b = (a.0, once_both cs ds a.1 b)

pub once_citable : (cs : List Constraint) (ms : List Lemma) → OnceAll cs → Filled ms → OnceAll (citable cs ms)
once_citable cs ms a b = once_both cs (map lemma_clause ms) a (filled_once ms b)

-- at the start

start_guard : (k : Known) (p : Option Pair) (c : Constraint) → Guard nothing k p c
start_guard k None (Clause ls) = tt
start_guard k (Some p) (Clause ls) = inr (refl, refl)
start_guard k p (AtMostOne xs) = λ x y i j e n. let z : ◌≡◌ {A = Option Bool} None (Some true) = e in absurd (cc)

pub ready_start : (w : Lists) (f : Formula) (ms : List Lemma) (es : List Entry) → es ≡ [] → Fitting w f ms → w.seen ≡ 0 → Ready w f ms es
ready_start w f ms es none h z =
    let low : w.seen ≤ length es = omega (arith, z) in
    ((h, subst (λ xs. AllCalm w xs (citable f.constraints ms)) (sym none) (calm_start w (citable f.constraints ms))), low, λ n c e. subst (λ i. Guard (known_from (take i es)) (known_from es) (pair_at w.pairs n) c) (sym z) (subst (λ k. Guard k (known_from es) (pair_at w.pairs n) c) (sym (ap known_from (take_zero es))) (start_guard (known_from es) (pair_at w.pairs n) c)), inl z)
  where
    take_zero : (es : List Entry) → take 0 es ≡ []
    take_zero [] = refl
    take_zero (e ∷ es) = refl

pub fitting_more : (w v : Lists) (f : Formula) (ms ns : List Lemma) (m : Lemma) (ls : List Lit) → ns ≡ ms ++ m ∷ [] → ls ≡ m.lits → length v.rows ≡ length w.rows → Adds w v (Clause ls) → Fitting w f ms → Fitting v f ns
fitting_more w v f ms ns m ls e g r a h =
    let all : length w.pairs ≡ length (citable f.constraints ms) = h.1 ∙ sym (citable_length f.constraints ms) in
    let held : AllHeld v (citable f.constraints ms ++ Clause ls ∷ []) = added_held w v (citable f.constraints ms) (Clause ls) all a h.0 in
    let same : citable f.constraints ms ++ Clause ls ∷ [] ≡ citable f.constraints ns = ap (λ x. citable f.constraints ms ++ Clause x ∷ []) g ∙ (sym (citable_push f.constraints ms m) ∙ ap (citable f.constraints) (sym e)) in
    let n : length ns ≡ length ms + 1 = omega (arith, ap length e, length-append ms (m ∷ [])) in
    (subst (AllHeld v) same held, omega (arith, n, h.1, added_len w v (Clause ls) a), omega (arith, h.2, r))

-- one lemma after another

pub fitting_none : (w : Lists) (f : Formula) (ms : List Lemma) → Fitting w f [] → Fitting w f (take 0 ms)
fitting_none w f [] h = h
fitting_none w f (m ∷ ms) h = h

pub fitting_next : (w v : Lists) (f : Formula) (ms : List Lemma) (i : ℕ) (d : Lemma) (ls : List Lit) → i < length ms → ls ≡ (get_or ms i d).lits → length v.rows ≡ length w.rows → Adds w v (Clause ls) → Fitting w f (take i ms) → Fitting v f (take (i + 1) ms)
fitting_next w v f ms i d ls low g r a h =
    fitting_more w v f (take i ms) (take (i + 1) ms) (get_or ms i d) ls (take_more ms i d low) g r a h

pub fitting_all : (w : Lists) (f : Formula) (ms : List Lemma) (i : ℕ) → i ≡ length ms → Fitting w f (take i ms) → Fitting w f ms
fitting_all w f ms i e h = subst (Fitting w f) (ap (λ n. take n ms) e ∙ take-length ms) h

pub filled_at : (ms : List Lemma) (i : ℕ) (d : Lemma) → Filled ms → i < length ms → Once (get_or ms i d).lits
filled_at [] i d f h = absurd (omega arith)
filled_at (m ∷ ms) zero d f h = f.1
filled_at (m ∷ ms) (suc i) d f h = filled_at ms i d f.2 (omega arith)

pub last_is : (ms ns : List Lemma) (m : Lemma) → ns ≡ ms ++ m ∷ [] → (d : Lemma) → get_or ns (length ns - 1) d ≡ m
last_is ms ns m e d =
    let n : length ms ≡ length ns - 1 = omega (arith, ap length e, length-append ms (m ∷ [])) in
    ap (λ xs. get_or xs (length ns - 1) d) e ∙ get_or_push ms m d (length ns - 1) n

pub fitting_same : (w v : Lists) (f : Formula) (ms ns : List Lemma) → v.rows ≡ w.rows → v.pairs ≡ w.pairs → ms ≡ ns → Fitting w f ms → Fitting v f ns
fitting_same w v f ms ns a b s h =
    let held : EachHeld v.rows v.pairs (citable f.constraints ms) = subst (λ r. EachHeld r v.pairs (citable f.constraints ms)) (sym a) (subst (λ p. EachHeld w.rows p (citable f.constraints ms)) (sym b) h.0.0) in
    let fit : AllFit v.rows (citable f.constraints ms) = subst (λ r. AllFit r (citable f.constraints ms)) (sym a) h.0.1 in
    subst (Fitting v f) s ((held, fit), ap length b ∙ h.1, subst (λ r. f.variables * 2 + 2 ≤ length r) (sym a) h.2)
