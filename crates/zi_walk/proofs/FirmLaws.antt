-- What is firm stays so on every longer trail: it is what is chosen so far, and nothing waits there.
use Rattle.std.proofs.Common.{◌≡◌, ℕ, zero, suc, ◌+◌, ◌-◌, ◌<◌, ◌≤◌, Bool, true, false, cond, List, [], ◌∷◌, ◌++◌, length, map, take, drop, refl, sym, ap, ◌∙◌, subst, arith, Option, Some, None, ◌⊎◌, inl, inr}
use Rattle.std.specs.Prelude.{slice_get}
use Rattle.std.proofs.lemmas.List.{take_all, take-append-drop}
use Rattle.std.proofs.lemmas.Bool.{false≢true}
use Rattle.zi_formula.specs.declared.formula.Lit.{Lit}
use Rattle.zi_proof.specs.Known.{Known, nothing, put, says, is_open}
use Rattle.zi_sat.specs.declared.entry.Entry.{Entry}
use Rattle.zi_sat.specs.Trail.{lits_of, learn, known_from, OpenAll}
use Rattle.zi_sat.specs.Ends.{AreDecided}
use Rattle.zi_sat.specs.Behind.{Behind, Back}
use Rattle.zi_sat.proofs.TrailLaws.{lits-append, learn-append}
use Rattle.zi_universe.specs.declared.types.Requirement.{Requirement}
use Rattle.zi_universe.specs.declared.types.Interface.{Interface}
use Rattle.zi_universe.specs.declared.types.Candidate.{Candidate}
use Rattle.zi_choice.specs.Choice.{Choice, pick}
use Rattle.zi_choice.specs.Tasks.{place_at}
use Rattle.zi_choice.specs.Vars.{Cand, candidates_of, var_number}
use Rattle.zi_walk.specs.Rule.{first_where, is_chosen, is_undecided, so_far, open_at, if_none, waits_at, or_else, as_lit}
use Rattle.zi_walk.specs.declared.path.Stop.{Stop}
use Rattle.zi_walk.specs.Kept.{Longer, Agrees}
use Rattle.zi_walk.specs.Firm.{Firm, IsFirm, AreFirm, AreWithin}
use Rattle.zi_walk.proofs.Rules.{FirstAt, first_is, first_none, so_far_picks}
use Rattle.zi_walk.proofs.Passed.{Extends, learn_extends, says_some}
use Rattle.zi_walk.proofs.PartLaws.{take_part, part_item, part_stays, longer_length}
use Rattle.zi_sat.proofs.ReachLaws.{some_of}
use Rattle.zi_feed.specs.IdLaws.{none_some}

-- where a test first passes, and where it passes nowhere
pub where_found : {A : Type 0} (test : ℕ → Bool) (n : ℕ) (xs : List A) (c : ℕ) → c < length xs → test (n + c) ≡ true → ((d : ℕ) → d < c → test (n + d) ≡ false) → first_where test n xs ≡ Some (n + c)
where_found test n [] c l t h = absurd (omega (arith, l))
where_found test n (x ∷ xs) zero l t h =
    let z : n + 0 ≡ n = omega arith in
    ap (λ b. cond b (Some n) (first_where test (suc n) xs)) (subst (λ m. test m ≡ true) z t) ∙ ap (λ m. Some m) (sym z)
where_found test n (x ∷ xs) (suc c) l t h =
    let z : n + 0 ≡ n = omega arith in
    let s : n + suc c ≡ suc n + c = omega arith in
    let first : test n ≡ false = subst (λ m. test m ≡ false) z (h 0 (omega arith)) in
    let rest : (d : ℕ) → d < c → test (suc n + d) ≡ false = λ d k. let r : n + suc d ≡ suc n + d = omega arith in subst (λ m. test m ≡ false) r (h (suc d) (omega (arith, k))) in
    ap (λ b. cond b (Some n) (first_where test (suc n) xs)) first ∙ where_found test (suc n) xs c (omega (arith, l)) (subst (λ m. test m ≡ true) s t) rest ∙ ap (λ m. Some m) (sym s)

pub where_none : {A : Type 0} (test : ℕ → Bool) (n : ℕ) (xs : List A) → ((d : ℕ) → d < length xs → test (n + d) ≡ false) → first_where test n xs ≡ None
where_none test n [] h = refl
where_none test n (x ∷ xs) h =
    let z : n + 0 ≡ n = omega arith in
    let first : test n ≡ false = subst (λ m. test m ≡ false) z (h 0 (omega arith)) in
    let rest : (d : ℕ) → d < length xs → test (suc n + d) ≡ false = λ d k. let r : n + suc d ≡ suc n + d = omega arith in subst (λ m. test m ≡ false) r (h (suc d) (omega (arith, k))) in
    ap (λ b. cond b (Some n) (first_where test (suc n) xs)) first ∙ where_none test (suc n) xs rest

-- what is known of a candidate, by the tests
denied : (o : Option Bool) → says o true ≡ false → is_open o ≡ false → o ≡ Some false
denied None s e = absurd (false≢true (sym e))
denied (Some true) s e = absurd (false≢true (sym s))
denied (Some false) s e = refl

shut : (o : Option Bool) (b : Bool) → o ≡ Some b → is_open o ≡ false
shut o b e = ap is_open e

module _ (u : List Interface) (k : Known) (i : ℕ) where
  abbrev candidates : List Candidate
  candidates = candidates_of u i

  none_before : (test : ℕ → Bool) (n : ℕ) → ((d : ℕ) → d < n → test d ≡ false) → (d : ℕ) → d < n → test (0 + d) ≡ false
  none_before test n h d l = let z : d ≡ 0 + d = omega arith in subst (λ m. test m ≡ false) z (h d l)

  firm_chosen : (o : Option ℕ) → Firm u k i o → first_where (is_chosen u k i) 0 candidates ≡ o
  firm_chosen None f = where_none (is_chosen u k i) 0 candidates (none_before (is_chosen u k i) (length candidates) (λ d l. ap (λ o. says o true) (f d l)))
  firm_chosen (Some c) f =
      let z : c ≡ 0 + c = omega arith in
      let here : is_chosen u k i (0 + c) ≡ true = subst (λ m. is_chosen u k i m ≡ true) z (ap (λ o. says o true) f.1) in
      where_found (is_chosen u k i) 0 candidates c f.0 here (none_before (is_chosen u k i) c (λ d l. ap (λ o. says o true) (f.2 d l))) ∙ ap (λ m. Some m) (sym z)

  pub firm_picks : (o : Option ℕ) → Firm u k i o → pick (so_far u k) i ≡ o
  firm_picks o f = so_far_picks u k i ∙ firm_chosen o f

  pub firm_quiet : (o p : Option ℕ) → p ≡ o → Firm u k i o → if_none p (first_where (is_undecided u k i) 0 candidates) ≡ None
  firm_quiet o None e f = nowhere o e f
    where
      nowhere : (o : Option ℕ) → None ≡ o → Firm u k i o → first_where (is_undecided u k i) 0 candidates ≡ None
      nowhere None e f = where_none (is_undecided u k i) 0 candidates (none_before (is_undecided u k i) (length candidates) (λ d l. shut (k (var_number u (Cand i d))) false (f d l)))
      nowhere (Some c) e f = absurd (none_some e)
  firm_quiet o (Some c) e f = refl

  before_of : (test : ℕ → Bool) (c : ℕ) (f : FirstAt test 0 (length candidates) c) → (d : ℕ) → d < c → test d ≡ false
  before_of test c f d l =
      let at = f.is in
      let z : 0 + d ≡ d = omega arith in
      subst (λ m. test m ≡ false) z (f.before d (omega (arith, at, l)))

  all_of : (test : ℕ → Bool) → first_where test 0 candidates ≡ None → (d : ℕ) → d < length candidates → test d ≡ false
  all_of test e d l = let z : 0 + d ≡ d = omega arith in subst (λ m. test m ≡ false) z (first_none test 0 candidates e d l)

  -- none is chosen, and none is undecided
  pub settled_none : first_where (is_chosen u k i) 0 candidates ≡ None → first_where (is_undecided u k i) 0 candidates ≡ None → Firm u k i None
  settled_none e f d l = denied (k (var_number u (Cand i d))) (all_of (is_chosen u k i) e d l) (all_of (is_undecided u k i) f d l)

  -- one is chosen, and none before it is undecided
  settled_by : (c : ℕ) → first_where (is_chosen u k i) 0 candidates ≡ Some c → ((d : ℕ) → d < c → is_undecided u k i d ≡ false) → Firm u k i (Some c)
  settled_by c e h =
      let f : FirstAt (is_chosen u k i) 0 (length candidates) c = first_is (is_chosen u k i) 0 candidates c e in
      let at = f.is in
      let w = f.within in
      (omega (arith, at, w), says_some _ f.passes, λ d l. denied _ (before_of (is_chosen u k i) c f d l) (h d l))

  pub settled_all : (c : ℕ) → first_where (is_chosen u k i) 0 candidates ≡ Some c → first_where (is_undecided u k i) 0 candidates ≡ None → Firm u k i (Some c)
  settled_all c e f =
      let g : FirstAt (is_chosen u k i) 0 (length candidates) c = first_is (is_chosen u k i) 0 candidates c e in
      let j = g.is in
      let w = g.within in
      settled_by c e (λ d l. all_of (is_undecided u k i) f d (omega (arith, l, j, w)))

  pub settled_before : (c o : ℕ) → first_where (is_chosen u k i) 0 candidates ≡ Some c → first_where (is_undecided u k i) 0 candidates ≡ Some o → c ≤ o → Firm u k i (Some c)
  settled_before c o e f h =
      settled_by c e (λ d l. before_of (is_undecided u k i) o (first_is (is_undecided u k i) 0 candidates o f) d (omega (arith, l, h)))

-- nothing waits where none is picked and no literal is found
none_there : (u : List Interface) (o : Option ℕ) (i : ℕ) → None ≡ as_lit u (or_else o i None) → o ≡ None
none_there u None i e = refl
none_there u (Some c) i e = absurd (none_some e)

-- what is found at a place, by what is chosen there
module _ (u : List Interface) (k : Known) (i : ℕ) (p : Option ℕ) (is : p ≡ first_where (is_chosen u k i) 0 (candidates_of u i)) where
  pub blocked_there : (l : Lit) → Some l ≡ as_lit u (or_else (waits_at u k (record { interface = i; pick = p })) i None) → Some l ≡ as_lit u (or_else (waits_at u k (place_at (so_far u k) i)) i None)
  blocked_there l e = subst (λ q. Some l ≡ as_lit u (or_else (waits_at u k (record { interface = i; pick = q })) i None)) (is ∙ sym (so_far_picks u k i)) e

  pub none_settled : p ≡ None → None ≡ as_lit u (or_else (waits_at u k (record { interface = i; pick = p })) i None) → Firm u k i None
  none_settled n e =
      let f : None ≡ as_lit u (or_else (open_at u k (record { interface = i; pick = None })) i None) = subst (λ q. None ≡ as_lit u (or_else (waits_at u k (record { interface = i; pick = q })) i None)) n e in
      settled_none u k i (sym is ∙ n) (none_there u (open_at u k (record { interface = i; pick = None })) i f)

pub firm_extends : (u : List Interface) (k g : Known) (i : ℕ) (o : Option ℕ) → Extends k g → Firm u k i o → Firm u g i o
firm_extends u k g i None e f = λ d l. e (var_number u (Cand i d)) false (f d l)
firm_extends u k g i (Some c) e f = (f.0, e (var_number u (Cand i c)) true f.1, λ d l. e (var_number u (Cand i d)) false (f.2 d l))

-- a longer trail
open_behind : (k : Known) (xs ys : List Lit) → OpenAll k (xs ++ ys) → OpenAll (learn k xs) ys
open_behind k [] ys o = o
open_behind k (x ∷ xs) ys o = open_behind (put k x) xs ys o.1

pub known_more : (es fs : List Entry) → OpenAll nothing (lits_of (es ++ fs)) → Extends (known_from es) (known_from (es ++ fs))
known_more es fs o =
    let is : known_from (es ++ fs) ≡ learn (known_from es) (lits_of fs) = ap (learn nothing) (lits-append es fs) ∙ learn-append nothing (lits_of es) (lits_of fs) in
    subst (λ g. Extends (known_from es) g) (sym is) (learn_extends (known_from es) (lits_of fs) (open_behind nothing (lits_of es) (lits_of fs) (subst (OpenAll nothing) (lits-append es fs) o)))

part_known : (n : ℕ) (es : List Entry) → OpenAll nothing (lits_of es) → Extends (known_from (take n es)) (known_from es)
part_known n es o =
    let e : take n es ++ drop n es ≡ es = take-append-drop n es in
    subst (λ fs. Extends (known_from (take n es)) (known_from fs)) e (known_more (take n es) (drop n es) (subst (λ fs. OpenAll nothing (lits_of fs)) (sym e) o))

pub firm_now : (u : List Interface) (es : List Entry) (x : Stop) → OpenAll nothing (lits_of es) → IsFirm u es x → Firm u (known_from es) x.interface x.pick
firm_now u es x o f = firm_extends u (known_from (take x.known es)) (known_from es) x.interface x.pick (part_known x.known es o) f.1

pub firm_longer : (u : List Interface) (es fs : List Entry) (xs : List Stop) → Behind es fs → AreFirm u es xs → AreFirm u fs xs
firm_longer u es fs xs b f n x e =
    let h : IsFirm u es x = f n x e in
    let l = h.0 in
    let m = longer_length es fs b in
    (omega (arith, l, m), subst (λ ds. Firm u (known_from ds) x.interface x.pick) (sym (part_stays x.known es fs b h.0)) h.1)

part_length : {A : Type 0} (m n : ℕ) (xs : List A) → m ≤ n → m ≤ length xs → m ≤ length (take n xs)
part_length m zero xs h l = omega (arith, h)
part_length m (suc n) [] h l = l
part_length zero (suc n) (x ∷ xs) h l = omega arith
part_length (suc m) (suc n) (x ∷ xs) h l = let r = part_length m n xs (omega (arith, h)) (omega (arith, l)) in omega (arith, r)

-- what fewer entries make firm
pub firm_less : (u : List Interface) (es : List Entry) (xs : List Stop) (n len : ℕ) → AreFirm u es xs → AreWithin xs n len → AreFirm u (take len es) (take n xs)
firm_less u es xs n len f h m x e =
    let p : (m < n) × (slice_get xs m ≡ Some x) = part_item n xs m x e in
    let g : IsFirm u es x = f m x p.1 in
    let k : x.known ≤ len = h m x p.0 p.1 in
    (part_length x.known len es k g.0, subst (λ ds. Firm u (known_from ds) x.interface x.pick) (sym (take_part x.known len es k)) g.1)

pub decided_longer : (n : ℕ) (es fs : List Entry) → Behind es fs → OpenAll nothing (lits_of fs) → AreDecided n es → AreDecided n fs
decided_longer n es fs b o d x l h =
    let more : Extends (known_from es) (known_from fs) = subst (λ gs. Extends (known_from es) (known_from gs)) (sym b.1) (known_more es b.0 (subst (λ gs. OpenAll nothing (lits_of gs)) b.1 o)) in
    let known = some_of (known_from es x) (d x l h) in
    shut (known_from fs x) known.0 (more x known.0 known.1)

-- what is left of what was taken in, where the trail went back
take_nil : {A : Type 0} (n : ℕ) → take {A = A} n [] ≡ []
take_nil zero = refl
take_nil (suc n) = refl

cut_longer : {A : Type 0} (n : ℕ) (ts rest : List A) → Longer (take (length (take n (ts ++ rest))) ts) (take n (ts ++ rest))
cut_longer zero ts rest = ([], refl)
cut_longer (suc n) [] rest = (take (suc n) rest, ap (λ xs. xs ++ take (suc n) rest) (sym (take_nil (length (take (suc n) rest)))))
cut_longer (suc n) (t ∷ ts) rest = let r = cut_longer n ts rest in (r.0, ap (λ xs. t ∷ xs) r.1)

pub back_behind : (ts fs : List Entry) → Back ts fs → Behind (take (length fs) ts) fs
back_behind ts fs b =
    let e : fs ≡ take b.1 (ts ++ b.2.0) = b.3 ∙ ap (take b.1) b.2.1 in
    subst (λ gs. Behind (take (length gs) ts) gs) (sym e) (cut_longer b.1 ts b.2.0)
