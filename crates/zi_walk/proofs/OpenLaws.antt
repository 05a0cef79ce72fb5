-- Candidates, places and interfaces are looked at one after another.
use Rattle.std.proofs.Common.{◌≡◌, ℕ, zero, suc, ◌+◌, ◌<◌, ◌≤◌, Bool, true, false, not, cond, List, [], ◌∷◌, ◌++◌, length, map, take, drop, get_or, refl, sym, ap, ◌∙◌, subst, arith, Option, Some, None}
use Rattle.std.specs.Prelude.{is_some}
use Rattle.std.proofs.lemmas.Bool.{false≢true}
use Rattle.std.proofs.lemmas.List.{take_all, drop_all}
use Rattle.std.proofs.Math.Seq.{drop-cons}
use Rattle.zi_formula.specs.declared.formula.Lit.{Lit}
use Rattle.zi_proof.specs.Known.{Known, says, is_open}
use Rattle.zi_sat.specs.Trail.{value_by}
use Rattle.zi_sat.specs.Least.{first_of, least_open}
use Rattle.zi_universe.specs.declared.types.Requirement.{Requirement}
use Rattle.zi_universe.specs.declared.types.Interface.{Interface}
use Rattle.zi_choice.specs.Choice.{Choice}
use Rattle.zi_choice.specs.Walk.{Walk, Walks}
use Rattle.zi_choice.specs.Traces.{as_place, as_walk}
use Rattle.zi_choice.specs.declared.traced.Traced.{Traced}
use Rattle.zi_choice.specs.declared.traced.Place.{Place}
use Rattle.zi_choice.specs.Vars.{Var, candidates_of}
use Rattle.zi_choice.proofs.Base.{candidates_at}
use Rattle.zi_choice.proofs.SumLaws.{length_taken}
use Rattle.zi_choice.proofs.WalkLaws.{walk_one}
use Rattle.zi_choice.proofs.ThereLaws.{walk_there}
use Rattle.zi_build.proofs.WriteLaws.{item_at}
use Rattle.zi_walk.specs.Rule.{first_where, is_chosen, chosen_from, so_far, waits_at, or_else, first_open, as_lit, walk_of, walk_picks}
use Rattle.zi_names.proofs.Expanded.{front_more}
use Rattle.zi_feed.specs.IdLaws.{none_some}

pub value_of : (o : Option Bool) → value_by o true ≡ o
value_of None = refl
value_of (Some true) = refl
value_of (Some false) = refl

pub open_of : (o : Option Bool) (p : Bool) → value_by o p ≡ None → is_open o ≡ true
open_of None p e = refl
open_of (Some b) p e = absurd (none_some (sym e))

pub shut_of : (o : Option Bool) (p b : Bool) → value_by o p ≡ Some b → is_open o ≡ false
shut_of None p b e = absurd (none_some e)
shut_of (Some c) p b e = refl

pub open_none : (o : Option Bool) (p : Bool) (r : Option Bool) (b : Bool) → r ≡ value_by o p → is_some r ≡ not b → b ≡ true → is_open o ≡ true
open_none o p r b e h t = at o (sym (ap is_some e) ∙ h ∙ ap not t)
  where
    at : (o : Option Bool) → is_some (value_by o p) ≡ false → is_open o ≡ true
    at None e = refl
    at (Some c) e = absurd (false≢true (sym e))

pub says_of : (o : Option Bool) (b : Bool) → Some b ≡ o → b ≡ says o true
says_of o b e = ap (λ b. b) (same b) ∙ ap (λ q. says q true) e
  where
    same : (b : Bool) → b ≡ says (Some b) true
    same true = refl
    same false = refl

pub drop_next : {A : Type 0} (xs : List A) (i : ℕ) (d : A) → i < length xs → drop i xs ≡ get_or xs i d ∷ drop (i + 1) xs
drop_next xs i d l = let s : suc i ≡ i + 1 = omega arith in drop-cons xs i d l ∙ ap (λ n. get_or xs i d ∷ drop n xs) s

-- the first place that passes a test
pub first_next : {A : Type 0} (test : ℕ → Bool) (ks : List A) (c : ℕ) → first_where test c (drop c ks) ≡ first_where test 0 ks → c < length ks → (cond (test c) (Some c) (first_where test (suc c) (drop (c + 1) ks)) ≡ first_where test 0 ks)
first_next test ks c h l =
    let x = item_at ks c l in sym (ap (first_where test c) (drop_next ks c x.0 l)) ∙ h

pub first_found : {A : Type 0} (test : ℕ → Bool) (ks : List A) (c n : ℕ) → first_where test c (drop c ks) ≡ first_where test 0 ks → c < n → n ≡ length ks → test c ≡ true → Some c ≡ first_where test 0 ks
first_found test ks c n h l len t =
    sym (ap (λ b. cond b (Some c) (first_where test (suc c) (drop (c + 1) ks))) t) ∙ first_next test ks c h (omega (arith, l, len))

pub first_passed : {A : Type 0} (test : ℕ → Bool) (ks : List A) (c n : ℕ) → first_where test c (drop c ks) ≡ first_where test 0 ks → c < n → n ≡ length ks → test c ≡ false → first_where test (c + 1) (drop (c + 1) ks) ≡ first_where test 0 ks
first_passed test ks c n h l len t =
    let s : c + 1 ≡ suc c = omega arith in
    ap (λ m. first_where test m (drop (c + 1) ks)) s ∙ sym (ap (λ b. cond b (Some c) (first_where test (suc c) (drop (c + 1) ks))) t) ∙ first_next test ks c h (omega (arith, l, len))

pub first_ends : {A : Type 0} (test : ℕ → Bool) (ks : List A) (c n : ℕ) → first_where test c (drop c ks) ≡ first_where test 0 ks → n ≤ c → n ≡ length ks → None ≡ first_where test 0 ks
first_ends test ks c n h l len = sym (ap (first_where test c) (drop_all c ks (omega (arith, l, len)))) ∙ h

pub first_starts : {A : Type 0} (test : ℕ → Bool) (ks : List A) → first_where test 0 (drop 0 ks) ≡ first_where test 0 ks
first_starts test [] = refl
first_starts test (k ∷ ks) = refl

-- what is known to be chosen
chosen_last : (u : List Interface) (k : Known) (n : ℕ) (xs : List Interface) (x : Interface) → chosen_from u k n (xs ++ x ∷ []) ≡ chosen_from u k n xs ++ first_where (is_chosen u k (n + length xs)) 0 x.candidates ∷ []
chosen_last u k n [] x = let z : n ≡ n + 0 = omega arith in ap (λ m. first_where (is_chosen u k m) 0 x.candidates ∷ []) z
chosen_last u k n (y ∷ xs) x =
    let z : suc n + length xs ≡ n + suc (length xs) = omega arith in
    let first : Option ℕ = first_where (is_chosen u k n) 0 y.candidates in
    ap (λ ps. first ∷ ps) (chosen_last u k (suc n) xs x) ∙ ap (λ m. first ∷ (chosen_from u k (suc n) xs ++ first_where (is_chosen u k m) 0 x.candidates ∷ [])) z

pub chosen_more : (u : List Interface) (k : Known) (i : ℕ) (ps qs : List (Option ℕ)) (p : Option ℕ) → i < length u → ps ≡ chosen_from u k 0 (take i u) → p ≡ first_where (is_chosen u k i) 0 (candidates_of u i) → qs ≡ ps ++ p ∷ [] → qs ≡ chosen_from u k 0 (take (i + 1) u)
chosen_more u k i ps qs p l h f e =
    let x = item_at u i l in
    let z : 0 + length (take i u) ≡ i = (let t = length_taken u i (omega (arith, l)) in omega (arith, t)) in
    e ∙ ap (λ rs. rs ++ p ∷ []) h ∙ ap (λ q. chosen_from u k 0 (take i u) ++ q ∷ []) (f ∙ ap (first_where (is_chosen u k i) 0) (candidates_at u i x.0 x.2))
    ∙ ap (λ m. chosen_from u k 0 (take i u) ++ first_where (is_chosen u k m) 0 x.0.candidates ∷ []) (sym z)
    ∙ sym (chosen_last u k 0 (take i u) x.0) ∙ ap (chosen_from u k 0) (sym (front_more u i x.0 l x.1))

pub chosen_all : (u : List Interface) (k : Known) (i : ℕ) (ps : List (Option ℕ)) → length u ≤ i → ps ≡ chosen_from u k 0 (take i u) → ps ≡ so_far u k
chosen_all u k i ps l h = h ∙ ap (chosen_from u k 0) (take_all i u l)

-- where all variables are decided no literal is found
pub none_least : (k : Known) (n : ℕ) → ((x : ℕ) → 1 ≤ x → x ≤ n → is_open (k x) ≡ false) → least_open n k ≡ None
none_least k zero h = refl
none_least k (suc n) h =
    ap (λ r. first_of r (cond (is_open (k (suc n))) (Some (record { variable = suc n; positive = false })) None)) (none_least k n (λ x l m. h x l (omega (arith, m))))
    ∙ ap (λ b. cond b (Some (record { variable = suc n; positive = false })) None) (h (suc n) (omega arith) (omega arith))

-- the places
pub lit_there : (u : List Interface) (w : Option ℕ) (i : ℕ) (r : Option Var) (l : Lit) → Some l ≡ as_lit u (or_else w i None) → Some l ≡ as_lit u (or_else w i r)
lit_there u None i r l e = absurd (none_some (sym e))
lit_there u (Some c) i r l e = e

pub lit_not : (u : List Interface) (w : Option ℕ) (i : ℕ) (r : Option Var) → None ≡ as_lit u (or_else w i None) → or_else w i r ≡ r
lit_not u None i r e = refl
lit_not u (Some c) i r e = absurd (none_some e)

abbrev pub opened : List Interface → Known → List Place → Option Var
opened u k ps = first_open u k (map as_place ps)

pub place_next : (u : List Interface) (k : Known) (ps : List Place) (n : ℕ) (d : Place) → n < length ps → opened u k (drop n ps) ≡ or_else (waits_at u k (as_place (get_or ps n d))) (get_or ps n d).interface (opened u k (drop (n + 1) ps))
place_next u k ps n d l = ap (opened u k) (drop_next ps n d l)

pub place_found : (u : List Interface) (k : Known) (ps : List Place) (n : ℕ) (d : Place) (l : Lit) → opened u k (drop n ps) ≡ opened u k ps → n < length ps → Some l ≡ as_lit u (or_else (waits_at u k (as_place (get_or ps n d))) (get_or ps n d).interface None) → Some l ≡ as_lit u (opened u k ps)
place_found u k ps n d l h less e =
    lit_there u (waits_at u k (as_place (get_or ps n d))) (get_or ps n d).interface (opened u k (drop (n + 1) ps)) l e ∙ ap (as_lit u) (sym (place_next u k ps n d less) ∙ h)

pub place_passed : (u : List Interface) (k : Known) (ps : List Place) (n : ℕ) (d : Place) → opened u k (drop n ps) ≡ opened u k ps → n < length ps → None ≡ as_lit u (or_else (waits_at u k (as_place (get_or ps n d))) (get_or ps n d).interface None) → opened u k (drop (n + 1) ps) ≡ opened u k ps
place_passed u k ps n d h less e =
    sym (lit_not u (waits_at u k (as_place (get_or ps n d))) (get_or ps n d).interface (opened u k (drop (n + 1) ps)) e) ∙ sym (place_next u k ps n d less) ∙ h

pub place_ends : (u : List Interface) (k : Known) (ps : List Place) (n : ℕ) → opened u k (drop n ps) ≡ opened u k ps → length ps ≤ n → None ≡ as_lit u (opened u k ps)
place_ends u k ps n h less = ap (as_lit u) (sym (ap (opened u k) (drop_all n ps less)) ∙ h)

-- what is picked
module _ (u : List Interface) (req : Requirement) (n : ℕ) (k : Known) (numbered named : List Interface) (picks lent : Choice) (t : Traced) (places : List Place) (same_numbers : numbered ≡ u) (same_names : named ≡ u) (are_picks : picks ≡ so_far numbered k) (is_lent : lent ≡ picks) (traced : Walks named req lent (as_walk t)) (are_places : places ≡ t.places) where
  one : as_walk t ≡ walk_of u req (so_far u k)
  one =
      walk_one u req (so_far u k) (as_walk t) (walk_of u req (so_far u k))
      (subst (λ s. Walks u req s (as_walk t)) (is_lent ∙ are_picks ∙ ap (λ v. so_far v k) same_numbers) (subst (λ v. Walks v req lent (as_walk t)) same_names traced))
      (walk_there u req (so_far u k)).1

  open_is : as_lit numbered (first_open numbered k (map as_place places)) ≡ as_lit u (first_open u k (walk_of u req (so_far u k)).places)
  open_is =
      ap (λ ps. as_lit numbered (first_open numbered k (map as_place ps))) are_places ∙ ap (λ v. as_lit v (first_open v k (map as_place t.places))) same_numbers ∙ ap (λ (w : Walk). as_lit u (first_open u k w.places)) one

  pub picks_some : (l : Lit) → Some l ≡ as_lit numbered (first_open numbered k (map as_place places)) → Some l ≡ walk_picks u req n k
  picks_some l e = ap (λ o. first_of o (least_open n k)) (e ∙ open_is)

  pub picks_none : (r : Option Lit) → None ≡ as_lit numbered (first_open numbered k (map as_place places)) → r ≡ least_open n k → r ≡ walk_picks u req n k
  picks_none r e h = h ∙ ap (λ o. first_of o (least_open n k)) (e ∙ open_is)
