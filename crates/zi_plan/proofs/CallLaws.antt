-- The calls of shims, one behind another.
use Rattle.std.proofs.Common.{◌≡◌, ℕ, ◌+◌, Bool, true, false, if◌then◌else◌, List, [], ◌∷◌, ◌++◌, length, map, refl, sym, ap, ◌∙◌, subst, Option, Some, None, Result, Ok, Err, option_map, inl, inr}
use Rattle.std.proofs.lemmas.List.{length-map}
use Rattle.zi_outside.specs.declared.var.Var.{Var}
use Rattle.zi_outside.specs.Vars.{value_of}
use Rattle.zi_bind.specs.Shims.{is_shimmed}
use Rattle.zi_bind.specs.Expansion.{Values}
use Rattle.zi_bind.specs.declared.fault.ApplyFault.{ApplyFault}
use Rattle.zi_sels.specs.declared.types.Selections.{Selections}
use Rattle.zi_plan.specs.declared.fault.PlanFault.{PlanFault}
use Rattle.zi_plan.specs.declared.fault.PlanFault.TheVariants as fault
use Rattle.zi_plan.specs.declared.call.ShimCall.{ShimCall}
use Rattle.zi_plan.specs.Placed.{Placed, all_placed, without_folder}
use Rattle.zi_plan.specs.Chain.{Asked, Link, Leads, last_fault}
use Rattle.zi_plan.specs.Launches.{Bound, all_bindings, shimmed, binding_fault, chain_words, spoken_all}
use Rattle.zi_plan.specs.Plans.{UnlessMemory, Tells, bound, said, fault_by}
use Rattle.zi_plan.specs.Shims.{shim_name, asked_of, call_of, words_by, unless, SaysWords, behind_call, Calls, ShimsBound, ShimsFrom, ShimsPlaced, ShimsOf, shims_of}
use Rattle.zi_plan.specs.Steps.{CallsOne, PutsCall, Says}
use Rattle.zi_plan.proofs.BindingLaws.{unless_memory}
use Rattle.zi_plan.proofs.PlanLaws.{tells_map}
use Rattle.zi_plan.proofs.LeadsLaws.{leads_once}

-- The words of one command.
module _ (ps : List Placed) (values : Values) (asked : Asked) where
  pub words_unled : (e : PlanFault) → UnlessMemory e (Leads ps [] asked (Err e)) → UnlessMemory e (SaysWords ps values asked (Err e))
  words_unled e h = unless_memory e (λ l. (Err e, l, refl)) h

  pub words_pathless : (links : List Link) → Leads ps [] asked (Ok links) → (e : PlanFault) → UnlessMemory e (last_fault links ≡ Some e) → UnlessMemory e (SaysWords ps values asked (Err e))
  words_pathless links l e h = unless_memory e (λ f. (Ok links, l, sym (ap (λ o. unless o (said [] (spoken_all values (chain_words links)))) f))) h

  pub words_said : (links : List Link) → Leads ps [] asked (Ok links) → last_fault links ≡ None → (user : List (List ℕ)) → user ≡ [] → (r : Result (List (List ℕ)) PlanFault)
      → Says (said user (spoken_all values (chain_words links))) r → Tells (SaysWords ps values asked) r
  words_said links l n user u r h = tells_map (λ q. said user (spoken_all values (chain_words links)) ≡ q) (SaysWords ps values asked)
      (λ q e. (Ok links, l, sym (ap (λ o. unless o (said [] (spoken_all values (chain_words links)))) n ∙ ap (λ us. said us (spoken_all values (chain_words links))) (sym u) ∙ e))) r h

-- What the calls so far are before what is left.
abbrev pub append_calls : List ShimCall → Result (List ShimCall) PlanFault → Result (List ShimCall) PlanFault
append_calls [] answer = answer
append_calls (c ∷ cs) answer = behind_call c (append_calls cs answer)

append-more : (calls : List ShimCall) (c : ShimCall) (answer : Result (List ShimCall) PlanFault) → append_calls (calls ++ c ∷ []) answer ≡ append_calls calls (behind_call c answer)
append-more [] c answer = refl
append-more (k ∷ ks) c answer = ap (behind_call k) (append-more ks c answer)

append-end : (calls : List ShimCall) → append_calls calls (Ok []) ≡ Ok calls
append-end [] = refl
append-end (k ∷ ks) = ap (behind_call k) (append-end ks)

append-stop : (calls : List ShimCall) (e : PlanFault) → append_calls calls (Err e) ≡ Err e
append-stop [] e = refl
append-stop (k ∷ ks) e = ap (behind_call k) (append-stop ks e)

pub record AreCalled (ps : List Placed) (values : Values) (bs left : List Bound) (calls : List ShimCall) : Type 0 where
  pub onward : (answer : Result (List ShimCall) PlanFault) → Calls ps values (shimmed left) answer → Calls ps values (shimmed bs) (append_calls calls answer)

pub called_start : (ps : List Placed) (values : Values) (bs : List Bound) (calls : List ShimCall) → calls ≡ [] → AreCalled ps values bs bs calls
called_start ps values bs calls e = subst (AreCalled ps values bs bs) (sym e) (record { onward = λ answer h. h })

module _ (ps : List Placed) (values : Values) (bs left rest : List Bound) (calls : List ShimCall) (b : Bound) (at : left ≡ b ∷ rest) (s : AreCalled ps values bs left calls) where
  here : (t : Bool) → is_shimmed b.binding ≡ t → shimmed left ≡ (if t then b ∷ shimmed rest else shimmed rest)
  here t h = ap shimmed at ∙ ap (λ u. if u then b ∷ shimmed rest else shimmed rest) h

  -- one that needs no shim
  pub called_passed : is_shimmed b.binding ≡ false → AreCalled ps values bs rest calls
  called_passed h = record { onward = λ answer k. s.onward answer (subst (λ xs. Calls ps values xs answer) (sym (here false h)) k) }

  -- one more call
  pub called_more : is_shimmed b.binding ≡ true → (call : ShimCall) → CallsOne ps values b (Ok call) → (more : List ShimCall) → more ≡ calls ++ call ∷ [] → AreCalled ps values bs rest more
  called_more h call one more m = subst (AreCalled ps values bs rest) (sym m) (record {
    onward = λ answer k. subst (Calls ps values (shimmed bs)) (sym (append-more calls call answer))
        (s.onward (behind_call call answer) (subst (λ xs. Calls ps values xs (behind_call call answer)) (sym (here true h))
        (inr (one.0, answer, one.1, k, ap (λ c. behind_call c answer) one.2))));
  })

  -- one that is refused
  pub called_stop : is_shimmed b.binding ≡ true → (e : PlanFault) → CallsOne ps values b (Err e) → Calls ps values (shimmed bs) (Err e)
  called_stop h e one = subst (Calls ps values (shimmed bs)) (append-stop calls e)
      (s.onward (Err e) (subst (λ xs. Calls ps values xs (Err e)) (sym (here true h)) (inl (e, one, refl))))

-- the next binding
pub called_next : (ps : List Placed) (values : Values) (bs left rest : List Bound) (old new : List ShimCall) (b : Bound) → left ≡ b ∷ rest → AreCalled ps values bs left old
    → PutsCall ps values b old (Ok tt) new → AreCalled ps values bs rest new
called_next ps values bs left rest old new b at s (inl (h, e)) = subst (AreCalled ps values bs rest) (sym e) (called_passed ps values bs left rest old b at s h)
called_next ps values bs left rest old new b at s (inr (h, (call, one, e))) = called_more ps values bs left rest old b at s h call one new e

pub called_refused : (ps : List Placed) (values : Values) (bs left rest : List Bound) (old new : List ShimCall) (b : Bound) → left ≡ b ∷ rest → AreCalled ps values bs left old
    → (e : PlanFault) → PutsCall ps values b old (Err e) new → UnlessMemory e (Calls ps values (shimmed bs) (Err e))
called_refused ps values bs left rest old new b at s e h = unless_memory e (λ p. called_stop ps values bs left rest old b at s p.0 e p.1) h

pub called_end : (ps : List Placed) (values : Values) (bs left : List Bound) (calls : List ShimCall) → left ≡ [] → AreCalled ps values bs left calls → Calls ps values (shimmed bs) (Ok calls)
called_end ps values bs left calls e s =
    subst (Calls ps values (shimmed bs)) (append-end calls) (s.onward (Ok []) (subst (λ xs. Calls ps values (shimmed xs) (Ok [])) (sym e) refl))

-- The checks before the calls.
module _ (ps : List Placed) (vars : List Var) where
  pub bound_refused : (e : PlanFault) → UnlessMemory e (option_map fault_by (binding_fault (all_bindings ps)) ≡ Some e) → UnlessMemory e (ShimsFrom ps vars (Err e))
  bound_refused e h = unless_memory e (by_fault (binding_fault (all_bindings ps))) h
    where
      by_fault : (o : Option ApplyFault) → option_map fault_by o ≡ Some e → ShimsBound ps vars o (Err e)
      by_fault None k = absurd (cc)
      by_fault (Some f) k = let same : e ≡ fault_by f = cc in ap (λ x. Err x) same

  pub bound_called : binding_fault (all_bindings ps) ≡ None → (new : List Var) → new ≡ bound ps [] vars → (bs : List Bound) → bs ≡ all_bindings ps → (r : Result (List ShimCall) PlanFault)
      → Tells (Calls ps (value_of new) (shimmed bs)) r → Tells (ShimsFrom ps vars) r
  bound_called n new v bs b r h = tells_map (Calls ps (value_of new) (shimmed bs)) (ShimsFrom ps vars)
      (λ q k. subst (λ o. ShimsBound ps vars o q) (sym n) (subst (λ vs. Calls ps (value_of vs) (shimmed (all_bindings ps)) q) v (subst (λ xs. Calls ps (value_of new) (shimmed xs) q) b k))) r h

module _ (s : Selections) (vars : List Var) (folders : List (Option (List ℕ))) where
  pub shims_unplaced : (e : PlanFault) → UnlessMemory e (option_map (λ interface. fault.NoFolder interface) (without_folder s.items folders) ≡ Some e) → UnlessMemory e (ShimsOf s vars folders (Err e))
  shims_unplaced e h = unless_memory e (by_folder (without_folder s.items folders)) h
    where
      by_folder : (o : Option (List ℕ)) → option_map (λ interface. fault.NoFolder interface) o ≡ Some e → ShimsPlaced (all_placed s.items folders) vars o (Err e)
      by_folder None k = absurd (cc)
      by_folder (Some i) k = let same : e ≡ fault.NoFolder i = cc in ap (λ f. Err f) same

  pub shims_placed : without_folder s.items folders ≡ None → (ps : List Placed) → ps ≡ all_placed s.items folders → (r : Result (List ShimCall) PlanFault) → Tells (ShimsFrom ps vars) r → Tells (ShimsOf s vars folders) r
  shims_placed w ps p r h = tells_map (ShimsFrom ps vars) (ShimsOf s vars folders)
      (λ q k. subst (λ o. ShimsPlaced (all_placed s.items folders) vars o q) (sym w) (subst (λ x. ShimsFrom x vars q) p k)) r h

-- Selections have one list of calls.
words_once : (ps : List Placed) (values : Values) (asked : Asked) (r q : Result (List (List ℕ)) PlanFault) → SaysWords ps values asked r → SaysWords ps values asked q → r ≡ q
words_once ps values asked r q (c, l, e) (d, m, f) = e ∙ ap (words_by values) (leads_once l m) ∙ sym f

same_fault : (e f : PlanFault) → ◌≡◌ {A = Result (List (List ℕ)) PlanFault} (Err e) (Err f) → ◌≡◌ {A = Result (List ShimCall) PlanFault} (Err e) (Err f)
same_fault e f h = let same : e ≡ f = cc in ap (λ x. Err x) same

never_both : (e : PlanFault) (ws : List (List ℕ)) → ◌≡◌ {A = Result (List (List ℕ)) PlanFault} (Err e) (Ok ws) → ⊥
never_both e ws h = cc

same_words : (ws us : List (List ℕ)) → ◌≡◌ {A = Result (List (List ℕ)) PlanFault} (Ok ws) (Ok us) → ws ≡ us
same_words ws us h = cc

calls_once : (ps : List Placed) (values : Values) (bs : List Bound) (r q : Result (List ShimCall) PlanFault) → Calls ps values bs r → Calls ps values bs q → r ≡ q
calls_once ps values [] r q h k = h ∙ sym k
calls_once ps values (b ∷ bs) r q (inl (e, w, h)) (inl (f, v, k)) = h ∙ same_fault e f (words_once ps values (asked_of b) (Err e) (Err f) w v) ∙ sym k
calls_once ps values (b ∷ bs) r q (inl (e, w, h)) (inr (ws, rest, v, c, k)) = absurd (never_both e ws (words_once ps values (asked_of b) (Err e) (Ok ws) w v))
calls_once ps values (b ∷ bs) r q (inr (ws, rest, v, c, k)) (inl (e, w, h)) = absurd (never_both e ws (words_once ps values (asked_of b) (Err e) (Ok ws) w v))
calls_once ps values (b ∷ bs) r q (inr (ws, rest, v, c, h)) (inr (us, other, w, d, k)) =
    h ∙ ap (λ x. behind_call (call_of b x) rest) (same_words ws us (words_once ps values (asked_of b) (Ok ws) (Ok us) v w))
    ∙ ap (behind_call (call_of b us)) (calls_once ps values bs rest other c d) ∙ sym k

bound_once : (ps : List Placed) (vars : List Var) (o : Option ApplyFault) (r q : Result (List ShimCall) PlanFault) → ShimsBound ps vars o r → ShimsBound ps vars o q → r ≡ q
bound_once ps vars (Some e) r q h k = h ∙ sym k
bound_once ps vars None r q h k = calls_once ps (value_of (bound ps [] vars)) (shimmed (all_bindings ps)) r q h k

placed_once : (ps : List Placed) (vars : List Var) (o : Option (List ℕ)) (r q : Result (List ShimCall) PlanFault) → ShimsPlaced ps vars o r → ShimsPlaced ps vars o q → r ≡ q
placed_once ps vars (Some i) r q h k = h ∙ sym k
placed_once ps vars None r q h k = bound_once ps vars (binding_fault (all_bindings ps)) r q h k

pub shims_once : (s : Selections) (vars : List Var) (folders : List (Option (List ℕ))) (r q : Result (List ShimCall) PlanFault) → ShimsOf s vars folders r → ShimsOf s vars folders q → r ≡ q
shims_once s vars folders r q h k = placed_once (all_placed s.items folders) vars (without_folder s.items folders) r q h k

-- There are as many calls as bindings, and they have their names.
named : (ps : List Placed) (values : Values) (bs : List Bound) (r : Result (List ShimCall) PlanFault) (calls : List ShimCall) → r ≡ Ok calls → Calls ps values bs r
    → map (λ (c : ShimCall). c.name) calls ≡ map (λ (b : Bound). shim_name b.binding) bs
named ps values [] r calls e h = let is : calls ≡ [] = cc in ap (map (λ (c : ShimCall). c.name)) is
named ps values (b ∷ bs) r calls e (inl (f, w, h)) = absurd (cc)
named ps values (b ∷ bs) r calls e (inr (ws, Err f, w, c, h)) = absurd (cc)
named ps values (b ∷ bs) r calls e (inr (ws, Ok rest, w, c, h)) =
    let is : calls ≡ call_of b ws ∷ rest = cc in
    ap (map (λ (x : ShimCall). x.name)) is ∙ ap (λ ns. shim_name b.binding ∷ ns) (named ps values bs (Ok rest) rest refl c)

module _ (s : Selections) (vars : List Var) (folders : List (Option (List ℕ))) (calls : List ShimCall) (h : ShimsOf s vars folders (Ok calls)) where
  all_called : (w : Option (List ℕ)) (o : Option ApplyFault) → w ≡ without_folder s.items folders → o ≡ binding_fault (all_bindings (all_placed s.items folders))
      → Calls (all_placed s.items folders) (value_of (bound (all_placed s.items folders) [] vars)) (shims_of s folders) (Ok calls)
  all_called (Some i) o e f = absurd (cc (subst (λ x. ShimsPlaced (all_placed s.items folders) vars x (Ok calls)) (sym e) h))
  all_called None (Some x) e f = absurd (cc (subst (λ y. ShimsBound (all_placed s.items folders) vars y (Ok calls)) (sym f) (subst (λ x. ShimsPlaced (all_placed s.items folders) vars x (Ok calls)) (sym e) h)))
  all_called None None e f = subst (λ y. ShimsBound (all_placed s.items folders) vars y (Ok calls)) (sym f) (subst (λ x. ShimsPlaced (all_placed s.items folders) vars x (Ok calls)) (sym e) h)

  pub calls_named : map (λ (c : ShimCall). c.name) calls ≡ map (λ (b : Bound). shim_name b.binding) (shims_of s folders)
  calls_named = named (all_placed s.items folders) _ (shims_of s folders) (Ok calls) calls refl (all_called (without_folder s.items folders) (binding_fault (all_bindings (all_placed s.items folders))) refl refl)

  pub calls_counted : length calls ≡ length (shims_of s folders)
  calls_counted = sym (length-map calls (λ (c : ShimCall). c.name)) ∙ ap length calls_named ∙ length-map (shims_of s folders) (λ (b : Bound). shim_name b.binding)
