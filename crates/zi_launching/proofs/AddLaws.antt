-- Shims that are added one behind the other.
use Rattle.std.proofs.Common.{◌≡◌, ℕ, inl, inr, Bool, true, false, ◌||◌, List, [], ◌∷◌, ◌++◌, ◌+◌, ◌<◌, ◌≤◌, length, take, get_or, map, refl, sym, ◌∙◌, ap, subst, arith, Ok, Err}
use Rattle.std.proofs.lemmas.List.{append-nil, take_more, take_all}
use Rattle.std.proofs.lemmas.List.Elements.{All-append}
use Rattle.std.proofs.lemmas.Option.{slice_get_read}
use Rattle.zi_digest.specs.declared.DigestName.{DigestName}
use Rattle.zi_digest.specs.Name.{spelling}
use Rattle.zi_shelf.specs.Shelving.{Shelving, Stays}
use Rattle.zi_shelf.specs.Told.{Told}
use Rattle.zi_store.specs.Keeping.{Keeps, is_reading}
use Rattle.zi_universe.specs.Naming.{with_one, joined}
use Rattle.zi_universe.proofs.NamingLemmas.{joined-append, map-append}
use Rattle.zi_plan.specs.declared.call.ShimCall.{ShimCall}
use Rattle.zi_adding.specs.declared.adding.Added.{Added}
use Rattle.zi_adding.specs.declared.adding.Added.TheVariants as added
use Rattle.zi_adding.specs.declared.adding.AddFault.{AddFault}
use Rattle.zi_adding.specs.Trying.{Tried, HasEnded, RunInTurn, Adds}
use Rattle.zi_adding.specs.Gains.{Uses}
use Rattle.zi_adding.specs.Answers.{AddsTree}
use Rattle.zi_adding.proofs.AddingLemmas.{adds_nothing}
use Rattle.zi_adding.proofs.HistoryLaws.{AreDone, adds_then}
use Rattle.zi_outcome.specs.declared.outcome.Outcome.{Outcome}
use Rattle.zi_outcome.specs.declared.outcome.Outcome.TheVariants.{Memory}
use Rattle.zi_fetching.specs.Known.{Names, is_known}
use Rattle.zi_fetching.specs.Fetching.{tried_names}
use Rattle.zi_fetching.specs.Outcomes.{unadded}
use Rattle.zi_launching.specs.Shims.{dir_of, shim_digest, AddsInTurn, StopsAdding, AddsOne, AddsShim, AddsShims, AddsThenReads}

-- One shim.

-- one digest is known where one of these is that has no other
pub of_one : (b c : Bool) → (b || false) ≡ c → b ≡ c
of_one true c e = e
of_one false c e = e

pub shim_unsure : (stored then : Names) (call : ShimCall) (shelf : Shelving) (outcome : Outcome) → outcome ≡ Memory → AddsShim stored call shelf (Err outcome) then shelf
shim_unsure stored then call shelf outcome e = record { tried = []; one = inl (e, refl); adds = adds_nothing shelf }

pub shim_there : (stored : Names) (call : ShimCall) (shelf : Shelving) (name : DigestName) → name ≡ shim_digest call → is_known stored name ≡ true → AddsShim stored call shelf (Ok name) stored shelf
shim_there stored call shelf name e known =
    record { tried = []; one = (e, inl (subst (λ d. is_known stored d ≡ true) e known, refl, refl)); adds = adds_nothing shelf }

module _ (stored then : Names) (call : ShimCall) (before after : Shelving) (name : DigestName) (is : name ≡ shim_digest call) (wanting : is_known stored name ≡ false) where
  unknown : is_known stored (shim_digest call) ≡ false
  unknown = subst (λ d. is_known stored d ≡ false) is wanting

  pub shim_added : then ≡ with_one stored (spelling name) → (how : Added) → AddsTree name (dir_of call) before after (Ok how) → AddsShim stored call before (Ok name) then after
  shim_added t added.Stored a = record {
    tried = a.tried;
    one = (is, inr (unknown, (_, a.ends, record { name = is; tree = refl; done = inl refl }, t)));
    adds = a.adds;
  }
  shim_added t added.Present a = record {
    tried = a.tried;
    one = (is, inr (unknown, (_, a.ends, record { name = is; tree = refl; done = inr refl }, t)));
    adds = a.adds;
  }

  pub shim_unadded : (fault : AddFault) (outcome : Outcome) → AddsTree name (dir_of call) before after (Err fault) → outcome ≡ unadded fault → AddsShim stored call before (Err outcome) then after
  shim_unadded fault outcome a e =
      let b = subst (λ d. AddsTree d (dir_of call) before after (Err fault)) is a in
      record { tried = b.tried; one = inr (unknown, (fault, e, b.ends)); adds = b.adds }

-- All of them.

pub names_then : (stored : Names) (xs ys : List Tried) → joined (joined stored (tried_names xs)) (tried_names ys) ≡ joined stored (tried_names (xs ++ ys))
names_then stored xs ys = sym (joined-append stored (tried_names xs) (tried_names ys)) ∙ ap (joined stored) (sym (map-append (λ (a : Tried). spelling a.name) xs ys))

-- one more
turn_then : (calls : List ShimCall) (call : ShimCall) (stored : Names) (tried more : List Tried) (name : DigestName) (then : Names)
    → AddsInTurn stored calls tried → AddsOne (joined stored (tried_names tried)) call (Ok name) more then → AddsInTurn stored (calls ++ call ∷ []) (tried ++ more)
turn_then [] call stored tried more name then none (e, inl (there, empty, same)) =
    inl (subst (λ ts. is_known (joined stored (tried_names ts)) (shim_digest call) ≡ true) none there, ap (λ ts. ts ++ more) none ∙ empty)
turn_then [] call stored tried more name then none (e, inr (wanting, (a, one, is, t))) =
    inr (subst (λ ts. is_known (joined stored (tried_names ts)) (shim_digest call) ≡ false) none wanting, (a, [], ap (λ ts. ts ++ more) none ∙ one, is, refl))
turn_then (c ∷ cs) call stored tried more name then (inl (there, rest)) one = inl (there, turn_then cs call stored tried more name then rest one)
turn_then (c ∷ cs) call stored tried more name then (inr (wanting, (a, rest, is, added_, turn))) one =
    inr (
      wanting,
      (
        a,
        rest ++ more,
        ap (λ ts. ts ++ more) is,
        added_,
        turn_then cs call (with_one stored (spelling a.name)) rest more name then turn
            (subst (λ ts. AddsOne (joined stored (tried_names ts)) call (Ok name) more then) is one),
      ),
    )

-- each that was tried is done
pub turn_done : (calls : List ShimCall) (stored : Names) (tried : List Tried) → AddsInTurn stored calls tried → AreDone tried
turn_done [] stored tried none = subst AreDone (sym none) tt
turn_done (c ∷ cs) stored tried (inl (there, rest)) = turn_done cs stored tried rest
turn_done (c ∷ cs) stored tried (inr (wanting, (a, rest, is, added_, turn))) =
    subst AreDone (sym is) (added_.done, turn_done cs (with_one stored (spelling a.name)) rest turn)

-- So far these were added.
pub record AreAdded (stored : Names) (calls : List ShimCall) (before : Shelving) (names : List DigestName) (then : Names) (now : Shelving) : Type 0 where
  pub tried : List Tried
  pub in_turn : AddsInTurn stored calls tried
  pub digests : names ≡ map shim_digest calls
  pub known : then ≡ joined stored (tried_names tried)
  pub adds : Adds tried before now

pub added_none : (stored : Names) (shelf : Shelving) (names : List DigestName) → names ≡ [] → AreAdded stored [] shelf names stored shelf
added_none stored shelf names e = record { tried = []; in_turn = refl; digests = e; known = refl; adds = adds_nothing shelf }

one_known : (stored : Names) (call : ShimCall) (name : DigestName) (tried : List Tried) (then : Names) → AddsOne stored call (Ok name) tried then → then ≡ joined stored (tried_names tried)
one_known stored call name tried then (e, inl (there, empty, same)) = same ∙ ap (λ ts. joined stored (tried_names ts)) (sym empty)
one_known stored call name tried then (e, inr (wanting, (a, one, is, t))) = t ∙ ap (λ ts. joined stored (tried_names ts)) (sym one)

added_more : (stored : Names) (calls : List ShimCall) (call : ShimCall) (before now last : Shelving) (names more : List DigestName) (name : DigestName) (then next : Names)
    → AreAdded stored calls before names then now → AddsShim then call now (Ok name) next last → more ≡ names ++ name ∷ [] → AreAdded stored (calls ++ call ∷ []) before more next last
added_more stored calls call before now last names more name then next s f m =
    let one = subst (λ n. AddsOne n call (Ok name) f.tried next) s.known f.one in
    record {
      tried = s.tried ++ f.tried;
      in_turn = turn_then calls call stored s.tried f.tried name next s.in_turn one;
      digests = m ∙ ap (λ ns. ns ++ name ∷ []) s.digests ∙ ap (λ d. map shim_digest calls ++ d ∷ []) one.0 ∙ sym (map-append shim_digest calls (call ∷ []));
      known = one_known _ call name f.tried next one ∙ names_then stored s.tried f.tried;
      adds = adds_then s.tried f.tried before now last (turn_done calls stored s.tried s.in_turn) s.adds f.adds;
    }

-- The loop over the calls.
pub added_next : (stored : Names) (calls : List ShimCall) (i : ℕ) (call : ShimCall) (before now last : Shelving) (names more : List DigestName) (name : DigestName) (then next : Names) → i < length calls → call ≡ get_or calls i call
    → AreAdded stored (take i calls) before names then now → AddsShim then call now (Ok name) next last → more ≡ names ++ name ∷ [] → AreAdded stored (take (i + 1) calls) before more next last
added_next stored calls i call before now last names more name then next lt at s f m =
    subst (λ cs. AreAdded stored cs before more next last) (sym (take_more calls i call lt ∙ ap (λ y. take i calls ++ y ∷ []) (sym at)))
    (added_more stored (take i calls) call before now last names more name then next s f m)

pub added_stops : (stored : Names) (calls : List ShimCall) (i : ℕ) (call : ShimCall) (before now last : Shelving) (names : List DigestName) (then next : Names) (outcome : Outcome) → i < length calls → call ≡ get_or calls i call
    → AreAdded stored (take i calls) before names then now → AddsShim then call now (Err outcome) next last → AddsShims stored calls before (Err outcome) next last
added_stops stored calls i call before now last names then next outcome lt at s f = record {
  tried = s.tried ++ f.tried;
  all = by f.one;
  adds = adds_then s.tried f.tried before now last (turn_done (take i calls) stored s.tried s.in_turn) s.adds f.adds;
}
  where
    by : AddsOne then call (Err outcome) f.tried next → StopsAdding stored calls outcome (s.tried ++ f.tried)
    by (inl (e, empty)) = inr (e, (i, subst (AddsInTurn stored (take i calls)) (sym (append-nil s.tried) ∙ ap (λ ts. s.tried ++ ts) (sym empty)) s.in_turn))
    by (inr (wanting, (fault, e, ends))) = inl (record {
      place = i;
      call = call;
      here = slice_get_read calls (length calls) i call refl lt at;
      done = s.tried;
      in_turn = s.in_turn;
      wanting = subst (λ n. is_known n (shim_digest call) ≡ false) s.known wanting;
      last = f.tried;
      all = refl;
      fault = fault;
      is = e;
      ends = ends;
    })

-- memory was refused behind some of them
pub added_short : (stored : Names) (calls : List ShimCall) (i : ℕ) (before now : Shelving) (names : List DigestName) (then : Names) (outcome : Outcome) → outcome ≡ Memory
    → AreAdded stored (take i calls) before names then now → AddsShims stored calls before (Err outcome) then now
added_short stored calls i before now names then outcome e s = record { tried = s.tried; all = inr (e, (i, s.in_turn)); adds = s.adds }

pub added_end : (stored : Names) (calls : List ShimCall) (i : ℕ) (before now : Shelving) (names : List DigestName) (then : Names) → length calls ≤ i → AreAdded stored (take i calls) before names then now
    → AddsShims stored calls before (Ok names) then now
added_end stored calls i before now names then le s = record {
  tried = s.tried;
  all = (
    s.digests ∙ ap (map shim_digest) (take_all i calls le),
    subst (λ cs. AddsInTurn stored cs s.tried) (take_all i calls le) s.in_turn,
    s.known,
  );
  adds = s.adds;
}

-- What was added, and then read.

run_both : (xs ys : List Tried) (s m t : Told) → RunInTurn xs s m → RunInTurn ys m t → RunInTurn (xs ++ ys) s t
run_both [] ys s m t e h = subst (λ x. RunInTurn ys x t) e h
run_both (x ∷ xs) ys s m t (mid, first, rest) h = (mid, first, run_both xs ys mid m t rest h)

stays_both : (a b c : Shelving) → Stays a b → Stays b c → Stays a c
stays_both a b c p q = record {
  honest = λ x. q.honest (p.honest x);
  sure = λ x. q.sure (p.sure x);
  in_memory = λ x. q.in_memory (p.in_memory x);
  root = q.root ∙ p.root;
  plan = q.plan ∙ p.plan;
}

pub adds_read : (xs : List Tried) (a b c : Shelving) → Adds xs a b → Keeps is_reading b c → AddsThenReads xs a c
adds_read xs a b c q r = record {
  ended = q.ended;
  works = λ s h e.
      let n = q.alone s h e in
      let o = r.holds n.0 (q.stays.honest h) n.1 in
      (n.0, o.0, o.1, n.2, record { same = o.2; grows = o.3 });
  later = omega (arith, q.later, r.later);
  stays = stays_both a b c q.stays r.stays;
}

-- behind other sessions
pub adds_more : (xs ys : List Tried) (a b c : Shelving) → Adds xs a b → AddsThenReads ys b c → AddsThenReads (xs ++ ys) a c
adds_more xs ys a b c p q = record {
  ended = All-append HasEnded xs ys p.ended q.ended;
  works = λ s h e.
      let m = p.alone s h e in
      let n = q.works m.0 (p.stays.honest h) m.1 in
      (n.0, n.1, n.2, run_both xs ys s m.0 n.0 m.2 n.3, n.4);
  later = omega (arith, p.later, q.later);
  stays = stays_both a b c p.stays q.stays;
}

-- behind reading
pub read_use : (xs : List Tried) (a b c : Shelving) → Keeps is_reading a b → AddsThenReads xs b c → Uses xs a c
read_use xs a b c p q = record {
  ended = q.ended;
  works = λ s h e.
      let m = p.holds s h e in
      let n = q.works m.0 (p.stays.honest h) m.1 in
      (n.1, n.2, record { first = m.0; last = n.0; before = record { same = m.2; grows = m.3 }; between = n.3; behind = n.4 });
  later = omega (arith, p.later, q.later);
  stays = stays_both a b c p.stays q.stays;
}
