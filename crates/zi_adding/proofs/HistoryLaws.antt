-- Trees that are tried one behind the other: how two such lists join, what stands under digests then, and what reading adds to that.
use Rattle.std.proofs.Common.{◌≡◌, ◌≢◌, ℕ, suc, ◌⊎◌, inl, inr, Bool, true, false, ◌&&◌, List, [], ◌∷◌, ◌++◌, Option, Some, None, refl, sym, ◌∙◌, ap, subst, arith, IsSome, All, Contains}
use Rattle.std.specs.List.{list_all}
use Rattle.std.proofs.lemmas.List.Elements.{All-nil, All-cons, All-append}
use Rattle.zi_digest.specs.Name.{spelling}
use Rattle.zi_tree.specs.Dir.{Dir}
use Rattle.zi_shelf.specs.Names.{Name}
use Rattle.zi_shelf.specs.Shelved.{Top, Shelved}
use Rattle.zi_shelf.specs.Shelving.{Shelving, Stays}
use Rattle.zi_text.specs.Count.{Rose}
use Rattle.zi_shelf.specs.Told.{Told}
use Rattle.zi_shelf.specs.declared.call.ShelfCall.{ShelfCall}
use Rattle.zi_shelf.specs.declared.call.CallKind.{CallKind}
use Rattle.zi_shelf.specs.declared.call.CallKind.TheVariants as kind
use Rattle.zi_store.specs.Keeping.{Keeps, is_reading, is_names}
use Rattle.zi_session.specs.Phases.{tmp_name}
use Rattle.zi_session.specs.StoreRules.{IsDigestName}
use Rattle.zi_session.specs.Alone.{Tops, Ending, EndsAlone, added}
use Rattle.zi_session.specs.declared.step.Step.{Step}
use Rattle.zi_session.specs.declared.step.Step.TheVariants as step
use Rattle.zi_session.proofs.TiedLemmas.{no_tmp}
use Rattle.zi_adding.specs.Trying.{Tried, IsRight, RunInTurn, HasEnded, IsDone, Costs, CostsAll, Adds}
use Rattle.zi_adding.specs.Gains.{Uses, IsKept, Gains, GainsOnly, KeepsTrees}
use Rattle.zi_shelf.proofs.TopsLemmas.{same_or_not}

-- each of them stands under its name
abbrev pub AreDone : List Tried → Type 0
AreDone [] = Unit {0}
AreDone (a ∷ rest) = IsDone a × AreDone rest

stays_then : (a b c : Shelving) → Stays a b → Stays b c → Stays a c
stays_then a b c p q = record {
  honest = λ x. q.honest (p.honest x);
  sure = λ x. q.sure (p.sure x);
  in_memory = λ x. q.in_memory (p.in_memory x);
  root = q.root ∙ p.root;
  plan = q.plan ∙ p.plan;
}

-- One list, and then another.

run_then : (xs ys : List Tried) (s m t : Told) → RunInTurn xs s m → RunInTurn ys m t → RunInTurn (xs ++ ys) s t
run_then [] ys s m t e r = subst (λ x. RunInTurn ys x t) e r
run_then (x ∷ xs) ys s m t (mid, first, rest) r = (mid, first, run_then xs ys mid m t rest r)

-- the cost of what is done is none
cost_done : (a : Tried) (before after : Shelving) → IsDone a → Costs a.answer before after → after.faults ≡ before.faults
cost_done a before after (inl e) c = subst (λ x. Costs x before after) e c
cost_done a before after (inr e) c = subst (λ x. Costs x before after) e c

pub calm_done : (xs : List Tried) (before after : Shelving) → AreDone xs → CostsAll xs before after → after.faults ≡ before.faults
calm_done [] before after d c = c
calm_done (x ∷ []) before after (d, ds) c = cost_done x before after d c
calm_done (x ∷ y ∷ xs) before after (d, ds) c = calm_done (y ∷ xs) before after ds c

done_cost : (a : Tried) (before after : Shelving) → IsDone a → after.faults ≡ before.faults → Costs a.answer before after
done_cost a before after (inl e) c = subst (λ x. Costs x before after) (sym e) c
done_cost a before after (inr e) c = subst (λ x. Costs x before after) (sym e) c

-- the cost counts from where the faults were the same
cost_from : (answer : Step) (a b c : Shelving) → b.faults ≡ a.faults → (a.sure → b.sure) → Costs answer b c → Costs answer a c
cost_from (step.Fault tmp) a b c e sure (rose, ne) = (subst (λ n. Rose n c.faults) e rose, λ s. ne (sure s))
cost_from step.Stored a b c e sure same = same ∙ e
cost_from step.Present a b c e sure same = same ∙ e
cost_from (step.Crowded tried) a b c e sure same = same ∙ e
cost_from step.Memory a b c e sure same = same ∙ e
cost_from step.More a b c e sure same = same ∙ e
cost_from step.Over a b c e sure same = same ∙ e

pub costs_from : (ys : List Tried) (a b c : Shelving) → b.faults ≡ a.faults → (a.sure → b.sure) → CostsAll ys b c → CostsAll ys a c
costs_from [] a b c e sure h = h ∙ e
costs_from (y ∷ []) a b c e sure h = cost_from y.answer a b c e sure h
costs_from (y ∷ z ∷ ys) a b c e sure h = costs_from (z ∷ ys) a b c e sure h

costs_then : (xs ys : List Tried) (a c : Shelving) → AreDone xs → CostsAll ys a c → CostsAll (xs ++ ys) a c
costs_then [] ys a c d h = h
costs_then (x ∷ []) [] a c (d, ds) h = done_cost x a c d h
costs_then (x ∷ []) (y ∷ ys) a c (d, ds) h = h
costs_then (x ∷ y ∷ xs) ys a c (d, ds) h = costs_then (y ∷ xs) ys a c ds h

none_of : (xs ys : List Tried) → xs ++ ys ≡ [] → (xs ≡ []) × (ys ≡ [])
none_of [] ys e = (refl, e)
none_of (x ∷ xs) ys e = absurd cc

pub adds_then : (xs ys : List Tried) (a b c : Shelving) → AreDone xs → Adds xs a b → Adds ys b c → Adds (xs ++ ys) a c
adds_then xs ys a b c done p q = record {
  ended = All-append HasEnded xs ys p.ended q.ended;
  alone = λ s h e.
      let m = p.alone s h e in
      let n = q.alone m.0 (p.stays.honest h) m.1 in
      (n.0, n.1, run_then xs ys s m.0 n.0 m.2 n.2);
  cost = costs_then xs ys a c done (costs_from ys a b c (calm_done xs a b done p.cost) p.stays.sure q.cost);
  later = omega (arith, p.later, q.later);
  idle = λ e. let n = none_of xs ys e in q.idle n.1 ∙ p.idle n.0;
  stays = stays_then a b c p.stays q.stays;
}

-- What stands under the names of a shelf.

pub not_tmp : (n : Name) → IsDigestName n → (k : ℕ) → n ≡ tmp_name k → ⊥
not_tmp n (d, is, named) k e = no_tmp d k (named ∙ e)

pub kept_by : (name : Name) (tree : Dir) (before : Tops) (answer : Step) (after : Tops) → Ending name tree before answer after → (n : Name) (e : Top Dir) → before n ≡ Some e → after n ≡ Some e
kept_by name tree before step.Stored after x n e at = x.others n (λ q. cc (ap before q, x.free, at)) ∙ at
kept_by name tree before step.Present after x n e at = x.same n ∙ at
kept_by name tree before (step.Crowded tried) after x n e at = x.1.same n ∙ at
kept_by name tree before (step.Fault tmp) after x n e at = x.kept n e at
kept_by name tree before step.Memory after x n e at = x.kept n e at
kept_by name tree before step.More after x n e at = absurd x
kept_by name tree before step.Over after x n e at = absurd x

pub others_by : (name : Name) (tree : Dir) (before : Tops) (answer : Step) (after : Tops) → Ending name tree before answer after → (n : Name) → IsDigestName n → n ≢ name → after n ≡ before n
others_by name tree before step.Stored after x n d ne = x.others n ne
others_by name tree before step.Present after x n d ne = x.same n
others_by name tree before (step.Crowded tried) after x n d ne = x.1.same n
others_by name tree before (step.Fault tmp) after x n d ne = x.others n ne (λ k l q. not_tmp n d k q)
others_by name tree before step.Memory after x n d ne = x.others n ne (λ k l q. not_tmp n d k q)
others_by name tree before step.More after x n d ne = absurd x
others_by name tree before step.Over after x n d ne = absurd x

-- under the name itself nothing has come, or the tree has
comes_by : (name : Name) (tree : Dir) (before : Tops) (answer : Step) (after : Tops) → Ending name tree before answer after → before name ≡ None → (after name ≡ None) ⊎ (after name ≡ Some (added name tree))
comes_by name tree before step.Stored after x e = inr x.there
comes_by name tree before step.Present after x e = inl (x.same name ∙ e)
comes_by name tree before (step.Crowded tried) after x e = inl (x.1.same name ∙ e)
comes_by name tree before (step.Fault tmp) after x e = x.comes e
comes_by name tree before step.Memory after x e = x.comes e
comes_by name tree before step.More after x e = absurd x
comes_by name tree before step.Over after x e = absurd x

pub some_kept : (o p : Option (Top Dir)) → IsSome o → ((e : Top Dir) → o ≡ Some e → p ≡ Some e) → IsSome p
some_kept (Some e) p h k = subst (λ x. IsSome x) (sym (k e refl)) refl
some_kept None p h k = absurd cc

kept_there : (a : Tried) (answer : Step) (before : Tops) (m t : Shelved Dir) → Ending (spelling a.name) a.tree before answer m.tops → ((n : Name) (e : Top Dir) → m.tops n ≡ Some e → t.tops n ≡ Some e) → IsKept t a answer
kept_there a step.Stored before m t x k = k (spelling a.name) _ x.there
kept_there a step.Present before m t x k = some_kept (m.tops (spelling a.name)) (t.tops (spelling a.name)) (subst (λ o. IsSome o) (sym (x.same (spelling a.name))) x.there) (k (spelling a.name))
kept_there a (step.Crowded tried) before m t x k = tt
kept_there a (step.Fault tmp) before m t x k = tt
kept_there a step.Memory before m t x k = tt
kept_there a step.More before m t x k = tt
kept_there a step.Over before m t x k = tt

abbrev Comes : List Tried → Tops → Name → Type 0
Comes tried tops n = (tops n ≡ None) ⊎ ((a : Tried) × Contains tried a × (n ≡ spelling a.name) × (tops n ≡ Some (added n a.tree)))

contains_more : (x : Tried) (xs : List Tried) (a : Tried) → Contains xs a → Contains (x ∷ xs) a
contains_more x xs a (k, lt, at) = (suc k, omega (arith, lt), at)

contains_first : (x : Tried) (xs : List Tried) → Contains (x ∷ xs) x
contains_first x xs = (0, omega arith, refl)

comes_more : (x : Tried) (xs : List Tried) (tops : Tops) (n : Name) → Comes xs tops n → Comes (x ∷ xs) tops n
comes_more x xs tops n (inl e) = inl e
comes_more x xs tops n (inr (a, c, named, there)) = inr (a, contains_more x xs a c, named, there)

gains_more : (x : Tried) (xs : List Tried) (s mid t : Told) → EndsAlone (spelling x.name) x.tree s x.answer mid → Gains xs mid.shelf t.shelf → Gains (x ∷ xs) s.shelf t.shelf
gains_more x xs s mid t leaves ih = record {
  kept = λ n y at. ih.kept n y (kept_by name x.tree s.shelf.tops x.answer mid.shelf.tops leaves.tops n y at);
  come = λ n d at. by n d at (same_or_not n name);
  there = All-cons (λ (a : Tried). IsKept t.shelf a a.answer) x xs (kept_there x x.answer s.shelf.tops mid.shelf t.shelf leaves.tops ih.kept) ih.there;
}
  where
    name : Name
    name = spelling x.name

    of_name : (n : Name) → n ≡ name → IsDigestName n → (mid.shelf.tops name ≡ None) ⊎ (mid.shelf.tops name ≡ Some (added name x.tree)) → Comes (x ∷ xs) t.shelf.tops n
    of_name n e d (inl free) = comes_more x xs t.shelf.tops n (ih.come n d (ap mid.shelf.tops e ∙ free))
    of_name n e d (inr there) =
        inr (x, contains_first x xs, e, subst (λ m. t.shelf.tops m ≡ Some (added m x.tree)) (sym e) (ih.kept name _ there))

    by : (n : Name) → IsDigestName n → s.shelf.tops n ≡ None → (n ≡ name) ⊎ (n ≢ name) → Comes (x ∷ xs) t.shelf.tops n
    by n d at (inl e) = of_name n e d (comes_by name x.tree s.shelf.tops x.answer mid.shelf.tops leaves.tops (ap s.shelf.tops (sym e) ∙ at))
    by n d at (inr ne) =
        comes_more x xs t.shelf.tops n (ih.come n d (others_by name x.tree s.shelf.tops x.answer mid.shelf.tops leaves.tops n d ne ∙ at))

gains_none : (s t : Shelved Dir) → t ≡ s → Gains [] s t
gains_none s t e = record {
  kept = λ n y at. ap (λ (x : Shelved Dir). x.tops n) e ∙ at;
  come = λ n d at. inl (ap (λ (x : Shelved Dir). x.tops n) e ∙ at);
  there = All-nil _;
}

run_gains : (xs : List Tried) (s t : Told) → RunInTurn xs s t → Gains xs s.shelf t.shelf
run_gains [] s t e = gains_none s.shelf t.shelf (ap (λ (x : Told). x.shelf) e)
run_gains (x ∷ xs) s t (mid, first, rest) = gains_more x xs s mid t first.leaves (run_gains xs mid t rest)

-- Reading before and behind it.

along : (xs : List Tried) (s a b t : Shelved Dir) → a ≡ s → t ≡ b → Gains xs a b → Gains xs s t
along xs s a b t e f g = subst (λ x. Gains xs s x) (sym f) (subst (λ x. Gains xs x b) e g)

pub uses_gain : (xs : List Tried) (before after : Shelving) → Uses xs before after → GainsOnly xs before after
uses_gain xs before after u = record {
  gains = λ s h e.
      let w = u.works s h e in
      (w.0, w.1, along xs s.shelf w.2.first.shelf w.2.last.shelf w.0.shelf w.2.before.same w.2.behind.same (run_gains xs w.2.first w.2.last w.2.between));
}

all_right : (xs : List Tried) → All HasEnded xs → All (λ (a : Tried). IsRight a.name a.tree) xs
all_right xs h = λ k d lt. (h k d lt).right

pub uses_keep : (xs : List Tried) (before after : Shelving) → Uses xs before after → KeepsTrees before after
uses_keep xs before after u = record { tried = xs; right = all_right xs u.ended; only = uses_gain xs before after u }

-- one session alone, whose steps are known by what it left
pub one_keeps : (a : Tried) (before after : Shelving) → IsRight a.name a.tree
    → ((s : Told) → before.honest → before.told ≡ Some s → (t : Told) × (after.told ≡ Some t) × EndsAlone (spelling a.name) a.tree s a.answer t) → KeepsTrees before after
one_keeps a before after right alone = record {
  tried = a ∷ [];
  right = All-cons (λ (x : Tried). IsRight x.name x.tree) a [] right (All-nil _);
  only = record {
    gains = λ s h e. let m = alone s h e in (m.0, m.1, gains_more a [] s m.0 m.0 m.2 (gains_none m.0.shelf m.0.shelf refl));
  };
}

-- a shelf that was only read, or not at all
pub reading_keeps : (kinds : CallKind → Bool) (before after : Shelving) → Keeps kinds before after → KeepsTrees before after
reading_keeps kinds before after k = record {
  tried = [];
  right = All-nil _;
  only = record { gains = λ s h e. let m = k.holds s h e in (m.0, m.1, gains_none s.shelf m.0.shelf m.2) };
}

pub told_keeps : (before after : Shelving) → after.told ≡ before.told → KeepsTrees before after
told_keeps before after same = record {
  tried = [];
  right = All-nil _;
  only = record { gains = λ s h e. (s, same ∙ e, gains_none s.shelf s.shelf refl) };
}

names_read : (k : CallKind) → is_names k ≡ true → is_reading k ≡ true
names_read kind.Names h = refl
names_read kind.Entries h = refl
names_read kind.Read h = refl
names_read kind.Target h = refl
names_read kind.MakeTop h = h
names_read kind.MakeFolder h = h
names_read kind.Append h = h
names_read kind.FinishFile h = h
names_read kind.MakeLink h = h
names_read kind.Settle h = h
names_read kind.Rename h = h
names_read kind.SettleTop h = h
names_read kind.RemoveTop h = h

and_both : (a b p q : Bool) → (a ≡ true → b ≡ true) → (p ≡ true → q ≡ true) → (a && p) ≡ true → (b && q) ≡ true
and_both false b p q f g h = absurd cc
and_both true b p q f g h = subst (λ z. (z && q) ≡ true) (sym (f refl)) (g h)

all_read : (cs : List ShelfCall) → list_all (λ (c : ShelfCall). is_names c.kind) cs ≡ true → list_all (λ (c : ShelfCall). is_reading c.kind) cs ≡ true
all_read [] h = refl
all_read (c ∷ cs) h = and_both (is_names c.kind) (is_reading c.kind) (list_all (λ (d : ShelfCall). is_names d.kind) cs) (list_all (λ (d : ShelfCall). is_reading d.kind) cs) (names_read c.kind) (all_read cs) h

pub names_only_read : (before after : Shelving) → Keeps is_names before after → Keeps is_reading before after
names_only_read before after k = record {
  holds = λ s h e. let m = k.holds s h e in (m.0, m.1, m.2, record { more = m.3.more; is = m.3.is; of_kind = all_read m.3.more m.3.of_kind });
  later = k.later;
  stays = k.stays;
}

pub reads_use : (xs : List Tried) (a b c d : Shelving) → Keeps is_reading a b → Adds xs b c → Keeps is_reading c d → Uses xs a d
reads_use xs a b c d p q r = record {
  ended = q.ended;
  works = λ s h e.
      let m = p.holds s h e in
      let n = q.alone m.0 (p.stays.honest h) m.1 in
      let o = r.holds n.0 (q.stays.honest (p.stays.honest h)) n.1 in
      (o.0, o.1, record { first = m.0; last = n.0; before = record { same = m.2; grows = m.3 }; between = n.2; behind = record { same = o.2; grows = o.3 } });
  later = omega (arith, p.later, q.later, r.later);
  stays = stays_then a b d p.stays (stays_then b c d q.stays r.stays);
}
