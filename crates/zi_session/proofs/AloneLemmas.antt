-- A session that runs alone.
use Rattle.std.proofs.Common.{◌≡◌, ◌≢◌, ℕ, zero, suc, ◌+◌, ◌<◌, ◌≤◌, Bool, true, false, nat_lt, List, [], ◌∷◌, ◌++◌, length, Option, Some, None, ◌⊎◌, inl, inr, refl, sym, ◌∙◌, ap, subst, IsSome, slice_get, if◌then◌else◌, add-one, arith, below_more}
use Rattle.std.proofs.lemmas.Bool.{lt-ltb, ltb-true}
use Rattle.std.proofs.lemmas.Option.{slice_get_within}
use Rattle.std.proofs.lemmas.List.{append-nil, append_assoc}
use Rattle.zi_digest.specs.declared.DigestName.{DigestName}
use Rattle.zi_digest.specs.Name.{spelling}
use Rattle.zi_tree.specs.Dir.{Dir}
use Rattle.zi_manifest.specs.Manifest.{as_read, manifest}
use Rattle.zi_shelf.specs.Names.{Name, put, IsIn}
use Rattle.zi_shelf.specs.Shelved.{Top, Pending, Shelved, Call, MakeTop, Fill, Settle, Rename, SettleTop, RemoveTop, Reply, Did, Exists, Failed, Memory, Answers, Moves, Unknown}
use Rattle.zi_shelf.specs.Filling.{Work, trees}
use Rattle.zi_shelf.specs.Told.{Told, change_call, recorded}
use Rattle.zi_shelf.specs.Shelving.{Shelving}
use Rattle.zi_shelf.specs.declared.call.ShelfCall.{ShelfCall}
use Rattle.zi_session.specs.Machine.{World, Phase, Making, Filling, Settling, Renaming, Storing, Removing, Leaving, Ended, Stopped, Stored, Present, Crowded, Fault, filling, next_call, next_phase}
use Rattle.zi_session.specs.Made.{made}
use Rattle.zi_session.specs.Phases.{tmp_name, phase_of, is_over}
use Rattle.zi_session.specs.StoreWorks.{algorithm_in, store_works}
use Rattle.zi_session.specs.Standing.{Standing, standing}
use Rattle.zi_session.specs.Stepping.{Calls, CallsToEnd, Lead, IsAsLeft, IsRun, Says, SaysOn, moved}
use Rattle.zi_session.specs.Begun.{IsBegun}
use Rattle.zi_session.specs.Alone.{Tops, added, AreSame, Adds, Finds, FindsTaken, Stops, Ending, IsOwn, Grows, EndsAlone, AloneLaw, AsLeftLaw}
use Rattle.zi_session.specs.declared.phase.Phase.{Phase as SessionPhase}
use Rattle.zi_session.specs.declared.phase.Phase.TheVariants as in_phase
use Rattle.zi_session.specs.declared.session.Session.{Session}
use Rattle.zi_session.specs.declared.step.Step.{Step}
use Rattle.zi_session.specs.declared.step.Step.TheVariants.{More, Stored as SaysStored, Present as SaysPresent, Crowded as SaysCrowded, Fault as SaysFault, Memory as SaysMemory}
use Rattle.zi_session.proofs.MapsLemmas.{put-same, put-other, some_none}
use Rattle.zi_session.proofs.CallsLemmas.{fill_is, made_none, made_more, not_lt}
use Rattle.zi_session.proofs.FittingLemmas.{left_along}
use Rattle.zi_session.proofs.TiedLemmas.{no_tmp}
use Rattle.zi_session.proofs.Remade.{rebuilds}
use Rattle.zi_shelf.proofs.TopsLemmas.{same_or_not}

-- a temporary name that was free holds what so many of the calls make, with the mark or without it, and all else is as it was
record Holding (before : Tops) (its : List Work) (n k : ℕ) (mark : Bool) (now : Tops) : Type 0 where
  few : n < 10000
  free : before (tmp_name n) ≡ None
  part : Dir
  is : made trees its k trees.empty ≡ Some part
  there : now (tmp_name n) ≡ Some (record { tree = part; settled = mark })
  others : (x : Name) → x ≢ tmp_name n → now x ≡ before x

-- each temporary name before this one was there, and nothing has changed
record Trying (before : Tops) (n : ℕ) (now : Tops) : Type 0 where
  few : n < 10000
  taken : (k : ℕ) → k < n → IsSome (before (tmp_name k))
  same : AreSame before now

-- what the shelf holds in each phase of a session that runs alone
abbrev Alone : Name → Dir → Tops → Phase → Tops → Type 0
Alone name tree before (Making n) now = Trying before n now
Alone name tree before (Filling n k) now = Holding before (store_works name tree) n k false now
Alone name tree before (Settling n) now = Holding before (store_works name tree) n (length (store_works name tree)) false now
Alone name tree before (Renaming n) now = Holding before (store_works name tree) n (length (store_works name tree)) true now
Alone name tree before Storing now = Adds name tree before now
Alone name tree before (Removing n) now = IsSome (before name) × Holding before (store_works name tree) n (length (store_works name tree)) true now
Alone name tree before Leaving now = Finds name before now
Alone name tree before (Ended Stored) now = Adds name tree before now
Alone name tree before (Ended Present) now = Finds name before now
Alone name tree before (Ended Crowded) now = FindsTaken before now
Alone name tree before (Ended Fault) now = Stops name tree before now
Alone name tree before Stopped now = ⊥

-- the session has this name and the calls that fill for this tree
record IsOf (name : Name) (tree : Dir) (x : Standing) : Type 0 where
  named : x.name ≡ name
  makes : x.works ≡ store_works name tree

of_next : (name : Name) (tree : Dir) (x : Standing) (call : Call Work) → IsOf name tree x → next_call tmp_name x.works x.name x.phase ≡ Some call
    → next_call tmp_name (store_works name tree) name x.phase ≡ Some call
of_next name tree x call of next = subst (λ ws. next_call tmp_name ws name x.phase ≡ Some call) of.makes (subst (λ n. next_call tmp_name x.works n x.phase ≡ Some call) of.named next)

of_phase : (name : Name) (tree : Dir) (x y : Standing) (reply : Reply) → IsOf name tree x → y ≡ moved x reply → y.phase ≡ next_phase 10000 (length (store_works name tree)) x.phase reply
of_phase name tree x y reply of goes = ap (λ (z : Standing). z.phase) goes ∙ ap (λ ws. next_phase 10000 (length ws) x.phase reply) of.makes

of_moved : (name : Name) (tree : Dir) (x y : Standing) (reply : Reply) → IsOf name tree x → y ≡ moved x reply → IsOf name tree y
of_moved name tree x y reply of goes = record { named = ap (λ (z : Standing). z.name) goes ∙ of.named; makes = ap (λ (z : Standing). z.works) goes ∙ of.makes }

of_along : (name : Name) (tree : Dir) (n : ℕ) (x y : Standing) (s t : Told) → Lead n x s y t → IsOf name tree x → IsOf name tree y
of_along name tree zero x y s t (e, f) of = subst (λ (z : Standing). IsOf name tree z) (sym e) of
of_along name tree (suc n) x y s t (m, u, l, c) of = of_moved name tree m y c.reply (of_along name tree n x m s u l of) c.goes

-- what a change leaves under a name
top_after : (new : Shelved Dir) (tops : Tops) (pending : List (Pending Dir)) → new ≡ record { tops = tops; pending = pending } → (x : Name) → new.tops x ≡ tops x
top_after new tops pending is x = ap (λ (s : Shelved Dir). s.tops x) is

same_after : (new old : Shelved Dir) → new ≡ old → (x : Name) → new.tops x ≡ old.tops x
same_after new old is x = ap (λ (s : Shelved Dir). s.tops x) is

module _ (name : Name) (tree : Dir) (before : Tops) (apart : (n : ℕ) → name ≢ tmp_name n)
    (makes : made trees (store_works name tree) (length (store_works name tree)) trees.empty ≡ Some (added name tree).tree) where
  stops_same : (now : Tops) → AreSame before now → Stops name tree before now
  stops_same now same = record {
    kept = λ x e at. same x ∙ at;
    comes = λ free. inl (same name ∙ free);
    others = λ x ne off. same x;
  }

  stops_tmp : (n : ℕ) (now : Tops) → n < 10000 → before (tmp_name n) ≡ None → ((x : Name) → x ≢ tmp_name n → now x ≡ before x) → Stops name tree before now
  stops_tmp n now few free others = record {
    kept = λ x e at. others x (λ same. some_none (before x) e at (ap before same ∙ free)) ∙ at;
    comes = λ none. inl (others name (apart n) ∙ none);
    others = λ x ne off. others x (off n few);
  }

  stops_added : (now : Tops) → Adds name tree before now → Stops name tree before now
  stops_added now a = record {
    kept = λ x e at. a.others x (λ same. some_none (before x) e at (ap before same ∙ a.free)) ∙ at;
    comes = λ none. inr a.there;
    others = λ x ne off. a.others x ne;
  }

  -- in each phase what was there is there
  stops_in : (p : Phase) (now : Tops) → Alone name tree before p now → Stops name tree before now
  stops_in (Making n) now h = stops_same now h.same
  stops_in (Filling n k) now h = stops_tmp n now h.few h.free h.others
  stops_in (Settling n) now h = stops_tmp n now h.few h.free h.others
  stops_in (Renaming n) now h = stops_tmp n now h.few h.free h.others
  stops_in Storing now h = stops_added now h
  stops_in (Removing n) now h = stops_tmp n now h.1.few h.1.free h.1.others
  stops_in Leaving now h = stops_same now h.same
  stops_in (Ended Stored) now h = stops_added now h
  stops_in (Ended Present) now h = stops_same now h.same
  stops_in (Ended Crowded) now h = stops_same now h.same
  stops_in (Ended Fault) now h = h
  stops_in Stopped now h = absurd h

  -- the same phase on the same shelf
  still : (p : Phase) (s t : Shelved Dir) → t ≡ s → Alone name tree before p s.tops → Alone name tree before p t.tops
  still p s t is h = subst (λ (x : Shelved Dir). Alone name tree before p x.tops) (sym is) h

  stops_still : (p : Phase) (s t : Shelved Dir) → t ≡ s → Alone name tree before p s.tops → Stops name tree before t.tops
  stops_still p s t is h = stops_in p t.tops (still p s t is h)

  -- with so many of the calls done
  in_filling : (n k : ℕ) (part : Dir) (now : Tops) → n < 10000 → before (tmp_name n) ≡ None → made trees (store_works name tree) k trees.empty ≡ Some part
      → now (tmp_name n) ≡ Some (record { tree = part; settled = false }) → ((x : Name) → x ≢ tmp_name n → now x ≡ before x) → k ≤ length (store_works name tree)
      → Alone name tree before (filling n (length (store_works name tree)) k) now
  in_filling n k part now few free is there others le =
      elim (nat_lt k (length (store_works name tree))) as (λ t. (k < length (store_works name tree) → t ≡ true) → Alone name tree before (if t then Filling n k else Settling n) now) [
        | true ↦ λ h. record { few = few; free = free; part = part; is = is; there = there; others = others }
        | false ↦ λ h.
            let ge : length (store_works name tree) ≤ k = not_lt k (length (store_works name tree)) (λ lt. cc (h lt)) in
            let e : k ≡ length (store_works name tree) = omega arith in
            record { few = few; free = free; part = part; is = rw (← e) is; there = there; others = others }
      ] (λ lt. lt-ltb k (length (store_works name tree)) lt)

  -- a change under a temporary name alone
  off_tmp : (s t : Shelved Dir) (n : ℕ) (v : Option (Top Dir)) (pending : List (Pending Dir)) → t ≡ record { tops = put s.tops (tmp_name n) v; pending = pending }
      → ((x : Name) → x ≢ tmp_name n → s.tops x ≡ before x) → (x : Name) → x ≢ tmp_name n → t.tops x ≡ before x
  off_tmp s t n v pending is others x ne = top_after t (put s.tops (tmp_name n) v) pending is x ∙ put-other s.tops (tmp_name n) v x ne ∙ others x ne

  at_tmp : (s t : Shelved Dir) (n : ℕ) (v : Option (Top Dir)) (pending : List (Pending Dir)) → t ≡ record { tops = put s.tops (tmp_name n) v; pending = pending } → t.tops (tmp_name n) ≡ v
  at_tmp s t n v pending is = top_after t (put s.tops (tmp_name n) v) pending is (tmp_name n) ∙ put-same s.tops (tmp_name n) v

  unknown : (s t : Shelved Dir) (n : ℕ) → n < 10000 → before (tmp_name n) ≡ None → ((x : Name) → x ≢ tmp_name n → s.tops x ≡ before x) → Unknown s (tmp_name n) t → Stops name tree before t.tops
  unknown s t n few free others (what, is) = stops_tmp n t.tops few free (off_tmp s t n what s.pending is others)

  next_taken : (n : ℕ) (s : Shelved Dir) → Trying before n s.tops → IsSome (s.tops (tmp_name n)) → (k : ℕ) → k < n + 1 → IsSome (before (tmp_name k))
  next_taken n s h there = below_more (λ k. IsSome (before (tmp_name k))) n h.taken (subst (λ (o : Option (Top Dir)). IsSome o) (h.same (tmp_name n)) there)

  making : (s t : Shelved Dir) (n : ℕ) (reply : Reply) → Trying before n s.tops → Answers trees s (MakeTop (tmp_name n)) reply t
      → Alone name tree before (next_phase 10000 (length (store_works name tree)) (Making n) reply) t.tops
  making s t n Did h (free, is) =
      in_filling n 0 trees.empty t.tops h.few (sym (h.same (tmp_name n)) ∙ free) (made_none trees (store_works name tree) trees.empty)
      (at_tmp s t n (Some (record { tree = trees.empty; settled = false })) s.pending is)
      (off_tmp s t n (Some (record { tree = trees.empty; settled = false })) s.pending is (λ x ne. h.same x)) (omega arith)
  making s t n Exists h (there, is) =
      let taken = next_taken n s h there in
      let same = λ (x : Name). same_after t s is x ∙ h.same x in
      elim (nat_lt (n + 1) 10000) as (λ b. nat_lt (n + 1) 10000 ≡ b → Alone name tree before (if b then Making (n + 1) else Ended Crowded) t.tops) [
        | true ↦ λ e. record { few = ltb-true (n + 1) 10000 e; taken = taken; same = same }
        | false ↦ λ e.
            let all : 10000 ≤ n + 1 = not_lt (n + 1) 10000 (λ lt. let f : nat_lt (n + 1) 10000 ≡ true = lt-ltb (n + 1) 10000 lt in cc (e, f)) in
            record { taken = λ k less. taken k (let l : k < n + 1 = omega arith in l); same = same }
      ] refl
  making s t n Failed h (inl is) = stops_still (Making n) s t is h
  making s t n Failed h (inr (free, is)) =
      stops_tmp n t.tops h.few (sym (h.same (tmp_name n)) ∙ free) (off_tmp s t n (Some (record { tree = trees.empty; settled = false })) s.pending is (λ x ne. h.same x))
  making s t n Memory h is = still (Making n) s t is h

  fills : (s t : Shelved Dir) (n k : ℕ) (w : Work) (reply : Reply) → Holding before (store_works name tree) n k false s.tops → slice_get (store_works name tree) k ≡ Some w
      → Answers trees s (Fill (tmp_name n) w) reply t → Alone name tree before (next_phase 10000 (length (store_works name tree)) (Filling n k) reply) t.tops
  fills s t n k w Did h at (e, after, there, does, is) =
      let there' = h.there in
      let same : h.part ≡ e.tree = cc (there', there) in
      let inside : k < length (store_works name tree) = slice_get_within (store_works name tree) k w at in
      in_filling n (k + 1) after t.tops h.few h.free (rw add-one (made_more trees (store_works name tree) k w trees.empty h.part after at h.is (rw same does)))
      (at_tmp s t n (Some (record { tree = after; settled = false })) s.pending is)
      (off_tmp s t n (Some (record { tree = after; settled = false })) s.pending is h.others) (omega arith)
  fills s t n k w Exists h at a = absurd a
  fills s t n k w Failed h at a = unknown s t n h.few h.free h.others a
  fills s t n k w Memory h at is = still (Filling n k) s t is h

  settles : (s t : Shelved Dir) (n : ℕ) (reply : Reply) → Holding before (store_works name tree) n (length (store_works name tree)) false s.tops
      → Answers trees s (Settle (tmp_name n)) reply t → Alone name tree before (next_phase 10000 (length (store_works name tree)) (Settling n) reply) t.tops
  settles s t n Did h (e, there, is) =
      let there' = h.there in
      let same : h.part ≡ e.tree = cc (there', there) in
      record {
        few = h.few;
        free = h.free;
        part = e.tree;
        is = rw (← same) h.is;
        there = at_tmp s t n (Some (record { tree = e.tree; settled = true })) s.pending is;
        others = off_tmp s t n (Some (record { tree = e.tree; settled = true })) s.pending is h.others;
      }
  settles s t n Exists h a = absurd a
  settles s t n Failed h a = unknown s t n h.few h.free h.others a
  settles s t n Memory h is = still (Settling n) s t is h

  -- without the temporary entry all is as it was
  gone : (s : Shelved Dir) (n : ℕ) → before (tmp_name n) ≡ None → ((x : Name) → x ≢ tmp_name n → s.tops x ≡ before x) → (x : Name) → put s.tops (tmp_name n) None x ≡ before x
  gone s n free others x = elim (same_or_not x (tmp_name n)) [
    | inl here ↦ ap (put s.tops (tmp_name n) None) here ∙ put-same s.tops (tmp_name n) None ∙ sym free ∙ sym (ap before here)
    | inr off ↦ put-other s.tops (tmp_name n) None x off ∙ others x off
  ]

  -- the whole tree moves to the name
  moves : (s t : Shelved Dir) (n : ℕ) → Holding before (store_works name tree) n (length (store_works name tree)) true s.tops → Moves s (tmp_name n) name t → Adds name tree before t.tops
  moves s t n h (e, there, free, is) =
      let there' = h.there in
      let is_made = h.is in
      let whole : h.part ≡ (added name tree).tree = cc (is_made, makes) in
      let top : Top Dir = record { tree = h.part; settled = true } in
      let same : e ≡ top = cc (there', there) in
      let all : e ≡ added name tree = same ∙ ap (λ (d : Dir). let x : Top Dir = record { tree = d; settled = true } in x) whole in
      let mid = put s.tops (tmp_name n) None in
      record {
        free = sym (h.others name (apart n)) ∙ free;
        there = top_after t (put mid name (Some e)) _ is name ∙ put-same mid name (Some e) ∙ ap Some all;
        others = λ x ne. top_after t (put mid name (Some e)) _ is x ∙ put-other mid name (Some e) x ne ∙ gone s n h.free h.others x;
      }

  renames : (s t : Shelved Dir) (n : ℕ) (reply : Reply) → Holding before (store_works name tree) n (length (store_works name tree)) true s.tops
      → Answers trees s (Rename (tmp_name n) name) reply t → Alone name tree before (next_phase 10000 (length (store_works name tree)) (Renaming n) reply) t.tops
  renames s t n Did h a = moves s t n h a
  renames s t n Exists h (mine, there, is) = (subst (λ (o : Option (Top Dir)). IsSome o) (h.others name (apart n)) there, still (Renaming n) s t is h)
  renames s t n Failed h (inl is) = stops_still (Renaming n) s t is h
  renames s t n Failed h (inr a) = stops_added t.tops (moves s t n h a)
  renames s t n Memory h is = still (Renaming n) s t is h

  stores : (s t : Shelved Dir) (reply : Reply) → Adds name tree before s.tops → Answers trees s SettleTop reply t
      → Alone name tree before (next_phase 10000 (length (store_works name tree)) Storing reply) t.tops
  stores s t Did h is = record { free = h.free; there = top_after t s.tops [] is name ∙ h.there; others = λ x ne. top_after t s.tops [] is x ∙ h.others x ne }
  stores s t Exists h a = absurd a
  stores s t Failed h is = stops_still Storing s t is h
  stores s t Memory h is = still Storing s t is h

  leaves : (s t : Shelved Dir) (reply : Reply) → Finds name before s.tops → Answers trees s SettleTop reply t
      → Alone name tree before (next_phase 10000 (length (store_works name tree)) Leaving reply) t.tops
  leaves s t Did h is = record { there = h.there; same = λ x. top_after t s.tops [] is x ∙ h.same x }
  leaves s t Exists h a = absurd a
  leaves s t Failed h is = stops_still Leaving s t is h
  leaves s t Memory h is = still Leaving s t is h

  removes : (s t : Shelved Dir) (n : ℕ) (reply : Reply) → IsSome (before name) → Holding before (store_works name tree) n (length (store_works name tree)) true s.tops
      → Answers trees s (RemoveTop (tmp_name n)) reply t → Alone name tree before (next_phase 10000 (length (store_works name tree)) (Removing n) reply) t.tops
  removes s t n Did there h (e, at, is) = record {
    there = there;
    same = λ x. top_after t (put s.tops (tmp_name n) None) _ is x ∙ gone s n h.free h.others x;
  }
  removes s t n Exists there h a = absurd a
  removes s t n Failed there h (inl a) = unknown s t n h.few h.free h.others a
  removes s t n Failed there h (inr (mid, (e, at, is_mid), a)) = unknown mid t n h.few h.free (off_tmp s mid n None _ is_mid h.others) a
  removes s t n Memory there h is = (there, still (Renaming n) s t is h)

  -- a call that is known
  known : (s t : Shelved Dir) (call other : Call Work) (reply : Reply) → call ≡ other → Answers trees s call reply t → Answers trees s other reply t
  known s t call other reply e a = subst (λ c. Answers trees s c reply t) e a

  one_call : (s t : Shelved Dir) (p : Phase) (reply : Reply) (call : Call Work) → Alone name tree before p s.tops → next_call tmp_name (store_works name tree) name p ≡ Some call
      → Answers trees s call reply t → Alone name tree before (next_phase 10000 (length (store_works name tree)) p reply) t.tops
  one_call s t (Making n) reply call h m a = let e : call ≡ MakeTop (tmp_name n) = cc m in making s t n reply h (known s t call (MakeTop (tmp_name n)) reply e a)
  one_call s t (Filling n k) reply call h m a =
      let f = fill_is (tmp_name n) (slice_get (store_works name tree) k) call m in
      fills s t n k f.0 reply h f.1 (known s t call (Fill (tmp_name n) f.0) reply (sym f.2) a)
  one_call s t (Settling n) reply call h m a = let e : call ≡ Settle (tmp_name n) = cc m in settles s t n reply h (known s t call (Settle (tmp_name n)) reply e a)
  one_call s t (Renaming n) reply call h m a = let e : call ≡ Rename (tmp_name n) name = cc m in renames s t n reply h (known s t call (Rename (tmp_name n) name) reply e a)
  one_call s t Storing reply call h m a = let e : call ≡ SettleTop = cc m in stores s t reply h (known s t call SettleTop reply e a)
  one_call s t (Removing n) reply call h m a = let e : call ≡ RemoveTop (tmp_name n) = cc m in removes s t n reply h.0 h.1 (known s t call (RemoveTop (tmp_name n)) reply e a)
  one_call s t Leaving reply call h m a = let e : call ≡ SettleTop = cc m in leaves s t reply h (known s t call SettleTop reply e a)
  one_call s t (Ended a) reply call h m b = absurd (cc m)
  one_call s t Stopped reply call h m a = absurd (cc m)

  one_step : (x y : Standing) (s t : Told) (step : Step) → IsOf name tree x → Alone name tree before x.phase s.shelf.tops → Calls x s step y t → Alone name tree before y.phase t.shelf.tops
  one_step x y s t step of h c =
      subst (λ p. Alone name tree before p t.shelf.tops) (sym (of_phase name tree x y c.reply of c.goes)) (one_call s.shelf t.shelf x.phase c.reply c.call h (of_next name tree x c.call of c.next) c.does.answers)

  steps : (n : ℕ) (x y : Standing) (s t : Told) → IsOf name tree x → Alone name tree before x.phase s.shelf.tops → Lead n x s y t → Alone name tree before y.phase t.shelf.tops
  steps zero x y s t of h (e, f) = subst (λ (z : Standing). Alone name tree before z.phase t.shelf.tops) (sym e) (subst (λ (u : Told). Alone name tree before x.phase u.shelf.tops) (sym f) h)
  steps (suc n) x y s t of h (m, u, l, c) = one_step m y u t More (of_along name tree n x m s u l of) (steps n x m s u of h l) c

  -- the ending that an answer stands for
  ending_at : (step other : Step) (now : Tops) → step ≡ other → Ending name tree before other now → Ending name tree before step now
  ending_at step other now e h = subst (λ x. Ending name tree before x now) (sym e) h

  ending_of : (p q : Phase) (step : Step) (now : Tops) → step ≢ More → Says p q step → Alone name tree before q now → Ending name tree before step now
  ending_of p (Making n) step now ne says h = absurd (ne says)
  ending_of p (Filling n k) step now ne says h = absurd (ne says)
  ending_of p (Settling n) step now ne says h = absurd (ne says)
  ending_of p (Renaming n) step now ne says h = absurd (ne says)
  ending_of p Storing step now ne says h = absurd (ne says)
  ending_of p (Removing n) step now ne says h = absurd (ne says)
  ending_of p Leaving step now ne says h = absurd (ne says)
  ending_of p (Ended Stored) step now ne says h = ending_at step SaysStored now says h
  ending_of p (Ended Present) step now ne says h = ending_at step SaysPresent now says h
  ending_of p (Ended Crowded) step now ne says h = ending_at step (SaysCrowded 10000) now says (refl, h)
  ending_of p (Ended Fault) step now ne says h = ending_at step (SaysFault _) now says h
  ending_of p Stopped step now ne says h = absurd says

  ending_on : (p q : Phase) (reply : Reply) (step : Step) (now : Tops) → step ≢ More → SaysOn p reply q step → Alone name tree before q now → Ending name tree before step now
  ending_on p q Did step now ne says h = ending_of p q step now ne says h
  ending_on p q Exists step now ne says h = ending_of p q step now ne says h
  ending_on p q Failed step now ne says h = ending_of p q step now ne says h
  ending_on p q Memory step now ne says h = ending_at step SaysMemory now says (stops_in q now h)

-- the record

is_in_both : {X : Type 0} (x : X) (xs ys : List X) → IsIn x (xs ++ ys) → IsIn x xs ⊎ IsIn x ys
is_in_both x [] ys i = inr i
is_in_both x (z ∷ xs) ys (inl e) = inl (inl e)
is_in_both x (z ∷ xs) ys (inr i) = elim (is_in_both x xs ys i) [ inl j ↦ inl (inr j) | inr j ↦ inr j ]

grows_none : (name : Name) (tree : Dir) (before after : List ShelfCall) → after ≡ before → Grows name tree before after
grows_none name tree before after e = record { new = []; is = e ∙ sym (append-nil before); own = λ c i. absurd i }

grows_one : (name : Name) (tree : Dir) (before after : List ShelfCall) (call : ShelfCall) → IsOwn name tree call → after ≡ before ++ call ∷ [] → Grows name tree before after
grows_one name tree before after call own e = record {
  new = call ∷ [];
  is = e;
  own = λ c i. elim i [ inl same ↦ subst (λ x. IsOwn name tree x) (sym same) own | inr none ↦ absurd none ];
}

grows_on : (name : Name) (tree : Dir) (a b c : List ShelfCall) → Grows name tree a b → Grows name tree b c → Grows name tree a c
grows_on name tree a b c g h = record {
  new = g.new ++ h.new;
  is = h.is ∙ ap (λ l. l ++ h.new) g.is ∙ append_assoc a g.new h.new;
  own = λ x i. elim (is_in_both x g.new h.new i) [ inl j ↦ g.own x j | inr j ↦ h.own x j ];
}

grows_by : (name : Name) (tree : Dir) (before after : List ShelfCall) (call : ShelfCall) (reply : Reply) → IsOwn name tree call → after ≡ recorded before call reply → Grows name tree before after
grows_by name tree before after call Did own e = grows_one name tree before after call own e
grows_by name tree before after call Exists own e = grows_one name tree before after call own e
grows_by name tree before after call Failed own e = grows_one name tree before after call own e
grows_by name tree before after call Memory own e = grows_none name tree before after e

step_grows : (name : Name) (tree : Dir) (x y : Standing) (s t : Told) (step : Step) → IsOf name tree x → Calls x s step y t → Grows name tree s.calls t.calls
step_grows name tree x y s t step of c =
    grows_by name tree s.calls t.calls (change_call c.call) c.reply (record { phase = x.phase; call = c.call; makes = of_next name tree x c.call of c.next; recorded = refl }) c.does.calls

steps_grow : (name : Name) (tree : Dir) (n : ℕ) (x y : Standing) (s t : Told) → IsOf name tree x → Lead n x s y t → Grows name tree s.calls t.calls
steps_grow name tree zero x y s t of (e, f) = grows_none name tree s.calls t.calls (ap (λ (u : Told). u.calls) f)
steps_grow name tree (suc n) x y s t of (m, u, l, c) =
    grows_on name tree s.calls u.calls t.calls (steps_grow name tree n x m s u of l) (step_grows name tree m y u t More (of_along name tree n x m s u l of) c)

-- the last step of a run
ends_after : (name : Name) (tree : Dir) (x y : Standing) (s t : Told) (step : Step) → ((n : ℕ) → name ≢ tmp_name n)
    → made trees (store_works name tree) (length (store_works name tree)) trees.empty ≡ Some (added name tree).tree → as_read (added name tree).tree ≡ tree
    → IsOf name tree x → x.phase ≡ Making 0 → step ≢ More → CallsToEnd x s step y t → EndsAlone name tree s step t
ends_after name tree x y s t step apart makes read of at ne run =
    let m = run.there in
    let u = run.told in
    let c = run.last in
    let start : Alone name tree s.shelf.tops (Making 0) s.shelf.tops = record { few = omega arith; taken = λ k less. absurd (omega arith); same = λ n. refl } in
    let begin : Alone name tree s.shelf.tops x.phase s.shelf.tops = subst (λ p. Alone name tree s.shelf.tops p s.shelf.tops) (sym at) start in
    let there : Alone name tree s.shelf.tops m.phase u.shelf.tops = steps name tree s.shelf.tops apart makes run.number x m s u of begin run.first in
    let of_there : IsOf name tree m = of_along name tree run.number x m s u run.first of in
    record {
      tops = ending_on name tree s.shelf.tops apart makes m.phase y.phase c.reply step t.shelf.tops ne c.says (one_step name tree s.shelf.tops apart makes m y u t step of_there there c);
      calls = grows_on name tree s.calls u.calls t.calls (steps_grow name tree run.number x m s u of run.first) (step_grows name tree m y u t step of_there c);
      read = read;
    }

-- a session that has begun hasn't ended
open_at : (p : SessionPhase) (n k : ℕ) → Making 0 ≡ phase_of p n k → is_over p ≡ false
open_at in_phase.Makes n k e = refl
open_at in_phase.Fills n k e = absurd (cc e)
open_at in_phase.Settles n k e = absurd (cc e)
open_at in_phase.Renames n k e = absurd (cc e)
open_at in_phase.Stores n k e = absurd (cc e)
open_at in_phase.Removes n k e = absurd (cc e)
open_at in_phase.Leaves n k e = absurd (cc e)
open_at in_phase.IsStored n k e = absurd (cc e)
open_at in_phase.IsPresent n k e = absurd (cc e)
open_at in_phase.IsCrowded n k e = absurd (cc e)
open_at in_phase.IsUnmade n k e = absurd (cc e)
open_at in_phase.IsStuck n k e = absurd (cc e)
open_at in_phase.IsFaulty n k e = absurd (cc e)

pub begun_open : (name : DigestName) (tree : Dir) (x : Session) → IsBegun name tree x → is_over x.phase ≡ false
begun_open name tree x b = open_at x.phase x.number x.done b.stands.phase

pub alone_law : AloneLaw
alone_law name tree x s t step y b ne run =
    let world : World Dir = record { shelf = s.shelf; adders = [] } in
    let begins = (b.leads world).1 in
    let r = rebuilds tree (manifest (algorithm_in (spelling name)) tree) begins.0 begins.1 in
    let of : IsOf (spelling name) tree (standing x) = record { named = sym b.stands.named; makes = sym b.stands.makes } in
    ends_after (spelling name) tree (standing x) y s t step (no_tmp name) r.makes r.read of (sym b.stands.phase) ne run

-- the same over an honest shelf that tells what it holds
pub ends_alone : (name : DigestName) (tree : Dir) (x : Session) (y : Standing) (before after : Shelving) (s : Told) (step : Step) → IsBegun name tree x
    → before.honest → before.told ≡ Some s → step ≢ More → IsRun (standing x) before step y after → (t : Told) × (after.told ≡ Some t) × EndsAlone (spelling name) tree s step t
ends_alone name tree x y before after s step b honest told ne run =
    let r = run.calls s honest told in
    (r.0, r.1, alone_law name tree x s r.0 step y b ne r.2)

-- a session that has begun has no entry yet
pub begun_own : (name : DigestName) (tree : Dir) (x : Session) (s : Shelved Dir) → IsBegun name tree x → IsAsLeft (standing x).works (standing x).phase s
begun_own name tree x s b =
    let none : IsAsLeft (standing x).works (Making 0) s = tt in
    subst (λ p. IsAsLeft (standing x).works p s) b.stands.phase none

pub as_left_law : AsLeftLaw
as_left_law name tree x n s t y b lead = left_along n (standing x) y s t lead (begun_own name tree x s.shelf b)
