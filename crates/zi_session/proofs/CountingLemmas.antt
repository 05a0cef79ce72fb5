-- How many calls an adder makes.
use Rattle.std.proofs.Common.{◌≡◌, ◌≢◌, ◌≤◌, ℕ, zero, suc, ◌+◌, ◌-◌, Bool, true, false, ℤ, pos, List, [], ◌∷◌, ◌++◌, map, length, Some, refl, sym, ◌∙◌, ap, subst, slice_get, nat_lt, if◌then◌else◌, arith}
use Rattle.std.proofs.lemmas.List.{length-append, length-map}
use Rattle.std.proofs.lemmas.Option.{slice_get_within}
use Rattle.zi_digest.specs.Name.{spelling}
use Rattle.zi_tree.specs.Dir.{Dir, Nothing, AFile, ALink, AFolder}
use Rattle.zi_manifest.specs.Manifest.{own_name, manifest}
use Rattle.zi_shelf.specs.Names.{Name}
use Rattle.zi_shelf.specs.Shelved.{Shelved, Call, Settle, SettleTop, RemoveTop, Reply, Did, Exists, Failed, Memory, Answers}
use Rattle.zi_shelf.specs.Filling.{Work, Append, FinishFile, trees}
use Rattle.zi_session.specs.Machine.{Phase, Making, Filling, Settling, Renaming, Storing, Removing, Leaving, Ended, Stopped, Crowded, filling, next_call, next_phase}
use Rattle.zi_session.specs.Phases.{tmp_name}
use Rattle.zi_session.specs.Works.{pieces, file_works, below, leaf_works, folder_works, node_works, works_of}
use Rattle.zi_session.specs.StoreWorks.{algorithm_in, store_works}
use Rattle.zi_session.specs.Standing.{Standing, standing}
use Rattle.zi_session.specs.Counting.{nodes, file_pieces, found_taken, MakesCall, MakesCalls, FewCalls}
use Rattle.zi_session.proofs.CallsLemmas.{fill_is}

-- The calls that fill.

count_file : (path : List (List ℕ)) (b : List ℕ) (e : Bool) (t : ℤ) → length (file_works path b e t) ≡ length (pieces b) + 1
count_file path b e t = length-append (map (Append path) (pieces b)) (FinishFile path e t ∷ []) ∙ ap (λ n. n + 1) (length-map (pieces b) (Append path))

count_nodes : (d : Dir) → length (leaf_works d) + length (folder_works d) ≡ nodes d + file_pieces d
count_nodes Nothing = refl
count_nodes (AFile n b e t rest) =
    omega (arith, length-append (file_works (n ∷ []) b e t) (leaf_works rest), count_file (n ∷ []) b e t, count_nodes rest)
count_nodes (ALink n t rest) = omega (arith, count_nodes rest)
count_nodes (AFolder n inside rest) =
    omega (
      arith,
      length-append (map (below (n ∷ [])) (leaf_works inside ++ folder_works inside)) (folder_works rest),
      length-map (leaf_works inside ++ folder_works inside) (below (n ∷ [])),
      length-append (leaf_works inside) (folder_works inside),
      count_nodes inside,
      count_nodes rest,
    )

count_works : (d : Dir) (text : List ℕ) → length (works_of d text) ≡ nodes d + file_pieces d + (length (pieces text) + 1)
count_works d text =
    omega (
      arith,
      length-append (node_works d) (file_works (own_name ∷ []) text false (pos 0)),
      length-append (leaf_works d) (folder_works d),
      count_nodes d,
      count_file (own_name ∷ []) text false (pos 0),
    )

-- The calls that are left.

-- so many at most, where all is the number of those that fill
abbrev left_in : ℕ → Phase → ℕ
left_in all (Making n) = all + 5
left_in all (Filling n k) = (all - k) + 4
left_in all (Settling n) = 4
left_in all (Renaming n) = 3
left_in all (Removing n) = 2
left_in all Storing = 1
left_in all Leaving = 1
left_in all (Ended a) = 0
left_in all Stopped = 0

left_filling : (n k all : ℕ) → left_in all (filling n all k) ≤ (all - k) + 4
left_filling n k all = elim (nat_lt k all) as (λ b. left_in all (if b then Filling n k else Settling n) ≤ (all - k) + 4) [ true ↦ omega arith | false ↦ omega arith ]

left_tries : (n all : ℕ) (b : Bool) → left_in all (if b then Making (n + 1) else Ended Crowded) ≤ all + 5
left_tries n all true = omega arith
left_tries n all false = omega arith

spends_fill : (name : Name) (ws : List Work) (n k : ℕ) (reply : Reply) (call : Call Work) (s t : Shelved Dir) → next_call tmp_name ws name (Filling n k) ≡ Some call → reply ≢ Memory
    → Answers trees s call reply t → left_in (length ws) (next_phase 10000 (length ws) (Filling n k) reply) + 1 ≤ left_in (length ws) (Filling n k)
spends_fill name ws n k Memory call s t m given a = absurd (given refl)
spends_fill name ws n k Failed call s t m given a = omega arith
spends_fill name ws n k Exists call s t m given a =
    let f = fill_is (tmp_name n) (slice_get ws k) call m in absurd (subst (λ c. Answers trees s c Exists t) (sym f.2) a)
spends_fill name ws n k Did call s t m given a =
    let f = fill_is (tmp_name n) (slice_get ws k) call m in
    omega (arith, left_filling n (k + 1) (length ws), slice_get_within ws k f.0 f.1)

-- one call takes one of those that are left, or finds a temporary name taken
spends : (name : Name) (ws : List Work) (p : Phase) (reply : Reply) (call : Call Work) (s t : Shelved Dir) → next_call tmp_name ws name p ≡ Some call → reply ≢ Memory
    → Answers trees s call reply t → left_in (length ws) (next_phase 10000 (length ws) p reply) + 1 ≤ left_in (length ws) p + found_taken p reply
spends name ws p Memory call s t m given a = absurd (given refl)
spends name ws (Making n) Failed call s t m given a = omega arith
spends name ws (Making n) Did call s t m given a = omega (arith, left_filling n 0 (length ws))
spends name ws (Making n) Exists call s t m given a = omega (arith, left_tries n (length ws) (nat_lt (n + 1) 10000))
spends name ws (Filling n k) reply call s t m given a = omega (arith, spends_fill name ws n k reply call s t m given a)
spends name ws (Settling n) Failed call s t m given a = omega arith
spends name ws (Settling n) Did call s t m given a = omega arith
spends name ws (Settling n) Exists call s t m given a = let e : call ≡ Settle (tmp_name n) = cc m in absurd (subst (λ c. Answers trees s c Exists t) e a)
spends name ws (Renaming n) Failed call s t m given a = omega arith
spends name ws (Renaming n) Did call s t m given a = omega arith
spends name ws (Renaming n) Exists call s t m given a = omega arith
spends name ws Storing Failed call s t m given a = omega arith
spends name ws Storing Did call s t m given a = omega arith
spends name ws Storing Exists call s t m given a = let e : call ≡ SettleTop = cc m in absurd (subst (λ c. Answers trees s c Exists t) e a)
spends name ws (Removing n) Failed call s t m given a = omega arith
spends name ws (Removing n) Did call s t m given a = omega arith
spends name ws (Removing n) Exists call s t m given a = let e : call ≡ RemoveTop (tmp_name n) = cc m in absurd (subst (λ c. Answers trees s c Exists t) e a)
spends name ws Leaving Failed call s t m given a = omega arith
spends name ws Leaving Did call s t m given a = omega arith
spends name ws Leaving Exists call s t m given a = let e : call ≡ SettleTop = cc m in absurd (subst (λ c. Answers trees s c Exists t) e a)
spends name ws (Ended a) reply call s t m given b = absurd (cc m)
spends name ws Stopped reply call s t m given a = absurd (cc m)

spends_one : (name : Name) (ws : List Work) (p q : Phase) (taken : ℕ) → MakesCall name ws p q taken → left_in (length ws) q + 1 ≤ left_in (length ws) p + taken
spends_one name ws p q taken c =
    rw (c.phase, c.finds) (spends name ws p c.reply c.call c.before c.after c.makes c.given c.answers)

spends_all : (name : Name) (ws : List Work) (n : ℕ) (p q : Phase) (taken : ℕ) → MakesCalls name ws n p q taken → n + left_in (length ws) q ≤ left_in (length ws) p + taken
spends_all name ws zero p q taken (e, none) = rw (e, none) (omega arith)
spends_all name ws (suc n) p q taken (m, first, last, before, call, sum) =
    omega (arith, spends_all name ws n p m first before, spends_one name ws m q last call, sum)

pub few_calls : FewCalls
few_calls name tree x n taken q b calls =
    let here : Standing = standing x in
    let its : here.works ≡ store_works (spelling name) tree = sym b.stands.makes in
    let at : here.phase ≡ Making 0 = sym b.stands.phase in
    let from = subst (λ p. MakesCalls here.name here.works n p q taken) at calls in
    let all : n + left_in (length here.works) q ≤ (length here.works + 5) + taken = spends_all here.name here.works n (Making 0) q taken from in
    let many : length here.works ≡ nodes tree + file_pieces tree + (length (pieces (manifest (algorithm_in (spelling name)) tree)) + 1) =
    ap length its ∙ count_works tree (manifest (algorithm_in (spelling name)) tree) in
    omega (arith, all, many)
