-- What each call of a shelf in memory does, as the shelf tells it.
use Rattle.std.proofs.Common.{nat_eq, ◌≡◌, ℕ, ◌+◌, ◌<◌, true, false, List, [], ◌∷◌, ◌++◌, map, reverse, length, Option, Some, None, refl, sym, ◌∙◌, ap, subst, is_some, IsSome, get_or, slice_set, remove, MatchOption}
use Rattle.std.specs.List.{list_any}
use Rattle.std.proofs.lemmas.List.{reverse-append}
use Rattle.zi_tree.specs.Dir.{Dir, Nothing}
use Rattle.zi_shelf.specs.Names.{Name, put}
use Rattle.zi_shelf.specs.Shelved.{Top, Pending, Renamed, Removed, Shelved, Call, MakeTop, Settle, Rename, SettleTop, RemoveTop, Reply, Did, Exists, Answers}
use Rattle.zi_memory.specs.declared.top_entry.TopEntry.{TopEntry}
use Rattle.zi_memory.specs.declared.top_entry.Later.{Later}
use Rattle.zi_memory.specs.declared.top_entry.Later.TheVariants.{RenamedTop, RemovedTop}
use Rattle.zi_shelf.specs.declared.call.ShelfCall.{ShelfCall}
use Rattle.zi_shelf.specs.Filling.{Work, trees}
use Rattle.zi_shelf.specs.Told.{Told, placed, FailsAsPlanned, Leads, recorded, change_call}
use Rattle.zi_memory.specs.Memory.{top_of, tops_of, are_apart, later_of, told_of, IsAt}
use Rattle.zi_shelf.proofs.TopsLemmas.{put_same}
use Rattle.zi_memory.proofs.TopsLemmas.{found_at, at_name, tops_set, tops_remove}

abbrev pub shelved : List TopEntry → List Later → Shelved Dir
shelved es ps = record { tops = tops_of es; pending = map later_of (reverse ps) }

-- one more pending one stands first in what the shelf is
newest_first : (ps ps' : List Later) (l : Later) → ps' ≡ ps ++ l ∷ [] → map later_of (reverse ps') ≡ later_of l ∷ map later_of (reverse ps)
newest_first ps ps' l e = ap (λ (q : List Later). map later_of (reverse q)) e ∙ ap (map later_of) (reverse-append ps (l ∷ []))

pub calls_more : (cs cs' : List ShelfCall) (c d : ShelfCall) → cs' ≡ cs ++ c ∷ [] → c ≡ d → cs' ≡ cs ++ d ∷ []
calls_more cs cs' c d e f = e ∙ ap (λ (x : ShelfCall). cs ++ x ∷ []) f

-- what an honest shelf that told the one goes on to tell
abbrev pub Led : Option Told → Call Work → Reply → Option Told → Type 0
Led before call reply after = (s : Told) → Unit {0} → before ≡ Some s → (t : Told) × (after ≡ Some t) × Leads s call reply t

pub does : (es es' : List TopEntry) (ps ps' : List Later) (cs cs' : List ShelfCall) (call : Call Work) (reply : Reply) → Answers trees (shelved es ps) call reply (shelved es' ps')
    → cs' ≡ recorded cs (change_call call) reply → Led (Some (told_of es ps cs)) call reply (Some (told_of es' ps' cs'))
does es es' ps ps' cs cs' call reply answers calls = λ s honest e.
    let same : told_of es ps cs ≡ s = cc e in
    (told_of es' ps' cs', refl, subst (λ x. Leads x call reply (told_of es' ps' cs')) same (record { answers = answers; calls = calls }))

-- an entry that may be unknown may be as it was
pub unknown_same : (es : List TopEntry) (ps : List Later) (n : Name) → (what : Option (Top Dir)) × (shelved es ps ≡ record { tops = put (tops_of es) n what; pending = map later_of (reverse ps) })
unknown_same es ps n = (tops_of es n, ap (λ (f : Name → Option (Top Dir)). let s : Shelved Dir = record { tops = f; pending = map later_of (reverse ps) } in s) (sym (put_same (tops_of es) n)))

-- what a search for a name tells
pub is_there : (es : List TopEntry) (n : Name) (o : Option ℕ) → MatchOption o (tops_of es n ≡ None) (λ i. (i < length es) × IsAt n es i) → is_some o ≡ true → IsSome (tops_of es n)
is_there es n None h t = absurd (cc t)
is_there [] n (Some i) h t = absurd h.1
is_there (x ∷ es) n (Some i) h t = rw (found_at (x ∷ es) n i x h.1) refl

pub is_free : (es : List TopEntry) (n : Name) (o : Option ℕ) → MatchOption o (tops_of es n ≡ None) (λ i. (i < length es) × IsAt n es i) → is_some o ≡ false → tops_of es n ≡ None
is_free es n None h t = h
is_free es n (Some i) h t = absurd (cc t)

pub exists_does : (es : List TopEntry) (ps : List Later) (cs cs' : List ShelfCall) (c : ShelfCall) (n : Name) → IsSome (tops_of es n) → cs' ≡ cs ++ c ∷ [] → c ≡ change_call (MakeTop n)
    → Led (Some (told_of es ps cs)) (MakeTop n) Exists (Some (told_of es ps cs'))
exists_does es ps cs cs' c n there e f = does es es ps ps cs cs' (MakeTop n) Exists (there, refl) (calls_more cs cs' c (change_call (MakeTop n)) e f)

-- shelves with equal maps are equal
pub same_shelf : (ps : List (Pending Dir)) (f g : Name → Option (Top Dir)) → f ≡ g → ◌≡◌ {A = Shelved Dir} (record { tops = f; pending = ps }) (record { tops = g; pending = ps })
same_shelf ps f g e = ap (λ (h : Name → Option (Top Dir)). let s : Shelved Dir = record { tops = h; pending = ps } in s) e

pub made_does : (es es' : List TopEntry) (ps : List Later) (cs cs' : List ShelfCall) (c : ShelfCall) (n m : Name) (tree : Dir) → tops_of es n ≡ None → m ≡ n → tree ≡ Nothing
    → tops_of es' ≡ put (tops_of es) m (Some (record { tree = tree; settled = false })) → cs' ≡ cs ++ c ∷ [] → c ≡ change_call (MakeTop n)
    → Led (Some (told_of es ps cs)) (MakeTop n) Did (Some (told_of es' ps cs'))
made_does es es' ps cs cs' c n m tree free en et ee e f =
    let map_is : tops_of es' ≡ put (tops_of es) n (Some (record { tree = Nothing; settled = false })) = ee ∙ ap (λ k. put (tops_of es) k (Some (record { tree = tree; settled = false }))) en ∙ ap (λ (t : Dir). put (tops_of es) n (Some (record { tree = t; settled = false }))) et in
    does es es' ps ps cs cs' (MakeTop n) Did (free, same_shelf (map later_of (reverse ps)) (tops_of es') (put (tops_of es) n (Some (record { tree = Nothing; settled = false }))) map_is) (calls_more cs cs' c (change_call (MakeTop n)) e f)

pub settled_does : (es : List TopEntry) (ps : List Later) (cs cs' : List ShelfCall) (c : ShelfCall) (n : Name) (i : ℕ) (x : TopEntry) → IsAt n es i → x ≡ get_or es i x → cs' ≡ cs ++ c ∷ [] → c ≡ change_call (Settle n)
    → Led (Some (told_of es ps cs)) (Settle n) Did (Some (told_of (slice_set es i (record { name = x.name; tree = x.tree; settled = true })) ps cs'))
settled_does es ps cs cs' c n i x at is e f =
    let y : TopEntry = record { name = x.name; tree = x.tree; settled = true } in
    let name : x.name ≡ n = ap (λ (t : TopEntry). t.name) is ∙ at_name es n i x at in
    let there : tops_of es n ≡ Some (top_of x) = found_at es n i x at ∙ ap (λ (t : TopEntry). Some (top_of t)) (sym is) in
    does es (slice_set es i y) ps ps cs cs' (Settle n) Did (top_of x, there, same_shelf (map later_of (reverse ps)) (tops_of (slice_set es i y)) (put (tops_of es) n (Some (top_of y))) (tops_set es n i y at name)) (calls_more cs cs' c (change_call (Settle n)) e f)

pub settled_top_does : (es : List TopEntry) (ps ps' : List Later) (cs cs' : List ShelfCall) (c : ShelfCall) → ps' ≡ [] → cs' ≡ cs ++ c ∷ [] → c ≡ change_call SettleTop
    → Led (Some (told_of es ps cs)) SettleTop Did (Some (told_of es ps' cs'))
settled_top_does es ps ps' cs cs' c none e f =
    does es es ps ps' cs cs' SettleTop Did (ap (λ (q : List Later). shelved es q) none) (calls_more cs cs' c (change_call SettleTop) e f)

pub exists_name_does : (es : List TopEntry) (ps : List Later) (cs cs' : List ShelfCall) (c : ShelfCall) (a b : Name) → IsSome (tops_of es a) → IsSome (tops_of es b) → cs' ≡ cs ++ c ∷ [] → c ≡ change_call (Rename a b)
    → Led (Some (told_of es ps cs)) (Rename a b) Exists (Some (told_of es ps cs'))
exists_name_does es ps cs cs' c a b from there e f = does es es ps ps cs cs' (Rename a b) Exists (from, there, refl) (calls_more cs cs' c (change_call (Rename a b)) e f)

pub renamed_does : (es es' : List TopEntry) (ps ps' : List Later) (cs cs' : List ShelfCall) (c : ShelfCall) (a b m a' b' : Name) (i : ℕ) (x : TopEntry) → IsAt a es i → are_apart es ≡ true → tops_of es b ≡ None → m ≡ b → a' ≡ a → b' ≡ b → x ≡ get_or es i x
    → tops_of es' ≡ put (tops_of (remove es i)) m (Some (top_of x)) → ps' ≡ ps ++ RenamedTop a' b' ∷ [] → cs' ≡ cs ++ c ∷ [] → c ≡ change_call (Rename a b)
    → Led (Some (told_of es ps cs)) (Rename a b) Did (Some (told_of es' ps' cs'))
renamed_does es es' ps ps' cs cs' c a b m a' b' i x at apart free em ea eb is ee ep e f =
    let there : tops_of es a ≡ Some (top_of x) = found_at es a i x at ∙ ap (λ (t : TopEntry). Some (top_of t)) (sym is) in
    let map_is : tops_of es' ≡ put (put (tops_of es) a None) b (Some (top_of x)) =
    ee ∙ ap (λ k. put (tops_of (remove es i)) k (Some (top_of x))) em ∙ ap (λ (g : Name → Option (Top Dir)). put g b (Some (top_of x))) (tops_remove es a i at apart) in
    let later_is : map later_of (reverse ps') ≡ Renamed a b ∷ map later_of (reverse ps) = newest_first ps ps' (RenamedTop a' b') ep ∙ rw (ea, eb) refl in
    let whole : shelved es' ps' ≡ record { tops = put (put (tops_of es) a None) b (Some (top_of x)); pending = Renamed a b ∷ map later_of (reverse ps) } =
    same_shelf (map later_of (reverse ps')) (tops_of es') (put (put (tops_of es) a None) b (Some (top_of x))) map_is
    ∙ ap (λ (p : List (Pending Dir)). let s : Shelved Dir = record { tops = put (put (tops_of es) a None) b (Some (top_of x)); pending = p } in s) later_is in
    does es es' ps ps' cs cs' (Rename a b) Did (top_of x, there, free, whole) (calls_more cs cs' c (change_call (Rename a b)) e f)

pub removed_does : (es es' : List TopEntry) (ps ps' : List Later) (cs cs' : List ShelfCall) (c : ShelfCall) (n : Name) (i : ℕ) (x : TopEntry) → IsAt n es i → are_apart es ≡ true → x ≡ get_or es i x
    → es' ≡ remove es i → ps' ≡ ps ++ RemovedTop x ∷ [] → cs' ≡ cs ++ c ∷ [] → c ≡ change_call (RemoveTop n)
    → Led (Some (told_of es ps cs)) (RemoveTop n) Did (Some (told_of es' ps' cs'))
removed_does es es' ps ps' cs cs' c n i x at apart is ee ep e f =
    let name : x.name ≡ n = ap (λ (t : TopEntry). t.name) is ∙ at_name es n i x at in
    let there : tops_of es n ≡ Some (top_of x) = found_at es n i x at ∙ ap (λ (t : TopEntry). Some (top_of t)) (sym is) in
    let map_is : tops_of es' ≡ put (tops_of es) n None = ap tops_of ee ∙ tops_remove es n i at apart in
    let later_is : map later_of (reverse ps') ≡ Removed n (top_of x) ∷ map later_of (reverse ps) = newest_first ps ps' (RemovedTop x) ep ∙ ap (λ k. Removed k (top_of x) ∷ map later_of (reverse ps)) name in
    let whole : shelved es' ps' ≡ record { tops = put (tops_of es) n None; pending = Removed n (top_of x) ∷ map later_of (reverse ps) } =
    same_shelf (map later_of (reverse ps')) (tops_of es') (put (tops_of es) n None) map_is
    ∙ ap (λ (p : List (Pending Dir)). let s : Shelved Dir = record { tops = put (tops_of es) n None; pending = p } in s) later_is in
    does es es' ps ps' cs cs' (RemoveTop n) Did (top_of x, there, whole) (calls_more cs cs' c (change_call (RemoveTop n)) e f)

-- a call that isn't among those that are to fail
pub not_planned : (plan : List ℕ) (es : List TopEntry) (ps : List Later) (cs : List ShelfCall) (n : ℕ) (reply : Reply) → n ≡ length cs + 1 → list_any (λ k. nat_eq k n) plan ≡ false
    → FailsAsPlanned plan (Some (told_of es ps cs)) reply
not_planned plan es ps cs n reply e f = record {
  fails = λ s t h.
      let same : told_of es ps cs ≡ s = cc t in
      let here : list_any (λ k. nat_eq k (length cs + 1)) plan ≡ true = subst (λ (x : Told). list_any (λ k. nat_eq k (length x.calls + 1)) plan ≡ true) (sym same) h in
      let there : list_any (λ k. nat_eq k (length cs + 1)) plan ≡ false = subst (λ m. list_any (λ k. nat_eq k m) plan ≡ false) e f in
      absurd (cc (here, there));
}

-- an entry that is put there
told_with : (ps : List Later) (cs : List ShelfCall) (f g : Name → Option (Top Dir)) → f ≡ g → ◌≡◌ {A = Told} (record { shelf = record { tops = f; pending = map later_of (reverse ps) }; calls = cs }) (record { shelf = record { tops = g; pending = map later_of (reverse ps) }; calls = cs })
told_with ps cs f g e = ap (λ (h : Name → Option (Top Dir)). let t : Told = record { shelf = record { tops = h; pending = map later_of (reverse ps) }; calls = cs } in t) e

pub placed_in : (es : List TopEntry) (ps : List Later) (cs : List ShelfCall) (n : Name) (i : ℕ) (x : TopEntry) (tree : Dir) → IsAt n es i → x ≡ get_or es i x
    → told_of (slice_set es i (record { name = x.name; tree = tree; settled = true })) ps cs ≡ placed (told_of es ps cs) n tree
placed_in es ps cs n i x tree at is =
    let y : TopEntry = record { name = x.name; tree = tree; settled = true } in
    let name : x.name ≡ n = ap (λ (t : TopEntry). t.name) is ∙ at_name es n i x at in
    told_with ps cs (tops_of (slice_set es i y)) (put (tops_of es) n (Some (top_of y))) (tops_set es n i y at name)

pub placed_new : (es es' : List TopEntry) (ps : List Later) (cs : List ShelfCall) (n m : Name) (tree : Dir) → m ≡ n → tops_of es' ≡ put (tops_of es) m (Some (record { tree = tree; settled = true }))
    → told_of es' ps cs ≡ placed (told_of es ps cs) n tree
placed_new es es' ps cs n m tree en ee =
    let entry : Option (Top Dir) = Some (record { tree = tree; settled = true }) in
    told_with ps cs (tops_of es') (put (tops_of es) n entry) (ee ∙ ap (λ k. put (tops_of es) k entry) en)
