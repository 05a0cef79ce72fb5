-- What comes to the names is what the pick leaves.
use Rattle.std.proofs.Common.{◌≡◌, ◌+◌, ◌<◌, ◌≤◌, ℕ, zero, suc, Bool, true, false, not, List, [], ◌∷◌, ◌++◌, map, reverse, length, Option, Some, None, ◌⊎◌, inl, inr, refl, sym, ◌∙◌, ap, subst, nat_le, bytes_eq, slice_get, get_or, option_map, if◌then◌else◌, ◌&&◌, arith}
use Rattle.std.proofs.lemmas.Bool.{leb-true, leb-false, and_from, and_parts}
use Rattle.std.proofs.lemmas.Option.{slice_get_within, slice_get-map, get_or_from_slice_get}
use Rattle.std.proofs.lemmas.List.{reverse-reverse, length-reverse, length-map}
use Rattle.zi_tree.specs.Dir.{Dir}
use Rattle.zi_shelf.specs.Names.{Name, IsIn}
use Rattle.zi_shelf.specs.Shelved.{Top, Pending, Renamed, Removed, Shelved}
use Rattle.zi_shelf.specs.Crash.{names_before, removed, Source, Whence, Standing, Gone, standing}
use Rattle.zi_memory.specs.Picked.{back_at, gone_at, moment, GoesTo, Comes, IsPicked}
use Rattle.zi_memory.specs.Memory.{top_of, tops_of, are_apart}
use Rattle.zi_memory.specs.Comers.{may_stay, first_or, first_at, earlier, best, comer, added, removed_comers, standing_comers, no_entry}
use Rattle.zi_memory.specs.declared.top_entry.TopEntry.{TopEntry}
use Rattle.zi_memory.specs.declared.crash.Pick.{Pick}
use Rattle.zi_memory.specs.declared.crash.Comer.{Comer}
use Rattle.zi_shelf.proofs.TopsLemmas.{test_true, test_refl}
use Rattle.zi_memory.proofs.TopsLemmas.{apart_parts}
use Rattle.zi_memory.proofs.FirstLemmas.{name_back, goes_back, goes_there, first_is}
use Rattle.zi_text.proofs.ListLaws.{at_front, at_last, reverse_cons}

-- of two numbers
is_le : (a b : ℕ) → nat_le a b ≡ true → a ≤ b
is_le a b h = leb-true a b h

is_gt : (a b : ℕ) → nat_le a b ≡ false → b ≤ a
is_gt a b h = let l = leb-false a b h in omega (arith, l)

-- the best of a list is one of it, and none is earlier
earlier_one : (o : Option Comer) (c : Comer) → (earlier o c ≡ c) ⊎ (o ≡ Some (earlier o c))
earlier_one None c = inl refl
earlier_one (Some d) c = elim (nat_le d.older c.older) as (λ t. ((if t then d else c) ≡ c) ⊎ (Some d ≡ Some (if t then d else c))) [ true ↦ inr refl | false ↦ inl refl ]

earlier_least : (o : Option Comer) (c : Comer) → (earlier o c).older ≤ c.older
earlier_least None c = omega arith
earlier_least (Some d) c =
    elim (nat_le d.older c.older) as (λ t. nat_le d.older c.older ≡ t → (if t then d else c).older ≤ c.older) [ true ↦ λ h. is_le d.older c.older h | false ↦ λ h. omega arith ] refl

earlier_less : (d c : Comer) → (earlier (Some d) c).older ≤ d.older
earlier_less d c =
    elim (nat_le d.older c.older) as (λ t. nat_le d.older c.older ≡ t → (if t then d else c).older ≤ d.older) [ true ↦ λ h. omega arith | false ↦ λ h. is_gt d.older c.older h ] refl

pub best_in : (cs : List (Name × Comer)) (n : Name) (c : Comer) → best cs n ≡ Some c → IsIn (n, c) cs
best_in [] n c h = absurd (cc h)
best_in (x ∷ cs) n c h0 =
    elim (bytes_eq x.0 n) as (λ t. (t ≡ true → x.0 ≡ n) → (if t then Some (earlier (best cs n) x.1) else best cs n) ≡ Some c → IsIn (n, c) (x ∷ cs)) [
      | true ↦ λ same h.
          let is : earlier (best cs n) x.1 ≡ c = cc h in
          elim (earlier_one (best cs n) x.1) [
            | inl e ↦ inl (ap (λ k. (k, c)) (sym (same refl)) ∙ ap (λ y. (x.0, y)) (sym is ∙ e))
            | inr e ↦ inr (best_in cs n c (e ∙ ap Some is))
          ]
      | false ↦ λ same h. inr (best_in cs n c h)
    ] (test_true x.0 n) h0

abbrev IsLeast : Option Comer → Comer → Type 0
IsLeast None d = ⊥
IsLeast (Some c) d = c.older ≤ d.older

offered_less : (o : Option Comer) (c d : Comer) → IsLeast o d → (earlier o c).older ≤ d.older
offered_less None c d h = absurd h
offered_less (Some x) c d h = let l = earlier_less x c in omega (arith, l, h)

pub best_least : (cs : List (Name × Comer)) (n : Name) (d : Comer) → IsIn (n, d) cs → IsLeast (best cs n) d
best_least [] n d i = absurd i
best_least (x ∷ cs) n d i =
    elim (bytes_eq x.0 n) as (λ t. (x.0 ≡ n → t ≡ true) → IsLeast (if t then Some (earlier (best cs n) x.1) else best cs n) d) [
      | true ↦ λ same. elim i [
        | inl e ↦ subst (λ (y : Name × Comer). (earlier (best cs n) x.1).older ≤ y.1.older) (sym e) (earlier_least (best cs n) x.1)
        | inr j ↦ offered_less (best cs n) x.1 d (best_least cs n d j)
      ]
      | false ↦ λ same. elim i [
        | inl e ↦ absurd (cc (same (ap (λ (y : Name × Comer). y.0) (sym e))))
        | inr j ↦ best_least cs n d j
      ]
    ] (λ e. ap (λ k. bytes_eq k n) e ∙ test_refl n)

-- in a list with one more
pub in_added : (t : Bool) (x c : Name × Comer) (cs : List (Name × Comer)) → IsIn c (added t x cs) → ((t ≡ true) × (c ≡ x)) ⊎ IsIn c cs
in_added true x c cs (inl e) = inl (refl, e)
in_added true x c cs (inr i) = inr i
in_added false x c cs i = inr i

pub added_in : (t : Bool) (x c : Name × Comer) (cs : List (Name × Comer)) → IsIn c cs → IsIn c (added t x cs)
added_in true x c cs i = inr i
added_in false x c cs i = i

pub added_it : (t : Bool) (x : Name × Comer) (cs : List (Name × Comer)) → t ≡ true → IsIn x (added t x cs)
added_it true x cs h = inl refl
added_it false x cs h = absurd (cc h)

-- an entry that may stay
pub stays : (p : Pick) (settled : Bool) → may_stay p settled ≡ true → p.unsettled ≡ true → settled ≡ true
stays p true h u = refl
stays p false h u = let no : not p.unsettled ≡ false = ap not u in absurd (cc (h, no))

pub stays_so : (p : Pick) (settled : Bool) → (p.unsettled ≡ true → settled ≡ true) → may_stay p settled ≡ true
stays_so p true h = refl
stays_so p false h = elim p.unsettled as (λ t. (t ≡ true → false ≡ true) → not t ≡ true) [ true ↦ λ k. absurd (cc (k refl)) | false ↦ λ k. refl ] h

turned : {X : Type 0} (x : X) (xs : List X) → slice_get (reverse (x ∷ xs)) (length xs) ≡ Some x
turned x xs =
    ap (λ ys. slice_get ys (length xs)) (reverse_cons x xs) ∙ subst (λ k. slice_get (reverse xs ++ x ∷ []) k ≡ Some x) (length-reverse xs) (at_last (reverse xs) x)

-- the trees of the removed entries, the oldest first
abbrev pub removed_trees : List (Pending Dir) → List (Top Dir)
removed_trees ps = reverse (map (λ (s : Source Dir). s.top) (removed ps))

-- where a removed comer is from
abbrev pub IsRemoved : Pick → ℕ → List (Pending Dir) → Name × Comer → Type 0
IsRemoved p base ps c =
    (k : ℕ) × (was : Source Dir) × (j : ℕ) × (slice_get (removed ps) k ≡ Some was) × GoesTo p.renames was.names c.0 × (p.unsettled ≡ true → was.top.settled ≡ true) × (p.removals ≡ true)
    × (gone_at p.renames k ps ≡ c.1.older) × (c.1.place ≡ base + j) × (j + k + 1 ≡ length (removed ps)) × (slice_get (removed_trees ps) j ≡ Some was.top)

comer_of : Pick → ℕ → Name → List (Pending Dir) → Name × Comer
comer_of p place n older = comer (first_or (first_at p.renames n older) n (length older)) place

-- a comer by what the names say
abbrev pub said_comer : Pick → ℕ → Name → List (Pending Dir) → Name × Comer
said_comer p place n older = (name_back p.renames n (names_before n older), record { older = back_at p.renames n older; place = place })

pub comer_said : (p : Pick) (place : ℕ) (n : Name) (older : List (Pending Dir)) → comer (first_or (first_at p.renames n older) n (length older)) place ≡ said_comer p place n older
comer_said p place n older = ap (λ f. comer f place) (first_is p.renames n older)

newest_removed : (m : Name) (e : Top Dir) (older : List (Pending Dir)) → slice_get (removed_trees (Removed m e ∷ older)) (length (removed older)) ≡ Some e
newest_removed m e older = subst (λ k. slice_get (removed_trees (Removed m e ∷ older)) k ≡ Some e) (length-map (removed older) (λ (s : Source Dir). s.top)) (turned e (map (λ (s : Source Dir). s.top) (removed older)))

pub removed_sound : (p : Pick) (base : ℕ) (ps : List (Pending Dir)) (c : Name × Comer) → IsIn c (removed_comers p base ps) → IsRemoved p base ps c
removed_sound p base [] c i = absurd i
removed_sound p base (Renamed a b ∷ older) c i = removed_sound p base older c i
removed_sound p base (Removed m e ∷ older) c i =
    elim (in_added (p.removals && may_stay p e.settled) (comer (first_or (first_at p.renames m older) m (length older)) (base + length (removed older))) c (removed_comers p base older) i) [
      | inl (t, same) ↦
          let is : c ≡ said_comer p (base + length (removed older)) m older = same ∙ comer_said p (base + length (removed older)) m older in
          let parts = and_parts p.removals (may_stay p e.settled) t in
          let was : Source Dir = record { top = e; names = m ∷ names_before m older } in (
            0,
            was,
            length (removed older),
            refl,
            subst (λ (x : Name × Comer). GoesTo p.renames was.names x.0) (sym is) (goes_back p.renames m (names_before m older)),
            stays p e.settled parts.1,
            parts.0,
            ap (λ (x : Name × Comer). x.1.older) (sym is),
            ap (λ (x : Name × Comer). x.1.place) is,
            omega arith,
            newest_removed m e older,
          )
      | inr j ↦
          let (k, was, q, at, goes, may, back, age, place, number, tree) = removed_sound p base older c j in
          (suc k, was, q, at, goes, may, back, age, place, omega (arith, number), ap (λ ts. slice_get ts q) (reverse_cons e (map (λ (s : Source Dir). s.top) (removed older))) ∙ at_front (removed_trees older) (e ∷ []) q was.top tree)
    ]

-- a removed entry that comes back is a comer
pub removed_whole : (p : Pick) (base : ℕ) (ps : List (Pending Dir)) (k : ℕ) (was : Source Dir) (n : Name) → slice_get (removed ps) k ≡ Some was → GoesTo p.renames was.names n → (p.unsettled ≡ true → was.top.settled ≡ true)
    → p.removals ≡ true → (c : Comer) × IsIn (n, c) (removed_comers p base ps) × (c.older ≡ gone_at p.renames k ps)
removed_whole p base [] k was n at goes may back = absurd (cc at)
removed_whole p base (Renamed a b ∷ older) k was n at goes may back = removed_whole p base older k was n at goes may back
removed_whole p base (Removed m e ∷ older) zero was n at goes may back =
    let is : record { top = e; names = m ∷ names_before m older } ≡ was = cc at in
    let name : n ≡ name_back p.renames m (names_before m older) = goes_there p.renames m (names_before m older) n (subst (λ (w : Source Dir). GoesTo p.renames w.names n) (sym is) goes) in
    let x : Name × Comer = comer (first_or (first_at p.renames m older) m (length older)) (base + length (removed older)) in
    let said = comer_said p (base + length (removed older)) m older in
    let same : (n, x.1) ≡ x = ap (λ q. (q, x.1)) (name ∙ sym (ap (λ (y : Name × Comer). y.0) said)) in
    let settled : may_stay p e.settled ≡ true = stays_so p e.settled (subst (λ (w : Source Dir). p.unsettled ≡ true → w.top.settled ≡ true) (sym is) may) in (
      x.1,
      subst (λ y. IsIn y (removed_comers p base (Removed m e ∷ older))) (sym same) (added_it (p.removals && may_stay p e.settled) x (removed_comers p base older) (and_from p.removals (may_stay p e.settled) back settled)),
      ap (λ (y : Name × Comer). y.1.older) said,
    )
removed_whole p base (Removed m e ∷ older) (suc k) was n at goes may back =
    let (c, i, age) = removed_whole p base older k was n at goes may back in
    (c, added_in (p.removals && may_stay p e.settled) (comer (first_or (first_at p.renames m older) m (length older)) (base + length (removed older))) (n, c) (removed_comers p base older) i, age)

-- where a comer that stands is from
abbrev pub IsAmongStanding : Pick → List (Pending Dir) → List TopEntry → Name × Comer → Type 0
IsAmongStanding p pending es c = (e : TopEntry) × (j : ℕ) × (slice_get (reverse es) j ≡ Some e) × (c ≡ said_comer p j e.name pending) × (may_stay p e.settled ≡ true)

pub standing_sound : (p : Pick) (pending : List (Pending Dir)) (es : List TopEntry) (others : List (Name × Comer)) (c : Name × Comer) → IsIn c (standing_comers p pending es others) → IsAmongStanding p pending es c ⊎ IsIn c others
standing_sound p pending [] others c i = inr i
standing_sound p pending (e ∷ es) others c i =
    elim (in_added (may_stay p e.settled) (comer (first_or (first_at p.renames e.name pending) e.name (length pending)) (length es)) c (standing_comers p pending es others) i) [
      | inl (t, same) ↦ inl (e, length es, turned e es, same ∙ comer_said p (length es) e.name pending, t)
      | inr k ↦ elim (standing_sound p pending es others c k) [
        | inl (x, j, at, is, may) ↦ inl (x, j, ap (λ ts. slice_get ts j) (reverse_cons e es) ∙ at_front (reverse es) (e ∷ []) j x at, is, may)
        | inr l ↦ inr l
      ]
    ]

pub others_in : (p : Pick) (pending : List (Pending Dir)) (es : List TopEntry) (others : List (Name × Comer)) (c : Name × Comer) → IsIn c others → IsIn c (standing_comers p pending es others)
others_in p pending [] others c i = i
others_in p pending (e ∷ es) others c i =
    added_in (may_stay p e.settled) (comer (first_or (first_at p.renames e.name pending) e.name (length pending)) (length es)) c (standing_comers p pending es others) (others_in p pending es others c i)

-- an entry that stands and may stay is a comer
pub standing_whole : (p : Pick) (pending : List (Pending Dir)) (es : List TopEntry) (others : List (Name × Comer)) (e : TopEntry) → IsIn e es → may_stay p e.settled ≡ true
    → (j : ℕ) × IsIn (said_comer p j e.name pending) (standing_comers p pending es others)
standing_whole p pending [] others e i may = absurd i
standing_whole p pending (x ∷ es) others e i may =
    elim i [
      | inl same ↦
          let said = comer_said p (length es) x.name pending in
          let there = added_it (may_stay p x.settled) (comer (first_or (first_at p.renames x.name pending) x.name (length pending)) (length es)) (standing_comers p pending es others) (subst (λ (y : TopEntry). may_stay p y.settled ≡ true) same may) in
          (length es, subst (λ (y : TopEntry). IsIn (said_comer p (length es) y.name pending) (standing_comers p pending (x ∷ es) others)) (sym same) (subst (λ y. IsIn y (standing_comers p pending (x ∷ es) others)) said there))
      | inr k ↦
          let (j, there) = standing_whole p pending es others e k may in
          (j, added_in (may_stay p x.settled) (comer (first_or (first_at p.renames x.name pending) x.name (length pending)) (length es)) (said_comer p j e.name pending) (standing_comers p pending es others) there)
    ]

-- what stands under a name
top_there : (es : List TopEntry) (j : ℕ) (e : TopEntry) → are_apart es ≡ true → slice_get es j ≡ Some e → tops_of es e.name ≡ Some (top_of e)
top_there [] j e a h = absurd (cc h)
top_there (x ∷ es) zero e a h = let same : x ≡ e = cc h in subst (λ (y : TopEntry). tops_of (x ∷ es) y.name ≡ Some (top_of y)) same (rw (test_refl x.name) refl)
top_there (x ∷ es) (suc j) e a h =
    let p = apart_parts x es a in
    let there = top_there es j e p.1 h in
    elim (bytes_eq x.name e.name) as (λ t. (t ≡ true → x.name ≡ e.name) → (if t then Some (top_of x) else tops_of es e.name) ≡ Some (top_of e)) [
      | true ↦ λ same. let none : tops_of es e.name ≡ None = ap (tops_of es) (sym (same refl)) ∙ p.0 in absurd (cc (there, none))
      | false ↦ λ same. there
    ] (test_true x.name e.name)

tops_in : (es : List TopEntry) (n : Name) (t : Top Dir) → tops_of es n ≡ Some t → (e : TopEntry) × IsIn e es × (e.name ≡ n) × (top_of e ≡ t)
tops_in [] n t h = absurd (cc h)
tops_in (x ∷ es) n t h0 =
    elim (bytes_eq x.name n) as (λ b. (b ≡ true → x.name ≡ n) → (if b then Some (top_of x) else tops_of es n) ≡ Some t → (e : TopEntry) × IsIn e (x ∷ es) × (e.name ≡ n) × (top_of e ≡ t)) [
      | true ↦ λ same h. (x, inl refl, same refl, cc h)
      | false ↦ λ same h. (let (e, i, name, top) = tops_in es n t h in (e, inr i, name, top))
    ] (test_true x.name n) h0

in_front : {X : Type 0} (x : X) (xs ys : List X) → IsIn x xs → IsIn x (xs ++ ys)
in_front x [] ys i = absurd i
in_front x (y ∷ xs) ys i = elim i [ inl e ↦ inl e | inr j ↦ inr (in_front x xs ys j) ]

in_back : {X : Type 0} (x : X) (xs ys : List X) → IsIn x ys → IsIn x (xs ++ ys)
in_back x [] ys i = i
in_back x (y ∷ xs) ys i = inr (in_back x xs ys i)

in_turned : {X : Type 0} (x : X) (xs : List X) → IsIn x xs → IsIn x (reverse xs)
in_turned x [] i = absurd i
in_turned x (y ∷ xs) i = subst (IsIn x) (sym (reverse_cons y xs)) (elim i [ inl e ↦ in_back x (reverse xs) (y ∷ []) (inl e) | inr j ↦ in_front x (reverse xs) (y ∷ []) (in_turned x xs j) ])

behind : {X : Type 0} (xs ys : List X) (j : ℕ) → slice_get (xs ++ ys) (length xs + j) ≡ slice_get ys j
behind [] ys j = let e : 0 + j ≡ j = omega arith in ap (slice_get ys) e
behind (x ∷ xs) ys j = let e : suc (length xs) + j ≡ suc (length xs + j) = omega arith in ap (slice_get (x ∷ xs ++ ys)) e ∙ behind xs ys j

-- one name alone
pub goes_once : (renames : Bool) (names : List Name) (m n : Name) → GoesTo renames names m → GoesTo renames names n → m ≡ n
goes_once renames [] m n h k = absurd h
goes_once true (a ∷ names) m n h k = h ∙ sym k
goes_once false (a ∷ names) m n h k = h ∙ sym k

standing_is : (n : Name) (o : Option (Top Dir)) (ps : List (Pending Dir)) (was : Source Dir) → standing n o ps ≡ Some was → (o ≡ Some was.top) × (was.names ≡ n ∷ names_before n ps)
standing_is n None ps was h = absurd (cc h)
standing_is n (Some e) ps was h = (cc h, cc h)

mapped : {X Y : Type 0} (f : X → Y) (o : Option X) (y : Y) → option_map f o ≡ Some y → (x : X) × (o ≡ Some x) × (f x ≡ y)
mapped f None y h = absurd (cc h)
mapped f (Some x) y h = (x, refl, cc h)

unmapped : {X Y : Type 0} (f : X → Y) (o : Option X) → option_map f o ≡ None → o ≡ None
unmapped f None h = refl
unmapped f (Some x) h = absurd (cc h)

module _ (p : Pick) (es : List TopEntry) (pend : List (Pending Dir)) (apart : are_apart es ≡ true) where
  abbrev pub shelf_is : Shelved Dir
  shelf_is = record { tops = tops_of es; pending = pend }

  abbrev pub all : List (Name × Comer)
  all = standing_comers p pend (reverse es) (removed_comers p (length es) pend)

  -- the trees of the sources
  abbrev pub trees_at : List (Top Dir)
  trees_at = map top_of es ++ removed_trees pend

  -- a comer is an entry that may stand there
  abbrev pub IsFrom : Name → Comer → Type 0
  IsFrom n c = (w : Whence) × (e : Top Dir) × Comes p shelf_is w n e × (moment p.renames shelf_is w ≡ c.older) × (slice_get trees_at c.place ≡ Some e)

  from_standing : (n : Name) (c : Comer) → IsAmongStanding p pend (reverse es) (n, c) → IsFrom n c
  from_standing n c (e, j, at, is, may) =
      let here : slice_get es j ≡ Some e = ap (λ xs. slice_get xs j) (sym (reverse-reverse es)) ∙ at in
      let names : List Name = e.name ∷ names_before e.name pend in
      let name : n ≡ name_back p.renames e.name (names_before e.name pend) = ap (λ (x : Name × Comer). x.0) is in
      let older : c.older ≡ back_at p.renames e.name pend = ap (λ (x : Name × Comer). x.1.older) is in
      let place : c.place ≡ j = ap (λ (x : Name × Comer). x.1.place) is in (
        Standing e.name,
        top_of e,
        record {
          was = record { top = top_of e; names = names };
          is = ap (λ o. standing e.name o pend) (top_there es j e apart here);
          top = refl;
          goes = subst (λ k. GoesTo p.renames names k) (sym name) (goes_back p.renames e.name (names_before e.name pend));
          back = λ h. tt;
          stays = stays p e.settled may;
        },
        sym older,
        ap (slice_get trees_at) place ∙ at_front (map top_of es) (removed_trees pend) j (top_of e) (slice_get-map top_of es j ∙ ap (option_map top_of) here),
      )

  from_removed : (n : Name) (c : Comer) → IsRemoved p (length es) pend (n, c) → IsFrom n c
  from_removed n c (k, was, j, at, goes, may, back, age, place, number, tree) = (
    Gone k,
    was.top,
    record {
      was = was;
      is = at;
      top = refl;
      goes = goes;
      back = λ h. absurd (cc (back, h));
      stays = may;
    },
    age,
    ap (slice_get trees_at) (place ∙ ap (λ i. i + j) (sym (length-map es top_of))) ∙ behind (map top_of es) (removed_trees pend) j ∙ tree,
  )

  pub comer_from : (n : Name) (c : Comer) → IsIn (n, c) all → IsFrom n c
  comer_from n c i = elim (standing_sound p pend (reverse es) (removed_comers p (length es) pend) (n, c) i) [
    | inl h ↦ from_standing n c h
    | inr j ↦ from_removed n c (removed_sound p (length es) pend (n, c) j)
  ]

  -- an entry that may stand there is a comer
  pub comer_for : (w : Whence) (n : Name) (e : Top Dir) → Comes p shelf_is w n e → (c : Comer) × IsIn (n, c) all × (c.older ≡ moment p.renames shelf_is w)
  comer_for (Standing m) n e comes =
      let st = standing_is m (tops_of es m) pend comes.was comes.is in
      let (x, i, xm, top) = tops_in es m comes.was.top st.0 in
      let settled : may_stay p x.settled ≡ true = stays_so p x.settled (λ u. ap (λ (t : Top Dir). t.settled) (top ∙ comes.top) ∙ comes.stays u) in
      let (j, there) = standing_whole p pend (reverse es) (removed_comers p (length es) pend) x (in_turned x es i) settled in
      let name : n ≡ name_back p.renames m (names_before m pend) = goes_there p.renames m (names_before m pend) n (subst (λ ns. GoesTo p.renames ns n) st.1 comes.goes) in
      let c : Comer = record { older = back_at p.renames m pend; place = j } in
      (c, subst (λ (y : Name × Comer). IsIn y all) (ap (λ k. said_comer p j k pend) xm ∙ ap (λ k. (k, c)) (sym name)) there, refl)
  comer_for (Gone k) n e comes =
      let may : p.unsettled ≡ true → comes.was.top.settled ≡ true = λ u. ap (λ (t : Top Dir). t.settled) comes.top ∙ comes.stays u in
      let back : p.removals ≡ true = elim p.removals as (λ t. (t ≡ false → ⊥) → t ≡ true) [ true ↦ λ h. refl | false ↦ λ h. absurd (h refl) ] comes.back in
      let (c, i, age) = removed_whole p (length es) pend k comes.was n comes.is comes.goes may back in
      (c, others_in p pend (reverse es) (removed_comers p (length es) pend) (n, c) i, age)

  -- no two comers are in one place
  pub places_apart : (m n : Name) (c d : Comer) → IsIn (m, c) all → IsIn (n, d) all → c.place ≡ d.place → m ≡ n
  places_apart m n c d i j same =
      by_kind (standing_sound p pend (reverse es) (removed_comers p (length es) pend) (m, c) i) (standing_sound p pend (reverse es) (removed_comers p (length es) pend) (n, d) j)
    where
      place_below : (k : Name) (x : Comer) → IsAmongStanding p pend (reverse es) (k, x) → x.place < length es
      place_below k x (e, q, at, is, may) =
          let within = slice_get_within (reverse (reverse es)) q e at in
          let place : x.place ≡ q = ap (λ (y : Name × Comer). y.1.place) is in
          let long : length (reverse (reverse es)) ≡ length es = ap length (reverse-reverse es) in
          omega (arith, within, place, long)

      place_behind : (k : Name) (x : Comer) → IsRemoved p (length es) pend (k, x) → length es ≤ x.place
      place_behind k x (q, was, r, at, goes, may, back, age, place, number, tree) = omega (arith, place)

      by_kind : IsAmongStanding p pend (reverse es) (m, c) ⊎ IsIn (m, c) (removed_comers p (length es) pend) → IsAmongStanding p pend (reverse es) (n, d) ⊎ IsIn (n, d) (removed_comers p (length es) pend) → m ≡ n
      by_kind (inl (x, q, at, is, may)) (inl (y, r, there, so, can)) =
          let here : q ≡ r = sym (ap (λ (z : Name × Comer). z.1.place) is) ∙ same ∙ ap (λ (z : Name × Comer). z.1.place) so in
          let found : Some x ≡ Some y = sym at ∙ ap (slice_get (reverse (reverse es))) here ∙ there in
          let one : x ≡ y = cc found in
          ap (λ (z : Name × Comer). z.0) is ∙ ap (λ (z : TopEntry). name_back p.renames z.name (names_before z.name pend)) one ∙ sym (ap (λ (z : Name × Comer). z.0) so)
      by_kind (inl h) (inr k) =
          let below = place_below m c h in
          let above = place_behind n d (removed_sound p (length es) pend (n, d) k) in
          absurd (omega (arith, below, above, same))
      by_kind (inr k) (inl h) =
          let below = place_below n d h in
          let above = place_behind m c (removed_sound p (length es) pend (m, c) k) in
          absurd (omega (arith, below, above, same))
      by_kind (inr k) (inr l) =
          two_removed (removed_sound p (length es) pend (m, c) k) (removed_sound p (length es) pend (n, d) l)
        where
          two_removed : IsRemoved p (length es) pend (m, c) → IsRemoved p (length es) pend (n, d) → m ≡ n
          two_removed (q, was, j1, at, goes, may, back, age, place, number, tree) (r, were, j2, there, goes2, may2, back2, age2, place2, number2, tree2) =
              let here : q ≡ r = omega (arith, place, place2, number, number2, same) in
              let found : Some was ≡ Some were = sym at ∙ ap (slice_get (removed pend)) here ∙ there in
              let one : was ≡ were = cc found in
              goes_once p.renames were.names m n (subst (λ (z : Source Dir). GoesTo p.renames z.names m) one goes) goes2

  -- what is left of the best is what the pick leaves
  pub picked : (srcs : List TopEntry) (after : Name → Option (Top Dir)) → map top_of srcs ≡ trees_at
      → ((n : Name) → after n ≡ option_map (λ (c : Comer). top_of (get_or srcs c.place no_entry)) (best all n)) → IsPicked p shelf_is after
  picked srcs after trees is = record {
    stands = λ n e h.
        let (c, found, top) = mapped (λ (x : Comer). top_of (get_or srcs x.place no_entry)) (best all n) e (sym (is n) ∙ h) in
        let (w, t, comes, age, tree) = comer_from n c (best_in all n c found) in
        let it : top_of (get_or srcs c.place no_entry) ≡ t = at_place srcs c.place t (ap (λ ts. slice_get ts c.place) trees ∙ tree) in
        let same : t ≡ e = sym it ∙ top in (
          w,
          subst (Comes p shelf_is w n) same comes,
          λ v d other.
              let (x, i, late) = comer_for v n d other in
              let least : IsLeast (Some c) x = subst (λ o. IsLeast o x) found (best_least all n x i) in
              omega (arith, least, late, age),
        );
    nothing = λ n h w e comes.
        let (c, i, late) = comer_for w n e comes in
        subst (λ o. IsLeast o c) (unmapped (λ (x : Comer). top_of (get_or srcs x.place no_entry)) (best all n) (sym (is n) ∙ h)) (best_least all n c i);
  }
    where
      at_place : (xs : List TopEntry) (j : ℕ) (t : Top Dir) → slice_get (map top_of xs) j ≡ Some t → top_of (get_or xs j no_entry) ≡ t
      at_place xs j t h =
          let (x, here, top) = mapped top_of (slice_get xs j) t (sym (slice_get-map top_of xs j) ∙ h) in
          ap top_of (get_or_from_slice_get xs j x no_entry here) ∙ top
