-- Rows by their packages, and those that were picked.
use Rattle.std.proofs.Common.{◌≡◌, ℕ, ◌+◌, ◌<◌, Bool, true, false, cond, ◌||◌, List, [], ◌∷◌, ◌++◌, length, take, get_or, refl, sym, ap, subst, ◌∙◌, append-nil, append_assoc, bytes_eq, Option, None, arith, eqb}
use Rattle.std.specs.Prelude.{fold, slice_get, Some, if◌then◌else◌, not, unwrap_or}
use Rattle.std.specs.Borrow.{Bor}
use Rattle.std.specs.Map.{lookup}
use Rattle.std.proofs.lemmas.List.{map-append}
use Rattle.std.proofs.lemmas.List.Elements.{All-push, All-nil, filter-append}
use Rattle.std.proofs.lemmas.Option.{slice_get-get_or}
use Rattle.std.proofs.lemmas.Slice.Eq.{bytes_eq-Decides}
use Rattle.std.proofs.lemmas.Bool.{both_ways}
use Rattle.std.proofs.lemmas.Bool.Decides.{nat_tests}
use Rattle.zi_parts.specs.declared.types.Impl.{Impl}
use Rattle.zi_parts.specs.declared.types.Native.{Native}
use Rattle.zi_packages.specs.Table.{is_listed}
use Rattle.zi_packages.specs.Natives.{row_id, row_impl, is_for, rows_of, made_by, made_of, offered_rows, ids_of, with_new, with_rows}
use Rattle.zi_packages.specs.Picks.{picked, all_picked, AreAt, HasPicked, made_named, all_named, AreNamedAt, rows_in, FindsRows, AddsRow, HasNamed}
use Rattle.zi_packages.specs.declared.types.Packages.{Packages}
use Rattle.zi_packages.specs.declared.types.PackageRow.{PackageRow}
use Rattle.zi_packages.specs.declared.named.Pick.{Pick}
use Rattle.zi_packages.specs.declared.named.Named.{Named}
use Rattle.zi_packages.proofs.RowLaws.{ids_push, old_new, new_new, listed_push, Covers, covered, still_covered, now_covered, take_next, flat_next, flat_push, made_for}

same_bytes : (x y : List ℕ) → bytes_eq x y ≡ true → x ≡ y
same_bytes x y e = (bytes_eq-Decides x y).0 e

not_true : (b : Bool) → not b ≡ true → b ≡ false
not_true true e = absurd (cc)
not_true false e = refl

not_false : (b : Bool) → not b ≡ false → b ≡ true
not_false true e = refl
not_false false e = absurd (cc)

not_zero : (n : ℕ) → 0 < n → eqb n 0 ≡ false
not_zero n some = grind (arith, nat_tests)

pub no_items : {X : Type 0} (xs : List X) → true ≡ eqb (length xs) 0 → xs ≡ []
no_items [] e = refl
no_items (x ∷ xs) e = absurd (both_ways (eqb (length (x ∷ xs)) 0) (not_zero (length (x ∷ xs)) (omega arith)) (sym e))

-- a text was added to a set that hasn't got it, or to one that has it
added : (t : List ℕ) (old new : List (List ℕ)) → is_listed t old ≡ false → new ≡ (if is_listed t old then old else old ++ t ∷ []) → new ≡ old ++ t ∷ []
added t old new absent e = e ∙ ap (λ b. if b then old else old ++ t ∷ []) absent

kept : (t : List ℕ) (old new : List (List ℕ)) → is_listed t old ≡ true → new ≡ (if is_listed t old then old else old ++ t ∷ []) → new ≡ old
kept t old new there e = e ∙ ap (λ b. if b then old else old ++ t ∷ []) there

-- The map.

abbrev Entries : Type 0
Entries = List (Bor (List ℕ) × List PackageRow)

abbrev lent : List ℕ → Bor (List ℕ)
lent text = record { ref_ptr = (0, 0); now = text }

abbrev found_at : List ℕ → Entries → Option (List PackageRow)
found_at q entries = lookup (λ (k : Bor (List ℕ)). bytes_eq q k.now) entries

-- the rows of a package are taken out, and put back with one more
pub adds_row : (r : PackageRow) (t : Bor (List ℕ)) (old mid new : Entries) (those more : List PackageRow) → t.now ≡ r.«package»
    → those ≡ rows_in old t.now → more ≡ those ++ r ∷ []
    → ((q : Bor (List ℕ)) → found_at q.now mid ≡ cond (bytes_eq t.now q.now) None (found_at q.now old))
    → ((q : Bor (List ℕ)) → found_at q.now new ≡ cond (bytes_eq t.now q.now) (Some more) (found_at q.now mid))
    → AddsRow r old new
adds_row r t old mid new those more named taken grown out put = λ name.
    ap (λ o. unwrap_or o []) (put (lent name) ∙ ap (cond (bytes_eq t.now name) (Some more)) (out (lent name)))
    ∙ by_test name (bytes_eq t.now name) refl
    ∙ ap (λ u. rows_in old name ++ (if bytes_eq u name then r ∷ [] else [])) named
  where
    by_test : (name : List ℕ) (b : Bool) → bytes_eq t.now name ≡ b
        → unwrap_or (cond b (Some more) (cond b None (found_at name old))) [] ≡ rows_in old name ++ (if bytes_eq t.now name then r ∷ [] else [])
    by_test name true e =
        grown ∙ ap (λ q. q ++ r ∷ []) (taken ∙ ap (rows_in old) (same_bytes t.now name e)) ∙ ap (λ b. rows_in old name ++ (if b then r ∷ [] else [])) (sym e)
    by_test name false e = sym (append-nil (rows_in old name)) ∙ ap (λ b. rows_in old name ++ (if b then r ∷ [] else [])) (sym e)

pub finds_none : (rows : List PackageRow) (entries : Entries) → rows ≡ [] → entries ≡ [] → FindsRows rows entries
finds_none rows entries none empty =
    let P : List PackageRow → Type 0 = λ q. FindsRows q entries in
    subst P (sym none) (subst (λ es. FindsRows [] es) (sym empty) (λ name. refl))

pub finds_more : (rows : List PackageRow) (k : ℕ) (r : PackageRow) (old new : Entries) → k < length rows → r ≡ get_or rows k r → AddsRow r old new → FindsRows (take k rows) old → FindsRows (take (k + 1) rows) new
finds_more rows k r old new lt at adds finds = λ name.
    adds name ∙ ap (λ q. q ++ rows_of (r ∷ []) name) (finds name)
    ∙ sym (ap (λ q. rows_of q name) (take_next rows k r lt at) ∙ filter-append (λ (q : PackageRow). bytes_eq q.«package» name) (take k rows) (r ∷ []))

-- Packages that are named.

pub named_none : (t : Packages) (ns : List Native) (seen : List (List ℕ)) (cs : List Named) → seen ≡ [] → cs ≡ [] → HasNamed t ns 0 seen cs
named_none t ns seen cs no_seen none =
    let P : List Named → Type 0 = λ q. HasNamed t ns 0 seen q in
    let Q : List (List ℕ) → Type 0 = λ q. HasNamed t ns 0 q [] in
    subst P (sym none) (subst Q (sym no_seen) (record {
      same = λ is. refl;
      covered = λ name e is. absurd (cc);
      at = All-nil (λ (c : Named). slice_get ns c.at ≡ Some c.native.now);
    }))

module _ (t : Packages) (ns : List Native) (k : ℕ) (n : Native) (lt : k < length ns) (at : n ≡ get_or ns k n) (seen : List (List ℕ)) (cs : List Named) (h : HasNamed t ns k seen cs) where
  next_fold : (is : List Impl) → fold with_new is (offered_rows t (take (k + 1) ns)) ≡ fold with_new (fold with_new is (all_named cs)) (made_of t n)
  next_fold is = flat_next (made_of t) ns k n is lt at ∙ ap (λ q. fold with_new q (made_of t n)) (sym (h.same is))

  -- nothing is made of it
  pub named_skips : made_of t n ≡ [] → HasNamed t ns (k + 1) seen cs
  named_skips none = record {
    same = λ is. sym (next_fold is ∙ ap (fold with_new (fold with_new is (all_named cs))) none);
    covered = h.covered;
    at = h.at;
  }

  -- its package was named before
  pub named_before : is_for t.distribution n ≡ true → is_listed n.«package» seen ≡ true → HasNamed t ns (k + 1) seen cs
  named_before fits there = record {
    same = λ is. sym (next_fold is ∙ ap (fold with_new (fold with_new is (all_named cs))) (made_for t n fits) ∙ covered n (rows_of t.rows n.«package») (fold with_new is (all_named cs)) (h.covered n.«package» there is));
    covered = h.covered;
    at = h.at;
  }

  -- it is named now
  pub named_now : (c : Named) (seen2 : List (List ℕ)) (cs2 : List Named) → is_for t.distribution n ≡ true → c.at ≡ k → c.native.now ≡ n → c.rows.now ≡ rows_of t.rows n.«package»
      → seen2 ≡ seen ++ n.«package» ∷ [] → cs2 ≡ cs ++ c ∷ [] → HasNamed t ns (k + 1) seen2 cs2
  named_now c seen2 cs2 fits here is_n are_rows more_seen more =
      let P : List Named → Type 0 = λ q. HasNamed t ns (k + 1) seen2 q in
      let Q : List (List ℕ) → Type 0 = λ q. HasNamed t ns (k + 1) q (cs ++ c ∷ []) in
      subst P (sym more) (subst Q (sym more_seen) (record { same = same; covered = cover; at = All-push (λ (d : Named). slice_get ns d.at ≡ Some d.native.now) cs c h.at stands }))
    where
      made : made_named c ≡ made_by n (rows_of t.rows n.«package»)
      made = ap (λ m. made_by m c.rows.now) is_n ∙ ap (made_by n) are_rows

      grown : (is : List Impl) → fold with_new is (all_named (cs ++ c ∷ [])) ≡ fold with_new (fold with_new is (all_named cs)) (made_by n (rows_of t.rows n.«package»))
      grown is = flat_push made_named cs c is ∙ ap (fold with_new (fold with_new is (all_named cs))) made

      same : (is : List Impl) → fold with_new is (all_named (cs ++ c ∷ [])) ≡ fold with_new is (offered_rows t (take (k + 1) ns))
      same is = grown is ∙ sym (next_fold is ∙ ap (fold with_new (fold with_new is (all_named cs))) (made_for t n fits))

      stands : slice_get ns c.at ≡ Some c.native.now
      stands = ap (slice_get ns) here ∙ slice_get-get_or ns k n lt ∙ ap (λ q. Some q) (sym at ∙ sym is_n)

      cover : (name : List ℕ) → is_listed name (seen ++ n.«package» ∷ []) ≡ true → (is : List Impl) → Covers (fold with_new is (all_named (cs ++ c ∷ []))) (rows_of t.rows name)
      cover name e is =
          let R : List Impl → Type 0 = λ q. Covers q (rows_of t.rows name) in
          subst R (sym (grown is)) (by (is_listed name seen) refl)
        where
          by : (b : Bool) → is_listed name seen ≡ b → Covers (fold with_new (fold with_new is (all_named cs)) (made_by n (rows_of t.rows n.«package»))) (rows_of t.rows name)
          by true s = still_covered (made_by n (rows_of t.rows n.«package»)) (fold with_new is (all_named cs)) (rows_of t.rows name) (h.covered name s is)
          by false s =
              let one : bytes_eq name n.«package» ≡ true = sym (ap (λ b. b || bytes_eq name n.«package») s) ∙ (sym (listed_push name n.«package» seen) ∙ e) in
              let S : List ℕ → Type 0 = λ q. Covers (fold with_new (fold with_new is (all_named cs)) (made_by n (rows_of t.rows n.«package»))) (rows_of t.rows q) in
              subst S (sym (same_bytes name n.«package» one)) (now_covered n (rows_of t.rows n.«package») (fold with_new is (all_named cs)))

  -- its name was added to those of packages that were named, or wasn't
  pub named_new : (c : Named) (seen2 : List (List ℕ)) (cs2 : List Named) (name : List ℕ) (new : Bool) → is_for t.distribution n ≡ true → c.at ≡ k → c.native.now ≡ n → c.rows.now ≡ rows_of t.rows n.«package»
      → name ≡ n.«package» → new ≡ not (is_listed name seen) → new ≡ true → seen2 ≡ (if is_listed name seen then seen else seen ++ name ∷ []) → cs2 ≡ cs ++ c ∷ [] → HasNamed t ns (k + 1) seen2 cs2
  named_new c seen2 cs2 name new fits here is_n are_rows named is fresh keys more =
      named_now c seen2 cs2 fits here is_n are_rows (added name seen seen2 (not_true (is_listed name seen) (sym is ∙ fresh)) keys ∙ ap (λ q. seen ++ q ∷ []) named) more

  pub named_old : (seen2 : List (List ℕ)) (name : List ℕ) (new : Bool) → is_for t.distribution n ≡ true → name ≡ n.«package» → new ≡ not (is_listed name seen) → new ≡ false
      → seen2 ≡ (if is_listed name seen then seen else seen ++ name ∷ []) → HasNamed t ns (k + 1) seen2 cs
  named_old seen2 name new fits named is seen_before keys =
      let there : is_listed name seen ≡ true = not_false (is_listed name seen) (sym is ∙ seen_before) in
      let P : List (List ℕ) → Type 0 = λ q. HasNamed t ns (k + 1) q cs in
      subst P (sym (kept name seen seen2 there keys)) (named_before fits (ap (λ q. is_listed q seen) (sym named) ∙ there))

pub named_all : (t : Packages) (ns : List Native) (k : ℕ) (seen : List (List ℕ)) (cs : List Named) → take k ns ≡ ns → HasNamed t ns k seen cs → (is : List Impl) → fold with_new is (all_named cs) ≡ with_rows t is ns
unfolding with_rows
named_all t ns k seen cs all h is = h.same is ∙ ap (λ q. fold with_new is (offered_rows t q)) all

-- Rows that are picked.

pub picked_row : (is all : List Impl) (ids ids2 : List (List ℕ)) (ps ps2 : List Pick) (n : Native) (r : PackageRow) (id : List ℕ) (p : Pick) → id ≡ row_id r → p.native.now ≡ n → p.row.now ≡ r → is_listed id ids ≡ false
    → ids2 ≡ ids ++ id ∷ [] → ps2 ≡ ps ++ p ∷ [] → HasPicked is ids ps all → HasPicked is ids2 ps2 (with_new all (row_impl n r))
unfolding row_impl
picked_row is all ids ids2 ps ps2 n r id p id_is n_is r_is new more_ids more h =
    let fresh : is_listed (row_id r) (ids_of all) ≡ false = sym (h.ids (row_id r)) ∙ (ap (λ q. is_listed q ids) (sym id_is) ∙ new) in
    let added : with_new all (row_impl n r) ≡ all ++ row_impl n r ∷ [] = new_new all (row_impl n r) fresh in
    let last : picked p ≡ row_impl n r = ap (λ m. row_impl m p.row.now) n_is ∙ ap (row_impl n) r_is in
    record {
      are = added ∙ ap (λ q. q ++ row_impl n r ∷ []) h.are ∙ append_assoc is (all_picked ps) (row_impl n r ∷ [])
          ∙ ap (λ q. is ++ q) (ap (λ x. all_picked ps ++ x ∷ []) (sym last) ∙ sym (map-append picked ps (p ∷ [])) ∙ ap all_picked (sym more));
      ids = λ x. ap (is_listed x) more_ids ∙ listed_push x id ids ∙ ap (λ q. q || bytes_eq x id) (h.ids x) ∙ ap (λ q. is_listed x (ids_of all) || bytes_eq x q) id_is
          ∙ sym (ap (λ q. is_listed x (ids_of q)) added ∙ ap (is_listed x) (ids_push all (row_impl n r)) ∙ listed_push x (row_id r) (ids_of all));
    }

pub passed_row : (is all : List Impl) (ids ids2 : List (List ℕ)) (ps : List Pick) (n : Native) (r : PackageRow) (id : List ℕ) → id ≡ row_id r → is_listed id ids ≡ true → ids2 ≡ ids → HasPicked is ids ps all
    → HasPicked is ids2 ps (with_new all (row_impl n r))
unfolding row_impl
passed_row is all ids ids2 ps n r id id_is old same h =
    let there : is_listed (row_id r) (ids_of all) ≡ true = sym (h.ids (row_id r)) ∙ (ap (λ q. is_listed q ids) (sym id_is) ∙ old) in
    let P : List Impl → Type 0 = λ q. HasPicked is ids2 ps q in
    let Q : List (List ℕ) → Type 0 = λ q. HasPicked is q ps all in
    subst P (sym (old_new all (row_impl n r) there)) (subst Q (sym same) h)

-- its id was added to those that were there, or wasn't
pub picked_new : (is all : List Impl) (ids ids2 : List (List ℕ)) (ps ps2 : List Pick) (n : Native) (r : PackageRow) (id : List ℕ) (new : Bool) (p : Pick) → id ≡ row_id r → p.native.now ≡ n → p.row.now ≡ r
    → new ≡ not (is_listed id ids) → new ≡ true → ids2 ≡ (if is_listed id ids then ids else ids ++ id ∷ []) → ps2 ≡ ps ++ p ∷ [] → HasPicked is ids ps all → HasPicked is ids2 ps2 (with_new all (row_impl n r))
picked_new is all ids ids2 ps ps2 n r id new p id_is n_is r_is said fresh keys more h =
    let absent : is_listed id ids ≡ false = not_true (is_listed id ids) (sym said ∙ fresh) in
    picked_row is all ids ids2 ps ps2 n r id p id_is n_is r_is absent (added id ids ids2 absent keys) more h

pub picked_old : (is all : List Impl) (ids ids2 : List (List ℕ)) (ps : List Pick) (n : Native) (r : PackageRow) (id : List ℕ) (new : Bool) → id ≡ row_id r
    → new ≡ not (is_listed id ids) → new ≡ false → ids2 ≡ (if is_listed id ids then ids else ids ++ id ∷ []) → HasPicked is ids ps all → HasPicked is ids2 ps (with_new all (row_impl n r))
picked_old is all ids ids2 ps n r id new id_is said known keys h =
    let there : is_listed id ids ≡ true = not_false (is_listed id ids) (sym said ∙ known) in
    passed_row is all ids ids2 ps n r id id_is there (kept id ids ids2 there keys) h

-- the ids of implementations
pub ids_next : (is : List Impl) (k : ℕ) (i : Impl) (ids ids2 : List (List ℕ)) (id : List ℕ) → k < length is → i ≡ get_or is k i → id ≡ i.id → ids2 ≡ (if is_listed id ids then ids else ids ++ id ∷ [])
    → ((x : List ℕ) → is_listed x ids ≡ is_listed x (ids_of (take k is))) → (x : List ℕ) → is_listed x ids2 ≡ is_listed x (ids_of (take (k + 1) is))
ids_next is k i ids ids2 id lt at id_is more h x =
    ap (is_listed x) more ∙ by (is_listed id ids) refl
    ∙ ap (λ q. q || bytes_eq x id) (h x) ∙ ap (λ q. is_listed x (ids_of (take k is)) || bytes_eq x q) id_is
    ∙ sym (ap (λ q. is_listed x (ids_of q)) (take_next is k i lt at) ∙ ap (is_listed x) (ids_push (take k is) i) ∙ listed_push x i.id (ids_of (take k is)))
  where
    both : (b c : Bool) → (c ≡ true → b ≡ true) → b ≡ (b || c)
    both true c f = refl
    both false true f = f refl
    both false false f = refl

    by : (b : Bool) → is_listed id ids ≡ b → is_listed x (if b then ids else ids ++ id ∷ []) ≡ (is_listed x ids || bytes_eq x id)
    by true e = both (is_listed x ids) (bytes_eq x id) (λ s. ap (λ q. is_listed q ids) (same_bytes x id s) ∙ e)
    by false e = listed_push x id ids

pub none_picked : (is : List Impl) (ids : List (List ℕ)) (ps : List Pick) → ps ≡ [] → ((x : List ℕ) → is_listed x ids ≡ is_listed x (ids_of is)) → HasPicked is ids ps is
none_picked is ids ps none h = record { are = sym (ap (λ q. is ++ all_picked q) none ∙ append-nil is); ids = h }

pub none_at : (ns : List Native) (ps : List Pick) → ps ≡ [] → AreAt ns ps
none_at ns ps none = let P : List Pick → Type 0 = λ q. AreAt ns q in subst P (sym none) (All-nil (λ (p : Pick). slice_get ns p.at ≡ Some p.native.now))

pub one_at : (ns : List Native) (ps ps2 : List Pick) (p : Pick) (c : Named) → p.at ≡ c.at → p.native.now ≡ c.native.now → ps2 ≡ ps ++ p ∷ [] → slice_get ns c.at ≡ Some c.native.now → AreAt ns ps → AreAt ns ps2
one_at ns ps ps2 p c at_is n_is more there h =
    let P : List Pick → Type 0 = λ q. AreAt ns q in
    subst P (sym more) (All-push (λ (q : Pick). slice_get ns q.at ≡ Some q.native.now) ps p h (ap (slice_get ns) at_is ∙ there ∙ ap (λ q. Some q) (sym n_is)))

pub at_turn : (ns : List Native) (cs : List Named) (k : ℕ) (c : Named) → k < length cs → c ≡ get_or cs k c → AreNamedAt ns cs → slice_get ns c.at ≡ Some c.native.now
at_turn ns cs k c lt at h = let P : Named → Type 0 = λ q. slice_get ns q.at ≡ Some q.native.now in subst P (sym at) (h k c lt)

-- one row more of a package, and one package more
pub rows_more : (n : Native) (rs : List PackageRow) (k : ℕ) (r : PackageRow) (all : List Impl) → k < length rs → r ≡ get_or rs k r
    → with_new (fold with_new all (made_by n (take k rs))) (row_impl n r) ≡ fold with_new all (made_by n (take (k + 1) rs))
rows_more n rs k r all lt at =
    sym (ap (λ q. fold with_new all (made_by n q)) (take_next rs k r lt at) ∙ ap (fold with_new all) (map-append (row_impl n) (take k rs) (r ∷ [])) ∙ folded (made_by n (take k rs)) all)
  where
    folded : (xs is : List Impl) → fold with_new is (xs ++ row_impl n r ∷ []) ≡ with_new (fold with_new is xs) (row_impl n r)
    folded [] is = refl
    folded (x ∷ xs) is = folded xs (with_new is x)
