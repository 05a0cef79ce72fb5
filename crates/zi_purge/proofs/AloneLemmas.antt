-- A purger that works alone.
use Rattle.std.proofs.Common.{◌≡◌, ◌≢◌, ℕ, suc, ◌+◌, ◌<◌, ◌≤◌, Bool, true, false, not, nat_lt, if◌then◌else◌, List, [], ◌∷◌, ◌++◌, length, Option, Some, None, ◌⊎◌, inl, inr, refl, sym, ◌∙◌, ap, subst, IsSome, slice_get, arith, below_more}
use Rattle.std.proofs.lemmas.Bool.{lt-ltb, ltb-true}
use Rattle.std.proofs.lemmas.List.{append_assoc}
use Rattle.zi_tree.specs.Dir.{Dir}
use Rattle.zi_shelf.specs.Names.{Name, put, IsIn}
use Rattle.zi_shelf.specs.Shelved.{Top, Pending, Shelved, Call, Rename, SettleTop, RemoveTop, Reply, Did, Exists, Failed, Memory, Answers}
use Rattle.zi_shelf.specs.Shelved.{Moves as Renames}
use Rattle.zi_shelf.specs.Filling.{Work, trees}
use Rattle.zi_shelf.proofs.TopsLemmas.{same_or_not}
use Rattle.zi_store.specs.Rising.{is_among}
use Rattle.zi_text.proofs.ListLaws.{some_of}
use Rattle.zi_session.specs.Alone.{Tops}
use Rattle.zi_session.specs.Phases.{tmp_name}
use Rattle.zi_session.specs.StoreRules.{IsDigestName, rules}
use Rattle.zi_session.proofs.MapsLemmas.{put-same, put-other, some_none}
use Rattle.zi_session.proofs.CallsLemmas.{not_lt}
use Rattle.zi_session.proofs.TiedLemmas.{lawful}
use Rattle.zi_purge.specs.Machine.{Phase, Moving, Sealing, Clearing, Closing, Ended, Stopped, Done, Crowded, Fault, purged, moving, next_call, next_phase, AreApart, AreThere}
use Rattle.zi_purge.specs.Stepping.{Standing, at_start, with_name, gone_after, moved}
use Rattle.zi_purge.specs.Progress.{has_ended}
use Rattle.zi_purge.specs.Alone.{Leaves, Spares, AreFirst, AreTaken, IsFree, HoldsLast, InPhase, WorksAlone, BeginsAlone, AloneLaw}
use Rattle.zi_purge.specs.Keeping.{IsAsLeft}
use Rattle.zi_purge.proofs.PurgingLemmas.{is_member, one_place, rename_is}
use Rattle.zi_purge.proofs.KeptLemmas.{in_filter, apart_filter}

-- members of lists of names

is_in_or_not : (n : Name) (xs : List Name) → IsIn n xs ⊎ (IsIn n xs → ⊥)
is_in_or_not n [] = inr (λ i. i)
is_in_or_not n (x ∷ xs) = elim (same_or_not n x) [
  | inl e ↦ inl (inl e)
  | inr ne ↦ elim (is_in_or_not n xs) [
    | inl i ↦ inl (inr i)
    | inr off ↦ inr (λ j. elim j [ inl e ↦ ne e | inr i ↦ off i ])
  ]
]

in_front : (n : Name) (xs ys : List Name) → IsIn n xs → IsIn n (xs ++ ys)
in_front n [] ys i = absurd i
in_front n (x ∷ xs) ys (inl e) = inl e
in_front n (x ∷ xs) ys (inr i) = inr (in_front n xs ys i)

in_last : (n : Name) (xs : List Name) → IsIn n (xs ++ n ∷ [])
in_last n [] = inl refl
in_last n (x ∷ xs) = inr (in_last n xs)

in_both : (n d : Name) (xs : List Name) → IsIn n (xs ++ d ∷ []) → IsIn n xs ⊎ (n ≡ d)
in_both n d [] (inl e) = inr e
in_both n d [] (inr i) = absurd i
in_both n d (x ∷ xs) (inl e) = inl (inl e)
in_both n d (x ∷ xs) (inr i) = elim (in_both n d xs i) [ inl j ↦ inl (inr j) | inr e ↦ inr e ]

place_of : (n : Name) (xs ys : List Name) → IsIn n xs → (i : ℕ) × (i < length xs) × (slice_get (xs ++ ys) i ≡ Some n)
place_of n [] ys i = absurd i
place_of n (x ∷ xs) ys (inl e) = let less : 0 < length (x ∷ xs) = omega arith in (0, less, ap Some (sym e))
place_of n (x ∷ xs) ys (inr j) =
    let p = place_of n xs ys j in
    let less : p.0 < length xs = p.1 in
    (suc p.0, omega (arith, less), p.2)

long_by_one : (xs : List Name) (d : Name) → length (xs ++ d ∷ []) ≡ length xs + 1
long_by_one [] d = refl
long_by_one (x ∷ xs) d = let more : length (xs ++ d ∷ []) ≡ length xs + 1 = long_by_one xs d in omega (arith, more)

split_at : (xs rest : List Name) (d : Name) → slice_get (xs ++ rest) (length xs) ≡ Some d → (more : List Name) × (rest ≡ d ∷ more)
split_at [] [] d h = absurd (cc h)
split_at [] (x ∷ more) d h = let e : x ≡ d = cc h in (more, ap (λ y. y ∷ more) e)
split_at (x ∷ xs) rest d h = split_at xs rest d h

no_rest : (xs rest : List Name) → length (xs ++ rest) ≤ length xs → xs ≡ xs ++ rest
no_rest [] [] h = refl
no_rest [] (x ∷ rest) h = absurd (omega (arith, h))
no_rest (x ∷ xs) rest h = ap (λ l. x ∷ l) (no_rest xs rest (omega (arith, h)))

-- the first of the names

first_in : (names gone : List Name) (k : ℕ) (d : Name) → AreFirst names k gone → IsIn d gone → IsIn d names
first_in names gone k d f i = subst (λ l. IsIn d l) (sym f.are) (in_front d gone f.rest i)

-- a name behind them is none of them
not_first : (names gone : List Name) (k j : ℕ) (d : Name) → AreApart names → AreFirst names k gone → k ≤ j → slice_get names j ≡ Some d → IsIn d gone → ⊥
not_first names gone k j d apart f le at i =
    let p = place_of d gone f.rest i in
    let same : p.0 ≡ j = one_place names p.0 j d apart (ap (λ l. slice_get l p.0) f.are ∙ p.2) at in
    omega (arith, same, p.1, f.many, le)

one_more : (names gone : List Name) (k : ℕ) (d : Name) → AreFirst names k gone → slice_get names k ≡ Some d → AreFirst names (k + 1) (gone ++ d ∷ [])
one_more names gone k d f at =
    let here : slice_get (gone ++ f.rest) (length gone) ≡ Some d = ap (λ l. slice_get l (length gone)) (sym f.are) ∙ ap (λ i. slice_get names i) f.many ∙ at in
    let s = split_at gone f.rest d here in
    record {
      many = long_by_one gone d ∙ ap (λ i. i + 1) f.many;
      rest = s.0;
      are = f.are ∙ ap (λ l. gone ++ l) s.1 ∙ sym (append_assoc gone (d ∷ []) s.0);
    }

all_gone : (names gone : List Name) (k : ℕ) → AreFirst names k gone → length names ≤ k → gone ≡ names
all_gone names gone k f le =
    let few : length names ≤ length gone = omega (arith, le, f.many) in
    no_rest gone f.rest (subst (λ l. length l ≤ length gone) f.are few) ∙ sym f.are

no_tmp : (d : Name) (n : ℕ) → IsDigestName d → d ≢ tmp_name n
no_tmp d n is e = lawful.tmp_free n (subst IsDigestName e is)

-- what a rename leaves

moves_off : (s t : Shelved Dir) (d : Name) (n : ℕ) → Renames s d (tmp_name n) t → (x : Name) → x ≢ d → x ≢ tmp_name n → t.tops x ≡ s.tops x
moves_off s t d n (e, at, free, is) x nd nt = ap (λ (z : Shelved Dir). z.tops x) is ∙ put-other (put s.tops d None) (tmp_name n) (Some e) x nt ∙ put-other s.tops d None x nd

moves_from : (s t : Shelved Dir) (d : Name) (n : ℕ) → Renames s d (tmp_name n) t → d ≢ tmp_name n → t.tops d ≡ None
moves_from s t d n (e, at, free, is) nt = ap (λ (z : Shelved Dir). z.tops d) is ∙ put-other (put s.tops d None) (tmp_name n) (Some e) d nt ∙ put-same s.tops d None

moves_to : (s t : Shelved Dir) (d : Name) (n : ℕ) → Renames s d (tmp_name n) t → t.tops (tmp_name n) ≡ s.tops d
moves_to s t d n (e, at, free, is) = ap (λ (z : Shelved Dir). z.tops (tmp_name n)) is ∙ put-same (put s.tops d None) (tmp_name n) (Some e) ∙ sym at

-- what any change of one entry leaves under the others
put_off : (s t : Shelved Dir) (n : ℕ) (v : Option (Top Dir)) (ps : List (Pending Dir)) → t ≡ record { tops = put s.tops (tmp_name n) v; pending = ps } → (x : Name) → x ≢ tmp_name n → t.tops x ≡ s.tops x
put_off s t n v ps is x ne = ap (λ (z : Shelved Dir). z.tops x) is ∙ put-other s.tops (tmp_name n) v x ne

put_at : (s t : Shelved Dir) (n : ℕ) (v : Option (Top Dir)) (ps : List (Pending Dir)) → t ≡ record { tops = put s.tops (tmp_name n) v; pending = ps } → t.tops (tmp_name n) ≡ v
put_at s t n v ps is = ap (λ (z : Shelved Dir). z.tops (tmp_name n)) is ∙ put-same s.tops (tmp_name n) v

module _ (start : Shelved Dir) (names : List Name) (there : AreThere rules start names) where
  -- what the shelf holds for a purger of which these are gone and that is there in its list of calls
  abbrev Stands : List Name → Phase → Shelved Dir → Type 0
  Stands gone p now = Spares names gone start.tops now.tops × InPhase start.tops names gone p now

  off_tmp : (x : Name) (n : ℕ) → IsIn x names → x ≢ tmp_name n
  off_tmp x n i = no_tmp x n (there.digest x i)

  -- these are temporary names alone
  abbrev AreTmps : List Name → Type 0
  AreTmps but = (x : Name) → IsIn x but → (k : ℕ) × (k < 10000) × (x ≡ tmp_name k)

  one_tmp : (n : ℕ) → n < 10000 → AreTmps (tmp_name n ∷ [])
  one_tmp n few x (inl e) = (n, few, e)
  one_tmp n few x (inr i) = absurd i

  no_tmps : AreTmps []
  no_tmps x i = absurd i

  spared : (gone but : List Name) (now : Tops) → ((x : Name) → IsIn x gone → IsIn x names) → AreTmps but → Leaves gone but start.tops now → Spares names gone start.tops now
  spared gone but now within tmps l = record {
    away = l.away;
    each = λ d i. elim (is_in_or_not d gone) [
      | inl j ↦ inr (l.away d j)
      | inr off ↦ inl (l.stays d off (λ b. let t = tmps d b in off_tmp d t.0 i t.2))
    ];
    others = λ x off apart. l.stays x (λ i. off (within x i)) (λ b. let t = tmps x b in apart t.0 t.1 t.2);
  }

  -- all but the entry of one temporary name is as it was
  spares_off : (gone : List Name) (s t : Tops) (n : ℕ) → n < 10000 → ((x : Name) → IsIn x gone → IsIn x names) → ((x : Name) → x ≢ tmp_name n → t x ≡ s x) → Spares names gone start.tops s → Spares names gone start.tops t
  spares_off gone s t n few within off sp = record {
    away = λ x i. off x (off_tmp x n (within x i)) ∙ sp.away x i;
    each = λ x i. elim (sp.each x i) [
      | inl e ↦ inl (off x (off_tmp x n i) ∙ e)
      | inr e ↦ inr (off x (off_tmp x n i) ∙ e)
    ];
    others = λ x out apart. off x (apart n few) ∙ sp.others x out apart;
  }

  -- a name is renamed to a temporary name
  spares_moved : (gone : List Name) (s t : Shelved Dir) (d : Name) (n : ℕ) → n < 10000 → IsIn d names → ((x : Name) → IsIn x gone → IsIn x names) → Renames s d (tmp_name n) t → Spares names gone start.tops s.tops → Spares names gone start.tops t.tops
  spares_moved gone s t d n few inside within m sp = record {
    away = λ x i. elim (same_or_not x d) [
      | inl e ↦ ap t.tops e ∙ moves_from s t d n m (off_tmp d n inside)
      | inr ne ↦ moves_off s t d n m x ne (off_tmp x n (within x i)) ∙ sp.away x i
    ];
    each = λ x i. elim (same_or_not x d) [
      | inl e ↦ inr (ap t.tops e ∙ moves_from s t d n m (off_tmp d n inside))
      | inr ne ↦ elim (sp.each x i) [
        | inl e ↦ inl (moves_off s t d n m x ne (off_tmp x n i) ∙ e)
        | inr e ↦ inr (moves_off s t d n m x ne (off_tmp x n i) ∙ e)
      ]
    ];
    others = λ x out apart. moves_off s t d n m x (λ e. out (subst (λ y. IsIn y names) (sym e) inside)) (apart n few) ∙ sp.others x out apart;
  }

  not_gone : (gone : List Name) (k : ℕ) (d : Name) → AreFirst names k gone → slice_get names k ≡ Some d → IsIn d gone → ⊥
  not_gone gone k d f at = not_first names gone k k d there.apart f (omega arith) at

  tmp_not_gone : (gone : List Name) (k n : ℕ) → AreFirst names k gone → IsIn (tmp_name n) gone → ⊥
  tmp_not_gone gone k n f i = off_tmp (tmp_name n) n (first_in names gone k (tmp_name n) f i) refl

  leaves_moved : (gone : List Name) (s t : Shelved Dir) (k n : ℕ) (d : Name) → slice_get names k ≡ Some d → AreFirst names k gone → Renames s d (tmp_name n) t → Leaves gone [] start.tops s.tops
      → Leaves (gone ++ d ∷ []) (tmp_name n ∷ []) start.tops t.tops
  leaves_moved gone s t k n d at f m l = record {
    away = λ x i. elim (same_or_not x d) [
      | inl e ↦ ap t.tops e ∙ moves_from s t d n m (off_tmp d n (is_member names k d at))
      | inr ne ↦ elim (in_both x d gone i) [
        | inl j ↦ moves_off s t d n m x ne (off_tmp x n (first_in names gone k x f j)) ∙ l.away x j
        | inr e ↦ absurd (ne e)
      ]
    ];
    stays = λ x out but. moves_off s t d n m x (λ e. out (subst (λ y. IsIn y (gone ++ d ∷ [])) (sym e) (in_last d gone))) (λ e. but (inl e)) ∙ l.stays x (λ i. out (in_front x gone (d ∷ []) i)) (λ i. i);
  }

  holds_moved : (gone : List Name) (s t : Shelved Dir) (k n : ℕ) (d : Name) → n < 10000 → slice_get names k ≡ Some d → AreFirst names k gone → Renames s d (tmp_name n) t → Leaves gone [] start.tops s.tops
      → HoldsLast (gone ++ d ∷ []) n start.tops t.tops
  holds_moved gone s t k n d few at f m l = record {
    few = few;
    free = sym (l.stays (tmp_name n) (tmp_not_gone gone k n f) (λ i. i)) ∙ m.2;
    before = gone;
    last = d;
    is = refl;
    holds = moves_to s t d n m ∙ l.stays d (not_gone gone k d f at) (λ i. i);
  }

  is_moved : (gone : List Name) (s t : Shelved Dir) (k n : ℕ) (d : Name) → n < 10000 → slice_get names k ≡ Some d → AreFirst names k gone → Renames s d (tmp_name n) t → Leaves gone [] start.tops s.tops
      → Stands (gone ++ d ∷ []) (Sealing k n) t
  is_moved gone s t k n d few at f m l =
      let more = one_more names gone k d f at in
      let leaves = leaves_moved gone s t k n d at f m l in (
        spared (gone ++ d ∷ []) (tmp_name n ∷ []) t.tops (λ x i. first_in names (gone ++ d ∷ []) (k + 1) x more i) (one_tmp n few) leaves,
        (more, holds_moved gone s t k n d few at f m l, leaves),
      )

  tries_next : (gone : List Name) (s : Shelved Dir) (k n : ℕ) (b : Bool) → nat_lt (n + 1) 10000 ≡ b → AreFirst names k gone → AreTaken (n + 1) start.tops → Leaves gone [] start.tops s.tops
      → InPhase start.tops names gone (if b then Moving k (n + 1) else Ended Crowded) s
  tries_next gone s k n true e f taken l = (ltb-true (n + 1) 10000 e, f, taken, l)
  tries_next gone s k n false e f taken l =
      let most : 10000 ≤ n + 1 = not_lt (n + 1) 10000 (λ less. (let h = lt-ltb (n + 1) 10000 less in cc (e, h))) in
      (λ j less. taken j (omega (arith, less, most)), l)

  after_move : (gone : List Name) (s t : Shelved Dir) (k n : ℕ) (d : Name) (reply : Reply) → slice_get names k ≡ Some d → Answers trees s (Rename d (tmp_name n)) reply t → Stands gone (Moving k n) s
      → Stands (gone_after names (Moving k n) reply gone) (next_phase 10000 (length names) (Moving k n) reply) t
  after_move gone s t k n d Did at m (sp, (few, f, taken, l)) = subst (λ o. Stands (with_name gone o) (Sealing k n) t) (sym at) (is_moved gone s t k n d few at f m l)
  after_move gone s t k n d Exists at (here, found, is) (sp, (few, f, taken, l)) =
      let there_too = subst (λ (o : Option (Top Dir)). IsSome o) (l.stays (tmp_name n) (tmp_not_gone gone k n f) (λ i. i)) found in
      let more = below_more (λ j. IsSome (start.tops (tmp_name j))) n taken there_too in
      subst (λ z. Stands gone (next_phase 10000 (length names) (Moving k n) Exists) z) (sym is) (sp, tries_next gone s k n (nat_lt (n + 1) 10000) refl f more l)
  after_move gone s t k n d Failed at (inl is) (sp, ph) = subst (λ z. Stands gone (Ended Fault) z) (sym is) (sp, tt)
  after_move gone s t k n d Failed at (inr m) (sp, (few, f, taken, l)) = (spares_moved gone s t d n few (is_member names k d at) (λ x i. first_in names gone k x f i) m sp, tt)
  after_move gone s t k n d Memory at is h = subst (λ z. Stands gone (Moving k n) z) (sym is) h

  after_seal : (gone : List Name) (s t : Shelved Dir) (k n : ℕ) (reply : Reply) → Answers trees s SettleTop reply t → Stands gone (Sealing k n) s
      → Stands (gone_after names (Sealing k n) reply gone) (next_phase 10000 (length names) (Sealing k n) reply) t
  after_seal gone s t k n Did is (sp, ph) = subst (λ z. Stands gone (Clearing k n) z) (sym is) (sp, ph)
  after_seal gone s t k n Exists a h = absurd a
  after_seal gone s t k n Failed is (sp, ph) = subst (λ z. Stands gone (Ended Fault) z) (sym is) (sp, tt)
  after_seal gone s t k n Memory is h = subst (λ z. Stands gone (Sealing k n) z) (sym is) h

  -- without the temporary entry the name that was free is free
  leaves_cleared : (gone : List Name) (s t : Shelved Dir) (k n : ℕ) (ps : List (Pending Dir)) → AreFirst names k gone → HoldsLast gone n start.tops s.tops → Leaves gone (tmp_name n ∷ []) start.tops s.tops
      → t ≡ record { tops = put s.tops (tmp_name n) None; pending = ps } → Leaves gone [] start.tops t.tops
  leaves_cleared gone s t k n ps f h l is = record {
    away = λ x i. put_off s t n None ps is x (off_tmp x n (first_in names gone k x f i)) ∙ l.away x i;
    stays = λ x out none. elim (same_or_not x (tmp_name n)) [
      | inl e ↦ ap t.tops e ∙ put_at s t n None ps is ∙ sym h.free ∙ sym (ap start.tops e)
      | inr ne ↦ put_off s t n None ps is x ne ∙ l.stays x out (λ b. elim b [ inl e ↦ ne e | inr i ↦ i ])
    ];
  }

  goes_to : (gone : List Name) (t : Shelved Dir) (k : ℕ) → AreFirst names k gone → Leaves gone [] start.tops t.tops → InPhase start.tops names gone (moving (length names) k) t
  goes_to gone t k f l =
      elim (nat_lt k (length names)) as (λ b. nat_lt k (length names) ≡ b → InPhase start.tops names gone (if b then Moving k 0 else Closing) t) [
        | true ↦ λ e. (omega arith, f, λ j less. absurd (omega (arith, less)), l)
        | false ↦ λ e. (all_gone names gone k f (not_lt k (length names) (λ less. (let h = lt-ltb k (length names) less in cc (e, h)))), l)
      ] refl

  after_clear : (gone : List Name) (s t : Shelved Dir) (k n : ℕ) (reply : Reply) → Answers trees s (RemoveTop (tmp_name n)) reply t → Stands gone (Clearing k n) s
      → Stands (gone_after names (Clearing k n) reply gone) (next_phase 10000 (length names) (Clearing k n) reply) t
  after_clear gone s t k n Did (e, at, is) (sp, (f, h, l)) =
      let cleared = leaves_cleared gone s t (k + 1) n _ f h l is in
      (spared gone [] t.tops (λ x i. first_in names gone (k + 1) x f i) no_tmps cleared, goes_to gone t (k + 1) f cleared)
  after_clear gone s t k n Exists a h = absurd a
  after_clear gone s t k n Failed (inl (what, is)) (sp, (f, h, l)) = (spares_off gone s.tops t.tops n h.few (λ x i. first_in names gone (k + 1) x f i) (put_off s t n what _ is) sp, tt)
  after_clear gone s t k n Failed (inr (mid, (e, at, is_mid), (what, is))) (sp, (f, h, l)) =
      (spares_off gone s.tops t.tops n h.few (λ x i. first_in names gone (k + 1) x f i) (λ x ne. put_off mid t n what _ is x ne ∙ put_off s mid n None _ is_mid x ne) sp, tt)
  after_clear gone s t k n Memory is h = subst (λ z. Stands gone (Clearing k n) z) (sym is) h

  after_close : (gone : List Name) (s t : Shelved Dir) (reply : Reply) → Answers trees s SettleTop reply t → Stands gone Closing s
      → Stands (gone_after names Closing reply gone) (next_phase 10000 (length names) Closing reply) t
  after_close gone s t Did is (sp, (all, l)) = subst (λ z. Stands gone (Ended Done) z) (sym is) (sp, (all, l, refl))
  after_close gone s t Exists a h = absurd a
  after_close gone s t Failed is (sp, ph) = subst (λ z. Stands gone (Ended Fault) z) (sym is) (sp, tt)
  after_close gone s t Memory is h = subst (λ z. Stands gone Closing z) (sym is) h

  after_call : (gone : List Name) (s t : Shelved Dir) (p : Phase) (reply : Reply) (call : Call Work) → next_call tmp_name names p ≡ Some call → Answers trees s call reply t → Stands gone p s
      → Stands (gone_after names p reply gone) (next_phase 10000 (length names) p reply) t
  after_call gone s t (Moving k n) reply call m a h =
      let f = rename_is (slice_get names k) (tmp_name n) call m in after_move gone s t k n f.0 reply f.1 (subst (λ c. Answers trees s c reply t) (sym f.2) a) h
  after_call gone s t (Sealing k n) reply call m a h = let e : call ≡ SettleTop = cc m in after_seal gone s t k n reply (subst (λ c. Answers trees s c reply t) e a) h
  after_call gone s t (Clearing k n) reply call m a h = let e : call ≡ RemoveTop (tmp_name n) = cc m in after_clear gone s t k n reply (subst (λ c. Answers trees s c reply t) e a) h
  after_call gone s t Closing reply call m a h = let e : call ≡ SettleTop = cc m in after_close gone s t reply (subst (λ c. Answers trees s c reply t) e a) h
  after_call gone s t (Ended b) reply call m a h = absurd (cc m)
  after_call gone s t Stopped reply call m a h = absurd (cc m)

  -- what stood under the names that are left stands there
  left_alone : (gone but : List Name) (s : Tops) (k : ℕ) → AreFirst names k gone → AreTmps but → Leaves gone but start.tops s → (j : ℕ) (d : Name) → k ≤ j → slice_get names j ≡ Some d → IsSome (s d)
  left_alone gone but s k f tmps l j d le at =
      let inside = is_member names j d at in
      subst (λ (o : Option (Top Dir)). IsSome o) (sym (l.stays d (not_first names gone k j d there.apart f le at) (λ b. let t = tmps d b in off_tmp d t.0 inside t.2))) (there.stand d inside)

  last_alone : (gone : List Name) (s : Tops) (k n : ℕ) → AreFirst names k gone → HoldsLast gone n start.tops s → IsSome (s (tmp_name n))
  last_alone gone s k n f h =
      let inside = first_in names gone k h.last f (subst (λ g. IsIn h.last g) (sym h.is) (in_last h.last h.before)) in
      subst (λ (o : Option (Top Dir)). IsSome o) (sym h.holds) (there.stand h.last inside)

  phase_as_left : (gone : List Name) (s : Shelved Dir) (p : Phase) → InPhase start.tops names gone p s → IsAsLeft names p s
  phase_as_left gone s (Moving k n) (few, f, taken, l) = left_alone gone [] s.tops k f no_tmps l
  phase_as_left gone s (Sealing k n) (f, h, l) = (last_alone gone s.tops (k + 1) n f h, left_alone gone (tmp_name n ∷ []) s.tops (k + 1) f (one_tmp n h.few) l)
  phase_as_left gone s (Clearing k n) (f, h, l) = (last_alone gone s.tops (k + 1) n f h, left_alone gone (tmp_name n ∷ []) s.tops (k + 1) f (one_tmp n h.few) l)
  phase_as_left gone s Closing h = tt
  phase_as_left gone s (Ended a) h = tt
  phase_as_left gone s Stopped h = tt

-- a call more
pub alone_on : (start s t : Shelved Dir) (x y : Standing) (call : Call Work) (reply : Reply) → next_call tmp_name x.names x.phase ≡ Some call → Answers trees s call reply t → y ≡ moved x reply
    → WorksAlone start x s → WorksAlone start y t
alone_on start s t x y call reply m a goes w =
    let h = after_call start x.names w.there x.gone s t x.phase reply call m a (w.spares, w.phase) in
    subst (λ (z : Standing). WorksAlone start z t) (sym goes) (record { there = w.there; spares = h.0; phase = h.1 })

-- all is as the purger left it
pub alone_as_left : (start s : Shelved Dir) (x : Standing) → WorksAlone start x s → IsAsLeft x.names x.phase s
alone_as_left start s x w = phase_as_left start x.names w.there x.gone s x.phase w.phase

open_moving : (all k : ℕ) → has_ended (moving all k) ≡ false
open_moving all k = elim (nat_lt k all) as (λ b. has_ended (if b then Moving k 0 else Closing) ≡ false) [ true ↦ refl | false ↦ refl ]

pub begins_alone : BeginsAlone
begins_alone kept there s = (open_moving (length (purged kept there)) 0, λ are. begun s are)
  where
    begun : (s : Shelved Dir) → AreThere rules s there → WorksAlone s (at_start kept there) s
    begun s are =
        let names = purged kept there in
        let test : Name → Bool = λ n. not (is_among kept n) in
        let inside : AreThere rules s names = record {
          digest = λ n i. are.digest n (in_filter test n there i);
          stand = λ n i. are.stand n (in_filter test n there i);
          apart = apart_filter test there are.apart;
        } in
        let first : AreFirst names 0 [] = record { many = refl; rest = names; are = refl } in
        let leaves : Leaves [] [] s.tops s.tops = record { away = λ d i. absurd i; stays = λ n out but. refl } in
        record {
          there = inside;
          spares = record { away = λ d i. absurd i; each = λ d i. inl refl; others = λ n out apart. refl };
          phase = goes_to s names inside [] s 0 first leaves;
        }

-- where a temporary name was free
by_end : (start now : Shelved Dir) (names gone : List Name) (p : Phase) → InPhase start.tops names gone p now → IsFree start.tops → has_ended p ≡ true → p ≢ Ended Fault → p ≡ Ended Done
by_end start now names gone (Moving k n) h free over unlike = absurd (cc over)
by_end start now names gone (Sealing k n) h free over unlike = absurd (cc over)
by_end start now names gone (Clearing k n) h free over unlike = absurd (cc over)
by_end start now names gone Closing h free over unlike = absurd (cc over)
by_end start now names gone (Ended Done) h free over unlike = refl
by_end start now names gone (Ended Crowded) (taken, l) (k, few, none) over unlike = let there = some_of (start.tops (tmp_name k)) (taken k few) in some_none (start.tops (tmp_name k)) there.0 there.1 none
by_end start now names gone (Ended Fault) h free over unlike = absurd (unlike refl)
by_end start now names gone Stopped h free over unlike = absurd h

pub ends_alone : AloneLaw
ends_alone start now x w = record {
  done = λ e.
      let h = subst (λ p. InPhase start.tops x.names x.gone p now) e w.phase in
      record { all = h.0; leaves = subst (λ g. Leaves g [] start.tops now.tops) h.0 h.1; settled = h.2 };
  crowded = λ e. (subst (λ p. InPhase start.tops x.names x.gone p now) e w.phase).0;
  free = λ free over unlike. by_end start now x.names x.gone x.phase w.phase free over unlike;
}
