-- A valid choice gives an assignment of which the constraints' families hold: what is chosen, what is used, and 64-bit where
-- some choice is.
use Rattle.std.proofs.Common.{◌≡◌, ℕ, zero, suc, ◌==◌, ◌<◌, Bool, true, false, ◌&&◌, ◌||◌, List, [], ◌∷◌, length, refl, sym, ap, ◌∙◌, subst, arith, Option, Some, None, inl, inr, eqb-true}
use Rattle.std.specs.Prelude.{slice_get, All, IfSome, IsSomeAnd, option_and_then, bytes_eq, if◌then◌else◌}
use Rattle.std.specs.Cmp.Lexicographic.{bytes_decides}
use Rattle.std.proofs.lemmas.Bool.{false≢true, false_from_ne_true, cases_lt, and_parts, and_from, or_left, or_right, or_cases}
use Rattle.std.proofs.lemmas.List.Elements.{All-head, All-tail, All-nil, All-cons}
use Rattle.std.proofs.lemmas.Option.{same_Some}
use Rattle.zi_policy.specs.declared.types.Width.{Width}
use Rattle.zi_policy.specs.declared.types.Width.TheVariants.{Any, Bits32, Bits64}
use Rattle.zi_parts.specs.declared.types.Dep.{Dep}
use Rattle.zi_parts.specs.declared.types.DepKind.TheVariants.{Essential}
use Rattle.zi_parts.specs.declared.types.Command.{Command}
use Rattle.zi_universe.specs.declared.types.Requirement.{Requirement}
use Rattle.zi_universe.specs.declared.types.Candidate.{Candidate}
use Rattle.zi_universe.specs.declared.types.Interface.{Interface}
use Rattle.zi_universe.specs.Candidates.{asks}
use Rattle.zi_choice.specs.Choice.{Choice, pick, chosen, number, command_of, command_at, deps_of, needs_of, command_place}
use Rattle.zi_choice.specs.Walk.{Use, Walk, is_listed, is_used, wanted}
use Rattle.zi_choice.specs.Valid.{Has, Suits, IsMet, AreMet, group, IsValid, target}
use Rattle.zi_choice.proofs.WalkLaws.{one_value}
use Rattle.zi_choice.specs.Vars.{Var, Cand, Cmd, Wide}
use Rattle.zi_choice.proofs.Base.{all_at, any_found, if_some_at, chosen_is, chosen_from, Stands, stands_at, found_of}
use Rattle.zi_choice.proofs.WalkFacts.{Item, Visit, Need, has, IsThere, LeadsBy, Leads, deps_after, closed, cover_each, on_is}
use Rattle.zi_choice.proofs.ThereLaws.{In}
use Rattle.zi_build.proofs.Meaning.{IsAt, UsesOne, Uses, HasOne, AllMean, Means}
use Rattle.zi_build.proofs.MeansValid.{leads_where, target_at, target_from}
use Rattle.zi_xml.proofs.CharLemmas.{same_self}
use Rattle.zi_feed.specs.IdLaws.{none_some}
use Rattle.zi_text.proofs.ListLaws.{some_is, some_of}

abbrev pub is_pick : Option ℕ → ℕ → Bool
is_pick None c = false
is_pick (Some d) c = d == c

pub pick_eq : (o : Option ℕ) (c : ℕ) → is_pick o c ≡ true → o ≡ Some c
pick_eq None c e = absurd (false≢true e)
pick_eq (Some d) c e = ap (λ x. Some x) (eqb-true d c e)

pub pick_is : (o : Option ℕ) (c : ℕ) → o ≡ Some c → is_pick o c ≡ true
pick_is o c e = subst (λ x. is_pick x c ≡ true) (sym e) (same_self c)

-- the command at a place is the one of its name, and it is used
abbrev pub use_of : Walk → ℕ → ℕ → Candidate → Option Command → Bool
use_of a i n k None = false
use_of a i n k (Some m) = is_used a i m.name && is_pick (command_place k m.name) n

abbrev pub use_at : Walk → ℕ → ℕ → Option Candidate → Bool
use_at a i n None = false
use_at a i n (Some k) = use_of a i n k (slice_get k.imp.commands n)

abbrev pub is_wide : Width → Bool
is_wide Any = false
is_wide Bits32 = false
is_wide Bits64 = true

abbrev pub wide_at : Option Candidate → Bool
wide_at None = false
wide_at (Some k) = is_wide (group k)

abbrev pub some_wide : List Interface → Choice → ℕ → Bool
some_wide u s zero = false
some_wide u s (suc n) = wide_at (chosen u s n) || some_wide u s n

abbrev pub chosen_vars : List Interface → Choice → Walk → Var → Bool
chosen_vars u s a (Cand i c) = is_pick (pick s i) c
chosen_vars u s a (Cmd i c n) = is_pick (pick s i) c && use_at a i n (chosen u s i)
chosen_vars u s a Wide = some_wide u s (length u)

wide_is : (o : Option Candidate) → wide_at o ≡ true → (k : Candidate) × (o ≡ Some k) × (group k ≡ Bits64)
wide_is None h = absurd (false≢true h)
wide_is (Some k) h = (k, refl, of_width (group k) h)
  where
    of_width : (b : Width) → is_wide b ≡ true → b ≡ Bits64
    of_width Any e = absurd (false≢true e)
    of_width Bits32 e = absurd (false≢true e)
    of_width Bits64 e = refl

wide_from : (u : List Interface) (s : Choice) (i n : ℕ) → wide_at (chosen u s i) ≡ true → i < n → some_wide u s n ≡ true
wide_from u s i zero h l = absurd (omega (arith, l))
wide_from u s i (suc n) h l =
    elim (cases_lt i n) [
      | inl p ↦ or_right (wide_at (chosen u s n)) (some_wide u s n) (wide_from u s i n h p)
      | inr q ↦ let e : i ≡ n = omega (arith, q, l) in or_left (wide_at (chosen u s n)) (some_wide u s n) (subst (λ j. wide_at (chosen u s j) ≡ true) e h)
    ]

pub wide_to : (u : List Interface) (s : Choice) (n : ℕ) → some_wide u s n ≡ true → (i : ℕ) × (k : Candidate) × (chosen u s i ≡ Some k) × (group k ≡ Bits64)
wide_to u s zero h = absurd (false≢true h)
wide_to u s (suc n) h =
    elim (or_cases (wide_at (chosen u s n)) (some_wide u s n) h) [ inl p ↦ let r = wide_is (chosen u s n) p in (n, r.0, r.1, r.2) | inr q ↦ wide_to u s n q ]

pub in_universe : (u : List Interface) (i c : ℕ) (k : Candidate) → IsAt u i c k → i < length u
in_universe [] i c k e = absurd (none_some e)
in_universe (x ∷ u) zero c k e = omega arith
in_universe (x ∷ u) (suc i) c k e = let l = in_universe u i c k e in omega (arith, l)

not_wide : ◌≡◌ {A = Width} Bits32 Bits64 → ⊥
not_wide e = cc

module _ (u : List Interface) (req : Requirement) (s : Choice) (v : IsValid u req s) where
  abbrev w : Var → Bool
  w x = chosen_vars u s v.walk x

  pub picked : (i c : ℕ) (k : Candidate) → IsAt u i c k → w (Cand i c) ≡ true → chosen u s i ≡ Some k
  picked i c k at t = chosen_is u s i c k (pick_eq (pick s i) c t) at

  use_true : (i c : ℕ) (k : Candidate) (name : List ℕ) (m : Command) (h : Stands k name m) → pick s i ≡ Some c → chosen u s i ≡ Some k → is_used v.walk i name ≡ true → w (Cmd i c h.place) ≡ true
  use_true i c k name m h p e on =
      let called : m.name ≡ name = (bytes_decides m.name name).0 h.called in
      let used : is_used v.walk i m.name ≡ true = subst (λ x. is_used v.walk i x ≡ true) (sym called) on in
      let placed : command_place k m.name ≡ Some h.place = ap (λ x. command_place k x) called ∙ h.placed in
      let both : use_of v.walk i h.place k (Some m) ≡ true = and_from (is_used v.walk i m.name) (is_pick (command_place k m.name) h.place) used (pick_is (command_place k m.name) h.place placed) in
      and_from (is_pick (pick s i) c) (use_at v.walk i h.place (chosen u s i)) (pick_is (pick s i) c p)
      (subst (λ o. use_at v.walk i h.place o ≡ true) (sym e) (subst (λ o. use_of v.walk i h.place k o ≡ true) (sym h.there) both))

  uses_named : (i c : ℕ) (k : Candidate) (names : List (List ℕ)) → pick s i ≡ Some c → chosen u s i ≡ Some k → All (λ name. Has k name) names → ((name : List ℕ) → In name names → IsThere u s (Need i name) → is_used v.walk i name ≡ true) → Uses w i c k names
  uses_named i c k [] p e h g = tt
  uses_named i c k (name ∷ names) p e h g =
      let x = some_of (command_of k name) (All-head (λ name. Has k name) name names h) in
      let at : Stands k name x.0 = stands_at k name x.0 x.1 in
      let on : is_used v.walk i name ≡ true = g name (inl refl) (x.0, ap (λ o. option_and_then (λ c. command_of c name) o) e ∙ x.1) in
      (subst (λ o. UsesOne w i c o) (sym at.placed) (use_true i c k name x.0 at p e on), uses_named i c k names p e (All-tail (λ name. Has k name) name names h) (λ n l t. g n (inr l) t))

  suits_at : (d : Dep) (j e : ℕ) (k : Candidate) → IsMet u s d → number u d.interface ≡ Some j → IsAt u j e k → w (Cand j e) ≡ true → Suits d k
  suits_at d j e k h n at t = if_some_at (λ c. Suits d c) (target u s d) k (target_at u s d j n ∙ picked j e k at t) h.suits

  has_one : (d : Dep) → IsMet u s d → d.kind ≡ Essential → HasOne u w d
  has_one d h q =
      let k = some_of (target u s d) (h.there q) in
      let j = target_from u s d k.0 k.1 in
      let c = chosen_from u s j.0 k.0 j.2 in
      let t : w (Cand j.0 c.0) ≡ true = pick_is (pick s j.0) c.0 c.1 in
      record { interface = j.0; candidate = c.0; item = k.0; target = j.1; there = c.2; admitted = (suits_at d j.0 c.0 k.0 h j.1 c.2 t).admitted; is_true = t }

  dep_named : (d : Dep) (b : Bool) → asks d ≡ b → IsMet u s d → ((z : Item) → LeadsBy u d z → IsThere u s z → has v.walk z ≡ true) → (j e : ℕ) (k : Candidate) → number u d.interface ≡ Some j → IsAt u j e k → w (Cand j e) ≡ true → Uses w j e k (if b then d.commands else [])
  dep_named d false a h g j e k n at t = tt
  dep_named d true a h g j e k n at t =
      uses_named j e k d.commands (pick_eq (pick s j) e t) (picked j e k at t) ((suits_at d j e k h n at t).commands a) (λ name l there. g (Need j name) (j, leads_where u d j a n, (refl, l)) there)

  deps_mean : (ds : List Dep) → AreMet u s ds → ((z : Item) → Leads u ds z → IsThere u s z → has v.walk z ≡ true) → AllMean u w ds
  deps_mean [] h g = tt
  deps_mean (d ∷ ds) h g =
      let here : IsMet u s d = All-head (λ d. IsMet u s d) d ds h in (
        record {
          essential = has_one d here;
          refused = λ x j e k n at t. (suits_at d j e k here n at t).admitted;
          named = λ j e k n at ok t. dep_named d (asks d) refl here (λ z l t. g z (inl l) t) j e k n at t;
        },
        deps_mean ds (All-tail (λ d. IsMet u s d) d ds h) (λ z l t. g z (inr l) t),
      )

  pub used_case : (i c n : ℕ) (k : Candidate) (m : Command) → slice_get k.imp.commands n ≡ Some m → use_of v.walk i n k (slice_get k.imp.commands n) ≡ true → (is_used v.walk i m.name ≡ true) × (command_place k m.name ≡ Some n)
  used_case i c n k m e h =
      let b = and_parts (is_used v.walk i m.name) (is_pick (command_place k m.name) n) (subst (λ o. use_of v.walk i n k o ≡ true) e h) in
      (b.0, pick_eq (command_place k m.name) n b.1)

  pub on_walk : (i c : ℕ) → pick s i ≡ Some c → is_listed v.walk i ≡ true
  on_walk i c p = (on_is u req s v.walk v.walks i ((v.exactly i).0 (some_is (pick s i) c p))).1

  command_means : (i c n : ℕ) (k : Candidate) (m : Command) → IsAt u i c k → slice_get k.imp.commands n ≡ Some m → w (Cmd i c n) ≡ true → (w (Cand i c) ≡ true) × AllMean u w (needs_of m)
  command_means i c n k m at e t =
      let b = and_parts (is_pick (pick s i) c) (use_at v.walk i n (chosen u s i)) t in
      let x : chosen u s i ≡ Some k = picked i c k at b.0 in
      let y = used_case i c n k m e (subst (λ o. use_at v.walk i n o ≡ true) x b.1) in
      let found = found_name k m.name n m y.1 e in
      let it : command_at u s i m.name ≡ Some m = ap (λ o. option_and_then (λ c. command_of c m.name) o) x ∙ found in
      let on = any_found (λ (q : Use). q.interface == i && bytes_eq q.command m.name) v.walk.used y.0 in
      let same = and_parts (on.1.interface == i) (bytes_eq on.1.command m.name) on.3 in
      let met : IfSome (command_at u s on.1.interface on.1.command) (λ m. AreMet u s (needs_of m)) = all_at (λ (q : Use). IfSome (command_at u s q.interface q.command) (λ m. AreMet u s (needs_of m))) v.walk.used on.0 on.1 v.used_met on.2 in
      let mine : IfSome (command_at u s i m.name) (λ m. AreMet u s (needs_of m)) =
      subst (λ j. IfSome (command_at u s j m.name) (λ m. AreMet u s (needs_of m))) (eqb-true on.1.interface i same.0)
      (subst (λ x. IfSome (command_at u s on.1.interface x) (λ m. AreMet u s (needs_of m))) ((bytes_decides on.1.command m.name).0 same.1) met) in (
        b.0,
        deps_mean (needs_of m) (if_some_at (λ m. AreMet u s (needs_of m)) (command_at u s i m.name) m it mine)
            (λ z l t. closed u req s v.walk v.walks (Need i m.name) z y.0 (subst (λ o. Leads u (deps_after o) z) (sym it) l) t),
      )
    where
      found_name : (k : Candidate) (name : List ℕ) (n : ℕ) (m : Command) → command_place k name ≡ Some n → slice_get k.imp.commands n ≡ Some m → command_of k name ≡ Some m
      found_name k name n m p e = let f = found_of k name n p in f.1 ∙ sym f.2 ∙ e

  wants : (c : ℕ) (k : Candidate) (o : Option (List ℕ)) → IsAt u 0 c k → w (Cand 0 c) ≡ true → IfSome o (λ name. Has k name) → ((name : List ℕ) → In name (wanted o) → IsThere u s (Need 0 name) → is_used v.walk 0 name ≡ true) → Uses w 0 c k (wanted o)
  wants c k None at t h g = tt
  wants c k (Some name) at t h g =
      uses_named 0 c k (name ∷ []) (pick_eq (pick s 0) c t) (picked 0 c k at t) (All-cons (λ name. Has k name) name [] h (All-nil (λ name. Has k name))) g

  pub valid_means : Means u req w
  valid_means =
      let r = some_and (chosen u s 0) (λ c. IfSome req.command (λ name. Has c name)) v.root in
      let c = chosen_from u s 0 r.0 r.1 in
      record {
        root = record { candidate = c.0; item = r.0; there = c.2; is_true = pick_is (pick s 0) c.0 c.1 };
        root_has = λ e k at t. wants e k req.command at t (subst (λ x. IfSome req.command (λ name. Has x name)) (one_value (picked 0 e k at t) r.1) r.2) (λ name l there. cover_each name there.0 v.walks.needs l there.1);
        one = λ i e f l n p q. same_Some _ _ (sym (pick_eq (pick s i) e p) ∙ pick_eq (pick s i) f q);
        each = λ i e k at. record {
          bits64 = λ t b. wide_from u s i (length u) (subst (λ o. wide_at o ≡ true) (sym (picked i e k at t)) (ap is_wide b)) (in_universe u i e k at);
          bits32 = λ t b. false_from_ne_true (some_wide u s (length u)) (λ h. let x = wide_to u s (length u) h in v.one_group i x.0 k x.1 (picked i e k at t) x.2 b x.3);
          deps = λ t. deps_mean k.imp.deps (if_some_at (λ c. AreMet u s c.imp.deps) (chosen u s i) k (picked i e k at t) (v.met i)) (λ z l h. closed u req s v.walk v.walks (Visit i) z (on_walk i e (pick_eq (pick s i) e t)) (subst (λ o. Leads u (deps_of o) z) (sym (picked i e k at t)) l) h);
          commands = λ n m e' t. command_means i e n k m at e' t;
        };
      }
    where
      some_and : (o : Option Candidate) (P : Candidate → Type 0) → IsSomeAnd o P → (k : Candidate) × (o ≡ Some k) × P k
      some_and None P h = absurd h
      some_and (Some k) P h = (k, refl, h)
