-- An answer lasts through every later event.
use Rattle.std.proofs.Common.{◌≡◌, ℕ, zero, suc, List, [], ◌∷◌, ◌++◌, map, length, Some, ◌⊎◌, inl, inr, refl, sym, ◌∙◌, ap, subst, slice_get, slice_set, option_map}
use Rattle.zi_shelf.specs.Names.{Name}
use Rattle.zi_shelf.specs.Shelved.{Top, Call}
use Rattle.zi_session.specs.Machine.{Rules, Adder, World, Phase, Making, Ended, Stored, Present, next_call, next_phase, halted, stopped, Event, Begin, Step, Stop, Crash, CrashIn, Leads, Runs}
use Rattle.zi_session.specs.Law.{IsLawful, HasAdded}
use Rattle.zi_session.specs.Invariant.{Inv}
use Rattle.zi_session.specs.Lasting.{Lasts}
use Rattle.zi_session.proofs.KeptLemmas.{event_keeps, start_inv, run_keeps, added_fits, keeps_there, keeps_through}
use Rattle.zi_text.proofs.ListLaws.{at_front, some_of}

-- after a write it stands there, or it was written over
written : {V : Type 0} (xs : List V) (i j : ℕ) (a v : V) → slice_get xs i ≡ Some a
    → ((i ≡ j) × (slice_get (slice_set xs j v) i ≡ Some v)) ⊎ (slice_get (slice_set xs j v) i ≡ Some a)
written [] i j a v h = absurd (cc h)
written (x ∷ xs) zero zero a v h = inl (refl, refl)
written (x ∷ xs) zero (suc j) a v h = inr h
written (x ∷ xs) (suc i) zero a v h = inr h
written (x ∷ xs) (suc i) (suc j) a v h = elim (written xs i j a v h) [ inl p ↦ inl (ap suc p.0, p.1) | inr g ↦ inr g ]

mapped : {V : Type 0} (f : V → V) (xs : List V) (i : ℕ) (a : V) → slice_get xs i ≡ Some a → slice_get (map f xs) i ≡ Some (f a)
mapped f [] i a h = absurd (cc h)
mapped f (x ∷ xs) zero a h = ap (λ o. option_map f o) h
mapped f (x ∷ xs) (suc i) a h = mapped f xs i a h

-- it has answered Stored or Present
abbrev HasAnswered : Phase → Type 0
HasAnswered p = (p ≡ Ended Stored) ⊎ (p ≡ Ended Present)

still : (p : Phase) → HasAnswered p → HasAnswered (halted p)
still p h = elim h [ inl e ↦ inl (ap halted e) | inr e ↦ inr (ap halted e) ]

no_call : {W : Type 0} (tmp : ℕ → Name) (works : List W) (name : Name) (p : Phase) (call : Call W) → HasAnswered p → next_call tmp works name p ≡ Some call → ⊥
no_call tmp works name p call h makes = elim h [
  | inl e ↦ cc (subst (λ q. next_call tmp works name q ≡ Some call) e makes)
  | inr e ↦ cc (subst (λ q. next_call tmp works name q ≡ Some call) e makes)
]

along : {T : Type 0} (xs ys : List (Adder T)) (i : ℕ) (a : Adder T) → ys ≡ xs → slice_get xs i ≡ Some a → slice_get ys i ≡ Some a
along xs ys i a e h = subst (λ l. slice_get l i ≡ Some a) (sym e) h

module _ {T W : Type 0} (r : Rules T W) (lawful : IsLawful r) where
  halts : (old new : World T) (i : ℕ) (name : Name) → new.adders ≡ map stopped old.adders → HasAdded old i name → HasAdded new i name
  halts old new i name after (a, is, named, ended) =
      (stopped a, along (map stopped old.adders) new.adders i (stopped a) after (mapped stopped old.adders i a is), named, still a.phase ended)

  answer_stays : (old new : World T) (e : Event T) (i : ℕ) (name : Name) → Leads r old e new → HasAdded old i name → HasAdded new i name
  answer_stays old new (Begin n t) i name (digest, begins, same, added) (a, is, named, ended) =
      (a, along _ new.adders i a added (at_front old.adders (record { name = n; tree = t; phase = Making 0 } ∷ []) i a is), named, ended)
  answer_stays old new (Step j) i name st (a, is, named, ended) =
      let moved = record st.adder { phase = next_phase r.tries (length (r.works st.adder.name st.adder.tree)) st.adder.phase st.reply } in
      elim (written old.adders i j a moved is) [
        | inl p ↦
            let it : st.adder ≡ a = (let o : Some st.adder ≡ Some a = sym st.is ∙ (ap (λ k. slice_get old.adders k) (sym p.0) ∙ is) in cc o) in
            absurd (no_call r.tmp (r.works st.adder.name st.adder.tree) st.adder.name st.adder.phase st.call (subst (λ (x : Adder T). HasAnswered x.phase) (sym it) ended) st.makes)
        | inr g ↦ (a, along (slice_set old.adders j moved) new.adders i a st.adders g, named, ended)
      ]
  answer_stays old new (Stop j) i name (b, got, same, after) (a, is, named, ended) =
      elim (written old.adders i j a (stopped b) is) [
        | inl p ↦
            let it : b ≡ a = (let o : Some b ≡ Some a = sym got ∙ (ap (λ k. slice_get old.adders k) (sym p.0) ∙ is) in cc o) in
            let g : slice_get new.adders i ≡ Some (stopped b) = along (slice_set old.adders j (stopped b)) new.adders i (stopped b) after p.1 in
            (stopped b, g, ap (λ (x : Adder T). x.name) it ∙ named, still b.phase (subst (λ (x : Adder T). HasAnswered x.phase) (sym it) ended))
        | inr g ↦ (a, along (slice_set old.adders j (stopped b)) new.adders i a after g, named, ended)
      ]
  answer_stays old new Crash i name (c, none, after) has = halts old new i name after has
  answer_stays old new (CrashIn j) i name (b, got, call, makes, c, none, after) has = halts old new i name after has

  is_digest_of : (w : World T) (i : ℕ) (name : Name) → Inv r w.shelf w.adders → HasAdded w i name → r.is_digest name
  is_digest_of w i name inv (a, is, named, ended) = subst (λ n. r.is_digest n) named (inv.each i a is).digest

  entry_stays : (old new : World T) (e : Event T) (i : ℕ) (name : Name) (x : Top T) → Inv r old.shelf old.adders → Leads r old e new → HasAdded old i name
      → old.shelf.tops name ≡ Some x → new.shelf.tops name ≡ Some x
  entry_stays old new (Begin n t) i name x inv l has at = keeps_there r lawful old new (Begin n t) inv l refl name x (is_digest_of old i name inv has) at
  entry_stays old new (Step j) i name x inv l has at = keeps_there r lawful old new (Step j) inv l refl name x (is_digest_of old i name inv has) at
  entry_stays old new (Stop j) i name x inv l has at = keeps_there r lawful old new (Stop j) inv l refl name x (is_digest_of old i name inv has) at
  entry_stays old new Crash i name x inv l has at =
      (keeps_through r lawful old new Crash inv l refl).stays name x (is_digest_of old i name inv has) at (added_fits r lawful old i name inv has).1
  entry_stays old new (CrashIn j) i name x inv l has at =
      (keeps_through r lawful old new (CrashIn j) inv l refl).stays name x (is_digest_of old i name inv has) at (added_fits r lawful old i name inv has).1

  lasts_on : (after : List (Event T)) (w new : World T) (i : ℕ) (name : Name) (x : Top T) → Inv r w.shelf w.adders → HasAdded w i name
      → w.shelf.tops name ≡ Some x → Runs r w after new → HasAdded new i name × (new.shelf.tops name ≡ Some x)
  lasts_on [] w new i name x inv has at ran = subst (λ (v : World T). HasAdded v i name × (v.shelf.tops name ≡ Some x)) (sym ran) (has, at)
  lasts_on (e ∷ es) w new i name x inv has at (mid, first, rest) =
      lasts_on es mid new i name x (event_keeps r lawful w mid e inv first) (answer_stays w mid e i name first has) (entry_stays w mid e i name x inv first has at) rest

pub lasts : {T W : Type 0} (r : Rules T W) → IsLawful r → Lasts r
lasts r lawful start w new before after i name is_start ran has more =
    let inv = run_keeps r lawful before start w (start_inv r lawful start is_start) ran in
    let found = some_of (w.shelf.tops name) (added_fits r lawful w i name inv has).0 in
    let last = lasts_on r lawful after w new i name found.0 inv has found.1 more in
    let whole = inv.sound name found.0 (is_digest_of r lawful w i name inv has) found.1 in
    (last.0, (found.0, found.1, last.1, whole.0, whole.1))
