-- Why an option is refused, and that no right words go on so.
use Rattle.std.proofs.Common.{◌≡◌, ℕ, true, false, List, [], ◌∷◌, ◌++◌, length, refl, sym, ap, ◌∙◌, subst, inl, inr}
use Rattle.std.specs.Prelude.{codes}
use Rattle.std.specs.List.{list_any}
use Rattle.std.specs.BTreeSet.{BTreeSet}
use Rattle.zi_words.specs.declared.kind.Kind.{Kind}
use Rattle.zi_words.specs.declared.kind.Kind.TheVariants as kind
use Rattle.zi_words.specs.declared.loader.Loader.{Loader}
use Rattle.zi_words.specs.declared.request.Request.{Request}
use Rattle.zi_words.specs.Forms.{Word, Address, Anything, Rating, Is, Are, is_address}
use Rattle.zi_words.specs.Options.{Item, Once, Often, AreItems, name_of, has_option, forms, rule_of, first, second, clash, any_clash, gathered}
use Rattle.zi_words.specs.Refused.{Asks, LeftAt}
use Rattle.zi_words.specs.Taken.{Misses, Key, holds, IsKey, BreaksOff, BreaksRate, BreaksBy, has}
use Rattle.zi_words.proofs.LeftLemmas.{stuck}
use Rattle.zi_words.proofs.ClashLemmas.{clash_found}
use Rattle.zi_words.proofs.OptionLemmas.{After, First, first_of_after, live}
use Rattle.zi_words.proofs.BreakLemmas.{example_is, break_at, break_off, fresh}
use Rattle.zi_words.proofs.HasLemmas.{has_once, once_taken, once_free, often_free, Told, rate_clash}
use Rattle.zi_text.proofs.ListLaws.{head_same}

-- what clashes doesn't come next
no_clash : (l : Loader) (before : List Item) (k : Kind) (u : List Word) (r : Request) (f : First l before k u r)
    → list_any (λ y. clash y (record { kind = k; arguments = f.arguments })) before ≡ true → ⊥
no_clash l before k u r f h =
    let e : true ≡ false = sym (clash_found before (record { kind = k; arguments = f.arguments }) f.others h) ∙ f.apart in cc

-- an option that stands already
pub again : (l : Loader) (before : List Item) (k : Kind) (ws : List Word) → AreItems l before → any_clash before ≡ false → has k (gathered before) ≡ true
    → LeftAt (Asks (After l before)) (name_of k ∷ ws) (length (name_of k ∷ ws))
again l before k ws items apart some =
    stuck (Asks (After l before)) [] (name_of k) ws (live l before apart)
    (λ (more, (r, a)). let f = first_of_after l before k more r a in no_clash l before k more r f (once_taken l before k f.arguments (has_once k (gathered before) some) items some))

-- the three words behind `--rate`
pub record Three (args : List Word) : Type 0 where
  pub u : Word
  pub id : Word
  pub s : Word
  pub are : args ≡ u ∷ id ∷ s ∷ []
  pub address : is_address u ≡ true
  pub rated : Is Rating s

three : (args : List Word) → Are (Address ∷ Anything ∷ Rating ∷ []) args → Three args
three [] h = absurd h
three (u ∷ []) h = absurd h.1
three (u ∷ id ∷ []) h = absurd h.1.1
three (u ∷ id ∷ s ∷ []) h = record { u = u; id = id; s = s; are = refl; address = h.0; rated = h.1.1.0 }
three (u ∷ id ∷ s ∷ w ∷ ws) h = absurd h.1.1.1

-- the words behind `--rate` begin with the three
behind_rate : (l : Loader) (before : List Item) (ws : List Word) (r : Request) (f : First l before kind.Rate ws r) → (t : Three f.arguments) × (ws ≡ t.u ∷ t.id ∷ t.s ∷ f.rest)
behind_rate l before ws r f = let t = three f.arguments f.item.1 in (t, f.are ∙ ap (λ v. v ++ f.rest) t.are)

rest_is : Is Rating (codes "stable")
rest_is = example_is Rating

module _ (l : Loader) (before : List Item) (pairs : BTreeSet Key) (apart : any_clash before ≡ false) (told : Told before pairs) (has_rate : has_option l kind.Rate ≡ true) where
  -- the address is missing or wrong
  rate_first : (ws : List Word) (n : ℕ) → Misses Address ws n → LeftAt (Asks (After l before)) (name_of kind.Rate ∷ ws) n
  rate_first [] n m =
      let id = fresh before in
      break_at l before kind.Rate [] [] [] (codes "/" ∷ id.0 ∷ codes "stable" ∷ []) n apart refl m (has_rate, (example_is Address, (tt, (rest_is, tt)))) (id.1 (codes "/") (codes "stable"))
      (λ t r f. let b = behind_rate l before [] r f in let e = b.1 in cc)
  rate_first (w ∷ ws) n m =
      let id = fresh before in
      let P : Word → Type 0 = λ v. is_address v ≡ true in
      break_at l before kind.Rate (w ∷ ws) [] (w ∷ ws) (codes "/" ∷ id.0 ∷ codes "stable" ∷ []) n apart refl m.1 (has_rate, (example_is Address, (tt, (rest_is, tt)))) (id.1 (codes "/") (codes "stable"))
      (λ t r f.
      let b = behind_rate l before (w ∷ t) r f in
      let h = head_same w b.0.u t (b.0.id ∷ b.0.s ∷ f.rest) b.1 in
      m.0 (subst P (sym h.0) b.0.address))

  -- the id is missing
  rate_second : (u : Word) (n : ℕ) → is_address u ≡ true → n ≡ 0 → LeftAt (Asks (After l before)) (name_of kind.Rate ∷ u ∷ []) n
  rate_second u n a m =
      let id = fresh before in
      break_at l before kind.Rate (u ∷ []) (u ∷ []) [] (id.0 ∷ codes "stable" ∷ []) n apart refl m (has_rate, (a, (tt, (rest_is, tt)))) (id.1 u (codes "stable"))
      (λ t r f.
      let b = behind_rate l before (u ∷ []) r f in
      let h = head_same u b.0.u [] (b.0.id ∷ b.0.s ∷ f.rest) b.1 in
      let e = h.1 in
      cc)

  -- the pair stands already
  rate_twice : (u id : Word) (last : List Word) (key : Key) (n : ℕ) → is_address u ≡ true → IsKey key u id → holds pairs key ≡ true → n ≡ length (id ∷ last)
      → LeftAt (Asks (After l before)) (name_of kind.Rate ∷ u ∷ id ∷ last) n
  rate_twice u id last key n a is there m =
      let other = fresh before in
      break_at l before kind.Rate (u ∷ id ∷ last) (u ∷ []) (id ∷ last) (other.0 ∷ codes "stable" ∷ []) n apart refl m (has_rate, (a, (tt, (rest_is, tt)))) (other.1 u (codes "stable"))
      (λ t r f.
      let b = behind_rate l before (u ∷ id ∷ t) r f in
      let h = head_same u b.0.u (id ∷ t) (b.0.id ∷ b.0.s ∷ f.rest) b.1 in
      let g = head_same id b.0.id t (b.0.s ∷ f.rest) h.1 in
      no_clash l before kind.Rate (u ∷ id ∷ t) r f
      (rate_clash before pairs key u id f.arguments told is (ap first b.0.are ∙ sym h.0) (ap second b.0.are ∙ sym g.0) ∙ there))

  -- the stability is missing or wrong
  rate_last : (u id : Word) (last : List Word) (key : Key) (n : ℕ) → is_address u ≡ true → IsKey key u id → holds pairs key ≡ false → Misses Rating last n
      → LeftAt (Asks (After l before)) (name_of kind.Rate ∷ u ∷ id ∷ last) n
  rate_last u id [] key n a is absent m =
      break_at l before kind.Rate (u ∷ id ∷ []) (u ∷ id ∷ []) [] (codes "stable" ∷ []) n apart refl m (has_rate, (a, (tt, (rest_is, tt))))
      (rate_clash before pairs key u id (u ∷ id ∷ codes "stable" ∷ []) told is refl refl ∙ absent)
      (λ t r f.
      let b = behind_rate l before (u ∷ id ∷ []) r f in
      let h = head_same u b.0.u (id ∷ []) (b.0.id ∷ b.0.s ∷ f.rest) b.1 in
      let g = head_same id b.0.id [] (b.0.s ∷ f.rest) h.1 in
      let e = g.1 in
      cc)
  rate_last u id (w ∷ last) key n a is absent m =
      let P : Word → Type 0 = λ v. Is Rating v in
      break_at l before kind.Rate (u ∷ id ∷ w ∷ last) (u ∷ id ∷ []) (w ∷ last) (codes "stable" ∷ []) n apart refl m.1 (has_rate, (a, (tt, (rest_is, tt))))
      (rate_clash before pairs key u id (u ∷ id ∷ codes "stable" ∷ []) told is refl refl ∙ absent)
      (λ t r f.
      let b = behind_rate l before (u ∷ id ∷ w ∷ t) r f in
      let h = head_same u b.0.u (id ∷ w ∷ t) (b.0.id ∷ b.0.s ∷ f.rest) b.1 in
      let g = head_same id b.0.id (w ∷ t) (b.0.s ∷ f.rest) h.1 in
      let i = head_same w b.0.s t f.rest g.1 in
      m.0 (subst P (sym i.0) b.0.rated))

  rate_off : (ws : List Word) (n : ℕ) → BreaksRate pairs ws n → LeftAt (Asks (After l before)) (name_of kind.Rate ∷ ws) n
  rate_off ws n (inl m) = rate_first ws n m
  rate_off ws n (inr (u, rest, e, a, inl (none, m))) =
      let P : List Word → Type 0 = λ v. LeftAt (Asks (After l before)) (name_of kind.Rate ∷ v) n in
      subst P (sym (e ∙ ap (λ v. u ∷ v) none)) (rate_second u n a m)
  rate_off ws n (inr (u, rest, e, a, inr (id, last, key, d, is, inl (there, m)))) =
      let P : List Word → Type 0 = λ v. LeftAt (Asks (After l before)) (name_of kind.Rate ∷ v) n in
      subst P (sym (e ∙ ap (λ v. u ∷ v) d)) (rate_twice u id last key n a is there (m ∙ ap length d))
  rate_off ws n (inr (u, rest, e, a, inr (id, last, key, d, is, inr (absent, m)))) =
      let P : List Word → Type 0 = λ v. LeftAt (Asks (After l before)) (name_of kind.Rate ∷ v) n in
      subst P (sym (e ∙ ap (λ v. u ∷ v) d)) (rate_last u id last key n a is absent m)

-- any option whose arguments break off
module _ (l : Loader) (before : List Item) (pairs : BTreeSet Key) (apart : any_clash before ≡ false) (told : Told before pairs) where
  once_off : (k : Kind) (ws : List Word) (n : ℕ) → rule_of k ≡ Once → AreItems l before → has k (gathered before) ≡ false → has_option l k ≡ true → BreaksOff (forms k) ws n
      → LeftAt (Asks (After l before)) (name_of k ∷ ws) n
  once_off k ws n once items none its h = break_off l before k ws n apart its h (λ args. once_free l before k args once items none)

  often_off : (k : Kind) (ws : List Word) (n : ℕ) → rule_of k ≡ Often → has_option l k ≡ true → BreaksOff (forms k) ws n
      → LeftAt (Asks (After l before)) (name_of k ∷ ws) n
  often_off k ws n often its h = break_off l before k ws n apart its h (λ args. often_free before k args often)

  pub off : (k : Kind) (ws : List Word) (n : ℕ) → AreItems l before → has k (gathered before) ≡ false → has_option l k ≡ true → BreaksBy (rule_of k) (forms k) pairs ws n
      → LeftAt (Asks (After l before)) (name_of k ∷ ws) n
  off kind.Command ws n items none its h = once_off kind.Command ws n refl items none its h
  off kind.NoCommand ws n items none its h = once_off kind.NoCommand ws n refl items none its h
  off kind.Version ws n items none its h = once_off kind.Version ws n refl items none its h
  off kind.Os ws n items none its h = once_off kind.Os ws n refl items none its h
  off kind.Cpu ws n items none its h = once_off kind.Cpu ws n refl items none its h
  off kind.Level ws n items none its h = once_off kind.Level ws n refl items none its h
  off kind.Network ws n items none its h = once_off kind.Network ws n refl items none its h
  off kind.Search ws n items none its h = once_off kind.Search ws n refl items none its h
  off kind.Proof ws n items none its h = once_off kind.Proof ws n refl items none its h
  off kind.VersionFor ws n items none its h = often_off kind.VersionFor ws n refl its h
  off kind.Lang ws n items none its h = often_off kind.Lang ws n refl its h
  off kind.Use ws n items none its h = often_off kind.Use ws n refl its h
  off kind.Rate ws n items none its h = rate_off l before pairs apart told its ws n h
