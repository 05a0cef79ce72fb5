-- How many calls a purger makes, and where it ends as Crowded.
use Rattle.std.proofs.Common.{◌≡◌, ◌≢◌, ◌≤◌, ◌<◌, ℕ, suc, ◌+◌, ◌-◌, ◌*◌, Bool, true, false, List, [], ◌∷◌, length, Some, ◌⊎◌, inl, inr, refl, sym, ◌∙◌, ap, subst, slice_get, nat_lt, if◌then◌else◌, arith}
use Rattle.std.proofs.lemmas.Bool.{lt-ltb, ltb-true}
use Rattle.std.proofs.lemmas.Option.{slice_get_within}
use Rattle.zi_tree.specs.Dir.{Dir}
use Rattle.zi_shelf.specs.Names.{Name}
use Rattle.zi_shelf.specs.Shelved.{Shelved, Call, Rename, SettleTop, RemoveTop, Reply, Did, Exists, Failed, Memory, Answers}
use Rattle.zi_shelf.specs.Filling.{Work, trees}
use Rattle.zi_session.specs.Phases.{tmp_name}
use Rattle.zi_session.proofs.CallsLemmas.{not_lt}
use Rattle.zi_session.proofs.TiedLemmas.{lawful}
use Rattle.zi_purge.specs.Machine.{Phase, Moving, Sealing, Clearing, Closing, Ended, Stopped, Crowded, purged, moving, next_call, next_phase}
use Rattle.zi_purge.specs.Stepping.{Standing, at_start, Says, SaysOn}
use Rattle.zi_purge.specs.Counting.{Made, Makes, HasMade, one_taken, taken, FewCalls, AllTaken, FoundTaken, Crowds, StepIsMade}
use Rattle.zi_purge.specs.declared.step.PurgeStep.{PurgeStep}
use Rattle.zi_purge.specs.declared.step.PurgeStep.TheVariants.{More, Crowded as SaysCrowded}
use Rattle.zi_purge.proofs.PurgingLemmas.{rename_is}
use Rattle.zi_purge.proofs.ProgressLemmas.{IsFew, few_moving, few_next}

-- so many calls are left at most, those that find a temporary name taken aside, where there are so many names
abbrev left_in : ℕ → Phase → ℕ
left_in all (Moving k n) = 3 * (all - k) + 1
left_in all (Sealing k n) = 3 * (all - (k + 1)) + 3
left_in all (Clearing k n) = 3 * (all - (k + 1)) + 2
left_in all Closing = 1
left_in all (Ended a) = 0
left_in all Stopped = 0

left_moving : (all k : ℕ) → left_in all (moving all k) ≤ 3 * (all - k) + 1
left_moving all k = elim (nat_lt k all) as (λ b. left_in all (if b then Moving k 0 else Closing) ≤ 3 * (all - k) + 1) [ true ↦ omega arith | false ↦ omega arith ]

left_tries : (all k n : ℕ) (b : Bool) → left_in all (if b then Moving k (n + 1) else Ended Crowded) ≤ 3 * (all - k) + 1
left_tries all k n true = omega arith
left_tries all k n false = omega arith

-- one call takes one of those that are left, or finds a temporary name taken
spends : (names : List Name) (p : Phase) (reply : Reply) (call : Call Work) (s t : Shelved Dir) → next_call tmp_name names p ≡ Some call → reply ≢ Memory
    → Answers trees s call reply t → left_in (length names) (next_phase 10000 (length names) p reply) + 1 ≤ left_in (length names) p + one_taken reply
spends names p Memory call s t m given a = absurd (given refl)
spends names (Moving k n) Failed call s t m given a = omega arith
spends names (Moving k n) Did call s t m given a =
    let f = rename_is (slice_get names k) (tmp_name n) call m in omega (arith, slice_get_within names k f.0 f.1)
spends names (Moving k n) Exists call s t m given a = omega (arith, left_tries (length names) k n (nat_lt (n + 1) 10000))
spends names (Sealing k n) Failed call s t m given a = omega arith
spends names (Sealing k n) Did call s t m given a = omega arith
spends names (Sealing k n) Exists call s t m given a = let e : call ≡ SettleTop = cc m in absurd (subst (λ c. Answers trees s c Exists t) e a)
spends names (Clearing k n) Failed call s t m given a = omega arith
spends names (Clearing k n) Did call s t m given a = omega (arith, left_moving (length names) (k + 1))
spends names (Clearing k n) Exists call s t m given a = let e : call ≡ RemoveTop (tmp_name n) = cc m in absurd (subst (λ c. Answers trees s c Exists t) e a)
spends names Closing Failed call s t m given a = omega arith
spends names Closing Did call s t m given a = omega arith
spends names Closing Exists call s t m given a = let e : call ≡ SettleTop = cc m in absurd (subst (λ c. Answers trees s c Exists t) e a)
spends names (Ended b) reply call s t m given a = absurd (cc m)
spends names Stopped reply call s t m given a = absurd (cc m)

spends_one : (x y : Standing) (m : Made) → Makes x m y → left_in (length y.names) y.phase + 1 ≤ left_in (length x.names) x.phase + one_taken m.reply
spends_one x y m c =
    subst (λ (z : Standing). left_in (length z.names) z.phase + 1 ≤ left_in (length x.names) x.phase + one_taken m.reply) (sym c.goes)
    (spends x.names x.phase m.reply m.call c.before c.after c.makes c.given c.answers)

spends_all : (x y : Standing) (made : List Made) → HasMade x made y → length made + left_in (length y.names) y.phase ≤ left_in (length x.names) x.phase + taken made
spends_all x y [] e = subst (λ (z : Standing). 0 + left_in (length z.names) z.phase ≤ left_in (length x.names) x.phase + 0) (sym e) (omega arith)
spends_all x y (m ∷ made) (mid, before, last) =
    let a : length made + left_in (length mid.names) mid.phase ≤ left_in (length x.names) x.phase + taken made = spends_all x mid made before in
    let b : left_in (length y.names) y.phase + 1 ≤ left_in (length mid.names) mid.phase + one_taken m.reply = spends_one mid y m last in
    omega (arith, a, b)

pub few_calls : FewCalls
few_calls kept there made new calls =
    let names = purged kept there in
    let all : length made + left_in (length new.names) new.phase ≤ left_in (length names) (moving (length names) 0) + taken made = spends_all (at_start kept there) new made calls in
    omega (arith, all, left_moving (length names) 0)

-- where it ends as Crowded

few_along : (kept there : List Name) (made : List Made) (y : Standing) → HasMade (at_start kept there) made y → IsFew y.phase
few_along kept there [] y e = subst (λ (z : Standing). IsFew z.phase) (sym e) (few_moving (length (purged kept there)) 0)
few_along kept there (m ∷ made) y (mid, before, last) =
    subst (λ (z : Standing). IsFew z.phase) (sym last.goes) (few_next (length mid.names) mid.phase m.reply (few_along kept there made mid before))

-- the phase before one in which a name is to be renamed
back_tries : (k n a b : ℕ) (t : Bool) → ◌≡◌ {A = Phase} (if t then Moving a (b + 1) else Ended Crowded) (Moving k n) → (a ≡ k) × (n ≡ suc b)
back_tries k n a b true e = let p : a ≡ k = cc e in let q : b + 1 ≡ n = cc e in (p, omega (arith, q))
back_tries k n a b false e = absurd (cc e)

back_names : (all k n a : ℕ) (t : Bool) → ◌≡◌ {A = Phase} (if t then Moving a 0 else Closing) (Moving k n) → n ≡ 0
back_names all k n a true e = let q : 0 ≡ n = cc e in sym q
back_names all k n a false e = absurd (cc e)

-- it is the first number, or the one before was found taken
abbrev ComesFrom : Phase → Reply → ℕ → ℕ → Type 0
ComesFrom p reply k n = (n ≡ 0) ⊎ ((b : ℕ) × (p ≡ Moving k b) × (reply ≡ Exists) × (n ≡ suc b))

back : (all : ℕ) (p : Phase) (reply : Reply) (k n : ℕ) → reply ≢ Memory → next_phase 10000 all p reply ≡ Moving k n → ComesFrom p reply k n
back all p Memory k n given e = absurd (given refl)
back all p Failed k n given e = absurd (cc e)
back all (Moving a b) Did k n given e = absurd (cc e)
back all (Moving a b) Exists k n given e = let f = back_tries k n a b (nat_lt (b + 1) 10000) e in inr (b, ap (λ i. Moving i b) f.0, refl, f.1)
back all (Sealing a b) Did k n given e = absurd (cc e)
back all (Sealing a b) Exists k n given e = absurd (cc e)
back all (Clearing a b) Did k n given e = inl (back_names all k n (a + 1) (nat_lt (a + 1) all) e)
back all (Clearing a b) Exists k n given e = absurd (cc e)
back all Closing Did k n given e = absurd (cc e)
back all Closing Exists k n given e = absurd (cc e)
back all (Ended a) Did k n given e = absurd (cc e)
back all (Ended a) Exists k n given e = absurd (cc e)
back all Stopped Did k n given e = absurd (cc e)
back all Stopped Exists k n given e = absurd (cc e)

-- the call is the rename of this name
renames_it : (names : List Name) (p : Phase) (k n : ℕ) (d : Name) (call : Call Work) → p ≡ Moving k n → slice_get names k ≡ Some d → next_call tmp_name names p ≡ Some call → call ≡ Rename d (tmp_name n)
renames_it names p k n d call is at m =
    let f = rename_is (slice_get names k) (tmp_name n) call (subst (λ q. next_call tmp_name names q ≡ Some call) is m) in
    let a = f.1 in
    let same : f.0 ≡ d = cc (a, at) in
    sym f.2 ∙ ap (λ x. Rename x (tmp_name n)) same

none_taken : (d : Name) (n : ℕ) (made : List Made) → n ≡ 0 → AllTaken d n made
none_taken d n made e = subst (λ j. AllTaken d j made) (sym e) tt

-- each number before the one that is tried was found taken for this name
tried : (kept there : List Name) (made : List Made) (y : Standing) (k n : ℕ) (d : Name) → HasMade (at_start kept there) made y → y.phase ≡ Moving k n → slice_get y.names k ≡ Some d → AllTaken d n made
tried kept there [] y k n d e is at =
    let all = length (purged kept there) in
    none_taken d n [] (back_names all k n 0 (nat_lt 0 all) (sym (ap (λ (z : Standing). z.phase) e) ∙ is))
tried kept there (m ∷ made) y k n d (mid, before, last) is at =
    elim (back (length mid.names) mid.phase m.reply k n last.given (sym (ap (λ (z : Standing). z.phase) last.goes) ∙ is)) [
      | inl e ↦ none_taken d n (m ∷ made) e
      | inr (b, was, exists, next) ↦
          let there_at : slice_get mid.names k ≡ Some d = ap (λ (z : Standing). slice_get z.names k) (sym last.goes) ∙ at in
          subst (λ j. AllTaken d j (m ∷ made)) (sym next)
          (renames_it mid.names mid.phase k b d m.call was there_at last.makes, exists, tried kept there made mid k b d before was there_at)
    ]

-- a reply that the answer Crowded comes from
record IsLast (p : Phase) (reply : Reply) (tried : ℕ) : Type 0 where
  k : ℕ
  n : ℕ
  is : p ≡ Moving k n
  exists : reply ≡ Exists
  enough : 10000 ≤ n + 1
  told : tried ≡ 10000

same_tried : (a b : ℕ) → SaysCrowded a ≡ SaysCrowded b → a ≡ b
same_tried a b e = cc e

crowded_tries : (k n tried : ℕ) (step : PurgeStep) (t : Bool) → nat_lt (n + 1) 10000 ≡ t → Says (Moving k n) (if t then Moving k (n + 1) else Ended Crowded) step → step ≡ SaysCrowded tried → IsLast (Moving k n) Exists tried
crowded_tries k n tried step true e says is = absurd (cc (says, is))
crowded_tries k n tried step false e says is =
    record { k = k; n = n; is = refl; exists = refl; enough = not_lt (n + 1) 10000 (λ less. (let f = lt-ltb (n + 1) 10000 less in cc (e, f))); told = same_tried tried 10000 (sym is ∙ says) }

crowded_names : (p : Phase) (all k : ℕ) (step : PurgeStep) (t : Bool) → Says p (if t then Moving k 0 else Closing) step → step ≡ More
crowded_names p all k step true says = says
crowded_names p all k step false says = says

crowds_from : (names : List Name) (p : Phase) (reply : Reply) (call : Call Work) (step : PurgeStep) (tried : ℕ) → next_call tmp_name names p ≡ Some call → reply ≢ Memory
    → SaysOn p reply (next_phase 10000 (length names) p reply) step → step ≡ SaysCrowded tried → IsLast p reply tried
crowds_from names p Memory call step tried m given says is = absurd (given refl)
crowds_from names p Failed call step tried m given says is = absurd (cc (says, is))
crowds_from names (Moving k n) Did call step tried m given says is = absurd (cc (says, is))
crowds_from names (Moving k n) Exists call step tried m given says is = crowded_tries k n tried step (nat_lt (n + 1) 10000) refl says is
crowds_from names (Sealing k n) Did call step tried m given says is = absurd (cc (says, is))
crowds_from names (Sealing k n) Exists call step tried m given says is = absurd (cc (says, is))
crowds_from names (Clearing k n) Did call step tried m given says is =
    let more : step ≡ More = crowded_names (Clearing k n) (length names) (k + 1) step (nat_lt (k + 1) (length names)) says in absurd (cc (more, is))
crowds_from names (Clearing k n) Exists call step tried m given says is = absurd (cc (says, is))
crowds_from names Closing Did call step tried m given says is = absurd (cc (says, is))
crowds_from names Closing Exists call step tried m given says is = absurd (cc (says, is))
crowds_from names (Ended a) reply call step tried m given says is = absurd (cc m)
crowds_from names Stopped reply call step tried m given says is = absurd (cc m)

-- a rename is the call of no other phase
rename_phase : (names : List Name) (p : Phase) (call : Call Work) (a b : Name) → next_call tmp_name names p ≡ Some call → call ≡ Rename a b → (k : ℕ) × (n : ℕ) × (p ≡ Moving k n) × (b ≡ tmp_name n)
rename_phase names (Moving k n) call a b m e =
    let f = rename_is (slice_get names k) (tmp_name n) call m in
    let g = f.2 in
    let same : b ≡ tmp_name n = cc (e, g) in
    (k, n, refl, same)
rename_phase names (Sealing k n) call a b m e = absurd (cc (m, e))
rename_phase names (Clearing k n) call a b m e = absurd (cc (m, e))
rename_phase names Closing call a b m e = absurd (cc (m, e))
rename_phase names (Ended c) call a b m e = absurd (cc m)
rename_phase names Stopped call a b m e = absurd (cc m)

not_few : (n : ℕ) → nat_lt (n + 1) 10000 ≡ true → 10000 ≤ n + 1 → ⊥
not_few n e enough = let less : n + 1 < 10000 = ltb-true (n + 1) 10000 e in omega arith

says_crowded : (k n : ℕ) (step : PurgeStep) (t : Bool) → nat_lt (n + 1) 10000 ≡ t → 10000 ≤ n + 1 → Says (Moving k n) (if t then Moving k (n + 1) else Ended Crowded) step → step ≡ SaysCrowded 10000
says_crowded k n step true e enough says = absurd (not_few n e enough)
says_crowded k n step false e enough says = says

says_last : (all : ℕ) (p : Phase) (reply : Reply) (step : PurgeStep) (k n : ℕ) → p ≡ Moving k n → reply ≡ Exists → 10000 ≤ n + 1 → SaysOn p reply (next_phase 10000 all p reply) step → step ≡ SaysCrowded 10000
says_last all p reply step k n is exists enough says =
    let a = subst (λ q. SaysOn q reply (next_phase 10000 all q reply) step) is says in
    let b = subst (λ r. SaysOn (Moving k n) r (next_phase 10000 all (Moving k n) r) step) exists a in
    says_crowded k n step (nat_lt (n + 1) 10000) refl enough b

newest : (d : Name) (n : ℕ) (m : Made) (made : List Made) → AllTaken d (suc n) (m ∷ made) → (m.call ≡ Rename d (tmp_name n)) × (m.reply ≡ Exists)
newest d n m made h = (h.0, h.1)

-- the number that was tried last
last_number : (p : Phase) (k n : ℕ) → p ≡ Moving k n → IsFew p → n < 10000
last_number p k n is few = subst (λ q. IsFew q) is few

pub crowds : Crowds
crowds kept there m made new (mid, before, last) =
    let says : SaysOn mid.phase m.reply (next_phase 10000 (length mid.names) mid.phase m.reply) m.answer = subst (λ (z : Standing). SaysOn mid.phase m.reply z.phase m.answer) last.goes last.says in
    let few = few_along kept there made mid before in
    record {
      only = λ tried_ is.
          let c = crowds_from mid.names mid.phase m.reply m.call m.answer tried_ last.makes last.given says is in
          (c.told, found c few);
      there = λ f.
          let h = newest f.name 9999 m made f.all in
          let at = rename_phase mid.names mid.phase m.call f.name (tmp_name 9999) last.makes h.0 in
          let same : at.1 ≡ 9999 = lawful.tmp_apart at.1 9999 (last_number mid.phase at.0 at.1 at.2 few) (omega arith) (sym at.3) in
          says_last (length mid.names) mid.phase m.reply m.answer at.0 at.1 at.2 h.1 (omega (arith, same)) says;
    }
  where
    found : {tried_ : ℕ} → IsLast mid.phase m.reply tried_ → IsFew mid.phase → FoundTaken (m ∷ made)
    found c few =
        let less = last_number mid.phase c.k c.n c.is few in
        let full : suc c.n ≡ 10000 = omega (arith, less, c.enough) in
        let f = rename_is (slice_get mid.names c.k) (tmp_name c.n) m.call (subst (λ q. next_call tmp_name mid.names q ≡ Some m.call) c.is last.makes) in
        record {
          name = f.0;
          all = subst (λ j. AllTaken f.0 j (m ∷ made)) full (sym f.2, c.exists, tried kept there made mid c.k c.n f.0 before c.is f.1);
        }

pub step_is_made : StepIsMade
step_is_made x y s t step c ne = (
  record { call = c.call; reply = c.reply; answer = step },
  refl,
  record {
    makes = c.next;
    given = λ e. ne (subst (λ r. SaysOn x.phase r y.phase step) e c.says);
    before = s.shelf;
    after = t.shelf;
    answers = c.does.answers;
    goes = c.goes;
    says = c.says;
  },
)
