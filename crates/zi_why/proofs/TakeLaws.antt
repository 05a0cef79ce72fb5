-- Reports for blocks that are due, one after another.
use Rattle.std.proofs.Common.{◌≡◌, ℕ, zero, suc, ◌+◌, ◌≤◌, Bool, true, false, List, [], ◌∷◌, ◌++◌, length, map, take, drop, refl, sym, ap, ◌∙◌, subst, arith, append_assoc, Some, None}
use Rattle.std.specs.Prelude.{slice_get}
use Rattle.std.proofs.lemmas.List.{map-append, append-nil, drop_all}
use Rattle.std.proofs.lemmas.Option.{same_Some, slice_get_within, get_or_from_slice_get}
use Rattle.zi_formula.specs.declared.formula.Lit.{Lit}
use Rattle.zi_formula.specs.declared.formula.Formula.{Formula}
use Rattle.zi_proof.specs.declared.proof.Lemma.{Lemma}
use Rattle.zi_proof.specs.declared.proof.Block.{Block}
use Rattle.zi_proof.specs.declared.proof.Certificate.{Certificate}
use Rattle.zi_universe.specs.declared.types.Requirement.{Requirement}
use Rattle.zi_universe.specs.declared.types.Candidate.{Candidate}
use Rattle.zi_universe.specs.declared.types.Interface.{Interface}
use Rattle.zi_choice.specs.declared.traced.Stop.{Stop}
use Rattle.zi_choice.specs.declared.traced.Stop.TheVariants.{Came, Needed}
use Rattle.zi_choice.specs.Choice.{Choice, pick}
use Rattle.zi_choice.specs.Walk.{Walk}
use Rattle.zi_choice.specs.Stops.{AreStops, places_of, walk_of_stops}
use Rattle.zi_choice.specs.Vars.{Cand, candidates_of, var_number}
use Rattle.zi_choice.specs.Tables.{Each}
use Rattle.zi_choice.proofs.WalkLaws.{walk_one}
use Rattle.zi_choice.proofs.StopLaws.{stops_walk}
use Rattle.zi_build.specs.Clauses.{each, keep, formula}
use Rattle.zi_build.proofs.WriteLaws.{each_more}
use Rattle.zi_certificate.specs.Certificates.{Asked, is_passed, is_so, said_at, asked_one, asked_from, AreBlocks, Excludes}
use Rattle.zi_why.specs.declared.report.Report.{Report}
use Rattle.zi_why.specs.declared.setting.Setting.{Setting}
use Rattle.zi_why.specs.Known.{universe_of, picks_of}
use Rattle.zi_why.specs.Reports.{IsReport, AreReports}
use Rattle.zi_why.specs.Taking.{Due, due_one, due_at, due_from, IsDue, Reported, ReportedOn, Took, place_at, next_place, due_left}
use Rattle.zi_why.proofs.FindLaws.{drop_one}
use Rattle.zi_why.proofs.BlockLaws.{place_more}
use Rattle.zi_feed.specs.IdLaws.{none_some}

-- Lists beside one another.

each_length : {A B : Type 0} (R : A → B → Type 0) (xs : List A) (ys : List B) → Each R xs ys → length xs ≡ length ys
each_length R [] [] h = refl
each_length R [] (y ∷ ys) h = absurd h
each_length R (x ∷ xs) [] h = absurd h
each_length R (x ∷ xs) (y ∷ ys) h = ap (λ n. suc n) (each_length R xs ys h.1)

each_push : {A B : Type 0} (R : A → B → Type 0) (xs : List A) (ys : List B) (x : A) (y : B) → Each R xs ys → R x y → Each R (xs ++ x ∷ []) (ys ++ y ∷ [])
each_push R [] [] x y h r = (r, tt)
each_push R [] (z ∷ ys) x y h r = absurd h
each_push R (z ∷ xs) [] x y h r = absurd h
each_push R (z ∷ xs) (w ∷ ys) x y h r = (h.0, each_push R xs ys x y h.1 r)

get_mid : {A : Type 0} (xs ys : List A) (y : A) → slice_get (xs ++ y ∷ ys) (length xs) ≡ Some y
get_mid [] ys y = refl
get_mid (x ∷ xs) ys y = get_mid xs ys y

get_end : {A : Type 0} (xs : List A) → slice_get (xs ++ []) (length xs) ≡ None
get_end [] = refl
get_end (x ∷ xs) = get_end xs

-- One block.

-- the next block is the one that is due, and with its report the others are left
pub record Next (u : List Interface) (req : Requirement) (s : Choice) (bs : List Block) (d : Due) (ds : List Due) (rs : List Report) : Type 0 where
  pub block : Block
  pub is : slice_get bs (length rs) ≡ Some block
  pub of : IsDue d block
  pub with : (r : Report) → IsReport u req s block r → Reported u req s bs ds (rs ++ r ∷ [])

pub next_due : (u : List Interface) (req : Requirement) (s : Choice) (bs : List Block) (d : Due) (ds : List Due) (rs : List Report) → Reported u req s bs (d ∷ ds) rs → Next u req s bs d ds rs
next_due u req s bs d ds rs h = at h.left h.are h.due
  where
    at : (left : List Block) → bs ≡ h.done ++ left → Each IsDue (d ∷ ds) left → Next u req s bs d ds rs
    at [] e g = absurd g
    at (b ∷ left) e g = record {
      block = b;
      is = ap (slice_get bs) (sym (each_length (IsReport u req s) h.done rs h.reports)) ∙ ap (λ xs. slice_get xs (length h.done)) e ∙ get_mid h.done left b;
      of = g.0;
      with = λ r is. record {
        done = h.done ++ b ∷ [];
        left = left;
        are = e ∙ sym (append_assoc h.done (b ∷ []) left);
        reports = each_push (IsReport u req s) h.done rs b r h.reports is;
        due = g.1;
      };
    }

pub took_one : (on : Setting) (n i c : ℕ) (k : Candidate) (b : Block) (r : Report) (rs ss : List Report) → is_passed (pick (picks_of on) i) c ≡ true → slice_get on.blocks.now (length rs) ≡ Some b → ss ≡ rs ++ r ∷ []
    → (IsDue (record { place = n; candidate = var_number (universe_of on) (Cand i c) }) b → IsReport (universe_of on) on.req.now (picks_of on) b r)
    → Took on (due_one (universe_of on) (picks_of on) n i c k) rs ss
took_one on n i c k b r rs ss p g e f more h =
    let d : Due = record { place = n; candidate = var_number (universe_of on) (Cand i c) } in
    let x = next_due (universe_of on) on.req.now (picks_of on) on.blocks.now d more rs (subst (λ q. ReportedOn on (keep q d ++ more) rs) p h) in
    let same : x.block ≡ b = same_Some _ _ (sym x.is ∙ g) in
    subst (ReportedOn on more) (sym e) (x.with r (subst (λ y. IsReport (universe_of on) on.req.now (picks_of on) y r) (sym same) (f (subst (IsDue d) same x.of))))

pub took_none : (on : Setting) (n i c : ℕ) (k : Candidate) (rs : List Report) → is_passed (pick (picks_of on) i) c ≡ true → slice_get on.blocks.now (length rs) ≡ None → Took on (due_one (universe_of on) (picks_of on) n i c k) rs rs
took_none on n i c k rs p g more h =
    let d : Due = record { place = n; candidate = var_number (universe_of on) (Cand i c) } in
    let x = next_due (universe_of on) on.req.now (picks_of on) on.blocks.now d more rs (subst (λ q. ReportedOn on (keep q d ++ more) rs) p h) in
    absurd (none_some (sym g ∙ x.is))

pub took_not : (on : Setting) (n i c : ℕ) (k : Candidate) (rs : List Report) → is_passed (pick (picks_of on) i) c ≡ false → Took on (due_one (universe_of on) (picks_of on) n i c k) rs rs
took_not on n i c k rs p more h = subst (λ q. ReportedOn on (keep q (record { place = n; candidate = var_number (universe_of on) (Cand i c) }) ++ more) rs) p h

-- Several.

pub took_then : (on : Setting) (ds es : List Due) (a b c : List Report) → Took on ds a b → Took on es b c → Took on (ds ++ es) a c
took_then on ds es a b c f g more h = g more (f (es ++ more) (subst (λ xs. ReportedOn on xs a) (append_assoc ds es more) h))

abbrev pub due_few : Setting → ℕ → ℕ → List Candidate → List Due
due_few on n i ks = each 0 (due_one (universe_of on) (picks_of on) n i) ks

pub took_more : (on : Setting) (n i : ℕ) (ks : List Candidate) (c : ℕ) (k : Candidate) (a b e : List Report) → slice_get ks c ≡ Some k → Took on (due_few on n i (take c ks)) a b → Took on (due_one (universe_of on) (picks_of on) n i c k) b e → Took on (due_few on n i (take (c + 1) ks)) a e
took_more on n i ks c k a b e g f h =
    subst (λ ds. Took on ds a e) (sym (each_more (due_one (universe_of on) (picks_of on) n i) ks c k (slice_get_within ks c k g) (sym (get_or_from_slice_get ks c k k g))))
    (took_then on (due_few on n i (take c ks)) (due_one (universe_of on) (picks_of on) n i c k) a b e f h)

-- the stops

place_still : (s : Choice) (xs : List Stop) (n i : ℕ) (name : List ℕ) → slice_get xs n ≡ Some (Needed i name) → length (places_of s (take (suc n) xs)) ≡ length (places_of s (take n xs))
place_still s [] n i name e = absurd (none_some e)
place_still s (x ∷ xs) zero i name e = subst (λ y. length (places_of s (y ∷ [])) ≡ 0) (sym (same_Some _ _ e)) refl
place_still s (Came j ∷ xs) (suc n) i name e = ap (λ m. suc m) (place_still s xs n i name e)
place_still s (Needed j other ∷ xs) (suc n) i name e = place_still s xs n i name e

pub came_due : (on : Setting) (n i : ℕ) (a b : List Report) → slice_get on.stops.now n ≡ Some (Came i) → Took on (due_at (universe_of on) (picks_of on) (place_at on n) i) a b → ReportedOn on (due_left on n) a → ReportedOn on (due_left on (n + 1)) b
came_due on n i a b e f h =
    let u = universe_of on in
    let s = picks_of on in
    let xs = on.stops.now in
    let z : n + 1 ≡ suc n = omega arith in
    let here : next_place on n ≡ place_at on n = sym (place_more s xs n i e) in
    let next : suc (place_at on n) ≡ next_place on (n + 1) = ap (λ m. suc (length (places_of s (take m xs)))) (sym z) in
    subst (λ m. ReportedOn on (due_from u s m (drop (n + 1) xs)) b) next
    (f (due_from u s (suc (place_at on n)) (drop (n + 1) xs))
    (subst (λ m. ReportedOn on (due_from u s m (Came i ∷ drop (n + 1) xs)) a) here (subst (λ ys. ReportedOn on (due_from u s (next_place on n) ys) a) (drop_one xs n (Came i) e) h)))

pub needed_due : (on : Setting) (n i : ℕ) (name : List ℕ) (a : List Report) → slice_get on.stops.now n ≡ Some (Needed i name) → ReportedOn on (due_left on n) a → ReportedOn on (due_left on (n + 1)) a
needed_due on n i name a e h =
    let u = universe_of on in
    let s = picks_of on in
    let xs = on.stops.now in
    let z : n + 1 ≡ suc n = omega arith in
    let next : next_place on n ≡ next_place on (n + 1) = ap (λ m. suc m) (sym (place_still s xs n i name e)) ∙ ap (λ m. suc (length (places_of s (take m xs)))) (sym z) in
    subst (λ m. ReportedOn on (due_from u s m (drop (n + 1) xs)) a) next (subst (λ ys. ReportedOn on (due_from u s (next_place on n) ys) a) (drop_one xs n (Needed i name) e) h)

pub all_due : (on : Setting) (n : ℕ) (a : List Report) → length on.stops.now ≤ n → ReportedOn on (due_left on n) a → ReportedOn on [] a
all_due on n a le h = subst (λ ys. ReportedOn on (due_from (universe_of on) (picks_of on) (next_place on n) ys) a) (drop_all n on.stops.now le) h

-- The blocks of a certificate are due.

abbrev due_of : Asked → Due
due_of a = record { place = a.place; candidate = a.candidate }

map_keep : {A B : Type 0} (f : A → B) (b : Bool) (x : A) → map f (keep b x) ≡ keep b (f x)
map_keep f true x = refl
map_keep f false x = refl

map_each : {A B C : Type 0} (f : B → C) (n : ℕ) (g : ℕ → A → List B) (h : ℕ → A → List C) (xs : List A) → ((c : ℕ) (x : A) → map f (g c x) ≡ h c x) → map f (each n g xs) ≡ each n h xs
map_each f n g h [] e = refl
map_each f n g h (x ∷ xs) e = map-append f (g n x) (each (suc n) g xs) ∙ ap (λ ys. ys ++ map f (each (suc n) g xs)) (e n x) ∙ ap (λ ys. h n x ++ ys) (map_each f (suc n) g h xs e)

asked_due : (u : List Interface) (s : Choice) (n : ℕ) (before : List Lit) (xs : List Stop) → map due_of (asked_from u n before (places_of s xs)) ≡ due_from u s n xs
asked_due u s n before [] = refl
asked_due u s n before (Needed i name ∷ xs) = asked_due u s n before xs
asked_due u s n before (Came i ∷ xs) =
    map-append due_of (each 0 (asked_one u n before (record { interface = i; pick = pick s i })) (candidates_of u i)) (asked_from u (suc n) (before ++ said_at u i (pick s i)) (places_of s xs))
    ∙ ap (λ ds. ds ++ map due_of (asked_from u (suc n) (before ++ said_at u i (pick s i)) (places_of s xs)))
    (map_each due_of 0 (asked_one u n before (record { interface = i; pick = pick s i })) (due_one u s n i) (candidates_of u i)
    (λ c k. map_keep due_of (is_passed (pick s i) c) (record { place = n; candidate = var_number u (Cand i c); assumed = before ++ is_so u i c ∷ [] })))
    ∙ ap (λ ds. due_at u s n i ++ ds) (asked_due u s (suc n) (before ++ said_at u i (pick s i)) xs)

blocks_due : (f : Formula) (ms : List Lemma) (as' : List Asked) (bs : List Block) → AreBlocks f ms as' bs → Each IsDue (map due_of as') bs
blocks_due f ms [] [] h = tt
blocks_due f ms [] (b ∷ bs) h = absurd h
blocks_due f ms (a ∷ as') [] h = absurd h
blocks_due f ms (a ∷ as') (b ∷ bs) h = ((h.0, h.1), blocks_due f ms as' bs h.3)

pub excluded_due : (u : List Interface) (req : Requirement) (s : Choice) (c : Certificate) (xs : List Stop) → Excludes u req s c → AreStops u req s xs → Reported u req s c.blocks (due_from u s 1 xs) []
excluded_due u req s c xs h are =
    let mine : h.walk ≡ walk_of_stops s xs = walk_one u req s h.walk (walk_of_stops s xs) h.walks (stops_walk u req s xs are) in
    record {
      done = [];
      left = c.blocks;
      are = refl;
      reports = tt;
      due = subst (λ ds. Each IsDue ds c.blocks) (asked_due u s 1 [] xs)
          (blocks_due (formula u req) c.proof.lemmas (asked_from u 1 [] (places_of s xs)) c.blocks (subst (λ (w : Walk). AreBlocks (formula u req) c.proof.lemmas (asked_from u 1 [] w.places) c.blocks) mine h.blocks));
    }

none_due : (bs : List Block) → Each IsDue [] bs → bs ≡ []
none_due [] h = refl
none_due (b ∷ bs) h = absurd h

pub all_reported : (u : List Interface) (req : Requirement) (s : Choice) (bs : List Block) (rs : List Report) → Reported u req s bs [] rs → AreReports u req s bs rs
all_reported u req s bs rs h = subst (λ xs. AreReports u req s xs rs) (sym (h.are ∙ ap (λ xs. h.done ++ xs) (none_due h.left h.due) ∙ append-nil h.done)) h.reports

-- the reports of a certificate
pub why_all : (u v : List Interface) (req : Requirement) (s t : Choice) (c : Certificate) (xs ys : List Stop) (bs : List Block) (rs : List Report) → v ≡ u → t ≡ s → ys ≡ xs → bs ≡ c.blocks → AreStops v req t xs → Excludes u req s c
    → (Reported v req t bs (due_from v t 1 ys) [] → Reported v req t bs [] rs) → AreReports u req s c.blocks rs
why_all u v req s t c xs ys bs rs eu es ex eb are h f =
    let x : Excludes v req t c = subst (λ w. Excludes w req t c) (sym eu) (subst (λ p. Excludes u req p c) (sym es) h) in
    let due : Reported v req t c.blocks (due_from v t 1 ys) [] = subst (λ zs. Reported v req t c.blocks (due_from v t 1 zs) []) (sym ex) (excluded_due v req t c xs x are) in
    let all : AreReports v req t bs rs = all_reported v req t bs rs (f (subst (λ cs. Reported v req t cs (due_from v t 1 ys) []) (sym eb) due)) in
    subst (λ w. AreReports w req s c.blocks rs) eu (subst (λ p. AreReports v req p c.blocks rs) es (subst (λ cs. AreReports v req t cs rs) eb all))
