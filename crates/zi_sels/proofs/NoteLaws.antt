-- Elements that were read, one behind another: their values, and the first of their faults.
use Rattle.std.proofs.Common.{◌≡◌, ℕ, Bool, true, false, cond, ◌&&◌, ◌+◌, ◌<◌, ◌≤◌, List, [], ◌∷◌, ◌++◌, map, take, length, get_or, Option, Some, None, Result, Ok, Err, IfOk, Bor, refl, sym, ap, subst, ◌∙◌, append_assoc, append-nil}
use Rattle.std.specs.Prelude.{filter, is_some, not, OnOk, codes, if◌then◌else◌}
use Rattle.std.specs.List.{flat_map}
use Rattle.std.proofs.lemmas.List.{map-append, take_more, take_all}
use Rattle.std.proofs.lemmas.List.Elements.{filter-append}
use Rattle.std.proofs.lemmas.Grind.{flat_map-append}
use Rattle.zi_elements.specs.declared.element.Element.{Element}
use Rattle.zi_elements.specs.Forest.{Elem, element_view}
use Rattle.zi_reading.specs.Words.{optional, repeated}
use Rattle.zi_reading.specs.Reading.{is_unclear}
use Rattle.zi_faults.specs.Faults.{fault_at, share, is_first, lesser_of, least}
use Rattle.zi_feed.specs.Means.{Reads, counts_as}
use Rattle.zi_reading.specs.Views.{views}
use Rattle.zi_faults.specs.declared.fault.Fault.{Fault}
use Rattle.zi_faults.specs.declared.fault.FeedFault.{FeedFault}
use Rattle.zi_faults.specs.declared.fault.FeedFault.TheVariants.{Bad, Memory}
use Rattle.zi_faults.specs.declared.fault.FeedKind.TheVariants.{BadPart}
use Rattle.zi_faults.proofs.LeastLaws.{lesser_assoc, lesser_none, least_append}
use Rattle.zi_sels.specs.Notes.{Notes, right, faults_of, AreRead}
use Rattle.zi_sels.specs.Refused.{clear_among}

-- one element, whose fault is known
right_one : {X : Type 0} (fault_of : Elem → Option Fault) (value : Elem → X) (e : Elem) (o : Option Fault) → fault_of e ≡ o
    → map value (right fault_of (e ∷ [])) ≡ cond (is_some o) [] (value e ∷ [])
right_one fault_of value e None is = rw is refl
right_one fault_of value e (Some f) is = rw is refl

least_one : (fault_of : Elem → Option Fault) (e : Elem) (o : Option Fault) → fault_of e ≡ o → least (faults_of fault_of (e ∷ [])) ≡ o
least_one fault_of e None is = rw is refl
least_one fault_of e (Some f) is = rw is refl

-- an element whose reader's answer was taken
pub noted : {X : Type 0} (fault_of : Elem → Option Fault) (value : Elem → X) (e : Elem) (read : Result X FeedFault) (xs ys : List X) (fault now : Option Fault)
    → Reads (fault_of e) (value e) read → Notes read xs fault ys now → AreRead fault_of value (e ∷ []) xs fault ys now
noted fault_of value e (Ok x) xs ys fault now r n = record {
  values = n.0 ∙ (ap (λ v. xs ++ v ∷ []) r.1 ∙ ap (λ v. xs ++ v) (sym (right_one fault_of value e None r.0)));
  first = n.1 ∙ (sym (lesser_none fault) ∙ ap (lesser_of fault) (sym (least_one fault_of e None r.0)));
}
noted fault_of value e (Err (Bad kind place)) xs ys fault now r n =
    let f : Fault = record { kind = kind; place = place } in record {
      values = n.0 ∙ (sym (append-nil xs) ∙ ap (λ v. xs ++ v) (sym (right_one fault_of value e (Some f) r)));
      first = n.1 ∙ ap (lesser_of fault) (sym (least_one fault_of e (Some f) r));
    }
noted fault_of value e (Err Memory) xs ys fault now r n = absurd n

-- nothing was read
pub none_read : {X : Type 0} (fault_of : Elem → Option Fault) (value : Elem → X) (xs : List X) (fault : Option Fault) → AreRead fault_of value [] xs fault xs fault
none_read fault_of value xs fault = record { values = sym (append-nil xs); first = sym (lesser_none fault) }

filter_one : (test : Elem → Bool) (e : Elem) (b : Bool) → test e ≡ b → filter test (e ∷ []) ≡ cond b (e ∷ []) []
filter_one test e true is = rw is refl
filter_one test e false is = rw is refl

-- one that counts, and one that doesn't
pub taken : {X : Type 0} (fault_of : Elem → Option Fault) (value : Elem → X) (test : Elem → Bool) (e : Elem) (xs ys : List X) (fault now : Option Fault)
    → test e ≡ true → AreRead fault_of value (e ∷ []) xs fault ys now → AreRead fault_of value (filter test (e ∷ [])) xs fault ys now
taken fault_of value test e xs ys fault now is r = rw (filter_one test e true is) r

pub not_taken : {X : Type 0} (fault_of : Elem → Option Fault) (value : Elem → X) (test : Elem → Bool) (e : Elem) (xs ys : List X) (fault now : Option Fault)
    → test e ≡ false → ys ≡ xs → now ≡ fault → AreRead fault_of value (filter test (e ∷ [])) xs fault ys now
not_taken fault_of value test e xs ys fault now is p q = rw (filter_one test e false is, p, q) (none_read fault_of value xs fault)

-- one that counts, once the answer of its reader was taken
pub note_taken : {X A E : Type 0} (fault_of : Elem → Option Fault) (value : Elem → X) (test : Elem → Bool) (e : Elem) (read : Result X FeedFault) (xs ys : List X) (fault now : Option Fault)
    (r : Result A E) → test e ≡ true → Reads (fault_of e) (value e) read → OnOk r (Notes read xs fault ys now) → OnOk r (AreRead fault_of value (filter test (e ∷ [])) xs fault ys now)
note_taken fault_of value test e read xs ys fault now (Ok x) is d n = taken fault_of value test e xs ys fault now is (noted fault_of value e read xs ys fault now d n)
note_taken fault_of value test e read xs ys fault now (Err x) is d n = tt

-- one list of elements behind another
pub both_read : {X : Type 0} (fault_of : Elem → Option Fault) (value : Elem → X) (es fs : List Elem) (xs ys zs : List X) (f g h : Option Fault)
    → AreRead fault_of value es xs f ys g → AreRead fault_of value fs ys g zs h → AreRead fault_of value (es ++ fs) xs f zs h
both_read fault_of value es fs xs ys zs f g h a b = record {
  values =
      b.values ∙ (ap (λ v. v ++ map value (right fault_of fs)) a.values
      ∙ (append_assoc xs (map value (right fault_of es)) (map value (right fault_of fs))
      ∙ ap (λ v. xs ++ v) (sym (map-append value (right fault_of es) (right fault_of fs)) ∙ ap (map value) (sym (filter-append (λ c. not (is_some (fault_of c))) es fs)))));
  first =
      b.first ∙ (ap (λ v. lesser_of v (least (faults_of fault_of fs))) a.first
      ∙ (lesser_assoc f (least (faults_of fault_of es)) (least (faults_of fault_of fs))
      ∙ ap (lesser_of f) (sym (least_append (faults_of fault_of es) (faults_of fault_of fs)) ∙ ap least (sym (flat_map-append (λ c. optional (fault_of c)) es fs)))));
}

-- A loop over elements: those so far, of those that count.

views_more : (es : List (Bor Element)) (i : ℕ) (x : Bor Element) → i < length es → x ≡ get_or es i x → views (take (i + 1) es) ≡ views (take i es) ++ element_view x.now ∷ []
views_more es i x h is =
    ap (λ (v : List (Bor Element)). views v) (take_more es i x h ∙ ap (λ v. take i es ++ v ∷ []) (sym is))
    ∙ map-append (λ (r : Bor Element). element_view r.now) (take i es) (x ∷ [])

-- the elements that came before a turn, of those that pass a test
abbrev pub so_far : (Elem → Bool) → List (Bor Element) → ℕ → List Elem
so_far test es i = filter test (views (take i es))

pub none_yet : {X : Type 0} (fault_of : Elem → Option Fault) (value : Elem → X) (test : Elem → Bool) (es : List (Bor Element)) (xs : List X) (fault : Option Fault)
    → xs ≡ [] → AreRead fault_of value (so_far test es 0) [] fault xs fault
none_yet fault_of value test es xs fault is = subst (λ v. AreRead fault_of value [] [] fault v fault) (sym is) (none_read fault_of value [] fault)

pub next_read : {X : Type 0} (fault_of : Elem → Option Fault) (value : Elem → X) (test : Elem → Bool) (es : List (Bor Element)) (i : ℕ) (x : Bor Element) (xs ys zs : List X)
    (f g h : Option Fault) → i < length es → x ≡ get_or es i x → AreRead fault_of value (so_far test es i) xs f ys g
    → AreRead fault_of value (filter test (element_view x.now ∷ [])) ys g zs h → AreRead fault_of value (so_far test es (i + 1)) xs f zs h
next_read fault_of value test es i x xs ys zs f g h below is a b =
    let more : so_far test es (i + 1) ≡ so_far test es i ++ filter test (element_view x.now ∷ []) =
    ap (filter test) (views_more es i x below is) ∙ filter-append test (views (take i es)) (element_view x.now ∷ []) in
    subst (λ v. AreRead fault_of value v xs f zs h) (sym more) (both_read fault_of value (so_far test es i) (filter test (element_view x.now ∷ [])) xs ys zs f g h a b)

pub all_read : {X : Type 0} (fault_of : Elem → Option Fault) (value : Elem → X) (test : Elem → Bool) (es : List (Bor Element)) (i : ℕ) (xs ys : List X) (f g : Option Fault)
    → length es ≤ i → AreRead fault_of value (so_far test es i) xs f ys g → AreRead fault_of value (filter test (views es)) xs f ys g
all_read fault_of value test es i xs ys f g h a = subst (λ v. AreRead fault_of value (filter test (views v)) xs f ys g) (take_all i es h) a

-- those among elements that are known by another name
pub read_among : {X : Type 0} (fault_of : Elem → Option Fault) (value : Elem → X) (test : Elem → Bool) (es fs : List Elem) (xs ys : List X) (f g : Option Fault)
    → es ≡ fs → AreRead fault_of value (filter test es) xs f ys g → AreRead fault_of value (filter test fs) xs f ys g
read_among fault_of value test es fs xs ys f g is a = subst (λ v. AreRead fault_of value (filter test v) xs f ys g) is a

-- The commands whose conditions are expressions.

clear_append : (es fs : List Elem) → clear_among (es ++ fs) ≡ clear_among es ++ clear_among fs
clear_append es fs =
    ap (filter (λ c. not (is_unclear c))) (filter-append (counts_as (codes "command")) es fs)
    ∙ filter-append (λ c. not (is_unclear c)) (filter (counts_as (codes "command")) es) (filter (counts_as (codes "command")) fs)

clear_one : (e : Elem) (b c : Bool) → counts_as (codes "command") e ≡ b → is_unclear e ≡ c → clear_among (e ∷ []) ≡ cond (b && not c) (e ∷ []) []
clear_one e b c p q = ap (λ v. filter (λ d. not (is_unclear d)) (cond v (e ∷ []) [])) p ∙ then_clear b
  where
    then_clear : (b : Bool) → filter (λ d. not (is_unclear d)) (cond b (e ∷ []) []) ≡ cond (b && not c) (e ∷ []) []
    then_clear true = ap (λ v. cond (not v) (e ∷ []) []) q
    then_clear false = refl

pub clear_taken : (e : Elem) (t : Bool) → t ≡ (counts_as (codes "command") e && not (is_unclear e)) → t ≡ true → clear_among (e ∷ []) ≡ e ∷ []
clear_taken e t is h = clear_one e (counts_as (codes "command") e) (is_unclear e) refl refl ∙ ap (λ v. cond v (e ∷ []) []) (sym is ∙ h)

pub clear_passed : (e : Elem) (t : Bool) → t ≡ (counts_as (codes "command") e && not (is_unclear e)) → t ≡ false → clear_among (e ∷ []) ≡ []
clear_passed e t is h = clear_one e (counts_as (codes "command") e) (is_unclear e) refl refl ∙ ap (λ v. cond v (e ∷ []) []) (sym is ∙ h)

pub clear_pushed : (olds news : List (Bor Element)) (x : Bor Element) (t : Bool) → t ≡ (counts_as (codes "command") (element_view x.now) && not (is_unclear (element_view x.now))) → t ≡ true
    → news ≡ olds ++ x ∷ [] → views news ≡ views olds ++ clear_among (element_view x.now ∷ [])
clear_pushed olds news x t is h grown =
    ap (λ (v : List (Bor Element)). views v) grown
    ∙ (map-append (λ (r : Bor Element). element_view r.now) olds (x ∷ []) ∙ ap (λ v. views olds ++ v) (sym (clear_taken (element_view x.now) t is h)))

pub clear_next : (es : List (Bor Element)) (i : ℕ) (x : Bor Element) (xs ys : List Elem) → i < length es → x ≡ get_or es i x → xs ≡ clear_among (views (take i es))
    → ys ≡ xs ++ clear_among (element_view x.now ∷ []) → ys ≡ clear_among (views (take (i + 1) es))
clear_next es i x xs ys h is before grown =
    grown ∙ (ap (λ v. v ++ clear_among (element_view x.now ∷ [])) before
    ∙ sym (ap clear_among (views_more es i x h is) ∙ clear_append (views (take i es)) (element_view x.now ∷ [])))

pub clear_end : (es : List (Bor Element)) (i : ℕ) (xs : List Elem) → length es ≤ i → xs ≡ clear_among (views (take i es)) → xs ≡ clear_among (views es)
clear_end es i xs h before = before ∙ ap (λ (v : List (Bor Element)). clear_among (views v)) (take_all i es h)

-- the commands that repeat a name are known by another name
pub second_is : {X : Type 0} (es fs : List Elem) (r : Result (Option Fault) X) → es ≡ fs
    → IfOk r (λ f. f ≡ least (map (λ c. fault_at c BadPart) (repeated (share (codes "name")) es))) → IfOk r (λ f. f ≡ least (map (λ c. fault_at c BadPart) (repeated (share (codes "name")) fs)))
second_is es fs (Ok f) is h = h ∙ ap (λ v. least (map (λ c. fault_at c BadPart) (repeated (share (codes "name")) v))) is
second_is es fs (Err x) is h = tt

-- No fault at all.
pub neither : (a b : Option Fault) → lesser_of a b ≡ None → (a ≡ None) × (b ≡ None)
neither None b h = (refl, h)
neither (Some f) None h = absurd (cc h)
neither (Some f) (Some g) h = absurd (one_of (is_first f g) h)
  where
    one_of : (b : Bool) → (if b then Some f else Some g) ≡ None → ⊥
    one_of true e = cc e
    one_of false e = cc e

pub all_right : (fault_of : Elem → Option Fault) (es : List Elem) → faults_of fault_of es ≡ [] → right fault_of es ≡ es
all_right fault_of [] h = refl
all_right fault_of (e ∷ es) h = by_fault (fault_of e) refl h (λ none. all_right fault_of es none)
  where
    by_fault : (o : Option Fault) → fault_of e ≡ o → optional o ++ faults_of fault_of es ≡ [] → (faults_of fault_of es ≡ [] → right fault_of es ≡ es) → right fault_of (e ∷ es) ≡ e ∷ es
    by_fault None is none later = ap (λ v. cond (not (is_some v)) (e ∷ right fault_of es) (right fault_of es)) is ∙ ap (λ v. e ∷ v) (later none)
    by_fault (Some f) is none later = absurd (cc none)
