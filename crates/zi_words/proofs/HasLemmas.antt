-- Which options stand already, by what was set.
use Rattle.std.proofs.Common.{◌≡◌, Bool, true, false, ◌||◌, ◌&&◌, List, [], ◌∷◌, ◌++◌, is_some, refl, sym, ap, ◌∙◌, append_assoc}
use Rattle.std.specs.Prelude.{fold, bytes_eq}
use Rattle.std.specs.List.{list_any}
use Rattle.std.specs.Ordering.{nat_cmp, is_eq}
use Rattle.std.specs.Cmp.Lexicographic.{slice_cmp}
use Rattle.std.specs.BTreeSet.{BTreeSet}
use Rattle.std.proofs.lemmas.List.{append-nil}
use Rattle.std.proofs.lemmas.Map.Text.{is_eq-slice_cmp}
use Rattle.std.proofs.Math.Bool.{or-false, and-true, or-true}
use Rattle.zi_words.specs.declared.kind.Kind.{Kind}
use Rattle.zi_words.specs.declared.kind.Kind.TheVariants as kind
use Rattle.zi_words.specs.declared.loader.Loader.{Loader}
use Rattle.zi_words.specs.declared.asked.Asked.{Asked}
use Rattle.zi_words.specs.Forms.{Word, Form, Level, Network', Budget, Is, Are}
use Rattle.zi_words.specs.Options.{Item, Once, OncePerPair, Often, AreItems, forms, rule_of, alike, first, second, clash, clash_by, set, nothing, gathered}
use Rattle.zi_words.specs.Taken.{Key, key_cmp, holds, IsKey, SamePairs, AddsPair, AddsBy, has}
use Rattle.zi_words.proofs.OptionLemmas.{gathered-none, gathered-more}
use Rattle.zi_words.proofs.ClashLemmas.{any_same, any_never}
use Rattle.zi_version.proofs.Steps.{and-false}
use Rattle.zi_version.proofs.SpanLemmas.{or_assoc}
use Rattle.zi_text.proofs.ListLaws.{both_equal, any_push}

first_is : (f : Form) (fs : List Form) (args : List Word) → Are (f ∷ fs) args → Is f (first args)
first_is f fs [] h = absurd h
first_is f fs (w ∷ args) h = h.0

-- setting one option has that one, and those that were there
has_set : (k i : Kind) (args : List Word) (a : Asked) → rule_of k ≡ Once → Are (forms i) args → has k (set i args a) ≡ (has k a || alike i k)
has_set kind.Command kind.Command args a h m = sym (or-true (is_some a.command))
has_set kind.Command kind.NoCommand args a h m = sym (or-true (is_some a.command))
has_set kind.Command i args a h m = sym (or-false (is_some a.command))
has_set kind.NoCommand kind.Command args a h m = sym (or-true (is_some a.command))
has_set kind.NoCommand kind.NoCommand args a h m = sym (or-true (is_some a.command))
has_set kind.NoCommand i args a h m = sym (or-false (is_some a.command))
has_set kind.Version kind.Version args a h m = sym (or-true a.version)
has_set kind.Version i args a h m = sym (or-false a.version)
has_set kind.VersionFor i args a h m = cc
has_set kind.Os kind.Os args a h m = sym (or-true (is_some a.os))
has_set kind.Os i args a h m = sym (or-false (is_some a.os))
has_set kind.Cpu kind.Cpu args a h m = sym (or-true (is_some a.cpu))
has_set kind.Cpu i args a h m = sym (or-false (is_some a.cpu))
has_set kind.Lang i args a h m = cc
has_set kind.Level kind.Level args a h m = first_is Level [] args m ∙ sym (or-true (is_some a.level))
has_set kind.Level i args a h m = sym (or-false (is_some a.level))
has_set kind.Network kind.Network args a h m = first_is Network' [] args m ∙ sym (or-true (is_some a.network))
has_set kind.Network i args a h m = sym (or-false (is_some a.network))
has_set kind.Use i args a h m = cc
has_set kind.Rate i args a h m = cc
has_set kind.Search kind.Search args a h m = first_is Budget [] args m ∙ sym (or-true (is_some a.search))
has_set kind.Search i args a h m = sym (or-false (is_some a.search))
has_set kind.Proof kind.Proof args a h m = sym (or-true a.proof)
has_set kind.Proof i args a h m = sym (or-false a.proof)

has_fold : (l : Loader) (k : Kind) (is : List Item) (a : Asked) → rule_of k ≡ Once → AreItems l is
    → has k (fold (λ (b : Asked) (i : Item). set i.kind i.arguments b) a is) ≡ (has k a || list_any (λ i. alike i.kind k) is)
has_fold l k [] a h items = sym (or-false (has k a))
has_fold l k (i ∷ is) a h items =
    has_fold l k is (set i.kind i.arguments a) h items.1
    ∙ (ap (λ v. v || list_any (λ (j : Item). alike j.kind k) is) (has_set k i.kind i.arguments a h items.0.1) ∙ or_assoc (has k a) (alike i.kind k) (list_any (λ (j : Item). alike j.kind k) is))

has_nothing : (k : Kind) → has k nothing ≡ false
has_nothing kind.Command = refl
has_nothing kind.NoCommand = refl
has_nothing kind.Version = refl
has_nothing kind.VersionFor = refl
has_nothing kind.Os = refl
has_nothing kind.Cpu = refl
has_nothing kind.Lang = refl
has_nothing kind.Level = refl
has_nothing kind.Network = refl
has_nothing kind.Use = refl
has_nothing kind.Rate = refl
has_nothing kind.Search = refl
has_nothing kind.Proof = refl

-- what options say is set one option after another
folds : (before is : List Item) → gathered (before ++ is) ≡ fold (λ (b : Asked) (i : Item). set i.kind i.arguments b) (gathered before) is
folds before [] = ap gathered (append-nil before)
folds before (i ∷ is) =
    ap gathered (sym (append_assoc before (i ∷ []) is)) ∙ folds (before ++ i ∷ []) is
    ∙ ap (λ a. fold (λ (b : Asked) (j : Item). set j.kind j.arguments b) a is) (gathered-more before i)

-- an option that may stand once was set exactly where it stands
pub has_gathered : (l : Loader) (k : Kind) (is : List Item) → rule_of k ≡ Once → AreItems l is → has k (gathered is) ≡ list_any (λ i. alike i.kind k) is
has_gathered l k is h items =
    ap (has k) (folds [] is) ∙ has_fold l k is (gathered []) h items
    ∙ ap (λ v. v || list_any (λ (j : Item). alike j.kind k) is) (ap (has k) gathered-none ∙ has_nothing k)

pub has_once : (k : Kind) (a : Asked) → has k a ≡ true → rule_of k ≡ Once
has_once kind.Command a h = refl
has_once kind.NoCommand a h = refl
has_once kind.Version a h = refl
has_once kind.VersionFor a h = cc
has_once kind.Os a h = refl
has_once kind.Cpu a h = refl
has_once kind.Lang a h = cc
has_once kind.Level a h = refl
has_once kind.Network a h = refl
has_once kind.Use a h = cc
has_once kind.Rate a h = cc
has_once kind.Search a h = refl
has_once kind.Proof a h = refl

-- one that may stand once clashes with those of its kind
pub clash_once : (k : Kind) (args : List Word) → rule_of k ≡ Once → (y : Item) → clash y (record { kind = k; arguments = args }) ≡ alike y.kind k
clash_once k args h y = ap (λ r. alike y.kind k && clash_by r y.arguments args) h ∙ and-true (alike y.kind k)

pub once_free : (l : Loader) (before : List Item) (k : Kind) (args : List Word) → rule_of k ≡ Once → AreItems l before → has k (gathered before) ≡ false
    → list_any (λ y. clash y (record { kind = k; arguments = args })) before ≡ false
once_free l before k args h items none =
    any_same (λ (y : Item). clash y (record { kind = k; arguments = args })) (λ y. alike y.kind k) (clash_once k args h) before
    ∙ (sym (has_gathered l k before h items) ∙ none)

pub once_taken : (l : Loader) (before : List Item) (k : Kind) (args : List Word) → rule_of k ≡ Once → AreItems l before → has k (gathered before) ≡ true
    → list_any (λ y. clash y (record { kind = k; arguments = args })) before ≡ true
once_taken l before k args h items some =
    any_same (λ (y : Item). clash y (record { kind = k; arguments = args })) (λ y. alike y.kind k) (clash_once k args h) before
    ∙ (sym (has_gathered l k before h items) ∙ some)

-- one that may stand often clashes with none
pub often_free : (before : List Item) (k : Kind) (args : List Word) → rule_of k ≡ Often → list_any (λ y. clash y (record { kind = k; arguments = args })) before ≡ false
often_free before k args h =
    any_never (λ (y : Item). clash y (record { kind = k; arguments = args }))
    (λ y. ap (λ r. alike y.kind k && clash_by r y.arguments args) h ∙ and-false (alike y.kind k)) before

-- the rating of a key
abbrev pub rating : Key → Item
rating q = record { kind = kind.Rate; arguments = q.0.now ∷ q.1.now ∷ [] }

-- the set has the pairs of these options
abbrev pub Told : List Item → BTreeSet Key → Type 0
Told is pairs = (q : Key) → holds pairs q ≡ list_any (λ i. clash i (rating q)) is

key_equal : (k q : Key) (u v : Word) → IsKey k u v → is_eq (key_cmp k q) ≡ (bytes_eq u q.0.now && bytes_eq v q.1.now)
key_equal k q u v (e, f) =
    both_equal (slice_cmp nat_cmp k.0.now q.0.now) (slice_cmp nat_cmp k.1.now q.1.now)
    ∙ (ap (λ w. w && is_eq (slice_cmp nat_cmp k.1.now q.1.now)) (is_eq-slice_cmp k.0.now q.0.now ∙ ap (λ n. bytes_eq n q.0.now) e)
    ∙ ap (λ w. bytes_eq u q.0.now && w) (is_eq-slice_cmp k.1.now q.1.now ∙ ap (λ n. bytes_eq n q.1.now) f))

told_kept : (before : List Item) (k : Kind) (args : List Word) (old new : BTreeSet Key) → alike k kind.Rate ≡ false → SamePairs old new → Told before old
    → Told (before ++ record { kind = k; arguments = args } ∷ []) new
told_kept before k args old new other kept told q =
    let i : Item = record { kind = k; arguments = args } in
    let none : clash i (rating q) ≡ false = ap (λ v. v && clash_by OncePerPair args (rating q).arguments) other in
    kept q ∙ (told q ∙ sym (any_push (λ (j : Item). clash j (rating q)) before i ∙ (ap (λ v. list_any (λ (j : Item). clash j (rating q)) before || v) none ∙ or-false (list_any (λ (j : Item). clash j (rating q)) before))))

told_added : (before : List Item) (args : List Word) (old new : BTreeSet Key) → AddsPair args old new → Told before old
    → Told (before ++ record { kind = kind.Rate; arguments = args } ∷ []) new
told_added before args old new (key, is, absent, more) told q =
    let i : Item = record { kind = kind.Rate; arguments = args } in
    more q
    ∙ (ap (λ v. v || is_eq (key_cmp key q)) (told q)
    ∙ (ap (λ v. list_any (λ (j : Item). clash j (rating q)) before || v) (key_equal key q (first args) (second args) is)
    ∙ sym (any_push (λ (j : Item). clash j (rating q)) before i)))

-- with one option more it has the pairs of them all
pub told_next : (before : List Item) (k : Kind) (args : List Word) (old new : BTreeSet Key) → AddsBy (rule_of k) args old new → Told before old
    → Told (before ++ record { kind = k; arguments = args } ∷ []) new
told_next before kind.Command args old new h told = told_kept before kind.Command args old new refl h told
told_next before kind.NoCommand args old new h told = told_kept before kind.NoCommand args old new refl h told
told_next before kind.Version args old new h told = told_kept before kind.Version args old new refl h told
told_next before kind.VersionFor args old new h told = told_kept before kind.VersionFor args old new refl h told
told_next before kind.Os args old new h told = told_kept before kind.Os args old new refl h told
told_next before kind.Cpu args old new h told = told_kept before kind.Cpu args old new refl h told
told_next before kind.Lang args old new h told = told_kept before kind.Lang args old new refl h told
told_next before kind.Level args old new h told = told_kept before kind.Level args old new refl h told
told_next before kind.Network args old new h told = told_kept before kind.Network args old new refl h told
told_next before kind.Use args old new h told = told_kept before kind.Use args old new refl h told
told_next before kind.Rate args old new h told = told_added before args old new h told
told_next before kind.Search args old new h told = told_kept before kind.Search args old new refl h told
told_next before kind.Proof args old new h told = told_kept before kind.Proof args old new refl h told

-- what the set says of a key is whether a rating of those words clashes
pub rate_clash : (before : List Item) (pairs : BTreeSet Key) (key : Key) (u v : Word) (args : List Word) → Told before pairs → IsKey key u v → first args ≡ u → second args ≡ v
    → list_any (λ y. clash y (record { kind = kind.Rate; arguments = args })) before ≡ holds pairs key
rate_clash before pairs key u v args told (e, f) g h =
    let by : Word → Word → Bool = λ a b. list_any (λ (y : Item). alike y.kind kind.Rate && (bytes_eq (first y.arguments) a && bytes_eq (second y.arguments) b)) before in
    ap (λ a. by a (second args)) (g ∙ sym e) ∙ (ap (λ b. by key.0.now b) (h ∙ sym f) ∙ sym (told key))

-- an option that may be taken clashes with none before
pub free : (l : Loader) (before : List Item) (k : Kind) (args : List Word) (old new : BTreeSet Key) → AreItems l before → has k (gathered before) ≡ false → AddsBy (rule_of k) args old new
    → Told before old → list_any (λ y. clash y (record { kind = k; arguments = args })) before ≡ false
free l before kind.Command args old new items none h told = once_free l before kind.Command args refl items none
free l before kind.NoCommand args old new items none h told = once_free l before kind.NoCommand args refl items none
free l before kind.Version args old new items none h told = once_free l before kind.Version args refl items none
free l before kind.VersionFor args old new items none h told = often_free before kind.VersionFor args refl
free l before kind.Os args old new items none h told = once_free l before kind.Os args refl items none
free l before kind.Cpu args old new items none h told = once_free l before kind.Cpu args refl items none
free l before kind.Lang args old new items none h told = often_free before kind.Lang args refl
free l before kind.Level args old new items none h told = once_free l before kind.Level args refl items none
free l before kind.Network args old new items none h told = once_free l before kind.Network args refl items none
free l before kind.Use args old new items none h told = often_free before kind.Use args refl
free l before kind.Rate args old new items none (key, is, absent, more) told = rate_clash before old key (first args) (second args) args told is refl refl ∙ absent
free l before kind.Search args old new items none h told = once_free l before kind.Search args refl items none
free l before kind.Proof args old new items none h told = once_free l before kind.Proof args refl items none
