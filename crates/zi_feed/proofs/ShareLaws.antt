-- What implementations share stays under its numbers as the tables grow.
use Rattle.std.proofs.Common.{◌≡◌, ◌⊎◌, inl, inr, ℕ, zero, suc, ◌<◌, ◌≤◌, List, [], ◌∷◌, ◌++◌, length, take, Option, Some, None, refl, sym, ap, subst, ◌∙◌, arith, append_assoc, append-nil, length-append}
use Rattle.std.specs.Prelude.{slice_get, option_and_then}
use Rattle.std.specs.Option.{option_map}
use Rattle.std.proofs.lemmas.Option.{slice_get_within}
use Rattle.std.proofs.lemmas.List.{take-append-le, take_all}
use Rattle.zi_elements.specs.Forest.{Elem}
use Rattle.zi_version.specs.Range.{a_version}
use Rattle.zi_parts.specs.declared.types.Dep.{Dep}
use Rattle.zi_parts.specs.declared.types.Impl.{Impl}
use Rattle.zi_parts.specs.declared.types.Native.{Native}
use Rattle.zi_feed.specs.declared.along.Added.{Added}
use Rattle.zi_feed.specs.declared.made.Made.{Made}
use Rattle.zi_feed.specs.declared.shares.Level.{Level}
use Rattle.zi_feed.specs.declared.shares.Numbers.{Numbers}
use Rattle.zi_feed.specs.declared.shares.NativeNumbers.{NativeNumbers}
use Rattle.zi_feed.specs.declared.shares.Shares.{Shares}
use Rattle.zi_feed.specs.declared.shares.Gathered.{Gathered}
use Rattle.zi_feed.specs.declared.shares.ReadFeed.{ReadFeed}
use Rattle.zi_feed.specs.declared.feed.Feed.{Feed}
use Rattle.zi_reading.specs.Ways.{Ways}
use Rattle.zi_faults.specs.Said.{Said, version_text, unsaid}
use Rattle.zi_feed.specs.Impls.{langs_of, impl_with, impl_from}
use Rattle.zi_feed.specs.Inward.{made_of, added_nothing, impl_at, native_at}
use Rattle.zi_feed.specs.Shares.{Grows, TablesGrow, Adds, Gathers, deps_at, AreLevels, NumbersFit, HasNumbers, HasNativeNumbers, AreShared, NativesAreShared, IsGathered}
use Rattle.zi_text.proofs.ListLaws.{at_front, at_last}

-- Places in lists that grow.

pub at_cases : {X : Type 0} (xs : List X) (x : X) (k : ℕ) (y : X) → slice_get (xs ++ x ∷ []) k ≡ Some y → (slice_get xs k ≡ Some y) ⊎ ((k ≡ length xs) × (y ≡ x))
at_cases [] x zero y e = inr (refl, (cc))
at_cases [] x (suc k) y e = cc
at_cases (z ∷ xs) x zero y e = inl e
at_cases (z ∷ xs) x (suc k) y e = elim (at_cases xs x k y e) [ inl h ↦ inl h | inr h ↦ inr (ap suc h.0, h.1) ]

pub at_grown : {X : Type 0} (old new : List X) (k : ℕ) (x : X) → Grows old new → slice_get old k ≡ Some x → slice_get new k ≡ Some x
at_grown old new k x g e = ap (λ q. slice_get q k) g.is ∙ at_front old g.more k x e

pub grows_not : {X : Type 0} (xs : List X) → Grows xs xs
grows_not xs = record { more = []; is = sym (append-nil xs) }

pub grows_by : {X : Type 0} (old new : List X) (x : X) → new ≡ old ++ x ∷ [] → Grows old new
grows_by old new x e = record { more = x ∷ []; is = e }

pub at_new : {X : Type 0} (old new : List X) (n : ℕ) (x : X) → new ≡ old ++ x ∷ [] → n ≡ length old → slice_get new n ≡ Some x
at_new old new n x e l = ap (slice_get new) l ∙ ap (λ q. slice_get q (length old)) e ∙ at_last old x

pub grows_on : {X : Type 0} (a b c : List X) → Grows a b → Grows b c → Grows a c
grows_on a b c g h = record {
  more = g.more ++ h.more;
  is = h.is ∙ ap (λ q. q ++ h.more) g.is ∙ append_assoc a g.more h.more;
}

-- Levels.
deps_front : (xs ys : List Level) (k : ℕ) (ds : List Dep) → deps_at xs k ≡ Some ds → deps_at (xs ++ ys) k ≡ Some ds
deps_front [] ys k ds e = cc
deps_front (y ∷ xs) ys zero ds e = e
deps_front (y ∷ xs) ys (suc k) ds e = deps_front xs ys k ds e

pub deps_within : (xs : List Level) (k : ℕ) (ds : List Dep) → deps_at xs k ≡ Some ds → k < length xs
deps_within [] k ds e = cc
deps_within (y ∷ xs) zero ds e = omega arith
deps_within (y ∷ xs) (suc k) ds e = let r = deps_within xs k ds e in omega (arith, r)

pub deps_grown : (old new : List Level) (k : ℕ) (ds : List Dep) → Grows old new → deps_at old k ≡ Some ds → deps_at new k ≡ Some ds
deps_grown old new k ds g e = ap (λ q. deps_at q k) g.is ∙ deps_front old g.more k ds e

pub one_level : (l : Level) → l.around ≡ 0 → AreLevels (l ∷ [])
one_level l none zero m e h = let same : m ≡ l = cc in absurd (let z : m.around ≡ 0 = ap (λ (q : Level). q.around) same ∙ none in omega (arith, z, h))
one_level l none (suc n) m e h = absurd (cc)

more_levels : (old : List Level) (l : Level) → AreLevels old → deps_at old l.outer ≡ Some (take l.around l.deps) → AreLevels (old ++ l ∷ [])
more_levels old l right outer n m e h = elim (at_cases old l n m e) [
  | inl there ↦ (let r = right n m there h in (r.0, deps_front old (l ∷ []) m.outer (take m.around m.deps) r.1))
  | inr new ↦ (
    (let o : m.outer ≡ l.outer = ap (λ (q : Level). q.outer) new.1 in
        let w : l.outer < length old = deps_within old l.outer (take l.around l.deps) outer in
        omega (arith, o, w, new.0)),
    ap (λ (q : Level). deps_at (old ++ l ∷ []) q.outer) new.1 ∙ deps_front old (l ∷ []) l.outer (take l.around l.deps) outer ∙ ap (λ (q : Level). Some (take q.around q.deps)) (sym new.1),
  )
]

pub levels_more : (old new : List Level) (l : Level) → new ≡ old ++ l ∷ [] → AreLevels old → deps_at old l.outer ≡ Some (take l.around l.deps) → AreLevels new
levels_more old new l e right outer =
    let P : List Level → Type 0 = λ q. AreLevels q in
    subst P (sym e) (more_levels old l right outer)

pub new_deps : (old new : List Level) (n : ℕ) (l : Level) → new ≡ old ++ l ∷ [] → n ≡ length old → deps_at new n ≡ Some l.deps
new_deps old new n l e i = ap (option_map (λ (q : Level). q.deps)) (at_new old new n l e i)

-- the dependencies around are all
pub all_around : (levels : List Level) (n around : ℕ) (deps : List Dep) → length deps ≤ around → deps_at levels n ≡ Some (take around deps) → deps_at levels n ≡ Some deps
all_around levels n around deps le e = e ∙ ap (λ q. Some q) (take_all around deps le)

pub around_own : (outer inner own : List Dep) → inner ≡ outer ++ own → outer ≡ take (length outer) inner
around_own outer inner own e =
    sym (ap (take (length outer)) e ∙ take-append-le (length outer) outer own (omega arith) ∙ take_all (length outer) outer (omega arith))

-- What is shared.
pub tables_not : (s : Shares) → TablesGrow s s
tables_not s = record { versions = grows_not s.versions; langs = grows_not s.langs; levels = grows_not s.levels }

pub tables_on : (a b c : Shares) → TablesGrow a b → TablesGrow b c → TablesGrow a c
tables_on a b c g h = record {
  versions = grows_on a.versions b.versions c.versions g.versions h.versions;
  langs = grows_on a.langs b.langs c.langs g.langs h.langs;
  levels = grows_on a.levels b.levels c.levels g.levels h.levels;
}

pub fit_grown : (s t : Shares) (n : Numbers) (v : Option (List ℕ)) (ls : List (List ℕ)) (ds : List Dep) → TablesGrow s t → NumbersFit s n v ls ds → NumbersFit t n v ls ds
fit_grown s t n v ls ds g h = record {
  version = at_grown s.versions t.versions n.version v g.versions h.version;
  langs = at_grown s.langs t.langs n.langs ls g.langs h.langs;
  level = deps_grown s.levels t.levels n.level ds g.levels h.level;
}

pub none_shared : (s : Shares) → s.of ≡ [] → AreLevels s.levels → AreShared s []
none_shared s none right = record {
  levels = right;
  count = ap length none;
  each = λ k n i e f. absurd (cc);
}

-- as the tables grow, what was shared is
shared_grown : (s t : Shares) (is : List Impl) → Adds s t → AreShared s is → AreShared t is
shared_grown s t is a h = record {
  levels = a.levels;
  count = ap length a.of ∙ h.count;
  each = λ k n i e f. fit_grown s t n (Some i.version) i.langs i.deps a.tables (h.each k n i (ap (λ q. slice_get q k) (sym a.of) ∙ e) f);
}

pub no_natives : (s : Shares) → s.of_natives ≡ [] → NativesAreShared s []
no_natives s none = record { count = ap length none; each = λ k n i e f. absurd (cc) }

natives_grown : (s t : Shares) (is : List Native) → Adds s t → NativesAreShared s is → NativesAreShared t is
natives_grown s t is a h = record {
  count = ap length a.of_natives ∙ h.count;
  each = λ k n i e f. let g : HasNativeNumbers s n i = h.each k n i (ap (λ q. slice_get q k) (sym a.of_natives) ∙ e) f in record {
    langs = at_grown s.langs t.langs n.langs i.langs a.tables.langs g.langs;
    level = deps_grown s.levels t.levels n.level i.deps a.tables.levels g.level;
  };
}

pub gathered_grown : (g : Gathered) (t : Shares) → Adds g.shares t → IsGathered g → IsGathered (record g { shares = t })
gathered_grown g t a h = record { impls = shared_grown g.shares t g.impls a h.impls; natives = natives_grown g.shares t g.natives a h.natives }

-- one implementation more
module _ (s : Shares) (is js : List Impl) (n : Numbers) (i : Impl) (of : List Numbers) (numbers : of ≡ s.of ++ n ∷ []) (impls : js ≡ is ++ i ∷ []) (h : AreShared s is) (fits : HasNumbers s n i) where
  again : (m : Numbers) (j : Impl) → HasNumbers s m j → HasNumbers (record s { of = of }) m j
  again m j f = record { version = f.version; langs = f.langs; level = f.level }

  one : (k : ℕ) (m : Numbers) (j : Impl) → slice_get (s.of ++ n ∷ []) k ≡ Some m → slice_get (is ++ i ∷ []) k ≡ Some j → HasNumbers s m j
  one k m j e f = elim (at_cases s.of n k m e) [
    | inl a ↦ elim (at_cases is i k j f) [
      | inl b ↦ h.each k m j a b
      | inr b ↦ absurd (let w : k < length s.of = slice_get_within s.of k m a in omega (arith, w, h.count, b.0))
    ]
    | inr a ↦ elim (at_cases is i k j f) [
      | inl b ↦ absurd (let w : k < length is = slice_get_within is k j b in omega (arith, w, h.count, a.0))
      | inr b ↦ (let P : Numbers → Type 0 = λ q. HasNumbers s q j in let Q : Impl → Type 0 = λ q. HasNumbers s n q in subst P (sym a.1) (subst Q (sym b.1) fits))
    ]
  ]

  pub shared_more : AreShared (record s { of = of }) js
  shared_more = record {
    levels = h.levels;
    count = ap length numbers ∙ (let a = length-append s.of (n ∷ []) in let b = length-append is (i ∷ []) in let c : length (s.of ++ n ∷ []) ≡ length (is ++ i ∷ []) = omega (arith, a, b, h.count) in c) ∙ ap length (sym impls);
    each = λ k m j e f. again m j (one k m j (ap (λ q. slice_get q k) (sym numbers) ∙ e) (ap (λ q. slice_get q k) (sym impls) ∙ f));
  }

-- the packages are as they were
natives_stay : (s : Shares) (of : List Numbers) (is : List Native) → NativesAreShared s is → NativesAreShared (record s { of = of }) is
natives_stay s of is h = record { count = h.count; each = λ k n i e f. let g : HasNativeNumbers s n i = h.each k n i e f in record { langs = g.langs; level = g.level } }

-- one package more
module _ (s : Shares) (is js : List Native) (n : NativeNumbers) (i : Native) (of : List NativeNumbers) (numbers : of ≡ s.of_natives ++ n ∷ []) (natives : js ≡ is ++ i ∷ [])
    (h : NativesAreShared s is) (fits : HasNativeNumbers s n i) where
  once : (k : ℕ) (m : NativeNumbers) (j : Native) → slice_get (s.of_natives ++ n ∷ []) k ≡ Some m → slice_get (is ++ i ∷ []) k ≡ Some j → HasNativeNumbers s m j
  once k m j e f = elim (at_cases s.of_natives n k m e) [
    | inl a ↦ elim (at_cases is i k j f) [
      | inl b ↦ h.each k m j a b
      | inr b ↦ absurd (let w : k < length s.of_natives = slice_get_within s.of_natives k m a in omega (arith, w, h.count, b.0))
    ]
    | inr a ↦ elim (at_cases is i k j f) [
      | inl b ↦ absurd (let w : k < length is = slice_get_within is k j b in omega (arith, w, h.count, a.0))
      | inr b ↦ (let P : NativeNumbers → Type 0 = λ q. HasNativeNumbers s q j in let Q : Native → Type 0 = λ q. HasNativeNumbers s n q in subst P (sym a.1) (subst Q (sym b.1) fits))
    ]
  ]

  pub natives_more : NativesAreShared (record s { of_natives = of }) js
  natives_more = record {
    count = ap length numbers
        ∙ (let a = length-append s.of_natives (n ∷ []) in let b = length-append is (i ∷ []) in let c : length (s.of_natives ++ n ∷ []) ≡ length (is ++ i ∷ []) = omega (arith, a, b, h.count) in c)
        ∙ ap length (sym natives);
    each = λ k m j e f. let g : HasNativeNumbers s m j = once k m j (ap (λ q. slice_get q k) (sym numbers) ∙ e) (ap (λ q. slice_get q k) (sym natives) ∙ f) in record { langs = g.langs; level = g.level };
  }

impls_stay : (s : Shares) (of : List NativeNumbers) (is : List Impl) → AreShared s is → AreShared (record s { of_natives = of }) is
impls_stay s of is h = record {
  levels = h.levels;
  count = h.count;
  each = λ k n i e f. let g : HasNumbers s n i = h.each k n i e f in record { version = g.version; langs = g.langs; level = g.level };
}

-- the implementation at an element has the numbers of what is made and added there
impl_made : (ways : Ways) (said : Said) (a : Added) (e : Elem) (m : Made) (i : Impl) (s : Shares) (n : Numbers) (o : Option (List ℕ)) → o ≡ m.version → m ≡ made_of ways said
    → Some i ≡ option_map (impl_with ways said a.deps a.commands a.bindings e) o → NumbersFit s n m.version m.langs a.deps → HasNumbers s n i
impl_made ways said a e m i s n None v made is fit = absurd (cc)
impl_made ways said a e m i s n (Some w) v made is fit =
    let same : i ≡ impl_with ways said a.deps a.commands a.bindings e w = cc in
    record {
      version = fit.version ∙ ap (λ q. Some q) (sym v ∙ ap (λ (q : Impl). Some q.version) (sym same));
      langs = fit.langs ∙ ap (λ q. Some q) (ap (λ (q : Made). q.langs) made ∙ ap (λ (q : Impl). q.langs) (sym same));
      level = fit.level ∙ ap (λ (q : Impl). Some q.deps) (sym same);
    }

pub impl_numbers : (ways : Ways) (said : Said) (a : Added) (e : Elem) (m : Made) (i : Impl) (s : Shares) (n : Numbers) → m ≡ made_of ways said
    → Some i ≡ impl_at ways said a e → NumbersFit s n m.version m.langs a.deps → HasNumbers s n i
unfolding impl_at impl_from
impl_numbers ways said a e m i s n made is fit =
    impl_made ways said a e m i s n (option_and_then a_version (version_text said)) (sym (ap (λ (q : Made). q.version) made)) made is fit

-- what is said of a package there has them too
pub native_numbers : (said : Said) (a : Added) (e : Elem) (m : Made) (i : Native) (s : Shares) (n : Numbers) → m.langs ≡ langs_of said.langs
    → i ≡ native_at said a e → NumbersFit s n m.version m.langs a.deps → HasNativeNumbers s (record { langs = n.langs; level = n.level }) i
unfolding native_at
native_numbers said a e m i s n made is fit = record {
  langs = fit.langs ∙ ap (λ q. Some q) (made ∙ ap (λ (q : Native). q.langs) (sym is));
  level = fit.level ∙ ap (λ (q : Native). Some q.deps) (sym is);
}

-- where nothing is said, the first entries of the tables are made
pub nothing_fits : (ways : Ways) (s : Shares) (n : Numbers) (m : Made) (a : Added) → n ≡ record { version = 0; langs = 0; level = 0 } → m ≡ made_of ways unsaid → a ≡ added_nothing
    → NumbersFit s (record { version = 0; langs = 0; level = 0 }) None [] [] → NumbersFit s n m.version m.langs a.deps
nothing_fits ways s n m a numbers made added fit = record {
  version = ap (λ (q : Numbers). slice_get s.versions q.version) numbers ∙ fit.version ∙ ap (λ (q : Made). Some q.version) (sym made);
  langs = ap (λ (q : Numbers). slice_get s.langs q.langs) numbers ∙ fit.langs ∙ ap (λ (q : Made). Some q.langs) (sym made);
  level = ap (λ (q : Numbers). deps_at s.levels q.level) numbers ∙ fit.level ∙ ap (λ (q : Added). Some q.deps) (sym added);
}

-- what was found has one implementation more
pub gathers_one : (old : Gathered) (is : List Impl) (of : List Numbers) (n : Numbers) (i : Impl) → is ≡ old.impls ++ i ∷ [] → of ≡ old.shares.of ++ n ∷ []
    → IsGathered old → HasNumbers old.shares n i → Gathers old (record { impls = is; natives = old.natives; shares = record (old.shares) { of = of } })
gathers_one old is of n i impls numbers right fit = record {
  tables = record { versions = grows_not old.shares.versions; langs = grows_not old.shares.langs; levels = grows_not old.shares.levels };
  right = record { impls = shared_more old.shares old.impls is n i of numbers impls right.impls fit; natives = natives_stay old.shares of old.natives right.natives };
}

-- or one package
pub gathers_native : (old : Gathered) (is : List Native) (of : List NativeNumbers) (n : NativeNumbers) (i : Native) → is ≡ old.natives ++ i ∷ [] → of ≡ old.shares.of_natives ++ n ∷ []
    → IsGathered old → HasNativeNumbers old.shares n i → Gathers old (record { impls = old.impls; natives = is; shares = record (old.shares) { of_natives = of } })
gathers_native old is of n i natives numbers right fit = record {
  tables = record { versions = grows_not old.shares.versions; langs = grows_not old.shares.langs; levels = grows_not old.shares.levels };
  right = record { impls = impls_stay old.shares of old.impls right.impls; natives = natives_more old.shares old.natives is n i of numbers natives right.natives fit };
}

-- a feed with what it shares
pub read_impls : (r : ReadFeed) (g : Gathered) (f : Feed) → f.impls ≡ g.impls → r.feed ≡ f → r.shares ≡ g.shares → IsGathered g → AreShared r.shares r.feed.impls
read_impls r g f is e s h =
    let P : Shares → Type 0 = λ q. AreShared q r.feed.impls in
    let Q : List Impl → Type 0 = λ q. AreShared g.shares q in
    subst P (sym s) (subst Q (sym (ap (λ (v : Feed). v.impls) e ∙ is)) h.impls)

pub read_natives : (r : ReadFeed) (g : Gathered) (f : Feed) → f.natives ≡ g.natives → r.feed ≡ f → r.shares ≡ g.shares → IsGathered g → NativesAreShared r.shares r.feed.natives
read_natives r g f is e s h =
    let P : Shares → Type 0 = λ q. NativesAreShared q r.feed.natives in
    let Q : List Native → Type 0 = λ q. NativesAreShared g.shares q in
    subst P (sym s) (subst Q (sym (ap (λ (v : Feed). v.natives) e ∙ is)) h.natives)

pub gathered_none : (g : Gathered) → IsGathered g → Gathers g g
gathered_none g right = record { tables = tables_not g.shares; right = right }

-- a table with its first entry
pub at_first : {X : Type 0} (before new : List X) (x : X) → before ≡ [] → new ≡ before ++ x ∷ [] → slice_get new 0 ≡ Some x
at_first before new x none e = ap (λ q. slice_get q 0) (e ∙ ap (λ q. q ++ x ∷ []) none)

pub first_levels : (before new : List Level) (l : Level) → before ≡ [] → new ≡ before ++ l ∷ [] → l.around ≡ 0 → AreLevels new
first_levels before new l none e z =
    let P : List Level → Type 0 = λ q. AreLevels q in
    subst P (sym (e ∙ ap (λ q. q ++ l ∷ []) none)) (one_level l z)

pub first_deps : (before new : List Level) (l : Level) (ds : List Dep) → before ≡ [] → new ≡ before ++ l ∷ [] → l.deps ≡ ds → deps_at new 0 ≡ Some ds
first_deps before new l ds none e d = ap (option_map (λ (q : Level). q.deps)) (at_first before new l none e) ∙ ap (λ q. Some q) d
