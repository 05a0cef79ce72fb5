-- Arguments that break off: why no right words go on so, and which do from before that.
use Rattle.std.proofs.Common.{◌≡◌, ℕ, ◌+◌, ◌<◌, Bool, true, false, ◌||◌, ◌&&◌, List, [], ◌∷◌, ◌++◌, length, replicate, refl, sym, ap, ◌∙◌, subst, arith, inl, inr}
use Rattle.std.specs.Prelude.{codes, bytes_eq}
use Rattle.std.specs.List.{list_any}
use Rattle.std.specs.Str.{chars}
use Rattle.std.proofs.lemmas.List.{length-replicate}
use Rattle.std.proofs.lemmas.Slice.Eq.{bytes_eq-Decides}
use Rattle.zi_version.specs.Value.{value}
use Rattle.zi_version.specs.Range.{alternative, words, expression}
use Rattle.zi_words.specs.declared.kind.Kind.{Kind}
use Rattle.zi_words.specs.declared.kind.Kind.TheVariants as kind
use Rattle.zi_words.specs.declared.loader.Loader.{Loader}
use Rattle.zi_words.specs.declared.request.Request.{Request}
use Rattle.zi_policy.specs.Stabilities.{stability_of}
use Rattle.zi_words.specs.Forms.{Word, Form, Address, Name, Anything, Range as ARange, Level, Network', Rating, Budget, Is, Are, is_address, is_carried, level_of, network_of, budget_of}
use Rattle.zi_words.specs.Options.{Item, IsItem, name_of, has_option, forms, first, second, alike, clash, any_clash}
use Rattle.zi_words.specs.Refused.{Asks, LeftAt}
use Rattle.zi_words.specs.Taken.{Misses, BreaksOff}
use Rattle.zi_words.proofs.LeftLemmas.{stuck_with, stopped}
use Rattle.zi_words.proofs.OptionLemmas.{After, First, first_of_after, live_within}
use Rattle.zi_version.proofs.Steps.{and-false}
use Rattle.zi_text.proofs.ListLaws.{head_same}

-- a word of each form
abbrev pub example : Form → Word
example Address = codes "/"
example Name = codes "x"
example Anything = []
example ARange = codes "1"
example Level = codes "stable"
example Network' = codes "off"
example Rating = codes "stable"
example Budget = codes "0"

pub example_is : (f : Form) → Is f (example f)
unfolding is_address is_carried chars expression words alternative value level_of network_of stability_of budget_of
example_is Address = refl
example_is Name = λ e. cc
example_is Anything = tt
example_is ARange = refl
example_is Level = refl
example_is Network' = refl
example_is Rating = refl
example_is Budget = refl

abbrev pub examples : List Form → List Word
examples [] = []
examples (f ∷ fs) = example f ∷ examples fs

pub examples_are : (fs : List Form) → Are fs (examples fs)
examples_are [] = tt
examples_are (f ∷ fs) = (example_is f, examples_are fs)

-- where arguments break off, and how they could have gone on
pub record Broken (fs : List Form) (ws : List Word) (n : ℕ) : Type 0 where
  pub front : List Word
  pub back : List Word
  pub rest : List Word
  pub are : ws ≡ front ++ back
  pub left : n ≡ length back
  pub fits : Are fs (front ++ rest)
  pub dead : (args x t : List Word) → Are fs args → args ++ x ≡ front ++ stuck_with back t → ⊥

missed : (f : Form) (fs : List Form) (ws : List Word) (n : ℕ) → Misses f ws n → Broken (f ∷ fs) ws n
missed f fs [] n m = record {
  front = [];
  back = [];
  rest = examples (f ∷ fs);
  are = refl;
  left = m;
  fits = examples_are (f ∷ fs);
  dead = none;
}
  where
    none : (args x t : List Word) → Are (f ∷ fs) args → args ++ x ≡ [] → ⊥
    none [] x t h e = absurd h
    none (a ∷ args) x t h e = cc
missed f fs (w ∷ ws) n m = record {
  front = [];
  back = w ∷ ws;
  rest = examples (f ∷ fs);
  are = refl;
  left = m.1;
  fits = examples_are (f ∷ fs);
  dead = other;
}
  where
    other : (args x t : List Word) → Are (f ∷ fs) args → args ++ x ≡ w ∷ t → ⊥
    other [] x t h e = absurd h
    other (a ∷ args) x t h e = let P : Word → Type 0 = λ v. Is f v in m.0 (subst P (head_same a w (args ++ x) t e).0 h.0)

pub broken : (fs : List Form) (ws : List Word) (n : ℕ) → BreaksOff fs ws n → Broken fs ws n
broken [] ws n h = absurd h
broken (f ∷ fs) ws n (inl m) = missed f fs ws n m
broken (f ∷ fs) ws n (inr (w, rest, e, is, more)) =
    let b = broken fs rest n more in
    record {
      front = w ∷ b.front;
      back = b.back;
      rest = b.rest;
      are = e ∙ ap (λ v. w ∷ v) b.are;
      left = b.left;
      fits = (is, b.fits);
      dead = behind b;
    }
  where
    behind : (b : Broken fs rest n) (args x t : List Word) → Are (f ∷ fs) args → args ++ x ≡ w ∷ (b.front ++ stuck_with b.back t) → ⊥
    behind b [] x t h e = absurd h
    behind b (a ∷ args) x t h e = b.dead args x t h.1 (head_same a w (args ++ x) (b.front ++ stuck_with b.back t) e).1

-- words behind an option that break off
pub break_at : (l : Loader) (before : List Item) (k : Kind) (ws front back rest : List Word) (n : ℕ) → any_clash before ≡ false → ws ≡ front ++ back → n ≡ length back
    → IsItem l (record { kind = k; arguments = front ++ rest }) → list_any (λ y. clash y (record { kind = k; arguments = front ++ rest })) before ≡ false
    → ((t : List Word) (r : Request) → First l before k (front ++ stuck_with back t) r → ⊥) → LeftAt (Asks (After l before)) (name_of k ∷ ws) n
break_at l before k ws front back rest n apart e m item free dead =
    let P : List Word → Type 0 = λ v. LeftAt (Asks (After l before)) (name_of k ∷ v) n in
    let Q : ℕ → Type 0 = λ v. LeftAt (Asks (After l before)) (name_of k ∷ (front ++ back)) v in
    subst P (sym e) (subst Q (sym m)
    (stopped (Asks (After l before)) (name_of k ∷ front) back (live_within l before k front rest apart item free)
    (λ t (r, a). dead t r (first_of_after l before k (front ++ stuck_with back t) r a))))

pub break_off : (l : Loader) (before : List Item) (k : Kind) (ws : List Word) (n : ℕ) → any_clash before ≡ false → has_option l k ≡ true → BreaksOff (forms k) ws n
    → ((args : List Word) → list_any (λ y. clash y (record { kind = k; arguments = args })) before ≡ false) → LeftAt (Asks (After l before)) (name_of k ∷ ws) n
break_off l before k ws n apart has h free =
    let b = broken (forms k) ws n h in
    break_at l before k ws b.front b.back b.rest n apart b.are b.left (has, b.fits) (free (b.front ++ b.rest)) (λ t r f. b.dead f.arguments f.rest t f.item.1 (sym f.are))

-- an id that stands in none of these
abbrev longest : List Item → ℕ
longest [] = 0
longest (i ∷ is) = length (second i.arguments) + longest is

differ : (u v : Word) → length u < length v → bytes_eq u v ≡ false
differ u v lt = no_both (bytes_eq u v) refl
  where
    no_both : (b : Bool) → bytes_eq u v ≡ b → bytes_eq u v ≡ false
    no_both true e = let f : length u ≡ length v = ap length ((bytes_eq-Decides u v).0 e) in absurd (omega arith)
    no_both false e = e

unused : (is : List Item) (u id s : Word) → longest is < length id → list_any (λ y. clash y (record { kind = kind.Rate; arguments = u ∷ id ∷ s ∷ [] })) is ≡ false
unused [] u id s lt = refl
unused (i ∷ is) u id s lt =
    let no_id : bytes_eq (second i.arguments) id ≡ false = differ (second i.arguments) id (omega arith) in
    let no_pair : (bytes_eq (first i.arguments) u && bytes_eq (second i.arguments) id) ≡ false =
    ap (λ v. bytes_eq (first i.arguments) u && v) no_id ∙ and-false (bytes_eq (first i.arguments) u) in
    let none : clash i (record { kind = kind.Rate; arguments = u ∷ id ∷ s ∷ [] }) ≡ false = ap (λ v. alike i.kind kind.Rate && v) no_pair ∙ and-false (alike i.kind kind.Rate) in
    ap (λ v. v || list_any (λ y. clash y (record { kind = kind.Rate; arguments = u ∷ id ∷ s ∷ [] })) is) none ∙ unused is u id s (omega arith)

pub fresh : (is : List Item) → (id : Word) × ((u s : Word) → list_any (λ y. clash y (record { kind = kind.Rate; arguments = u ∷ id ∷ s ∷ [] })) is ≡ false)
fresh is =
    let id = replicate (longest is + 1) 97 in
    let lt : longest is < length id = omega (arith, length-replicate {A = ℕ} (longest is + 1) 97) in
    (id, λ u s. unused is u id s lt)
