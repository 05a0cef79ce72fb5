-- The numbers that are asked for: that of lemmas is never past the greatest, and that of a demonstration is one.
use Rattle.std.proofs.Common.{◌≡◌, ℕ, ◌≤◌, Bool, true, false, List, [], ◌∷◌, Option, Some, None, refl, sym, subst, arith, inl, inr}
use Rattle.std.specs.Prelude.{nat_le, if◌then◌else◌, unwrap_or}
use Rattle.std.specs.Option.{option_and_then}
use Rattle.std.proofs.lemmas.Bool.Decides.{nat_tests}
use Rattle.zi_text.specs.Numeral.{numeral}
use Rattle.zi_words.specs.declared.kind.Kind.{Kind}
use Rattle.zi_words.specs.declared.kind.Kind.TheVariants as kind
use Rattle.zi_words.specs.declared.loader.Loader.{Loader}
use Rattle.zi_words.specs.declared.loader.Loader.TheVariants as loader
use Rattle.zi_words.specs.declared.asked.Asked.{Asked}
use Rattle.zi_words.specs.declared.request.Ask.{Ask}
use Rattle.zi_words.specs.declared.request.Request.{Request}
use Rattle.zi_words.specs.declared.request.Request.TheVariants as request
use Rattle.zi_words.specs.Forms.{Word, is_between, most_lemmas, up_to, budget_of, if_between, demo_number}
use Rattle.zi_words.specs.Options.{Item, last, arguments_of, gathered, ask_of}
use Rattle.zi_words.specs.Store.{AsksStore}
use Rattle.zi_words.specs.Words.{request_of, Right}

-- a number that may be missing isn't past the greatest
abbrev Fits : Option ℕ → Type 0
Fits None = Unit {0}
Fits (Some n) = n ≤ most_lemmas

up_to_fits : (o : Option ℕ) → Fits (up_to most_lemmas o)
up_to_fits None = tt
up_to_fits (Some n) = by (nat_le n most_lemmas) refl
  where
    by : (b : Bool) → nat_le n most_lemmas ≡ b → Fits (if b then Some n else None)
    by true e = let h : n ≤ most_lemmas = grind (arith, nat_tests) in h
    by false e = tt

budget_fits : (w : Word) → Fits (budget_of w)
unfolding budget_of
budget_fits w = up_to_fits (numeral w)

said_fits : (o : Option Word) → Fits (option_and_then budget_of o)
said_fits None = tt
said_fits (Some w) = budget_fits w

gathered_fits : (is : List Item) → Fits (gathered is).search
unfolding gathered
gathered_fits is = said_fits (last (arguments_of kind.Search is))

or_fits : (o : Option ℕ) → Fits o → unwrap_or o 100000 ≤ most_lemmas
or_fits None h = omega arith
or_fits (Some n) h = h

ask_fits : (root : Word) (a : Asked) → Fits a.search → (ask_of root a).search ≤ most_lemmas
unfolding ask_of
ask_fits root a h = or_fits a.search h

-- the number of a demonstration
abbrev IsNumber : Option ℕ → Type 0
IsNumber None = Unit {0}
IsNumber (Some n) = (1 ≤ n) × (n ≤ 1000)

between_is : (o : Option ℕ) → IsNumber (if_between 1 1000 o)
between_is None = tt
between_is (Some n) = by (is_between 1 1000 n) refl
  where
    by : (b : Bool) → is_between 1 1000 n ≡ b → IsNumber (if b then Some n else None)
    by true e = let h : 1 ≤ n = grind (arith, nat_tests) in let k : n ≤ 1000 = grind (arith, nat_tests) in (h, k)
    by false e = tt

number_is : (w : Word) → IsNumber (demo_number w)
unfolding demo_number
number_is w = between_is (numeral w)

-- the number of lemmas of a request isn't past the greatest, and that of a demonstration is one
abbrev pub IsWithin : Request → Type 0
IsWithin (request.Select ask proof) = ask.search ≤ most_lemmas
IsWithin (request.Download ask) = ask.search ≤ most_lemmas
IsWithin (request.Run ask user) = ask.search ≤ most_lemmas
IsWithin (request.Check ask sels proof) = ask.search ≤ most_lemmas
IsWithin (request.Refute ask proof) = ask.search ≤ most_lemmas
IsWithin (request.Why ask) = ask.search ≤ most_lemmas
IsWithin (request.Conflict ask) = ask.search ≤ most_lemmas
IsWithin (request.Script ask user) = ask.search ≤ most_lemmas
IsWithin (request.Demo n) = (1 ≤ n) × (n ≤ 1000)
IsWithin other = Unit {0}

of_loader : (l : Loader) (ask : Ask) (proof : Bool) (named : List Word) → ask.search ≤ most_lemmas → IsWithin (request_of l ask proof named)
of_loader loader.Select ask proof named h = h
of_loader loader.Download ask proof named h = h
of_loader loader.Run ask proof named h = h
of_loader loader.Check ask proof named h = h
of_loader loader.Refute ask proof named h = h
of_loader loader.Why ask proof named h = h
of_loader loader.Conflict ask proof named h = h
of_loader loader.Script ask proof named h = h

pub is_within : (ws : List Word) (r : Request) → Right ws r → IsWithin r
is_within [] r h = absurd h
is_within (w ∷ ws) r (inl (l, e, a)) =
    let P : Request → Type 0 = λ v. IsWithin v in
    subst P (sym a.asked) (of_loader l (ask_of a.root (gathered a.options)) (gathered a.options).proof a.named (ask_fits a.root (gathered a.options) (gathered_fits a.options)))
is_within (w ∷ ws) r (inr (inl (inl (e, (algorithm, name, f, n, is))))) = let P : Request → Type 0 = λ v. IsWithin v in subst P (sym is) tt
is_within (w ∷ ws) r (inr (inl (inr (e, h)))) = in_store ws h
  where
    in_store : (us : List Word) → AsksStore us r → IsWithin r
    in_store [] s = absurd s
    in_store (u ∷ us) (inl (f, (name, files, g, d, n, is))) = let P : Request → Type 0 = λ v. IsWithin v in subst P (sym is) tt
    in_store (u ∷ us) (inr (inl (f, (name, g, d, is)))) = let P : Request → Type 0 = λ v. IsWithin v in subst P (sym is) tt
    in_store (u ∷ us) (inr (inr (inl (f, (file, files, g, is))))) = let P : Request → Type 0 = λ v. IsWithin v in subst P (sym is) tt
    in_store (u ∷ us) (inr (inr (inr (f, g, is)))) = let P : Request → Type 0 = λ v. IsWithin v in subst P (sym is) tt
is_within (w ∷ ws) r (inr (inr (inl (e, (word, n, f, number, is))))) =
    let P : Request → Type 0 = λ v. IsWithin v in
    let Q : Option ℕ → Type 0 = λ o. IsNumber o in
    subst P (sym is) (subst Q number (number_is word))
is_within (w ∷ ws) r (inr (inr (inr (inl (inl (e, (file, user, f, is))))))) = let P : Request → Type 0 = λ v. IsWithin v in subst P (sym is) tt
is_within (w ∷ ws) r (inr (inr (inr (inl (inr (inl (e, (behind, f, (file, user, g, is))))))))) = let P : Request → Type 0 = λ v. IsWithin v in subst P (sym is) tt
is_within (w ∷ ws) r (inr (inr (inr (inl (inr (inr (e, (file, f, is)))))))) = let P : Request → Type 0 = λ v. IsWithin v in subst P (sym is) tt
is_within (w ∷ ws) r (inr (inr (inr (inr (n, inl (e, is)))))) = let P : Request → Type 0 = λ v. IsWithin v in subst P (sym is) tt
is_within (w ∷ ws) r (inr (inr (inr (inr (n, inr (e, is)))))) = let P : Request → Type 0 = λ v. IsWithin v in subst P (sym is) tt
