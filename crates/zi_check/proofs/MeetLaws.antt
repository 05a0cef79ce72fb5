-- When a dependency is met, by what is chosen for its interface.
use Rattle.std.proofs.Common.{◌≡◌, ℕ, ◌+◌, ◌<◌, ◌≤◌, take, Bool, true, false, not, List, [], ◌∷◌, ◌++◌, length, refl, sym, ap, ◌∙◌, subst, arith, rules, Option, Some, None, Decides, MatchBool}
use Rattle.std.specs.Prelude.{IsSome, IfSome, IsSomeAnd, All, option_and_then, option_copied, is_some, slice_get}
use Rattle.std.specs.List.{AllWithin, HoldsAt}
use denote.Ref.{Bor}
use denote.Enum.Bare.{sameb, same_true, true_same}
use Rattle.zi_policy.specs.contracts.types.Width.{the_type}
use Rattle.std.specs.List.{list_all}
use Rattle.std.proofs.lemmas.Bool.{false≢true}
use Rattle.std.proofs.lemmas.List.{take_all, take_more}
use Rattle.std.proofs.lemmas.Option.{slice_get_within, get_or_from_slice_get, same_Some}
use Rattle.std.proofs.lemmas.List.Elements.{All-head, All-tail, All-nil, All-cons, All-push}
use Rattle.zi_version.specs.Range.{admits}
use Rattle.zi_policy.specs.declared.types.Width.{Width}
use Rattle.zi_parts.specs.declared.types.Dep.{Dep}
use Rattle.zi_parts.specs.declared.types.Runner.{Runner}
use Rattle.zi_parts.specs.declared.types.Command.{Command}
use Rattle.zi_parts.specs.declared.types.DepKind.TheVariants.{Essential}
use Rattle.zi_universe.specs.declared.types.Candidate.{Candidate}
use Rattle.zi_universe.specs.declared.types.Interface.{Interface}
use Rattle.zi_universe.specs.Candidates.{asks}
use Rattle.zi_choice.specs.Choice.{Choice, chosen, number, command_of, command_at, needs_of, with_runner}
use Rattle.zi_choice.specs.Valid.{Has, Suits, target, IsMet, AreMet, group}
use Rattle.zi_choice.proofs.Base.{if_some_at, if_some_from}
use Rattle.zi_feed.specs.IdLaws.{none_some}
use Rattle.zi_text.proofs.ListLaws.{some_is}

pub none_is : {A : Type 0} (o : Option A) → o ≡ None → IsSome o → ⊥
none_is None e h = false≢true h
none_is (Some x) e h = none_some (sym e)

-- what a test says
one_fails : {A : Type 0} (P : A → Type 0) (xs : List A) (k : ℕ) → k < length xs → All P xs → HoldsAt (λ x. P x → ⊥) xs k → ⊥
one_fails P [] k l a n = absurd (omega (arith, l))
one_fails P (x ∷ xs) k l a n = n x (a k x l)

pub tells_all : {A : Type 0} (P : A → Type 0) (b : Bool) (xs : List A) → MatchBool b (AllWithin P xs 0 (length xs)) ((k : ℕ) × (k < length xs) × HoldsAt (λ x. P x → ⊥) xs k) → Decides b (All P xs)
tells_all P true xs h = (λ t k d l. h k d (omega arith) l, λ a. refl)
tells_all P false xs h = (λ t. absurd (false≢true t), λ a. absurd (one_fails P xs h.0 h.1 a h.2))

pub tells_items : {A : Type 0} (P : A → Type 0) (b : Bool) (xs ys : List A) → xs ≡ ys → Decides b (All P xs) → Decides b (All P ys)
tells_items P b xs ys e h = subst (λ zs. Decides b (All P zs)) e h

-- one after the other
pub tells_not_all : {A : Type 0} (P : A → Type 0) (xs : List A) (n : ℕ) (x : A) (b : Bool) → slice_get xs n ≡ Some x → Decides b (P x) → b ≡ false → Decides false (All P xs)
tells_not_all P xs n x b there d f =
    (λ e. absurd (false≢true e), λ all. absurd (false≢true (sym f ∙ d.1 (subst P (get_or_from_slice_get xs n x x there) (all n x (slice_get_within xs n x there))))))

pub all_taken_more : {A : Type 0} (P : A → Type 0) (xs : List A) (n : ℕ) (x : A) (b : Bool) → slice_get xs n ≡ Some x → Decides b (P x) → b ≡ true → All P (take n xs) → All P (take (n + 1) xs)
all_taken_more P xs n x b there d t h =
    let one : take (n + 1) xs ≡ take n xs ++ x ∷ [] = take_more xs n x (slice_get_within xs n x there) ∙ ap (λ y. take n xs ++ y ∷ []) (get_or_from_slice_get xs n x x there) in
    subst (All P) (sym one) (All-push P (take n xs) x h (d.0 t))

pub tells_taken : {A : Type 0} (P : A → Type 0) (xs : List A) (n : ℕ) → length xs ≤ n → All P (take n xs) → Decides true (All P xs)
tells_taken P xs n le h = (λ _. subst (All P) (take_all n xs le) h, λ _. refl)

pub tells_some : {A : Type 0} (o : Option (Bor A)) (p : Option A) (b : Bool) → option_copied o ≡ p → b ≡ is_some o → Decides b (IsSome p)
tells_some None p b e f = (λ t. absurd (false≢true (sym f ∙ t)), λ h. absurd (none_is p (sym e) h))
tells_some (Some x) p b e f = (λ t. some_is p x.now (sym e), λ h. f)

pub tells_if : {A : Type 0} (P : A → Type 0) (o : Option A) (x : A) (b : Bool) → o ≡ Some x → Decides b (P x) → Decides b (IfSome o P)
tells_if P o x b e h = (λ t. subst (λ p. IfSome p P) (sym e) (h.0 t), λ g. h.1 (subst (λ p. IfSome p P) e g))

pub tells_if_none : {A : Type 0} (P : A → Type 0) (o : Option A) → o ≡ None → Decides true (IfSome o P)
tells_if_none P o e = (λ t. subst (λ p. IfSome p P) (sym e) tt, λ g. refl)

pub tells_and : {A : Type 0} (P : A → Type 0) (o : Option A) (x : A) (b : Bool) → o ≡ Some x → Decides b (P x) → Decides b (IsSomeAnd o P)
tells_and P o x b e h = (λ t. subst (λ p. IsSomeAnd p P) (sym e) (h.0 t), λ g. h.1 (subst (λ p. IsSomeAnd p P) e g))

pub tells_and_none : {A : Type 0} (P : A → Type 0) (o : Option A) → o ≡ None → Decides false (IsSomeAnd o P)
tells_and_none P o e = (λ t. absurd (false≢true t), λ g. absurd (subst (λ p. IsSomeAnd p P) e g))

-- the candidate's command, and the choice's
pub its_command : (u : List Interface) (s : Choice) (i : ℕ) (k : Candidate) (name : List ℕ) → chosen u s i ≡ Some k → command_of k name ≡ command_at u s i name
its_command u s i k name e = ap (λ o. option_and_then (λ c. command_of c name) o) (sym e)

pub no_command_at : (u : List Interface) (s : Choice) (i : ℕ) (name : List ℕ) → chosen u s i ≡ None → None ≡ command_at u s i name
no_command_at u s i name e = ap (λ o. option_and_then (λ c. command_of c name) o) (sym e)

pub tells_has : (u : List Interface) (s : Choice) (i : ℕ) (k : Candidate) (name : List ℕ) (b : Bool) → chosen u s i ≡ Some k → Decides b (IsSome (command_at u s i name)) → Decides b (Has k name)
tells_has u s i k name b e h = (λ t. subst IsSome (sym (its_command u s i k name e)) (h.0 t), λ y. h.1 (subst IsSome (its_command u s i k name e) y))

-- the candidate of a bit group
pub tells_group : (u : List Interface) (s : Choice) (i : ℕ) (k : Candidate) (width : Width) (b : Bool) → chosen u s i ≡ Some k → Decides b (group k ≡ width) → Decides b ((c : Candidate) × (chosen u s i ≡ Some c) × (group c ≡ width))
tells_group u s i k width b e h = (λ t. (k, e, h.0 t), λ g. h.1 (subst (λ (x : Candidate). group x ≡ width) (same_Some _ _ (sym g.1 ∙ e)) g.2))

pub tells_width : (a b : Width) (r : Bool) → r ≡ sameb the_type a b → Decides r (a ≡ b)
tells_width a b r e = (λ t. same_true the_type (search rules) a b (sym e ∙ t), λ h. e ∙ true_same the_type a b h)

pub no_group : (u : List Interface) (s : Choice) (i : ℕ) (width : Width) → chosen u s i ≡ None → Decides false ((c : Candidate) × (chosen u s i ≡ Some c) × (group c ≡ width))
no_group u s i width e = (λ t. absurd (false≢true t), λ g. absurd (none_some (sym e ∙ g.1)))

has_all : (u : List Interface) (s : Choice) (i : ℕ) (k : Candidate) (names : List (List ℕ)) → chosen u s i ≡ Some k → All (λ name. IsSome (command_at u s i name)) names → All (λ name. Has k name) names
has_all u s i k [] e h = All-nil (λ name. Has k name)
has_all u s i k (name ∷ names) e h =
    All-cons (λ name. Has k name) name names (subst IsSome (sym (its_command u s i k name e)) (All-head (λ name. IsSome (command_at u s i name)) name names h)) (has_all u s i k names e (All-tail (λ name. IsSome (command_at u s i name)) name names h))

all_has : (u : List Interface) (s : Choice) (i : ℕ) (k : Candidate) (names : List (List ℕ)) → chosen u s i ≡ Some k → All (λ name. Has k name) names → All (λ name. IsSome (command_at u s i name)) names
all_has u s i k [] e h = All-nil (λ name. IsSome (command_at u s i name))
all_has u s i k (name ∷ names) e h =
    All-cons (λ name. IsSome (command_at u s i name)) name names (subst IsSome (its_command u s i k name e) (All-head (λ name. Has k name) name names h)) (all_has u s i k names e (All-tail (λ name. Has k name) name names h))

-- it suits
pub suits_not : (d : Dep) (k : Candidate) (b : Bool) → b ≡ list_all (λ r. admits r k.imp.version) d.ranges → b ≡ false → Decides false (Suits d k)
suits_not d k b e f = (λ t. absurd (false≢true t), λ h. absurd (false≢true (sym f ∙ e ∙ h.admitted)))

pub suits_unasked : (d : Dep) (k : Candidate) (b a : Bool) → b ≡ list_all (λ r. admits r k.imp.version) d.ranges → b ≡ true → a ≡ asks d → a ≡ false → Decides true (Suits d k)
suits_unasked d k b a e f g h = (λ t. record { admitted = sym e ∙ f; commands = λ y. absurd (false≢true (sym h ∙ g ∙ y)) }, λ y. refl)

pub suits_each : (u : List Interface) (s : Choice) (i : ℕ) (d : Dep) (k : Candidate) (b a r : Bool) → chosen u s i ≡ Some k → b ≡ list_all (λ r. admits r k.imp.version) d.ranges → b ≡ true → a ≡ asks d → a ≡ true → Decides r (All (λ name. IsSome (command_at u s i name)) d.commands) → Decides r (Suits d k)
suits_each u s i d k b a r c e f g h w = (
  λ t. record { admitted = sym e ∙ f; commands = λ y. has_all u s i k d.commands c (w.0 t) },
  λ y. w.1 (all_has u s i k d.commands c (y.commands (sym g ∙ h))),
)

pub no_target : (u : List Interface) (s : Choice) (d : Dep) → number u d.interface ≡ None → target u s d ≡ None
no_target u s d e = ap (λ o. option_and_then (λ j. chosen u s j) o) e

pub unmet : (u : List Interface) (s : Choice) (d : Dep) → target u s d ≡ None → IsMet u s d → d.kind ≡ Essential → ⊥
unmet u s d e h k = none_is (target u s d) e (h.there k)

pub met_without : (u : List Interface) (s : Choice) (d : Dep) → target u s d ≡ None → (d.kind ≡ Essential → ⊥) → IsMet u s d
met_without u s d e h = record {
  there = λ k. absurd (h k);
  suits = if_some_from (λ c. Suits d c) (target u s d) (λ c g. absurd (none_some (sym e ∙ g)));
}

pub met_with : (u : List Interface) (s : Choice) (d : Dep) (k : Candidate) → target u s d ≡ Some k → Suits d k → IsMet u s d
met_with u s d k e h = record {
  there = λ q. some_is (target u s d) k e;
  suits = if_some_from (λ c. Suits d c) (target u s d) (λ c g. subst (λ x. Suits d x) (same_Some _ _ (sym e ∙ g)) h);
}

pub met_suits : (u : List Interface) (s : Choice) (d : Dep) (k : Candidate) → target u s d ≡ Some k → IsMet u s d → Suits d k
met_suits u s d k e h = if_some_at (λ c. Suits d c) (target u s d) k e h.suits

pub tells_unless : (u : List Interface) (s : Choice) (d : Dep) (b : Bool) → target u s d ≡ None → Decides b (d.kind ≡ Essential) → Decides (not b) (IsMet u s d)
tells_unless u s d true e h = (λ t. absurd (false≢true t), λ m. absurd (unmet u s d e m (h.0 refl)))
tells_unless u s d false e h = (λ t. met_without u s d e (λ k. false≢true (h.1 k)), λ m. refl)

pub tells_met : (u : List Interface) (s : Choice) (d : Dep) (k : Candidate) (b : Bool) → target u s d ≡ Some k → Decides b (Suits d k) → Decides b (IsMet u s d)
tells_met u s d k b e h = (λ t. met_with u s d k e (h.0 t), λ m. h.1 (met_suits u s d k e m))

-- what a command needs
pub met_both : (u : List Interface) (s : Choice) (ds : List Dep) (d : Dep) → AreMet u s ds → IsMet u s d → AreMet u s (ds ++ d ∷ [])
met_both u s [] d h m = All-cons (λ d. IsMet u s d) d [] m (All-nil (λ d. IsMet u s d))
met_both u s (x ∷ ds) d h m = All-cons (λ d. IsMet u s d) x (ds ++ d ∷ []) (All-head (λ d. IsMet u s d) x ds h) (met_both u s ds d (All-tail (λ d. IsMet u s d) x ds h) m)

pub met_front : (u : List Interface) (s : Choice) (ds : List Dep) (d : Dep) → AreMet u s (ds ++ d ∷ []) → AreMet u s ds
met_front u s [] d h = All-nil (λ d. IsMet u s d)
met_front u s (x ∷ ds) d h = All-cons (λ d. IsMet u s d) x ds (All-head (λ d. IsMet u s d) x (ds ++ d ∷ []) h) (met_front u s ds d (All-tail (λ d. IsMet u s d) x (ds ++ d ∷ []) h))

pub met_last : (u : List Interface) (s : Choice) (ds : List Dep) (d : Dep) → AreMet u s (ds ++ d ∷ []) → IsMet u s d
met_last u s [] d h = All-head (λ d. IsMet u s d) d [] h
met_last u s (x ∷ ds) d h = met_last u s ds d (All-tail (λ d. IsMet u s d) x (ds ++ d ∷ []) h)

pub met_deps : (u : List Interface) (s : Choice) (m : Command) → AreMet u s (needs_of m) → AreMet u s m.deps
met_deps u s m h = at m.runner h
  where
    at : (r : Option Runner) → AreMet u s (with_runner m.deps r) → AreMet u s m.deps
    at None h = h
    at (Some r) h = met_front u s m.deps r.dep h

pub needs_not : (u : List Interface) (s : Choice) (m : Command) (b : Bool) → Decides b (AreMet u s m.deps) → b ≡ false → Decides false (AreMet u s (needs_of m))
needs_not u s m b h f = (λ t. absurd (false≢true t), λ a. absurd (false≢true (sym f ∙ h.1 (met_deps u s m a))))

pub needs_alone : (u : List Interface) (s : Choice) (m : Command) (b : Bool) → m.runner ≡ None → Decides b (AreMet u s m.deps) → b ≡ true → Decides true (AreMet u s (needs_of m))
needs_alone u s m b e h t = (λ y. subst (λ r. AreMet u s (with_runner m.deps r)) (sym e) (h.0 t), λ y. refl)

pub needs_runner : (u : List Interface) (s : Choice) (m : Command) (r : Runner) (b c : Bool) → m.runner ≡ Some r → Decides b (AreMet u s m.deps) → b ≡ true → Decides c (IsMet u s r.dep) → Decides c (AreMet u s (needs_of m))
needs_runner u s m r b c e h t w = (
  λ y. subst (λ o. AreMet u s (with_runner m.deps o)) (sym e) (met_both u s m.deps r.dep (h.0 t) (w.0 y)),
  λ a. w.1 (met_last u s m.deps r.dep (subst (λ o. AreMet u s (with_runner m.deps o)) e a)),
)
