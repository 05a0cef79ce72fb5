-- Relations of a walk, by what is known of their first step.
use Rattle.std.proofs.Common.{◌≡◌, ℕ, true, false, List, [], ◌∷◌, ◌++◌, Some, None, refl, subst}
use Rattle.zi_parts.specs.declared.types.Dep.{Dep}
use Rattle.zi_parts.specs.declared.types.Command.{Command}
use Rattle.zi_universe.specs.declared.types.Interface.{Interface}
use Rattle.zi_choice.specs.Choice.{Choice, chosen, command_at, deps_of, needs_of}
use Rattle.zi_choice.specs.Walk.{Walk, Visits, Needs, NeedsEach, Follows, listed, comes, lacks, again, uses, no_more, one_more, ends, passes, goes, is_listed, is_used, with_place, with_use, leads_to}
use Rattle.zi_choice.proofs.WalkLaws.{true_false, not_both, one_value}

pub visit_same : {u : List Interface} {s : Choice} {i : ℕ} {a b : Walk} → is_listed a i ≡ true → Visits u s i a b → a ≡ b
visit_same e (listed f) = refl
visit_same e (comes f g) = true_false e f

pub visit_goes : {u : List Interface} {s : Choice} {i : ℕ} {a b : Walk} → is_listed a i ≡ false → Visits u s i a b → Follows u s (deps_of (chosen u s i)) (with_place s i a) b
visit_goes e (listed f) = true_false f e
visit_goes e (comes f g) = g

pub need_lacking : {u : List Interface} {s : Choice} {i : ℕ} {name : List ℕ} {a b : Walk} → command_at u s i name ≡ None → Needs u s i name a b → a ≡ b
need_lacking e (lacks f) = refl
need_lacking e (again f) = refl
need_lacking e (uses m f g h) = not_both e f

pub need_used : {u : List Interface} {s : Choice} {i : ℕ} {name : List ℕ} {a b : Walk} → is_used a i name ≡ true → Needs u s i name a b → a ≡ b
need_used e (lacks f) = refl
need_used e (again f) = refl
need_used e (uses m f g h) = true_false e g

pub need_goes : {u : List Interface} {s : Choice} {i : ℕ} {name : List ℕ} {m : Command} {a b : Walk} → command_at u s i name ≡ Some m → is_used a i name ≡ false → Needs u s i name a b → Follows u s (needs_of m) (with_use i name a) b
need_goes e n (lacks f) = not_both f e
need_goes e n (again f) = true_false f n
need_goes {u} {s} {i} {name} {m} {a} {b} e n (uses k f g h) = subst (λ x. Follows u s (needs_of x) (with_use i name a) b) (one_value e f) h

pub each_same : {u : List Interface} {s : Choice} {i : ℕ} {a b : Walk} → NeedsEach u s i [] a b → a ≡ b
each_same no_more = refl

pub each_split : {u : List Interface} {s : Choice} {i : ℕ} {name : List ℕ} {names : List (List ℕ)} {a c : Walk} → NeedsEach u s i (name ∷ names) a c → (b : Walk) × Needs u s i name a b × NeedsEach u s i names b c
each_split (one_more {b = b} n e) = (b, n, e)

pub follow_same : {u : List Interface} {s : Choice} {a b : Walk} → Follows u s [] a b → a ≡ b
follow_same ends = refl

pub follow_split : {u : List Interface} {s : Choice} (ds es : List Dep) {a c : Walk} → Follows u s (ds ++ es) a c → (b : Walk) × Follows u s ds a b × Follows u s es b c
follow_split [] es {a} f = (a, ends, f)
follow_split (d ∷ ds) es (passes e f) = let r = follow_split ds es f in (r.0, passes e r.1, r.2)
follow_split (d ∷ ds) es (goes i e v n f) = let r = follow_split ds es f in (r.0, goes i e v n r.1, r.2)

pub follow_passes : {u : List Interface} {s : Choice} {d : Dep} {a b : Walk} → leads_to u d ≡ None → Follows u s (d ∷ []) a b → a ≡ b
follow_passes e (passes f g) = follow_same g
follow_passes e (goes i f v n g) = not_both e f

pub follow_leads : {u : List Interface} {s : Choice} {d : Dep} {i : ℕ} {a c : Walk} → leads_to u d ≡ Some i → Follows u s (d ∷ []) a c → (b : Walk) × Visits u s i a b × NeedsEach u s i d.commands b c
follow_leads e (passes f g) = not_both f e
follow_leads {u} {s} {d} {i} {a} {c} e (goes {b = b} {c = x} j f v n g) =
    let same : j ≡ i = one_value e f in
    (b, subst (λ k. Visits u s k a b) same v, subst (λ y. NeedsEach u s i d.commands b y) (follow_same g) (subst (λ k. NeedsEach u s k d.commands b x) same n))
