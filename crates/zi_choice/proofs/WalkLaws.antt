-- A choice has one walk at most.
use Rattle.std.proofs.Common.{◌≡◌, ℕ, Bool, true, false, List, refl, sym, subst, ◌∙◌, Option, Some, None}
use Rattle.std.proofs.lemmas.Bool.{false≢true}
use Rattle.std.proofs.lemmas.Option.{same_Some}
use Rattle.zi_parts.specs.declared.types.Dep.{Dep}
use Rattle.zi_universe.specs.declared.types.Interface.{Interface}
use Rattle.zi_choice.specs.Choice.{Choice, needs_of}
use Rattle.zi_choice.specs.Walk.{Walk, Visits, Needs, NeedsEach, Follows, listed, comes, lacks, again, uses, no_more, one_more, ends, passes, goes, with_use, wanted}
use Rattle.zi_choice.specs.Laws.{WalkIsOne}
use Rattle.zi_feed.specs.IdLaws.{none_some}

pub true_false : {G : Type 0} {b : Bool} → b ≡ true → b ≡ false → G
true_false e f = absurd (false≢true (sym f ∙ e))

pub not_both : {A : Type 0} {G : Type 0} {o : Option A} {x : A} → o ≡ None → o ≡ Some x → G
not_both e f = absurd (none_some (sym e ∙ f))

pub one_value : {A : Type 0} {o : Option A} {x y : A} → o ≡ Some x → o ≡ Some y → y ≡ x
one_value e f = same_Some _ _ (sym f ∙ e)

mutual
  pub one_visit : {u : List Interface} {s : Choice} {i : ℕ} {a b c : Walk} → Visits u s i a b → Visits u s i a c → b ≡ c
  one_visit (listed e) (listed f) = refl
  one_visit (listed e) (comes f g) = true_false e f
  one_visit (comes e g) (listed f) = true_false f e
  one_visit (comes e g) (comes f h) = one_follow g h

  pub one_need : {u : List Interface} {s : Choice} {i : ℕ} {name : List ℕ} {a b c : Walk} → Needs u s i name a b → Needs u s i name a c → b ≡ c
  one_need (lacks e) (lacks f) = refl
  one_need (lacks e) (again f) = refl
  one_need (lacks e) (uses m f g h) = not_both e f
  one_need (again e) (lacks f) = refl
  one_need (again e) (again f) = refl
  one_need (again e) (uses m f g h) = true_false e g
  one_need (uses m e g h) (lacks f) = not_both f e
  one_need (uses m e g h) (again f) = true_false f g
  one_need {u} {s} (uses {i = i} {name = name} {a = a} m e g h) (uses {b = c} n f k l) =
      one_follow h (subst (λ x. Follows u s (needs_of x) (with_use i name a) c) (one_value e f) l)

  pub one_each : {u : List Interface} {s : Choice} {i : ℕ} {names : List (List ℕ)} {a b c : Walk} → NeedsEach u s i names a b → NeedsEach u s i names a c → b ≡ c
  one_each no_more no_more = refl
  one_each {u} {s} (one_more {i = i} {names = names} n e) (one_more {c = c} m f) =
      one_each e (subst (λ w. NeedsEach u s i names w c) (sym (one_need n m)) f)

  pub one_follow : {u : List Interface} {s : Choice} {ds : List Dep} {a b c : Walk} → Follows u s ds a b → Follows u s ds a c → b ≡ c
  one_follow ends ends = refl
  one_follow (passes e f) (passes g h) = one_follow f h
  one_follow (passes e f) (goes i g v n h) = not_both e g
  one_follow (goes i e v n f) (passes g h) = not_both g e
  one_follow {u} {s} (goes {d = d} {ds = ds} {a = a} {b = b} {c = c} i e v n f) (goes {b = b2} {c = c2} {e = e2} j g v2 n2 f2) =
      let same : j ≡ i = one_value e g in
      let to_b : b ≡ b2 = one_visit v (subst (λ k. Visits u s k a b2) same v2) in
      let to_c : c ≡ c2 = one_each n (subst (λ w. NeedsEach u s i d.commands w c2) (sym to_b) (subst (λ k. NeedsEach u s k d.commands b2 c2) same n2)) in
      one_follow f (subst (λ w. Follows u s ds w e2) (sym to_c) f2)

pub walk_one : WalkIsOne
walk_one u req s v w p q =
    let middle : p.from_root ≡ q.from_root = one_visit p.visits q.visits in
    one_each p.needs (subst (λ m. NeedsEach u s 0 (wanted req.command) m w) (sym middle) q.needs)
