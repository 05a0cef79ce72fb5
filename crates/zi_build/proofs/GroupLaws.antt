-- At most one candidate of an interface.
use Rattle.std.proofs.Common.{◌≡◌, ℕ, zero, suc, ◌+◌, ◌<◌, ◌≤◌, Bool, true, false, List, [], ◌∷◌, ◌++◌, length, map, take, get_or, refl, sym, ap, ◌∙◌, subst, arith, append_assoc}
use Rattle.zi_choice.proofs.Base.{candidates_at}
use Rattle.std.proofs.lemmas.List.{map-append}
use Rattle.zi_universe.specs.declared.types.Candidate.{Candidate}
use Rattle.zi_universe.specs.declared.types.Interface.{Interface}
use Rattle.zi_formula.specs.declared.formula.Constraint.TheVariants.{AtMostOne}
use Rattle.zi_build.specs.declared.writing.Writer.{Writer}
use Rattle.zi_choice.specs.Vars.{candidates_of, var_number}
use Rattle.zi_build.specs.Clauses.{Rule, each, keep, group_of, one_var, two_or_more, One_of}
use Rattle.zi_build.specs.Writing.{Puts, Adds}
use Rattle.zi_build.proofs.WriteLaws.{adds_as, puts_as, item_at, each_more, adds_next, adds_none, kept}

pub push_each : {A B C : Type 0} (p : B → C) (f : ℕ → A → List B) (l m n : List C) (xs ys : List A) (i : ℕ) (a : A) → ys ≡ xs → i < length ys → a ≡ get_or ys i a → m ≡ l ++ map p (each 0 f (take i xs)) → n ≡ m ++ map p (f i a) → n ≡ l ++ map p (each 0 f (take (i + 1) xs))
push_each p f l m n xs ys i a s k e g h =
    h ∙ ap (λ z. z ++ map p (f i a)) g ∙ append_assoc l (map p (each 0 f (take i xs))) (map p (f i a)) ∙ ap (λ z. l ++ z) (sym (map-append p (each 0 f (take i xs)) (f i a)) ∙ ap (map p) (sym (each_more f xs i a (subst (λ z. i < length z) s k) (e ∙ ap (λ z. get_or z i a) s))))

abbrev pub group_at : List Interface → ℕ → List Rule
group_at u i = keep (two_or_more (length (candidates_of u i))) (One_of (each 0 (one_var i) (candidates_of u i)))

few_two : (n : ℕ) → n < 2 → two_or_more n ≡ false
few_two zero l = refl
few_two (suc zero) l = refl
few_two (suc (suc n)) l = absurd (omega (arith, l))

many_two : (n : ℕ) → 2 ≤ n → two_or_more n ≡ true
many_two zero l = absurd (omega (arith, l))
many_two (suc zero) l = absurd (omega (arith, l))
many_two (suc (suc n)) l = refl

pub no_group : (b : Bool) (u : List Interface) (w : Writer) (i : ℕ) (ks : List Candidate) → ks ≡ candidates_of u i → length ks < 2 → Adds b u w (group_at u i) w
no_group b u w i ks e l = adds_as b u w w [] (group_at u i) (ap (λ b. keep b (One_of (each 0 (one_var i) (candidates_of u i)))) (sym (few_two (length (candidates_of u i)) (subst (λ z. length z < 2) e l)))) (adds_none b u w)

pub one_group : (b : Bool) (u : List Interface) (v w : Writer) (i : ℕ) (ks : List Candidate) (ns : List ℕ) → ks ≡ candidates_of u i → 2 ≤ length ks → ns ≡ map (var_number u) (each 0 (one_var i) (candidates_of u i)) → Puts b v (AtMostOne ns ∷ []) w → Adds b u v (group_at u i) w
one_group b u v w i ks ns e l h p =
    adds_as b u v w (One_of (each 0 (one_var i) (candidates_of u i)) ∷ []) (group_at u i) (kept (two_or_more (length (candidates_of u i))) (One_of (each 0 (one_var i) (candidates_of u i))) (many_two (length (candidates_of u i)) (subst (λ z. 2 ≤ length z) e l)))
    (puts_as b u v w (AtMostOne ns) (One_of (each 0 (one_var i) (candidates_of u i))) (ap (λ z. AtMostOne z) h) p)

pub adds_group : (b : Bool) (u : List Interface) (v w x : Writer) (i : ℕ) → i < length u → Adds b u v (each 0 group_of (take i u)) w → Adds b u w (group_at u i) x → Adds b u v (each 0 group_of (take (i + 1) u)) x
adds_group b u v w x i l g h =
    let r = item_at u i l in
    adds_next b u v w x group_of u i r.0 l r.1 g (adds_as b u w x (group_at u i) (group_of i r.0) (ap (λ ks. keep (two_or_more (length ks)) (One_of (each 0 (one_var i) ks))) (candidates_at u i r.0 r.2)) h)
