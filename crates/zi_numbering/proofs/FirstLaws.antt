-- Where the numbers of each interface's candidates begin.
use Rattle.std.proofs.Common.{◌≡◌, ℕ, zero, suc, ◌+◌, ◌<◌, ◌≤◌, List, [], ◌∷◌, length, get_or, refl, sym, ap, ◌∙◌, subst, arith, Some}
use Rattle.std.specs.Prelude.{slice_get, IsSome}
use Rattle.std.proofs.lemmas.Option.{get_or_from_slice_get}
use Rattle.zi_universe.specs.declared.types.Candidate.{Candidate}
use Rattle.zi_universe.specs.declared.types.Interface.{Interface}
use Rattle.zi_universe.specs.Whole.{IsWhole}
use Rattle.zi_choice.specs.Choice.{candidate_at}
use Rattle.zi_choice.specs.Vars.{before, own_candidates, candidates_of}
use Rattle.zi_choice.proofs.Base.{candidate_is}
use Rattle.zi_choice.proofs.SumLaws.{number_fits}
use Rattle.zi_build.specs.Writing.{starts}
use Rattle.zi_build.proofs.NumberLaws.{starts_at}
use Rattle.zi_build.proofs.WriteLaws.{item_at}
use Rattle.zi_text.proofs.ListLaws.{some_is}

pub none_there : (u us : List Interface) (i : ℕ) → us ≡ u → length us ≤ i → [] ≡ candidates_of u i
none_there u us i e l = sym (none u i (subst (λ v. length v ≤ i) e l))
  where
    none : (u : List Interface) (i : ℕ) → length u ≤ i → candidates_of u i ≡ []
    none [] i l = refl
    none (x ∷ u) zero l = absurd (omega (arith, l))
    none (x ∷ u) (suc i) l = none u i (omega (arith, l))

interface_there : (u : List Interface) (i c : ℕ) → c < length (candidates_of u i) → (x : Interface) × (slice_get u i ≡ Some x)
interface_there [] i c l = absurd (omega (arith, l))
interface_there (x ∷ u) zero c l = (x, refl)
interface_there (x ∷ u) (suc i) c l = interface_there u i c l

pub first_there : (u : List Interface) (fs : List ℕ) (i c : ℕ) → fs ≡ starts own_candidates 1 u → c < length (candidates_of u i) → i < length fs
first_there u fs i c e l =
    let x = interface_there u i c l in subst (λ ns. i < length ns) (sym e) (starts_at own_candidates 1 u i x.0 0 x.1).1

pub first_is : (u : List Interface) (fs : List ℕ) (i c n : ℕ) → fs ≡ starts own_candidates 1 u → c < length (candidates_of u i) → slice_get fs i ≡ Some n → n ≡ 1 + before own_candidates u i
first_is u fs i c n e l g =
    let x = interface_there u i c l in
    sym (get_or_from_slice_get fs i n n g) ∙ ap (λ ns. get_or ns i n) e ∙ (starts_at own_candidates 1 u i x.0 n x.1).0

pub sum_few : (u : List Interface) (i c : ℕ) → IsWhole u → c < length (candidates_of u i) → before own_candidates u i + c < 65536
sum_few u i c whole l =
    let k = item_at (candidates_of u i) c l in number_fits u i c whole (some_is (candidate_at u i c) k.0 (candidate_is u i c ∙ k.2))
