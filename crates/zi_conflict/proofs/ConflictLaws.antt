-- The facts of a core.
use Rattle.std.proofs.Common.{◌≡◌, ℕ, zero, suc, ◌+◌, ◌<◌, ◌≤◌, List, [], ◌∷◌, ◌++◌, length, map, take, get_or, refl, sym, ap, ◌∙◌, subst, arith}
use Rattle.std.specs.List.{All}
use Rattle.std.proofs.lemmas.List.{map-append}
use Rattle.zi_proof.specs.declared.proof.Proof.{Proof}
use Rattle.zi_universe.specs.declared.types.Requirement.{Requirement}
use Rattle.zi_universe.specs.declared.types.Interface.{Interface}
use Rattle.zi_build.specs.Clauses.{rules}
use Rattle.zi_facts.specs.declared.fact.Fact.{Fact}
use Rattle.zi_conflict.specs.Core.{IsCore, AreUsed}
use Rattle.zi_facts.specs.Facts.{Told, Root, as_told, told, told_at}
use Rattle.zi_facts.specs.Lines.{facts_text}
use Rattle.zi_conflict.specs.Conflict.{IsConflict, IsConflictText}
use Rattle.zi_facts.proofs.FactLaws.{told_length}
use Rattle.zi_conflict.proofs.PartLaws.{next_number, take_whole}

told_here : (all : List Fact) (n : ℕ) (x : Fact) → n < length all → x ≡ get_or all n x → told_at (map as_told all) n ≡ as_told x
told_here [] n x l e = absurd (omega (arith, l))
told_here (y ∷ all) zero x l e = ap as_told (sym e)
told_here (y ∷ all) (suc n) x l e = told_here all n x (omega (arith, l)) e

pub at_next : (all : List Fact) (ns : List ℕ) (i n : ℕ) (x : Fact) (old new : List Fact) → i < length ns → n ≡ get_or ns i 0 → n < length all → x ≡ get_or all n x → map as_told old ≡ map (told_at (map as_told all)) (take i ns) → new ≡ old ++ x ∷ [] → map as_told new ≡ map (told_at (map as_told all)) (take (i + 1) ns)
at_next all ns i n x old new l e w at h g =
    let f : ℕ → Told = told_at (map as_told all) in
    ap (map as_told) g ∙ map-append as_told old (x ∷ []) ∙ ap (λ ts. ts ++ as_told x ∷ []) h ∙ ap (λ t. map f (take i ns) ++ t ∷ []) (sym (told_here all n x w at))
    ∙ sym (map-append f (take i ns) (n ∷ [])) ∙ ap (map f) (sym (next_number ns i n l e))

pub at_end : (all : List Fact) (ns : List ℕ) (i : ℕ) (facts : List Fact) → length ns ≤ i → map as_told facts ≡ map (told_at (map as_told all)) (take i ns) → map as_told facts ≡ map (told_at (map as_told all)) ns
at_end all ns i facts l h = h ∙ ap (map (told_at (map as_told all))) (take_whole ns i l)

count_map : {A B : Type 0} (g : A → B) (xs : List A) → length (map g xs) ≡ length xs
count_map g [] = refl
count_map g (x ∷ xs) = ap suc (count_map g xs)

-- each number of a core has its fact
pub numbers_own : (u : List Interface) (req : Requirement) (all : List Fact) (ns : List ℕ) → map as_told all ≡ told u req → IsCore u req ns → All (λ n. n < length all) ns
numbers_own u req all ns e h =
    let same : length (rules u req) ≡ length all = sym (sym (count_map as_told all) ∙ ap length e ∙ told_length u req) in
    subst (λ k. All (λ n. n < k) ns) same h.own

pub conflict_is : (u : List Interface) (req : Requirement) (p : Proof) (all facts : List Fact) (ns : List ℕ) → IsCore u req ns → AreUsed p ns → map as_told all ≡ told u req → map as_told facts ≡ map (told_at (map as_told all)) ns → IsConflict u req p (map as_told facts)
conflict_is u req p all facts ns c w e h = record { numbers = ns; core = c; used = w; are = h ∙ ap (λ ts. map (told_at ts) ns) e }

-- their text
pub text_is : (u names : List Interface) (req : Requirement) (p : Proof) (facts slice : List Fact) (text : List ℕ) → names ≡ u → slice ≡ facts → IsConflict names req p (map as_told facts) → text ≡ facts_text names req (map as_told slice) → IsConflictText u req p text
text_is u names req p facts slice text e f c t =
    subst (λ v. IsConflictText v req p text) e (record { facts = map as_told facts; conflict = c; is = t ∙ ap (λ fs. facts_text names req (map as_told fs)) f })
