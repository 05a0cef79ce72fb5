-- The words of the demonstration: where they stop being right.
use Rattle.std.proofs.Common.{◌≡◌, ℕ, List, [], ◌∷◌, length, refl, sym, ap, ◌∙◌, subst, arith, Some, None, Result}
use Rattle.std.specs.Prelude.{codes, MatchResult}
use Rattle.zi_text.specs.Front.{BeginsRight}
use Rattle.zi_words.specs.declared.request.Request.{Request}
use Rattle.zi_words.specs.declared.request.Request.TheVariants as request
use Rattle.zi_words.specs.declared.refusal.Refusal.{Refusal}
use Rattle.zi_words.specs.Forms.{Word, demo_number}
use Rattle.zi_words.specs.Demo.{AsksDemo}
use Rattle.zi_words.specs.Refused.{Asks, LeftAt, Refused}
use Rattle.zi_words.specs.Taken.{IsEnded}
use Rattle.zi_words.proofs.LeftLemmas.{stuck, short}
use Rattle.zi_text.proofs.ListLaws.{head_same}

number_one : demo_number (codes "1") ≡ Some 1
unfolding demo_number
number_one = refl

begins_demo : BeginsRight (Asks AsksDemo) []
begins_demo = (codes "1" ∷ [], (request.Demo 1, (codes "1", 1, refl, number_one, refl)))

pub demo_none : (ws : List Word) → length ws ≡ 0 → LeftAt (Asks AsksDemo) ws 0
demo_none [] e = short (Asks AsksDemo) [] begins_demo (λ (r, (word, n, g, k, q)). cc)
demo_none (w ∷ ws) e = absurd (omega arith)

pub demo_wrong : (ws rest : List Word) (w : Word) → ws ≡ w ∷ rest → demo_number w ≡ None → LeftAt (Asks AsksDemo) ws (length ws)
demo_wrong ws rest w e h =
    let P : List Word → Type 0 = λ v. LeftAt (Asks AsksDemo) v (length v) in
    subst P (sym e) (stuck (Asks AsksDemo) [] w rest begins_demo (λ (more, (r, (word, n, g, k, q))). wrong more word n g k))
  where
    wrong : (more : List Word) (word : Word) (n : ℕ) → w ∷ more ≡ word ∷ [] → demo_number word ≡ Some n → ⊥
    wrong more word n g k =
        let f : None ≡ Some n = sym h ∙ (ap demo_number (head_same w word more [] g).0 ∙ k) in
        cc

-- what may follow no more is right where it ends, and else wrong at the next word
pub demo_ended : (ws rest : List Word) (w : Word) (n : ℕ) (result : Result Request Refusal) → ws ≡ w ∷ rest → demo_number w ≡ Some n → IsEnded (request.Demo n) rest result
    → MatchResult result (AsksDemo ws) (Refused AsksDemo ws)
demo_ended ws [] w n result e h i =
    let P : Result Request Refusal → Type 0 = λ v. MatchResult v (AsksDemo ws) (Refused AsksDemo ws) in
    subst P (sym i) (w, n, e, h, refl)
demo_ended ws (x ∷ rest) w n result e h i =
    let P : Result Request Refusal → Type 0 = λ v. MatchResult v (AsksDemo ws) (Refused AsksDemo ws) in
    let Q : List Word → Type 0 = λ v. LeftAt (Asks AsksDemo) v (length (x ∷ rest)) in
    subst P (sym i)
    (subst Q (sym e) (stuck (Asks AsksDemo) (w ∷ []) x rest ([], (request.Demo n, (w, n, refl, h, refl))) (λ (more, (r, (word, m, g, k, q))). wrong more word g)))
  where
    wrong : (more : List Word) (word : Word) → w ∷ x ∷ more ≡ word ∷ [] → ⊥
    wrong more word g = let j = (head_same w word (x ∷ more) [] g).1 in cc

pub one_demo : (ws : List Word) (a b : Request) → AsksDemo ws a → AsksDemo ws b → a ≡ b
one_demo ws a b (v, n, e, h, p) (w, m, f, k, q) =
    let same : v ≡ w = (head_same v w [] [] (sym e ∙ f)).0 in
    let number : Some n ≡ Some m = sym h ∙ (ap demo_number same ∙ k) in
    let g : n ≡ m = cc in
    p ∙ (ap request.Demo g ∙ sym q)
