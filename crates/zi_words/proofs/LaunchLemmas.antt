-- The words of the commands on selections in a file: where they stop being right.
use Rattle.std.proofs.Common.{◌≡◌, List, [], ◌∷◌, length, refl, sym, ap, ◌∙◌, subst, arith, Result}
use Rattle.std.specs.Prelude.{codes, MatchResult}
use Rattle.zi_text.specs.Front.{BeginsRight}
use Rattle.zi_words.specs.declared.request.Request.{Request}
use Rattle.zi_words.specs.declared.request.Request.TheVariants as request
use Rattle.zi_words.specs.declared.refusal.Refusal.{Refusal}
use Rattle.zi_words.specs.Forms.{Word}
use Rattle.zi_words.specs.Launch.{AsksFile, AsksShow}
use Rattle.zi_words.specs.Refused.{Asks, LeftAt, Refused}
use Rattle.zi_words.specs.Taken.{IsEnded}
use Rattle.zi_words.proofs.LeftLemmas.{stuck, short}
use Rattle.zi_text.proofs.ListLaws.{head_same}

-- a file, and words behind it
module _ (of : Word → List Word → Request) where
  pub begins_file : BeginsRight (Asks (AsksFile of)) []
  begins_file = (codes "f" ∷ [], (of (codes "f") [], (codes "f", [], refl, refl)))

  pub launch_none : (ws : List Word) → length ws ≡ 0 → LeftAt (Asks (AsksFile of)) ws 0
  launch_none [] e = short (Asks (AsksFile of)) [] begins_file (λ (r, (file, user, g, q)). cc)
  launch_none (w ∷ ws) e = absurd (omega arith)

  pub launch_right : (ws rest user : List Word) (w file : Word) → ws ≡ w ∷ rest → file ≡ w → user ≡ rest → AsksFile of ws (of file user)
  launch_right ws rest user w file e f g = (w, rest, e, ap (λ v. of v user) f ∙ ap (of w) g)

  pub one_launch : (ws : List Word) (a b : Request) → AsksFile of ws a → AsksFile of ws b → a ≡ b
  one_launch ws a b (v, us, e, p) (w, vs, f, q) =
      let same = head_same v w us vs (sym e ∙ f) in
      p ∙ (ap (λ x. of x us) same.0 ∙ (ap (of w) same.1 ∙ sym q))

-- a file alone
begins_show : BeginsRight (Asks AsksShow) []
begins_show = (codes "f" ∷ [], (request.Show (codes "f"), (codes "f", refl, refl)))

pub show_none : (ws : List Word) → length ws ≡ 0 → LeftAt (Asks AsksShow) ws 0
show_none [] e = short (Asks AsksShow) [] begins_show (λ (r, (file, g, q)). cc)
show_none (w ∷ ws) e = absurd (omega arith)

-- what may follow no more is right where it ends, and else wrong at the next word
pub show_ended : (ws rest : List Word) (w file : Word) (result : Result Request Refusal) → ws ≡ w ∷ rest → file ≡ w → IsEnded (request.Show file) rest result
    → MatchResult result (AsksShow ws) (Refused AsksShow ws)
show_ended ws [] w file result e f i =
    let P : Result Request Refusal → Type 0 = λ v. MatchResult v (AsksShow ws) (Refused AsksShow ws) in
    subst P (sym i) (w, e, ap request.Show f)
show_ended ws (x ∷ rest) w file result e f i =
    let P : Result Request Refusal → Type 0 = λ v. MatchResult v (AsksShow ws) (Refused AsksShow ws) in
    let Q : List Word → Type 0 = λ v. LeftAt (Asks AsksShow) v (length (x ∷ rest)) in
    subst P (sym i)
    (subst Q (sym e) (stuck (Asks AsksShow) (w ∷ []) x rest ([], (request.Show w, (w, refl, refl))) (λ (more, (r, (other, g, q))). wrong more other g)))
  where
    wrong : (more : List Word) (other : Word) → w ∷ x ∷ more ≡ other ∷ [] → ⊥
    wrong more other g = let j = (head_same w other (x ∷ more) [] g).1 in cc

pub one_show : (ws : List Word) (a b : Request) → AsksShow ws a → AsksShow ws b → a ≡ b
one_show ws a b (v, e, p) (w, f, q) = p ∙ (ap request.Show (head_same v w [] [] (sym e ∙ f)).0 ∙ sym q)
