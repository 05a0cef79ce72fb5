-- A hint makes the same literals true where more is known of other variables.
use Rattle.std.proofs.Common.{◌≡◌, ℕ, Bool, true, false, eqb, cond, refl, sym, ap, ◌∙◌, arith, Some}
use mathlib.Core.Path.{fun_ext}
use Rattle.std.proofs.lemmas.Bool.{false≢true, eqb-true}
use Rattle.std.proofs.lemmas.Bool.Decides.{nat_tests}
use Rattle.zi_formula.specs.declared.formula.Lit.{Lit}
use Rattle.zi_proof.specs.Known.{Known, put, is_open, deny}
use Rattle.zi_sat.proofs.GroupLaws.{not_x}
use Rattle.zi_sat.proofs.LessonLaws.{put_apart}

pub eqb_flip : (a b : ℕ) → eqb a b ≡ false → eqb b a ≡ false
eqb_flip a b h = grind (arith, nat_tests)

put_swap_case : (k : Known) (d l : Lit) (x : ℕ) (a b : Bool) → (a ≡ true → b ≡ true → ⊥) → cond a (Some l.positive) (cond b (Some d.positive) (k x)) ≡ cond b (Some d.positive) (cond a (Some l.positive) (k x))
put_swap_case k d l x true true h = absurd (h refl refl)
put_swap_case k d l x true false h = refl
put_swap_case k d l x false true h = refl
put_swap_case k d l x false false h = refl

pub put_swap : (k : Known) (d l : Lit) → eqb d.variable l.variable ≡ false → put (put k d) l ≡ put (put k l) d
put_swap k d l e =
    fun_ext (λ x. put_swap_case k d l x (eqb x l.variable) (eqb x d.variable) (λ p q. false≢true (sym e ∙ (ap (λ y. eqb y l.variable) (sym (eqb-true x d.variable q)) ∙ p))))

-- groups

deny_frame_case : (k : Known) (d : Lit) (x : ℕ) (b : Bool) → eqb d.variable x ≡ false → cond b (put (put k d) (not_x x)) (put k d) ≡ put (cond b (put k (not_x x)) k) d
deny_frame_case k d x true e = put_swap k d (not_x x) e
deny_frame_case k d x false e = refl

pub deny_frame : (k : Known) (d : Lit) (x : ℕ) → eqb x d.variable ≡ false → deny (put k d) x ≡ put (deny k x) d
deny_frame k d x e =
    ap (λ w. cond (is_open w) (put (put k d) (not_x x)) (put k d)) (put_apart k d x e) ∙ deny_frame_case k d x (is_open (k x)) (eqb_flip x d.variable e)
