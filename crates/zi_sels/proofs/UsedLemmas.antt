-- One command more is used.
use Rattle.std.proofs.Common.{◌≡◌, ℕ, Bool, true, false, List, [], ◌∷◌, ◌++◌, cond, refl, ap, ◌∙◌}
use Rattle.std.specs.Prelude.{◌==◌, ◌&&◌, ◌||◌, bytes_eq}
use Rattle.zi_choice.specs.declared.traced.Used.{Used}
use Rattle.zi_choice.specs.Walk.{is_used}
use Rattle.zi_sels.specs.Using.{walk_with}

pub last_one : (a : Bool) → (a || false) ≡ cond a true false
last_one true = refl
last_one false = refl

pub later_one : (first last others : Bool) → (first || cond last true others) ≡ cond last true (first || others)
later_one true true others = refl
later_one true false others = refl
later_one false last others = refl

pub used_more : (used : List Used) (x : Used) (i : ℕ) (name : List ℕ)
    → is_used (walk_with (used ++ x ∷ [])) i name ≡ cond (x.interface == i && bytes_eq x.command name) true (is_used (walk_with used) i name)
used_more [] x i name = last_one (x.interface == i && bytes_eq x.command name)
used_more (y ∷ used) x i name =
    ap (λ v. (y.interface == i && bytes_eq y.command name) || v) (used_more used x i name)
    ∙ later_one (y.interface == i && bytes_eq y.command name) (x.interface == i && bytes_eq x.command name) (is_used (walk_with used) i name)
