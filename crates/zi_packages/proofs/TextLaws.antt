-- A text says one table at most, and one bad line.
use Rattle.std.proofs.Common.{◌≡◌, ℕ, ◌-◌, ◌<◌, List, ◌∷◌, sym, ap, subst, ◌∙◌, arith, Some}
use Rattle.zi_text.specs.Front.{StopsAt}
use Rattle.zi_packages.specs.Lines.{whole_lines}
use Rattle.zi_packages.specs.Table.{Say, RightLines}
use Rattle.zi_packages.specs.Laws.{TableIsOne, BadLineIsOne}
use Rattle.zi_packages.specs.declared.types.Packages.{Packages}
use Rattle.zi_packages.specs.declared.types.PackageRow.{PackageRow}
use Rattle.zi_packages.proofs.TableLaws.{whole_are, first_says, rows_said}

some_same : {X : Type 0} (x y : X) → Some x ≡ Some y → x ≡ y
some_same x y e = cc

table_by : (s t : Packages) → s.distribution ≡ t.distribution → s.rows ≡ t.rows → s ≡ t
table_by s t d r = ap (λ (q : List ℕ). record s { distribution = q }) d ∙ ap (λ (q : List PackageRow). record t { rows = q }) r

-- the same lines say the same table
said_same : (first : List ℕ) (others : List (List ℕ)) (s t : Packages) → Say (first ∷ others) s → Say (first ∷ others) t → s ≡ t
said_same first others s t a b =
    table_by s t (some_same s.distribution t.distribution (sym (first_says first others s a) ∙ first_says first others t b)) (some_same s.rows t.rows (sym (rows_said first others s a) ∙ rows_said first others t b))

lines_same : (ls ms : List (List ℕ)) (s t : Packages) → ls ≡ ms → Say ls s → Say ms t → s ≡ t
lines_same ls ms s t e a b =
    let P : List (List ℕ) → Type 0 = λ q. Say q s in
    let Q : List (List ℕ) → Type 0 = λ q. Say q t in
    said_same a.first a.others s t (subst P a.are a) (subst Q (sym e ∙ a.are) b)

pub table_is_one : TableIsOne
table_is_one bytes s t a b = lines_same a.lines b.lines s t (sym (whole_are bytes s a) ∙ whole_are bytes t b) a.say b.say

one_place : (Right : List (List ℕ) → Type 0) (xs : List (List ℕ)) (m n : ℕ) → StopsAt Right xs m → StopsAt Right xs n → m ≡ n
one_place Right xs m n a b =
    let f : ¬ (m < n) = λ lt. a.longest n lt b.within b.front in
    let g : ¬ (n < m) = λ lt. b.longest m lt a.within a.front in
    omega (arith, f, g)

pub bad_line_is_one : BadLineIsOne
bad_line_is_one bytes m n a b =
    let e = one_place RightLines (whole_lines bytes) (m - 1) (n - 1) a.2 b.2 in
    omega (arith, e, a.1, b.1)
