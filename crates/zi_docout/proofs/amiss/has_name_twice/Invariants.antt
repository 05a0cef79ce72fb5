use Rattle.std.proofs.Common.{◌≡◌, ℕ, List, take, false, Bor}
use Rattle.std.specs.Ordering.{nat_cmp}
use Rattle.std.specs.Cmp.Lexicographic.{slice_cmp}
use Rattle.std.specs.BTreeSet as tree
use Rattle.std.specs.List.{list_any}
use Rattle.std.specs.Str.{bytes_eq}
use Rattle.zi_names.specs.Names.{has_twice}
use Rattle.zi_docout.specs.Amiss.{same_name}
use Rattle.zi_docout.proofs.amiss.has_name_twice.Given as goal

abbrev pub invariant-loop-attr : goal.invariant-loop-attr
invariant-loop-attr l = record {
  told : (q : Bor (List ℕ)) → tree.contains (λ x y. slice_cmp nat_cmp x.now y.now) l.seen q ≡ list_any (λ a. bytes_eq a.name q.now) (take l.attr-index l.attrs);
  once : has_twice same_name (take l.attr-index l.attrs) ≡ false;
}
