use Rattle.std.proofs.Common.{◌≡◌, ℕ, List, take, false, Bor}
use Rattle.std.specs.Ordering.{nat_cmp}
use Rattle.std.specs.Cmp.Lexicographic.{slice_cmp}
use Rattle.std.specs.BTreeSet as tree
use Rattle.std.specs.List.{list_any}
use Rattle.std.specs.Str.{bytes_eq}
use Rattle.zi_names.specs.Names.{same_name, has_twice}
use Rattle.zi_names.proofs.repeats.has_name_twice.Given as goal

abbrev pub invariant-loop-attribute : goal.invariant-loop-attribute
invariant-loop-attribute l = record {
  told : (q : Bor (List ℕ)) → tree.contains (λ x y. slice_cmp nat_cmp x.now y.now) l.seen q ≡ list_any (λ a. bytes_eq a.name q.now) (take l.attribute-index l.raw);
  once : has_twice same_name (take l.attribute-index l.raw) ≡ false;
}
