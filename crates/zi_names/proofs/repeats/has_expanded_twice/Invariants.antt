use Rattle.std.proofs.Common.{◌≡◌, take, false}
use Rattle.std.specs.Prelude.{filter}
use Rattle.std.specs.BTreeSet as tree
use Rattle.std.specs.List.{list_any}
use Rattle.zi_names.specs.Names.{is_prefixed, same_expanded, has_twice}
use Rattle.zi_names.proofs.Expanded.{Key, key_cmp, is_named}
use Rattle.zi_names.proofs.repeats.has_expanded_twice.Given as goal

abbrev pub invariant-loop-attribute : goal.invariant-loop-attribute
invariant-loop-attribute l = record {
  told : (q : Key) → tree.contains key_cmp l.seen q ≡ list_any (is_named l.scope q) (filter is_prefixed (take l.attribute-index l.raw));
  once : has_twice (same_expanded l.scope) (filter is_prefixed (take l.attribute-index l.raw)) ≡ false;
}
