-- Where an entry is cut.
use Rattle.std.proofs.Common.{◌≡◌, ℕ, ◌<◌, Bool, List, length, None, sym, ap, ◌∙◌, arith}
use Rattle.std.specs.Prelude.{if◌then◌else◌}
use Rattle.std.specs.List.{position_or_len, before_first, after_first}
use Rattle.std.proofs.lemmas.Bool.{le-ltb, lt-ltb}
use Rattle.zi_edge.specs.Entries.{is_equals, named, halves}

pub none_halved : (entry : List ℕ) → position_or_len is_equals entry ≡ length entry → None ≡ halves entry
none_halved entry h =
    sym (ap (λ (b : Bool). if b then named (before_first is_equals entry) (after_first is_equals entry) else None) (le-ltb (position_or_len is_equals entry) (length entry) (omega (arith, h))))

pub some_halved : (entry name value : List ℕ) → position_or_len is_equals entry < length entry → name ≡ before_first is_equals entry → value ≡ after_first is_equals entry
    → named name value ≡ halves entry
some_halved entry name value h n v =
    ap (λ (x : List ℕ). named x value) n ∙ ap (named (before_first is_equals entry)) v
    ∙ sym (ap (λ (b : Bool). if b then named (before_first is_equals entry) (after_first is_equals entry) else None) (lt-ltb (position_or_len is_equals entry) (length entry) h))
