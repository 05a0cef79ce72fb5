use Rattle.std.proofs.Common.{sym, subst, ◌∙◌, arith}
use Rattle.std.specs.Str.{IsUtf8}
use Rattle.zi_manifest.specs.Listing.{IsHash}
use Rattle.zi_manifest.proofs.Cuts.{hash_has}
use Rattle.zi_manifest.proofs.WordLemmas.{cut_is, IsUtf8-hash}
use Rattle.zi_manifest.proofs.words.hash_word.Goals as goal

pub returns-in_default : goal.returns-in_default
returns-in_default c = λ h r good e.
    let w = cut_is c.args.text.now c.in_ok-word.word.now h c.in_ok-word.behind.now r c.in_ok-word.ensures (hash_has 32 c.args.a h (omega arith) good) e in
    c.in_default.ensures.cases.0 (subst IsUtf8 (sym w) (IsUtf8-hash c.args.a h good))

pub returns-else-is_hash : goal.returns-else-is_hash
returns-else-is_hash c = λ h r good e.
    let w = cut_is c.args.text.now c.in_ok-word.word.now h c.in_ok-word.behind.now r c.in_ok-word.ensures (hash_has 32 c.args.a h (omega arith) good) e in
    let is : IsHash c.args.a c.in_ok-word.word.now = subst (IsHash c.args.a) (sym w) good in
    absurd (cc (sym (c.is_hash.ensures.1 is) ∙ c.if-is_hash.false))
