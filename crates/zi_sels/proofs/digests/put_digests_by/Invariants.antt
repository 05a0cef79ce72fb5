use Rattle.std.proofs.Common.{◌≡◌, ◌++◌, drop}
use Rattle.zi_sels.specs.Written.{digest_attrs_by}
use Rattle.zi_sels.proofs.digests.put_digests_by.Given as goal

abbrev pub invariant-loop-name : goal.invariant-loop-name
invariant-loop-name l = l.attrs ++ digest_attrs_by (drop l.name-index l.names) l.algorithm ≡ l.initial.attrs ++ digest_attrs_by l.names l.algorithm
