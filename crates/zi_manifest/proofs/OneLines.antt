-- An entry's line has one LF, and tells of one entry.
use Rattle.std.proofs.Common.{◌≡◌, ℕ, true, false, List, ◌∷◌, ◌++◌, arith}
use Rattle.std.specs.Prelude.{decimal}
use Rattle.std.specs.Fmt.{signed_decimal}
use Rattle.std.proofs.lemmas.List.{append_assoc}
use Rattle.zi_digest.specs.declared.Algorithm.{Algorithm}
use Rattle.zi_tree.specs.Order.{has_byte}
use Rattle.zi_manifest.specs.Sketch.{joined}
use Rattle.zi_manifest.specs.declared.entries.Entry.TheVariants.{File, Link, Folder}
use Rattle.zi_manifest.proofs.Accepted.{has_append, no_newline, byte_joined}
use Rattle.zi_manifest.proofs.Cuts.{decimal_has, signed_has, hash_has}
use Rattle.zi_manifest.proofs.LinesRead.{OneLine}

-- two texts with a space between
spaced : (v w : List ℕ) → has_byte 10 v ≡ false → has_byte 10 w ≡ false → has_byte 10 (v ++ 32 ∷ w) ≡ false
spaced v w h k = has_append 10 v (32 ∷ w) h k

pub one_line : (a : Algorithm) → OneLine a
one_line a (File n h true t size) g = (
  88 ∷ 32 ∷ (h ++ 32 ∷ (signed_decimal t ++ 32 ∷ (decimal size ++ 32 ∷ n))),
  simp append_assoc,
  spaced h (signed_decimal t ++ 32 ∷ (decimal size ++ 32 ∷ n)) (hash_has 10 a h (omega arith) g.1)
      (spaced (signed_decimal t) (decimal size ++ 32 ∷ n) (signed_has 10 t (omega arith) g.2) (spaced (decimal size) n (decimal_has 10 size (omega arith) g.3) (no_newline n g.0))),
)
one_line a (File n h false t size) g = (
  70 ∷ 32 ∷ (h ++ 32 ∷ (signed_decimal t ++ 32 ∷ (decimal size ++ 32 ∷ n))),
  simp append_assoc,
  spaced h (signed_decimal t ++ 32 ∷ (decimal size ++ 32 ∷ n)) (hash_has 10 a h (omega arith) g.1)
      (spaced (signed_decimal t) (decimal size ++ 32 ∷ n) (signed_has 10 t (omega arith) g.2) (spaced (decimal size) n (decimal_has 10 size (omega arith) g.3) (no_newline n g.0))),
)
one_line a (Link n h size) g =
    (83 ∷ 32 ∷ (h ++ 32 ∷ (decimal size ++ 32 ∷ n)), simp append_assoc, spaced h (decimal size ++ 32 ∷ n) (hash_has 10 a h (omega arith) g.1) (spaced (decimal size) n (decimal_has 10 size (omega arith) g.2) (no_newline n g.0)))
one_line a (Folder p n) g = (68 ∷ 32 ∷ 47 ∷ joined p n, simp append_assoc, byte_joined p n g.1 (no_newline n g.0))
