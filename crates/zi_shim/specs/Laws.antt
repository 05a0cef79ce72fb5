-- The law that joins the writing of shims and their reading.
use Rattle.std.specs.Prelude.{◌≡◌, ℕ, List, Option}
use Rattle.zi_shim.specs.Shim.{shim, Says, Reads}

pub record ShimsSayTheirWords : Type 0 where
  -- the text of a shim says its words
  pub said : (words : List (List ℕ)) → Says (shim words) words
  -- a text says one list of words
  pub once : (text : List ℕ) (one other : List (List ℕ)) → Says text one → Says text other → one ≡ other
  -- no two lists of words have one text
  pub apart : (one other : List (List ℕ)) → shim one ≡ shim other → one ≡ other
  -- what is read of bytes is one
  pub sole : (bytes : List ℕ) (one other : Option (List (List ℕ))) → Reads bytes one → Reads bytes other → one ≡ other
