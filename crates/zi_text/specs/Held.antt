-- The characters of a text, which stand in place where they are few.

use Rattle.std.specs.Prelude.{List, ℕ, string_bytes}
use Rattle.zi_text.specs.declared.held.Held.{Held}
use Rattle.zi_text.specs.declared.held.Held.TheVariants.{Short, Long}

-- Their bytes in UTF-8.
abbrev pub held_bytes : Held → List ℕ
held_bytes (Short text) = text.bytes
held_bytes (Long text) = string_bytes text
