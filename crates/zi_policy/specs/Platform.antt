-- The platforms, bit groups and conditions of the Zero Install feed format ("arch" and "use"), by table. The ranks and
-- groups are those of its published tables, as this project narrows them.
use Rattle.std.specs.Prelude.{ℕ, Bool, true, ◌==◌, ◌&&◌, ◌||◌, if◌then◌else◌, List, [], ◌∷◌, codes, bytes_eq, length, is_some, Option, Some, None}
use Rattle.std.specs.List.{list_any, position_from}
use Rattle.zi_text.specs.Pieces.{pieces}
use Rattle.zi_policy.specs.declared.types.Arch.{Arch}
use Rattle.zi_policy.specs.declared.types.Policy.{Policy}
use Rattle.zi_policy.specs.declared.types.Condition.{Condition}
use Rattle.zi_policy.specs.declared.types.Width.{Width}
use Rattle.zi_policy.specs.declared.types.Width.TheVariants.{Any, Bits32, Bits64}

-- whether a text is among these
abbrev pub listed : List ℕ → List (List ℕ) → Bool
listed t ts = list_any (bytes_eq t) ts

-- the place of a text among these, counted from 0, where it is there
abbrev pub place : List ℕ → List (List ℕ) → Option ℕ
place t ts = position_from (bytes_eq t) 0 ts

-- whether a part of a platform's text is empty
abbrev pub is_empty_part : List ℕ → Bool
is_empty_part t = length t == 0

-- the platform that the pieces of a text between its dashes spell: there are two, and neither is empty
abbrev pub arch_of_pieces : List ℕ → List (List ℕ) → Option Arch
arch_of_pieces os [] = None
arch_of_pieces os (machine ∷ []) =
    if is_empty_part os || is_empty_part machine then None
    else Some (record { os = os; machine = machine })
arch_of_pieces os (machine ∷ other ∷ others) = None

-- the platform of a text: an operating system and a machine with one dash between them
unfoldable pub arch_of : List ℕ → Option Arch
arch_of text = let p = pieces 45 text in arch_of_pieces p.0 p.1

-- the word for any
abbrev pub any : List ℕ
any = codes "*"

-- the operating systems that one runs, the best first
abbrev pub os_list : List ℕ → List (List ℕ)
os_list os =
    if bytes_eq os (codes "Windows") then os ∷ any ∷ []
    else os ∷ codes "POSIX" ∷ any ∷ []

-- the machines that one runs, the best first
abbrev pub machine_list : List ℕ → List (List ℕ)
machine_list m =
    if bytes_eq m (codes "x86_64") then codes "x86_64" ∷ codes "i686" ∷ codes "i586" ∷ codes "i486" ∷ codes "i386" ∷ any ∷ []
    else if bytes_eq m (codes "i686") then codes "i686" ∷ codes "i586" ∷ codes "i486" ∷ codes "i386" ∷ any ∷ []
    else if bytes_eq m (codes "i586") then codes "i586" ∷ codes "i486" ∷ codes "i386" ∷ any ∷ []
    else if bytes_eq m (codes "i486") then codes "i486" ∷ codes "i386" ∷ any ∷ []
    else m ∷ any ∷ []

-- the rank of an operating system, and of a machine, for a policy, where it is run
unfoldable pub os_place : Policy → List ℕ → Option ℕ
os_place p os = place os (os_list p.os)

unfoldable pub machine_place : Policy → List ℕ → Option ℕ
machine_place p m = place m (machine_list p.machine)

-- whether a platform is run
abbrev pub is_run : Policy → Arch → Bool
is_run p a = is_some (os_place p a.os) && is_some (machine_place p a.machine)

-- the bit group of a machine
unfoldable pub group_of : List ℕ → Width
group_of m =
    if listed m (codes "x86_64" ∷ codes "aarch64" ∷ codes "ppc64" ∷ []) then Bits64
    else if listed m (any ∷ codes "src" ∷ []) then Any
    else Bits32

-- what is asked holds, or nothing is asked
abbrev pub holds_where_asked : {X : Type 0} → (X → Bool) → Option X → Bool
holds_where_asked test None = true
holds_where_asked test (Some x) = test x

-- whether a condition holds: its operating system is run, and its use is among the policy's
unfoldable pub is_active : Policy → Condition → Bool
is_active p c = holds_where_asked (λ os. is_some (os_place p os)) c.os && holds_where_asked (λ w. listed w p.uses) c.wanted
