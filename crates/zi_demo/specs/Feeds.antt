-- The feeds of the demonstration: what stands in each, and under which address its text is held.
use Rattle.std.specs.Prelude.{◌≡◌, ℕ, zero, suc, ◌+◌, ◌-◌, List, [], ◌∷◌, ◌++◌, map, codes, decimal, bytes_eq, Option, Some, None, if◌then◌else◌}
use Rattle.zi_elements.specs.Forest.{Forest, none, Elem}
use Rattle.zi_elements.specs.Namespace.{injector}
use Rattle.zi_docout.specs.Canonical.{document}
use Rattle.zi_docout.specs.Elements.{attr, nodes, elem}
use Rattle.zi_outside.specs.Views.{Holding}

-- the address of an interface
abbrev pub address : List ℕ → List ℕ
address name = codes "/demo/" ++ name ++ codes ".xml"

-- Elements.

-- that an interface is needed
unfoldable pub requires_elem : List ℕ → Elem
requires_elem name = elem (codes "requires") (attr (codes "interface") (address name) ∷ []) []

-- that an interface is to have one of these versions
unfoldable pub restricts_elem : List ℕ → List ℕ → Elem
restricts_elem range name = elem (codes "restricts") (attr (codes "interface") (address name) ∷ attr (codes "version") range ∷ []) []

-- a version, a whole number, and what stands in it
unfoldable pub version : ℕ → Forest → Elem
version number inside = record {
  space = injector;
  name = codes "implementation";
  attrs = attr (codes "id") (codes "v" ++ decimal number) ∷ attr (codes "version") (decimal number) ∷ attr (codes "local-path") (codes ".") ∷ [];
  inside = inside;
  place = 0;
}

abbrev pub restricting : List ℕ → List (List ℕ) → Forest
restricting range others = nodes (map (restricts_elem range) others)

-- Feeds.

-- an interface by its name, and its versions, the greatest first
pub record Feed : Type 0 where
  pub name : List ℕ
  pub versions : List Elem

-- versions 2 and 1; with 2 each of the others is to be 2 or more
abbrev pub two_versions : List (List ℕ) → List Elem
two_versions others = version 2 (restricting (codes "2..") others) ∷ version 1 none ∷ []

-- versions 3, 2 and 1; none of the others is to have the same where that is 3 or 2
abbrev pub three_versions : List (List ℕ) → List Elem
three_versions others = version 3 (restricting (codes "!3") others) ∷ version 2 (restricting (codes "!2") others) ∷ version 1 none ∷ []

abbrev pub two : List ℕ → List (List ℕ) → Feed
two name others = record { name = name; versions = two_versions others }

abbrev pub three : List ℕ → List (List ℕ) → Feed
three name others = record { name = name; versions = three_versions others }

-- so many numbers from k on
abbrev pub numbers : ℕ → ℕ → List ℕ
numbers k zero = []
numbers k (suc m) = k ∷ numbers (k + 1) m

abbrev pub numbered : ℕ → List ℕ
numbered i = codes "a" ++ decimal i

abbrev pub p_q_r : List (List ℕ)
p_q_r = codes "p" ∷ codes "q" ∷ codes "r" ∷ []

-- version 1 of the root needs a1 to an, then p, q and r
unfoldable pub needs : ℕ → List Elem
needs n = map requires_elem (map numbered (numbers 1 n) ++ p_q_r)

abbrev pub root : ℕ → Feed
root n = record { name = codes "root"; versions = version 1 (nodes (needs n)) ∷ [] }

-- the a's from a number on, which say nothing of others
abbrev pub later_ones : ℕ → ℕ → List Feed
later_ones k m = map (λ i. two (numbered i) []) (numbers k m)

abbrev pub last_three : List Feed
last_three = three (codes "p") (codes "q" ∷ codes "r" ∷ []) ∷ three (codes "q") (codes "r" ∷ []) ∷ three (codes "r") [] ∷ []

-- Of n and four feeds: with a1 at 2 the last three would need three different versions out of 2 and 3.
unfoldable pub feeds : ℕ → List Feed
feeds n = root n ∷ two (numbered 1) p_q_r ∷ (later_ones 2 (n - 1) ++ last_three)

-- an interface, and its versions as nodes
unfoldable pub interface : Forest → Elem
interface versions = record { space = injector; name = codes "interface"; attrs = []; inside = versions; place = 0 }

-- the canonical text of a feed
unfoldable pub text_of : Feed → List ℕ
text_of feed = document (interface (nodes feed.versions))

-- what is held under an address
abbrev pub under : List Feed → List ℕ → Option (List ℕ)
under [] key = None
under (f ∷ fs) key = if bytes_eq (address f.name) key then Some (text_of f) else under fs key

-- these feeds are held, each under its address, and nothing else
abbrev pub Holds : List Feed → Holding → Type 0
Holds fs holding = (key : List ℕ) → holding key ≡ under fs key
