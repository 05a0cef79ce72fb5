-- What the arguments of a command stand for (the Zero Install feed format, "Commands": `arg` and `for-each`).
use Rattle.std.specs.Prelude.{ℕ, zero, suc, Bool, false, ◌&&◌, ◌||◌, ◌+◌, ◌-◌, ◌==◌, List, [], ◌∷◌, ◌++◌, length, take, drop, Option, Some, None, Result, Ok, Err, codes, bytes_eq, nat_eq, if◌then◌else◌}
use Rattle.std.specs.List.{list_all, list_any, slice_split, prefix_len, before_first, after_first, onto_first, starts_with}
use Rattle.std.specs.Char.{is_ascii_alphabetic, is_ascii_alphanumeric}
use Rattle.zi_parts.specs.declared.types.Word.{Word}
use Rattle.zi_parts.specs.declared.types.Word.TheVariants.{Arg, ForEach}
use Rattle.zi_bind.specs.declared.fault.BindFault.{BindFault}
use Rattle.zi_bind.specs.declared.fault.BindFault.TheVariants.{Unset, BadDollar}

-- the value of each variable, where it is set
abbrev pub Values : Type 0
Values = List ℕ → Option (List ℕ)

-- the same, and this item of a `for-each` under the name `item`
abbrev pub with_item : Option (List ℕ) → Values → Values
with_item None values = values
with_item (Some item) values = λ name. if bytes_eq name (codes "item") then Some item else values name

-- Names: a letter of ASCII or `_`, and then letters, digits and `_`.
unfoldable pub goes_on : ℕ → Bool
goes_on c = is_ascii_alphanumeric c || c == 95

unfoldable pub begins : ℕ → Bool
begins c = is_ascii_alphabetic c || c == 95

unfoldable pub is_variable : List ℕ → Bool
is_variable [] = false
is_variable (c ∷ cs) = begins c && list_all goes_on cs

abbrev pub is_close : ℕ → Bool
is_close c = c == 125

-- a name, and the text behind it; none where it is no name
abbrev pub named : List ℕ → List ℕ → Option (List ℕ × List ℕ)
named name rest = if is_variable name then Some (name, rest) else None

-- a name up to a closing brace
unfoldable pub braced : List ℕ → Option (List ℕ × List ℕ)
braced text = if list_any is_close text then named (before_first is_close text) (after_first is_close text) else None

-- the longest front of which a name may consist
unfoldable pub bare : List ℕ → Option (List ℕ × List ℕ)
bare text = named (take (prefix_len goes_on text) text) (drop (prefix_len goes_on text) text)

-- the name that a dollar before this text refers to, and the text behind that: `{name}`, or a name
unfoldable pub reference : List ℕ → Option (List ℕ × List ℕ)
reference [] = None
reference (x ∷ xs) = if x == 123 then braced xs else bare (x ∷ xs)

-- the value of a name with a text behind it
abbrev pub valued : List ℕ → List ℕ → Option (List ℕ) → Result (List ℕ) BindFault
valued name rest None = Err (Unset name)
valued name rest (Some value) = Ok (value ++ rest)

-- what a dollar at a place and the text behind it, up to the next dollar, stand for
abbrev pub referred_by : Values → ℕ → Option (List ℕ × List ℕ) → Result (List ℕ) BindFault
referred_by values place None = Err (BadDollar place)
referred_by values place (Some found) = valued found.0 found.1 (values found.0)

abbrev pub referred : Values → ℕ → List ℕ → Result (List ℕ) BindFault
referred values place text = referred_by values place (reference text)

-- one text behind another, or the first fault
abbrev pub both : Result (List ℕ) BindFault → Result (List ℕ) BindFault → Result (List ℕ) BindFault
both (Err fault) next = Err fault
both (Ok text) (Err fault) = Err fault
both (Ok text) (Ok more) = Ok (text ++ more)

-- What the pieces of a text behind its dollars stand for, the first of which is at this place. A dollar behind a dollar is one,
-- and the piece behind it stands as it is.
abbrev pub behind_dollars : Values → ℕ → List (List ℕ) → Result (List ℕ) BindFault
behind_dollars values place [] = Ok []
behind_dollars values place (p ∷ []) = referred values place p
behind_dollars values place ([] ∷ q ∷ ps) = both (Ok (36 ∷ q)) (behind_dollars values (place + 2 + length q) ps)
behind_dollars values place ((c ∷ p) ∷ q ∷ ps) = both (referred values place (c ∷ p)) (behind_dollars values (place + 1 + length (c ∷ p)) (q ∷ ps))

abbrev pub is_dollar : ℕ → Bool
is_dollar c = c == 36

-- the first piece stands as it is
abbrev pub in_pieces : Values → List (List ℕ) → Result (List ℕ) BindFault
in_pieces values [] = Ok []
in_pieces values (p ∷ ps) = both (Ok p) (behind_dollars values (length p) ps)

-- what an argument stands for
unfoldable pub expanded_text : Values → List ℕ → Result (List ℕ) BindFault
expanded_text values text = in_pieces values (slice_split is_dollar text)

-- a list behind another, or the first fault
abbrev pub all_both : Result (List (List ℕ)) BindFault → Result (List (List ℕ)) BindFault → Result (List (List ℕ)) BindFault
all_both (Err fault) next = Err fault
all_both (Ok texts) (Err fault) = Err fault
all_both (Ok texts) (Ok more) = Ok (texts ++ more)

abbrev pub alone : Result (List ℕ) BindFault → Result (List (List ℕ)) BindFault
alone (Err fault) = Err fault
alone (Ok text) = Ok (text ∷ [])

-- what each of a list means, one after another, or the first fault
abbrev pub each_of : {X : Type 0} → (X → Result (List (List ℕ)) BindFault) → List X → Result (List (List ℕ)) BindFault
each_of meaning [] = Ok []
each_of meaning (x ∷ xs) = all_both (meaning x) (each_of meaning xs)

-- what arguments stand for, one after another
abbrev pub expanded_texts : Values → List (List ℕ) → Result (List (List ℕ)) BindFault
expanded_texts values args = each_of (λ arg. alone (expanded_text values arg)) args

-- the arguments once for each item
abbrev pub for_items : Values → List (List ℕ) → List (List ℕ) → Result (List (List ℕ)) BindFault
for_items values args items = each_of (λ item. expanded_texts (with_item (Some item) values) args) items

-- a text cut at each separator from the left, once so many bytes, which belong to a separator, are left out
abbrev pub cut_past : ℕ → List ℕ → List ℕ → List (List ℕ)
cut_past n separator [] = [] ∷ []
cut_past (suc n) separator (x ∷ xs) = cut_past n separator xs
cut_past zero separator (x ∷ xs) =
    if starts_with nat_eq (x ∷ xs) separator then [] ∷ cut_past (length separator - 1) separator xs
    else onto_first x (cut_past zero separator xs)

-- the items of a text; an empty separator cuts nothing
unfoldable pub items_of : List ℕ → List ℕ → List (List ℕ)
items_of separator text = if length separator == 0 then text ∷ [] else cut_past 0 separator text

-- the items of a variable: one that isn't set has none
abbrev pub items_in : List ℕ → Option (List ℕ) → List (List ℕ)
items_in separator None = []
items_in separator (Some text) = items_of separator text

-- what a word of a command stands for
unfoldable pub expanded : Values → Word → Result (List (List ℕ)) BindFault
expanded values (Arg text) = alone (expanded_text values text)
expanded values (ForEach item_from separator args) = for_items values args (items_in separator (values item_from))

-- the bytes of texts, with one more for each
abbrev pub room : List (List ℕ) → ℕ
room [] = 0
room (t ∷ ts) = length t + 1 + room ts
