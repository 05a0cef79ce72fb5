-- An answer of the store lasts through all that comes later.
use Rattle.std.specs.Prelude.{◌≡◌, ℕ, true, List, Some}
use Rattle.zi_shelf.specs.Names.{Name}
use Rattle.zi_shelf.specs.Shelved.{Top}
use Rattle.zi_session.specs.Machine.{Rules, World, Event, Runs}
use Rattle.zi_session.specs.Law.{IsStart, HasAdded}
use Rattle.zi_session.specs.StoreRules.{rules}

-- Once an adder has answered Stored or Present for a name, it has that answer after every list of later events, crashes among them,
-- and under the name stands the entry that stood there at the answer: a tree of that digest, with the mark.
abbrev pub Lasts : {T W : Type 0} → Rules T W → Type 0
Lasts {T} r = (start w new : World T) (before after : List (Event T)) (i : ℕ) (name : Name)
    → IsStart r start → Runs r start before w → HasAdded w i name → Runs r w after new
    → HasAdded new i name
    × ((e : Top T) × (w.shelf.tops name ≡ Some e) × (new.shelf.tops name ≡ Some e) × r.is_named e.tree name × (e.settled ≡ true))

-- the same of the store
abbrev pub AnswersLast : Type 0
AnswersLast = Lasts rules
