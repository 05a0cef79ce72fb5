-- What the tables find, as selections and their commands are added.
use Rattle.std.proofs.Common.{◌≡◌, ℕ, suc, ◌+◌, ◌<◌, ◌≤◌, Bool, true, false, cond, ◌&&◌, ◌||◌, List, [], ◌∷◌, ◌++◌, length, take, drop, get_or, map, drop-cons, add-one, refl, sym, ap, ◌∙◌, subst, Option, Some, None, option_map, bytes_eq}
use Rattle.std.specs.Option.{option_or, is_some}
use Rattle.std.specs.Borrow.{Bor}
use Rattle.std.specs.Map.{lookup}
use Rattle.std.proofs.lemmas.List.{take_more, take_all, drop_all, map-append}
use Rattle.zi_text.proofs.ListLaws.{option_or-none}
use Rattle.zi_parts.specs.declared.types.Command.{Command}
use Rattle.zi_plan.specs.declared.placing.InFolder.{InFolder}
use Rattle.zi_plan.specs.declared.table.Wanted.{Wanted}
use Rattle.zi_plan.specs.Placed.{Placed, placed_for}
use Rattle.zi_plan.specs.Chain.{Asked, command_of}
use Rattle.zi_plan.specs.Steps.{placed_seen, selected_in, commands_in, FindsSelected, FindsCommands, those_of, command_in, command_for, AddsCommands, AddsPlaced, AddsUnless}
use Rattle.zi_xml.proofs.Backward.{same_list}
use Rattle.zi_version.proofs.VersionBytes.{some-map}

-- one command is put before others of its interface
pub put_before : {X : Type 0} (a b : Bool) (c : X) (r o : Option X) → cond (a && b) (Some c) (option_or (cond a r None) o) ≡ option_or (cond a (cond b (Some c) r) None) o
put_before true true c r o = refl
put_before true false c r o = refl
put_before false b c r o = refl

pub map_cond : {X Y : Type 0} (f : X → Y) (b : Bool) (x : X) (o : Option X) → option_map f (cond b (Some x) o) ≡ cond b (Some (f x)) (option_map f o)
map_cond f true x o = refl
map_cond f false x o = refl

-- a text and a command as they are lent
abbrev pub lent : List ℕ → Bor (List ℕ)
lent text = record { ref_ptr = (0, 0); now = text }

abbrev pub wanted_for : Asked → Wanted
wanted_for asked = record { interface = lent asked.interface; command = lent asked.command }

-- What the maps find by what is lent.
abbrev in_texts : List ℕ → List (Bor (List ℕ) × InFolder) → Option InFolder
in_texts text selected = lookup (λ (k : Bor (List ℕ)). bytes_eq text k.now) selected

abbrev in_names : Wanted → List (Wanted × Bor Command) → Option (Bor Command)
in_names q commands = lookup (λ (k : Wanted). bytes_eq q.interface.now k.interface.now && bytes_eq q.command.now k.command.now) commands

pub has_selected : (text i : List ℕ) (selected : List (Bor (List ℕ) × InFolder)) (b : Bool) → text ≡ i → b ≡ is_some (in_texts text selected) → is_some (selected_in selected i) ≡ b
has_selected text i selected b t e = some-map placed_seen (in_texts i selected) ∙ ap (λ u. is_some (in_texts u selected)) (sym t) ∙ sym e

pub puts_selected : (text : Bor (List ℕ)) (x : InFolder) (old new : List (Bor (List ℕ) × InFolder)) → text.now ≡ x.selection.now.interface
    → ((q : Bor (List ℕ)) → in_texts q.now new ≡ cond (bytes_eq text.now q.now) (Some x) (in_texts q.now old))
    → (interface : List ℕ) → selected_in new interface ≡ cond (bytes_eq x.selection.now.interface interface) (Some (placed_seen x)) (selected_in old interface)
puts_selected text x old new t u interface =
    ap (option_map placed_seen) (u (lent interface)) ∙ map_cond placed_seen (bytes_eq text.now interface) x (in_texts interface old)
    ∙ ap (λ v. cond (bytes_eq v interface) (Some (placed_seen x)) (selected_in old interface)) t

pub puts_command : (w : Wanted) (c : Bor Command) (old new : List (Wanted × Bor Command))
    → ((q : Wanted) → in_names q new ≡ cond (bytes_eq w.interface.now q.interface.now && bytes_eq w.command.now q.command.now) (Some c) (in_names q old))
    → (asked : Asked) → commands_in new asked ≡ cond (bytes_eq w.interface.now asked.interface && bytes_eq w.command.now asked.command) (Some c.now) (commands_in old asked)
puts_command w c old new u asked =
    ap (option_map (λ (r : Bor Command). r.now)) (u (wanted_for asked))
    ∙ map_cond (λ (r : Bor Command). r.now) (bytes_eq w.interface.now asked.interface && bytes_eq w.command.now asked.command) c (in_names (wanted_for asked) old)

-- one selection more
abbrev last_found : (p : Placed) (interface : List ℕ) → Option Placed
last_found p interface = cond (bytes_eq p.selection.interface interface) (Some p) None

found_more : (ps : List Placed) (p : Placed) (interface : List ℕ) → placed_for (ps ++ p ∷ []) interface ≡ option_or (placed_for ps interface) (last_found p interface)
found_more [] p interface = refl
found_more (x ∷ ps) p interface = by_test (bytes_eq x.selection.interface interface) (found_more ps p interface)
  where
    by_test : (b : Bool) → placed_for (ps ++ p ∷ []) interface ≡ option_or (placed_for ps interface) (cond (bytes_eq p.selection.interface interface) (Some p) None)
        → cond b (Some x) (placed_for (ps ++ p ∷ []) interface) ≡ option_or (cond b (Some x) (placed_for ps interface)) (cond (bytes_eq p.selection.interface interface) (Some p) None)
    by_test true h = refl
    by_test false h = h

abbrev Selected : Type 0
Selected = List (Bor (List ℕ) × InFolder)

abbrev Commands : Type 0
Commands = List (Wanted × Bor Command)

-- the interface has a selection already
module _ (ps : List Placed) (p q : Placed) (there : placed_for ps p.selection.interface ≡ Some q) where
  found_before : (interface : List ℕ) → placed_for (ps ++ p ∷ []) interface ≡ placed_for ps interface
  found_before interface = found_more ps p interface ∙ by_test (bytes_eq p.selection.interface interface) refl
    where
      by_test : (b : Bool) → b ≡ bytes_eq p.selection.interface interface → option_or (placed_for ps interface) (cond b (Some p) None) ≡ placed_for ps interface
      by_test true e =
          let some : placed_for ps interface ≡ Some q = ap (placed_for ps) (sym (same_list p.selection.interface interface (sym e))) ∙ there in
          ap (λ o. option_or o (Some p)) some ∙ sym some
      by_test false e = option_or-none (placed_for ps interface)

  pub stays_found : (selected : Selected) (commands : Commands) → FindsSelected ps selected → FindsCommands ps commands → FindsSelected (ps ++ p ∷ []) selected × FindsCommands (ps ++ p ∷ []) commands
  stays_found selected commands h k =
      ((λ interface. h interface ∙ sym (found_before interface)), (λ asked. k asked ∙ ap (command_in asked) (sym (found_before asked.interface))))

-- the interface has none yet
module _ (ps : List Placed) (p : Placed) (absent : placed_for ps p.selection.interface ≡ None) where
  found_now : (interface : List ℕ) (b : Bool) → b ≡ bytes_eq p.selection.interface interface → placed_for (ps ++ p ∷ []) interface ≡ cond b (Some p) (placed_for ps interface)
  found_now interface true e =
      let none : placed_for ps interface ≡ None = ap (placed_for ps) (sym (same_list p.selection.interface interface (sym e))) ∙ absent in
      found_more ps p interface ∙ ap (λ b. option_or (placed_for ps interface) (cond b (Some p) None)) (sym e) ∙ ap (λ o. option_or o (Some p)) none
  found_now interface false e = found_more ps p interface ∙ ap (λ b. option_or (placed_for ps interface) (cond b (Some p) None)) (sym e) ∙ option_or-none (placed_for ps interface)

  pub now_found : (selected new_selected : Selected) (commands new_commands : Commands) → FindsSelected ps selected → FindsCommands ps commands
      → ((interface : List ℕ) → selected_in new_selected interface ≡ cond (bytes_eq p.selection.interface interface) (Some p) (selected_in selected interface))
      → AddsCommands p.selection.interface p.selection.commands commands new_commands → FindsSelected (ps ++ p ∷ []) new_selected × FindsCommands (ps ++ p ∷ []) new_commands
  now_found selected new_selected commands new_commands h k s c = (
    (λ interface. s interface ∙ ap (cond (bytes_eq p.selection.interface interface) (Some p)) (h interface) ∙ sym (found_now interface (bytes_eq p.selection.interface interface) refl)),
    (λ asked. c asked ∙ ap (option_or (those_of p.selection.interface p.selection.commands asked)) (k asked) ∙ by_test asked (bytes_eq p.selection.interface asked.interface) refl),
  )
    where
      by_test : (asked : Asked) (b : Bool) → b ≡ bytes_eq p.selection.interface asked.interface
          → option_or (cond b (command_of p.selection.commands asked.command) None) (command_for ps asked) ≡ command_in asked (placed_for (ps ++ p ∷ []) asked.interface)
      by_test asked true e =
          let none : placed_for ps asked.interface ≡ None = ap (placed_for ps) (sym (same_list p.selection.interface asked.interface (sym e))) ∙ absent in
          ap (λ o. option_or (command_of p.selection.commands asked.command) (command_in asked o)) none ∙ option_or-none (command_of p.selection.commands asked.command)
          ∙ ap (command_in asked) (sym (found_now asked.interface true e))
      by_test asked false e = ap (command_in asked) (sym (found_now asked.interface false e))

-- a selection is added, or its interface has one
pub adds_found : (p : Placed) (selected : Selected) (commands : Commands) → is_some (selected_in selected p.selection.interface) ≡ true → AddsPlaced p selected commands selected commands
adds_found p selected commands e = subst (λ b. AddsUnless b p selected commands selected commands) (sym e) (refl, refl)

pub adds_new : (p : Placed) (selected new_selected : Selected) (commands new_commands : Commands) → is_some (selected_in selected p.selection.interface) ≡ false
    → ((interface : List ℕ) → selected_in new_selected interface ≡ cond (bytes_eq p.selection.interface interface) (Some p) (selected_in selected interface))
    → AddsCommands p.selection.interface p.selection.commands commands new_commands → AddsPlaced p selected commands new_selected new_commands
adds_new p selected new_selected commands new_commands e f g = subst (λ b. AddsUnless b p selected commands new_selected new_commands) (sym e) (f, g)

-- what is found after a selection is added
pub finds_more : (ps : List Placed) (p : Placed) (selected new_selected : Selected) (commands new_commands : Commands) → FindsSelected ps selected × FindsCommands ps commands
    → AddsPlaced p selected commands new_selected new_commands → FindsSelected (ps ++ p ∷ []) new_selected × FindsCommands (ps ++ p ∷ []) new_commands
finds_more ps p selected new_selected commands new_commands h a = by_found (selected_in selected p.selection.interface) refl a
  where
    by_found : (o : Option Placed) → o ≡ selected_in selected p.selection.interface → AddsUnless (is_some o) p selected commands new_selected new_commands
        → FindsSelected (ps ++ p ∷ []) new_selected × FindsCommands (ps ++ p ∷ []) new_commands
    by_found (Some q) e (s, c) =
        subst (λ es. FindsSelected (ps ++ p ∷ []) es × FindsCommands (ps ++ p ∷ []) new_commands) (sym s)
        (subst (λ es. FindsSelected (ps ++ p ∷ []) selected × FindsCommands (ps ++ p ∷ []) es) (sym c)
        (stays_found ps p q (sym (h.0 p.selection.interface) ∙ sym e) selected commands h.0 h.1))
    by_found None e (s, c) = now_found ps p (sym (h.0 p.selection.interface) ∙ sym e) selected new_selected commands new_commands h.0 h.1 s c

pub finds_start : (selected : Selected) (commands : Commands) → selected ≡ [] → commands ≡ [] → FindsSelected [] selected × FindsCommands [] commands
finds_start selected commands s c =
    subst (λ es. FindsSelected [] es × FindsCommands [] commands) (sym s) (subst (λ es. FindsSelected [] [] × FindsCommands [] es) (sym c) ((λ interface. refl), (λ asked. refl)))

pub finds_next : (all : List InFolder) (n : ℕ) (x : InFolder) (selected new_selected : Selected) (commands new_commands : Commands) → n < length all → x ≡ get_or all n x
    → FindsSelected (map placed_seen (take n all)) selected × FindsCommands (map placed_seen (take n all)) commands → AddsPlaced (placed_seen x) selected commands new_selected new_commands
    → FindsSelected (map placed_seen (take (n + 1) all)) new_selected × FindsCommands (map placed_seen (take (n + 1) all)) new_commands
finds_next all n x selected new_selected commands new_commands within at h a =
    subst (λ ps. FindsSelected ps new_selected × FindsCommands ps new_commands) (sym more) (finds_more (map placed_seen (take n all)) (placed_seen x) selected new_selected commands new_commands h a)
  where
    more : map placed_seen (take (n + 1) all) ≡ map placed_seen (take n all) ++ placed_seen x ∷ []
    more = ap (map placed_seen) (take_more all n x within ∙ ap (λ v. take n all ++ v ∷ []) (sym at)) ∙ map-append placed_seen (take n all) (x ∷ [])

pub finds_all : (all : List InFolder) (n : ℕ) (selected : Selected) (commands : Commands) → length all ≤ n → FindsSelected (map placed_seen (take n all)) selected × FindsCommands (map placed_seen (take n all)) commands
    → FindsSelected (map placed_seen all) selected × FindsCommands (map placed_seen all) commands
finds_all all n selected commands le h = subst (λ xs. FindsSelected (map placed_seen xs) selected × FindsCommands (map placed_seen xs) commands) (take_all n all le) h

-- the commands of an interface, the last ones of which are put already
pub commands_more : (interface : List ℕ) (commands : List Command) (n m : ℕ) (c : Command) (name : List ℕ) (base old new : Commands) → m ≡ n + 1 → n < length commands → c ≡ get_or commands n c → name ≡ c.name
    → AddsCommands interface (drop m commands) base old
    → ((asked : Asked) → commands_in new asked ≡ cond (bytes_eq interface asked.interface && bytes_eq name asked.command) (Some c) (commands_in old asked)) → AddsCommands interface (drop n commands) base new
commands_more interface commands n m c name base old new next within at is h u = λ asked.
    u asked ∙ ap (λ t. cond (bytes_eq interface asked.interface && bytes_eq t asked.command) (Some c) (commands_in old asked)) is
    ∙ ap (cond (bytes_eq interface asked.interface && bytes_eq c.name asked.command) (Some c)) (h asked)
    ∙ put_before (bytes_eq interface asked.interface) (bytes_eq c.name asked.command) c (command_of (drop m commands) asked.command) (commands_in base asked)
    ∙ ap (λ cs. option_or (those_of interface cs asked) (commands_in base asked)) (sym rest)
  where
    rest : drop n commands ≡ c ∷ drop m commands
    rest = drop-cons commands n c within ∙ ap (λ y. y ∷ drop (suc n) commands) (sym at) ∙ ap (λ k. c ∷ drop k commands) (sym (add-one n) ∙ sym next)

pub commands_start : (interface : List ℕ) (commands : List Command) (n : ℕ) (base : Commands) → length commands ≤ n → AddsCommands interface (drop n commands) base base
commands_start interface commands n base le = λ asked. sym (ap (λ cs. option_or (those_of interface cs asked) (commands_in base asked)) (drop_all n commands le) ∙ none_of (bytes_eq interface asked.interface) (commands_in base asked))
  where
    none_of : {X : Type 0} (b : Bool) (o : Option X) → option_or (cond b None None) o ≡ o
    none_of true o = refl
    none_of false o = refl
