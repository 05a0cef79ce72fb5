-- The chain as it is followed.
use Rattle.std.proofs.Common.{◌≡◌, ℕ, zero, suc, ◌+◌, ◌-◌, ◌<◌, ◌≤◌, Bool, true, false, cond, ◌&&◌, ◌||◌, List, [], ◌∷◌, ◌++◌, map, length, refl, sym, ap, ◌∙◌, subst, arith, Option, Some, None, Result, Ok, Err, bytes_eq}
use Rattle.std.specs.Prelude.{slice_get}
use Rattle.std.specs.Option.{is_some}
use Rattle.zi_parts.specs.declared.types.Command.{Command}
use Rattle.zi_parts.specs.declared.types.Runner.{Runner}
use Rattle.zi_plan.specs.declared.fault.PlanFault.{PlanFault}
use Rattle.zi_plan.specs.declared.fault.PlanFault.TheVariants as fault
use Rattle.zi_plan.specs.declared.table.Wanted.{Wanted}
use Rattle.zi_plan.specs.declared.chain.Linked.{Linked}
use Rattle.zi_plan.specs.Placed.{Placed, placed_for}
use Rattle.zi_plan.specs.Chain.{Asked, Link, Leads, stops, ends, goes_on, behind, asked_by, is_met, is_same, link_at, link_of, link_in, checked_link, command_of, command_fault, no_path, last_fault}
use Rattle.zi_plan.specs.Plans.{UnlessMemory}
use Rattle.zi_plan.specs.Steps.{has, IsMetToo, command_in, command_for, link_seen}
use Rattle.zi_plan.proofs.BindingLaws.{unless_memory}
use Rattle.zi_xml.proofs.Backward.{same_list}
use Rattle.zi_text.proofs.ListLaws.{bytes_itself}

-- The command that is wanted, by its checks.
module _ (ps : List Placed) (a : Asked) (p : Placed) (c : Command) (there : placed_for ps a.interface ≡ Some p) (named : command_for ps a ≡ Some c) where
  link_checked : (o : Option PlanFault) → command_fault p.folder c ≡ o → link_of a (placed_for ps a.interface) ≡ checked_link a p c o
  link_checked o h = ap (link_of a) there ∙ ap (link_in a p) (ap (command_in a) (sym there) ∙ named) ∙ ap (checked_link a p c) h

  pub link_refused : (e : PlanFault) → UnlessMemory e (command_fault p.folder c ≡ Some e) → UnlessMemory e (link_of a (placed_for ps a.interface) ≡ Err e)
  link_refused e h = unless_memory e (λ f. link_checked (Some e) f) h

  pub link_found : command_fault p.folder c ≡ None → link_of a (placed_for ps a.interface) ≡ Ok (record { interface = a.interface; folder = p.folder; command = c })
  link_found h = link_checked None h

-- no command of a name is selected
pub link_lacks : (ps : List Placed) (a : Asked) (p : Placed) → placed_for ps a.interface ≡ Some p → command_for ps a ≡ None → link_of a (placed_for ps a.interface) ≡ Err (fault.NoCommand a.interface a.command)
link_lacks ps a p there named = ap (link_of a) there ∙ ap (link_in a p) (ap (command_in a) (sym there) ∙ named)

-- The last command of a chain.
pub last_link : (links : List Linked) (n : ℕ) (l : Linked) → suc n ≡ length links → slice_get links n ≡ Some l → last_fault (map link_seen links) ≡ no_path (link_seen l) l.command.now.path
last_link [] n l s e = absurd (omega arith)
last_link (x ∷ []) zero l s e = let is : x ≡ l = cc in ap (λ (y : Linked). no_path (link_seen y) y.command.now.path) is
last_link (x ∷ []) (suc n) l s e = absurd (omega arith)
last_link (x ∷ y ∷ xs) zero l s e = absurd (omega arith)
last_link (x ∷ y ∷ xs) (suc n) l s e = last_link (y ∷ xs) n l (omega arith) e

is_there : {X : Type 0} (xs : List X) (n : ℕ) → n < length xs → slice_get xs n ≡ None → ⊥
is_there [] n h e = omega arith
is_there (x ∷ xs) zero h e = cc
is_there (x ∷ xs) (suc n) h e = is_there xs n (omega arith) e

pub last_is : (links : List Linked) (l : Linked) → slice_get links (length links - 1) ≡ Some l → last_fault (map link_seen links) ≡ no_path (link_seen l) l.command.now.path
last_is [] l e = absurd (cc)
last_is (x ∷ xs) l e = last_link (x ∷ xs) (length (x ∷ xs) - 1) l (omega arith) e

pub last_none : (links : List Linked) → slice_get links (length links - 1) ≡ None → last_fault (map link_seen links) ≡ None
last_none [] e = refl
last_none (x ∷ xs) e = absurd (is_there (x ∷ xs) (length (x ∷ xs) - 1) (omega arith) e)

pub path_there : (l : Link) (o : Option (List ℕ)) → is_some o ≡ true → no_path l o ≡ None
path_there l None e = absurd (cc)
path_there l (Some path) e = refl

pub path_lacking : (l : Link) (o : Option (List ℕ)) (interface name : List ℕ) → interface ≡ l.interface → name ≡ l.command.name → is_some o ≡ false → no_path l o ≡ Some (fault.NoPath interface name)
path_lacking l None interface name i n e = ap (λ t. Some (fault.NoPath t l.command.name)) (sym i) ∙ ap (λ t. Some (fault.NoPath interface t)) (sym n)
path_lacking l (Some path) interface name i n e = absurd (cc)

-- The chain so far: what the rest answers is answered behind its commands.
abbrev pub append_links : List Link → Result (List Link) PlanFault → Result (List Link) PlanFault
append_links [] answer = answer
append_links (l ∷ ls) answer = behind l (append_links ls answer)

pub record IsFollowed (ps : List Placed) (from a : Asked) (keys : List Wanted) (links : List Link) : Type 0 where
  pub met : List Asked
  pub onward : (answer : Result (List Link) PlanFault) → Leads ps met a answer → Leads ps [] from (append_links links answer)
  pub known : (b : Asked) → is_met met b ≡ has keys b

append-more : (links : List Link) (l : Link) (answer : Result (List Link) PlanFault) → append_links (links ++ l ∷ []) answer ≡ append_links links (behind l answer)
append-more [] l answer = refl
append-more (k ∷ ks) l answer = ap (behind k) (append-more ks l answer)

append-end : (links : List Link) (ls : List Link) → append_links links (Ok ls) ≡ Ok (links ++ ls)
append-end [] ls = refl
append-end (k ∷ ks) ls = ap (behind k) (append-end ks ls)

append-stop : (links : List Link) (e : PlanFault) → append_links links (Err e) ≡ Err e
append-stop [] e = refl
append-stop (k ∷ ks) e = ap (behind k) (append-stop ks e)

-- before the first command
pub followed_start : (ps : List Placed) (from : Asked) (keys : List Wanted) (links : List Link) → keys ≡ [] → links ≡ [] → IsFollowed ps from from keys links
followed_start ps from keys links k l =
    subst (λ ks. IsFollowed ps from from ks links) (sym k) (subst (λ ls. IsFollowed ps from from [] ls) (sym l) (record { met = []; onward = λ answer h. h; known = λ b. refl }))

module _ (ps : List Placed) (from a : Asked) (keys : List Wanted) (links : List Link) (s : IsFollowed ps from a keys links) where
  -- a chain that stops
  pub followed_refused : (e : PlanFault) → UnlessMemory e (link_at ps (has keys a) a ≡ Err e) → UnlessMemory e (Leads ps [] from (Err e))
  followed_refused e h = unless_memory e (λ k. subst (Leads ps [] from) (append-stop links e) (s.onward (Err e) (stops (ap (λ b. link_at ps b a) (s.known a) ∙ k)))) h

  one_more : (l : Link) (r : Runner) (new : List Wanted) → link_at ps (has keys a) a ≡ Ok l → l.command.runner ≡ Some r → IsMetToo keys a new → IsFollowed ps from (asked_by r) new (links ++ l ∷ [])
  one_more l r new h e m = record {
    met = a ∷ s.met;
    onward = λ answer k. subst (Leads ps [] from) (sym (append-more links l answer)) (s.onward (behind l answer) (goes_on l r (ap (λ b. link_at ps b a) (s.known a) ∙ h) e k));
    known = λ b. ap (λ t. is_same a b || t) (s.known b) ∙ sym (m b);
  }

  -- a command that something runs
  pub followed_more : (l : Link) (r : Runner) (new : List Wanted) → link_at ps (has keys a) a ≡ Ok l → l.command.runner ≡ Some r → IsMetToo keys a new
      → (next : Asked) → next ≡ asked_by r → (more : List Link) → more ≡ links ++ l ∷ [] → IsFollowed ps from next new more
  followed_more l r new h e m next n more k =
      subst (λ b. IsFollowed ps from b new more) (sym n) (subst (λ ls. IsFollowed ps from (asked_by r) new ls) (sym k) (one_more l r new h e m))

  -- the last one
  pub followed_end : (l : Link) → link_at ps (has keys a) a ≡ Ok l → l.command.runner ≡ None → (more : List Link) → more ≡ links ++ l ∷ [] → Leads ps [] from (Ok more)
  followed_end l h e more k =
      subst (Leads ps [] from) (append-end links (l ∷ []) ∙ ap Ok (sym k)) (s.onward (Ok (l ∷ [])) (ends l (ap (λ b. link_at ps b a) (s.known a) ∙ h) e))

-- How many commands of all selections aren't met.
abbrev asked : List ℕ → List ℕ → Asked
asked interface command = record { interface = interface; command = command }

abbrev one : Bool → ℕ
one true = 0
one false = 1

abbrev unmet_of : (Asked → Bool) → List ℕ → List Command → ℕ
unmet_of met interface [] = 0
unmet_of met interface (c ∷ cs) = one (met (asked interface c.name)) + unmet_of met interface cs

abbrev pub unmet : (Asked → Bool) → List Placed → ℕ
unmet met [] = 0
unmet met (p ∷ ps) = unmet_of met p.selection.interface p.selection.commands + unmet met ps

is_same_refl : (a : Asked) → is_same a a ≡ true
is_same_refl a = ap (λ t. t && bytes_eq a.command a.command) (bytes_itself a.interface) ∙ bytes_itself a.command

module _ (old new : Asked → Bool) (a : Asked) (more : (b : Asked) → new b ≡ (is_same a b || old b)) (fresh : old a ≡ false) where
  less : (b : Asked) → one (new b) ≤ one (old b)
  less b = subst (λ t. one t ≤ one (old b)) (sym (more b)) (by_test (is_same a b) (old b))
    where
      by_test : (s o : Bool) → one (s || o) ≤ one o
      by_test true true = omega arith
      by_test true false = omega arith
      by_test false o = omega arith

  less_of : (interface : List ℕ) (cs : List Command) → unmet_of new interface cs ≤ unmet_of old interface cs
  less_of interface [] = omega arith
  less_of interface (c ∷ cs) = let head = less (asked interface c.name) in let rest = less_of interface cs in omega (arith, head, rest)

  less_all : (ps : List Placed) → unmet new ps ≤ unmet old ps
  less_all [] = omega arith
  less_all (p ∷ ps) = let head = less_of p.selection.interface p.selection.commands in let rest = less_all ps in omega (arith, head, rest)

  here : (b : Asked) → b ≡ a → one (new b) < one (old b)
  here b e =
      let is : new b ≡ true = more b ∙ ap (λ x. is_same a x || old x) e ∙ ap (λ t. t || old a) (is_same_refl a) in
      let was : old b ≡ false = ap old e ∙ fresh in
      subst (λ t. one t < one (old b)) (sym is) (subst (λ t. 0 < one t) (sym was) (omega arith))

  fewer_of : (interface : List ℕ) (cs : List Command) (c : Command) → interface ≡ a.interface → command_of cs a.command ≡ Some c → unmet_of new interface cs < unmet_of old interface cs
  fewer_of interface [] c i e = absurd (cc)
  fewer_of interface (k ∷ cs) c i e = by_test (bytes_eq k.name a.command) refl e (λ f. fewer_of interface cs c i f)
    where
      by_test : (b : Bool) → b ≡ bytes_eq k.name a.command → cond b (Some k) (command_of cs a.command) ≡ Some c
          → (command_of cs a.command ≡ Some c → unmet_of new interface cs < unmet_of old interface cs)
          → one (new (asked interface k.name)) + unmet_of new interface cs < one (old (asked interface k.name)) + unmet_of old interface cs
      by_test true t f later =
          let head = here (asked interface k.name) (ap (λ x. asked x k.name) i ∙ ap (asked a.interface) (same_list k.name a.command (sym t))) in
          let rest = less_of interface cs in omega (arith, head, rest)
      by_test false t f later = let head = less (asked interface k.name) in let rest = later f in omega (arith, head, rest)

  fewer_all : (ps : List Placed) (p : Placed) (c : Command) → placed_for ps a.interface ≡ Some p → command_of p.selection.commands a.command ≡ Some c → unmet new ps < unmet old ps
  fewer_all [] p c e k = absurd (cc)
  fewer_all (x ∷ ps) p c e k = by_test (bytes_eq x.selection.interface a.interface) refl e (λ f. fewer_all ps p c f k)
    where
      by_test : (b : Bool) → b ≡ bytes_eq x.selection.interface a.interface → cond b (Some x) (placed_for ps a.interface) ≡ Some p
          → (placed_for ps a.interface ≡ Some p → unmet new ps < unmet old ps)
          → unmet_of new x.selection.interface x.selection.commands + unmet new ps < unmet_of old x.selection.interface x.selection.commands + unmet old ps
      by_test true t f later =
          let is : x ≡ p = cc in
          let head = fewer_of x.selection.interface x.selection.commands c (same_list x.selection.interface a.interface (sym t)) (ap (λ (y : Placed). command_of y.selection.commands a.command) is ∙ k) in
          let rest = less_all ps in omega (arith, head, rest)
      by_test false t f later = let head = less_of x.selection.interface x.selection.commands in let rest = later f in omega (arith, head, rest)

-- a command that is found is there
pub fewer : (ps : List Placed) (a : Asked) (l : Link) (keys new : List Wanted) → link_at ps (has keys a) a ≡ Ok l → IsMetToo keys a new → unmet (has new) ps < unmet (has keys) ps
fewer ps a l keys new h m = by_met (has keys a) refl h
  where
    by_command : has keys a ≡ false → (p : Placed) (o : Option Command) → placed_for ps a.interface ≡ Some p → o ≡ command_of p.selection.commands a.command → link_in a p o ≡ Ok l → unmet (has new) ps < unmet (has keys) ps
    by_command f p None e c k = absurd (cc)
    by_command f p (Some x) e c k = fewer_all (has keys) (has new) a m f ps p x e (sym c)

    by_placed : has keys a ≡ false → (o : Option Placed) → o ≡ placed_for ps a.interface → link_of a o ≡ Ok l → unmet (has new) ps < unmet (has keys) ps
    by_placed f None e k = absurd (cc)
    by_placed f (Some p) e k = by_command f p (command_of p.selection.commands a.command) (sym e) refl k

    by_met : (b : Bool) → b ≡ has keys a → link_at ps b a ≡ Ok l → unmet (has new) ps < unmet (has keys) ps
    by_met true e k = absurd (cc)
    by_met false e k = by_placed (sym e) (placed_for ps a.interface) refl k
