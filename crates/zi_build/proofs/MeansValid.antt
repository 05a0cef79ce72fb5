-- Where the constraints' families hold, a choice of true candidates that has every true one on its walk, and only what its
-- walk comes to, is valid.
use Rattle.std.proofs.Common.{◌≡◌, ℕ, ◌==◌, Bool, true, false, ◌&&◌, List, [], ◌∷◌, length, refl, sym, ap, ◌∙◌, subst, Option, Some, None, inl, inr}
use Rattle.std.specs.Prelude.{slice_get, All, IsSome, IfSome, IsSomeAnd, option_and_then, bytes_eq, if◌then◌else◌}
use Rattle.std.specs.Cmp.Lexicographic.{bytes_decides}
use Rattle.std.proofs.lemmas.Bool.{false≢true, and_from, both_ways}
use Rattle.std.proofs.lemmas.Option.{slice_get_within}
use Rattle.std.proofs.lemmas.List.Elements.{All-nil, All-cons}
use Rattle.std.proofs.lemmas.Map.Keys.{any_passes_from_place}
use Rattle.zi_parts.specs.declared.types.Dep.{Dep}
use Rattle.zi_parts.specs.declared.types.DepKind.{DepKind}
use Rattle.zi_parts.specs.declared.types.DepKind.TheVariants.{Essential, Recommended, Restricts}
use Rattle.zi_parts.specs.declared.types.Command.{Command}
use Rattle.zi_universe.specs.declared.types.Requirement.{Requirement}
use Rattle.zi_universe.specs.declared.types.Candidate.{Candidate}
use Rattle.zi_universe.specs.declared.types.Interface.{Interface}
use Rattle.zi_universe.specs.Candidates.{asks, kind_asks}
use Rattle.zi_choice.specs.Choice.{Choice, pick, candidate_at, chosen, number, command_of, command_at, deps_of, needs_of, command_place}
use Rattle.zi_choice.specs.Walk.{Use, Walk, Walks, is_listed, is_used, leads_to, wanted}
use Rattle.zi_choice.specs.Valid.{Has, Suits, IsMet, AreMet, IsValid, target}
use Rattle.zi_choice.proofs.WalkLaws.{one_value}
use Rattle.zi_choice.specs.Vars.{Var, Cand, Cmd, Wide, candidates_of}
use Rattle.zi_build.specs.Clauses.{is_admitted, named_by}
use Rattle.zi_choice.proofs.Base.{all_from, if_some_from, candidate_is, chosen_is, chosen_from, Stands, stands_at, found_of}
use Rattle.zi_choice.proofs.WalkFacts.{is_on, on_is, Item, Visit, Need, has, IsThere, LeadsBy, Leads, deps_after, after, closed, root_listed, spread}
use Rattle.zi_choice.proofs.ThereLaws.{In}
use Rattle.zi_build.proofs.Meaning.{IsAt, UsesOne, Uses, HasOne, DepMeans, AllMean, Means}
use Rattle.zi_xml.proofs.CharLemmas.{same_self}
use Rattle.zi_feed.specs.IdLaws.{none_some}
use Rattle.zi_text.proofs.ListLaws.{some_is, some_of}

pub recommended_apart : ◌≡◌ {A = DepKind} Recommended Essential → ⊥
recommended_apart e = cc

pub restricts_apart : ◌≡◌ {A = DepKind} Restricts Essential → ⊥
restricts_apart e = cc

-- it chooses true candidates, and every true one where the walk comes
pub record Suited (u : List Interface) (w : Var → Bool) (s : Choice) (a : Walk) : Type 0 where
  pub sound : (i c : ℕ) → pick s i ≡ Some c → (k : Candidate) × IsAt u i c k × (w (Cand i c) ≡ true)
  pub full : (i c : ℕ) (k : Candidate) → is_listed a i ≡ true → IsAt u i c k → w (Cand i c) ≡ true → pick s i ≡ Some c

pub leads_where : (u : List Interface) (d : Dep) (j : ℕ) → asks d ≡ true → number u d.interface ≡ Some j → leads_to u d ≡ Some j
leads_where u d j a e = at (asks d) a
  where
    at : (b : Bool) → b ≡ true → (if b then number u d.interface else None) ≡ Some j
    at true f = e
    at false f = absurd (false≢true f)

pub led_where : (u : List Interface) (d : Dep) (j : ℕ) → leads_to u d ≡ Some j → (asks d ≡ true) × (number u d.interface ≡ Some j)
led_where u d j e = at (asks d) refl e
  where
    at : (b : Bool) → asks d ≡ b → (if b then number u d.interface else None) ≡ Some j → (asks d ≡ true) × (number u d.interface ≡ Some j)
    at true a f = (a, f)
    at false a f = absurd (none_some f)

pub essential_asks : (d : Dep) → d.kind ≡ Essential → asks d ≡ true
essential_asks d e = subst (λ k. kind_asks k ≡ true) (sym e) refl

pub named_all : (d : Dep) → asks d ≡ true → named_by d ≡ d.commands
named_all d a = at (asks d) a
  where
    at : (b : Bool) → b ≡ true → (if b then d.commands else []) ≡ d.commands
    at true f = refl
    at false f = absurd (false≢true f)

-- where a dependency's candidate is chosen
pub target_at : (u : List Interface) (s : Choice) (d : Dep) (j : ℕ) → number u d.interface ≡ Some j → target u s d ≡ chosen u s j
target_at u s d j n = ap (λ o. option_and_then (λ i. chosen u s i) o) n

pub target_from : (u : List Interface) (s : Choice) (d : Dep) (k : Candidate) → target u s d ≡ Some k → (j : ℕ) × (number u d.interface ≡ Some j) × (chosen u s j ≡ Some k)
target_from u s d k e = at (number u d.interface) e
  where
    at : (o : Option ℕ) → option_and_then (λ i. chosen u s i) o ≡ Some k → (j : ℕ) × (o ≡ Some j) × (chosen u s j ≡ Some k)
    at None f = absurd (none_some f)
    at (Some j) f = (j, refl, f)

-- a true candidate is admitted, whatever the kind: for an essential dependency since at most one is true
module _ (u : List Interface) (req : Requirement) (w : Var → Bool) (m : Means u req w) where
  admits_kind : (d : Dep) (j e : ℕ) (k : Candidate) (kind : DepKind) → d.kind ≡ kind → DepMeans u w d → number u d.interface ≡ Some j → IsAt u j e k → w (Cand j e) ≡ true → is_admitted d k ≡ true
  admits_kind d j e k Essential q h n at t =
      let x : HasOne u w d = h.essential q in
      let here : x.interface ≡ j = one_value n x.target in
      let x_at : IsAt u j x.candidate x.item = subst (λ i. IsAt u i x.candidate x.item) here x.there in
      let x_true : w (Cand j x.candidate) ≡ true = subst (λ i. w (Cand i x.candidate) ≡ true) here x.is_true in
      let same : x.candidate ≡ e = m.one j x.candidate e (slice_get_within (candidates_of u j) x.candidate x.item x_at) (slice_get_within (candidates_of u j) e k at) x_true t in
      subst (λ y. is_admitted d y ≡ true) (one_value at (subst (λ y. IsAt u j y x.item) same x_at)) x.admitted
  admits_kind d j e k Recommended q h n at t = h.refused (λ p. recommended_apart (sym q ∙ p)) j e k n at t
  admits_kind d j e k Restricts q h n at t = h.refused (λ p. restricts_apart (sym q ∙ p)) j e k n at t

  pub admits : (d : Dep) (j e : ℕ) (k : Candidate) → DepMeans u w d → number u d.interface ≡ Some j → IsAt u j e k → w (Cand j e) ≡ true → is_admitted d k ≡ true
  admits d j e k h n at t = admits_kind d j e k d.kind refl h n at t

has_by : (w : Var → Bool) (j e : ℕ) (k : Candidate) (name : List ℕ) (o : Option ℕ) → command_place k name ≡ o → UsesOne w j e o → Has k name
has_by w j e k name None p h = absurd h
has_by w j e k name (Some n) p h = let f = found_of k name n p in some_is (command_of k name) f.0 f.1

pub has_all_named : (w : Var → Bool) (j e : ℕ) (k : Candidate) (names : List (List ℕ)) → Uses w j e k names → All (λ name. Has k name) names
has_all_named w j e k [] h = All-nil (λ name. Has k name)
has_all_named w j e k (name ∷ names) h = All-cons (λ name. Has k name) name names (has_by w j e k name (command_place k name) refl h.0) (has_all_named w j e k names h.1)

-- the place of a command that is used has its variable true
abbrev pub IsUsedAt : List Interface → (Var → Bool) → Choice → Item → Type 0
IsUsedAt u w s (Visit i) = Unit {0}
IsUsedAt u w s (Need i name) = (c n : ℕ) (k : Candidate) → pick s i ≡ Some c → IsAt u i c k → command_place k name ≡ Some n → w (Cmd i c n) ≡ true

uses_at : (w : Var → Bool) (j e n : ℕ) (k : Candidate) (names : List (List ℕ)) (name : List ℕ) → Uses w j e k names → In name names → command_place k name ≡ Some n → w (Cmd j e n) ≡ true
uses_at w j e n k [] name h l p = absurd l
uses_at w j e n k (x ∷ names) name h (inl q) p = subst (λ o. UsesOne w j e o) (ap (λ y. command_place k y) q ∙ p) h.0
uses_at w j e n k (x ∷ names) name h (inr l) p = uses_at w j e n k names name h.1 l p

module _ (u : List Interface) (req : Requirement) (w : Var → Bool) (m : Means u req w) (s : Choice) (sound : (i c : ℕ) → pick s i ≡ Some c → (k : Candidate) × IsAt u i c k × (w (Cand i c) ≡ true)) where
  at_sound : (i c : ℕ) (k : Candidate) → pick s i ≡ Some c → IsAt u i c k → w (Cand i c) ≡ true
  at_sound i c k p at = (sound i c p).2

  led_used : (d : Dep) (z : Item) → DepMeans u w d → LeadsBy u d z → IsUsedAt u w s z
  led_used d (Visit i) h l = tt
  led_used d (Need i name) h l =
      λ c n k p at q.
      let where_to = led_where u d l.0 l.1 in
      let to_i : number u d.interface ≡ Some i = where_to.1 ∙ ap (λ x. Some x) l.2.0 in
      let t : w (Cand i c) ≡ true = at_sound i c k p at in
      uses_at w i c n k (named_by d) name (h.named i c k to_i at (admits u req w m d i c k h to_i at t) t) (subst (λ xs. In name xs) (sym (named_all d where_to.0)) l.2.1) q

  all_used : (ds : List Dep) (z : Item) → AllMean u w ds → Leads u ds z → IsUsedAt u w s z
  all_used [] z h l = absurd l
  all_used (d ∷ ds) z h (inl l) = led_used d z h.0 l
  all_used (d ∷ ds) z h (inr l) = all_used ds z h.1 l

  visit_used : (i : ℕ) (o : Option Candidate) (z : Item) → chosen u s i ≡ o → Leads u (deps_of o) z → IsUsedAt u w s z
  visit_used i None z e l = absurd l
  visit_used i (Some k) z e l =
      let c = chosen_from u s i k e in all_used k.imp.deps z ((m.each i c.0 k c.2).deps (at_sound i c.0 k c.1 c.2)) l

  need_case : (i : ℕ) (name : List ℕ) (oc : Option Candidate) (o : Option Command) (z : Item) → chosen u s i ≡ oc → option_and_then (λ c. command_of c name) oc ≡ o → IsUsedAt u w s (Need i name) → Leads u (deps_after o) z → IsUsedAt u w s z
  need_case i name oc None z e f h l = absurd l
  need_case i name None (Some x) z e f h l = absurd (none_some f)
  need_case i name (Some k) (Some x) z e f h l =
      let c = chosen_from u s i k e in
      let at : Stands k name x = stands_at k name x f in
      all_used (needs_of x) z ((m.each i c.0 k c.2).commands at.place x at.there (h c.0 at.place k c.1 c.2 at.placed)).1 l

  step_used : (x z : Item) → IsUsedAt u w s x → Leads u (after u s x) z → IsUsedAt u w s z
  step_used (Visit i) z h l = visit_used i (chosen u s i) z refl l
  step_used (Need i name) z h l = need_case i name (chosen u s i) (command_at u s i name) z refl refl h l

  root_used : (name : List ℕ) → In name (wanted req.command) → IsUsedAt u w s (Need 0 name)
  root_used name l = λ c n k p at q. uses_at w 0 c n k (wanted req.command) name (m.root_has c k at (at_sound 0 c k p at)) l q

  -- every command that is used has its variable true
  pub all_are_used : (a : Walk) → Walks u req s a → (z : Item) → has a z ≡ true → IsUsedAt u w s z
  all_are_used a k z t = spread u s (IsUsedAt u w s) step_used req a k tt root_used z t

module _ (u : List Interface) (req : Requirement) (w : Var → Bool) (m : Means u req w) (s : Choice) (a : Walk) (suited : Suited u w s a) where
  met_there : (d : Dep) (i : ℕ) → DepMeans u w d → number u d.interface ≡ Some i → ((z : Item) → LeadsBy u d z → IsThere u s z → has a z ≡ true) → d.kind ≡ Essential → IsSome (chosen u s i)
  met_there d i h n g q =
      let x : HasOne u w d = h.essential q in
      let here : x.interface ≡ i = one_value n x.target in
      let on : is_listed a i ≡ true = g (Visit i) (i, leads_where u d i (essential_asks d q) n, refl) tt in
      let x_at : IsAt u i x.candidate x.item = subst (λ j. IsAt u j x.candidate x.item) here x.there in
      some_is (chosen u s i) x.item (chosen_is u s i x.candidate x.item (suited.full i x.candidate x.item on x_at (subst (λ j. w (Cand j x.candidate) ≡ true) here x.is_true)) x_at)

  met_suits : (d : Dep) (i : ℕ) (k : Candidate) → DepMeans u w d → number u d.interface ≡ Some i → chosen u s i ≡ Some k → Suits d k
  met_suits d i k h n e =
      let c = chosen_from u s i k e in
      let t : w (Cand i c.0) ≡ true = (suited.sound i c.0 c.1).2 in
      let ok : is_admitted d k ≡ true = admits u req w m d i c.0 k h n c.2 t in
      record {
        admitted = ok;
        commands = λ q. has_all_named w i c.0 k d.commands (subst (λ xs. Uses w i c.0 k xs) (named_all d q) (h.named i c.0 k n c.2 ok t));
      }

  pub all_met : (ds : List Dep) → AllMean u w ds → ((z : Item) → Leads u ds z → IsThere u s z → has a z ≡ true) → AreMet u s ds
  all_met [] h g = All-nil (λ d. IsMet u s d)
  all_met (d ∷ ds) h g =
      All-cons (λ d. IsMet u s d) d ds
      (record {
        there = λ q. let x : HasOne u w d = h.0.essential q in
            subst (λ o. IsSome o) (sym (target_at u s d x.interface x.target)) (met_there d x.interface h.0 x.target (λ z l t. g z (inl l) t) q);
        suits = if_some_from (λ c. Suits d c) (target u s d) (λ k e. let t = target_from u s d k e in met_suits d t.0 k h.0 t.1 t.2);
      })
      (all_met ds h.1 (λ z l t. g z (inr l) t))

module _ (u : List Interface) (req : Requirement) (w : Var → Bool) (m : Means u req w) (s : Choice) (a : Walk) (k : Walks u req s a) (suited : Suited u w s a) where
  root_there : chosen u s 0 ≡ Some m.root.item
  root_there =
      chosen_is u s 0 m.root.candidate m.root.item (suited.full 0 m.root.candidate m.root.item (root_listed u req s a k) m.root.there m.root.is_true) m.root.there

  root_names : (o : Option (List ℕ)) → Uses w 0 m.root.candidate m.root.item (wanted o) → IfSome o (λ name. Has m.root.item name)
  root_names None h = tt
  root_names (Some name) h = has_by w 0 m.root.candidate m.root.item name (command_place m.root.item name) refl h.0

  is_candidate : (i c : ℕ) → pick s i ≡ Some c → IsSome (candidate_at u i c)
  is_candidate i c p = let x = suited.sound i c p in some_is (candidate_at u i c) x.0 (candidate_is u i c ∙ x.1)

  deps_met : (i : ℕ) (x : Candidate) → is_listed a i ≡ true → chosen u s i ≡ Some x → AreMet u s x.imp.deps
  deps_met i x on e =
      let c = chosen_from u s i x e in
      all_met u req w m s a suited x.imp.deps ((m.each i c.0 x c.2).deps (suited.sound i c.0 c.1).2) (λ z l t. closed u req s a k (Visit i) z on (subst (λ o. Leads u (deps_of o) z) (sym e) l) t)

  use_case : (i : ℕ) (name : List ℕ) (oc : Option Candidate) (x : Command) → chosen u s i ≡ oc → option_and_then (λ c. command_of c name) oc ≡ Some x → command_at u s i name ≡ Some x → is_used a i name ≡ true → AreMet u s (needs_of x)
  use_case i name None x e f g on = absurd (none_some f)
  use_case i name (Some y) x e f g on =
      let c = chosen_from u s i y e in
      let at : Stands y name x = stands_at y name x f in
      let t : w (Cmd i c.0 at.place) ≡ true = all_are_used u req w m s suited.sound a k (Need i name) on c.0 at.place y c.1 c.2 at.placed in
      all_met u req w m s a suited (needs_of x) ((m.each i c.0 y c.2).commands at.place x at.there t).1 (λ z l t. closed u req s a k (Need i name) z on (subst (λ o. Leads u (deps_after o) z) (sym g) l) t)

  uses_met : (n : ℕ) (x : Use) → slice_get a.used n ≡ Some x → IfSome (command_at u s x.interface x.command) (λ m. AreMet u s (needs_of m))
  uses_met n x e =
      let on : is_used a x.interface x.command ≡ true = any_passes_from_place (λ (y : Use). y.interface == x.interface && bytes_eq y.command x.command) a.used n x e (and_from (x.interface == x.interface) (bytes_eq x.command x.command) (same_self x.interface) ((bytes_decides x.command x.command).1 refl)) in
      if_some_from (λ m. AreMet u s (needs_of m)) (command_at u s x.interface x.command) (λ y g. use_case x.interface x.command (chosen u s x.interface) y refl g g on)

  pub means_valid : length s ≡ length u → ((i c : ℕ) → pick s i ≡ Some c → is_listed a i ≡ true) → IsValid u req s
  means_valid fits reached = record {
    fits = record { each = fits; there = is_candidate };
    root = subst (λ o. IsSomeAnd o (λ c. IfSome req.command (λ name. Has c name))) (sym root_there) (root_names req.command (m.root_has m.root.candidate m.root.item m.root.there m.root.is_true));
    met = λ i. if_some_from (λ c. AreMet u s c.imp.deps) (chosen u s i) (λ x e. let c = chosen_from u s i x e in deps_met i x (reached i c.0 c.1) e);
    walk = a;
    walks = k;
    used_met = all_from (λ (x : Use). IfSome (command_at u s x.interface x.command) (λ m. AreMet u s (needs_of m))) a.used uses_met;
    one_group = λ i j c d e f g h.
        let x = chosen_from u s i c e in
        let y = chosen_from u s j d f in
        both_ways (w Wide) ((m.each i x.0 c x.2).bits32 (suited.sound i x.0 x.1).2 g) ((m.each j y.0 d y.2).bits64 (suited.sound j y.0 y.1).2 h);
    exactly = λ i. ((λ h. let c = some_of (pick s i) h in is_on u req s a k i c.0 (reached i c.0 c.1) c.1), (λ h. (on_is u req s a k i h).0));
  }
