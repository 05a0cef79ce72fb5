-- The first reason that holds, from the tests one after another.
use Rattle.std.proofs.Common.{◌≡◌, ℕ, List, ◌++◌, map, sym, ap, ◌∙◌, Bor, Option, Some, None}
use Rattle.std.specs.Prelude.{find, option_map, option_copied}
use Rattle.std.specs.List.{flat_map}
use Rattle.std.proofs.lemmas.Option.{same_Some}
use Rattle.zi_parts.specs.declared.types.Dep.{Dep}
use Rattle.zi_policy.specs.declared.types.Width.{Width}
use Rattle.zi_universe.specs.declared.types.Requirement.{Requirement}
use Rattle.zi_universe.specs.declared.types.Candidate.{Candidate}
use Rattle.zi_universe.specs.declared.types.Interface.{Interface}
use Rattle.zi_choice.specs.Choice.{Choice}
use Rattle.zi_choice.specs.Valid.{group}
use Rattle.zi_choice.specs.declared.traced.Stop.{Stop}
use Rattle.zi_choice.specs.Stops.{interface_of}
use Rattle.zi_why.specs.declared.known.Owned.{Owned as CodeOwned}
use Rattle.zi_why.specs.declared.known.Known.{Known}
use Rattle.zi_why.specs.Known.{as_owned, owner_of, other_of, KnowsOf}
use Rattle.zi_why.proofs.KnownLaws.{other_found}
use Rattle.zi_why.specs.Reasons.{Owned, bearing, refuses, refusing, lacks, of_root, named_of, lacking, of_other_bits, against, missing, reason, by_owner, by_stop, by_target, by_need, else_reason, uri_of}
use Rattle.zi_why.specs.declared.report.Reason.{Reason}
use Rattle.zi_why.specs.declared.report.Reason.TheVariants.{Version, Lacking, Bits, Against, Needs, Search}
use Rattle.zi_feed.specs.IdLaws.{none_some}

abbrev pub first_reason : List Interface → Option Owned → Option (List ℕ) → Option Stop → Option Dep → Option Dep → ℕ → Reason
first_reason u a b c d e hints =
    else_reason (option_map (by_owner u) a) (else_reason (option_map (λ name. Lacking name) b) (else_reason (option_map (by_stop u) c) (else_reason (option_map by_target d) (else_reason (option_map by_need e) (Search hints)))))

module _ (u : List Interface) where
  pub it_refuses : (a : Option Owned) (b : Option (List ℕ)) (c : Option Stop) (d e : Option Dep) (hints i : ℕ) → Some i ≡ option_map owner_of a → Version (uri_of u i) ≡ first_reason u a b c d e hints
  it_refuses None b c d e hints i g = absurd (none_some (sym g))
  it_refuses (Some o) b c d e hints i g = ap (λ j. Version (uri_of u j)) (same_Some _ _ g)

  pub it_lacks : (a : Option Owned) (b : Option (List ℕ)) (c : Option Stop) (d e : Option Dep) (hints : ℕ) (name : List ℕ) → None ≡ option_map owner_of a → Some name ≡ b → Lacking name ≡ first_reason u a b c d e hints
  it_lacks None b c d e hints name f g = ap (λ o. first_reason u None o c d e hints) g
  it_lacks (Some o) b c d e hints name f g = absurd (none_some f)

  pub it_is_apart : (a : Option Owned) (b : Option (List ℕ)) (c : Option Stop) (d e : Option Dep) (hints i : ℕ) → None ≡ option_map owner_of a → None ≡ b → Some i ≡ option_map interface_of c → Bits (uri_of u i) ≡ first_reason u a b c d e hints
  it_is_apart (Some o) b c d e hints i f g h = absurd (none_some f)
  it_is_apart None b None d e hints i f g h = absurd (none_some (sym h))
  it_is_apart None b (Some x) d e hints i f g h = ap (λ j. Bits (uri_of u j)) (same_Some _ _ h) ∙ ap (λ o. first_reason u None o (Some x) d e hints) g

  pub it_is_against : (a : Option Owned) (b : Option (List ℕ)) (c : Option Stop) (d e : Option Dep) (hints : ℕ) (x : Dep) → None ≡ option_map owner_of a → None ≡ b → None ≡ option_map interface_of c → Some x ≡ d → Against x.interface ≡ first_reason u a b c d e hints
  it_is_against (Some o) b c d e hints x f g h k = absurd (none_some f)
  it_is_against None b (Some y) d e hints x f g h k = absurd (none_some h)
  it_is_against None b None d e hints x f g h k = ap (λ o. first_reason u None None None o e hints) k ∙ ap (λ o. first_reason u None o None d e hints) g

  pub it_needs : (a : Option Owned) (b : Option (List ℕ)) (c : Option Stop) (d e : Option Dep) (hints : ℕ) (x : Dep) → None ≡ option_map owner_of a → None ≡ b → None ≡ option_map interface_of c → None ≡ d → Some x ≡ e → Needs x.interface ≡ first_reason u a b c d e hints
  it_needs (Some o) b c d e hints x f g h k l = absurd (none_some f)
  it_needs None b (Some y) d e hints x f g h k l = absurd (none_some h)
  it_needs None b None d e hints x f g h k l =
      ap (λ o. first_reason u None None None None o hints) l ∙ ap (λ o. first_reason u None None None o e hints) k ∙ ap (λ o. first_reason u None o None d e hints) g

  pub it_is_search : (a : Option Owned) (b : Option (List ℕ)) (c : Option Stop) (d e : Option Dep) (hints : ℕ) → None ≡ option_map owner_of a → None ≡ b → None ≡ option_map interface_of c → None ≡ d → None ≡ e → Search hints ≡ first_reason u a b c d e hints
  it_is_search (Some o) b c d e hints f g h k l = absurd (none_some f)
  it_is_search None b (Some y) d e hints f g h k l = absurd (none_some h)
  it_is_search None b None d e hints f g h k l =
      ap (λ o. first_reason u None None None None o hints) l ∙ ap (λ o. first_reason u None None None o e hints) k ∙ ap (λ o. first_reason u None o None d e hints) g

-- The tests over what is known.
module _ (u : List Interface) (req : Requirement) (s : Choice) (xs : List Stop) (i : ℕ) (k : Candidate) (known : Known) (knows : KnowsOf u s xs known) (os : List CodeOwned) (row : map as_owned os ≡ bearing u s xs i) where
  abbrev gives : Reason → ℕ → Type 0
  gives r hints = r ≡ reason u req s xs i k hints

  refuses_is : (o : Option ℕ) → o ≡ option_map owner_of (find (refuses k) (map as_owned os)) → o ≡ option_map owner_of (refusing u s xs i k)
  refuses_is o e = e ∙ ap (λ ys. option_map owner_of (find (refuses k) ys)) row

  lacks_is : (o : Option (Bor (List ℕ))) → option_copied o ≡ find (lacks k) (of_root req i ++ flat_map named_of (map as_owned os)) → option_copied o ≡ lacking u req s xs i k
  lacks_is o e = e ∙ ap (λ ys. find (lacks k) (of_root req i ++ flat_map named_of ys)) row

  apart_is : (o : Option ℕ) (w : Width) → w ≡ group k → o ≡ other_of known w → o ≡ option_map interface_of (of_other_bits u s xs k)
  apart_is o w f e = e ∙ ap (other_of known) f ∙ other_found u s xs k known knows

  pub by_refusing : (o : Option ℕ) (j hints : ℕ) (t : List ℕ) → o ≡ option_map owner_of (find (refuses k) (map as_owned os)) → o ≡ Some j → t ≡ uri_of u j → gives (Version t) hints
  by_refusing o j hints t e f g =
      ap (λ y. Version y) g ∙ it_refuses u (refusing u s xs i k) (lacking u req s xs i k) (of_other_bits u s xs k) (against u s xs i k) (missing u k) hints j (sym f ∙ refuses_is o e)

  pub by_lacking : (o : Option ℕ) (q : Option (Bor (List ℕ))) (name : Bor (List ℕ)) (hints : ℕ) (t : List ℕ) → o ≡ option_map owner_of (find (refuses k) (map as_owned os)) → o ≡ None
      → option_copied q ≡ find (lacks k) (of_root req i ++ flat_map named_of (map as_owned os)) → q ≡ Some name → t ≡ name.now → gives (Lacking t) hints
  by_lacking o q name hints t e f g h l =
      ap (λ y. Lacking y) l
      ∙ it_lacks u (refusing u s xs i k) (lacking u req s xs i k) (of_other_bits u s xs k) (against u s xs i k) (missing u k) hints name.now (sym f ∙ refuses_is o e) (sym (ap option_copied h) ∙ lacks_is q g)

  module _ (o : Option ℕ) (q : Option (Bor (List ℕ))) (e : o ≡ option_map owner_of (find (refuses k) (map as_owned os))) (f : o ≡ None) (g : option_copied q ≡ find (lacks k) (of_root req i ++ flat_map named_of (map as_owned os))) (h : q ≡ None) where
    pub by_bits : (w : Width) (x : Option ℕ) (j hints : ℕ) (t : List ℕ) → w ≡ group k → x ≡ other_of known w → x ≡ Some j → t ≡ uri_of u j → gives (Bits t) hints
    by_bits w x j hints t wk m n l =
        ap (λ y. Bits y) l
        ∙ it_is_apart u (refusing u s xs i k) (lacking u req s xs i k) (of_other_bits u s xs k) (against u s xs i k) (missing u k) hints j (sym f ∙ refuses_is o e) (sym (ap option_copied h) ∙ lacks_is q g) (sym n ∙ apart_is x w wk m)

    module _ (w : Width) (x : Option ℕ) (wk : w ≡ group k) (m : x ≡ other_of known w) (n : x ≡ None) where
      pub by_against : (y : Option (Bor Dep)) (d : Bor Dep) (hints : ℕ) (t : List ℕ) → option_copied y ≡ against u s xs i k → y ≡ Some d → t ≡ d.now.interface → gives (Against t) hints
      by_against y d hints t a b l =
          ap (λ z. Against z) l
          ∙ it_is_against u (refusing u s xs i k) (lacking u req s xs i k) (of_other_bits u s xs k) (against u s xs i k) (missing u k) hints d.now (sym f ∙ refuses_is o e) (sym (ap option_copied h) ∙ lacks_is q g) (sym n ∙ apart_is x w wk m)
          (sym (ap option_copied b) ∙ a)

      pub by_needs : (y z : Option (Bor Dep)) (d : Bor Dep) (hints : ℕ) (t : List ℕ) → option_copied y ≡ against u s xs i k → y ≡ None → option_copied z ≡ missing u k → z ≡ Some d → t ≡ d.now.interface → gives (Needs t) hints
      by_needs y z d hints t a b c v l =
          ap (λ r. Needs r) l
          ∙ it_needs u (refusing u s xs i k) (lacking u req s xs i k) (of_other_bits u s xs k) (against u s xs i k) (missing u k) hints d.now (sym f ∙ refuses_is o e) (sym (ap option_copied h) ∙ lacks_is q g) (sym n ∙ apart_is x w wk m)
          (sym (ap option_copied b) ∙ a) (sym (ap option_copied v) ∙ c)

      pub by_search : (y z : Option (Bor Dep)) (hints : ℕ) → option_copied y ≡ against u s xs i k → y ≡ None → option_copied z ≡ missing u k → z ≡ None → gives (Search hints) hints
      by_search y z hints a b c v =
          it_is_search u (refusing u s xs i k) (lacking u req s xs i k) (of_other_bits u s xs k) (against u s xs i k) (missing u k) hints (sym f ∙ refuses_is o e) (sym (ap option_copied h) ∙ lacks_is q g) (sym n ∙ apart_is x w wk m)
          (sym (ap option_copied b) ∙ a) (sym (ap option_copied v) ∙ c)
