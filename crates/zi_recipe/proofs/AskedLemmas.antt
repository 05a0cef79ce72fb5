-- What steps ask for, put together.
use Rattle.std.proofs.Common.{◌≡◌, ℕ, ◌+◌, ◌<◌, inl, inr, List, [], ◌∷◌, ◌++◌, length, take, get_or, refl, sym, ap, subst, ◌∙◌}
use Rattle.std.proofs.lemmas.List.{append-nil, take_more}
use Rattle.std.proofs.lemmas.Grind.{flat_map-append}
use Rattle.zi_text.specs.Count.{Rose}
use Rattle.zi_outside.specs.Views.{Feeding}
use Rattle.zi_outside.proofs.AskingLemmas.{asks_none, asks_more}
use Rattle.zi_parts.specs.declared.types.Step.{Step}
use Rattle.zi_recipe.specs.declared.fault.RecipeFault.{RecipeFault}
use Rattle.zi_recipe.specs.declared.fault.RecipeFault.TheVariants as fault
use Rattle.zi_recipe.specs.Asking.{address, addresses, AreAsked, AsksAt}

abbrev Hrefs : Type 0
Hrefs = List (List ℕ)

pub asked_none : (seen : Feeding) → AreAsked [] seen seen
asked_none seen = record { asks = asks_none seen; faults = refl }

pub asked_more : (hrefs more : Hrefs) (old mid new : Feeding) → AreAsked hrefs old mid → AreAsked more mid new → AreAsked (hrefs ++ more) old new
asked_more hrefs more old mid new a b = record { asks = asks_more hrefs more old mid new a.asks b.asks; faults = b.faults ∙ a.faults }

-- one step more
more_addresses : (ss : List Step) (i : ℕ) (s : Step) → i < length ss → s ≡ get_or ss i s → addresses (take (i + 1) ss) ≡ addresses (take i ss) ++ address s
more_addresses ss i s lt at =
    ap addresses (take_more ss i s lt ∙ ap (λ (x : Step). take i ss ++ x ∷ []) (sym at)) ∙ flat_map-append address (take i ss) (s ∷ []) ∙ ap (λ l. addresses (take i ss) ++ l) (append-nil (address s))

pub asked_next : (ss : List Step) (i : ℕ) (s : Step) (old mid new : Feeding) → i < length ss → s ≡ get_or ss i s
    → AreAsked (addresses (take i ss)) old mid → AreAsked (address s) mid new → AreAsked (addresses (take (i + 1) ss)) old new
asked_next ss i s old mid new lt at a b =
    subst (λ hrefs. AreAsked hrefs old new) (sym (more_addresses ss i s lt at)) (asked_more (addresses (take i ss)) (address s) old mid new a b)

-- others were asked for before
pub stopped_later : (e : RecipeFault) (before last : Hrefs) (old mid new : Feeding) → AreAsked before old mid → AsksAt e [] last mid new → AsksAt e before last old new
stopped_later (fault.FetchRead href) before last old mid new a b =
    (asks_more before last old mid new a.asks b.0, subst (λ n. Rose n new.faults) a.faults b.1)
stopped_later (fault.NoRemote href) before last old mid new a b = asked_more before last old mid new a b
stopped_later (fault.WrongSize href said got) before last old mid new a b = asked_more before last old mid new a b
stopped_later (fault.Overlap path) before last old mid new a b = asked_more before last old mid new a b
stopped_later (fault.NoPath path) before last old mid new a b = asked_more before last old mid new a b
stopped_later (fault.TooLarge what limit) before last old mid new a b = asked_more before last old mid new a b
stopped_later fault.Memory before last old mid new a (inl b) =
    inl (subst (λ hrefs. AreAsked hrefs old new) (append-nil before) (asked_more before [] old mid new a b))
stopped_later fault.Memory before last old mid new a (inr b) = inr (asked_more before last old mid new a b)
