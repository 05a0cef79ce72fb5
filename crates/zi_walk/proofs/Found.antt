-- The choice of the trail is the best one.
use Rattle.std.proofs.Common.{◌≡◌, ℕ, Bool, true, false, List, ◌∷◌, ◌++◌, map, refl, sym, ap, ◌∙◌, subst, Option, Some, None, inl, inr}
use Rattle.zi_formula.specs.Truth.{all_true, Models}
use Rattle.zi_proof.specs.declared.proof.Lemma.{Lemma}
use Rattle.zi_proof.specs.Known.{nothing, says}
use Rattle.zi_proof.specs.Accepted.{citable, follows, lemma_clause}
use Rattle.zi_proof.proofs.Sound.{Agrees, lemmas_are_true, all_append}
use Rattle.zi_sat.specs.declared.entry.Entry.{Entry}
use Rattle.zi_sat.specs.Trail.{lits_of, known_from, OpenAll}
use Rattle.zi_sat.specs.Moves.{Lawful}
use Rattle.zi_sat.specs.Ends.{values_of, AreDecided}
use Rattle.zi_universe.specs.declared.types.Requirement.{Requirement}
use Rattle.zi_universe.specs.declared.types.Interface.{Interface}
use Rattle.zi_choice.specs.Choice.{Choice, pick, candidate_at}
use Rattle.zi_choice.specs.Walk.{Walk, Walks, is_listed}
use Rattle.zi_choice.specs.Valid.{IsValid}
use Rattle.zi_choice.specs.Best.{IsBetter, RanksEarlier, IsBest}
use Rattle.zi_choice.proofs.WalkLaws.{walk_one}
use Rattle.zi_choice.proofs.ApartLaws.{one_earlier}
use Rattle.zi_choice.specs.Vars.{var_count}
use Rattle.zi_build.specs.Clauses.{formula}
use Rattle.zi_choice.proofs.Base.{candidate_is}
use Rattle.zi_build.proofs.Meaning.{Means}
use Rattle.zi_choice.proofs.WalkFacts.{same_walk}
use Rattle.zi_build.proofs.MeansValid.{Suited, means_valid}
use Rattle.zi_build.proofs.Model.{choice_of, of_true, of_full}
use Rattle.zi_build.proofs.Central.{by_var, models_mean, valid_is_model}
use Rattle.zi_walk.specs.Rule.{walk_picks}
use Rattle.zi_walk.specs.Laws.{IsHeld, SearchFindsBest}
use Rattle.zi_walk.proofs.Passed.{IsOf, along}
use Rattle.zi_feed.specs.IdLaws.{none_some}
use Rattle.zi_text.proofs.ListLaws.{some_is, some_of}

-- the values of a trail say what it knows
pub values_agree : (es : List Entry) → Agrees (values_of es) (known_from es)
values_agree es x b e = at b (ap (λ o. says o true) e)
  where
    at : (b : Bool) → says (known_from es x) true ≡ says (Some b) true → says (known_from es x) true ≡ b
    at true h = h
    at false h = h

module _ (u : List Interface) (req : Requirement) (ms : List Lemma) (es : List Entry) (s : Choice) (log : follows (formula u req) ms ≡ true) (lawful : Lawful (citable (formula u req).constraints ms) (formula u req).constraints (walk_picks u req (var_count u)) es) (fresh : OpenAll nothing (lits_of es)) (full : AreDecided (var_count u) es) (model : Models (values_of es) (formula u req)) (held : IsHeld u req es s) where
  abbrev pub x : ℕ → Bool
  x y = values_of es y

  pub means : Means u req (by_var u x)
  means = (models_mean u req x).0 model

  suited : Suited u (by_var u x) s held.walk
  suited = record {
    sound = λ i c p. let t = held.are_true i c p in let k = some_of (candidate_at u i c) t.1 in (k.0, sym (candidate_is u i c) ∙ k.1, t.2);
    full = λ i c k on at t. held.are_chosen i c on (some_is (candidate_at u i c) k (candidate_is u i c ∙ at)) t;
  }

  pub held_valid : IsValid u req s
  held_valid = means_valid u req (by_var u x) means s held.walk held.walks suited held.fits.each (λ i c p. (held.are_true i c p).0)

  -- all true candidates as a choice, which has the same walk
  abbrev pub r : Choice
  r = choice_of u (by_var u x)

  pub of_r : IsOf u x r
  of_r = record { sound = of_true u req (by_var u x) means; full = of_full u req (by_var u x) means }

  same_on_walk : (j : ℕ) → is_listed held.walk j ≡ true → pick s j ≡ pick r j
  same_on_walk j on = at (pick s j) (pick r j) refl refl
    where
      at : (o p : Option ℕ) → pick s j ≡ o → pick r j ≡ p → o ≡ p
      at None None e f = refl
      at (Some c) p e f = let t = suited.sound j c e in sym (of_r.full j c t.0 t.1 t.2) ∙ f
      at None (Some c) e f = let t = of_r.sound j c f in absurd (none_some (sym e ∙ suited.full j c t.0 on t.1 t.2))

  pub r_walks : Walks u req r held.walk
  r_walks = same_walk u s r held.walk same_on_walk req held.walks

  no_earlier : (t : Choice) → IsValid u req t → RanksEarlier u req t s → ⊥
  no_earlier t v h =
      let m = ((valid_is_model u req t).0 v).0 in
      let of_t : IsOf u m.0 t = record {
        sound = λ i c p. let k = some_of (candidate_at u i c) (m.1.fits.there i c p) in (k.0, sym (candidate_is u i c) ∙ k.1, m.1.are_true i c p);
        full = λ i c k at y. m.1.are_chosen i c (some_is (candidate_at u i c) k (candidate_is u i c ∙ at)) y;
      } in
      let all_are : all_true m.0 (citable (formula u req).constraints ms) ≡ true = all_append m.0 (formula u req).constraints (map lemma_clause ms) m.2 (lemmas_are_true (formula u req) ms m.0 log m.2) in
      let mine : h.other ≡ held.walk = walk_one u req s h.other held.walk h.other_walks held.walks in
      better_is h.before.here h.before.there h.before.better (λ e q b is. along u req (var_count u) refl m.0 x t r of_t of_r h.walk held.walk h.walks r_walks h.before.common h.before.interface e q h.before.rest h.before.other_rest
      (h.before.is ∙ ap (λ p. h.before.common ++ record { interface = h.before.interface; pick = p } ∷ h.before.rest) is.0)
      (ap (λ (w : Walk). w.places) (sym mine) ∙ h.before.other_is ∙ ap (λ p. h.before.common ++ record { interface = h.before.interface; pick = p } ∷ h.before.other_rest) is.1) b
      (citable (formula u req).constraints ms) (formula u req).constraints nothing (known_from es) lawful.0 lawful.2
      (subst (λ fs. OpenAll nothing (lits_of fs)) lawful.1 fresh) (ap known_from (sym lawful.1)) full all_are (values_agree es) (λ y b z. absurd (none_some z)))
    where
      better_is : (p q : Option ℕ) → IsBetter p q → ((e : ℕ) (o : Option ℕ) → IsBetter (Some e) o → (p ≡ Some e) × (q ≡ o) → ⊥) → ⊥
      better_is None q b f = b
      better_is (Some e) q b f = f e q b (refl, refl)

  pub best : IsBest u req s
  best = record {
    valid = held_valid;
    earlier = λ t v apart. elim (one_earlier u req s t held_valid v (λ e. apart (sym e))) [ inl h ↦ h | inr h ↦ absurd (no_earlier t v h) ];
  }

pub search_finds_best : SearchFindsBest
search_finds_best u req ms es s log lawful fresh full model held = best u req ms es s log lawful fresh full model held
