-- The choice of a trail on which every variable is decided.
use Rattle.std.proofs.Common.{◌≡◌, ℕ, zero, suc, ◌+◌, ◌<◌, Bool, true, false, cond, List, [], ◌∷◌, length, map, refl, sym, ap, ◌∙◌, subst, arith, Option, Some, None}
use Rattle.std.specs.Prelude.{slice_get, All}
use Rattle.std.proofs.lemmas.Bool.{false≢true}
use Rattle.std.proofs.lemmas.Option.{same_Some}
use Rattle.zi_formula.specs.Truth.{Models}
use Rattle.zi_proof.specs.Known.{Known}
use Rattle.zi_sat.specs.declared.entry.Entry.{Entry}
use Rattle.zi_sat.specs.Trail.{known_from}
use Rattle.zi_sat.specs.Ends.{values_of}
use Rattle.zi_universe.specs.declared.types.Requirement.{Requirement}
use Rattle.zi_universe.specs.declared.types.Candidate.{Candidate}
use Rattle.zi_universe.specs.declared.types.Interface.{Interface}
use Rattle.zi_choice.specs.Choice.{Choice, pick, candidate_at}
use Rattle.zi_choice.specs.Walk.{Walk, Walks, is_listed}
use Rattle.zi_choice.specs.Traces.{as_place}
use Rattle.zi_choice.specs.declared.traced.Place.{Place}
use Rattle.zi_choice.specs.Vars.{Cand, candidates_of, var_number}
use Rattle.zi_choice.proofs.Base.{candidate_is, all_from, if_some_from}
use Rattle.zi_choice.proofs.WalkFacts.{faithful, same_walk}
use Rattle.zi_build.specs.Clauses.{formula}
use Rattle.zi_build.proofs.Meaning.{IsAt, Means}
use Rattle.zi_build.proofs.Central.{by_var, models_mean}
use Rattle.zi_walk.specs.Rule.{is_chosen, chosen_from, so_far}
use Rattle.zi_walk.specs.Laws.{IsHeld}
use Rattle.zi_walk.proofs.Passed.{IsOf, candidate_below}
use Rattle.zi_walk.proofs.Rules.{first_is, first_none, so_far_picks}
use Rattle.zi_solve.specs.Making.{IsCut, IsWithin}
use Rattle.zi_feed.specs.IdLaws.{none_some}
use Rattle.zi_text.proofs.ListLaws.{some_is, some_of}

within_length : {A : Type 0} (xs : List A) (n : ℕ) (x : A) → slice_get xs n ≡ Some x → n < length xs
within_length [] n x e = absurd (none_some e)
within_length (y ∷ xs) zero x e = omega arith
within_length (y ∷ xs) (suc n) x e = let r = within_length xs n x e in omega (arith, r)

pub chosen_length : (u : List Interface) (k : Known) (n : ℕ) (xs : List Interface) → length (chosen_from u k n xs) ≡ length xs
chosen_length u k n [] = refl
chosen_length u k n (x ∷ xs) = ap suc (chosen_length u k (suc n) xs)

module _ (u : List Interface) (req : Requirement) (es : List Entry) (model : Models (values_of es) (formula u req)) where
  abbrev k : Known
  k = known_from es

  abbrev pub r : Choice
  r = so_far u k

  means : Means u req (by_var u (values_of es))
  means = (models_mean u req (values_of es)).0 model

  pub of_r : IsOf u (values_of es) r
  of_r = record {
    sound = λ i c p.
        let f = first_is (is_chosen u k i) 0 (candidates_of u i) c (sym (so_far_picks u k i) ∙ p) in
        let on = f.on in
        let is = f.is in
        let w = f.within in
        let x = candidate_below (candidates_of u i) c (omega (arith, is, w)) in (x.0, x.1, f.passes);
    full = λ i c x at t. full_at i c x at t (pick r i) refl;
  }
    where
      full_at : (i c : ℕ) (x : Candidate) → IsAt u i c x → values_of es (var_number u (Cand i c)) ≡ true → (o : Option ℕ) → pick r i ≡ o → pick r i ≡ Some c
      full_at i c x at t None e =
          let z : 0 + c ≡ c = omega arith in
          let off = first_none (is_chosen u k i) 0 (candidates_of u i) (sym (so_far_picks u k i) ∙ e) c (within_length (candidates_of u i) c x at) in
          absurd (false≢true (sym (subst (λ m. is_chosen u k i m ≡ false) z off) ∙ t))
      full_at i c x at t (Some d) e =
          let f = first_is (is_chosen u k i) 0 (candidates_of u i) d (sym (so_far_picks u k i) ∙ e) in
          let is = f.is in
          let w = f.within in
          let y = candidate_below (candidates_of u i) d (omega (arith, is, w)) in
          let same : d ≡ c = means.one i d c (within_length (candidates_of u i) d y.0 y.1) (within_length (candidates_of u i) c x at) f.passes t in
          e ∙ ap (λ m. Some m) same

  module _ (s : Choice) (w : Walk) (walks : Walks u req r w) (is_cut : IsCut r w.places s) where
    pub kept : (i c : ℕ) → pick s i ≡ Some c → (is_listed w i ≡ true) × (pick r i ≡ Some c)
    kept i c p = at (is_listed w i) refl (sym (is_cut.are i) ∙ p)
      where
        at : (b : Bool) → is_listed w i ≡ b → cond b (pick r i) None ≡ Some c → (is_listed w i ≡ true) × (pick r i ≡ Some c)
        at true e f = (e, f)
        at false e f = absurd (none_some f)

    pub same : (j : ℕ) → is_listed w j ≡ true → pick r j ≡ pick s j
    same j on = sym (is_cut.are j ∙ ap (λ b. cond b (pick r j) None) on)

    abbrev pub held : IsHeld u req es s
    held = record {
      fits = record {
        each = is_cut.each ∙ chosen_length u k 0 u;
        there = λ i c p. let x = of_r.sound i c (kept i c p).1 in some_is (candidate_at u i c) x.0 (candidate_is u i c ∙ x.1);
      };
      walk = w;
      walks = same_walk u r s w same req walks;
      are_true = λ i c p. let q = kept i c p in let x = of_r.sound i c q.1 in (q.0, some_is (candidate_at u i c) x.0 (candidate_is u i c ∙ x.1), x.2);
      are_chosen = λ i c on there t. let x = some_of (candidate_at u i c) there in sym (same i on) ∙ of_r.full i c x.0 (sym (candidate_is u i c) ∙ x.1) t;
    }

  -- what is picked at a place is a candidate
  pub are_within : (ps : List Place) (w : Walk) → Walks u req r w → w.places ≡ map as_place ps → All (λ p. IsWithin u (as_place p)) ps
  are_within ps w walks e = all_from (λ p. IsWithin u (as_place p)) ps (λ n p g.
      if_some_from (λ c. c < length (candidates_of u p.interface)) p.pick (λ c q.
      let at : slice_get w.places n ≡ Some (as_place p) = ap (λ xs. slice_get xs n) e ∙ mapped ps n p g in
      let x = of_r.sound p.interface c (faithful u req r w walks p.interface p.pick n at ∙ q) in
      within_length (candidates_of u p.interface) c x.0 x.1))
    where
      mapped : (ps : List Place) (n : ℕ) (p : Place) → slice_get ps n ≡ Some p → slice_get (map as_place ps) n ≡ Some (as_place p)
      mapped [] n p e = absurd (none_some e)
      mapped (q ∷ ps) zero p e = ap (λ x. Some (as_place x)) (same_Some _ _ e)
      mapped (q ∷ ps) (suc n) p e = mapped ps n p e
