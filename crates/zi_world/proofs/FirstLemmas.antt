-- Stores that are asked one after another until one has it.
use Rattle.std.proofs.Common.{◌≡◌, ◌≢◌, ℕ, suc, ◌+◌, ◌<◌, List, [], ◌∷◌, map, length, take, drop, get_or, set, refl, sym, ap, subst, ◌∙◌, add-one, arith}
use Rattle.std.proofs.lemmas.List.{drop-drop, drop-set-lt}
use Rattle.zi_shelf.specs.Shelving.{Shelving}
use Rattle.zi_store.specs.Keeping.{Keeps, is_reading}
use Rattle.zi_store.specs.Stores.{Each, IsCalm, Fails, SomeFails}
use Rattle.zi_store.proofs.KeepingLemmas.{keeps_none}
use Rattle.zi_store.proofs.StoresLemmas.{each_same, calm_same, each_set, fails_set}
use Rattle.zi_world.specs.Places.{FirstOf}
use Rattle.zi_world.proofs.PlacesLemmas.{first_more, first_stays, seen_next, seen_split}

-- the first so many were read, no call failed, and the answer so far is theirs
pub record AskedFirst {X A : Type 0} (seen : X → Shelving) (Says : Shelving → A → Type 0) (missing : A) (first : Shelving) (old now : List X) (i : ℕ) (answer : A) : Type 0 where
  pub rest : drop i now ≡ drop i old
  pub keeps : Each (Keeps is_reading) (map seen old) (map seen now)
  pub calm : Each IsCalm (map seen old) (map seen now)
  pub says : FirstOf Says missing (first ∷ map seen (take i old)) answer

pub asked_none : {X A : Type 0} (seen : X → Shelving) (Says : Shelving → A → Type 0) (missing : A) (first : Shelving) (old : List X) (answer : A) → Says first answer → AskedFirst seen Says missing first old old 0 answer
asked_none seen Says missing first old answer s = record {
  rest = refl;
  keeps = each_same (Keeps is_reading) (keeps_none is_reading) (map seen old);
  calm = calm_same (map seen old);
  says = s;
}

pub asked_more : {X A : Type 0} (seen : X → Shelving) (Says : Shelving → A → Type 0) (missing : A) (first : Shelving) (old now : List X) (i : ℕ) (d y : X) (answer more : A)
    → AskedFirst seen Says missing first old now i answer → i < length now → answer ≡ missing → Keeps is_reading (seen (get_or now i d)) (seen y) → IsCalm (seen (get_or now i d)) (seen y) → Says (seen (get_or now i d)) more
    → AskedFirst seen Says missing first old (set now i y) (i + 1) more
asked_more seen Says missing first old now i d y answer more a lt none keeps calm says = record {
  rest = drop-set-lt (i + 1) now i y (omega arith) ∙ sym (drop-drop 1 i now) ∙ ap (λ l. drop 1 l) a.rest ∙ drop-drop 1 i old;
  keeps = each_set seen (Keeps is_reading) old now i d y a.keeps a.rest lt keeps;
  calm = each_set seen IsCalm old now i d y a.calm a.rest lt calm;
  says = subst (λ k. FirstOf Says missing (first ∷ map seen (take k old)) more) (sym (add-one i))
      (subst (λ l. FirstOf Says missing (first ∷ l) more) (sym (seen_next seen (Keeps is_reading) old now i d a.keeps a.rest lt))
      (first_more Says missing more first (map seen (take i old)) (seen (get_or now i d)) (subst (λ n. FirstOf Says missing (first ∷ map seen (take i old)) n) none a.says) says));
}

pub asked_found : {X A : Type 0} (seen : X → Shelving) (Says : Shelving → A → Type 0) (missing : A) (first : Shelving) (old now : List X) (i : ℕ) (answer : A) → AskedFirst seen Says missing first old now i answer → answer ≢ missing
    → FirstOf Says missing (first ∷ map seen old) answer
asked_found seen Says missing first old now i answer a some =
    subst (λ l. FirstOf Says missing (first ∷ l) answer) (sym (seen_split seen old i)) (first_stays Says missing answer first (map seen (take i old)) (map seen (drop i old)) some a.says)

-- one of them failed at this call
pub asked_fails : {X A : Type 0} (seen : X → Shelving) (Says : Shelving → A → Type 0) (missing : A) (first : Shelving) (old now : List X) (i : ℕ) (d y : X) (answer : A) → AskedFirst seen Says missing first old now i answer → i < length now
    → Fails (seen (get_or now i d)) (seen y) → SomeFails (map seen old) (map seen (set now i y))
asked_fails seen Says missing first old now i d y answer a lt f = fails_set seen IsCalm old now i d y a.calm a.rest lt f
