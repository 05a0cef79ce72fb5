-- The options that were read so far, one after another.
use Rattle.std.proofs.Common.{◌≡◌, ℕ, true, false, List, [], ◌∷◌, ◌++◌, length, refl, sym, ap, ◌∙◌, subst, append_assoc, Err}
use Rattle.std.specs.BTreeSet as tree
use Rattle.std.specs.BTreeSet.{BTreeSet}
use Rattle.std.specs.List.{list_any}
use Rattle.std.specs.Ordering.{is_eq}
use Rattle.std.proofs.lemmas.List.{append-nil}
use Rattle.zi_words.specs.declared.kind.Kind.{Kind}
use Rattle.zi_words.specs.declared.loader.Loader.{Loader}
use Rattle.zi_words.specs.declared.asked.Asked.{Asked}
use Rattle.zi_words.specs.declared.refusal.Refusal.{Refusal}
use Rattle.zi_words.specs.declared.refusal.Refusal.TheVariants.{Left, Memory}
use Rattle.zi_words.specs.Forms.{Word, Are}
use Rattle.zi_words.specs.Options.{Item, AreItems, name_of, has_option, forms, rule_of, spelled, any_clash, set, nothing, gathered}
use Rattle.zi_words.specs.Words.{AsksLoading}
use Rattle.zi_words.specs.Refused.{Asks, LeftAt, Refused}
use Rattle.zi_words.specs.Taken.{Key, key_cmp, holds, Takes, AddsBy, BreaksBy, has, NoOption, Gathers}
use Rattle.zi_words.proofs.LeftLemmas.{behind}
use Rattle.zi_words.proofs.ClashLemmas.{clash_push}
use Rattle.zi_words.proofs.OptionLemmas.{After, after_none, none_after, all_in, all_out, gathered-none, gathered-more, spelled-append, items_append}
use Rattle.zi_words.proofs.HasLemmas.{Told, told_next, free}
use Rattle.zi_words.proofs.RateLemmas.{again, off}

-- these options were read, and set this
pub record Reads (l : Loader) (ws left : List Word) (asked : Asked) (pairs : BTreeSet Key) : Type 0 where
  pub options : List Item
  pub are : ws ≡ spelled options ++ left
  pub items : AreItems l options
  pub apart : any_clash options ≡ false
  pub set_by : asked ≡ gathered options
  pub told : Told options pairs

-- what is wrong behind the options is wrong in all words
pub lifted : (l : Loader) (ws left : List Word) (options : List Item) (n : ℕ) → ws ≡ spelled options ++ left → AreItems l options → LeftAt (Asks (After l options)) left n
    → LeftAt (Asks (AsksLoading l)) ws n
lifted l ws left options n e items at =
    let P : List Word → Type 0 = λ v. LeftAt (Asks (AsksLoading l)) v n in
    subst P (sym e) (behind (Asks (AsksLoading l)) (Asks (After l options)) (spelled options) left
    (λ u (r, a). (r, all_in l options [] u r items (after_none l (spelled options ++ u) r a)))
    (λ u (r, a). (r, none_after l (spelled options ++ u) r (all_out l options [] u r items a))) n at)

-- an option that stands already
pub again_read : (l : Loader) (ws left rest : List Word) (asked : Asked) (pairs : BTreeSet Key) (k : Kind) → Reads l ws left asked pairs → left ≡ name_of k ∷ rest → has k asked ≡ true
    → LeftAt (Asks (AsksLoading l)) ws (length left)
again_read l ws left rest asked pairs k s e h =
    let P : List Word → Type 0 = λ v. LeftAt (Asks (After l s.options)) v (length v) in
    lifted l ws left s.options (length left) s.are s.items (subst P (sym e) (again l s.options k rest s.items s.apart (ap (has k) (sym s.set_by) ∙ h)))

-- one whose arguments break off
pub off_read : (l : Loader) (ws left rest : List Word) (asked : Asked) (pairs : BTreeSet Key) (k : Kind) (n : ℕ) → Reads l ws left asked pairs → left ≡ name_of k ∷ rest
    → has k asked ≡ false → has_option l k ≡ true → BreaksBy (rule_of k) (forms k) pairs rest n → LeftAt (Asks (AsksLoading l)) ws n
off_read l ws left rest asked pairs k n s e h its b =
    let P : List Word → Type 0 = λ v. LeftAt (Asks (After l s.options)) v n in
    lifted l ws left s.options n s.are s.items
    (subst P (sym e) (off l s.options pairs s.apart s.told k rest n s.items (ap (has k) (sym s.set_by) ∙ h) its b))

-- one that is taken
pub next_read : (l : Loader) (ws left rest args more : List Word) (asked now : Asked) (pairs new : BTreeSet Key) (k : Kind) → Reads l ws left asked pairs → left ≡ name_of k ∷ rest
    → has k asked ≡ false → has_option l k ≡ true → rest ≡ args ++ more → Are (forms k) args → now ≡ set k args asked → AddsBy (rule_of k) args pairs new → Reads l ws more now new
next_read l ws left rest args more asked now pairs new k s e h its f item sets adds =
    let i : Item = record { kind = k; arguments = args } in
    let none = ap (has k) (sym s.set_by) ∙ h in
    record {
      options = s.options ++ i ∷ [];
      are = s.are ∙ (ap (λ v. spelled s.options ++ v) (e ∙ ap (λ v. name_of k ∷ v) f) ∙ joined);
      items = items_append l s.options i s.items (its, item);
      apart = clash_push s.options i s.apart (free l s.options k args pairs new s.items none adds s.told);
      set_by = sets ∙ (ap (set k args) s.set_by ∙ sym (gathered-more s.options i));
      told = told_next s.options k args pairs new adds s.told;
    }
  where
    joined : spelled s.options ++ name_of k ∷ (args ++ more) ≡ spelled (s.options ++ record { kind = k; arguments = args } ∷ []) ++ more
    joined =
        ap (λ v. spelled s.options ++ name_of k ∷ (v ++ more)) (sym (append-nil args))
        ∙ (sym (append_assoc (spelled s.options) (name_of k ∷ (args ++ [])) more) ∙ ap (λ v. v ++ more) (sym (spelled-append s.options (record { kind = k; arguments = args } ∷ []))))

pub gathers : (l : Loader) (ws left : List Word) (asked : Asked) (pairs : BTreeSet Key) → Reads l ws left asked pairs → NoOption l left → Gathers l ws asked left
gathers l ws left asked pairs s none = record {
  options = s.options;
  are = s.are;
  items = s.items;
  apart = s.apart;
  set_by = s.set_by;
  last = none;
}

-- no option yet
pub begun : (l : Loader) (ws : List Word) (asked : Asked) (pairs : BTreeSet Key) → asked ≡ nothing → tree.IsEmpty pairs → Reads l ws ws asked pairs
begun l ws asked pairs e empty = record {
  options = [];
  are = refl;
  items = tt;
  apart = refl;
  set_by = e ∙ sym gathered-none;
  told = λ q. empty_holds pairs q empty;
}
  where
    empty_holds : (s : BTreeSet Key) (q : Key) → tree.IsEmpty s → holds s q ≡ false
    empty_holds s q h = ap (λ ks. list_any (λ (k : Key). is_eq (key_cmp q k)) ks) h

-- however an option is refused
pub refused_read : (l : Loader) (ws left rest : List Word) (asked now : Asked) (pairs new : BTreeSet Key) (k : Kind) (f : Refusal) → Reads l ws left asked pairs → left ≡ name_of k ∷ rest
    → has k asked ≡ false → has_option l k ≡ true → Takes k asked pairs rest (Err f) now new → Refused (AsksLoading l) ws f
refused_read l ws left rest asked now pairs new k (Left n) s e h its t = off_read l ws left rest asked pairs k n s e h its t
refused_read l ws left rest asked now pairs new k Memory s e h its t = tt
