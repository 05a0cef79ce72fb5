-- What goes on behind some options, and that something does.
use Rattle.std.proofs.Common.{◌≡◌, ℕ, Bool, true, false, List, [], ◌∷◌, ◌++◌, length, replicate, Some, refl, sym, ap, ◌∙◌, subst, append_assoc, arith, inl, inr}
use Rattle.std.specs.Prelude.{codes}
use Rattle.std.specs.List.{list_any}
use Rattle.std.specs.Option.{option_or}
use Rattle.std.specs.Str.{chars}
use Rattle.std.proofs.lemmas.List.{append-nil, length-replicate}
use Rattle.std.proofs.lemmas.List.Folds.{list_any-append}
use Rattle.std.proofs.lemmas.Grind.{flat_map-append}
use Rattle.std.proofs.Math.Bool.{or-false, or-true}
use Rattle.zi_text.specs.Front.{BeginsRight}
use Rattle.zi_words.specs.declared.kind.Kind.{Kind}
use Rattle.zi_words.specs.declared.kind.Kind.TheVariants as kind
use Rattle.zi_words.specs.declared.loader.Loader.{Loader}
use Rattle.zi_words.specs.declared.asked.Asked.{Asked}
use Rattle.zi_words.specs.declared.request.Request.{Request}
use Rattle.zi_words.specs.Forms.{Word, Form, Are, is_address, is_carried}
use Rattle.zi_words.specs.Options.{Item, IsItem, AreItems, name_of, forms, spelled, clash, any_clash, set, nothing, last, gathered}
use Rattle.zi_words.specs.Words.{EndsOptions, count_of, takes_more, AreMany, HasMany, asking, AsksLoading}
use Rattle.zi_words.specs.Refused.{Asks}
use Rattle.zi_words.proofs.ClashLemmas.{clash_push}
use Rattle.zi_words.proofs.KindLemmas.{same_name, not_dashes, not_address}
use Rattle.zi_text.proofs.ListLaws.{head_same}

-- behind these options of a command: more of them, and the end
pub record After (l : Loader) (before : List Item) (ws : List Word) (r : Request) : Type 0 where
  pub more : List Item
  pub ends : List Word
  pub root : Word
  pub named : List Word
  pub are : ws ≡ spelled more ++ (ends ++ root ∷ named)
  pub items : AreItems l more
  pub apart : any_clash (before ++ more) ≡ false
  pub ended : EndsOptions ends
  pub address : is_address root ≡ true
  pub many : HasMany l named
  pub asked : r ≡ asking l root named (gathered (before ++ more))

pub after_none : (l : Loader) (ws : List Word) (r : Request) → AsksLoading l ws r → After l [] ws r
after_none l ws r a = record {
  more = a.options;
  ends = a.ends;
  root = a.root;
  named = a.named;
  are = a.are;
  items = a.items;
  apart = a.apart;
  ended = a.ended;
  address = a.address;
  many = a.many;
  asked = a.asked;
}

pub none_after : (l : Loader) (ws : List Word) (r : Request) → After l [] ws r → AsksLoading l ws r
none_after l ws r a = record {
  options = a.more;
  ends = a.ends;
  root = a.root;
  named = a.named;
  are = a.are;
  items = a.items;
  apart = a.apart;
  ended = a.ended;
  address = a.address;
  many = a.many;
  asked = a.asked;
}

-- as many words as forms
pub are_many : (fs : List Form) (ws : List Word) → Are fs ws → length ws ≡ length fs
are_many [] [] h = refl
are_many [] (w ∷ ws) h = absurd h
are_many (f ∷ fs) [] h = absurd h
are_many (f ∷ fs) (w ∷ ws) h = omega (arith, are_many fs ws h.1)

-- two lists in front of others, as long as each other
pub split_same : (xs ys us vs : List Word) → length xs ≡ length ys → xs ++ us ≡ ys ++ vs → (xs ≡ ys) × (us ≡ vs)
split_same [] [] us vs n e = (refl, e)
split_same [] (y ∷ ys) us vs n e = absurd (omega arith)
split_same (x ∷ xs) [] us vs n e = absurd (omega arith)
split_same (x ∷ xs) (y ∷ ys) us vs n e =
    let h = head_same x y (xs ++ us) (ys ++ vs) e in
    let r = split_same xs ys us vs (omega arith) h.1 in
    (ap (λ v. v ∷ xs) h.0 ∙ ap (λ v. y ∷ v) r.0, r.1)

-- the end begins with no option
pub no_option_ends : (k : Kind) (u ends : List Word) (root : Word) (named : List Word) → name_of k ∷ u ≡ ends ++ root ∷ named → EndsOptions ends → is_address root ≡ true → ⊥
no_option_ends k u ends root named e (inl h) a =
    let f : name_of k ∷ u ≡ root ∷ named = e ∙ ap (λ v. v ++ root ∷ named) h in not_address k root (head_same (name_of k) root u named f).0 a
no_option_ends k u ends root named e (inr h) a =
    let f : name_of k ∷ u ≡ codes "--" ∷ root ∷ named = e ∙ ap (λ v. v ++ root ∷ named) h in not_dashes k (head_same (name_of k) (codes "--") u (root ∷ named) f).0

-- words that begin with an option have it first
pub record First (l : Loader) (before : List Item) (k : Kind) (u : List Word) (r : Request) : Type 0 where
  pub arguments : List Word
  pub others : List Item
  pub rest : List Word
  pub item : IsItem l (record { kind = k; arguments = arguments })
  pub are : u ≡ arguments ++ rest
  pub apart : any_clash (before ++ record { kind = k; arguments = arguments } ∷ others) ≡ false
  pub after : After l (before ++ record { kind = k; arguments = arguments } ∷ []) rest r

items_snoc : (before : List Item) (i : Item) (others : List Item) → (before ++ i ∷ []) ++ others ≡ before ++ i ∷ others
items_snoc before i others = append_assoc before (i ∷ []) others

first_by : (l : Loader) (before : List Item) (k : Kind) (u ends : List Word) (root : Word) (named : List Word) (r : Request) (more : List Item)
    → name_of k ∷ u ≡ spelled more ++ (ends ++ root ∷ named) → AreItems l more → any_clash (before ++ more) ≡ false
    → EndsOptions ends → is_address root ≡ true → HasMany l named → r ≡ asking l root named (gathered (before ++ more)) → First l before k u r
first_by l before k u ends root named r [] e items apart ended address many asked = absurd (no_option_ends k u ends root named e ended address)
first_by l before k u ends root named r (j ∷ js) e items apart ended address many asked =
    let h = head_same (name_of k) (name_of j.kind) u ((j.arguments ++ spelled js) ++ (ends ++ root ∷ named)) e in
    let same_kind : j.kind ≡ k = sym (same_name k j.kind h.0) in
    let is : record { kind = k; arguments = j.arguments } ≡ j = ap (λ (v : Kind). let i : Item = record { kind = v; arguments = j.arguments } in i) (sym same_kind) in
    let snoc : (before ++ record { kind = k; arguments = j.arguments } ∷ []) ++ js ≡ before ++ j ∷ js =
    items_snoc before (record { kind = k; arguments = j.arguments }) js ∙ ap (λ v. before ++ v ∷ js) is in
    let P : Item → Type 0 = λ v. IsItem l v in
    record {
      arguments = j.arguments;
      others = js;
      rest = spelled js ++ (ends ++ root ∷ named);
      item = subst P (sym is) items.0;
      are = h.1 ∙ append_assoc j.arguments (spelled js) (ends ++ root ∷ named);
      apart = ap (λ v. any_clash (before ++ v ∷ js)) is ∙ apart;
      after = record {
        more = js;
        ends = ends;
        root = root;
        named = named;
        are = refl;
        items = items.1;
        apart = ap any_clash snoc ∙ apart;
        ended = ended;
        address = address;
        many = many;
        asked = asked ∙ ap (λ v. asking l root named (gathered v)) (sym snoc);
      };
    }

pub first_of_after : (l : Loader) (before : List Item) (k : Kind) (u : List Word) (r : Request) → After l before (name_of k ∷ u) r → First l before k u r
first_of_after l before k u r a =
    first_by l before k u a.ends a.root a.named r a.more a.are a.items a.apart a.ended a.address a.many a.asked

-- one option on
pub step_in : (l : Loader) (before : List Item) (i : Item) (t : List Word) (r : Request) → IsItem l i → After l before (name_of i.kind ∷ (i.arguments ++ t)) r
    → After l (before ++ i ∷ []) t r
step_in l before i t r item a =
    let f = first_of_after l before i.kind (i.arguments ++ t) r a in
    let s = split_same i.arguments f.arguments t f.rest (are_many (forms i.kind) i.arguments item.1 ∙ sym (are_many (forms i.kind) f.arguments f.item.1)) f.are in
    let is : record { kind = i.kind; arguments = f.arguments } ≡ i = ap (λ (v : List Word). let j : Item = record { kind = i.kind; arguments = v } in j) (sym s.0) in
    let P : List Word → Type 0 = λ v. After l (before ++ i ∷ []) v r in
    let Q : Item → Type 0 = λ v. After l (before ++ v ∷ []) f.rest r in
    subst P (sym s.1) (subst Q is f.after)

pub step_out : (l : Loader) (before : List Item) (i : Item) (t : List Word) (r : Request) → IsItem l i → After l (before ++ i ∷ []) t r
    → After l before (name_of i.kind ∷ (i.arguments ++ t)) r
step_out l before i t r item a =
    let snoc = items_snoc before i a.more in
    record {
      more = i ∷ a.more;
      ends = a.ends;
      root = a.root;
      named = a.named;
      are = ap (λ v. name_of i.kind ∷ (i.arguments ++ v)) a.are
          ∙ ap (λ v. name_of i.kind ∷ v) (sym (append_assoc i.arguments (spelled a.more) (a.ends ++ a.root ∷ a.named)));
      items = (item, a.items);
      apart = ap any_clash (sym snoc) ∙ a.apart;
      ended = a.ended;
      address = a.address;
      many = a.many;
      asked = a.asked ∙ ap (λ v. asking l a.root a.named (gathered v)) snoc;
    }

-- all options on
pub all_in : (l : Loader) (is before : List Item) (t : List Word) (r : Request) → AreItems l is → After l before (spelled is ++ t) r → After l (before ++ is) t r
all_in l [] before t r items a = let P : List Item → Type 0 = λ v. After l v t r in subst P (sym (append-nil before)) a
all_in l (i ∷ is) before t r items a =
    let P : List Word → Type 0 = λ v. After l before (name_of i.kind ∷ v) r in
    let Q : List Item → Type 0 = λ v. After l v t r in
    let one = step_in l before i (spelled is ++ t) r items.0 (subst P (append_assoc i.arguments (spelled is) t) a) in
    subst Q (items_snoc before i is) (all_in l is (before ++ i ∷ []) t r items.1 one)

pub all_out : (l : Loader) (is before : List Item) (t : List Word) (r : Request) → AreItems l is → After l (before ++ is) t r → After l before (spelled is ++ t) r
all_out l [] before t r items a = let P : List Item → Type 0 = λ v. After l v t r in subst P (append-nil before) a
all_out l (i ∷ is) before t r items a =
    let P : List Word → Type 0 = λ v. After l before (name_of i.kind ∷ v) r in
    let Q : List Item → Type 0 = λ v. After l v t r in
    subst P (sym (append_assoc i.arguments (spelled is) t))
    (step_out l before i (spelled is ++ t) r items.0 (all_out l is (before ++ i ∷ []) t r items.1 (subst Q (sym (items_snoc before i is)) a)))

pub root_address : is_address (codes "/") ≡ true
unfolding is_address is_carried chars
root_address = refl

-- as many words as the command has behind the root
abbrev pub names : Loader → List Word
names l = replicate (count_of l) []

-- no more than the command has there are as many
pub just_many : (more : Bool) (least n : ℕ) → n ≡ least → AreMany more least n
just_many true least n e = omega (arith, e)
just_many false least n e = e

pub names_many : (l : Loader) → HasMany l (names l)
names_many l = just_many (takes_more l) (count_of l) (length (names l)) (length-replicate {A = Word} (count_of l) [])

-- options that may stand together go on
pub live : (l : Loader) (before : List Item) → any_clash before ≡ false → BeginsRight (Asks (After l before)) []
live l before apart = (
  codes "/" ∷ names l,
  (
    asking l (codes "/") (names l) (gathered (before ++ [])),
    record {
      more = [];
      ends = [];
      root = codes "/";
      named = names l;
      are = refl;
      items = tt;
      apart = ap any_clash (append-nil before) ∙ apart;
      ended = inl refl;
      address = root_address;
      many = names_many l;
      asked = refl;
    },
  ),
)

-- an option that may be added goes on from any front of its arguments
pub live_within : (l : Loader) (before : List Item) (k : Kind) (front rest : List Word) → any_clash before ≡ false → IsItem l (record { kind = k; arguments = front ++ rest })
    → list_any (λ y. clash y (record { kind = k; arguments = front ++ rest })) before ≡ false → BeginsRight (Asks (After l before)) (name_of k ∷ front)
live_within l before k front rest apart item free =
    let i : Item = record { kind = k; arguments = front ++ rest } in
    let on = live l (before ++ i ∷ []) (clash_push before i apart free) in
    let P : List Word → Type 0 = λ v. After l before (name_of k ∷ v) on.1.0 in
    (rest ++ on.0, (on.1.0, subst P (append_assoc front rest on.0) (step_out l before i on.0 on.1.0 item on.1.1)))

-- one option more sets what it says
last_push : {X : Type 0} → (xs : List X) (x : X) → last (xs ++ x ∷ []) ≡ Some x
last_push [] x = refl
last_push (y ∷ xs) x = ap (λ o. option_or o (Some y)) (last_push xs x)

one_more : (before : List Item) (k : Kind) (args : List Word) → gathered (before ++ record { kind = k; arguments = args } ∷ []) ≡ set k args (gathered before)
unfolding gathered
one_more before kind.Command args = simp (flat_map-append, list_any-append, append-nil, or-false, last_push)
one_more before kind.NoCommand args = simp (flat_map-append, list_any-append, append-nil, or-false, last_push)
one_more before kind.Version args = simp (or-true, flat_map-append, list_any-append, append-nil, or-false)
one_more before kind.VersionFor args = simp (flat_map-append, list_any-append, append-nil, or-false)
one_more before kind.Os args = simp (flat_map-append, list_any-append, append-nil, or-false, last_push)
one_more before kind.Cpu args = simp (flat_map-append, list_any-append, append-nil, or-false, last_push)
one_more before kind.Lang args = simp (flat_map-append, list_any-append, append-nil, or-false)
one_more before kind.Level args = simp (flat_map-append, list_any-append, append-nil, or-false, last_push)
one_more before kind.Network args = simp (flat_map-append, list_any-append, append-nil, or-false, last_push)
one_more before kind.Use args = simp (flat_map-append, list_any-append, append-nil, or-false)
one_more before kind.Rate args = simp (flat_map-append, list_any-append, append-nil, or-false)
one_more before kind.Search args = simp (flat_map-append, list_any-append, append-nil, or-false, last_push)
one_more before kind.Proof args = simp (or-true, flat_map-append, list_any-append, append-nil, or-false)

pub gathered-none : gathered [] ≡ nothing
unfolding gathered
gathered-none = refl

pub gathered-more : (before : List Item) (i : Item) → gathered (before ++ i ∷ []) ≡ set i.kind i.arguments (gathered before)
gathered-more before i = one_more before i.kind i.arguments

pub spelled-append : (is js : List Item) → spelled (is ++ js) ≡ spelled is ++ spelled js
spelled-append [] js = refl
spelled-append (i ∷ is) js =
    ap (λ v. name_of i.kind ∷ v) (ap (λ v. i.arguments ++ v) (spelled-append is js) ∙ sym (append_assoc i.arguments (spelled is) (spelled js)))

pub items_append : (l : Loader) (is : List Item) (j : Item) → AreItems l is → IsItem l j → AreItems l (is ++ j ∷ [])
items_append l [] j h k = (k, tt)
items_append l (i ∷ is) j h k = (h.0, items_append l is j h.1 k)
