-- The words behind the options: the root, and those that the command has behind it.
use Rattle.std.proofs.Common.{◌≡◌, ◌≢◌, ℕ, ◌-◌, ◌<◌, Bool, true, false, List, [], ◌∷◌, ◌++◌, length, take, drop, replicate, refl, sym, ap, ◌∙◌, subst, arith, ◌⊎◌, inl, inr}
use Rattle.std.specs.Prelude.{codes}
use Rattle.std.proofs.lemmas.List.{append-nil, length-append, length-replicate, length-take, length-drop, take-append-drop}
use Rattle.zi_text.specs.Front.{BeginsRight}
use Rattle.zi_words.specs.declared.loader.Loader.{Loader}
use Rattle.zi_words.specs.declared.loader.Loader.TheVariants as loader
use Rattle.zi_words.specs.declared.asked.Asked.{Asked}
use Rattle.zi_words.specs.declared.request.Request.{Request}
use Rattle.zi_words.specs.declared.refusal.Refusal.{Refusal}
use Rattle.zi_words.specs.declared.refusal.Refusal.TheVariants.{Left, Memory}
use Rattle.zi_words.specs.Forms.{Word, is_address}
use Rattle.zi_words.specs.Options.{Item, AreItems, name_of, spelled, any_clash, gathered}
use Rattle.zi_words.specs.Words.{EndsOptions, count_of, takes_more, AreMany, HasMany, asking, AsksLoading}
use Rattle.zi_words.specs.Refused.{Asks, LeftAt, Refused}
use Rattle.zi_words.specs.Taken.{NoOption, Gathers, IsEnd, PastDashes}
use Rattle.zi_words.proofs.LeftLemmas.{behind, alike, stuck, short, stuck_with, stopped}
use Rattle.zi_words.proofs.KindLemmas.{not_dashes, dashes_address}
use Rattle.zi_words.proofs.OptionLemmas.{After, live, names, just_many, names_many, root_address}
use Rattle.zi_words.proofs.TurnLemmas.{lifted}
use Rattle.zi_text.proofs.ListLaws.{head_same}

begun : (l : Loader) → BeginsRight (Asks (IsEnd l)) []
begun l = (codes "/" ∷ names l, ((codes "/", names l), (refl, root_address, names_many l)))

pub end_none : (l : Loader) (ws : List Word) → length ws ≡ 0 → LeftAt (Asks (IsEnd l)) ws 0
end_none l [] e = short (Asks (IsEnd l)) [] (begun l) (λ (v, h). let f = h.0 in cc)
end_none l (w ∷ ws) e = absurd (omega arith)

pub end_wrong : (l : Loader) (ws rest : List Word) (w : Word) → ws ≡ w ∷ rest → is_address w ≡ false → LeftAt (Asks (IsEnd l)) ws (length ws)
end_wrong l ws rest w e h =
    let P : List Word → Type 0 = λ v. LeftAt (Asks (IsEnd l)) v (length v) in
    subst P (sym e) (stuck (Asks (IsEnd l)) [] w rest (begun l) (λ (more, (v, a)). wrong more v.0 v.1 a.0 a.1))
  where
    wrong : (more : List Word) (root : Word) (named : List Word) → w ∷ more ≡ root ∷ named → is_address root ≡ true → ⊥
    wrong more root named f a = let g : false ≡ true = sym h ∙ (ap is_address (head_same w root more named f).0 ∙ a) in cc

-- where no more may follow they are as many as the command has
none_more : (more : Bool) (least n : ℕ) → more ≡ false → AreMany more least n → n ≡ least
none_more true least n e h = cc
none_more false least n e h = h

pub just_ended : (l : Loader) (named : List Word) → length named ≡ count_of l → HasMany l named
just_ended l named e = just_many (takes_more l) (count_of l) (length named) e

-- where more may follow, any number is
pub open_ended : (l : Loader) (named : List Word) → takes_more l ≡ true → HasMany l named
open_ended loader.Select named e = cc
open_ended loader.Download named e = cc
open_ended loader.Run named e = omega arith
open_ended loader.Check named e = cc
open_ended loader.Refute named e = cc
open_ended loader.Why named e = cc
open_ended loader.Conflict named e = cc
open_ended loader.Script named e = omega arith

-- words are missing
pub end_short : (l : Loader) (ws rest : List Word) (w : Word) → takes_more l ≡ false → ws ≡ w ∷ rest → is_address w ≡ true → length rest < count_of l → LeftAt (Asks (IsEnd l)) ws 0
end_short l ws rest w closed e h few =
    let P : List Word → Type 0 = λ v. LeftAt (Asks (IsEnd l)) v 0 in
    let left = replicate {A = Word} (count_of l - length rest) [] in
    let fits : length (rest ++ left) ≡ count_of l = omega (arith, few, length-append rest left, length-replicate {A = Word} (count_of l - length rest) []) in
    subst P (sym e) (short (Asks (IsEnd l)) (w ∷ rest) (left, ((w, rest ++ left), (refl, h, just_ended l (rest ++ left) fits))) (λ (v, a). wrong v.0 v.1 a.0 a.2))
  where
    wrong : (root : Word) (named : List Word) → w ∷ rest ≡ root ∷ named → HasMany l named → ⊥
    wrong root named f n =
        let g : length rest ≡ length named = ap length (head_same w root rest named f).1 in
        let k : length named ≡ count_of l = none_more (takes_more l) (count_of l) (length named) closed n in
        absurd (omega (arith, few, g, k))

stuck_some : (back t : List Word) → 0 < length back → 0 < length (stuck_with back t)
stuck_some [] t h = h
stuck_some (w ∷ back) t h = omega arith

-- too many words stand there
pub end_more : (l : Loader) (ws rest : List Word) (w : Word) → takes_more l ≡ false → ws ≡ w ∷ rest → is_address w ≡ true → count_of l < length rest
    → LeftAt (Asks (IsEnd l)) ws (length rest - count_of l)
end_more l ws rest w closed e h some =
    let P : List Word → Type 0 = λ v. LeftAt (Asks (IsEnd l)) v (length rest - count_of l) in
    let Q : List Word → Type 0 = λ v. LeftAt (Asks (IsEnd l)) (w ∷ v) (length rest - count_of l) in
    let N : ℕ → Type 0 = λ n. LeftAt (Asks (IsEnd l)) (w ∷ (front ++ back)) n in
    subst P (sym e) (subst Q (take-append-drop (count_of l) rest) (subst N (length-drop (count_of l) rest)
    (stopped (Asks (IsEnd l)) (w ∷ front) back ([], ((w, front ++ []), (refl, h, just_ended l (front ++ []) (ap length (append-nil front) ∙ taken)))) (λ t (v, a). wrong t v.0 v.1 a.0 a.2))))
  where
    front : List Word
    front = take (count_of l) rest

    back : List Word
    back = drop (count_of l) rest

    taken : length front ≡ count_of l
    taken = omega (arith, some, length-take (count_of l) rest)

    wrong : (t : List Word) (root : Word) (named : List Word) → w ∷ (front ++ stuck_with back t) ≡ root ∷ named → HasMany l named → ⊥
    wrong t root named f n =
        let g : length (front ++ stuck_with back t) ≡ length named = ap length (head_same w root (front ++ stuck_with back t) named f).1 in
        let more = stuck_some back t (omega (arith, some, length-drop (count_of l) rest)) in
        let k : length named ≡ count_of l = none_more (takes_more l) (count_of l) (length named) closed n in
        absurd (omega (arith, more, taken, k, g, length-append front (stuck_with back t)))

-- where no option comes next, the end does
pub record Ends (l : Loader) (options : List Item) (u : List Word) (r : Request) : Type 0 where
  pub root : Word
  pub named : List Word
  pub address : is_address root ≡ true
  pub many : HasMany l named
  pub are : (u ≡ root ∷ named) ⊎ (u ≡ codes "--" ∷ root ∷ named)
  pub asked : r ≡ asking l root named (gathered options)

ends_are : (u ends : List Word) (root : Word) (named : List Word) → u ≡ ends ++ root ∷ named → EndsOptions ends → (u ≡ root ∷ named) ⊎ (u ≡ codes "--" ∷ root ∷ named)
ends_are u ends root named e (inl h) = inl (e ∙ ap (λ v. v ++ root ∷ named) h)
ends_are u ends root named e (inr h) = inr (e ∙ ap (λ v. v ++ root ∷ named) h)

ends_by : (l : Loader) (options : List Item) (u : List Word) (r : Request) (more : List Item) (ends : List Word) (root : Word) (named : List Word) → NoOption l u
    → u ≡ spelled more ++ (ends ++ root ∷ named) → AreItems l more → EndsOptions ends → is_address root ≡ true → HasMany l named
    → r ≡ asking l root named (gathered (options ++ more)) → Ends l options u r
ends_by l options u r [] ends root named none e items h a n q = record {
  root = root;
  named = named;
  address = a;
  many = n;
  are = ends_are u ends root named e h;
  asked = q ∙ ap (λ v. asking l root named (gathered v)) (append-nil options);
}
ends_by l options u r (j ∷ js) ends root named none e items h a n q =
    absurd (none j.kind ((j.arguments ++ spelled js) ++ (ends ++ root ∷ named)) items.0.0 e)

pub ends_next : (l : Loader) (options : List Item) (u : List Word) (r : Request) → NoOption l u → After l options u r → Ends l options u r
ends_next l options u r none a = ends_by l options u r a.more a.ends a.root a.named none a.are a.items a.ended a.address a.many a.asked

-- no option comes first, whatever comes behind the first word
no_option_first : (l : Loader) (w : Word) (t u : List Word) → NoOption l (w ∷ t) → NoOption l (w ∷ u)
no_option_first l w t u none k v its e = none k t its (ap (λ x. x ∷ t) (head_same w (name_of k) u v e).0)

no_option_none : (l : Loader) → NoOption l []
no_option_none l k v its e = cc

-- the end as the rest of right words
end_after : (l : Loader) (options : List Item) (ends : List Word) (root : Word) (named : List Word) → any_clash options ≡ false → EndsOptions ends → is_address root ≡ true
    → HasMany l named → Asks (After l options) (ends ++ root ∷ named)
end_after l options ends root named apart ended a n = (
  asking l root named (gathered (options ++ [])),
  record {
    more = [];
    ends = ends;
    root = root;
    named = named;
    are = refl;
    items = tt;
    apart = ap any_clash (append-nil options) ∙ apart;
    ended = ended;
    address = a;
    many = n;
    asked = refl;
  },
)

module _ (l : Loader) (options : List Item) (apart : any_clash options ≡ false) where
  dashes_none : (u : List Word) → NoOption l (codes "--" ∷ u)
  dashes_none u k v its e = not_dashes k (sym (head_same (codes "--") (name_of k) u v e).0)

  down_dashes : (u : List Word) → Asks (After l options) (codes "--" ∷ u) → Asks (IsEnd l) u
  down_dashes u (r, a) = by_ends (ends_next l options (codes "--" ∷ u) r (dashes_none u) a)
    where
      by : (root : Word) (named : List Word) → is_address root ≡ true → HasMany l named
          → (codes "--" ∷ u ≡ root ∷ named) ⊎ (codes "--" ∷ u ≡ codes "--" ∷ root ∷ named) → Asks (IsEnd l) u
      by root named h n (inl e) = let f : false ≡ true = sym dashes_address ∙ (ap is_address (head_same (codes "--") root u named e).0 ∙ h) in absurd cc
      by root named h n (inr e) = ((root, named), ((head_same (codes "--") (codes "--") u (root ∷ named) e).1, h, n))

      by_ends : Ends l options (codes "--" ∷ u) r → Asks (IsEnd l) u
      by_ends e = by e.root e.named e.address e.many e.are

  up_dashes : (u : List Word) → Asks (IsEnd l) u → Asks (After l options) (codes "--" ∷ u)
  up_dashes u (v, (e, h, n)) =
      let P : List Word → Type 0 = λ v. Asks (After l options) (codes "--" ∷ v) in
      subst P (sym e) (end_after l options (codes "--" ∷ []) v.0 v.1 apart (inr refl) h n)

  -- behind `--`
  pub dashes_left : (rest : List Word) (n : ℕ) → LeftAt (Asks (IsEnd l)) rest n → LeftAt (Asks (After l options)) (codes "--" ∷ rest) n
  dashes_left rest n at = behind (Asks (After l options)) (Asks (IsEnd l)) (codes "--" ∷ []) rest down_dashes up_dashes n at

  down_plain : (w : Word) (t u : List Word) → NoOption l (w ∷ t) → ((v : List Word) → w ∷ t ≢ codes "--" ∷ v) → Asks (After l options) (w ∷ u) → Asks (IsEnd l) (w ∷ u)
  down_plain w t u none other (r, a) = by_ends (ends_next l options (w ∷ u) r (no_option_first l w t u none) a)
    where
      by : (root : Word) (named : List Word) → is_address root ≡ true → HasMany l named
          → (w ∷ u ≡ root ∷ named) ⊎ (w ∷ u ≡ codes "--" ∷ root ∷ named) → Asks (IsEnd l) (w ∷ u)
      by root named h n (inl e) = ((root, named), (e, h, n))
      by root named h n (inr e) = absurd (other t (ap (λ x. x ∷ t) (head_same w (codes "--") u (root ∷ named) e).0))

      by_ends : Ends l options (w ∷ u) r → Asks (IsEnd l) (w ∷ u)
      by_ends e = by e.root e.named e.address e.many e.are

  up_plain : (u : List Word) → Asks (IsEnd l) u → Asks (After l options) u
  up_plain u (v, (e, h, n)) =
      let P : List Word → Type 0 = λ v. Asks (After l options) v in
      subst P (sym e) (end_after l options [] v.0 v.1 apart (inl refl) h n)

  nothing_left : (r : Request) → After l options [] r → ⊥
  nothing_left r a = by_ends (ends_next l options [] r (no_option_none l) a)
    where
      by : (root : Word) (named : List Word) → ([] ≡ root ∷ named) ⊎ ([] ≡ codes "--" ∷ root ∷ named) → ⊥
      by root named (inl e) = cc
      by root named (inr e) = cc

      by_ends : Ends l options [] r → ⊥
      by_ends e = by e.root e.named e.are

  -- without `--`
  pub plain_left : (left : List Word) (n : ℕ) → NoOption l left → ((v : List Word) → left ≢ codes "--" ∷ v) → LeftAt (Asks (IsEnd l)) left n
      → LeftAt (Asks (After l options)) left n
  plain_left [] n none other at =
      let P : ℕ → Type 0 = λ m. LeftAt (Asks (After l options)) [] m in
      let e : 0 ≡ n = omega (arith, at.within) in
      subst P e (short (Asks (After l options)) [] (live l options apart) (λ (r, a). nothing_left r a))
  plain_left (w ∷ t) n none other at =
      alike (Asks (After l options)) (Asks (IsEnd l)) w t (λ u h. down_plain w t u none other h) (λ u h. up_plain (w ∷ u) h) (live l options apart) n at

  -- either
  pub past_left : (left rest : List Word) (n : ℕ) → NoOption l left → PastDashes left rest → LeftAt (Asks (IsEnd l)) rest n → LeftAt (Asks (After l options)) left n
  past_left left rest n none (inl e) at = let P : List Word → Type 0 = λ v. LeftAt (Asks (After l options)) v n in subst P (sym e) (dashes_left rest n at)
  past_left left rest n none (inr (e, other)) at =
      let P : List Word → Type 0 = λ v. LeftAt (Asks (IsEnd l)) v n in plain_left left n none other (subst P e at)

-- the end is wrong
pub end_refused : (l : Loader) (ws left rest : List Word) (asked : Asked) (f : Refusal) → Gathers l ws asked left → PastDashes left rest → Refused (IsEnd l) rest f
    → Refused (AsksLoading l) ws f
end_refused l ws left rest asked (Left n) g p at = lifted l ws left g.options n g.are g.items (past_left l g.options g.apart left rest n g.last p at)
end_refused l ws left rest asked Memory g p at = tt

-- all is right
pub loading_right : (l : Loader) (ws left rest : List Word) (asked : Asked) (root : Word) (named : List Word) → Gathers l ws asked left → PastDashes left rest
    → IsEnd l rest (root, named) → AsksLoading l ws (asking l root named asked)
loading_right l ws left rest asked root named g (inl e) i = record {
  options = g.options;
  ends = codes "--" ∷ [];
  root = root;
  named = named;
  are = g.are ∙ ap (λ v. spelled g.options ++ v) (e ∙ ap (λ v. codes "--" ∷ v) i.0);
  items = g.items;
  apart = g.apart;
  ended = inr refl;
  address = i.1;
  many = i.2;
  asked = ap (asking l root named) g.set_by;
}
loading_right l ws left rest asked root named g (inr (e, other)) i = record {
  options = g.options;
  ends = [];
  root = root;
  named = named;
  are = g.are ∙ ap (λ v. spelled g.options ++ v) (sym e ∙ i.0);
  items = g.items;
  apart = g.apart;
  ended = inl refl;
  address = i.1;
  many = i.2;
  asked = ap (asking l root named) g.set_by;
}
