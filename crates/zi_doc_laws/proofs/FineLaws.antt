-- Nodes of which everything holds that a tree keeps, one behind another.
use Rattle.std.specs.Prelude.{max}
use Rattle.std.proofs.Common.{◌≡◌, ℕ, suc, ◌+◌, ◌-◌, ◌≤◌, ◌<◌, false, List, [], ◌∷◌, ◌++◌, refl, sym, ap, ◌∙◌, subst, append_assoc, arith, append-nil}
use Rattle.std.proofs.Math.Nat.{max-le}
use Rattle.zi_elements.specs.declared.element.Attr.{Attr}
use Rattle.zi_elements.specs.declared.element.Element.{Element, fold_out-Element}
use Rattle.zi_elements.specs.declared.element.Node.{Node, fold-roll-Node}
use Rattle.zi_elements.specs.declared.element.Node.TheOpen.{Node-F}
use Rattle.zi_elements.specs.declared.element.Node.TheVariants as kinds
use Rattle.zi_elements.specs.Forest.{Forest, none, words, child, joined, node_step, element_step, node_view, nodes_view, depth}
use Rattle.zi_xml.specs.Meaning.{Level, Frame, flush, settled, element_of, adopt}
use Rattle.zi_elements.specs.Places.{places, IsBelow, AreRising}
use Rattle.zi_doc_laws.specs.Trees.{has_text_first, HasWholeTexts, HasTag, HasTags, IsCarried, HasCarriedValues, HasCarriedTexts}
use Rattle.zi_doc_laws.proofs.CarriedLaws.{none_carried}
use Rattle.zi_doc_laws.proofs.PastLaws.{Past}

-- Nodes one behind another.

pub joined_none : (f : Forest) → joined f none ≡ f
joined_none none = refl
joined_none (words t f) = ap (words t) (joined_none f)
joined_none (child s n a k p f) = ap (child s n a k p) (joined_none f)

pub joined_assoc : (f g h : Forest) → joined (joined f g) h ≡ joined f (joined g h)
joined_assoc none g h = refl
joined_assoc (words t f) g h = ap (words t) (joined_assoc f g h)
joined_assoc (child s n a k p f) g h = ap (child s n a k p) (joined_assoc f g h)

pub nodes_append : (xs ys : List Node) → nodes_view (xs ++ ys) ≡ joined (nodes_view xs) (nodes_view ys)
nodes_append [] ys = refl
nodes_append (x ∷ xs) ys = ap (joined (node_view x)) (nodes_append xs ys) ∙ sym (joined_assoc (node_view x) (nodes_view xs) (nodes_view ys))

pub child_alone : (e : Element) → nodes_view (kinds.Child e ∷ []) ≡ child e.space e.name e.attrs (nodes_view e.children) e.place none
child_alone e =
    joined_none (node_view (kinds.Child e))
    ∙ (ap node_view (sym (kinds.rolls-Child e)) ∙ (fold-roll-Node Forest Forest node_step element_step (Node-F.Child e) ∙ fold_out-Element Forest Forest node_step element_step e))

words_alone : (t : List ℕ) → nodes_view (kinds.Words t ∷ []) ≡ words t none
words_alone t = joined_none (node_view (kinds.Words t)) ∙ (ap node_view (sym (kinds.rolls-Words t)) ∙ fold-roll-Node Forest Forest node_step element_step (Node-F.Words t))

-- a text before nodes, unless it is empty
abbrev pub text_before : List ℕ → Forest → Forest
text_before [] g = g
text_before (c ∷ cs) g = words (c ∷ cs) g

flush_view : (t : List ℕ) (g : Forest) → joined (nodes_view (flush t)) g ≡ text_before t g
flush_view [] g = refl
flush_view (c ∷ cs) g = ap (λ v. joined v g) (words_alone (c ∷ cs))

before_joined : (t : List ℕ) (f g : Forest) → joined (text_before t f) g ≡ text_before t (joined f g)
before_joined [] f g = refl
before_joined (c ∷ cs) f g = refl

-- the children so far
pub settled_view : (l : Level) → nodes_view (settled l) ≡ joined (nodes_view l.before) (text_before l.letters none)
settled_view l = nodes_append l.before (flush l.letters) ∙ ap (joined (nodes_view l.before)) (sym (joined_none (nodes_view (flush l.letters))) ∙ flush_view l.letters none)

-- the element of a frame, its children being known
abbrev pub framed_child : Frame → Level → Forest → Forest
framed_child f l g = child f.space f.local f.attrs (joined (nodes_view l.before) (text_before l.letters none)) f.outer.at g

pub adopt_view : (f : Frame) (l : Level) → nodes_view (adopt f l).before ≡ joined (nodes_view f.outer.before) (text_before f.outer.letters (framed_child f l none))
adopt_view f l =
    let e : Element = element_of f (settled l) in
    let c : Forest = framed_child f l none in
    let made : nodes_view (kinds.Child e ∷ []) ≡ c = child_alone e ∙ ap (λ v. child f.space f.local f.attrs v f.outer.at none) (settled_view l) in
    nodes_append (settled f.outer) (kinds.Child e ∷ [])
    ∙ (ap (joined (nodes_view (settled f.outer))) made
    ∙ (ap (λ v. joined v c) (nodes_append f.outer.before (flush f.outer.letters))
    ∙ (joined_assoc (nodes_view f.outer.before) (nodes_view (flush f.outer.letters)) c ∙ ap (joined (nodes_view f.outer.before)) (flush_view f.outer.letters c))))

-- Places.

places_joined : (f g : Forest) → places (joined f g) ≡ places f ++ places g
places_joined none g = refl
places_joined (words t f) g = places_joined f g
places_joined (child s n a k p f) g = ap (λ v. p ∷ (places k ++ v)) (places_joined f g) ∙ ap (λ v. p ∷ v) (sym (append_assoc (places k) (places f) (places g)))

places_before : (t : List ℕ) (g : Forest) → places (text_before t g) ≡ places g
places_before [] g = refl
places_before (c ∷ cs) g = refl

inside_places : (l : Level) → places (joined (nodes_view l.before) (text_before l.letters none)) ≡ places (nodes_view l.before)
inside_places l =
    places_joined (nodes_view l.before) (text_before l.letters none) ∙ (ap (λ v. places (nodes_view l.before) ++ v) (places_before l.letters none) ∙ append-nil (places (nodes_view l.before)))

adopt_places : (f : Frame) (l : Level) (qs : List ℕ) → places (nodes_view (adopt f l).before) ++ qs ≡ places (nodes_view f.outer.before) ++ f.outer.at ∷ (places (nodes_view l.before) ++ qs)
adopt_places f l qs =
    let o : List ℕ = places (nodes_view f.outer.before) in
    let c : Forest = framed_child f l none in
    let inside : places c ≡ f.outer.at ∷ places (nodes_view l.before) =
    ap (λ v. f.outer.at ∷ v) (append-nil (places (joined (nodes_view l.before) (text_before l.letters none))) ∙ inside_places l) in
    let all : places (nodes_view (adopt f l).before) ≡ o ++ f.outer.at ∷ places (nodes_view l.before) =
    ap places (adopt_view f l) ∙ (places_joined (nodes_view f.outer.before) (text_before f.outer.letters c) ∙ ap (λ v. o ++ v) (places_before f.outer.letters c ∙ inside)) in
    ap (λ v. v ++ qs) all ∙ append_assoc o (f.outer.at ∷ places (nodes_view l.before)) qs

-- the first is no less than this, and each of the others is greater than the one before it
abbrev pub RisesFrom : ℕ → List ℕ → Type 0
RisesFrom n [] = Unit {0}
RisesFrom n (p ∷ ps) = (n ≤ p) × RisesFrom (suc p) ps

pub rises_sooner : (m n : ℕ) (ps : List ℕ) → m ≤ n → RisesFrom n ps → RisesFrom m ps
rises_sooner m n [] h r = tt
rises_sooner m n (p ∷ ps) h r = (first m n p h r.0, r.1)
  where
    first : (m n p : ℕ) → m ≤ n → n ≤ p → m ≤ p
    first m n p h k = omega arith

all_above : (p n : ℕ) (qs : List ℕ) → p < n → RisesFrom n qs → IsBelow p qs
all_above p n [] h r = tt
all_above p n (q ∷ qs) h r = (near p n q h r.0, all_above p (suc q) qs (far p n q h r.0) r.1)
  where
    near : (p n q : ℕ) → p < n → n ≤ q → p < q
    near p n q h k = omega arith

    far : (p n q : ℕ) → p < n → n ≤ q → p < suc q
    far p n q h k = omega arith

pub rising : (n : ℕ) (ps : List ℕ) → RisesFrom n ps → AreRising ps
rising n [] r = tt
rising n (p ∷ ps) r = (all_above p (suc p) ps (omega arith) r.1, rising (suc p) ps r.1)

-- Everything else that a tree keeps, of nodes that so many elements stand around.

pub record Fine (w : List ℕ) (d : ℕ) (f : Forest) : Type 0 where
  pub deep : depth f + d ≤ 64
  pub texts : HasWholeTexts f
  pub tags : HasTags w f
  pub carried : HasCarriedTexts f

pub fine_none : (w : List ℕ) (d : ℕ) → d ≤ 64 → Fine w d none
fine_none w d h = record { deep = omega arith; texts = tt; tags = tt; carried = tt }

-- a text before what doesn't begin with one
fine_before : (w : List ℕ) (d : ℕ) (t : List ℕ) (g : Forest) → IsCarried t → has_text_first g ≡ false → Fine w d g → Fine w d (text_before t g)
fine_before w d [] g h k x = x
fine_before w d (c ∷ cs) g h k x = record { deep = x.deep; texts = (refl, (k, x.texts)); tags = x.tags; carried = (h, x.carried) }

greater : (a b d : ℕ) → a + suc d ≤ 64 → b + d ≤ 64 → max (suc a) b + d ≤ 64
greater a b d h k =
    let x : suc a ≤ 64 - d = omega arith in
    let y : b ≤ 64 - d = omega arith in
    let z : max (suc a) b ≤ 64 - d = max-le x y in
    let near : d ≤ 64 = omega arith in
    omega (arith, z, near)

fine_child : (w : List ℕ) (d : ℕ) (s n : List ℕ) (attrs : List Attr) (f : Forest) (p : ℕ) (g : Forest) → HasTag w p n → HasCarriedValues attrs → Fine w (suc d) f → Fine w d g
    → Fine w d (child s n attrs f p g)
fine_child w d s n attrs f p g tag values x y = record {
  deep = greater (depth f) (depth g) d x.deep y.deep;
  texts = (x.texts, y.texts);
  tags = (tag, (x.tags, y.tags));
  carried = (values, (x.carried, y.carried));
}

-- What is known of nodes so far, whatever fine nodes come behind them; their places rise from lo and are before at.
pub record Opened (w : List ℕ) (lo d at : ℕ) (f : Forest) : Type 0 where
  pub fine : (g : Forest) → Fine w d g → Fine w d (joined f g)
  pub order : (qs : List ℕ) → RisesFrom at qs → RisesFrom lo (places f ++ qs)

-- and of the text behind them
pub record Good (w : List ℕ) (lo d : ℕ) (l : Level) : Type 0 where
  pub nodes : Opened w lo d l.at (nodes_view l.before)
  pub letters : IsCarried l.letters

later : (w : List ℕ) (lo d at to : ℕ) (f : Forest) → at ≤ to → Opened w lo d at f → Opened w lo d to f
later w lo d at to f h x = record { fine = x.fine; order = λ qs r. x.order qs (rises_sooner at to qs h r) }

no_less : (a b n : ℕ) → b ≡ a + n → a ≤ b
no_less a b n h = omega arith

-- past what adds to the text alone
pub goes_on : (w : List ℕ) (lo d : ℕ) (cs : List ℕ) (l m : Level) → Past cs l m → Good w lo d l → Good w lo d m
goes_on w lo d cs l m x g =
    let P : List Node → Type 0 = λ v. Opened w lo d m.at (nodes_view v) in
    record {
      nodes = subst P (sym x.before) (later w lo d l.at m.at (nodes_view l.before) (no_less l.at m.at _ x.at) g.nodes);
      letters = x.letters g.letters;
    }

-- where nothing stands yet
pub good_start : (w : List ℕ) (lo d : ℕ) (l : Level) → l.before ≡ [] → lo ≤ l.at → IsCarried l.letters → Good w lo d l
good_start w lo d l e h c =
    let P : List Node → Type 0 = λ v. Opened w lo d l.at (nodes_view v) in
    let start : Opened w lo d l.at none = record { fine = λ g x. x; order = λ qs r. rises_sooner lo l.at qs h r } in
    record { nodes = subst P (sym e) start; letters = c }

-- the children of an element that ends
ended : (w : List ℕ) (lo d : ℕ) (l : Level) → d ≤ 64 → Good w lo d l → Fine w d (joined (nodes_view l.before) (text_before l.letters none))
ended w lo d l h g = g.nodes.fine (text_before l.letters none) (fine_before w d l.letters none g.letters refl (fine_none w d h))

-- an element is whole, and stands among those before it
pub good_adopted : (w : List ℕ) (lo d : ℕ) (f : Frame) (m : Level) → d < 64 → HasTag w f.outer.at f.local → HasCarriedValues f.attrs → Good w lo d f.outer → Good w (suc f.outer.at) (suc d) m
    → Good w lo d (adopt f m)
good_adopted w lo d f m near tag values out in_ =
    let o : Forest = nodes_view f.outer.before in
    let t : List ℕ = f.outer.letters in
    let inside : Forest = joined (nodes_view m.before) (text_before m.letters none) in
    let deep : suc d ≤ 64 = omega arith in
    let whole : (g : Forest) → joined (nodes_view (adopt f m).before) g ≡ joined o (text_before t (framed_child f m g)) =
    λ g. ap (λ v. joined v g) (adopt_view f m) ∙ (joined_assoc o (text_before t (framed_child f m none)) g ∙ ap (joined o) (before_joined t (framed_child f m none) g)) in
    let parts : (g : Forest) → Fine w d g → Fine w d (joined o (text_before t (framed_child f m g))) =
    λ g x. out.nodes.fine (text_before t (framed_child f m g))
    (fine_before w d t (framed_child f m g) out.letters refl
    (fine_child w d f.space f.local f.attrs inside f.outer.at g tag values (ended w (suc f.outer.at) (suc d) m deep in_) x)) in
    let rise : (qs : List ℕ) → RisesFrom m.at qs → RisesFrom lo (places o ++ f.outer.at ∷ (places (nodes_view m.before) ++ qs)) =
    λ qs r. out.nodes.order (f.outer.at ∷ (places (nodes_view m.before) ++ qs)) (omega arith, in_.nodes.order qs r) in
    record {
      nodes = record {
        fine = λ g x. subst (λ (v : Forest). Fine w d v) (sym (whole g)) (parts g x);
        order = λ qs r. subst (λ (v : List ℕ). RisesFrom lo v) (sym (adopt_places f m qs)) (rise qs r);
      };
      letters = none_carried;
    }
