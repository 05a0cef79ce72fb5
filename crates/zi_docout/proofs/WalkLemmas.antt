-- Elements counted one behind another.
use Rattle.std.specs.Prelude.{nat_le}
use Rattle.std.proofs.Common.{◌≡◌, ℕ, suc, zero, ◌+◌, ◌<◌, Bool, true, false, cond, List, [], ◌∷◌, ◌++◌, Some, None, Result, Ok, Err, MatchResult, refl, sym, ap, ◌∙◌, subst, append_assoc, arith}
use Rattle.std.specs.List.{position_from, slice_get}
use Rattle.std.proofs.lemmas.Bool.Decides.{nat_tests}
use Rattle.std.proofs.lemmas.List.{append-nil}
use Rattle.zi_elements.specs.declared.element.Element.{Element}
use Rattle.zi_elements.specs.declared.element.Node.{Node}
use Rattle.zi_elements.specs.declared.element.Node.TheVariants.{Child, Words}
use Rattle.zi_elements.specs.Forest.{Forest, none, words, child, joined, node_view, nodes_view, Elem, element_view}
use Rattle.zi_docout.specs.declared.fault.WriteFault.{WriteFault}
use Rattle.zi_docout.specs.declared.fault.WriteFault.TheVariants as faults
use Rattle.zi_docout.specs.Canonical.{indent, lines_text, rest_text, words_text, end_text}
use Rattle.zi_docout.specs.Amiss.{Standing, standing, standing_of, is_amiss, alone, first_amiss}
use Rattle.zi_docout.specs.Answers.{told, walk, IsFirst, Writes}
use Rattle.zi_docout.proofs.ParsedLemmas.{FineTexts, first_text}
use Rattle.zi_docout.proofs.ToldLemmas.{lone_text}
use Rattle.zi_docout.proofs.ForestLemmas.{node_alone, standing_joined, lines_joined, child_view, words_view}
use Rattle.zi_doc_laws.proofs.FineLaws.{nodes_append}

-- two spaces more
pub indent_more : (d : ℕ) → indent (d + 1) ≡ indent d ++ 32 ∷ 32 ∷ []
indent_more d = let e : d + 1 ≡ suc d = omega arith in ap indent e ∙ behind d
  where
    behind : (d : ℕ) → 32 ∷ 32 ∷ indent d ≡ indent d ++ 32 ∷ 32 ∷ []
    behind zero = refl
    behind (suc d) = ap (λ v. 32 ∷ 32 ∷ v) (behind d)

pub walk_on : (n m : ℕ) (xs ys : List Standing) → walk n xs ≡ Ok m → walk n (xs ++ ys) ≡ walk m ys
walk_on n m [] ys h = let e : n ≡ m = cc in ap (λ v. walk v ys) e
walk_on n m (x ∷ xs) ys h = each (is_amiss x) h (walk_on (told (n + 1)) m xs ys)
  where
    each : (b : Bool) → cond b (Err n) (walk (told (n + 1)) xs) ≡ Ok m → (walk (told (n + 1)) xs ≡ Ok m → walk (told (n + 1)) (xs ++ ys) ≡ walk m ys)
        → cond b (Err n) (walk (told (n + 1)) (xs ++ ys)) ≡ walk m ys
    each true k f = cc
    each false k f = f k

pub walk_off : (n p : ℕ) (xs ys : List Standing) → walk n xs ≡ Err p → walk n (xs ++ ys) ≡ Err p
walk_off n p [] ys h = cc
walk_off n p (x ∷ xs) ys h = each (is_amiss x) h (walk_off (told (n + 1)) p xs ys)
  where
    each : (b : Bool) → cond b (Err n) (walk (told (n + 1)) xs) ≡ Err p → (walk (told (n + 1)) xs ≡ Err p → walk (told (n + 1)) (xs ++ ys) ≡ Err p)
        → cond b (Err n) (walk (told (n + 1)) (xs ++ ys)) ≡ Err p
    each true k f = k
    each false k f = f k

-- what is known of nodes that were written, old standing before their lines
pub record Wrote (d n : ℕ) (xs : List Node) (old new : List ℕ) (m : ℕ) : Type 0 where
  pub walked : walk n (standing d (nodes_view xs)) ≡ Ok m
  pub text : new ≡ old ++ lines_text d (nodes_view xs)

pub wrote_none : (d n : ℕ) (old : List ℕ) → Wrote d n [] old old n
wrote_none d n old = record { walked = refl; text = sym (append-nil old) }

more : (d n m k : ℕ) (xs : List Node) (x : Node) (old mid new : List ℕ) (f : Forest) → node_view x ≡ f → Wrote d n xs old mid m → walk m (standing d f) ≡ Ok k → new ≡ mid ++ lines_text d f
    → Wrote d n (xs ++ x ∷ []) old new k
more d n m k xs x old mid new f e w h t =
    let view : nodes_view (xs ++ x ∷ []) ≡ joined (nodes_view xs) f = nodes_append xs (x ∷ []) ∙ ap (joined (nodes_view xs)) (node_alone x ∙ e) in
    record {
      walked = ap (λ v. walk n (standing d v)) view ∙ (ap (walk n) (standing_joined d (nodes_view xs) f) ∙ (walk_on n m (standing d (nodes_view xs)) (standing d f) w.walked ∙ h));
      text = t ∙ (ap (λ v. v ++ lines_text d f) w.text ∙ (append_assoc old (lines_text d (nodes_view xs)) (lines_text d f)
          ∙ ap (λ v. old ++ v) (sym (ap (lines_text d) view ∙ lines_joined d (nodes_view xs) f))));
    }

-- an element more
pub wrote_child : (d n m k : ℕ) (xs : List Node) (x : Node) (e : Element) (old mid new : List ℕ) → x ≡ Child e → Wrote d n xs old mid m
    → walk m (standing d (alone (element_view e))) ≡ Ok k → new ≡ mid ++ lines_text d (alone (element_view e)) → Wrote d n (xs ++ x ∷ []) old new k
wrote_child d n m k xs x e old mid new h w a b =
    let f : Forest = child e.space e.name e.attrs (nodes_view e.children) e.place none in
    more d n m k xs x old mid new f (ap node_view h ∙ child_view e) w a b

-- a text more, which isn't written
pub wrote_words : (d n m : ℕ) (xs : List Node) (x : Node) (t : List ℕ) (old mid : List ℕ) → x ≡ Words t → Wrote d n xs old mid m → Wrote d n (xs ++ x ∷ []) old mid m
wrote_words d n m xs x t old mid h w = more d n m m xs x old mid mid (words t none) (ap node_view h ∙ words_view t) w refl (sym (append-nil mid))

-- an element that can't be written
pub wrote_off : (d n m p : ℕ) (xs : List Node) (x : Node) (ys : List Node) (e : Element) (old mid : List ℕ) → x ≡ Child e → Wrote d n xs old mid m
    → walk m (standing d (alone (element_view e))) ≡ Err p → walk n (standing d (nodes_view (xs ++ x ∷ ys))) ≡ Err p
wrote_off d n m p xs x ys e old mid h w a =
    let f : Forest = child e.space e.name e.attrs (nodes_view e.children) e.place none in
    let view : nodes_view (xs ++ x ∷ ys) ≡ joined (nodes_view xs) (joined f (nodes_view ys)) =
    nodes_append xs (x ∷ ys) ∙ ap (λ v. joined (nodes_view xs) (joined v (nodes_view ys))) (ap node_view h ∙ child_view e) in
    ap (λ v. walk n (standing d v)) view
    ∙ (ap (walk n) (standing_joined d (nodes_view xs) (joined f (nodes_view ys)))
    ∙ (walk_on n m (standing d (nodes_view xs)) (standing d (joined f (nodes_view ys))) w.walked
    ∙ (ap (walk m) (standing_joined d f (nodes_view ys)) ∙ walk_off m p (standing d f) (standing d (nodes_view ys)) a)))

-- an element, from what is known of it and of those in it
pub element_amiss : (d n : ℕ) (e : Elem) → is_amiss (standing_of d e) ≡ true → walk n (standing d (alone e)) ≡ Err n
element_amiss d n e h = ap (λ b. cond b (Err n) (walk (told (n + 1)) (standing (suc d) e.inside ++ []))) h

pub element_walk : (d n : ℕ) (e : Elem) → is_amiss (standing_of d e) ≡ false → walk n (standing d (alone e)) ≡ walk (told (n + 1)) (standing (suc d) e.inside)
element_walk d n e h = ap (λ b. cond b (Err n) (walk (told (n + 1)) (standing (suc d) e.inside ++ []))) h ∙ ap (walk (told (n + 1))) (append-nil (standing (suc d) e.inside))

-- The first that is amiss, as a number that stands still at its end.
pub walk_first : (n i : ℕ) (es : List Standing) → n ≡ told i → MatchResult (walk n es) (λ m. position_from is_amiss i es ≡ None) (λ p. (k : ℕ) × (position_from is_amiss i es ≡ Some k) × (p ≡ told k))
walk_first n i [] h = refl
walk_first n i (e ∷ es) h = each (is_amiss e) (walk_first (told (n + 1)) (i + 1) es (next n i h))
  where
    next : (n i : ℕ) → n ≡ told i → told (n + 1) ≡ told (i + 1)
    next n i h = omega arith

    each : (b : Bool) → MatchResult (walk (told (n + 1)) es) (λ m. position_from is_amiss (i + 1) es ≡ None) (λ p. (k : ℕ) × (position_from is_amiss (i + 1) es ≡ Some k) × (p ≡ told k))
        → MatchResult (cond b (Err n) (walk (told (n + 1)) es)) (λ m. cond b (Some i) (position_from is_amiss (i + 1) es) ≡ None) (λ p. (k : ℕ) × (cond b (Some i) (position_from is_amiss (i + 1) es) ≡ Some k) × (p ≡ told k))
    each true f = (i, refl, h)
    each false f = f

-- the same of equal parts
pub moved : (d n : ℕ) (xs ys : List Node) (old new other : List ℕ) (m k : ℕ) → ys ≡ xs → other ≡ new → k ≡ m → Wrote d n xs old new m → Wrote d n ys old other k
moved d n xs ys old new other m k e f g w = record {
  walked = ap (λ v. walk n (standing d (nodes_view v))) e ∙ (w.walked ∙ ap (λ v. Ok v) (sym g));
  text = f ∙ (w.text ∙ ap (λ v. old ++ lines_text d (nodes_view v)) (sym e));
}

-- where a line isn't written, the lines aren't
pub writes_off : (d n m : ℕ) (xs : List Node) (x : Node) (ys : List Node) (e : Element) (all old mid new : List ℕ) (fault : WriteFault) → x ≡ Child e → Wrote d n xs old mid m
    → Writes m (standing d (alone (element_view e))) (lines_text d (alone (element_view e))) mid new (Err fault)
    → Writes n (standing d (nodes_view (xs ++ x ∷ ys))) all old new (Err fault)
writes_off d n m xs x ys e all old mid new (faults.Unwritable p) h w a = wrote_off d n m p xs x ys e old mid h w a
writes_off d n m xs x ys e all old mid new faults.Memory h w a = tt

-- The first child.

first_node : (xs : List Node) (x y : Node) → Some x ≡ slice_get xs 0 → x ≡ y → (ys : List Node) × (xs ≡ y ∷ ys)
first_node [] x y h e = cc
first_node (z ∷ xs) x y h e = let s : x ≡ z = cc in (xs, ap (λ v. v ∷ xs) (sym s ∙ e))

-- a text that can be written is the only child
pub words_alone : (kids : List Node) (x : Node) (t : List ℕ) → Some x ≡ slice_get kids 0 → x ≡ Words t → FineTexts (nodes_view kids) → nodes_view kids ≡ words t none
words_alone kids x t h e fine =
    let y = first_node kids x (Words t) h e in
    let view : nodes_view kids ≡ words t (nodes_view y.0) = ap nodes_view y.1 ∙ ap (λ v. joined v (nodes_view y.0)) (words_view t) in
    let seen : FineTexts (words t (nodes_view y.0)) = subst FineTexts view fine in
    view ∙ ap (words t) (lone_text (nodes_view y.0) (first_text t (nodes_view y.0) seen).lone)

-- what stands behind the attributes where the first child is an element
pub child_rest : (d : ℕ) (n : List ℕ) (kids : List Node) (x : Node) (e : Element) (lines : List ℕ) → Some x ≡ slice_get kids 0 → x ≡ Child e
    → rest_text d n (nodes_view kids) lines ≡ 62 ∷ 10 ∷ (lines ++ (indent d ++ end_text n))
child_rest d n kids x e lines h k =
    let y = first_node kids x (Child e) h k in
    ap (λ v. rest_text d n v lines) (ap nodes_view y.1 ∙ ap (λ v. joined v (nodes_view y.0)) (child_view e))

pub below_64 : (d : ℕ) → nat_le 64 d ≡ false → d < 64
below_64 d h = grind (arith, nat_tests)

-- Pieces put one behind another.

pub words_put : (old a b new t n : List ℕ) → a ≡ old ++ 62 ∷ [] → b ≡ a ++ words_text t → new ≡ b ++ end_text n → new ≡ old ++ (62 ∷ (words_text t ++ end_text n))
words_put old a b new t n ea eb en =
    en ∙ (ap (λ v. v ++ end_text n) (eb ∙ ap (λ v. v ++ words_text t) ea)
    ∙ (append_assoc (old ++ 62 ∷ []) (words_text t) (end_text n) ∙ append_assoc old (62 ∷ []) (words_text t ++ end_text n)))

pub lines_put : (old a b c new l i n : List ℕ) → a ≡ old ++ 62 ∷ 10 ∷ [] → b ≡ a ++ l → c ≡ b ++ i → new ≡ c ++ n → new ≡ old ++ (62 ∷ 10 ∷ (l ++ (i ++ n)))
lines_put old a b c new l i n ea eb ec en =
    en ∙ (ap (λ v. v ++ n) (ec ∙ ap (λ v. v ++ i) (eb ∙ ap (λ v. v ++ l) ea))
    ∙ (append_assoc ((old ++ 62 ∷ 10 ∷ []) ++ l) i n ∙ (append_assoc (old ++ 62 ∷ 10 ∷ []) l (i ++ n) ∙ append_assoc old (62 ∷ 10 ∷ []) (l ++ (i ++ n)))))

pub document_put : (old a b c d e f new h n x k r : List ℕ) → a ≡ old ++ h → b ≡ a ++ 60 ∷ [] → c ≡ b ++ n → d ≡ c ++ x → e ≡ d ++ k → f ≡ e ++ r → new ≡ f ++ 10 ∷ []
    → new ≡ old ++ (h ++ ((60 ∷ (n ++ (x ++ k))) ++ (r ++ 10 ∷ [])))
document_put old a b c d e f new h n x k r ea eb ec ed ee ef en =
    en ∙ (ap (λ v. v ++ 10 ∷ []) (ef ∙ ap (λ v. v ++ r) (ee ∙ ap (λ v. v ++ k) (ed ∙ ap (λ v. v ++ x) (ec ∙ ap (λ v. v ++ n) (eb ∙ ap (λ v. v ++ 60 ∷ []) ea))))) ∙ simp append_assoc)

-- What the answer says of the first that is amiss.

pub first_none : (v : Elem) (m : ℕ) → walk 0 (standing 0 (alone v)) ≡ Ok m → first_amiss v ≡ None
unfolding first_amiss
first_none v m h =
    let es : List Standing = standing 0 (alone v) in
    let P : Result ℕ ℕ → Type 0 = λ r. MatchResult r (λ m. position_from is_amiss 0 es ≡ None) (λ p. (k : ℕ) × (position_from is_amiss 0 es ≡ Some k) × (p ≡ told k)) in
    subst P h (walk_first 0 0 es refl)

pub first_some : (v : Elem) (text old new : List ℕ) (fault : WriteFault) → Writes 0 (standing 0 (alone v)) text old new (Err fault) → IsFirst (first_amiss v) (Err fault)
unfolding first_amiss
first_some v text old new (faults.Unwritable p) h =
    let es : List Standing = standing 0 (alone v) in
    let P : Result ℕ ℕ → Type 0 = λ r. MatchResult r (λ m. position_from is_amiss 0 es ≡ None) (λ p. (k : ℕ) × (position_from is_amiss 0 es ≡ Some k) × (p ≡ told k)) in
    subst P h (walk_first 0 0 es refl)
first_some v text old new faults.Memory h = tt
