-- What a document says is one element.
use Rattle.std.specs.Prelude.{codes}
use Rattle.std.proofs.Common.{arith, ◌≡◌, ℕ, suc, zero, ◌+◌, Bool, true, false, cond, List, [], ◌∷◌, ◌++◌, Option, Some, None, length, refl, sym, ap, ◌∙◌, subst}
use Rattle.zi_elements.specs.declared.element.Element.{Element}
use Rattle.zi_elements.specs.declared.element.Node.{Node, fold-Node, fold-roll-Node, out-Node, out-roll-Node}
use Rattle.zi_elements.specs.declared.element.Node.TheOpen.{Node-F, Element-F}
use Rattle.zi_elements.specs.declared.element.Node.TheOpen as layer
use Rattle.zi_elements.specs.declared.element.Node.TheVariants as nodes
use Rattle.zi_xml.specs.Syntax.{Key, version_key, encoding_key, standalone_key, Setting, setting_front, Declaration, Root, alone, whole, doctype, Document, mark_text, miscs_text}
use Rattle.zi_xml.specs.Meaning.{flush, Level, Fault, Kind, tick, passed, blame_if, set, setting_told, optional_told, declaration_told, declared_told, start, root_told, document_told}
use Rattle.zi_xml.specs.Documents.{SaysChars}

-- the children and the text stay
pub record Same (l m : Level) : Type 0 where
  pub before : m.before ≡ l.before
  pub letters : m.letters ≡ l.letters

same_self : (l : Level) → Same l l
same_self l = record { before = refl; letters = refl }

joined : (l m n : Level) → Same l m → Same m n → Same l n
joined l m n a b = record { before = b.before ∙ a.before; letters = b.letters ∙ a.letters }

passed_same : (cs : List ℕ) (l : Level) → Same l (passed cs l)
passed_same [] l = same_self l
passed_same (c ∷ cs) l = let x = passed_same cs (tick c l) in record { before = x.before; letters = x.letters }

pub passed_found : (cs : List ℕ) (l : Level) → (passed cs l).found ≡ l.found
passed_found [] l = refl
passed_found (c ∷ cs) l = passed_found cs (tick c l)

blame_same : (b : Bool) (k : Kind) (p : ℕ) (l : Level) → Same l (blame_if b k p l)
blame_same true k p l = record { before = refl; letters = refl }
blame_same false k p l = same_self l

set_same : (k : Key) (v : List ℕ) (p : ℕ) (l : Level) → Same l (set k v p l)
set_same version_key v p l = same_self l
set_same encoding_key v p l = blame_same _ _ p l
set_same standalone_key v p l = same_self l

setting_same : (k : Key) (s : Setting) (l : Level) → Same l (setting_told k s l)
setting_same k s l =
    let m = passed (setting_front k s) l in
    let n = passed (s.value ++ s.quote ∷ []) m in
    joined l m _ (passed_same (setting_front k s) l) (joined m n _ (passed_same (s.value ++ s.quote ∷ []) m) (set_same k s.value m.at n))

optional_same : (k : Key) (s : Option Setting) (l : Level) → Same l (optional_told k s l)
optional_same k None l = same_self l
optional_same k (Some s) l = setting_same k s l

declared_same : (d : Option Declaration) (l : Level) → Same l (declared_told d l)
declared_same None l = same_self l
declared_same (Some d) l =
    let a = passed (codes "<?xml") l in
    let b = setting_told version_key d.version a in
    let c = optional_told encoding_key d.encoding b in
    let e = optional_told standalone_key d.standalone c in
    joined l a _ (passed_same (codes "<?xml") l) (joined a b _ (setting_same version_key d.version a) (joined b c _ (optional_same encoding_key d.encoding b)
    (joined c e _ (optional_same standalone_key d.standalone c) (passed_same (d.last ++ codes "?>") e))))

front_same : (d : Document) → Same start (passed (miscs_text d.front) (declared_told d.declaration (passed (mark_text d.mark) start)))
front_same d =
    let a = passed (mark_text d.mark) start in
    let b = declared_told d.declaration a in
    joined start a _ (passed_same (mark_text d.mark) start) (joined a b _ (declared_same d.declaration a) (passed_same (miscs_text d.front) b))

none_behind : {A : Type 0} (xs : List A) (x : A) → xs ++ x ∷ [] ≡ [] → ⊥
none_behind [] x h = cc
none_behind (y ∷ xs) x h = cc

one_before : (b : List Node) (c : List ℕ) (e : Element) → b ≡ [] → c ≡ [] → b ++ flush c ++ nodes.Child e ∷ [] ≡ nodes.Child e ∷ []
one_before b c e h k = ap (λ v. v ++ flush c ++ nodes.Child e ∷ []) h ∙ ap (λ v. [] ++ flush v ++ nodes.Child e ∷ []) k

root_child : (t : Root) (l : Level) → l.before ≡ [] → l.letters ≡ [] → (root_told t l).found ≡ [] → (e : Element) × ((root_told t l).before ≡ nodes.Child e ∷ [])
root_child (alone n ws e) l b c f = (_, one_before l.before l.letters _ b c)
root_child (whole n ws e i g) l b c f = (_, one_before l.before l.letters _ b c)
root_child doctype l b c f = absurd (none_behind (passed (codes "<!DOCTYPE") l).found _ f)

-- a document without a fault is one element
pub one_root : (cs : List ℕ) (r : Level) → SaysChars cs r → r.found ≡ [] → (e : Element) × (r.before ≡ nodes.Child e ∷ [])
one_root cs r s f =
    let d = s.document in
    let l : Level = passed (miscs_text d.front) (declared_told d.declaration (passed (mark_text d.mark) start)) in
    let m : Level = root_told d.root l in
    let same = front_same d in
    let x = root_child d.root l same.before same.letters (sym (passed_found (miscs_text d.tail) m) ∙ (sym (ap (λ v. v.found) s.told) ∙ f)) in
    (x.0, ap (λ v. v.before) s.told ∙ ((passed_same (miscs_text d.tail) m).before ∙ x.1))

-- an element is no text
kind_node : Node-F Bool Bool → Bool
kind_node (Node-F.Child n) = true
kind_node (Node-F.Words t) = false

kind_element : Element-F Bool Bool → Bool
kind_element e = true

is_child : Node → Bool
is_child = fold-Node Bool Bool kind_node kind_element

child_is : (e : Element) → is_child (nodes.Child e) ≡ true
unfolding is_child kind_node
child_is e = ap is_child (sym (nodes.rolls-Child e)) ∙ fold-roll-Node Bool Bool kind_node kind_element (Node-F.Child e)

words_is : (t : List ℕ) → is_child (nodes.Words t) ≡ false
unfolding is_child kind_node
words_is t = ap is_child (sym (nodes.rolls-Words t)) ∙ fold-roll-Node Bool Bool kind_node kind_element (Node-F.Words t)

pub no_words : (t : List ℕ) (e : Element) → nodes.Words t ≡ nodes.Child e → ⊥
no_words t e h = let z : false ≡ true = sym (words_is t) ∙ (ap is_child h ∙ child_is e) in cc

-- the last of one
pub last_one : (xs : List Node) (x y : Node) → xs ++ x ∷ [] ≡ y ∷ [] → x ≡ y
last_one [] x y h = cc
last_one (z ∷ xs) x y h = absurd (none_behind xs x (tails z y _ _ h))
  where
    tails : (a b : Node) (us vs : List Node) → a ∷ us ≡ b ∷ vs → us ≡ vs
    tails a b us vs h = cc

pub not_empty : (y : Node) (xs : List Node) → length xs ≡ 0 → xs ≡ y ∷ [] → ⊥
not_empty y [] h k = cc
not_empty y (x ∷ xs) h k = absurd (omega arith)

one_layer : (x y : Element) → (let l : Node-F Node Element = Node-F.Child x in l) ≡ Node-F.Child y → x ≡ y
one_layer x y k = cc

pub child_same : (t u : Element) → nodes.Child t ≡ nodes.Child u → t ≡ u
child_same t u h =
    let a : out-Node (nodes.Child t) ≡ Node-F.Child t = ap out-Node (sym (nodes.rolls-Child t)) ∙ out-roll-Node (Node-F.Child t) in
    let b : out-Node (nodes.Child u) ≡ Node-F.Child u = ap out-Node (sym (nodes.rolls-Child u)) ∙ out-roll-Node (Node-F.Child u) in
    one_layer t u (sym a ∙ (ap out-Node h ∙ b))
