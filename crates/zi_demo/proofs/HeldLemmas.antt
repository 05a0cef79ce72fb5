-- One feed more is held; one interface more is needed.
use Rattle.std.proofs.Common.{◌≡◌, ℕ, zero, suc, ◌+◌, ◌-◌, ◌<◌, ◌≤◌, List, [], ◌∷◌, ◌++◌, map, Option, Some, Result, Ok, Err, sym, ap, ◌∙◌, subst, arith, append_assoc}
use Rattle.std.specs.Prelude.{bytes_eq, codes, if◌then◌else◌, OnOk}
use Rattle.std.proofs.lemmas.Fmt.{decimal_digit}
use Rattle.std.proofs.lemmas.List.{map-append}
use Rattle.zi_elements.specs.declared.element.Node.{Node}
use Rattle.zi_elements.specs.Forest.{Forest, Elem, node_view, nodes_view}
use Rattle.zi_docout.specs.Canonical.{document}
use Rattle.zi_docout.specs.Amiss.{alone}
use Rattle.zi_docout.specs.Elements.{Adds}
use Rattle.zi_outside.specs.Views.{Holding, FeedsTold, Feeding}
use Rattle.zi_outside.specs.Memory.{Nothing, PutsUnder, no_feeds, sure_told, sure_seen}
use Rattle.zi_outside.specs.declared.sure_feeds.SureFeeds.{SureFeeds}
use Rattle.zi_demo.specs.Feeds.{Feed, address, requires_elem, numbers, numbered, p_q_r, two, three, root, later_ones, last_three, feeds, interface, text_of, Holds}
use Rattle.zi_demo.proofs.WritableLemmas.{seen}

pub held_more : (f : Feed) (fs : List Feed) (old new : Holding) → Holds fs old → PutsUnder old (address f.name) (text_of f) new → Holds (f ∷ fs) new
held_more f fs old new held put key = put key ∙ ap (λ (o : Option (List ℕ)). if bytes_eq (address f.name) key then Some (text_of f) else o) (held key)

-- the text of nodes that are the versions of a feed
put_text : (f : Feed) (name : List ℕ) (versions : List Node) (old new : Holding) → Adds [] versions f.versions
    → PutsUnder old (address name) (document (interface (nodes_view versions))) new → PutsUnder old (address name) (text_of f) new
unfolding text_of
put_text f name versions old new a put = subst (λ (v : Forest). PutsUnder old (address name) (document (interface v)) new) (seen versions f.versions a) put

pub feed_put : {X E : Type 0} (r : Result X E) (f : Feed) (name : List ℕ) (versions : List Node) (old new : Holding) → Adds [] versions f.versions
    → OnOk r (PutsUnder old (address name) (document (interface (nodes_view versions))) new) → OnOk r (PutsUnder old (address name) (text_of f) new)
feed_put (Ok x) f name versions old new a put = put_text f name versions old new a put
feed_put (Err e) f name versions old new a put = put

-- The later ones, the last first.

-- those behind the first n - k + 2 are held beside what was
abbrev pub LaterHeld : ℕ → ℕ → Holding → Holding → Type 0
LaterHeld n k old new = (a m : ℕ) → a + k ≡ n + 2 → m + 1 ≡ k → (fs : List Feed) → Holds fs old → Holds (later_ones a m ++ fs) new

pub later_none : (n : ℕ) (old : Holding) → LaterHeld n 1 old old
later_none n old a zero e f fs h = h
later_none n old a (suc m) e f fs h = absurd (omega arith)

pub later_next : (n k : ℕ) (name : List ℕ) (old mid new : Holding) → 1 ≤ k → k < n → name ≡ numbered (n + 1 - k) → LaterHeld n k old mid
    → PutsUnder mid (address name) (text_of (two name [])) new → LaterHeld n (k + 1) old new
later_next n k name old mid new some more named held put a zero e f fs h = absurd (omega arith)
later_next n k name old mid new some more named held put a (suc m) e f fs h =
    let at : n + 1 - k ≡ a = omega arith in
    let same : name ≡ numbered a = named ∙ ap numbered at in
    held_more (two (numbered a) []) (later_ones (a + 1) m ++ fs) mid new (held (a + 1) m (omega arith) (omega arith) fs h)
    (subst (λ (v : List ℕ). PutsUnder mid (address v) (text_of (two v [])) new) same put)

-- What is needed, one more.
numbers_more : (k m : ℕ) → numbers k (suc m) ≡ numbers k m ++ (k + m) ∷ []
numbers_more k zero = ap (λ (v : ℕ). v ∷ []) (omega arith)
numbers_more k (suc m) = ap (λ (v : List ℕ). k ∷ v) (numbers_more (k + 1) m ∙ ap (λ (v : ℕ). numbers (k + 1) m ++ v ∷ []) (omega arith))

pub needed_more : (old mid new : List Node) (k : ℕ) (name : List ℕ) → Adds old mid (map requires_elem (map numbered (numbers 1 k))) → name ≡ numbered (k + 1)
    → Adds mid new (requires_elem name ∷ []) → Adds old new (map requires_elem (map numbered (numbers 1 (k + 1))))
needed_more old mid new k name before named more =
    let next : k + 1 ≡ suc k = omega arith in
    let so_far : List Elem = map requires_elem (map numbered (numbers 1 k)) in
    let last : List Elem = requires_elem (numbered (k + 1)) ∷ [] in
    let all : map requires_elem (map numbered (numbers 1 (k + 1))) ≡ so_far ++ last =
    ap (λ (v : List ℕ). map requires_elem (map numbered v))
    (ap (numbers 1) next ∙ (numbers_more 1 k ∙ ap (λ (v : ℕ). numbers 1 k ++ v ∷ []) (omega arith)))
    ∙ (ap (map requires_elem) (map-append numbered (numbers 1 k) ((k + 1) ∷ [])) ∙ map-append requires_elem (map numbered (numbers 1 k)) (numbered (k + 1) ∷ [])) in
    more
    ∙ (ap (λ (v : List Forest). v ++ map alone (requires_elem name ∷ [])) before
    ∙ (append_assoc (map node_view old) (map alone so_far) (map alone (requires_elem name ∷ []))
    ∙ ap (λ (v : List Forest). map node_view old ++ v)
    (ap (λ (v : List ℕ). map alone so_far ++ map alone (requires_elem v ∷ [])) named
    ∙ (sym (map-append alone so_far last) ∙ ap (map alone) (sym all)))))

-- New feeds hold nothing.
pub none_held : (made : SureFeeds) → sure_seen made ≡ no_feeds → Holds [] (sure_told made).holds
none_held made e key =
    let told : Some (sure_told made) ≡ Some (record { holds = Nothing; asked = [] }) = ap (λ (f : Feeding). f.told) e in
    let same : sure_told made ≡ record { holds = Nothing; asked = [] } = cc in
    ap (λ (t : FeedsTold). t.holds key) same

first_name : codes "a1" ≡ numbered 1
first_name = ap (λ (v : List ℕ). codes "a" ++ v) (sym (decimal_digit 1 (omega arith)))

-- All of them, one after another.
pub all_held : (n : ℕ) (none r q p later first all : Holding) → Holds [] none
    → PutsUnder none (address (codes "r")) (text_of (three (codes "r") [])) r
    → PutsUnder r (address (codes "q")) (text_of (three (codes "q") (codes "r" ∷ []))) q
    → PutsUnder q (address (codes "p")) (text_of (three (codes "p") (codes "q" ∷ codes "r" ∷ []))) p
    → ((fs : List Feed) → Holds fs p → Holds (later_ones 2 (n - 1) ++ fs) later)
    → PutsUnder later (address (codes "a1")) (text_of (two (codes "a1") p_q_r)) first
    → PutsUnder first (address (codes "root")) (text_of (root n)) all → Holds (feeds n) all
unfolding feeds
all_held n none r q p later first all nothing put_r put_q put_p put_later put_first put_root =
    let one = held_more (three (codes "r") []) [] none r nothing put_r in
    let two_held = held_more (three (codes "q") (codes "r" ∷ [])) (three (codes "r") [] ∷ []) r q one put_q in
    let three_held = held_more (three (codes "p") (codes "q" ∷ codes "r" ∷ [])) (three (codes "q") (codes "r" ∷ []) ∷ three (codes "r") [] ∷ []) q p two_held put_p in
    let later_held = put_later last_three three_held in
    let first_held =
    held_more (two (numbered 1) p_q_r) (later_ones 2 (n - 1) ++ last_three) later first later_held
    (subst (λ (v : List ℕ). PutsUnder later (address v) (text_of (two v p_q_r)) first) first_name put_first) in
    held_more (root n) (two (numbered 1) p_q_r ∷ (later_ones 2 (n - 1) ++ last_three)) first all first_held put_root
