-- Past a piece of a document: the place has gone on by its bytes, what was known stays known, and faults stay.
use Rattle.std.proofs.Common.{◌≡◌, ℕ, suc, ◌+◌, ◌≤◌, nat_le, Bool, true, false, List, [], ◌∷◌, ◌++◌, length, Option, Some, None, refl, sym, ap, ◌∙◌, subst, append_assoc, arith, append-nil}
use Rattle.std.specs.Prelude.{codes, encode_utf8, encode_utf8_all, not}
use Rattle.std.proofs.Math.Utf8.{encode}
use Rattle.std.proofs.lemmas.Str.{encodes-append}
use Rattle.std.proofs.lemmas.List.{length-append}
use Rattle.zi_names.specs.declared.attributes.Binding.{Binding}
use Rattle.zi_xml.specs.Chars.{width, is_char, same_letters}
use Rattle.zi_xml.specs.Syntax.{Bit, letter, entity_of, decimal, hexadecimal, bit_text, bits_text, Written, written_text, all_text, Content, stop, bit, section, comment, instruction, void, pair, text, section_text, comment_text, instruction_text, end_tag, tag_rest, AllAre, IsName, IsBit, IsContentAfter, brackets_after, is_said, Key, version_key, encoding_key, standalone_key, Setting, setting_front, setting_text, optional_text, Declaration, declared_text}
use Rattle.zi_xml.specs.Meaning.{Level, Fault, Kind, encoding_kind, entity_kind, prefix_kind, repeated_kind, depth_kind, tick, passed, blame_if, add, heard, heard_all, line_end, target, meant, is_lacking, resolved, bit_told, bit_passed, bits_passed, written_passed, all_passed, Tag, tag_of, framed, judged, fresh, adopt, named_on, tag_passed, told, set, setting_told, optional_told, declared_told}
use Rattle.zi_doc_laws.specs.Trees.{IsCarried}
use Rattle.zi_doc_laws.proofs.CarriedLaws.{both_carried, line_end_carried, entity_carried, decimal_carried, hexadecimal_carried, said_char}

-- how many bytes characters take
pub size : List ℕ → ℕ
size cs = length (encode_utf8_all cs)

pub size_none : size [] ≡ 0
unfolding size
size_none = refl

pub size_bytes : (cs : List ℕ) → length (encode_utf8_all cs) ≡ size cs
unfolding size
size_bytes cs = refl

pub size_append : (a b : List ℕ) → size (a ++ b) ≡ size a + size b
unfolding size
size_append a b = ap length (encodes-append a b) ∙ length-append (encode_utf8_all a) (encode_utf8_all b)

size_one : (c : ℕ) → size (c ∷ []) ≡ width c
unfolding size
size_one c = ap length (append-nil (encode_utf8 c))

-- `<` is one byte
pub size_less : (cs : List ℕ) → 1 ≤ size (60 ∷ cs)
unfolding size encode
size_less cs = omega (arith, length-append (60 ∷ []) (encode_utf8_all cs))

-- From l the characters lead to m: no node is whole in them, and what they add to the text can be carried.
pub record Past (cs : List ℕ) (l m : Level) : Type 0 where
  pub before : m.before ≡ l.before
  pub at : m.at ≡ l.at + size cs
  pub letters : IsCarried l.letters → IsCarried m.letters
  pub clean : m.found ≡ [] → l.found ≡ []

past_none : (l : Level) → Past [] l l
past_none l = record { before = refl; at = omega (arith, size_none); letters = λ h. h; clean = λ h. h }

pub past_tick : (c : ℕ) (l : Level) → Past (c ∷ []) l (tick c l)
past_tick c l = record { before = refl; at = ap (λ v. l.at + v) (sym (size_one c)); letters = λ h. h; clean = λ h. h }

pub past_both : (a b : List ℕ) (l m o : Level) → Past a l m → Past b m o → Past (a ++ b) l o
past_both a b l m o x y = record {
  before = y.before ∙ x.before;
  at = omega (arith, x.at, y.at, size_append a b);
  letters = λ h. y.letters (x.letters h);
  clean = λ h. x.clean (y.clean h);
}

-- the same characters, otherwise grouped
along : (a b : List ℕ) (l m : Level) → a ≡ b → Past a l m → Past b l m
along a b l m e x = subst (λ (v : List ℕ). Past v l m) e x

no_fault : (fs : List Fault) (f : Fault) → fs ++ f ∷ [] ≡ [] → ⊥
no_fault [] f h = absurd (cc h)
no_fault (g ∷ fs) f h = absurd (cc h)

-- where no fault is found, none was here
pub not_blamed : (b : Bool) (k : Kind) (p : ℕ) (l : Level) → (blame_if b k p l).found ≡ [] → (b ≡ false) × (l.found ≡ [])
not_blamed true k p l h = absurd (no_fault l.found (record { kind = k; place = p; ends = l.at }) h)
not_blamed false k p l h = (refl, h)

pub past_blame : (b : Bool) (k : Kind) (p : ℕ) (cs : List ℕ) (l m : Level) → Past cs l m → Past cs l (blame_if b k p m)
past_blame true k p cs l m x = record {
  before = x.before;
  at = x.at;
  letters = x.letters;
  clean = λ h. x.clean (not_blamed true k p m h).1;
}
past_blame false k p cs l m x = x

past_add : (t cs : List ℕ) (l m : Level) → IsCarried t → Past cs l m → Past cs l (add t m)
past_add t cs l m c x = record { before = x.before; at = x.at; letters = λ h. both_carried m.letters t (x.letters h) c; clean = x.clean }

pub past_passed : (cs : List ℕ) (l : Level) → Past cs l (passed cs l)
past_passed [] l = past_none l
past_passed (c ∷ cs) l = past_both (c ∷ []) cs l (tick c l) (passed cs (tick c l)) (past_tick c l) (past_passed cs (tick c l))

-- Texts.

past_heard : (c : ℕ) (l : Level) → is_char c ≡ true → Past (c ∷ []) l (heard c l)
past_heard c l h = record {
  before = refl;
  at = ap (λ v. l.at + v) (sym (size_one c));
  letters = λ k. both_carried l.letters (line_end l.returned c) k (line_end_carried l.returned c h);
  clean = λ k. k;
}

pub past_heard_all : (cs : List ℕ) (l : Level) → AllAre is_char cs → Past cs l (heard_all cs l)
past_heard_all [] l h = past_none l
past_heard_all (c ∷ cs) l h = past_both (c ∷ []) cs l (heard c l) (heard_all cs (heard c l)) (past_heard c l h.0) (past_heard_all cs (heard c l) h.1)

past_resolved : (o : Option ℕ) (p : ℕ) (cs : List ℕ) (l : Level) → Past cs l (resolved o p (passed cs l))
past_resolved o p cs l = past_blame (is_lacking o) entity_kind p cs l (passed cs l) (past_passed cs l)

past_meant : (o : Option ℕ) (cs : List ℕ) (l : Level) → IsCarried (meant o) → Past cs l (add (meant o) (resolved o l.at (passed cs l)))
past_meant o cs l c = past_add (meant o) cs l (resolved o l.at (passed cs l)) c (past_resolved o l.at cs l)

pub past_bit : (n : ℕ) (b : Bit) (l : Level) → IsBit (is_said n) b → Past (bit_text b) l (bit_told b l)
past_bit n (letter c) l h = past_heard c l (said_char n c h)
past_bit n (entity_of m) l h = past_meant (target (entity_of m)) (bit_text (entity_of m)) l (entity_carried m)
past_bit n (decimal ds) l h = past_meant (target (decimal ds)) (bit_text (decimal ds)) l (decimal_carried ds)
past_bit n (hexadecimal ds) l h = past_meant (target (hexadecimal ds)) (bit_text (hexadecimal ds)) l (hexadecimal_carried ds)

pub past_section : (cs : List ℕ) (l : Level) → AllAre is_char cs → Past (section_text cs) l (passed (codes "]]>") (heard_all cs (passed (codes "<![CDATA[") l)))
past_section cs l h =
    let a : Level = passed (codes "<![CDATA[") l in
    let b : Level = heard_all cs a in
    past_both (codes "<![CDATA[") (cs ++ codes "]]>") l a (passed (codes "]]>") b) (past_passed (codes "<![CDATA[") l)
    (past_both cs (codes "]]>") a b (passed (codes "]]>") b) (past_heard_all cs a h) (past_passed (codes "]]>") b))

-- Tags.

past_value_bit : (b : Bit) (l : Level) → Past (bit_text b) l (bit_passed b l)
past_value_bit (letter c) l = past_tick c l
past_value_bit (entity_of m) l = past_resolved (target (entity_of m)) l.at (bit_text (entity_of m)) l
past_value_bit (decimal ds) l = past_resolved (target (decimal ds)) l.at (bit_text (decimal ds)) l
past_value_bit (hexadecimal ds) l = past_resolved (target (hexadecimal ds)) l.at (bit_text (hexadecimal ds)) l

past_value : (bs : List Bit) (l : Level) → Past (bits_text bs) l (bits_passed bs l)
past_value [] l = past_none l
past_value (b ∷ bs) l = past_both (bit_text b) (bits_text bs) l (bit_passed b l) (bits_passed bs (bit_passed b l)) (past_value_bit b l) (past_value bs (bit_passed b l))

-- an attribute up to its value
up_to : Written → List ℕ
up_to a = a.lead ∷ (a.more ++ (a.name ++ (a.before ++ 61 ∷ (a.behind ++ a.quote ∷ []))))

up_to_on : (a : Written) (w : List ℕ) → up_to a ++ w ≡ a.lead ∷ (a.more ++ (a.name ++ (a.before ++ 61 ∷ (a.behind ++ a.quote ∷ w))))
unfolding up_to
up_to_on a w =
    ap (λ v. a.lead ∷ v) (append_assoc a.more (a.name ++ (a.before ++ 61 ∷ (a.behind ++ a.quote ∷ []))) w
    ∙ ap (λ v. a.more ++ v) (append_assoc a.name (a.before ++ 61 ∷ (a.behind ++ a.quote ∷ [])) w
    ∙ ap (λ v. a.name ++ v) (append_assoc a.before (61 ∷ (a.behind ++ a.quote ∷ [])) w
    ∙ ap (λ v. a.before ++ 61 ∷ v) (append_assoc a.behind (a.quote ∷ []) w))))

past_written : (a : Written) (l : Level) → Past (written_text a) l (written_passed a l)
unfolding up_to
past_written a l =
    let b : Level = passed (up_to a) l in
    let c : Level = bits_passed a.value b in
    along (up_to a ++ (bits_text a.value ++ a.quote ∷ [])) (written_text a) l (written_passed a l) (up_to_on a (bits_text a.value ++ a.quote ∷ []))
    (past_both (up_to a) (bits_text a.value ++ a.quote ∷ []) l b (tick a.quote c) (past_passed (up_to a) l)
    (past_both (bits_text a.value) (a.quote ∷ []) b c (tick a.quote c) (past_value a.value b) (past_tick a.quote c)))

past_all : (ws : List Written) (l : Level) → Past (all_text ws) l (all_passed ws l)
past_all [] l = past_none l
past_all (a ∷ ws) l =
    past_both (written_text a) (all_text ws) l (written_passed a l) (all_passed ws (written_passed a l)) (past_written a l) (past_all ws (written_passed a l))

past_named : (d p : ℕ) (n : List ℕ) (l : Level) → Past n l (named_on d p n l)
past_named d p [] l = past_none l
past_named d p (c ∷ cs) l =
    let m : Level = blame_if (nat_le 65 d) depth_kind p (tick c l) in
    past_both (c ∷ []) cs l m (passed cs m) (past_blame (nat_le 65 d) depth_kind p (c ∷ []) l (tick c l) (past_tick c l)) (past_passed cs m)

past_judged : (scope : List Binding) (t : Tag) (cs : List ℕ) (l m : Level) → Past cs l m → Past cs l (judged scope t m)
past_judged scope t cs l m x = past_blame _ repeated_kind t.outer.at cs l _ (past_blame _ prefix_kind t.outer.at cs l m x)

-- behind the name of a tag
past_rest : (scope : List Binding) (t : Tag) (ws : List Written) (e close : List ℕ) (l : Level) → Past (tag_rest ws e close) l (judged scope t (passed (e ++ close) (all_passed ws l)))
past_rest scope t ws e close l =
    let m : Level = all_passed ws l in
    past_judged scope t (tag_rest ws e close) l (passed (e ++ close) m) (past_both (all_text ws) (e ++ close) l m (passed (e ++ close) m) (past_all ws l) (past_passed (e ++ close) m))

pub past_tag : (d : ℕ) (scope : List Binding) (n : List ℕ) (ws : List Written) (e close : List ℕ) (l : Level) → Past (60 ∷ (n ++ tag_rest ws e close)) l (tag_passed d scope n ws e close l)
past_tag d scope n ws e close l =
    let a : Level = tick 60 l in
    let b : Level = named_on d l.at n a in
    let c : Level = tag_passed d scope n ws e close l in
    past_both (60 ∷ []) (n ++ tag_rest ws e close) l a c (past_tick 60 l) (past_both n (tag_rest ws e close) a b c (past_named d l.at n a) (past_rest scope (tag_of n ws l) ws e close b))

-- A tag without a fault doesn't stand too deep.
pub tag_near : (d : ℕ) (scope : List Binding) (n : List ℕ) (ws : List Written) (e close : List ℕ) (l : Level) → IsName n → (tag_passed d scope n ws e close l).found ≡ [] → nat_le 65 d ≡ false
tag_near d scope [] ws e close l h k = absurd h
tag_near d scope (c ∷ cs) ws e close l h k =
    let m : Level = blame_if (nat_le 65 d) depth_kind l.at (tick c (tick 60 l)) in
    let named : (passed cs m).found ≡ [] = (past_rest scope (tag_of (c ∷ cs) ws l) ws e close (passed cs m)).clean k in
    (not_blamed (nat_le 65 d) depth_kind l.at (tick c (tick 60 l)) ((past_passed cs m).clean named)).0

-- Content.

-- of whole elements too: the place goes on, and faults stay
pub record Reach (cs : List ℕ) (l m : Level) : Type 0 where
  pub at : m.at ≡ l.at + size cs
  pub clean : m.found ≡ [] → l.found ≡ []

reached : (cs : List ℕ) (l m : Level) → Past cs l m → Reach cs l m
reached cs l m x = record { at = x.at; clean = x.clean }

reach_on : (a b : List ℕ) (l m o : Level) → Reach a l m → Reach b m o → Reach (a ++ b) l o
reach_on a b l m o x y = record { at = omega (arith, x.at, y.at, size_append a b); clean = λ h. x.clean (y.clean h) }

regroup : (n r k : List ℕ) → 60 ∷ ((n ++ r) ++ k) ≡ 60 ∷ (n ++ (r ++ k))
regroup n r k = ap (λ v. 60 ∷ v) (append_assoc n r k)

pub told_reach : (d n : ℕ) (scope : List Binding) (k : Content) (l : Level) → IsContentAfter n k → Reach (text k) l (told d scope k l)
told_reach d n scope stop l h = reached [] l l (past_none l)
told_reach d n scope (bit b k) l h =
    let m : Level = bit_told b l in
    reach_on (bit_text b) (text k) l m (told d scope k m) (reached (bit_text b) l m (past_bit n b l h.0)) (told_reach d (brackets_after n b) scope k m h.1)
told_reach d n scope (section cs k) l h =
    let m : Level = passed (codes "]]>") (heard_all cs (passed (codes "<![CDATA[") l)) in
    reach_on (section_text cs) (text k) l m (told d scope k m) (reached (section_text cs) l m (past_section cs l h.0.0)) (told_reach d 0 scope k m h.1)
told_reach d n scope (comment cs k) l h =
    let m : Level = passed (comment_text cs) l in
    reach_on (comment_text cs) (text k) l m (told d scope k m) (reached (comment_text cs) l m (past_passed (comment_text cs) l)) (told_reach d 0 scope k m h.1)
told_reach d n scope (instruction o cs k) l h =
    let m : Level = passed (instruction_text o cs) l in
    reach_on (instruction_text o cs) (text k) l m (told d scope k m) (reached (instruction_text o cs) l m (past_passed (instruction_text o cs) l)) (told_reach d 0 scope k m h.1)
told_reach d n scope (void o ws e k) l h =
    let r : List ℕ = tag_rest ws e (47 ∷ 62 ∷ []) in
    let t : Level = tag_passed (suc d) scope o ws e (47 ∷ 62 ∷ []) l in
    let m : Level = adopt (framed scope (tag_of o ws l)) (fresh t) in
    let tag = past_tag (suc d) scope o ws e (47 ∷ 62 ∷ []) l in
    let one : Reach (60 ∷ (o ++ r)) l m = record { at = tag.at; clean = tag.clean } in
    let P : List ℕ → Type 0 = λ v. Reach v l (told d scope k m) in
    subst P (regroup o r (text k)) (reach_on (60 ∷ (o ++ r)) (text k) l m (told d scope k m) one (told_reach d 0 scope k m h.1.1.1))
told_reach d n scope (pair o ws e i f k) l h =
    let r : List ℕ = tag_rest ws e (62 ∷ []) in
    let frame = framed scope (tag_of o ws l) in
    let t : Level = tag_passed (suc d) scope o ws e (62 ∷ []) l in
    let a : Level = told (suc d) frame.scope i (fresh t) in
    let b : Level = passed (end_tag o f) a in
    let m : Level = adopt frame b in
    let tag = past_tag (suc d) scope o ws e (62 ∷ []) l in
    let one : Reach (60 ∷ (o ++ r)) l (fresh t) = record { at = tag.at; clean = tag.clean } in
    let two : Reach (text i) (fresh t) a = told_reach (suc d) 0 frame.scope i (fresh t) h.1.1.1.0 in
    let three : Reach (end_tag o f) a m = record { at = (past_passed (end_tag o f) a).at; clean = (past_passed (end_tag o f) a).clean } in
    let four : Reach (text k) m (told d scope k m) = told_reach d 0 scope k m h.1.1.1.1.1 in
    let P : List ℕ → Type 0 = λ v. Reach v l (told d scope k m) in
    subst P (regroup o r (text i ++ (end_tag o f ++ text k)))
    (reach_on (60 ∷ (o ++ r)) (text i ++ (end_tag o f ++ text k)) l (fresh t) (told d scope k m) one
    (reach_on (text i) (end_tag o f ++ text k) (fresh t) a (told d scope k m) two (reach_on (end_tag o f) (text k) a m (told d scope k m) three four)))

-- The declaration at the front of a document.

past_set : (k : Key) (v : List ℕ) (p : ℕ) (cs : List ℕ) (l m : Level) → Past cs l m → Past cs l (set k v p m)
past_set version_key v p cs l m x = x
past_set encoding_key v p cs l m x = past_blame (not (same_letters (encode_utf8_all v) (codes "UTF-8"))) encoding_kind p cs l m x
past_set standalone_key v p cs l m x = x

past_setting : (k : Key) (s : Setting) (l : Level) → Past (setting_text k s) l (setting_told k s l)
past_setting k s l =
    let v : Level = passed (setting_front k s) l in
    let e : List ℕ = s.value ++ s.quote ∷ [] in
    past_set k s.value v.at (setting_text k s) l (passed e v) (past_both (setting_front k s) e l v (passed e v) (past_passed (setting_front k s) l) (past_passed e v))

past_optional : (k : Key) (o : Option Setting) (l : Level) → Past (optional_text k o) l (optional_told k o l)
past_optional k None l = past_none l
past_optional k (Some s) l = past_setting k s l

pub past_declared : (o : Option Declaration) (l : Level) → Past (declared_text o) l (declared_told o l)
past_declared None l = past_none l
past_declared (Some d) l =
    let a : Level = passed (codes "<?xml") l in
    let b : Level = setting_told version_key d.version a in
    let c : Level = optional_told encoding_key d.encoding b in
    let e : Level = optional_told standalone_key d.standalone c in
    let z : List ℕ = d.last ++ codes "?>" in
    let y : List ℕ = optional_text standalone_key d.standalone ++ z in
    let x : List ℕ = optional_text encoding_key d.encoding ++ y in
    past_both (codes "<?xml") (setting_text version_key d.version ++ x) l a (passed z e) (past_passed (codes "<?xml") l)
    (past_both (setting_text version_key d.version) x a b (passed z e) (past_setting version_key d.version a)
    (past_both (optional_text encoding_key d.encoding) y b c (passed z e) (past_optional encoding_key d.encoding b)
    (past_both (optional_text standalone_key d.standalone) z c e (passed z e) (past_optional standalone_key d.standalone c) (past_passed z e))))
