-- What the parse tree of a canonical text means.
use Rattle.std.specs.Prelude.{encode_utf8, encode_utf8_all, if◌then◌else◌}
use Rattle.std.proofs.Common.{◌≡◌, ℕ, suc, zero, ◌<◌, Bool, true, false, ◌&&◌, ◌==◌, nat_le, nat_lt, List, [], ◌∷◌, ◌++◌, map, refl, sym, ap, ◌∙◌, subst, arith}
use Rattle.std.specs.List.{list_any, list_all}
use Rattle.std.specs.Str.{chars}
use Rattle.std.proofs.Math.Utf8.{encode}
use Rattle.std.proofs.lemmas.Str.{encodes-chars}
use Rattle.std.proofs.lemmas.List.Folds.{list_all-append}
use Rattle.std.proofs.lemmas.Bool.Decides.{nat_tests}
use Rattle.std.proofs.lemmas.Bool.{or_parts}
use Rattle.zi_elements.specs.declared.element.Attr.{Attr}
use Rattle.zi_elements.specs.declared.element.Element.{Element}
use Rattle.zi_elements.specs.declared.element.Node.TheVariants.{Child, Words}
use Rattle.zi_elements.specs.Forest.{Forest, none, words, child, joined, nodes_view}
use Rattle.zi_names.specs.declared.attributes.Raw.{Raw}
use Rattle.zi_names.specs.declared.attributes.Binding.{Binding}
use Rattle.zi_names.specs.Names.{is_empty, prefix, local, scope_in, address_of, attributes_of, has_bad_prefix, has_repeated, has_twice}
use Rattle.zi_xml.specs.Chars.{is_white}
use Rattle.zi_xml.specs.Syntax.{letter, Written, Content, stop, bit, end_tag}
use Rattle.zi_xml.specs.Meaning.{Level, Kind, depth_kind, repeated_kind, prefix_kind, tick, passed, blame_if, heard, flush, settled, written_passed, all_passed, raw_of, tag_of, Frame, framed, judged, fresh, element_of, adopt, named_on, tag_passed, told}
use Rattle.zi_elements.specs.Namespace.{injector}
use Rattle.zi_docout.specs.Amiss.{is_plain_name, same_name, is_amiss_attr, is_amiss_text, texts, count, standing, is_amiss}
use Rattle.zi_docout.specs.Same.{has_child, bare, unplaced}
use Rattle.zi_docout.proofs.FineLemmas.{FineText, fine_text, parts}
use Rattle.zi_docout.proofs.ForestLemmas.{node_alone, child_view, words_view}
use Rattle.zi_docout.proofs.BitLemmas.{said_told, Hears, heard_letter, value_bits_clean}
use Rattle.zi_docout.proofs.ParsedLemmas.{spaces, written, shaped, parsed, FineTexts, first_text, name_spelled}
use Rattle.zi_docout.proofs.NamesLemmas.{raw, raws, Meant, inner_meant}
use Rattle.zi_doc.proofs.Roots.{passed_found}
use Rattle.zi_doc_laws.proofs.FineLaws.{joined_none, joined_assoc, nodes_append}

-- Trees without layout.

pub bare_joined : (b : Bool) (f g : Forest) → bare b (joined f g) ≡ joined (bare b f) (bare b g)
bare_joined b none g = refl
bare_joined b (words t f) g =
    let x = b && list_all is_white t in
    each x (bare b (joined f g)) (bare b f) (bare b g) (bare_joined b f g)
  where
    each : (x : Bool) (u v w : Forest) → u ≡ joined v w → (if x then u else words t u) ≡ joined (if x then v else words t v) w
    each true u v w e = e
    each false u v w e = ap (words t) e
bare_joined b (child s n xs f p k) g = ap (child s n xs (bare (has_child f) f) 0) (bare_joined b k g)

pub child_bare : (b : Bool) (f : Forest) → has_child (bare b f) ≡ has_child f
child_bare b none = refl
child_bare b (words t f) = each (b && list_all is_white t) (bare b f) (child_bare b f)
  where
    each : (x : Bool) (u : Forest) → has_child u ≡ has_child f → has_child (if x then u else words t u) ≡ has_child f
    each true u e = e
    each false u e = e
child_bare b (child s n xs f p k) = refl

-- Nothing but white space since the last child, and no fault.
pub record Quiet (l : Level) : Type 0 where
  pub found : l.found ≡ []
  pub returned : l.returned ≡ false
  pub blank : list_all is_white l.letters ≡ true

-- From l to m these nodes came, layout and places left out.
pub record Goes (l m : Level) (f : Forest) : Type 0 where
  pub quiet : Quiet m
  pub nodes : bare true (nodes_view m.before) ≡ joined (bare true (nodes_view l.before)) f

pub rests : (l : Level) → Quiet l → Goes l l none
rests l q = record { quiet = q; nodes = sym (joined_none (bare true (nodes_view l.before))) }

pub goes_on : (l m n : Level) (f g : Forest) → Goes l m f → Goes m n g → Goes l n (joined f g)
goes_on l m n f g a b = record {
  quiet = b.quiet;
  nodes = b.nodes ∙ (ap (λ v. joined v g) a.nodes ∙ joined_assoc (bare true (nodes_view l.before)) f g);
}

goes_heard : (c : ℕ) (l : Level) → Quiet l → (c == 13) ≡ false → list_all is_white (encode_utf8 c) ≡ true → Goes l (heard c l) none
goes_heard c l q r w =
    let h = heard_letter c l r q.returned in
    record {
      quiet = record {
        found = h.found ∙ q.found;
        returned = h.returned;
        blank = ap (list_all is_white) h.letters ∙ (list_all-append is_white l.letters (encode_utf8 c) ∙ (ap (λ b. b && list_all is_white (encode_utf8 c)) q.blank ∙ w));
      };
      nodes = ap (λ v. bare true (nodes_view v)) h.before ∙ sym (joined_none (bare true (nodes_view l.before)));
    }

pub space_heard : (l : Level) → Quiet l → Goes l (heard 32 l) none
unfolding is_white encode
space_heard l q = goes_heard 32 l q refl refl

pub line_heard : (l : Level) → Quiet l → Goes l (heard 10 l) none
unfolding is_white encode
line_heard l q = goes_heard 10 l q refl refl

pub spaces_told : (d e : ℕ) (scope : List Binding) (k : Content) (l : Level) → Quiet l
    → (m : Level) × (told e scope (spaces d k) l ≡ told e scope k m) × Goes l m none
spaces_told zero e scope k l q = (l, refl, rests l q)
spaces_told (suc d) e scope k l q =
    let a = space_heard l q in
    let b = space_heard (heard 32 l) a.quiet in
    let c = spaces_told d e scope k (heard 32 (heard 32 l)) b.quiet in
    (c.0, c.1, goes_on l (heard 32 l) c.0 none none a (goes_on (heard 32 l) (heard 32 (heard 32 l)) c.0 none none b c.2))

flush_bare : (t : List ℕ) → list_all is_white t ≡ true → bare true (nodes_view (flush t)) ≡ none
flush_bare [] h = refl
flush_bare (c ∷ cs) h =
    ap (bare true) (node_alone (Words (c ∷ cs)) ∙ words_view (c ∷ cs)) ∙ ap (λ b. if b then none else words (c ∷ cs) none) h

settled_bare : (l : Level) → Quiet l → bare true (nodes_view (settled l)) ≡ bare true (nodes_view l.before)
settled_bare l q =
    ap (bare true) (nodes_append l.before (flush l.letters))
    ∙ (bare_joined true (nodes_view l.before) (nodes_view (flush l.letters))
    ∙ (ap (joined (bare true (nodes_view l.before))) (flush_bare l.letters q.blank) ∙ joined_none (bare true (nodes_view l.before))))

-- the children of an element, layout and places left out, and no fault
record Kids (m : Level) (f : Forest) : Type 0 where
  found : m.found ≡ []
  nodes : bare (has_child (nodes_view (settled m))) (nodes_view (settled m)) ≡ unplaced f

record Framed (frame : Frame) (n : List ℕ) (xs : List Attr) (inner : List Binding) (l : Level) : Type 0 where
  space : frame.space ≡ injector
  name : frame.local ≡ n
  attrs : frame.attrs ≡ xs
  scope : frame.scope ≡ inner
  outer : frame.outer ≡ l

adopted : (frame : Frame) (n : List ℕ) (xs : List Attr) (inner : List Binding) (l m : Level) (f : Forest) → Framed frame n xs inner l → Quiet l → Kids m f
    → Goes l (adopt frame m) (child injector n xs (unplaced f) 0 none)
adopted frame n xs inner l m f h q k =
    let e : Element = element_of frame (settled m) in
    let F : Forest = nodes_view (settled m) in
    let C : List ℕ → List ℕ → List Attr → Forest → Forest = λ s v ys g. child s v ys g 0 none in
    record {
      quiet = record { found = k.found; returned = refl; blank = refl };
      nodes = ap (bare true) (nodes_append (settled frame.outer) (Child e ∷ []))
          ∙ (bare_joined true (nodes_view (settled frame.outer)) (nodes_view (Child e ∷ []))
          ∙ (ap (λ v. joined (bare true (nodes_view (settled v))) (bare true (nodes_view (Child e ∷ [])))) h.outer
          ∙ (ap (λ v. joined v (bare true (nodes_view (Child e ∷ [])))) (settled_bare l q)
          ∙ ap (joined (bare true (nodes_view l.before)))
          (ap (bare true) (node_alone (Child e) ∙ child_view e)
          ∙ (ap (λ v. C v frame.local frame.attrs (bare (has_child F) F)) h.space
          ∙ (ap (λ v. C injector v frame.attrs (bare (has_child F) F)) h.name
          ∙ (ap (λ v. C injector n v (bare (has_child F) F)) h.attrs ∙ ap (C injector n xs) k.nodes)))))));
    }

-- Tags.

-- the children, the text and whether a CR was last stay but for the last
pub passed_before : (cs : List ℕ) (l : Level) → (passed cs l).before ≡ l.before
passed_before [] l = refl
passed_before (c ∷ cs) l = passed_before cs (tick c l)

pub passed_letters : (cs : List ℕ) (l : Level) → (passed cs l).letters ≡ l.letters
passed_letters [] l = refl
passed_letters (c ∷ cs) l = passed_letters cs (tick c l)

blame_found : (b : Bool) (k : Kind) (p : ℕ) (l : Level) → b ≡ false → (blame_if b k p l).found ≡ l.found
blame_found true k p l h = cc
blame_found false k p l h = refl

pub attrs_clean : (xs : List Attr) (l : Level) → (all_passed (map written xs) l).found ≡ l.found
attrs_clean [] l = refl
attrs_clean (a ∷ xs) l =
    attrs_clean xs (written_passed (written a) l)
    ∙ (value_bits_clean (chars a.value) (passed (32 ∷ (a.name ++ 61 ∷ 34 ∷ [])) l) ∙ passed_found (32 ∷ (a.name ++ 61 ∷ 34 ∷ [])) l)

named_found : (d p : ℕ) (n : List ℕ) (l : Level) → nat_le 65 d ≡ false → (named_on d p n l).found ≡ l.found
named_found d p [] l h = refl
named_found d p (c ∷ cs) l h = passed_found cs (blame_if (nat_le 65 d) depth_kind p (tick c l)) ∙ blame_found (nat_le 65 d) depth_kind p (tick c l) h

one_more : (d : ℕ) → nat_le 64 d ≡ false → nat_le 65 (suc d) ≡ false
one_more d h = grind (arith, nat_tests)

-- what is known of a tag: its attributes as the scope resolves them
pub record Tagged (scope inner : List Binding) (n : List ℕ) (ws : List Written) (xs : List Attr) : Type 0 where
  pub raws : List Raw
  pub are : raw_of ws ≡ raws
  pub meant : Meant scope raws inner n xs
  pub ascii : encode_utf8_all n ≡ n
  pub clean : (l : Level) → (all_passed ws l).found ≡ l.found

framed_is : (scope inner : List Binding) (n : List ℕ) (ws : List Written) (xs : List Attr) (l : Level) → Tagged scope inner n ws xs → Framed (framed scope (tag_of n ws l)) n xs inner l
framed_is scope inner n ws xs l t =
    let P : List Raw → Type 0 = λ R. Framed (framed scope (record { name = n; raw = R; outer = l })) n xs inner l in
    let m = t.meant in
    subst P (sym t.are) (record {
      space = ap (λ v. address_of (scope_in t.raws scope) (prefix v)) t.ascii ∙ (ap (λ v. address_of v (prefix n)) m.entered ∙ m.space);
      name = ap local t.ascii ∙ m.name;
      attrs = ap (attributes_of t.raws) m.entered ∙ m.attrs;
      scope = m.entered;
      outer = refl;
    })

judged_found : (scope inner : List Binding) (n : List ℕ) (ws : List Written) (xs : List Attr) (l m : Level) → Tagged scope inner n ws xs → (judged scope (tag_of n ws l) m).found ≡ m.found
judged_found scope inner n ws xs l m t =
    let P : List Raw → Type 0 = λ R. (judged scope (record { name = n; raw = R; outer = l }) m).found ≡ m.found in
    let x = t.meant in
    let prefixes : has_bad_prefix (encode_utf8_all n) t.raws (scope_in t.raws scope) ≡ false =
    ap (λ v. has_bad_prefix v t.raws (scope_in t.raws scope)) t.ascii ∙ (ap (has_bad_prefix n t.raws) x.entered ∙ x.prefixes) in
    let once : has_repeated t.raws (scope_in t.raws scope) ≡ false = ap (has_repeated t.raws) x.entered ∙ x.once in
    subst P (sym t.are) (blame_found _ repeated_kind l.at _ once ∙ blame_found _ prefix_kind l.at m prefixes)

tag_found : (d : ℕ) (scope inner : List Binding) (n : List ℕ) (ws : List Written) (xs : List Attr) (close : List ℕ) (l : Level) → Tagged scope inner n ws xs → nat_le 64 d ≡ false → Quiet l
    → (tag_passed (suc d) scope n ws [] close l).found ≡ []
tag_found d scope inner n ws xs close l t near q =
    let a : Level = named_on (suc d) l.at n (tick 60 l) in
    let b : Level = all_passed ws a in
    judged_found scope inner n ws xs l (passed close b) t
    ∙ (passed_found close b ∙ (t.clean a ∙ (named_found (suc d) l.at n (tick 60 l) (one_more d near) ∙ q.found)))

-- Children.

pub lone_text : (g : Forest) → nat_lt 1 (suc (count g)) ≡ false → g ≡ none
lone_text none h = refl
lone_text (words t g) h = absurd (many (count g) h)
  where
    many : (n : ℕ) → nat_lt 1 (suc (suc n)) ≡ false → ⊥
    many n h = grind (arith, nat_tests)
lone_text (child s n xs f p g) h = absurd (many (count g) h)
  where
    many : (n : ℕ) → nat_lt 1 (suc (suc n)) ≡ false → ⊥
    many n h = grind (arith, nat_tests)

counted : (g : Forest) (t : List ℕ) (ts : List (List ℕ)) → texts g ≡ t ∷ ts → 0 < count g
counted none t ts h = cc
counted (words u g) t ts h = omega arith
counted (child s n xs f p g) t ts h = omega arith

-- beside an element no text stands
no_texts : (s n : List ℕ) (xs : List Attr) (f : Forest) (p : ℕ) (g : Forest) → FineTexts (child s n xs f p g) → texts g ≡ []
no_texts s n xs f p g h = cases (texts g) refl
  where
    many : (m : ℕ) → 0 < m → nat_lt 1 (suc m) ≡ false → ⊥
    many m k h = grind (arith, nat_tests)

    cases : (ts : List (List ℕ)) → texts g ≡ ts → texts g ≡ []
    cases [] e = e
    cases (t ∷ ts) e =
        let P : List (List ℕ) → Type 0 = λ v. list_any (is_amiss_text (suc (count g))) v ≡ false in
        absurd (many (count g) (counted g t ts e) (fine_text (suc (count g)) t (or_parts _ _ (subst P e h)).0).lone)

flush_some : (t : List ℕ) → is_empty t ≡ false → flush t ≡ Words t ∷ []
flush_some [] h = cc
flush_some (c ∷ cs) h = refl

text_kids : (t : List ℕ) (g : Forest) (l m : Level) (close : List ℕ) → FineText (suc (count g)) t → l.before ≡ [] → l.letters ≡ [] → l.found ≡ [] → Hears l t m → Kids (passed close m) (words t g)
text_kids t g l m close h before letters found x =
    let z : Level = passed close m in
    let said_is : settled z ≡ Words t ∷ [] =
    ap (λ v. v ++ flush z.letters) (passed_before close m ∙ (x.before ∙ before))
    ∙ (ap flush (passed_letters close m ∙ (x.letters ∙ ap (λ v. v ++ t) letters)) ∙ flush_some t h.some) in
    let seen : nodes_view (settled z) ≡ words t none = ap nodes_view said_is ∙ (node_alone (Words t) ∙ words_view t) in
    record {
      found = passed_found close m ∙ (x.found ∙ found);
      nodes = ap (λ v. bare (has_child v) v) seen ∙ ap (λ v. words t (unplaced v)) (sym (lone_text g h.lone));
    }

lines_kids : (f : Forest) (l m : Level) (close : List ℕ) → has_child (unplaced f) ≡ true → l.before ≡ [] → Goes l m (unplaced f) → Kids (passed close m) f
lines_kids f l m close some before x =
    let z : Level = passed close m in
    let stays : settled z ≡ settled m = ap (λ v. v ++ flush z.letters) (passed_before close m) ∙ ap (λ v. m.before ++ flush v) (passed_letters close m) in
    let F : Forest = nodes_view (settled m) in
    let seen : bare true F ≡ unplaced f = settled_bare m x.quiet ∙ (x.nodes ∙ ap (λ v. joined (bare true (nodes_view v)) (unplaced f)) before) in
    let beside : has_child F ≡ true = sym (child_bare true F) ∙ (ap has_child seen ∙ some) in
    record {
      found = passed_found close m ∙ x.quiet.found;
      nodes = ap (λ v. bare (has_child (nodes_view v)) (nodes_view v)) stays ∙ (ap (λ b. bare b F) beside ∙ seen);
    }

-- what the lines inside an element mean
abbrev pub Inner : ℕ → List Binding → Forest → Content → Type 0
Inner d scope f i = texts f ≡ [] → (l : Level) → Quiet l → (m : Level) × (told d scope i l ≡ m) × Goes l m (unplaced f)

pub shaped_told : (d : ℕ) (scope inner : List Binding) (n : List ℕ) (ws : List Written) (xs : List Attr) (f : Forest) (i k : Content) (l : Level)
    → Tagged scope inner n ws xs → nat_le 64 d ≡ false → FineTexts f → Quiet l → Inner (suc d) inner f i
    → (m : Level) × (told d scope (shaped n ws f i k) l ≡ told d scope k m) × Goes l m (child injector n xs (unplaced f) 0 none) × ((t : Element) × (m.before ≡ settled l ++ Child t ∷ []))
shaped_told d scope inner n ws xs none i k l t near fine q lines =
    let frame : Frame = framed scope (tag_of n ws l) in
    let m : Level = fresh (tag_passed (suc d) scope n ws [] (47 ∷ 62 ∷ []) l) in
    let kids : Kids m none = record { found = tag_found d scope inner n ws xs (47 ∷ 62 ∷ []) l t near q; nodes = refl } in
    (adopt frame m, refl, adopted frame n xs inner l m none (framed_is scope inner n ws xs l t) q kids, (element_of frame (settled m), refl))
shaped_told d scope inner n ws xs (words u g) i k l t near fine q lines =
    let frame : Frame = framed scope (tag_of n ws l) in
    let m : Level = fresh (tag_passed (suc d) scope n ws [] (62 ∷ []) l) in
    let h = framed_is scope inner n ws xs l t in
    let w = first_text u g fine in
    let x = said_told (suc d) frame.scope (chars u) stop m refl in
    let P : List ℕ → Type 0 = λ v. Hears m v x.0 in
    let kids = text_kids u g m x.0 (end_tag n []) w refl refl (tag_found d scope inner n ws xs (62 ∷ []) l t near q) (subst P (encodes-chars u w.carried.utf8) x.2) in
    (adopt frame (passed (end_tag n []) x.0), ap (λ v. told d scope k (adopt frame (passed (end_tag n []) v))) x.1, adopted frame n xs inner l (passed (end_tag n []) x.0) (words u g) h q kids, (element_of frame (settled (passed (end_tag n []) x.0)), refl))
shaped_told d scope inner n ws xs (child s o ys f p g) i k l t near fine q lines =
    let frame : Frame = framed scope (tag_of n ws l) in
    let m : Level = fresh (tag_passed (suc d) scope n ws [] (62 ∷ []) l) in
    let h = framed_is scope inner n ws xs l t in
    let quiet : Quiet m = record { found = tag_found d scope inner n ws xs (62 ∷ []) l t near q; returned = refl; blank = refl } in
    let a = line_heard m quiet in
    let x = lines (no_texts s o ys f p g fine) (heard 10 m) a.quiet in
    let kids = lines_kids (child s o ys f p g) (heard 10 m) x.0 (end_tag n []) refl refl x.2 in
    let same : told (suc d) frame.scope i (heard 10 m) ≡ x.0 = ap (λ v. told (suc d) v i (heard 10 m)) h.scope ∙ x.1 in
    (adopt frame (passed (end_tag n []) x.0), ap (λ v. told d scope k (adopt frame (passed (end_tag n []) v))) same, adopted frame n xs inner l (passed (end_tag n []) x.0) (child s o ys f p g) h q kids, (element_of frame (settled (passed (end_tag n []) x.0)), refl))

pub inner_tagged : (scope : List Binding) (n : List ℕ) (xs : List Attr) → address_of scope [] ≡ injector → is_plain_name n ≡ true → list_any is_amiss_attr xs ≡ false
    → has_twice same_name xs ≡ false → Tagged scope scope n (map written xs) xs
inner_tagged scope n xs here plain fine once = record {
  raws = map raw xs;
  are = raws xs fine;
  meant = inner_meant scope n xs here plain fine once;
  ascii = (name_spelled n plain).text;
  clean = attrs_clean xs;
}

pub parsed_told : (d : ℕ) (f : Forest) (k : Content) (scope : List Binding) (l : Level) → address_of scope [] ≡ injector → list_any is_amiss (standing d f) ≡ false → texts f ≡ [] → Quiet l
    → (m : Level) × (told d scope (parsed d f k) l ≡ told d scope k m) × Goes l m (unplaced f)
parsed_told d none k scope l here fine alone q = (l, refl, rests l q)
parsed_told d (words t f) k scope l here fine alone q = cc
parsed_told d (child s n xs f p g) k scope l here fine alone q =
    let w = parts d s n xs f p g fine in
    let i : Content = parsed (suc d) f (spaces d stop) in
    let lines : Inner (suc d) scope f i = λ none_said z quiet.
    let u = parsed_told (suc d) f (spaces d stop) scope z here w.inside none_said quiet in
    let v = spaces_told d (suc d) scope stop u.0 u.2.quiet in
    (v.0, u.1 ∙ v.1, subst (λ (o : Forest). Goes z v.0 o) (joined_none (unplaced f)) (goes_on z u.0 v.0 (unplaced f) none u.2 v.2)) in
    let a = spaces_told d d scope (shaped n (map written xs) f i (bit (letter 10) (parsed d g k))) l q in
    let b = shaped_told d scope scope n (map written xs) xs f i (bit (letter 10) (parsed d g k)) a.0 (inner_tagged scope n xs here w.here.name w.here.attrs w.here.once) w.here.near w.here.texts a.2.quiet lines in
    let c = line_heard b.0 b.2.quiet in
    let e = parsed_told d g k scope (heard 10 b.0) here w.behind alone c.quiet in
    let C : List ℕ → Forest = λ v. child v n xs (unplaced f) 0 (unplaced g) in
    let goes : Goes l e.0 (C injector) = goes_on l a.0 e.0 none _ a.2 (goes_on a.0 b.0 e.0 _ _ b.2 (goes_on b.0 (heard 10 b.0) e.0 none (unplaced g) c e.2)) in
    (e.0, a.1 ∙ (b.1 ∙ e.1), subst (λ (v : List ℕ). Goes l e.0 (C v)) (sym w.here.space) goes)
