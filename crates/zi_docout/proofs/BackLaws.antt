-- What is written of a tree is read as the same tree.
use Rattle.std.specs.Prelude.{codes, flat_map}
use Rattle.std.proofs.Common.{◌≡◌, ℕ, ◌+◌, Bool, true, false, ◌||◌, cond, List, [], ◌∷◌, ◌++◌, map, Some, None, refl, sym, ap, ◌∙◌, subst, append_assoc}
use Rattle.std.specs.List.{list_any, position_from}
use Rattle.std.specs.Str.{chars}
use Rattle.std.proofs.Math.Utf8.{encode}
use Rattle.zi_elements.specs.declared.element.Element.{Element}
use Rattle.zi_elements.specs.declared.element.Node.TheVariants.{Child}
use Rattle.zi_elements.specs.Forest.{Forest, none, words, child, joined, nodes_view, Elem, element_view}
use Rattle.zi_names.specs.Names.{first_scope}
use Rattle.zi_xml.specs.Chars.{is_white, is_quote, is_digit, is_encoding_first, is_encoding, small}
use Rattle.zi_xml.specs.Syntax.{letter, Written, Content, stop, bit, text, all_text, Misc, white, miscs_text, Setting, Declaration, IsDeclaration, Root, alone as void_root, whole, root_text, IsRoot, Document, IsDocument, document_text}
use Rattle.zi_xml.specs.Meaning.{Level, passed, settled, root_told, told, declared_told, start, document_told}
use Rattle.zi_xml.specs.Documents as documents
use Rattle.zi_doc.specs.Documents.{Spells}
use Rattle.zi_doc.specs.Laws.{IsSettled}
use Rattle.zi_elements.specs.Namespace.{injector}
use Rattle.zi_docout.specs.Canonical.{attr_text, tag_text, rest_text, lines_text, declaring, document}
use Rattle.zi_docout.specs.Amiss.{Standing, is_amiss, standing, alone, first_amiss}
use Rattle.zi_docout.specs.Same.{has_child, bare, unplaced, IsSame, IsReadBack}
use Rattle.zi_docout.proofs.FineLemmas.{Parts, parts}
use Rattle.zi_docout.proofs.ForestLemmas.{node_alone, child_view}
use Rattle.zi_docout.proofs.BitLemmas.{said, Spell, nothing, behind, along, ascii, Fits}
use Rattle.zi_docout.proofs.ParsedLemmas.{written, shaped, parsed, plain_name, name_spelled, one, attr_spelled, attrs_spelled, attr_fits, attrs_fit, shaped_spelled, shaped_fits, parsed_spelled, parsed_fits}
use Rattle.zi_docout.proofs.NamesLemmas.{raw, root_scope, root_here, root_meant, root_raws, declaring_fine}
use Rattle.zi_docout.proofs.ToldLemmas.{Quiet, Tagged, Inner, attrs_clean, shaped_told, parsed_told}

none_amiss : (es : List Standing) (i : ℕ) → position_from is_amiss i es ≡ None → list_any is_amiss es ≡ false
none_amiss [] i h = refl
none_amiss (e ∷ es) i h = each (is_amiss e) h (none_amiss es (i + 1))
  where
    each : (b : Bool) → cond b (Some i) (position_from is_amiss (i + 1) es) ≡ None → (position_from is_amiss (i + 1) es ≡ None → list_any is_amiss es ≡ false) → b || list_any is_amiss es ≡ false
    each true k f = cc
    each false k f = f k

root_of : List ℕ → List Written → Forest → Content → Root
root_of n ws none i = void_root n ws []
root_of n ws (words t g) i = whole n ws [] (said (chars t) stop) []
root_of n ws (child s m attrs f p g) i = whole n ws [] (bit (letter 10) i) []

root_written : (n : List ℕ) (ws : List Written) (f : Forest) (i : Content) → root_text (root_of n ws f i) ≡ text (shaped n ws f i stop)
unfolding root_of
root_written n ws none i = refl
root_written n ws (words t g) i = refl
root_written n ws (child s m attrs f p g) i = refl

root_fits : (n : List ℕ) (ws : List Written) (f : Forest) (i : Content) → Fits (shaped n ws f i stop) → IsRoot (root_of n ws f i)
unfolding root_of
root_fits n ws none i h = h 0
root_fits n ws (words t g) i h = h 0
root_fits n ws (child s m attrs f p g) i h = h 0

root_said : (n : List ℕ) (ws : List Written) (f : Forest) (i : Content) (l : Level) → root_told (root_of n ws f i) l ≡ told 0 first_scope (shaped n ws f i stop) l
unfolding root_of
root_said n ws none i l = refl
root_said n ws (words t g) i l = refl
root_said n ws (child s m attrs f p g) i l = refl

setting : List ℕ → Setting
setting v = record { lead = 32; more = []; before = []; behind = []; quote = 34; value = v }

heading : Declaration
heading = record { version = setting (codes "1.0"); encoding = Some (setting (codes "utf-8")); standalone = None; last = [] }

right_heading : IsDeclaration heading
unfolding heading setting is_white is_quote is_digit is_encoding_first is_encoding
right_heading = record {
  version = record { lead = refl; more = tt; before = tt; behind = tt; quote = refl; value = (codes "0", refl, (refl, tt)) };
  encoding = record { lead = refl; more = tt; before = tt; behind = tt; quote = refl; value = (refl, (refl, (refl, (refl, (refl, tt))))) };
  standalone = tt;
  last = tt;
}

line : List Misc
line = white 10 ∷ []

-- the parse tree of a canonical text
parse : Elem → Document
parse e = record {
  mark = false;
  declaration = Some heading;
  front = line;
  root = root_of e.name (map written (declaring ∷ e.attrs)) e.inside (parsed 1 e.inside stop);
  tail = line;
}

parse_spelled : (e : Elem) → Parts 0 e.space e.name e.attrs e.inside none → Spell (document_text (parse e)) (document e)
unfolding parse line heading setting
parse_spelled e q =
    let ws : List Written = map written (declaring ∷ e.attrs) in
    let i : Content = parsed 1 e.inside stop in
    let v : List ℕ = lines_text 1 e.inside in
    let tag : Spell (all_text ws) (flat_map attr_text (declaring ∷ e.attrs)) =
    behind _ _ _ _ (attr_spelled declaring declaring_fine.0 declaring_fine.1) (attrs_spelled e.attrs q.here.attrs) in
    let body = shaped_spelled 0 e.name ws (flat_map attr_text (declaring ∷ e.attrs)) e.inside i v stop [] (name_spelled e.name q.here.name) tag q.here.texts (parsed_spelled 1 e.inside stop [] q.inside nothing) nothing in
    let P : List ℕ → Type 0 = λ cs. Spell cs (tag_text e.name (declaring ∷ e.attrs) ++ (rest_text 0 e.name e.inside v ++ [])) in
    let root = subst P (sym (root_written e.name ws e.inside i)) body in
    behind (codes "<?xml version=\"1.0\" encoding=\"utf-8\"?>") _ _ _ (ascii (codes "<?xml version=\"1.0\" encoding=\"utf-8\"?>") refl)
    (one 10 _ _ refl (along _ _ _ (regroup (tag_text e.name (declaring ∷ e.attrs)) (rest_text 0 e.name e.inside v)) (behind _ _ _ _ root (ascii (10 ∷ []) refl))))
  where
    regroup : (a r : List ℕ) → (a ++ (r ++ [])) ++ 10 ∷ [] ≡ a ++ (r ++ 10 ∷ [])
    regroup a r = append_assoc a (r ++ []) (10 ∷ []) ∙ ap (λ v. a ++ v) (append_assoc r [] (10 ∷ []))

parse_right : (e : Elem) → Parts 0 e.space e.name e.attrs e.inside none → IsDocument (parse e)
unfolding parse line is_white
parse_right e q = record {
  declaration = right_heading;
  front = (refl, tt);
  root = root_fits e.name (map written (declaring ∷ e.attrs)) e.inside (parsed 1 e.inside stop)
      (shaped_fits e.name (map written (declaring ∷ e.attrs)) e.inside (parsed 1 e.inside stop) stop (plain_name e.name q.here.name).1
      (attr_fits declaring declaring_fine.0 declaring_fine.1, attrs_fit e.attrs q.here.attrs) q.here.texts (parsed_fits 1 e.inside stop q.inside (λ _. tt)) (λ _. tt));
  tail = (refl, tt);
}

-- what is known before the root
headed : Level
headed = passed (miscs_text line) (declared_told (Some heading) (passed [] start))

headed_quiet : Quiet headed
unfolding headed line heading setting small encode
headed_quiet = record { found = refl; returned = refl; blank = refl }

headed_bare : settled headed ≡ []
unfolding headed line heading setting small encode
headed_bare = refl

headed_before : headed.before ≡ []
unfolding headed line heading setting small encode
headed_before = refl

-- what the parse tree says is one element, and the same
record Read (e : Elem) (r : Level) : Type 0 where
  found : r.found ≡ []
  tree : Element
  root : r.before ≡ Child tree ∷ []
  same : IsSame e (element_view tree)

same_root : (e : Elem) (t : Element) → e.space ≡ injector → bare true (nodes_view (Child t ∷ [])) ≡ child injector e.name e.attrs (unplaced e.inside) 0 none → IsSame e (element_view t)
same_root e t s h =
    let F : Forest = nodes_view t.children in
    let k : child t.space t.name t.attrs (bare (has_child F) F) 0 none ≡ child injector e.name e.attrs (unplaced e.inside) 0 none =
    sym (ap (bare true) (node_alone (Child t) ∙ child_view t)) ∙ h in
    let spaces : t.space ≡ injector = cc in
    record { space = spaces ∙ sym s; name = cc; attrs = cc; inside = cc }

parse_told : (e : Elem) → Parts 0 e.space e.name e.attrs e.inside none → Read e (document_told (parse e))
unfolding parse headed line
parse_told e q =
    let ws : List Written = map written (declaring ∷ e.attrs) in
    let i : Content = parsed 1 e.inside stop in
    let tagged : Tagged first_scope root_scope e.name ws e.attrs = record {
      raws = raw declaring ∷ map raw e.attrs;
      are = root_raws e.attrs q.here.attrs;
      meant = root_meant e.name e.attrs q.here.name q.here.attrs q.here.once;
      ascii = (name_spelled e.name q.here.name).text;
      clean = attrs_clean (declaring ∷ e.attrs);
    } in
    let lines : Inner 1 root_scope e.inside i = λ alone l quiet. parsed_told 1 e.inside stop root_scope l root_here q.inside alone quiet in
    let x = shaped_told 0 first_scope root_scope e.name ws e.attrs e.inside i stop headed tagged refl q.here.texts headed_quiet lines in
    let m : Level = x.0 in
    let says : root_told (root_of e.name ws e.inside i) headed ≡ m = root_said e.name ws e.inside i headed ∙ x.1 in
    let t : Element = x.3.0 in
    let root : m.before ≡ Child t ∷ [] = x.3.1 ∙ ap (λ v. v ++ Child t ∷ []) headed_bare in
    let P : Level → Type 0 = λ l. Read e (passed (10 ∷ []) l) in
    subst P (sym says) (record {
      found = x.2.quiet.found;
      tree = t;
      root = root;
      same = same_root e t q.here.space (ap (λ v. bare true (nodes_view v)) (sym root) ∙ (x.2.nodes ∙ ap (λ v. joined (bare true (nodes_view v)) (child injector e.name e.attrs (unplaced e.inside) 0 none)) headed_before));
    })

pub read_back : ((w : List ℕ) → IsSettled w) → (e : Element) → first_amiss (element_view e) ≡ None → IsReadBack e
unfolding first_amiss
read_back settled e h =
    let v : Elem = element_view e in
    let q = parts 0 v.space v.name v.attrs v.inside v.place none (none_amiss (standing 0 (alone v)) 0 h) in
    let cs : List ℕ = document_text (parse v) in
    let spelled = parse_spelled v q in
    let r = parse_told v q in
    let says : documents.SaysChars cs (document_told (parse v)) = record { document = parse v; right = parse_right v q; written = refl; told = refl } in
    let spells : Spells (document v) r.tree = ((cs, (spelled.right, spelled.text)), (document_told (parse v), (cs, sym spelled.text, says), r.found, r.root)) in
    record {
      some = (r.tree, spells);
      same = λ t s. let P : Element → Type 0 = λ u. IsSame v (element_view u) in subst P ((settled (document v)).tree r.tree t spells s) r.same;
    }
