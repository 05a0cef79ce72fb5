-- What content says is kept as a tree keeps it, element by element.
use Rattle.std.proofs.Common.{◌≡◌, ℕ, suc, ◌≤◌, ◌<◌, nat_le, true, false, List, [], ◌∷◌, ◌++◌, refl, sym, ap, subst, append_assoc, arith}
use Rattle.std.specs.Prelude.{codes}
use Rattle.std.proofs.lemmas.Bool.Decides.{nat_tests}
use Rattle.zi_names.specs.declared.attributes.Binding.{Binding}
use Rattle.zi_names.specs.Names.{scope_in}
use Rattle.zi_xml.specs.Chars.{is_white}
use Rattle.zi_xml.specs.Syntax.{Written, Content, stop, bit, section, comment, instruction, void, pair, bit_text, text, section_text, comment_text, instruction_text, end_tag, tag_rest, AllAre, IsName, AreWritten, IsContentAfter, brackets_after}
use Rattle.zi_xml.specs.Meaning.{Level, Frame, passed, heard_all, bit_told, raw_of, tag_of, framed, fresh, adopt, tag_passed, told}
use Rattle.zi_doc_laws.specs.Trees.{ends_name}
use Rattle.zi_doc_laws.proofs.CarriedLaws.{none_carried, attributes_carried}
use Rattle.zi_doc_laws.proofs.PastLaws.{size_less, Past, past_bit, past_section, past_passed, past_tag, tag_near, Reach, told_reach}
use Rattle.zi_doc_laws.proofs.FineLaws.{Good, goes_on, good_start, good_adopted}
use Rattle.zi_doc_laws.proofs.TagLaws.{Stands, stand_front, stand_behind, tag_stands}

near : (d : ℕ) → nat_le 65 (suc d) ≡ false → d < 64
near d h = grind (arith, nat_tests)

regroup : (n r k : List ℕ) → 60 ∷ (n ++ (r ++ k)) ≡ (60 ∷ (n ++ r)) ++ k
regroup n r k = ap (λ v. 60 ∷ v) (sym (append_assoc n r k))

slash_ends : ends_name 47 ≡ true
unfolding is_white
slash_ends = refl

more_ends : ends_name 62 ≡ true
unfolding is_white
more_ends = refl

-- What is known of a tag without a fault, behind which these characters stand.
record Entered (w : List ℕ) (d : ℕ) (f : Frame) (l t : Level) (ks : List ℕ) : Type 0 where
  inner : Good w (suc l.at) (suc d) (fresh t)
  behind : Stands w t.at ks
  adopted : (lo : ℕ) (m : Level) → Good w lo d l → Good w (suc l.at) (suc d) m → Good w lo d (adopt f m)

entered : (w : List ℕ) (d : ℕ) (scope : List Binding) (n : List ℕ) (ws : List Written) (e : List ℕ) (c : ℕ) (close : List ℕ) (l : Level) (ks : List ℕ)
    → IsName n → AreWritten ws → AllAre is_white e → ends_name c ≡ true → Stands w l.at (60 ∷ (n ++ (tag_rest ws e (c ∷ close) ++ ks)))
    → (tag_passed (suc d) scope n ws e (c ∷ close) l).found ≡ [] → Entered w d (framed scope (tag_of n ws l)) l (tag_passed (suc d) scope n ws e (c ∷ close) l) ks
entered w d scope n ws e c close l ks name right white last s clean =
    let r : List ℕ = tag_rest ws e (c ∷ close) in
    let t : Level = tag_passed (suc d) scope n ws e (c ∷ close) l in
    let tag : Past (60 ∷ (n ++ r)) l t = past_tag (suc d) scope n ws e (c ∷ close) l in
    let further : suc l.at ≤ t.at = omega (arith, tag.at, size_less (n ++ r)) in
    let S : List ℕ → Type 0 = λ v. Stands w l.at v in
    record {
      inner = good_start w (suc l.at) (suc d) (fresh t) refl further none_carried;
      behind = stand_behind w l.at t.at (60 ∷ (n ++ r)) ks tag.at (subst S (regroup n r ks) s);
      adopted = λ lo m out in_. good_adopted w lo d (framed scope (tag_of n ws l)) m (near d (tag_near (suc d) scope n ws e (c ∷ close) l name clean))
          (tag_stands w l.at n ws e c close ks name right white last s) (attributes_carried ws (scope_in (raw_of ws) scope) right) out in_;
    }

pub kept : (w : List ℕ) (lo d n : ℕ) (scope : List Binding) (k : Content) (l : Level) → IsContentAfter n k → Stands w l.at (text k) → (told d scope k l).found ≡ [] → Good w lo d l
    → Good w lo d (told d scope k l)
kept w lo d n scope stop l h s clean g = g
kept w lo d n scope (bit b k) l h s clean g =
    let m : Level = bit_told b l in
    let p : Past (bit_text b) l m = past_bit n b l h.0 in
    kept w lo d (brackets_after n b) scope k m h.1 (stand_behind w l.at m.at (bit_text b) (text k) p.at s) clean (goes_on w lo d (bit_text b) l m p g)
kept w lo d n scope (section cs k) l h s clean g =
    let m : Level = passed (codes "]]>") (heard_all cs (passed (codes "<![CDATA[") l)) in
    let p : Past (section_text cs) l m = past_section cs l h.0.0 in
    kept w lo d 0 scope k m h.1 (stand_behind w l.at m.at (section_text cs) (text k) p.at s) clean (goes_on w lo d (section_text cs) l m p g)
kept w lo d n scope (comment cs k) l h s clean g =
    let m : Level = passed (comment_text cs) l in
    let p : Past (comment_text cs) l m = past_passed (comment_text cs) l in
    kept w lo d 0 scope k m h.1 (stand_behind w l.at m.at (comment_text cs) (text k) p.at s) clean (goes_on w lo d (comment_text cs) l m p g)
kept w lo d n scope (instruction o cs k) l h s clean g =
    let m : Level = passed (instruction_text o cs) l in
    let p : Past (instruction_text o cs) l m = past_passed (instruction_text o cs) l in
    kept w lo d 0 scope k m h.1 (stand_behind w l.at m.at (instruction_text o cs) (text k) p.at s) clean (goes_on w lo d (instruction_text o cs) l m p g)
kept w lo d n scope (void o ws e k) l h s clean g =
    let t : Level = tag_passed (suc d) scope o ws e (47 ∷ 62 ∷ []) l in
    let m : Level = adopt (framed scope (tag_of o ws l)) (fresh t) in
    let whole : m.found ≡ [] = (told_reach d 0 scope k m h.1.1.1).clean clean in
    let x = entered w d scope o ws e 47 (62 ∷ []) l (text k) h.0 h.1.0 h.1.1.0 slash_ends s whole in
    kept w lo d 0 scope k m h.1.1.1 x.behind clean (x.adopted lo (fresh t) g x.inner)
kept w lo d n scope (pair o ws e i f k) l h s clean g =
    let frame : Frame = framed scope (tag_of o ws l) in
    let t : Level = tag_passed (suc d) scope o ws e (62 ∷ []) l in
    let a : Level = told (suc d) frame.scope i (fresh t) in
    let b : Level = passed (end_tag o f) a in
    let m : Level = adopt frame b in
    let ends : Past (end_tag o f) a b = past_passed (end_tag o f) a in
    let inside : Reach (text i) (fresh t) a = told_reach (suc d) 0 frame.scope i (fresh t) h.1.1.1.0 in
    let whole : a.found ≡ [] = ends.clean ((told_reach d 0 scope k m h.1.1.1.1.1).clean clean) in
    let x = entered w d scope o ws e 62 [] l (text i ++ (end_tag o f ++ text k)) h.0 h.1.0 h.1.1.0 more_ends s (inside.clean whole) in
    let last : Stands w a.at (end_tag o f ++ text k) = stand_behind w t.at a.at (text i) (end_tag o f ++ text k) inside.at x.behind in
    let behind : Stands w m.at (text k) = stand_behind w a.at b.at (end_tag o f) (text k) ends.at last in
    let children : Good w (suc l.at) (suc d) a = kept w (suc l.at) (suc d) 0 frame.scope i (fresh t) h.1.1.1.0 (stand_front w t.at (text i) (end_tag o f ++ text k) x.behind) whole x.inner in
    kept w lo d 0 scope k m h.1.1.1.1.1 behind clean (x.adopted lo b g (goes_on w (suc l.at) (suc d) (end_tag o f) a b ends children))
