-- What reading line by line finds: a listing, or the first line after which there is none.
use Rattle.std.proofs.Common.{◌≡◌, ◌-◌, ℕ, zero, suc, false, List, [], ◌∷◌, ◌++◌, length, Some, None, refl, sym, ◌∙◌, ap, subst, arith, option_and_then}
use Rattle.std.proofs.lemmas.List.{append-nil, append_assoc}
use Rattle.zi_digest.specs.declared.Algorithm.{Algorithm}
use Rattle.zi_tree.specs.Order.{has_byte}
use Rattle.zi_manifest.specs.Listing.{IsManifest, IsLines, BeginsWell, IsBadAt, ReadsAs}
use Rattle.zi_manifest.specs.Reading.{IsEntry, entry_text, run, step, fresh, Placed, all_entries, entries, texts, lines, AreEntries, IsRead, Built}
use Rattle.zi_manifest.specs.declared.listing.Line.{Line}
use Rattle.zi_manifest.specs.declared.entries.Entry.{Entry}
use Rattle.zi_manifest.specs.declared.open.Open.{Open}
use Rattle.zi_manifest.proofs.Accepted.{then_parts, taken, all_texts, all_lined, all_are}
use Rattle.zi_manifest.proofs.Built.{closed}
use Rattle.zi_manifest.proofs.Cuts.{cut_once, has_middle}

-- at the end of the text
pub read_whole : (a : Algorithm) (bytes : List ℕ) (number : ℕ) (ls : List Line) (cs : List Open) → IsRead a bytes [] number ls cs → ReadsAs a bytes ls
read_whole a bytes number ls cs r =
    let c = closed a cs r.placed r.built in
    record {
      listing = c.0;
      good = c.1;
      text = sym (all_texts c.0) ∙ ap texts (sym c.2) ∙ sym (append-nil (texts r.placed)) ∙ sym r.text;
      lines_are = sym (all_lined c.0) ∙ ap lines (sym c.2) ∙ r.lines_are;
    }

-- what was read is a manifest
pub front_is : (a : Algorithm) (cs : List Open) (ps : List Placed) → Built a cs ps → IsManifest a (texts ps)
front_is a cs ps b = let c = closed a cs ps b in (c.0, c.1, sym (all_texts c.0) ∙ ap texts (sym c.2))

-- an entry's line has one LF, its last byte
abbrev pub OneLine : Algorithm → Type 0
OneLine a = (e : Entry) → IsEntry a e → (w : List ℕ) × (entry_text e ≡ w ++ 10 ∷ []) × (has_byte 10 w ≡ false)

-- an entry's line tells of one entry
abbrev pub OneEntry : Algorithm → Type 0
OneEntry a = (e f : Entry) → IsEntry a e → IsEntry a f → entry_text e ≡ entry_text f → e ≡ f

pub lines_of_texts : (a : Algorithm) → OneLine a → (ps : List Placed) → AreEntries a ps → IsLines (length ps) (texts ps)
lines_of_texts a one [] g = refl
lines_of_texts a one (x ∷ ps) g =
    let o = one x.1 g.0 in
    (o.0, texts ps, ap (λ t. t ++ texts ps) o.1 ∙ append_assoc o.0 (10 ∷ []) (texts ps), o.2, lines_of_texts a one ps g.1)

first_line : (w t ts tail : List ℕ) → t ≡ w ++ 10 ∷ [] → (t ++ ts) ++ tail ≡ w ++ 10 ∷ (ts ++ tail)
first_line w t ts tail e = ap (λ l. (l ++ ts) ++ tail) e ∙ append_assoc (w ++ 10 ∷ []) ts tail ∙ append_assoc w (10 ∷ []) (ts ++ tail)

-- a text that goes on from the entries read has these entries first
pub goes_on : (a : Algorithm) → OneLine a → OneEntry a → (ps qs : List Placed) (tail : List ℕ) → AreEntries a ps → AreEntries a qs → texts qs ≡ texts ps ++ tail
    → (rs : List Placed) × (entries qs ≡ entries ps ++ entries rs) × (texts rs ≡ tail) × AreEntries a rs
goes_on a one same [] qs tail g h e = (qs, refl, e, h)
goes_on a one same (x ∷ ps) [] tail g h e =
    let o = one x.1 g.0 in
    absurd (has_middle 10 o.0 (texts ps ++ tail) (sym (ap (has_byte 10) (e ∙ first_line o.0 (entry_text x.1) (texts ps) tail o.1))))
goes_on a one same (x ∷ ps) (y ∷ qs) tail g h e =
    let o = one x.1 g.0 in
    let n = one y.1 h.0 in
    let left : n.0 ++ 10 ∷ texts qs ≡ o.0 ++ 10 ∷ (texts ps ++ tail) =
    sym (ap (λ t. t ++ texts qs) n.1 ∙ append_assoc n.0 (10 ∷ []) (texts qs)) ∙ e ∙ first_line o.0 (entry_text x.1) (texts ps) tail o.1 in
    let p = cut_once 10 n.0 o.0 (texts qs) (texts ps ++ tail) n.2 o.2 left in
    let w = goes_on a one same ps qs tail g.1 h.1 p.1 in
    let s = same y.1 x.1 h.0 g.0 (n.1 ∙ ap (λ z. z ++ 10 ∷ []) p.0 ∙ sym o.1) in
    (w.0, ap (λ z. z ∷ entries qs) s ∙ ap (λ z. x.1 ∷ z) w.1, w.2, w.3)

-- one line more than those read
pub one_more : (k : ℕ) (front rest f r : List ℕ) → IsLines k front → IsLines (suc k) f → front ++ rest ≡ f ++ r → (line : List ℕ) × (has_byte 10 line ≡ false) × (rest ≡ line ++ 10 ∷ r) × (f ≡ front ++ (line ++ 10 ∷ []))
one_more zero front rest f r l (w, more, e, clear, nothing) q =
    (w, clear, ap (λ t. t ++ rest) (sym l) ∙ q ∙ ap (λ t. t ++ r) (e ∙ ap (λ t. w ++ 10 ∷ t) nothing) ∙ append_assoc w (10 ∷ []) r, e ∙ ap (λ t. w ++ 10 ∷ t) nothing ∙ ap (λ t. t ++ (w ++ 10 ∷ [])) (sym l))
one_more (suc k) front rest f r (w, more, e, clear, ls) (v, later, d, nv, ms) q =
    let left : w ++ 10 ∷ (more ++ rest) ≡ v ++ 10 ∷ (later ++ r) = sym (ap (λ t. t ++ rest) e ∙ append_assoc w (10 ∷ more) rest) ∙ q ∙ ap (λ t. t ++ r) d ∙ append_assoc v (10 ∷ later) r in
    let p = cut_once 10 w v (more ++ rest) (later ++ r) clear nv left in
    let m = one_more k more rest later r ls ms p.1 in
    (m.0, m.1, m.2, d ∙ ap (λ t. v ++ 10 ∷ t) m.3 ∙ ap (λ t. t ++ 10 ∷ (more ++ (m.0 ++ 10 ∷ []))) (sym p.0) ∙ sym (ap (λ t. t ++ (m.0 ++ 10 ∷ [])) e ∙ append_assoc w (10 ∷ more) (m.0 ++ 10 ∷ [])))

pub run_append : (es fs : List Entry) (cs : List Open) → run (es ++ fs) cs ≡ option_and_then (λ ds. run fs ds) (run es cs)
run_append [] fs cs = refl
run_append (e ∷ es) fs cs = then_parts (λ ds. run (es ++ fs) ds) (λ ds. run fs ds) (λ ds. run es ds) (λ d. run_append es fs d) (step e cs)

-- no listing goes on by a line that isn't taken
next_refused : (a : Algorithm) → OneLine a → (cs ds : List Open) (line more : List ℕ) (rs : List Placed) → has_byte 10 line ≡ false
    → ((e : Entry) → IsEntry a e → entry_text e ≡ line ++ 10 ∷ [] → step e cs ≡ None) → AreEntries a rs → texts rs ≡ line ++ 10 ∷ more → run (entries rs) cs ≡ Some ds → ⊥
next_refused a one cs ds line more [] clear none g t r = absurd (has_middle 10 line more (sym (ap (has_byte 10) t)))
next_refused a one cs ds line more (y ∷ rs) clear none g t r =
    let o = one y.1 g.0 in
    let p = cut_once 10 o.0 line (texts rs) more o.2 clear (sym (ap (λ l. l ++ texts rs) o.1 ∙ append_assoc o.0 (10 ∷ []) (texts rs)) ∙ t) in
    let stop = none y.1 g.0 (o.1 ∙ ap (λ l. l ++ 10 ∷ []) p.0) in
    absurd (cc (sym (ap (option_and_then (λ ds. run (entries rs) ds)) stop) ∙ r))

pub refused : (a : Algorithm) → OneLine a → OneEntry a → (ps : List Placed) (cs : List Open) (line more : List ℕ) → AreEntries a ps → run (entries ps) (fresh [] ∷ []) ≡ Some cs → has_byte 10 line ≡ false
    → ((e : Entry) → IsEntry a e → entry_text e ≡ line ++ 10 ∷ [] → step e cs ≡ None) → IsManifest a (texts ps ++ (line ++ 10 ∷ more)) → ⊥
refused a one same ps cs line more g ran clear none (s, good, t) =
    let w = goes_on a one same ps (all_entries [] s) (line ++ 10 ∷ more) g (all_are a s good) (all_texts s ∙ t) in
    let d = taken a s good in
    next_refused a one cs d.0 line more w.0 clear none w.3 w.2 (sym (ap (option_and_then (λ ds. run (entries w.0) ds)) ran) ∙ sym (run_append (entries ps) (entries w.0) (fresh [] ∷ [])) ∙ sym (ap (λ es. run es (fresh [] ∷ [])) w.1) ∙ d.1)

-- nor by a text that ends inside a line
rest_ends : (a : Algorithm) → OneLine a → (rs : List Placed) (rest : List ℕ) → AreEntries a rs → texts rs ≡ rest → has_byte 10 rest ≡ false → rest ≡ []
rest_ends a one [] rest g t clear = sym t
rest_ends a one (y ∷ rs) rest g t clear =
    let o = one y.1 g.0 in
    absurd (has_middle 10 o.0 (texts rs) (ap (has_byte 10) (sym (ap (λ l. l ++ texts rs) o.1 ∙ append_assoc o.0 (10 ∷ []) (texts rs)) ∙ t) ∙ clear))

pub unfinished : (a : Algorithm) → OneLine a → OneEntry a → (ps : List Placed) (rest : List ℕ) → AreEntries a ps → has_byte 10 rest ≡ false → IsManifest a (texts ps ++ rest) → rest ≡ []
unfinished a one same ps rest g clear (s, good, t) =
    let w = goes_on a one same ps (all_entries [] s) rest g (all_are a s good) (all_texts s ∙ t) in
    rest_ends a one w.0 rest w.3 w.2 clear

-- a fault is at the line behind those read
pub bad_at : (a : Algorithm) → OneLine a → OneEntry a → (bytes rest : List ℕ) (number : ℕ) (ls : List Line) (cs : List Open) (r : IsRead a bytes rest number ls cs)
    → ((line behind more : List ℕ) → has_byte 10 line ≡ false → rest ≡ line ++ 10 ∷ behind → IsManifest a (texts r.placed ++ (line ++ 10 ∷ more)) → ⊥) → (IsManifest a (texts r.placed ++ rest) → ⊥) → IsBadAt a bytes number
bad_at a one same bytes rest number ls cs r stops ends =
    let k : number ≡ suc (length r.placed) = omega (arith, r.count) in
    record {
      some = omega arith;
      well = subst (λ n. BeginsWell a bytes (n - 1)) (sym k)
          (subst (BeginsWell a bytes) (omega arith) (texts r.placed, rest, [], r.text, lines_of_texts a one r.placed r.good, subst (IsManifest a) (sym (append-nil (texts r.placed))) (front_is a cs r.placed r.built)));
      bad = λ b. begins (subst (BeginsWell a bytes) k b);
      none = λ m. ends (subst (IsManifest a) r.text m);
    }
  where
    begins : BeginsWell a bytes (suc (length r.placed)) → ⊥
    begins (f, s, more, e, fs, m) =
        let o = one_more (length r.placed) (texts r.placed) rest f s (lines_of_texts a one r.placed r.good) fs (sym r.text ∙ e) in
        stops o.0 s more o.1 o.2 (subst (IsManifest a) (ap (λ t. t ++ more) o.3 ∙ append_assoc (texts r.placed) (o.0 ++ 10 ∷ []) more ∙ ap (λ t. texts r.placed ++ t) (append_assoc o.0 (10 ∷ []) more)) m)
