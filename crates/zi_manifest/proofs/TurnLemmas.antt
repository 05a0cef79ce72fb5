-- One line more that is read, and what stops reading.
use Rattle.std.proofs.Common.{◌≡◌, ◌≤◌, ◌+◌, ℕ, true, false, List, [], ◌∷◌, ◌++◌, length, Some, None, refl, sym, ◌∙◌, ap, subst, arith, option_and_then, length-append, ◌==◌, rules}
use Rattle.std.proofs.lemmas.List.{append-nil, append_assoc, nil_from_length}
use Rattle.zi_digest.specs.declared.Algorithm.{Algorithm}
use Rattle.zi_tree.specs.Order.{has_byte}
use Rattle.zi_manifest.specs.Sketch.{joined}
use Rattle.zi_manifest.specs.Listing.{IsManifest, IsBadAt}
use Rattle.zi_manifest.specs.Reading.{IsEntry, entry_text, with_path, name_of, home, run, step, fresh, Placed, entries, texts, AreEntries, IsRead, NextLine, Tells}
use Rattle.zi_manifest.specs.declared.listing.Line.{Line}
use Rattle.zi_manifest.specs.declared.entries.Entry.{Entry}
use Rattle.zi_manifest.specs.declared.open.Open.{Open}
use Rattle.zi_manifest.proofs.Accepted.{texts_append, lines_append, are_append}
use Rattle.zi_manifest.proofs.Built.{built_step}
use Rattle.zi_manifest.proofs.Cuts.{cut_once, has_middle}
use Rattle.zi_manifest.proofs.LinesRead.{run_append, refused, unfinished, bad_at}
use Rattle.zi_manifest.proofs.OneLines.{one_line}
use Rattle.zi_manifest.proofs.OneEntries.{one_entry}

entries_append : (xs ys : List Placed) → entries (xs ++ ys) ≡ entries xs ++ entries ys
entries_append [] ys = refl
entries_append (x ∷ xs) ys = ap (λ l. x.1 ∷ l) (entries_append xs ys)

-- one line more
pub line_read : (a : Algorithm) (bytes rest line behind : List ℕ) (number : ℕ) (ls ms : List Line) (cs ds : List Open) (l : Line) → IsRead a bytes rest number ls cs → rest ≡ line ++ 10 ∷ behind
    → NextLine a line cs (Some l) ds → ms ≡ ls ++ l ∷ [] → IsRead a bytes behind (number + 1) ms ds
line_read a bytes rest line behind number ls ms cs ds l r cut (e, is, text, took, same) pushed =
    let x : Placed = (home e cs, e) in
    let front : texts (r.placed ++ x ∷ []) ≡ texts r.placed ++ entry_text e = texts_append r.placed (x ∷ []) ∙ ap (λ t. texts r.placed ++ t) (append-nil (entry_text e)) in
    let later : rest ≡ entry_text e ++ behind = cut ∙ sym (append_assoc line (10 ∷ []) behind) ∙ ap (λ t. t ++ behind) (sym text) in
    record {
      placed = r.placed ++ x ∷ [];
      text = r.text ∙ ap (λ t. texts r.placed ++ t) later ∙ sym (append_assoc (texts r.placed) (entry_text e) behind) ∙ ap (λ t. t ++ behind) (sym front);
      lines_are = lines_append r.placed (x ∷ []) ∙ ap (λ z. z ++ with_path (joined (home e cs) (name_of e)) e ∷ []) r.lines_are ∙ ap (λ z. ls ++ z ∷ []) (sym same) ∙ sym pushed;
      good = are_append a r.placed (x ∷ []) r.good (is, tt);
      ran = ap (λ es. run es (fresh [] ∷ [])) (entries_append r.placed (x ∷ [])) ∙ run_append (entries r.placed) (e ∷ []) (fresh [] ∷ []) ∙ ap (option_and_then (λ ds. run (e ∷ []) ds)) r.ran ∙ ap (option_and_then (λ ds. run [] ds)) took;
      built = built_step a e cs ds r.placed is took r.built;
      count = omega (arith, r.count, length-append r.placed (x ∷ []));
    }

-- no more lines were read than there are bytes
few : (a : Algorithm) (ps : List Placed) → AreEntries a ps → length ps ≤ length (texts ps)
few a [] g = omega arith
few a (x ∷ ps) g =
    let o = one_line a x.1 g.0 in
    omega (arith, few a ps g.1, length-append (entry_text x.1) (texts ps), ap length o.1, length-append o.0 (10 ∷ []))

pub few_read : (a : Algorithm) (bytes rest : List ℕ) (number : ℕ) (ls : List Line) (cs : List Open) → IsRead a bytes rest number ls cs → number ≤ length bytes + 1
few_read a bytes rest number ls cs r = omega (arith, r.count, few a r.placed r.good, ap length r.text, length-append (texts r.placed) rest)

-- the text ends inside a line
pub ends_inside : (a : Algorithm) (bytes rest : List ℕ) (number : ℕ) (ls : List Line) (cs : List Open) → IsRead a bytes rest number ls cs → has_byte 10 rest ≡ false → (rest ≡ [] → ⊥) → IsBadAt a bytes number
ends_inside a bytes rest number ls cs r clear some =
    bad_at a (one_line a) (one_entry a) bytes rest number ls cs r (λ line behind more free e m. absurd (has_middle 10 line behind (ap (has_byte 10) (sym e) ∙ clear)))
    (λ m. some (unfinished a (one_line a) (one_entry a) r.placed rest r.good clear m))

-- the next line may not stand here
pub stops_at : (a : Algorithm) (bytes rest line behind : List ℕ) (number : ℕ) (ls : List Line) (cs ds : List Open) → IsRead a bytes rest number ls cs → rest ≡ line ++ 10 ∷ behind → has_byte 10 line ≡ false
    → NextLine a line cs None ds → IsBadAt a bytes number
stops_at a bytes rest line behind number ls cs ds r cut clear none =
    let stop : (more : List ℕ) → IsManifest a (texts r.placed ++ (line ++ 10 ∷ more)) → ⊥ = λ more m. refused a (one_line a) (one_entry a) r.placed cs line more r.good r.ran clear none m in
    bad_at a (one_line a) (one_entry a) bytes rest number ls cs r
    (λ other later more free e m. stop more (subst (λ w. IsManifest a (texts r.placed ++ (w ++ 10 ∷ more))) (cut_once 10 other line later behind free clear (sym e ∙ cut)).0 m))
    (λ m. stop behind (subst (λ t. IsManifest a (texts r.placed ++ t)) cut m))

-- a line tells of one entry, and where that may not stand the line may not
pub refused_line : (a : Algorithm) (e : Entry) (line : List ℕ) (cs : List Open) → Tells a line (Some e) → step e cs ≡ None → (f : Entry) → IsEntry a f → entry_text f ≡ line ++ 10 ∷ [] → step f cs ≡ None
refused_line a e line cs (is, text) stop f good same = ap (λ z. step z cs) (one_entry a f e good is (same ∙ sym text)) ∙ stop

-- a text without bytes
pub is_nothing : (xs : List ℕ) → true ≡ (length xs == 0) → xs ≡ []
is_nothing xs h = nil_from_length xs (search rules)

pub is_something : (xs : List ℕ) → false ≡ (length xs == 0) → xs ≡ [] → ⊥
is_something xs h e = absurd (cc (h ∙ ap (λ t. length t == 0) e))
