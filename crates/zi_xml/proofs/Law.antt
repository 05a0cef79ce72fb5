-- The reader's answer is right.
use Rattle.std.proofs.Common.{◌≡◌, ℕ, suc, zero, List, [], ◌∷◌, ◌++◌, Option, Some, None, refl, sym, ap, ◌∙◌, subst, inl, inr}
use Rattle.std.proofs.Math.Utf8.{scalar, scalars}
use Rattle.std.specs.Prelude.{true}
use Rattle.std.proofs.lemmas.Str.{encodes_same}
use Rattle.std.proofs.lemmas.Option.{same_Some}
use Rattle.zi_xml.specs.Longest as longest
use Rattle.zi_xml.specs.Documents.{SaysChars, end_of}
use Rattle.zi_xml.specs.Right.{Right, IsRight, IsOne}
use Rattle.zi_xml.specs.Machine.{shared, answer, Answer, finish_in}
use Rattle.zi_xml.proofs.Forward.{run}
use Rattle.zi_xml.proofs.ForwardDocuments.{run_document}
use Rattle.zi_xml.proofs.Order.{Grown, Later, go_grows, AreAt}
use Rattle.zi_xml.proofs.Fronts.{way_out, reads_out, read_out}
use Rattle.zi_xml.proofs.Nearest.{Refuses, refuses}
use Rattle.zi_xml.proofs.Follows.{Marked}
use Rattle.zi_xml.proofs.Backward.{sound}
use Rattle.zi_xml.specs.Chars.{width}
use Rattle.zi_xml.specs.Syntax.{mark_text, declared_text}
use Rattle.zi_xml.specs.Meaning.{Level, Fault, start}
use Rattle.zi_xml.specs.Machine.{Doing, inside, State, state, step, at_of, found_of, done, finish, first_state}

grown_is : (l : Level) (n : ℕ) (o : Option State) (t : State) → Grown l n o → o ≡ Some t → Later l n t.level
grown_is l n None t h e = cc
grown_is l n (Some s) t h e = let P : State → Type 0 = λ u. Later l n u.level in subst P (some_same s t e) h
  where
    some_same : (x y : State) → Some x ≡ Some y → x ≡ y
    some_same x y h = cc

are_at : (n : ℕ) (fs : List Fault) → AreAt n fs → longest.AreAt State Level Fault step at_of found_of end_of done first_state SaysChars n fs
are_at n [] h = tt
are_at n (f ∷ fs) h = (h.0, are_at n fs h.1)

grows : (s : State) (c : ℕ) (t : State) → step s c ≡ Some t → longest.Grows State Level Fault step at_of found_of end_of done first_state SaysChars s c t
grows s c t h =
    let x = grown_is s.level (width c) (step s c) t (go_grows s.doing s.level c) h in (x.0, (x.1.0, x.1.1, are_at t.level.at x.1.0 x.1.2))

forward : (w : List ℕ) (r : Level) → SaysChars w r → run first_state w ≡ Some (done r)
forward w r s = ap (run first_state) s.written ∙ (run_document s.document s.right ∙ ap (λ l. Some (done l)) (sym s.told))

document_of : (w : List ℕ) (r : Level) → Marked start w r → SaysChars w r
document_of w r (b, z, e, (d, z2, id, e2, (ms, t, us, im, it, iu, e3, e4))) = record {
  document = record { mark = b; declaration = d; front = ms; root = t; tail = us };
  right = record { declaration = id; front = im; root = it; tail = iu };
  written = e ∙ ap (λ v. mark_text b ++ v) (e2 ∙ ap (λ v. declared_text d ++ v) e3);
  told = e4;
}

backward : (w : List ℕ) (r : Level) → run first_state w ≡ Some (done r) → SaysChars w r
backward w r h = document_of w r (sound w first_state r h)

out : (s : State) → (w : List ℕ) × (r : Level) × (run s w ≡ Some (done r))
out s = let x = read_out (run s (way_out s.doing)) (reads_out s.doing s.level) in (way_out s.doing, x.0, x.1)

finish_doing : (d : Doing) (l r : Level) → finish_in d l ≡ Some r → state d l ≡ done r
finish_doing (inside [] zero) l r h = ap done (same_Some l r h)
finish_doing (inside [] (suc n)) l r h = cc
finish_doing (inside (f ∷ fs) n) l r h = cc
finish_doing _ l r h = cc

finish_some : (s : State) (r : Level) → finish s ≡ Some r → s ≡ done r
finish_some s r h = finish_doing s.doing s.level r h

finish_none : (s : State) → finish s ≡ None → (r : Level) → s ≡ done r → ⊥
finish_none s h r e = let z : Some r ≡ None = sym (ap finish e) ∙ h in cc

refused : (s : State) (c : ℕ) → scalar c ≡ true → step s c ≡ None → Refuses s.doing s.level c (shared s c)
refused s c u h = refuses s.doing s.level c u h

right : (cs : List ℕ) → scalars cs ≡ true
    → longest.Right State Level Fault step at_of found_of end_of done first_state SaysChars grows forward refl refl backward out shared finish refused finish_some finish_none cs (answer first_state cs)
right cs u = longest.answered State Level Fault step at_of found_of end_of done first_state SaysChars grows forward refl refl backward out shared finish refused finish_some finish_none cs u

convert : (cs : List ℕ) (a : Answer)
    → longest.Right State Level Fault step at_of found_of end_of done first_state SaysChars grows forward refl refl backward out shared finish refused finish_some finish_none cs a → Right cs a
convert cs (inl r) h = h
convert cs (inr (inl f)) h = h
convert cs (inr (inr k)) h = h

pub right_law : IsRight
right_law cs u = convert cs (answer first_state cs) (right cs u)

done_same : (x y : Level) → Some (done x) ≡ Some (done y) → x ≡ y
done_same x y h = ap level_in h
  where
    level_in : Option State → Level
    level_in None = x
    level_in (Some t) = t.level

pub one_law : IsOne
one_law w r s (cs, e, x) (ds, f, y) =
    let same : cs ≡ ds = encodes_same cs ds (sym e ∙ f) in
    done_same r s (sym (forward cs r x) ∙ (ap (run first_state) same ∙ forward ds s y))
