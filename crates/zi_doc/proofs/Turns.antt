-- A turn of the reader's loop, and its end.
use Rattle.std.proofs.Common.{◌≡◌, ℕ, suc, zero, ◌+◌, Bool, true, false, List, [], ◌∷◌, ◌++◌, Option, Some, None, Result, Ok, Err, length, refl, sym, ap, ◌∙◌, subst, arith, inl, inr}
use Rattle.std.specs.Prelude.{encode_utf8}
use Rattle.zi_xml.specs.Answers as machines
use Rattle.zi_xml.specs.Chars.{width}
use Rattle.zi_xml.specs.Meaning.{Level, Fault, Frame}
use Rattle.zi_xml.specs.Machine.{Doing, State, state, go, step, at_of, found_of, shared, finish, finish_in, answer, Answer, has, inside, common, kin}
use Rattle.zi_doc.specs.View.{state_of, doing_in, level, stack, IsSound}
use Rattle.zi_doc.specs.Moves.{Moves, Lands, Refuses, Shown, Takes}
use Rattle.zi_doc.specs.Answers.{Blamed, Finished}
use Rattle.zi_doc.specs.declared.state.Reader.{Reader}
use Rattle.zi_doc.specs.declared.state.Mode.{Mode}
use Rattle.zi_doc.specs.declared.state.Mode.TheVariants as modes
use Rattle.zi_doc.specs.declared.fault.DocFault.{DocFault}
use Rattle.zi_doc.specs.declared.fault.DocFault.TheVariants as faults
use Rattle.zi_doc.specs.declared.fault.DocKind.{DocKind}
use Rattle.zi_doc.specs.declared.fault.DocKind.TheVariants as kinds

abbrev next : ℕ → Option State → (State → Answer) → Answer
next = machines.next_answer State Level Fault step at_of found_of shared finish

on : (o : Option State) (stop at : ℕ) (k : State → Answer) (new : Reader) → Moves o stop at (Ok tt) new → (next stop o k ≡ k (state_of new at)) × IsSound new
on None stop at k new h = absurd h
on (Some t) stop at k new h =
    let P : State → Type 0 = λ s. next stop (Some s) k ≡ k (state_of new at) in (subst P (sym h.0) refl, h.1)

-- a character is taken
pub turn_on : (r new : Reader) (at c : ℕ) (cs : List ℕ) → Takes (doing_in r.mode r) r at c (Ok tt) new
    → (answer (state_of r at) (c ∷ cs) ≡ answer (state_of new (at + width c)) cs) × IsSound new
turn_on r new at c cs h = on (go (doing_in r.mode r) (level r at) c) _ (at + width c) (λ t. answer t cs) new h

shown : (fs : List Fault) (a : Answer) (k : DocKind) (p : ℕ) → Shown fs k p → Blamed (machines.settle State Level Fault step at_of found_of shared finish fs a) k p
shown [] a kinds.NotUtf8 p h = absurd h
shown [] a kinds.Encoding p h = absurd h
shown [] a kinds.Doctype p h = absurd h
shown [] a kinds.Syntax p h = absurd h
shown [] a kinds.Entity p h = absurd h
shown [] a kinds.Prefix p h = absurd h
shown [] a kinds.Repeated p h = absurd h
shown [] a kinds.Depth p h = absurd h
shown (f ∷ fs) a kinds.NotUtf8 p h = absurd h
shown (f ∷ fs) a kinds.Encoding p h = (f, refl, h.0, h.1)
shown (f ∷ fs) a kinds.Doctype p h = (f, refl, h.0, h.1)
shown (f ∷ fs) a kinds.Syntax p h = absurd h
shown (f ∷ fs) a kinds.Entity p h = (f, refl, h.0, h.1)
shown (f ∷ fs) a kinds.Prefix p h = (f, refl, h.0, h.1)
shown (f ∷ fs) a kinds.Repeated p h = (f, refl, h.0, h.1)
shown (f ∷ fs) a kinds.Depth p h = (f, refl, h.0, h.1)

stopped : (k : DocKind) (p stop : ℕ) → Refuses stop (Err (faults.Bad k p)) → Blamed (inr (inr stop)) k p
stopped kinds.Syntax p stop h = ap (λ n. inr (inr n)) (sym h.1)
stopped kinds.NotUtf8 p stop h = absurd h.0
stopped kinds.Encoding p stop h = absurd h.0
stopped kinds.Doctype p stop h = absurd h.0
stopped kinds.Entity p stop h = absurd h.0
stopped kinds.Prefix p stop h = absurd h.0
stopped kinds.Repeated p stop h = absurd h.0
stopped kinds.Depth p stop h = absurd h.0

off : (o : Option State) (stop at : ℕ) (k : State → Answer) (new : Reader) (d : DocKind) (p : ℕ) → Moves o stop at (Err (faults.Bad d p)) new → Blamed (next stop o k) d p
off None stop at k new d p h = stopped d p stop h
off (Some t) stop at k new d p h = shown t.level.found (k t) d p h

-- what an answer that is no tree says
abbrev pub Failed : Answer → DocFault → Type 0
Failed a faults.Memory = Unit {0}
Failed a (faults.Bad d p) = Blamed a d p

-- a character isn't taken
pub turn_off : (r new : Reader) (at c : ℕ) (cs : List ℕ) (e : DocFault) → Takes (doing_in r.mode r) r at c (Err e) new → Failed (answer (state_of r at) (c ∷ cs)) e
turn_off r new at c cs faults.Memory h = tt
turn_off r new at c cs (faults.Bad d p) h = off (go (doing_in r.mode r) (level r at) c) _ (at + width c) (λ t. answer t cs) new d p h

-- the end
pub not_whole : (fs : List Frame) (n : ℕ) (l : Level) → (has fs ≡ false → n ≡ 0 → ⊥) → finish_in (inside fs n) l ≡ None
not_whole [] zero l h = absurd (h refl refl)
not_whole [] (suc n) l h = refl
not_whole (f ∷ fs) n l h = refl

pub whole : (fs : List Frame) (n : ℕ) (l : Level) → has fs ≡ false → n ≡ 0 → finish_in (inside fs n) l ≡ Some l
whole [] zero l h k = refl
whole [] (suc n) l h k = absurd (omega arith)
whole (f ∷ fs) n l h k = cc

pub elsewhere : (m : Mode) (r : Reader) (l : Level) → (m ≡ modes.Inside → ⊥) → finish_in (doing_in m r) l ≡ None
elsewhere modes.Inside r l h = absurd (h refl)
elsewhere modes.Begun r l h = refl
elsewhere modes.Front r l h = refl
elsewhere modes.Opened r l h = refl
elsewhere modes.Banged r l h = refl
elsewhere modes.Comment r l h = refl
elsewhere modes.CommentDash r l h = refl
elsewhere modes.Asked r l h = refl
elsewhere modes.Target r l h = refl
elsewhere modes.Instruction r l h = refl
elsewhere modes.InstructionAsk r l h = refl
elsewhere modes.Wording r l h = refl
elsewhere modes.Section r l h = refl
elsewhere modes.SectionBracket r l h = refl
elsewhere modes.SectionBrackets r l h = refl
elsewhere modes.Declaring r l h = refl
elsewhere modes.Heading r l h = refl
elsewhere modes.Headed r l h = refl
elsewhere modes.Numbering r l h = refl
elsewhere modes.Numbered r l h = refl
elsewhere modes.Coding r l h = refl
elsewhere modes.Coded r l h = refl
elsewhere modes.Replying r l h = refl
elsewhere modes.Named r l h = refl
elsewhere modes.Equalled r l h = refl
elsewhere modes.Naming r l h = refl
elsewhere modes.Spaced r l h = refl
elsewhere modes.AttrNaming r l h = refl
elsewhere modes.Valuing r l h = refl
elsewhere modes.Valued r l h = refl
elsewhere modes.Amped r l h = refl
elsewhere modes.Referring r l h = refl
elsewhere modes.Hashed r l h = refl
elsewhere modes.Counting r l h = refl
elsewhere modes.Hexed r l h = refl
elsewhere modes.Hexing r l h = refl
elsewhere modes.Closing r l h = refl

abbrev at_end : State → Option Level → Answer
at_end = machines.at_end State Level Fault step at_of found_of shared finish

pub ends_none : (s : State) → finish s ≡ None → answer s [] ≡ inr (inr s.level.at)
ends_none s h = ap (at_end s) h

pub ends_some : (s : State) (l : Level) → finish s ≡ Some l → answer s [] ≡ inl l
ends_some s l h = ap (at_end s) h

pub failed_finished : (a : Answer) (e : DocFault) → Failed a e → Finished a (Err e)
failed_finished a faults.Memory h = tt
failed_finished a (faults.Bad k p) h = h
