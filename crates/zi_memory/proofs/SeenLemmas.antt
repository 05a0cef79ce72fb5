-- What each call of a shelf in memory does, as a whole: a call that is done, one that lacks memory, and one that fails.
use Rattle.std.proofs.Common.{◌≡◌, ℕ, ◌+◌, ◌-◌, ◌^◌, ◌<◌, ◌≤◌, Bool, true, nat_eq, List, [], ◌∷◌, ◌++◌, length, None, Some, IsSome, ◌⊎◌, inl, inr, refl, sym, ◌∙◌, ap, subst, arith}
use Rattle.std.specs.List.{list_any}
use Rattle.zi_tree.specs.Dir.{Dir}
use Rattle.zi_shelf.specs.Names.{Name}
use Rattle.zi_shelf.specs.Shelved.{Top, Shelved, Call, Reply, Did, Exists, Failed, Memory, Answers, Fits}
use Rattle.zi_shelf.specs.Filling.{Work, trees}
use Rattle.zi_text.specs.Count.{Rose}
use Rattle.zi_shelf.specs.Told.{Told, HasCause, is_planned, FailsAsPlanned, change_call, fault_reply}
use Rattle.zi_shelf.specs.Reading.{Question, question_call, FitsReading}
use Rattle.zi_shelf.specs.Shelving.{Shelving, Stays, FailsOnly, Does, Reads}
use Rattle.zi_memory.specs.InMemory.{held_seen}
use Rattle.zi_memory.specs.Memory.{tops_of, told_of, StaysSure}
use Rattle.zi_memory.specs.declared.held.Held.{Held}
use Rattle.zi_shelf.specs.declared.call.ShelfCall.{ShelfCall}
use Rattle.zi_shelf.specs.declared.shelf.ShelfFault.{ShelfFault}
use Rattle.zi_shelf.specs.declared.shelf.ShelfFault.TheVariants.{Failed as FailedCall, Memory as NoMemory}
use Rattle.zi_memory.specs.declared.top_entry.TopEntry.{TopEntry}
use Rattle.zi_memory.specs.declared.top_entry.Later.{Later}
use Rattle.zi_memory.proofs.DoingLemmas.{Led, does, shelved, calls_more}
use Rattle.zi_memory.proofs.ReadingLemmas.{Answered, reads}

-- what is seen of a shelf with other entries, record and count
abbrev pub seen_of : Held → List TopEntry → List Later → List ShelfCall → ℕ → Shelving
seen_of h es ps cs n = record (held_seen h) { told = Some (told_of es ps cs); sure = StaysSure h.sure h.fail.items n; faults = n }

abbrev pub told : Held → Told
told h = told_of h.entries.items h.pending.items h.calls

abbrev pub shelf : Held → Shelved Dir
shelf h = shelved h.entries.items h.pending.items

-- any reply but Failed
abbrev pub NotFailed : Reply → Type 0
NotFailed Failed = ⊥
NotFailed Did = Unit {0}
NotFailed Exists = Unit {0}
NotFailed Memory = Unit {0}

not_failed : (reply : Reply) → NotFailed reply → reply ≡ Failed → ⊥
not_failed Did n e = absurd (cc e)
not_failed Exists n e = absurd (cc e)
not_failed Memory n e = absurd (cc e)
not_failed Failed n e = n

same_count : (n : ℕ) (reply : Reply) → NotFailed reply → HasCause n n reply
same_count n reply h = record { later = omega arith; failed = λ e. absurd (not_failed reply h e); did = λ e. refl; exists = λ e. refl; memory = λ e. refl }

stays : (h : Held) (es : List TopEntry) (ps : List Later) (cs : List ShelfCall) (n : ℕ) → (h.sure ≡ true → h.faults < 2 ^ 64 - 1 → n < 2 ^ 64 - 1) → Stays (held_seen h) (seen_of h es ps cs n)
stays h es ps cs n below = record {
  honest = λ t. t;
  sure = λ s. record { keeps = s.keeps; unplanned = s.unplanned; below_end = below s.keeps s.below_end };
  in_memory = λ t. t;
  root = refl;
  plan = refl;
}

-- a call that is done, or lacks memory
pub done : (h : Held) (es : List TopEntry) (ps : List Later) (cs : List ShelfCall) (call : Call Work) (reply : Reply) → NotFailed reply → Led (Some (told h)) call reply (Some (told_of es ps cs)) → FailsAsPlanned h.fail.items (Some (told h)) reply
    → Does (held_seen h) call reply (seen_of h es ps cs h.faults)
done h es ps cs call reply other led planned = record {
  leads = led;
  cause = same_count h.faults reply other;
  planned = planned;
  no_rise = λ s. record { no_rise = λ t e f. refl };
  only = λ s m e f. absurd (not_failed reply other f);
  unchanged = λ s t m e d f. absurd (not_failed reply other f);
  stays = stays h es ps cs h.faults (λ s b. b);
}

pub read : (h : Held) (cs : List ShelfCall) (q : Question) (reply : Reply) (answer : Shelved Dir → Type 0) → NotFailed reply → Answered (Some (told h)) q reply answer (Some (told_of h.entries.items h.pending.items cs)) → FailsAsPlanned h.fail.items (Some (told h)) reply
    → Reads (held_seen h) q reply answer (seen_of h h.entries.items h.pending.items cs h.faults)
read h cs q reply answer other led planned = record {
  leads = led;
  cause = same_count h.faults reply other;
  planned = planned;
  no_rise = λ s. record { no_rise = λ t e f. refl };
  only = λ s m e f. absurd (not_failed reply other f);
  stays = stays h h.entries.items h.pending.items cs h.faults (λ s b. b);
}

no_memory : (h : Held) → FailsAsPlanned h.fail.items (Some (told h)) Memory
no_memory h = record { fails = λ s e p. inr refl }

-- a call that lacks memory
pub lacks : (h : Held) (call : Call Work) (cs : List ShelfCall) → cs ≡ h.calls → Does (held_seen h) call Memory (seen_of h h.entries.items h.pending.items cs h.faults)
lacks h call cs e = done h h.entries.items h.pending.items cs call Memory tt (does h.entries.items h.entries.items h.pending.items h.pending.items h.calls cs call Memory refl e) (no_memory h)

pub read_lacks : (h : Held) (q : Question) (answer : Shelved Dir → Type 0) (cs : List ShelfCall) → cs ≡ h.calls → answer (shelf h) → Reads (held_seen h) q Memory answer (seen_of h h.entries.items h.pending.items cs h.faults)
read_lacks h q answer cs e holds = read h cs q Memory answer tt (reads h.entries.items h.pending.items h.calls cs q Memory answer holds e) (no_memory h)

-- what is known of a call that was refused: the record, and the count
pub record Refused (h : Held) (c : ShelfCall) (cs : List ShelfCall) (n : ℕ) (fault : ShelfFault) : Type 0 where
  pub failed : fault ≡ FailedCall → (cs ≡ h.calls ++ c ∷ []) × Rose h.faults n
  pub memory : fault ≡ NoMemory → (cs ≡ h.calls) × (n ≡ h.faults)
  pub later : h.faults ≤ n
  pub below : h.sure ≡ true → h.faults < 2 ^ 64 - 1 → n < 2 ^ 64 - 1

-- why it was: it was to fail, or it doesn't fit
abbrev pub Why : Held → Type 0 → Type 0
Why h fits = (is_planned h.fail.items (told h) ≡ true) ⊎ (fits → ⊥)

pub was_planned : (h : Held) (plan : List ℕ) (cs : List ShelfCall) (test : Bool) (fits : Type 0) → plan ≡ h.fail.items → cs ≡ h.calls → test ≡ list_any (λ k. nat_eq k (length cs + 1)) plan → test ≡ true → Why h fits
was_planned h plan cs test fits ep ec et on =
    let there : list_any (λ k. nat_eq k (length cs + 1)) plan ≡ true = sym et ∙ on in
    let here : list_any (λ k. nat_eq k (length h.calls + 1)) plan ≡ true = subst (λ (l : List ShelfCall). list_any (λ k. nat_eq k (length l + 1)) plan ≡ true) ec there in
    inl (subst (λ (l : List ℕ). list_any (λ k. nat_eq k (length h.calls + 1)) l ≡ true) ep here)

no_plan : (h : Held) → h.fail.items ≡ [] → is_planned h.fail.items (told h) ≡ true → ⊥
no_plan h none p = let no : list_any (λ k. nat_eq k (length h.calls + 1)) [] ≡ true = subst (λ (l : List ℕ). list_any (λ k. nat_eq k (length h.calls + 1)) l ≡ true) none p in cc no

fault_count : (h : Held) (c : ShelfCall) (cs : List ShelfCall) (n : ℕ) (fault : ShelfFault) → Refused h c cs n fault → HasCause h.faults n (fault_reply fault)
fault_count h c cs n FailedCall r = record { later = r.later; failed = λ e. (r.failed refl).1; did = λ e. absurd (cc e); exists = λ e. absurd (cc e); memory = λ e. absurd (cc e) }
fault_count h c cs n NoMemory r = record { later = r.later; failed = λ e. absurd (cc e); did = λ e. absurd (cc e); exists = λ e. absurd (cc e); memory = λ e. (r.memory refl).1 }

fault_planned : (h : Held) (fault : ShelfFault) → FailsAsPlanned h.fail.items (Some (told h)) (fault_reply fault)
fault_planned h FailedCall = record { fails = λ s e p. inl refl }
fault_planned h NoMemory = record { fails = λ s e p. inr refl }

why_only : (h : Held) (fits : Shelved Dir → Type 0) (reply : Reply) → Why h (fits (shelf h)) → FailsOnly (held_seen h) fits reply
why_only h fits reply why s m e f =
    let same : told h ≡ s = cc e in
    subst (λ (t : Told). (is_planned h.fail.items t ≡ true) ⊎ (fits t.shelf → ⊥)) same why

why_rise : (h : Held) (fits : Shelved Dir → Type 0) (n : ℕ) → Why h (fits (shelf h)) → StaysSure h.sure h.fail.items h.faults → (s : Told) → Some (told h) ≡ Some s → fits s.shelf → n ≡ h.faults
why_rise h fits n (inl p) sure s e f = absurd (no_plan h sure.unplanned p)
why_rise h fits n (inr misfit) sure s e f = let same : told h ≡ s = cc e in absurd (misfit (subst (λ (t : Told). fits t.shelf) (sym same) f))

-- a call that fails, or for whose record memory is refused, leaves the shelf as it was
fault_led : (h : Held) (c : ShelfCall) (call : Call Work) (cs : List ShelfCall) (n : ℕ) (fault : ShelfFault) → c ≡ change_call call → Answers trees (shelf h) call Failed (shelf h) → Refused h c cs n fault
    → Led (Some (told h)) call (fault_reply fault) (Some (told_of h.entries.items h.pending.items cs))
fault_led h c call cs n FailedCall e answers r = does h.entries.items h.entries.items h.pending.items h.pending.items h.calls cs call Failed answers (calls_more h.calls cs c (change_call call) (r.failed refl).0 e)
fault_led h c call cs n NoMemory e answers r = does h.entries.items h.entries.items h.pending.items h.pending.items h.calls cs call Memory refl (r.memory refl).0

pub fails : (h : Held) (c : ShelfCall) (call : Call Work) (cs : List ShelfCall) (n : ℕ) (fault : ShelfFault) → c ≡ change_call call → Answers trees (shelf h) call Failed (shelf h) → Why h (Fits trees (shelf h) call) → Refused h c cs n fault
    → Does (held_seen h) call (fault_reply fault) (seen_of h h.entries.items h.pending.items cs n)
fails h c call cs n fault e answers why r = record {
  leads = fault_led h c call cs n fault e answers r;
  cause = fault_count h c cs n fault r;
  planned = fault_planned h fault;
  no_rise = λ s. record { no_rise = why_rise h (λ t. Fits trees t call) n why s };
  only = why_only h (λ t. Fits trees t call) (fault_reply fault) why;
  unchanged = λ s t m d e f. same_shelf (told h) (told_of h.entries.items h.pending.items cs) s t refl d e;
  stays = stays h h.entries.items h.pending.items cs n r.below;
}
  where
    same_shelf : (a b s t : Told) → b.shelf ≡ a.shelf → Some a ≡ Some s → Some b ≡ Some t → t.shelf ≡ s.shelf
    same_shelf a b s t same first second =
        let left : a ≡ s = cc first in
        let right : b ≡ t = cc second in
        ap (λ (x : Told). x.shelf) (sym right) ∙ same ∙ ap (λ (x : Told). x.shelf) left

fault_read : (h : Held) (c : ShelfCall) (q : Question) (answer : Shelved Dir → Type 0) (cs : List ShelfCall) (n : ℕ) (fault : ShelfFault) → c ≡ question_call q → answer (shelf h) → Refused h c cs n fault
    → Answered (Some (told h)) q (fault_reply fault) answer (Some (told_of h.entries.items h.pending.items cs))
fault_read h c q answer cs n FailedCall e holds r = reads h.entries.items h.pending.items h.calls cs q Failed answer holds (calls_more h.calls cs c (question_call q) (r.failed refl).0 e)
fault_read h c q answer cs n NoMemory e holds r = reads h.entries.items h.pending.items h.calls cs q Memory answer holds (r.memory refl).0

pub read_fails : (h : Held) (c : ShelfCall) (q : Question) (answer : Shelved Dir → Type 0) (cs : List ShelfCall) (n : ℕ) (fault : ShelfFault) → c ≡ question_call q → answer (shelf h) → Why h (FitsReading (shelf h) q) → Refused h c cs n fault
    → Reads (held_seen h) q (fault_reply fault) answer (seen_of h h.entries.items h.pending.items cs n)
read_fails h c q answer cs n fault e holds why r = record {
  leads = fault_read h c q answer cs n fault e holds r;
  cause = fault_count h c cs n fault r;
  planned = fault_planned h fault;
  no_rise = λ s. record { no_rise = why_rise h (λ t. FitsReading t q) n why s };
  only = why_only h (λ t. FitsReading t q) (fault_reply fault) why;
  stays = stays h h.entries.items h.pending.items cs n r.below;
}

-- no entry has the name
pub no_top : (h : Held) (es : List TopEntry) (n : Name) → es ≡ h.entries.items → tops_of es n ≡ None → IsSome (tops_of h.entries.items n) → ⊥
no_top h es n e none some = let here : tops_of h.entries.items n ≡ None = subst (λ (l : List TopEntry). tops_of l n ≡ None) e none in cc (here, some)

pub no_entry : (h : Held) (P : Top Dir → Type 0) (es : List TopEntry) (n : Name) → es ≡ h.entries.items → tops_of es n ≡ None → (e : Top Dir) × (tops_of h.entries.items n ≡ Some e) × P e → ⊥
no_entry h P es n e none (x, there, p) = let here : tops_of h.entries.items n ≡ None = subst (λ (l : List TopEntry). tops_of l n ≡ None) e none in cc (here, there)

-- a call that is refused memory before it does anything
pub early : (h : Held) (call : Call Work) (fault : ShelfFault) → (fault ≡ FailedCall → ⊥) → Does (held_seen h) call (fault_reply fault) (held_seen h)
early h call FailedCall other = absurd (other refl)
early h call NoMemory other = lacks h call h.calls refl
