-- What a session that begins and has its steps comes to.
use Rattle.std.proofs.Common.{◌≡◌, ◌≢◌, ℕ, ◌<◌, ◌-◌, ◌^◌, inl, inr, [], Option, None, refl, sym, ◌∙◌, ap, subst, arith, Err}
use Rattle.std.proofs.lemmas.List.Elements.{All-nil, All-cons}
use Rattle.zi_digest.specs.declared.DigestName.{DigestName}
use Rattle.zi_digest.specs.Name.{spelling, algorithm_of}
use Rattle.zi_tree.specs.Dir.{Dir}
use Rattle.zi_manifest.specs.Manifest.{first_bad, digest_of}
use Rattle.zi_shelf.specs.Names.{Name}
use Rattle.zi_shelf.specs.Shelved.{Reply, Did, Exists, Failed, Memory as NoRoom}
use Rattle.zi_shelf.specs.Shelving.{Shelving, IsSure}
use Rattle.zi_text.specs.Count.{Rose}
use Rattle.zi_session.specs.Begun.{IsBegun}
use Rattle.zi_session.specs.Keeping.{CountFits, KeepsShelf}
use Rattle.zi_session.specs.Machine.{Phase, Making, Filling, Settling, Renaming, Storing, Removing, Leaving, Ended, Stopped, Stored, Present, Crowded as FullOf, Fault}
use Rattle.zi_session.specs.Phases.{blamed_name}
use Rattle.zi_session.specs.Standing.{Standing, standing}
use Rattle.zi_session.specs.Stepping.{IsRun, HasGone, CallsToEnd, Says, SaysOn, Blames}
use Rattle.zi_session.specs.declared.session.Session.{Session}
use Rattle.zi_session.specs.declared.step.Step.{Step}
use Rattle.zi_session.specs.declared.step.Step.TheVariants as step
use Rattle.zi_session.proofs.AloneLemmas.{alone_law, begun_own}
use Rattle.zi_adding.specs.Trying.{one, IsRight, HasEnded, Costs, Adds}
use Rattle.zi_adding.specs.declared.adding.AddFault.{AddFault}
use Rattle.zi_adding.specs.Answers.{IsEnd, Mismatches, AddsTree}
use Rattle.zi_text.proofs.ListLaws.{some_of}

-- The last step of a session.
pub fault_end : (answer : Step) (tmp : Option ℕ) (number : Option ℕ) (text : Name) → answer ≡ step.Fault tmp → Blames answer number → text ≡ blamed_name number → IsEnd answer text
fault_end answer tmp number text e b named =
    let same : number ≡ tmp = subst (λ a. Blames a number) e b in
    subst (λ a. IsEnd a text) (sym e) (named ∙ ap blamed_name same)

pub says_end : (p q : Phase) (answer : Step) (number : Option ℕ) (text : Name) → Says p q answer → answer ≢ step.More → Blames answer number → text ≡ blamed_name number → IsEnd answer text
says_end p (Ended Stored) answer number text e ne b named = subst (λ a. IsEnd a text) (sym e) tt
says_end p (Ended Present) answer number text e ne b named = subst (λ a. IsEnd a text) (sym e) tt
says_end p (Ended FullOf) answer number text e ne b named = subst (λ a. IsEnd a text) (sym e) refl
says_end p (Ended Fault) answer number text e ne b named = fault_end answer _ number text e b named
says_end p Stopped answer number text e ne b named = absurd e
says_end p (Making n) answer number text e ne b named = absurd (ne e)
says_end p (Filling n k) answer number text e ne b named = absurd (ne e)
says_end p (Settling n) answer number text e ne b named = absurd (ne e)
says_end p (Renaming n) answer number text e ne b named = absurd (ne e)
says_end p Storing answer number text e ne b named = absurd (ne e)
says_end p (Removing n) answer number text e ne b named = absurd (ne e)
says_end p Leaving answer number text e ne b named = absurd (ne e)

pub on_end : (p : Phase) (reply : Reply) (q : Phase) (answer : Step) (number : Option ℕ) (text : Name) → SaysOn p reply q answer → answer ≢ step.More → Blames answer number → text ≡ blamed_name number → IsEnd answer text
on_end p NoRoom q answer number text e ne b named = subst (λ a. IsEnd a text) (sym e) tt
on_end p Did q answer number text e ne b named = says_end p q answer number text e ne b named
on_end p Exists q answer number text e ne b named = says_end p q answer number text e ne b named
on_end p Failed q answer number text e ne b named = says_end p q answer number text e ne b named

pub run_end : (x y : Standing) (before after : Shelving) (answer : Step) (number : Option ℕ) (text : Name) → IsRun x before answer y after → answer ≢ step.More → Blames answer number → text ≡ blamed_name number → IsEnd answer text
run_end x y before after answer number text run ne b named =
    let last = run.goes.last in
    on_end run.goes.there.phase last.reply y.phase answer number text last.says ne b named

-- A shelf whose count was below its end and is as it was has not failed.
pub not_risen : (h k : ℕ) → Rose h k → k ≡ h → h < 2 ^ 64 - 1 → ⊥
not_risen h k (inl less) same below = omega arith
not_risen h k (inr full) same below = omega arith

pub costs : (answer : Step) (before after : Shelving) → CountFits answer before.faults after.faults → (before.sure → after.faults ≡ before.faults) → (before.sure → IsSure before) → Costs answer before after
costs (step.Fault tmp) before after rose calm is = (rose, λ s. not_risen before.faults after.faults rose (calm s) (is s).below_end)
costs step.Stored before after same calm is = same
costs step.Present before after same calm is = same
costs (step.Crowded tried) before after same calm is = same
costs step.Memory before after same calm is = same
costs step.More before after same calm is = same
costs step.Over before after same calm is = same

-- A session that began and ran is all that was done.
pub adds_one : (name : DigestName) (d : Dir) (x : Session) (y : Standing) (before after : Shelving) (answer : Step) → IsBegun name d x → IsRight name d → answer ≢ step.More → (before.sure → IsSure before)
    → IsRun (standing x) before answer y after → KeepsShelf (standing x) before answer y after → Adds (one name d answer) before after
adds_one name d x y before after answer b right ne is run keeps = record {
  ended = All-cons HasEnded _ [] (record { right = right; end = y; goes = subst (λ z. HasGone z answer y) b.starts run.goes }) (All-nil HasEnded);
  alone = λ s h e.
      let c = run.calls s h e in
      (c.0, c.1, (c.0, record { end = y; calls = subst (λ z. CallsToEnd z s answer y c.0) b.starts c.2; leaves = alone_law name d x s c.0 answer y b ne c.2 }, refl));
  cost = costs answer before after keeps.cause
      (λ s. let t = some_of before.told (is s).tells in keeps.no_rise t.0 s t.1 (begun_own name d x t.0.shelf b)) is;
  later = keeps.later;
  idle = λ e. absurd cc;
  stays = keeps.stays;
}

-- No session began, and nothing was done.
pub adds_nothing : (shelf : Shelving) → Adds [] shelf shelf
adds_nothing shelf = record {
  ended = All-nil HasEnded;
  alone = λ s h e. (s, e, refl);
  cost = refl;
  later = omega arith;
  idle = λ e. refl;
  stays = record { honest = λ h. h; sure = λ s. s; in_memory = λ m. m; root = refl; plan = refl };
}

-- the tree has another digest
pub mismatched : (name : DigestName) (d : Dir) (found : DigestName) (f : AddFault) (shelf : Shelving) → (first_bad d ≡ None) × (found ≡ digest_of (algorithm_of name) d) × (found ≢ name)
    → Mismatches name found f → AddsTree name d shelf shelf (Err f)
mismatched name d found f shelf (good, is, ne) (inl e) = subst (λ x. AddsTree name d shelf shelf (Err x)) (sym e) (record { tried = []; ends = (refl, good, λ q. ne (is ∙ q), refl, ap spelling is); adds = adds_nothing shelf })
mismatched name d found f shelf (good, is, ne) (inr e) = subst (λ x. AddsTree name d shelf shelf (Err x)) (sym e) (record { tried = []; ends = inl refl; adds = adds_nothing shelf })

pub ruleset answering = (adds_nothing)
