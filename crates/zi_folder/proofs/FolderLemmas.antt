-- What is seen of the folder of trees before and after a call: it tells nothing, and its count has a cause.
use Rattle.std.proofs.Common.{◌≡◌, ℕ, List, Result, Ok, Err, IfOk, refl}
use Rattle.zi_tree.specs.Dir.{Dir}
use Rattle.zi_shelf.specs.Shelved.{Shelved, Call, Reply}
use Rattle.zi_shelf.specs.Filling.{Work}
use Rattle.zi_shelf.specs.Reading.{Question}
use Rattle.zi_shelf.specs.Shelving.{Stays, Does, Reads}
use Rattle.zi_shelf.specs.Told.{HasCause, plain_reply, made_reply, moved_reply}
use Rattle.zi_shelf.specs.declared.shelf.ShelfFault.{ShelfFault}
use Rattle.zi_shelf.specs.declared.shelf.TopMade.{TopMade}
use Rattle.zi_shelf.specs.declared.shelf.TopMade.TheVariants as top
use Rattle.zi_shelf.specs.declared.shelf.Moved.{Moved}
use Rattle.zi_shelf.specs.declared.shelf.Moved.TheVariants as moved
use Rattle.zi_folder.specs.Seen.{folder_seen}

folder_stays : (old new : ℕ) (root root' : List ℕ) → root' ≡ root → Stays (folder_seen old root) (folder_seen new root')
folder_stays old new root root' e = record { honest = λ no. no; sure = λ no. no; in_memory = λ no. no; root = e; plan = refl }

pub folder_reads : (old new : ℕ) (root root' : List ℕ) (question : Question) (reply : Reply) (answer : Shelved Dir → Type 0) → root' ≡ root → HasCause old new reply
    → Reads (folder_seen old root) question reply answer (folder_seen new root')
folder_reads old new root root' question reply answer e cause = record {
  leads = λ s no. absurd no;
  cause = cause;
  planned = record { fails = λ s tells. absurd (cc tells) };
  no_rise = λ no. absurd no;
  only = λ s no. absurd no;
  stays = folder_stays old new root root' e;
}

pub folder_does : (old new : ℕ) (root root' : List ℕ) (call : Call Work) (reply : Reply) → root' ≡ root → HasCause old new reply → Does (folder_seen old root) call reply (folder_seen new root')
folder_does old new root root' call reply e cause = record {
  leads = λ s no. absurd no;
  cause = cause;
  planned = record { fails = λ s tells. absurd (cc tells) };
  no_rise = λ no. absurd no;
  only = λ s no. absurd no;
  unchanged = λ s t no. absurd no;
  stays = folder_stays old new root root' e;
}

-- the reply of a call that may find a name there
pub made_cause : (old new : ℕ) (r : Result TopMade ShelfFault) → HasCause old new (plain_reply r) → HasCause old new (made_reply r)
made_cause old new (Ok top.Made) h = h
made_cause old new (Ok top.Exists) h = record { later = h.later; failed = λ e. absurd (cc e); did = λ e. absurd (cc e); exists = λ e. h.did refl; memory = λ e. absurd (cc e) }
made_cause old new (Err e) h = h

pub moved_cause : (old new : ℕ) (r : Result Moved ShelfFault) → HasCause old new (plain_reply r) → HasCause old new (moved_reply r)
moved_cause old new (Ok moved.Renamed) h = h
moved_cause old new (Ok moved.Exists) h = record { later = h.later; failed = λ e. absurd (cc e); did = λ e. absurd (cc e); exists = λ e. h.did refl; memory = λ e. absurd (cc e) }
moved_cause old new (Err e) h = h

pub ruleset folding = (folder_reads, folder_does, made_cause, moved_cause)
