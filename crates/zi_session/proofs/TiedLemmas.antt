-- A step of a session is an event of the machine, whose rules are lawful.
use Rattle.std.proofs.Common.{◌≡◌, ℕ, Bool, true, false, nat_eq, List, [], ◌∷◌, map, Some, slice_set, length, sym, ◌∙◌, ap, subst, refl, ◌<◌, codes, decimal, arith}
use Rattle.std.proofs.lemmas.Fmt.{decimal_injective}
use Rattle.std.proofs.lemmas.List.{append_cancel_left}
use Rattle.zi_digest.specs.declared.DigestName.{DigestName}
use Rattle.zi_digest.specs.declared.DigestName.TheVariants.{Sha1new, Sha256, Sha256new}
use Rattle.zi_digest.specs.Name.{spelling, algorithm_of}
use Rattle.zi_tree.specs.Dir.{Dir}
use Rattle.zi_shelf.specs.Names.{Name}
use Rattle.zi_manifest.specs.Manifest.{manifest, as_read, first_bad}
use Rattle.zi_shelf.specs.Filling.{trees}
use Rattle.zi_session.specs.Machine.{Adder, Phase, Crash, stopped}
use Rattle.zi_session.specs.Machine.{Step as StepOf}
use Rattle.zi_session.specs.Law.{IsLawful}
use Rattle.zi_session.specs.Phases.{tmp_name}
use Rattle.zi_session.specs.Made.{made}
use Rattle.zi_session.specs.Standing.{Standing}
use Rattle.zi_session.specs.Rebuilding.{with_manifest}
use Rattle.zi_session.specs.StoreRules.{rules, IsNamed, MayBegin}
use Rattle.zi_session.specs.StoreWorks.{algorithm_in, store_works}
use Rattle.zi_session.specs.Lasting.{AnswersLast}
use Rattle.zi_session.specs.Tie.{StepIsEvent, StepKeeps, EventsKeep, CrashKeeps, StoreLaw}
use Rattle.zi_session.proofs.Remade.{rebuilds, read_free}
use Rattle.zi_session.proofs.KeptLemmas.{event_keeps, is_kept, is_law}
use Rattle.zi_session.proofs.LastingLemmas.{lasts}

-- the text begins with the letter `s`
is_s : List ℕ → Bool
is_s [] = false
is_s (x ∷ xs) = nat_eq x 115

digest_first : (d : DigestName) → is_s (spelling d) ≡ true
unfolding is_s
digest_first (Sha1new bytes) = refl
digest_first (Sha256 bytes) = refl
digest_first (Sha256new bytes) = refl

tmp_first : (n : ℕ) → is_s (tmp_name n) ≡ false
unfolding tmp_name is_s
tmp_first n = refl

-- no digest name is a temporary one
pub no_tmp : (d : DigestName) (n : ℕ) → spelling d ≡ tmp_name n → ⊥
no_tmp d n e = cc (digest_first d, ap is_s e, tmp_first n)

names_differ : (m n : ℕ) → m < 10000 → n < 10000 → tmp_name m ≡ tmp_name n → m ≡ n
unfolding tmp_name
names_differ m n lm ln e = decimal_injective m n (omega arith) (omega arith) (append_cancel_left (codes "tmp-") (decimal m) (decimal n) e)

-- the calls for a tree that may be added make a tree of its name
builds : (x y : Dir) (n : Name) → MayBegin x n → made trees (store_works n x) (length (store_works n x)) trees.empty ≡ Some y → IsNamed y n
builds x y n (whole, free, (d, spelled, has, is)) m =
    let r = rebuilds x (manifest (algorithm_in n) x) whole free in
    let both : Some (with_manifest x (manifest (algorithm_in n) x)) ≡ Some y = sym r.makes ∙ m in
    let same : with_manifest x (manifest (algorithm_in n) x) ≡ y = cc both in
    let as_was : as_read (with_manifest x (manifest (algorithm_in n) x)) ≡ as_read x = r.read ∙ sym (read_free x free) in
    subst (λ z. IsNamed z n) same (d, spelled, ap first_bad as_was ∙ has, r.digest (algorithm_of d) ∙ is)

pub lawful : IsLawful rules
lawful = record {
  tmp_free = λ n is. no_tmp is.0 n is.2;
  tmp_apart = names_differ;
  some = omega arith;
  built = builds;
}

pub is_event : StepIsEvent
is_event adders i a x y s t step stands at c = record {
  adder = a;
  is = at;
  call = c.call;
  makes = rw (stands.makes, stands.named, stands.phase) c.next;
  reply = c.reply;
  answers = c.does.answers;
  adders = ap (λ (p : Phase). let b : Adder Dir = record a { phase = p } in slice_set adders i b) (rw (stands.makes, stands.phase) (ap (λ (z : Standing). z.phase) c.goes));
}

pub keeps : StepKeeps
keeps adders i a x y s t step stands at c inv =
    event_keeps rules lawful (record { shelf = s.shelf; adders = adders }) (record { shelf = t.shelf; adders = slice_set adders i (record a { phase = y.phase }) }) (StepOf i) inv
    (is_event adders i a x y s t step stands at c)

pub events_keep : EventsKeep
events_keep = is_kept rules lawful

pub crash_keeps : CrashKeeps
crash_keeps adders s t leaves settled inv =
    events_keep (record { shelf = s.shelf; adders = adders }) (record { shelf = t.shelf; adders = map stopped adders }) Crash inv (leaves, settled, refl)

pub store_law : StoreLaw
store_law = is_law rules lawful

pub answers_last : AnswersLast
answers_last = lasts rules lawful
