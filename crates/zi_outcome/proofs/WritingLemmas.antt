-- A text that is put piece by piece.
use Rattle.std.proofs.Common.{◌≡◌, ℕ, inr, ◌+◌, List, ◌∷◌, ◌++◌, length, take, refl, sym, ap, subst, ◌∙◌, arith, append_assoc, min, Option, Some, None, Result, Ok, Err}
use Rattle.std.proofs.lemmas.List.{append-nil, take_min, take-append-le}
use Rattle.zi_text.specs.Count.{Rose}
use Rattle.zi_outside.specs.Views.{Sinking}
use Rattle.zi_outside.specs.Outside.{gained, GainsFront, Writes, Puts}
use Rattle.zi_outside.specs.declared.sink.SinkFault.{SinkFault}
use Rattle.zi_outside.specs.declared.sink.SinkFault.TheVariants as fault
use Rattle.zi_outcome.specs.Writing.{StopsShort, PutsAll, PrintsThen}
use Rattle.zi_outcome.specs.declared.outcome.Outcome.{Outcome}
use Rattle.zi_outcome.specs.declared.outcome.Outcome.TheVariants.{Memory}
use Rattle.zi_version.proofs.ExpressionLemmas.{take-front}

gained-gained : (old : Option (List ℕ)) (a b : List ℕ) → gained (gained old a) b ≡ gained old (a ++ b)
gained-gained None a b = refl
gained-gained (Some bytes) a b = ap (λ x. Some x) (append_assoc bytes a b)

-- a front of the first piece is a front of both
front_first : (old : Option (List ℕ)) (a b : List ℕ) (new : Option (List ℕ)) → GainsFront old a new → GainsFront old (a ++ b) new
front_first old a b new (n, e) = (min n (length a), e ∙ ap (gained old) (sym (take-append-le (min n (length a)) a b (omega arith) ∙ take_min n a)))

-- the first piece is put, and then a front of the second
front_second : (old mid : Option (List ℕ)) (a b : List ℕ) (new : Option (List ℕ)) → mid ≡ gained old a → GainsFront mid b new → GainsFront old (a ++ b) new
front_second old mid a b new m (n, e) =
    (length a + n, e ∙ ap (λ w. gained w (take n b)) m ∙ gained-gained old a (take n b) ∙ ap (gained old) (sym (take-front a b n)))

-- nothing is a front
no_front : (old new : Option (List ℕ)) (a : List ℕ) → new ≡ old → GainsFront old a new
no_front None new a e = (0, e)
no_front (Some bytes) new a e = (0, e ∙ ap (λ x. Some x) (sym (append-nil bytes)))

-- memory was refused before anything was put
pub nothing_put : (old : Sinking) (text : List ℕ) (new : Sinking) → new ≡ old → StopsShort old text new
nothing_put old text new e = record {
  written = no_front old.written new.written text (ap (λ (s : Sinking). s.written) e);
  faults = ap (λ (s : Sinking). s.faults) e;
  plan = ap (λ (s : Sinking). s.plan) e;
}

pub one_put : (old : Sinking) (piece : List ℕ) (r : Result (Unit {0}) SinkFault) (new : Sinking) → Puts old piece r new → PutsAll old piece r new
one_put old piece (Ok x) new p = p.0
one_put old piece (Err fault.Failed) new p = p.0
one_put old piece (Err fault.Memory) new p = nothing_put old piece new p

-- one piece, and then another
pub then_put : (old mid : Sinking) (a b : List ℕ) (r : Result (Unit {0}) SinkFault) (new : Sinking) → Writes old a mid → PutsAll mid b r new → PutsAll old (a ++ b) r new
then_put old mid a b (Ok x) new m p = record {
  written = p.written ∙ ap (λ w. gained w b) m.written ∙ gained-gained old.written a b;
  faults = p.faults ∙ m.faults;
  plan = p.plan ∙ m.plan;
}
then_put old mid a b (Err fault.Failed) new m p = record {
  written = front_second old.written mid.written a b new.written m.written p.written;
  failed = subst (λ n. Rose n new.faults) m.faults p.failed;
  plan = p.plan ∙ m.plan;
}
then_put old mid a b (Err fault.Memory) new m p = record {
  written = front_second old.written mid.written a b new.written m.written p.written;
  faults = p.faults ∙ m.faults;
  plan = p.plan ∙ m.plan;
}

-- the first piece isn't put whole
pub put_stops : (old : Sinking) (a b : List ℕ) (e : SinkFault) (new : Sinking) → PutsAll old a (Err e) new → PutsAll old (a ++ b) (Err e) new
put_stops old a b fault.Failed new p = record { written = front_first old.written a b new.written p.written; failed = p.failed; plan = p.plan }
put_stops old a b fault.Memory new p = record { written = front_first old.written a b new.written p.written; faults = p.faults; plan = p.plan }

pub ruleset pieces = (then_put, put_stops)

-- memory was refused before anything was printed
pub nothing_printed : (text : List ℕ) (ending : Outcome) (out : Sinking) → PrintsThen text ending out out Memory
nothing_printed text ending out = inr (inr (nothing_put out text out refl, refl))

pub ruleset printing = (nothing_printed)
