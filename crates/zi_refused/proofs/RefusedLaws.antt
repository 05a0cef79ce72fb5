-- Of refusals: no reason looks at a place, and each that is offered is admitted or refused.
use Rattle.std.proofs.Common.{◌≡◌, ℕ, suc, ◌+◌, ◌++◌, Bool, true, false, ◌&&◌, List, [], ◌∷◌, length, filter, if◌then◌else◌, Option, Some, None, is_none, option_map, refl, sym, ap, ◌∙◌, arith, append_assoc}
use Rattle.std.proofs.lemmas.List.{length-append}
use Rattle.std.proofs.lemmas.List.Elements.{filter_map-append}
use Rattle.std.proofs.lemmas.List.Sorted.{length_permutation}
use Rattle.std.specs.List.{filter_map, cons_option}
use Rattle.zi_policy.specs.declared.types.Policy.{Policy}
use Rattle.zi_rank.specs.declared.types.WhyNot.{WhyNot}
use Rattle.zi_rank.specs.Reasons.{why_not}
use Rattle.zi_parts.specs.declared.types.Impl.{Impl}
use Rattle.zi_feed.specs.declared.feed.Feed.{Feed}
use Rattle.zi_universe.specs.declared.types.Requirement.{Requirement}
use Rattle.zi_universe.specs.declared.types.Candidate.{Candidate}
use Rattle.zi_universe.specs.Naming.{Uri}
use Rattle.zi_universe.specs.Candidates.{Store, candidate_of, standing_of, offered_from, offered_by, all_impls, within_limits, is_admitted, admitted_by, admitted}
use Rattle.zi_refused.specs.declared.refusal.Reason.{Reason}
use Rattle.zi_refused.specs.declared.refusal.Refusal.{Refusal}
use Rattle.zi_refused.specs.Laws.{offered, NoneIsLost}
use Rattle.zi_refused.specs.Refused.{first_of, as_refused, reason_of, refusal_of, refused_by, refused, refusal_at}

-- No reason looks at a place.
pub wherever : (req : Requirement) (p : Policy) (stored : Store) (interface feed : Uri) (place : ℕ) (i : Impl)
    → refusal_of req p interface (candidate_of p stored interface feed place i) ≡ refusal_at req p stored interface i
unfolding standing_of why_not
wherever req p stored interface feed place i = refl

pub all_wherever : (req : Requirement) (p : Policy) (stored : Store) (interface feed : Uri) (n : ℕ) (is : List Impl)
    → filter_map (refusal_of req p interface) (offered_from p stored interface feed n is) ≡ filter_map (refusal_at req p stored interface) is
all_wherever req p stored interface feed n [] = refl
all_wherever req p stored interface feed n (i ∷ is) =
    ap (λ r. cons_option r (filter_map (refusal_of req p interface) (offered_from p stored interface feed (n + 1) is))) (wherever req p stored interface feed n i)
    ∙ ap (λ rs. cons_option (refusal_at req p stored interface i) rs) (all_wherever req p stored interface feed (n + 1) is)

-- what is added of a feed: of its implementations, and then of its rows
pub of_feed : (req : Requirement) (p : Policy) (stored : Store) (interface : Uri) (f : Feed) (rows : List Impl) → all_impls stored.packages f ≡ f.impls ++ rows
    → refused_by req p stored interface f ≡ filter_map (refusal_at req p stored interface) f.impls ++ filter_map (refusal_at req p stored interface) rows
of_feed req p stored interface f rows e =
    all_wherever req p stored interface f.uri 0 (all_impls stored.packages f)
    ∙ (ap (λ is. filter_map (refusal_at req p stored interface) is) e ∙ filter_map-append (refusal_at req p stored interface) f.impls rows)

pub added : (req : Requirement) (p : Policy) (stored : Store) (interface : Uri) (f : Feed) (rows : List Impl) (old mid new : List Refusal) → all_impls stored.packages f ≡ f.impls ++ rows
    → mid ≡ old ++ filter_map (refusal_at req p stored interface) f.impls → new ≡ mid ++ filter_map (refusal_at req p stored interface) rows
    → new ≡ old ++ refused_by req p stored interface f
added req p stored interface f rows old mid new are m n =
    let h = refusal_at req p stored interface in
    n ∙ (ap (λ y. y ++ filter_map h rows) m ∙ (append_assoc old (filter_map h f.impls) (filter_map h rows) ∙ ap (λ y. old ++ y) (sym (of_feed req p stored interface f rows are))))

-- three pieces of a text
pub three : (old one two new a b c : List ℕ) → one ≡ old ++ a → two ≡ one ++ b → new ≡ two ++ c → new ≡ old ++ (a ++ (b ++ c))
three old one two new a b c e f g =
    g ∙ (ap (λ y. y ++ c) (f ∙ (ap (λ y. y ++ b) e ∙ append_assoc old a b)) ∙ (append_assoc old (a ++ b) c ∙ ap (λ y. old ++ y) (append_assoc a b c)))

-- Each has its reason.
either_way : (w : Option WhyNot) (b : Bool) → (is_none w && b) ≡ is_none (first_of w b)
either_way (Some w) b = refl
either_way None true = refl
either_way None false = refl

pub has_reason : (req : Requirement) (p : Policy) (interface : Uri) (c : Candidate) → is_admitted req p interface c ≡ is_none (reason_of req p interface c)
has_reason req p interface c = either_way (why_not p c.standing) (within_limits req.limits interface c.standing.version)

-- one more that is offered counts once
one_more : (b : Bool) (r : Option Reason) (c : Candidate) (cs : List Candidate) (rs : List Refusal) (n : ℕ) → b ≡ is_none r → length cs + length rs ≡ n
    → length (if b then c ∷ cs else cs) + length (cons_option (option_map (as_refused c) r) rs) ≡ suc n
one_more true None c cs rs n b e = omega (arith, e)
one_more false (Some r) c cs rs n b e = omega (arith, e)
one_more true (Some r) c cs rs n b e = absurd cc
one_more false None c cs rs n b e = absurd cc

all_counted : (req : Requirement) (p : Policy) (interface : Uri) (cs : List Candidate)
    → length (filter (is_admitted req p interface) cs) + length (filter_map (refusal_of req p interface) cs) ≡ length cs
all_counted req p interface [] = refl
all_counted req p interface (c ∷ cs) =
    one_more (is_admitted req p interface c) (reason_of req p interface c) c (filter (is_admitted req p interface) cs) (filter_map (refusal_of req p interface) cs) (length cs) (has_reason req p interface c)
    (all_counted req p interface cs)

-- what is offered by feeds, feed by feed
feeds_counted : (req : Requirement) (p : Policy) (stored : Store) (interface : Uri) (fs : List Feed)
    → length (admitted req p stored interface fs) + length (refused req p stored interface fs) ≡ length (offered p stored interface fs)
feeds_counted req p stored interface [] = refl
feeds_counted req p stored interface (f ∷ fs) =
    let a = length-append (admitted_by req p stored interface f) (admitted req p stored interface fs) in
    let r = length-append (refused_by req p stored interface f) (refused req p stored interface fs) in
    let o = length-append (offered_by p stored interface f) (offered p stored interface fs) in
    let one = all_counted req p interface (offered_by p stored interface f) in
    let more = feeds_counted req p stored interface fs in
    omega (arith, a, r, o, one, more)

pub none_lost : NoneIsLost
none_lost req p stored interface fs cs are =
    let l = length_permutation (admitted req p stored interface fs) cs are.same in
    let n = feeds_counted req p stored interface fs in
    omega (arith, l, n)
