-- What is told one fact after another.
use Rattle.std.proofs.Common.{◌≡◌, ℕ, zero, suc, ◌+◌, ◌<◌, ◌≤◌, Bool, true, false, not, if◌then◌else◌, List, [], ◌∷◌, ◌++◌, append_assoc, length, map, take, get_or, refl, sym, ap, ◌∙◌, subst, arith, Option, Some, None}
use Rattle.std.specs.List.{flat_map}
use Rattle.std.proofs.lemmas.List.{map-append, append-nil}
use Rattle.std.proofs.lemmas.Grind.{flat_map-append}
use Rattle.std.proofs.lemmas.Bool.{false≢true}
use Rattle.std.proofs.Math.Seq.{take-suc}
use Rattle.zi_policy.specs.declared.types.Width.{Width}
use Rattle.zi_parts.specs.declared.types.Dep.{Dep}
use Rattle.zi_parts.specs.declared.types.DepKind.{DepKind}
use Rattle.zi_parts.specs.declared.types.DepKind.TheVariants.{Essential, Recommended, Restricts}
use Rattle.zi_parts.specs.declared.types.Command.{Command}
use Rattle.zi_parts.specs.declared.types.Runner.{Runner}
use Rattle.zi_universe.specs.declared.types.Requirement.{Requirement}
use Rattle.zi_universe.specs.declared.types.Candidate.{Candidate}
use Rattle.zi_universe.specs.declared.types.Interface.{Interface}
use Rattle.zi_universe.specs.Candidates.{asks}
use Rattle.zi_choice.specs.Choice.{number, needs_of, with_runner}
use Rattle.zi_choice.specs.Valid.{group}
use Rattle.zi_choice.specs.Vars.{Var, Cand, Cmd, candidates_of}
use Rattle.zi_choice.proofs.Base.{candidates_at}
use Rattle.zi_build.specs.Clauses.{each, keep, among, at_target, named_by, two_or_more}
use Rattle.zi_build.proofs.WriteLaws.{each_more, item_at}
use Rattle.zi_facts.specs.declared.fact.Fact.{Fact}
use Rattle.zi_facts.specs.Facts.{Told, Root, Once, Part, Needs, as_told, told_refusal, told_admission, told_name, told_naming, told_need, told_needs, told_width, told_command, told_candidate, told_interface, told_once, told_requirement, told}
use Rattle.zi_facts.specs.Telling.{Tells}

pub tells_none : (v : List Fact) → Tells v [] v
tells_none v = sym (append-nil (map as_told v))

pub tells_one : (v w : List Fact) (f : Fact) → w ≡ v ++ f ∷ [] → Tells v (as_told f ∷ []) w
tells_one v w f e = ap (map as_told) e ∙ map-append as_told v (f ∷ [])

pub tells_both : (v w x : List Fact) (ts us : List Told) → Tells v ts w → Tells w us x → Tells v (ts ++ us) x
tells_both v w x ts us f g = g ∙ ap (λ ys. ys ++ us) f ∙ append_assoc (map as_told v) ts us

pub tells_as : (v w : List Fact) (ts us : List Told) → ts ≡ us → Tells v ts w → Tells v us w
tells_as v w ts us e f = subst (λ xs. Tells v xs w) e f

pub tells_kept : (b : Bool) (t : Told) (v w : List Fact) → b ≡ true → Tells v (t ∷ []) w → Tells v (keep b t) w
tells_kept true t v w e f = f
tells_kept false t v w e f = absurd (false≢true e)

pub tells_left : (b : Bool) (t : Told) (v : List Fact) → b ≡ false → Tells v (keep b t) v
tells_left true t v e = absurd (false≢true (sym e))
tells_left false t v e = tells_none v

-- a fact that is told, and one that isn't
pub told_kept : (b : Bool) (t : Told) (v w : List Fact) → not b ≡ false → Tells v (t ∷ []) w → Tells v (keep b t) w
told_kept true t v w e f = f
told_kept false t v w e f = absurd (false≢true (sym e))

pub told_left : (b : Bool) (t : Told) (v : List Fact) → not b ≡ true → Tells v (keep b t) v
told_left true t v e = absurd (false≢true e)
told_left false t v e = tells_none v

pub ruleset keeping = (tells_kept, tells_left, told_kept, told_left)

-- two or more are told to be one at most
two_few : (n : ℕ) → n < 2 → two_or_more n ≡ false
two_few zero l = refl
two_few (suc zero) l = refl
two_few (suc (suc n)) l = absurd (omega (arith, l))

two_many : (n : ℕ) → 2 ≤ n → two_or_more n ≡ true
two_many zero l = absurd (omega (arith, l))
two_many (suc zero) l = absurd (omega (arith, l))
two_many (suc (suc n)) l = refl

pub once_left : (n i : ℕ) (v : List Fact) → n < 2 → Tells v (keep (two_or_more n) (Once i)) v
once_left n i v l = tells_left (two_or_more n) (Once i) v (two_few n l)

pub once_kept : (n i : ℕ) (v w : List Fact) → 2 ≤ n → Tells v (Once i ∷ []) w → Tells v (keep (two_or_more n) (Once i)) w
once_kept n i v w l f = tells_kept (two_or_more n) (Once i) v w (two_many n l) f

pub ruleset once_telling = (once_left, once_kept)

-- a loop over a list tells what each item tells
pub tells_next : {A : Type 0} (v w x : List Fact) (f : ℕ → A → List Told) (xs : List A) (i : ℕ) (a : A) → i < length xs → a ≡ get_or xs i a → Tells v (each 0 f (take i xs)) w → Tells w (f i a) x → Tells v (each 0 f (take (i + 1) xs)) x
tells_next v w x f xs i a l e g h = tells_as v x (each 0 f (take i xs) ++ f i a) (each 0 f (take (i + 1) xs)) (sym (each_more f xs i a l e)) (tells_both v w x (each 0 f (take i xs)) (f i a) g h)

front_more : {A : Type 0} (xs : List A) (i : ℕ) (a : A) → i < length xs → a ≡ get_or xs i a → take (i + 1) xs ≡ take i xs ++ a ∷ []
front_more xs i a l e =
    let s : i + 1 ≡ suc i = omega arith in
    ap (λ n. take n xs) s ∙ take-suc xs i a l ∙ ap (λ x. take i xs ++ x ∷ []) (sym e)

flat_more : {A : Type 0} (f : A → List Told) (xs : List A) (i : ℕ) (a : A) → i < length xs → a ≡ get_or xs i a → flat_map f (take (i + 1) xs) ≡ flat_map f (take i xs) ++ f a
flat_more f xs i a l e = ap (flat_map f) (front_more xs i a l e) ∙ flat_map-append f (take i xs) (a ∷ []) ∙ ap (λ ys. flat_map f (take i xs) ++ ys) (append-nil (f a))

pub tells_flat : {A : Type 0} (v w x : List Fact) (f : A → List Told) (xs : List A) (i : ℕ) (a : A) → i < length xs → a ≡ get_or xs i a → Tells v (flat_map f (take i xs)) w → Tells w (f a) x → Tells v (flat_map f (take (i + 1) xs)) x
tells_flat v w x f xs i a l e g h = tells_as v x (flat_map f (take i xs) ++ f a) (flat_map f (take (i + 1) xs)) (sym (flat_more f xs i a l e)) (tells_both v w x (flat_map f (take i xs)) (f a) g h)

take_past : {A : Type 0} (xs : List A) (n : ℕ) → length xs ≤ n → take n xs ≡ xs
take_past [] zero l = refl
take_past [] (suc n) l = refl
take_past (x ∷ xs) zero l = absurd (omega (arith, l))
take_past (x ∷ xs) (suc n) l = ap (λ ys. x ∷ ys) (take_past xs n (omega (arith, l)))

pub tells_each : {A : Type 0} (v w : List Fact) (f : ℕ → A → List Told) (xs : List A) (i : ℕ) → length xs ≤ i → Tells v (each 0 f (take i xs)) w → Tells v (each 0 f xs) w
tells_each v w f xs i l g = tells_as v w (each 0 f (take i xs)) (each 0 f xs) (ap (each 0 f) (take_past xs i l)) g

pub tells_whole : {A : Type 0} (v w : List Fact) (f : A → List Told) (xs : List A) (i : ℕ) → length xs ≤ i → Tells v (flat_map f (take i xs)) w → Tells v (flat_map f xs) w
tells_whole v w f xs i l g = tells_as v w (flat_map f (take i xs)) (flat_map f xs) (ap (flat_map f) (take_past xs i l)) g

pub tells_over : {A : Type 0} (v w x : List Fact) (f : ℕ → A → List Told) (xs ys : List A) (i : ℕ) (a : A) → ys ≡ xs → i < length ys → a ≡ get_or ys i a → Tells v (each 0 f (take i xs)) w → Tells w (f i a) x → Tells v (each 0 f (take (i + 1) xs)) x
tells_over v w x f xs ys i a s l e g h = tells_next v w x f xs i a (subst (λ z. i < length z) s l) (e ∙ ap (λ z. get_or z i a) s) g h

-- one command more of those that a dependency names
pub naming_more : (u : List Interface) (y : Var) (d : Dep) (j : ℕ) (ns ms : List (List ℕ)) (i : ℕ) (n : List ℕ) (v w x : List Fact) → number u d.interface ≡ Some j → ms ≡ ns → i < length ms → n ≡ get_or ms i n → Tells v (flat_map (λ name. among u d (told_name y d name)) (take i ns)) w → Tells w (each 0 (told_name y d n j) (candidates_of u j)) x → Tells v (flat_map (λ name. among u d (told_name y d name)) (take (i + 1) ns)) x
naming_more u y d j ns ms i n v w x t q l e g h =
    tells_flat v w x (λ name. among u d (told_name y d name)) ns i n (subst (λ z. i < length z) q l) (e ∙ ap (λ z. get_or z i n) q) g
    (tells_as w x (each 0 (told_name y d n j) (candidates_of u j)) (among u d (told_name y d n)) (ap (at_target u (told_name y d n)) (sym t)) h)

naming_nowhere : (u : List Interface) (y : Var) (d : Dep) (ns : List (List ℕ)) → number u d.interface ≡ None → told_naming u y d ns ≡ []
naming_nowhere u y d [] e = refl
naming_nowhere u y d (n ∷ ns) e = ap (λ o. at_target u (told_name y d n) o ++ told_naming u y d ns) e ∙ naming_nowhere u y d ns e

pub need_nowhere : (u : List Interface) (y : Var) (d : Dep) → number u d.interface ≡ None → told_admission u y d d.kind ≡ told_need u y d
need_nowhere u y d e = sym (ap (λ rs. told_admission u y d d.kind ++ rs) (naming_nowhere u y d (named_by d) e) ∙ append-nil (told_admission u y d d.kind))

-- one interface more
pub interface_over : (u : List Interface) (v w x : List Fact) (i : ℕ) → i < length u → Tells v (each 0 (told_interface u) (take i u)) w → Tells w (each 0 (told_candidate u i) (candidates_of u i)) x → Tells v (each 0 (told_interface u) (take (i + 1) u)) x
interface_over u v w x i l g h =
    let r = item_at u i l in
    tells_next v w x (told_interface u) u i r.0 l r.1 g (tells_as w x (each 0 (told_candidate u i) (candidates_of u i)) (told_interface u i r.0) (ap (each 0 (told_candidate u i)) (candidates_at u i r.0 r.2)) h)

pub once_over : (u : List Interface) (v w x : List Fact) (i : ℕ) → i < length u → Tells v (each 0 told_once (take i u)) w → Tells w (keep (two_or_more (length (candidates_of u i))) (Once i)) x → Tells v (each 0 told_once (take (i + 1) u)) x
once_over u v w x i l g h =
    let r = item_at u i l in
    tells_next v w x told_once u i r.0 l r.1 g (tells_as w x (keep (two_or_more (length (candidates_of u i))) (Once i)) (told_once i r.0) (ap (λ ks. keep (two_or_more (length ks)) (Once i)) (candidates_at u i r.0 r.2)) h)

-- a command: that it is a part of its version, its dependencies, and then its runner
command_needs : (u : List Interface) (y : Var) (m : Command) (r : Runner) → m.runner ≡ Some r → told_needs u y m.deps ++ told_need u y r.dep ≡ told_needs u y (needs_of m)
command_needs u y m r e =
    ap (λ ts. told_needs u y m.deps ++ ts) (sym (append-nil (told_need u y r.dep))) ∙ sym (flat_map-append (told_need u y) m.deps (r.dep ∷ [])) ∙ ap (λ o. told_needs u y (with_runner m.deps o)) (sym e)

pub command_tells : (u : List Interface) (i c n : ℕ) (m : Command) (r : Runner) (v w x z : List Fact) → m.runner ≡ Some r → Tells v (Part i c n ∷ []) w → Tells w (told_needs u (Cmd i c n) m.deps) x → Tells x (told_need u (Cmd i c n) r.dep) z → Tells v (told_command u i c n m) z
command_tells u i c n m r v w x z e f g h =
    tells_both v w z (Part i c n ∷ []) (told_needs u (Cmd i c n) (needs_of m)) f
    (tells_as w z (told_needs u (Cmd i c n) m.deps ++ told_need u (Cmd i c n) r.dep) (told_needs u (Cmd i c n) (needs_of m)) (command_needs u (Cmd i c n) m r e) (tells_both w x z (told_needs u (Cmd i c n) m.deps) (told_need u (Cmd i c n) r.dep) g h))

pub command_alone : (u : List Interface) (i c n : ℕ) (m : Command) (v w x : List Fact) → m.runner ≡ None → Tells v (Part i c n ∷ []) w → Tells w (told_needs u (Cmd i c n) m.deps) x → Tells v (told_command u i c n m) x
command_alone u i c n m v w x e f g =
    tells_both v w x (Part i c n ∷ []) (told_needs u (Cmd i c n) (needs_of m)) f
    (tells_as w x (told_needs u (Cmd i c n) m.deps) (told_needs u (Cmd i c n) (needs_of m)) (ap (λ o. told_needs u (Cmd i c n) (with_runner m.deps o)) (sym e)) g)

-- a candidate: its bits, its dependencies, its commands
pub candidate_tells : (u : List Interface) (i c : ℕ) (k : Candidate) (width : Width) (v w x z : List Fact) → width ≡ group k → Tells v (told_width i c width) w → Tells w (told_needs u (Cand i c) k.imp.deps) x → Tells x (each 0 (told_command u i c) k.imp.commands) z → Tells v (told_candidate u i c k) z
candidate_tells u i c k width v w x z e f g h =
    tells_both v w z (told_width i c (group k)) (told_needs u (Cand i c) k.imp.deps ++ each 0 (told_command u i c) k.imp.commands) (tells_as v w (told_width i c width) (told_width i c (group k)) (ap (told_width i c) e) f)
    (tells_both w x z (told_needs u (Cand i c) k.imp.deps) (each 0 (told_command u i c) k.imp.commands) g h)

-- what a dependency admits, and the commands that it names
pub essential_tells : (u : List Interface) (y : Var) (d : Dep) (v w : List Fact) → d.kind ≡ Essential → Tells v (Needs y d ∷ []) w → Tells v (told_admission u y d d.kind) w
essential_tells u y d v w e f = tells_as v w (told_admission u y d Essential) (told_admission u y d d.kind) (ap (told_admission u y d) (sym e)) f

other_kind : (u : List Interface) (y : Var) (d : Dep) (kind : DepKind) → (kind ≡ Essential → ⊥) → among u d (told_refusal y d) ≡ told_admission u y d kind
other_kind u y d Essential n = absurd (n refl)
other_kind u y d Recommended n = refl
other_kind u y d Restricts n = refl

pub refusals_tell : (u : List Interface) (y : Var) (d : Dep) (j : ℕ) (v w : List Fact) → (d.kind ≡ Essential → ⊥) → number u d.interface ≡ Some j → Tells v (each 0 (told_refusal y d j) (candidates_of u j)) w → Tells v (told_admission u y d d.kind) w
refusals_tell u y d j v w n e f =
    tells_as v w (each 0 (told_refusal y d j) (candidates_of u j)) (told_admission u y d d.kind) (ap (at_target u (told_refusal y d)) (sym e) ∙ other_kind u y d d.kind n) f

pub nowhere_tells : (u : List Interface) (y : Var) (d : Dep) (v : List Fact) → (d.kind ≡ Essential → ⊥) → number u d.interface ≡ None → Tells v (told_admission u y d d.kind) v
nowhere_tells u y d v n e = tells_as v v [] (told_admission u y d d.kind) (ap (at_target u (told_refusal y d)) (sym e) ∙ other_kind u y d d.kind n) (tells_none v)

pub need_tells : (u : List Interface) (y : Var) (d : Dep) (v w x : List Fact) → asks d ≡ true → Tells v (told_admission u y d d.kind) w → Tells w (told_naming u y d d.commands) x → Tells v (told_need u y d) x
need_tells u y d v w x e f g =
    tells_both v w x (told_admission u y d d.kind) (told_naming u y d (named_by d)) f (tells_as w x (told_naming u y d d.commands) (told_naming u y d (named_by d)) (ap (λ b. told_naming u y d (if b then d.commands else [])) (sym e)) g)

pub need_unnamed : (u : List Interface) (y : Var) (d : Dep) (v w : List Fact) → asks d ≡ false → Tells v (told_admission u y d d.kind) w → Tells v (told_need u y d) w
need_unnamed u y d v w e f =
    tells_as v w (told_admission u y d d.kind) (told_need u y d) (sym (ap (λ b. told_admission u y d d.kind ++ told_naming u y d (if b then d.commands else [])) e ∙ append-nil (told_admission u y d d.kind))) f

pub ruleset admission_telling = (essential_tells, refusals_tell, nowhere_tells)

pub ruleset need_telling = (need_tells, need_unnamed)

pub ruleset command_telling = (command_tells, command_alone)

-- all of them
pub told_all : (u : List Interface) (req : Requirement) (v w x y z : List Fact) → v ≡ [] → Tells v (Root ∷ []) w → Tells w (told_requirement u req.command) x → Tells x (each 0 told_once u) y → Tells y (each 0 (told_interface u) u) z → map as_told z ≡ told u req
told_all u req v w x y z e f g h k =
    let behind : Tells w (told_requirement u req.command ++ (each 0 told_once u ++ each 0 (told_interface u) u)) z = tells_both w x z (told_requirement u req.command) (each 0 told_once u ++ each 0 (told_interface u) u) g (tells_both x y z (each 0 told_once u) (each 0 (told_interface u) u) h k) in
    tells_both v w z (Root ∷ []) (told_requirement u req.command ++ (each 0 told_once u ++ each 0 (told_interface u) u)) f behind ∙ ap (λ fs. map as_told fs ++ told u req) e
