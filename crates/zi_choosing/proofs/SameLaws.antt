-- The comparison of selections tells when they are the same value, part by part.
use Rattle.std.proofs.Common.{◌≡◌, ◌==◌, Bool, refl, ap, rules, Some, None, Decides}
use Rattle.std.specs.Option.{option_eq}
use lib.Pointwise.{pointwise}
use denote.Enum.Bare.{sameb, same_true, true_same}
use Rattle.std.proofs.lemmas.Bool.{false≢true}
use Rattle.std.proofs.lemmas.Bool.Decides.{Decides-and, Decides-like}
use Rattle.std.specs.Cmp.Lexicographic.{bytes_decides}
use Rattle.std.proofs.lemmas.Slice.Eq.{slice_eq-Decides}
use Rattle.std.proofs.lemmas.Option.{same_Some}
use Rattle.zi_version.specs.declared.alternative.Alternative.TheVariants.{Equal, Other, Within}
use Rattle.zi_version.specs.declared.alternative.Range.TheVariants.{One, Any}
use Rattle.zi_version.specs.contracts.alternative.AlternativePartialEq.TheImpl as alternative
use Rattle.zi_version.specs.contracts.alternative.RangePartialEq.TheImpl as range
use Rattle.zi_digest.specs.declared.DigestName.TheVariants.{Sha1new, Sha256, Sha256new}
use Rattle.zi_digest.specs.contracts.DigestNamePartialEq.TheImpl as digest
use Rattle.zi_parts.specs.declared.types.Word.TheVariants.{Arg, ForEach}
use Rattle.zi_parts.specs.declared.types.Binding.TheVariants.{Env, ExecVar, ExecPath, Unbuilt}
use Rattle.zi_parts.specs.declared.types.Extra.TheVariants.{Insert, Value}
use Rattle.zi_parts.specs.contracts.types.DepKind.{the_type as kinds}
use Rattle.zi_parts.specs.contracts.types.Mode.{the_type as modes}
use Rattle.zi_parts.specs.contracts.types.DepPartialEq.TheImpl as dep
use Rattle.zi_parts.specs.contracts.types.CommandPartialEq.TheImpl as command
use Rattle.zi_parts.specs.contracts.types.RunnerPartialEq.TheImpl as runner
use Rattle.zi_parts.specs.contracts.types.WordPartialEq.TheImpl as word
use Rattle.zi_parts.specs.contracts.types.BindingPartialEq.TheImpl as binding
use Rattle.zi_parts.specs.contracts.types.ExtraPartialEq.TheImpl as extra
use Rattle.zi_sels.specs.contracts.types.SelectionPartialEq.TheImpl as selection
use Rattle.zi_sels.specs.contracts.types.SelectionsPartialEq.TheImpl as selections

-- the test is true exactly at one value twice
abbrev Tells : {A : Type 0} → (A → A → Bool) → Type 0
Tells {A} same = (x y : A) → Decides (same x y) (x ≡ y)

lists : {A : Type 0} (same : A → A → Bool) → Tells same → Tells (pointwise same)
lists same tells xs ys = slice_eq-Decides tells xs ys (pointwise same xs ys) refl

options : {A : Type 0} (same : A → A → Bool) → Tells same → Tells (option_eq same)
options same tells None None = (λ t. refl, λ e. refl)
options same tells None (Some y) = (λ t. absurd (false≢true t), λ e. absurd cc)
options same tells (Some x) None = (λ t. absurd (false≢true t), λ e. absurd cc)
options same tells (Some x) (Some y) = (λ t. ap Some ((tells x y).0 t), λ e. (tells x y).1 (same_Some _ _ e))

texts : Tells (pointwise ◌==◌)
texts = bytes_decides

kind_tells : Tells (sameb kinds)
kind_tells a b = (λ t. same_true kinds (search rules) a b t, λ e. true_same kinds a b e)

mode_tells : Tells (sameb modes)
mode_tells a b = (λ t. same_true modes (search rules) a b t, λ e. true_same modes a b e)

extra_tells : Tells (extra.eq-value).it
extra_tells (Insert x) (Insert y) = (λ t. ap Insert ((texts x y).0 t), λ e. (texts x y).1 cc)
extra_tells (Insert x) (Value y) = (λ t. absurd (false≢true t), λ e. absurd cc)
extra_tells (Value x) (Insert y) = (λ t. absurd (false≢true t), λ e. absurd cc)
extra_tells (Value x) (Value y) = (λ t. ap Value ((texts x y).0 t), λ e. (texts x y).1 cc)

alternative_tells : Tells (alternative.eq-value).it
alternative_tells (Equal v) (Equal w) = (λ t. ap Equal ((texts v w).0 t), λ e. (texts v w).1 cc)
alternative_tells (Equal v) (Other w) = (λ t. absurd (false≢true t), λ e. absurd cc)
alternative_tells (Equal v) (Within b d) = (λ t. absurd (false≢true t), λ e. absurd cc)
alternative_tells (Other v) (Equal w) = (λ t. absurd (false≢true t), λ e. absurd cc)
alternative_tells (Other v) (Other w) = (λ t. ap Other ((texts v w).0 t), λ e. (texts v w).1 cc)
alternative_tells (Other v) (Within b d) = (λ t. absurd (false≢true t), λ e. absurd cc)
alternative_tells (Within a c) (Equal w) = (λ t. absurd (false≢true t), λ e. absurd cc)
alternative_tells (Within a c) (Other w) = (λ t. absurd (false≢true t), λ e. absurd cc)
alternative_tells (Within a c) (Within b d) =
    Decides-like ((alternative.eq-value).it (Within a c) (Within b d))
    (λ (h : (a ≡ b) × (c ≡ d)) i. Within (h.0 i) (h.1 i))
    (λ e. (cc, cc))
    (Decides-and _ _ (options (pointwise ◌==◌) texts a b) (options (pointwise ◌==◌) texts c d))

range_tells : Tells (range.eq-value).it
range_tells (One a) (One b) = (λ t. ap One ((alternative_tells a b).0 t), λ e. (alternative_tells a b).1 cc)
range_tells (One a) (Any bs) = (λ t. absurd (false≢true t), λ e. absurd cc)
range_tells (Any as_) (One b) = (λ t. absurd (false≢true t), λ e. absurd cc)
range_tells (Any as_) (Any bs) =
    let tells = lists (alternative.eq-value).it alternative_tells as_ bs in
    (λ t. ap Any (tells.0 t), λ e. tells.1 cc)

digest_tells : Tells (digest.eq-value).it
digest_tells (Sha1new x) (Sha1new y) = (λ t. ap Sha1new ((texts x y).0 t), λ e. (texts x y).1 cc)
digest_tells (Sha1new x) (Sha256 y) = (λ t. absurd (false≢true t), λ e. absurd cc)
digest_tells (Sha1new x) (Sha256new y) = (λ t. absurd (false≢true t), λ e. absurd cc)
digest_tells (Sha256 x) (Sha1new y) = (λ t. absurd (false≢true t), λ e. absurd cc)
digest_tells (Sha256 x) (Sha256 y) = (λ t. ap Sha256 ((texts x y).0 t), λ e. (texts x y).1 cc)
digest_tells (Sha256 x) (Sha256new y) = (λ t. absurd (false≢true t), λ e. absurd cc)
digest_tells (Sha256new x) (Sha1new y) = (λ t. absurd (false≢true t), λ e. absurd cc)
digest_tells (Sha256new x) (Sha256 y) = (λ t. absurd (false≢true t), λ e. absurd cc)
digest_tells (Sha256new x) (Sha256new y) = (λ t. ap Sha256new ((texts x y).0 t), λ e. (texts x y).1 cc)

binding_tells : Tells (binding.eq-value).it
binding_tells (Env n x m s d) (Env n' x' m' s' d') =
    Decides-like ((binding.eq-value).it (Env n x m s d) (Env n' x' m' s' d'))
    (λ (h : (n ≡ n') × ((x ≡ x') × ((m ≡ m') × ((s ≡ s') × (d ≡ d'))))) i. Env (h.0 i) (h.1.0 i) (h.1.1.0 i) (h.1.1.1.0 i) (h.1.1.1.1 i))
    (λ e. (cc, (cc, (cc, (cc, cc)))))
    (Decides-and _ _ (texts n n') (Decides-and _ _ (extra_tells x x') (Decides-and _ _ (mode_tells m m') (Decides-and _ _ (texts s s') (options (pointwise ◌==◌) texts d d')))))
binding_tells (Env n x m s d) (ExecVar n' k') = (λ t. absurd (false≢true t), λ h. absurd cc)
binding_tells (Env n x m s d) (ExecPath n' k') = (λ t. absurd (false≢true t), λ h. absurd cc)
binding_tells (Env n x m s d) (Unbuilt e') = (λ t. absurd (false≢true t), λ h. absurd cc)
binding_tells (ExecVar n k) (Env n' x' m' s' d') = (λ t. absurd (false≢true t), λ h. absurd cc)
binding_tells (ExecVar n k) (ExecVar n' k') =
    Decides-like ((binding.eq-value).it (ExecVar n k) (ExecVar n' k'))
    (λ (h : (n ≡ n') × (k ≡ k')) i. ExecVar (h.0 i) (h.1 i))
    (λ e. (cc, cc))
    (Decides-and _ _ (texts n n') (texts k k'))
binding_tells (ExecVar n k) (ExecPath n' k') = (λ t. absurd (false≢true t), λ h. absurd cc)
binding_tells (ExecVar n k) (Unbuilt e') = (λ t. absurd (false≢true t), λ h. absurd cc)
binding_tells (ExecPath n k) (Env n' x' m' s' d') = (λ t. absurd (false≢true t), λ h. absurd cc)
binding_tells (ExecPath n k) (ExecVar n' k') = (λ t. absurd (false≢true t), λ h. absurd cc)
binding_tells (ExecPath n k) (ExecPath n' k') =
    Decides-like ((binding.eq-value).it (ExecPath n k) (ExecPath n' k'))
    (λ (h : (n ≡ n') × (k ≡ k')) i. ExecPath (h.0 i) (h.1 i))
    (λ e. (cc, cc))
    (Decides-and _ _ (texts n n') (texts k k'))
binding_tells (ExecPath n k) (Unbuilt e') = (λ t. absurd (false≢true t), λ h. absurd cc)
binding_tells (Unbuilt e) (Env n' x' m' s' d') = (λ t. absurd (false≢true t), λ h. absurd cc)
binding_tells (Unbuilt e) (ExecVar n' k') = (λ t. absurd (false≢true t), λ h. absurd cc)
binding_tells (Unbuilt e) (ExecPath n' k') = (λ t. absurd (false≢true t), λ h. absurd cc)
binding_tells (Unbuilt x) (Unbuilt y) = (λ t. ap Unbuilt ((texts x y).0 t), λ e. (texts x y).1 cc)

word_tells : Tells (word.eq-value).it
word_tells (Arg x) (Arg y) = (λ t. ap Arg ((texts x y).0 t), λ e. (texts x y).1 cc)
word_tells (Arg x) (ForEach v s ws) = (λ t. absurd (false≢true t), λ e. absurd cc)
word_tells (ForEach v s ws) (Arg x) = (λ t. absurd (false≢true t), λ e. absurd cc)
word_tells (ForEach v s ws) (ForEach v' s' ws') =
    Decides-like ((word.eq-value).it (ForEach v s ws) (ForEach v' s' ws'))
    (λ (h : (v ≡ v') × ((s ≡ s') × (ws ≡ ws'))) i. ForEach (h.0 i) (h.1.0 i) (h.1.1 i))
    (λ e. (cc, (cc, cc)))
    (Decides-and _ _ (texts v v') (Decides-and _ _ (texts s s') (lists (pointwise ◌==◌) texts ws ws')))

dep_tells : Tells (dep.eq-value).it
dep_tells a b =
    Decides-like ((dep.eq-value).it a b)
    (λ (h : (a.interface ≡ b.interface) × ((a.kind ≡ b.kind) × ((a.ranges ≡ b.ranges) × (((a.condition.os ≡ b.condition.os) × (a.condition.wanted ≡ b.condition.wanted)) × ((a.commands ≡ b.commands) × (a.bindings ≡ b.bindings)))))) i.
    record { interface = h.0 i; kind = h.1.0 i; ranges = h.1.1.0 i; condition = record { os = h.1.1.1.0.0 i; wanted = h.1.1.1.0.1 i }; commands = h.1.1.1.1.0 i; bindings = h.1.1.1.1.1 i })
    (λ e. (ap (λ d. d.interface) e, (ap (λ d. d.kind) e, (ap (λ d. d.ranges) e, ((ap (λ d. d.condition.os) e, ap (λ d. d.condition.wanted) e), (ap (λ d. d.commands) e, ap (λ d. d.bindings) e))))))
    (Decides-and _ _ (texts a.interface b.interface) (Decides-and _ _ (kind_tells a.kind b.kind) (Decides-and _ _ (lists (range.eq-value).it range_tells a.ranges b.ranges)
    (Decides-and _ _ (Decides-and _ _ (options (pointwise ◌==◌) texts a.condition.os b.condition.os) (options (pointwise ◌==◌) texts a.condition.wanted b.condition.wanted))
    (Decides-and _ _ (lists (pointwise ◌==◌) texts a.commands b.commands) (lists (binding.eq-value).it binding_tells a.bindings b.bindings))))))

runner_tells : Tells (runner.eq-value).it
runner_tells a b =
    Decides-like ((runner.eq-value).it a b)
    (λ (h : (a.dep ≡ b.dep) × (a.words ≡ b.words)) i. record { dep = h.0 i; words = h.1 i })
    (λ e. (ap (λ r. r.dep) e, ap (λ r. r.words) e))
    (Decides-and _ _ (dep_tells a.dep b.dep) (lists (word.eq-value).it word_tells a.words b.words))

command_tells : Tells (command.eq-value).it
command_tells a b =
    Decides-like ((command.eq-value).it a b)
    (λ (h : (a.name ≡ b.name) × ((a.path ≡ b.path) × ((a.words ≡ b.words) × ((a.runner ≡ b.runner) × ((a.deps ≡ b.deps) × ((a.bindings ≡ b.bindings) × (a.unbuilt ≡ b.unbuilt))))))) i.
    record { name = h.0 i; path = h.1.0 i; words = h.1.1.0 i; runner = h.1.1.1.0 i; deps = h.1.1.1.1.0 i; bindings = h.1.1.1.1.1.0 i; unbuilt = h.1.1.1.1.1.1 i })
    (λ e. (ap (λ k. k.name) e, (ap (λ k. k.path) e, (ap (λ k. k.words) e, (ap (λ k. k.runner) e, (ap (λ k. k.deps) e, (ap (λ k. k.bindings) e, ap (λ k. k.unbuilt) e)))))))
    (Decides-and _ _ (texts a.name b.name) (Decides-and _ _ (options (pointwise ◌==◌) texts a.path b.path) (Decides-and _ _ (lists (word.eq-value).it word_tells a.words b.words)
    (Decides-and _ _ (options (runner.eq-value).it runner_tells a.runner b.runner) (Decides-and _ _ (lists (dep.eq-value).it dep_tells a.deps b.deps)
    (Decides-and _ _ (lists (binding.eq-value).it binding_tells a.bindings b.bindings) (options (pointwise ◌==◌) texts a.unbuilt b.unbuilt)))))))

selection_tells : Tells (selection.eq-value).it
selection_tells a b =
    Decides-like ((selection.eq-value).it a b)
    (λ (h : (a.interface ≡ b.interface) × ((a.id ≡ b.id) × ((a.version ≡ b.version) × ((a.from_feed ≡ b.from_feed) × ((a.«package» ≡ b.«package») × ((a.local ≡ b.local) × ((a.arch ≡ b.arch) × ((a.released ≡ b.released) × ((a.stability ≡ b.stability)
    × ((a.digests ≡ b.digests) × ((a.deps ≡ b.deps) × ((a.commands ≡ b.commands) × (a.bindings ≡ b.bindings))))))))))))) i.
    record {
      interface = h.0 i;
      id = h.1.0 i;
      version = h.1.1.0 i;
      from_feed = h.1.1.1.0 i;
      «package» = h.1.1.1.1.0 i;
      local = h.1.1.1.1.1.0 i;
      arch = h.1.1.1.1.1.1.0 i;
      released = h.1.1.1.1.1.1.1.0 i;
      stability = h.1.1.1.1.1.1.1.1.0 i;
      digests = h.1.1.1.1.1.1.1.1.1.0 i;
      deps = h.1.1.1.1.1.1.1.1.1.1.0 i;
      commands = h.1.1.1.1.1.1.1.1.1.1.1.0 i;
      bindings = h.1.1.1.1.1.1.1.1.1.1.1.1 i;
    })
    (λ e. (ap (λ x. x.interface) e, (ap (λ x. x.id) e, (ap (λ x. x.version) e, (ap (λ x. x.from_feed) e, (ap (λ x. x.«package») e, (ap (λ x. x.local) e, (ap (λ x. x.arch) e, (ap (λ x. x.released) e, (ap (λ x. x.stability) e, (ap (λ x. x.digests) e, (ap (λ x. x.deps) e, (ap (λ x. x.commands) e, ap (λ x. x.bindings) e)))))))))))))
    (Decides-and _ _ (texts a.interface b.interface) (Decides-and _ _ (texts a.id b.id) (Decides-and _ _ (texts a.version b.version) (Decides-and _ _ (texts a.from_feed b.from_feed)
    (Decides-and _ _ (options (pointwise ◌==◌) texts a.«package» b.«package») (Decides-and _ _ (options (pointwise ◌==◌) texts a.local b.local) (Decides-and _ _ (options (pointwise ◌==◌) texts a.arch b.arch) (Decides-and _ _ (options (pointwise ◌==◌) texts a.released b.released)
    (Decides-and _ _ (options (pointwise ◌==◌) texts a.stability b.stability) (Decides-and _ _ (lists (digest.eq-value).it digest_tells a.digests b.digests)
    (Decides-and _ _ (lists (dep.eq-value).it dep_tells a.deps b.deps) (Decides-and _ _ (lists (command.eq-value).it command_tells a.commands b.commands)
    (lists (binding.eq-value).it binding_tells a.bindings b.bindings)))))))))))))

pub selections_tell : Tells (selections.eq-value).it
selections_tell a b =
    Decides-like ((selections.eq-value).it a b)
    (λ (h : (a.interface ≡ b.interface) × ((a.command ≡ b.command) × (a.items ≡ b.items))) i. record { interface = h.0 i; command = h.1.0 i; items = h.1.1 i })
    (λ e. (ap (λ s. s.interface) e, (ap (λ s. s.command) e, ap (λ s. s.items) e)))
    (Decides-and _ _ (texts a.interface b.interface) (Decides-and _ _ (options (pointwise ◌==◌) texts a.command b.command) (lists (selection.eq-value).it selection_tells a.items b.items)))
