-- What a feed's elements say as parts can be carried: bindings, dependencies, words, runners, commands.
use Rattle.std.specs.Prelude.{if◌then◌else◌, option_and_then, unwrap_or}
use Rattle.std.proofs.Common.{ℕ, Bool, true, false, List, map, codes, refl, sym, subst}
use Rattle.zi_elements.specs.Forest.{Elem, attribute, has, value, text_in}
use Rattle.zi_reading.specs.Words.{listed, optional}
use Rattle.zi_parts.specs.Values.{mode_of, extra_of, binding_of, bindings_of, command_named, dep_binding_of, dep_bindings_of, dep_of, deps_of, word_of, args_of, runner_of, command_of, commands_of}
use Rattle.zi_reading.specs.Ways.{Ways, InFeed}
use Rattle.zi_reading.specs.Reading.{is, parts, binding_names, named}
use Rattle.zi_parts.specs.declared.types.Binding.{Binding}
use Rattle.zi_parts.specs.declared.types.Binding.TheVariants.{Env, ExecVar, ExecPath, Unbuilt}
use Rattle.zi_parts.specs.declared.types.Extra.{Extra}
use Rattle.zi_parts.specs.declared.types.Extra.TheVariants.{Insert, Value}
use Rattle.zi_parts.specs.declared.types.Mode.{Mode}
use Rattle.zi_parts.specs.declared.types.Mode.TheVariants.{Prepend}
use Rattle.zi_parts.specs.declared.types.Dep.{Dep}
use Rattle.zi_parts.specs.declared.types.Word.{Word}
use Rattle.zi_parts.specs.declared.types.Word.TheVariants.{Arg, ForEach}
use Rattle.zi_parts.specs.declared.types.Runner.{Runner}
use Rattle.zi_parts.specs.declared.types.Command.{Command}
use Rattle.zi_doc_laws.specs.Trees.{IsCarried}
use Rattle.zi_sels.specs.Written.{command_wanted}
use Rattle.zi_sels_laws.proofs.LikeLaws.{Each}
use Rattle.zi_sels_laws.proofs.SoundLaws.{own_wanted}
use Rattle.zi_sels_laws.proofs.FreeLaws.{each_weak, each_map, each_first}
use Rattle.zi_written_laws.proofs.TextLaws.{shown_carried, IsCarriedOr, or_carried}
use Rattle.zi_written_laws.proofs.ElemLaws.{IsCarriedElem, attribute_carried, value_carried, text_carried, parts_carried, named_carried, address_carried}

colon_carried : IsCarried (codes ":")
colon_carried = shown_carried (codes ":") refl

run_carried : IsCarried (codes "run")
run_carried = shown_carried (codes "run") refl

-- what is so of all that is made of carried elements
each_made : {X : Type 0} (P : X → Type 0) (f : Elem → X) → ((e : Elem) → IsCarriedElem e → P (f e)) → (es : List Elem) → Each IsCarriedElem es → Each P (map f es)
each_made P f one es h = each_map P f es (each_weak IsCarriedElem (λ e. P (f e)) one es h)

-- Bindings.

abbrev pub IsCarriedExtra : Extra → Type 0
IsCarriedExtra (Insert path) = IsCarried path
IsCarriedExtra (Value text) = IsCarried text

abbrev pub IsCarriedBinding : Binding → Type 0
IsCarriedBinding (Env name extra mode separator default) = IsCarried name × IsCarriedExtra extra × IsCarried separator × IsCarriedOr default
IsCarriedBinding (ExecVar name command) = IsCarried name × IsCarried command
IsCarriedBinding (ExecPath name command) = IsCarried name × IsCarried command
IsCarriedBinding (Unbuilt element) = Unit {0}

extra_carried : (e : Elem) → IsCarriedElem e → IsCarriedExtra (extra_of e)
extra_carried e h = by (has (codes "insert") e)
  where
    by : (b : Bool) → IsCarriedExtra (if b then Insert (value (codes "insert") e) else Value (value (codes "value") e))
    by true = value_carried (codes "insert") e h
    by false = value_carried (codes "value") e h

binding_carried : (e : Elem) → IsCarriedElem e → IsCarriedBinding (binding_of e)
unfolding binding_of
binding_carried e h = by (is (codes "environment") e) (unwrap_or (option_and_then mode_of (attribute (codes "mode") e)) Prepend)
  where
    by : (b : Bool) (m : Mode)
        → IsCarriedBinding (if b then Env (value (codes "name") e) (extra_of e) m (unwrap_or (attribute (codes "separator") e) (codes ":")) (attribute (codes "default") e) else Unbuilt e.name)
    by true m = (
      value_carried (codes "name") e h,
      extra_carried e h,
      or_carried (attribute (codes "separator") e) (codes ":") (attribute_carried (codes "separator") e h) colon_carried,
      attribute_carried (codes "default") e h,
    )
    by false m = tt

pub bindings_carried : (ways : Ways) (e : Elem) → IsCarriedElem e → Each IsCarriedBinding (bindings_of ways e)
bindings_carried ways e h = each_made IsCarriedBinding binding_of binding_carried (named ways binding_names e) (named_carried ways binding_names e h)

-- Those of a dependency.

command_carried_in : (e : Elem) → IsCarriedElem e → IsCarried (command_named e)
command_carried_in e h = or_carried (attribute (codes "command") e) (codes "run") (attribute_carried (codes "command") e h) run_carried

dep_binding_carried : (e : Elem) → IsCarriedElem e → IsCarriedBinding (dep_binding_of e)
unfolding dep_binding_of
dep_binding_carried e h = by (is (codes "executable-in-var") e) (is (codes "executable-in-path") e)
  where
    by : (v p : Bool)
        → IsCarriedBinding (if v then ExecVar (value (codes "name") e) (command_named e) else if p then ExecPath (value (codes "name") e) (command_named e) else binding_of e)
    by true p = (value_carried (codes "name") e h, command_carried_in e h)
    by false true = (value_carried (codes "name") e h, command_carried_in e h)
    by false false = binding_carried e h

dep_bindings_carried : (ways : Ways) (e : Elem) → IsCarriedElem e → Each IsCarriedBinding (dep_bindings_of ways e)
dep_bindings_carried ways e h = each_made IsCarriedBinding dep_binding_of dep_binding_carried (named ways binding_names e) (named_carried ways binding_names e h)

-- Words.

abbrev pub IsCarriedWord : Word → Type 0
IsCarriedWord (Arg text) = IsCarried text
IsCarriedWord (ForEach item_from separator args) = IsCarried item_from × IsCarried separator × Each IsCarried args

word_carried : (ways : Ways) (e : Elem) → IsCarriedElem e → IsCarriedWord (word_of ways e)
unfolding word_of
word_carried ways e h = by (is (codes "arg") e)
  where
    by : (b : Bool)
        → IsCarriedWord (if b then Arg (text_in e.inside) else ForEach (value (codes "item-from") e) (unwrap_or (attribute (codes "separator") e) (codes ":")) (map (λ a. text_in a.inside) (parts ways e)))
    by true = text_carried e.inside h.texts
    by false = (
      value_carried (codes "item-from") e h,
      or_carried (attribute (codes "separator") e) (codes ":") (attribute_carried (codes "separator") e h) colon_carried,
      each_made IsCarried (λ a. text_in a.inside) (λ a k. text_carried a.inside k.texts) (parts ways e) (parts_carried ways e h),
    )

pub args_carried : (ways : Ways) (e : Elem) → IsCarriedElem e → Each IsCarriedWord (args_of ways e)
args_carried ways e h = each_made IsCarriedWord (word_of ways) (word_carried ways) (named ways (listed (codes "arg for-each")) e) (named_carried ways (listed (codes "arg for-each")) e h)

-- Dependencies, runners and commands of a feed whose address can be carried.

pub record IsCarriedDep (d : Dep) : Type 0 where
  pub interface : IsCarried d.interface
  pub bindings : Each IsCarriedBinding d.bindings

pub record IsCarriedRunner (r : Runner) : Type 0 where
  pub dep : IsCarriedDep r.dep
  pub wanted : IsCarried (command_wanted r)
  pub words : Each IsCarriedWord r.words

pub record IsCarriedCommand (c : Command) : Type 0 where
  pub name : IsCarried c.name
  pub path : IsCarriedOr c.path
  pub words : Each IsCarriedWord c.words
  pub runner : Each IsCarriedRunner (optional c.runner)
  pub deps : Each IsCarriedDep c.deps
  pub bindings : Each IsCarriedBinding c.bindings

module _ (uri : List ℕ) (known : IsCarried uri) where
  dep_carried : (e : Elem) → IsCarriedElem e → IsCarriedDep (dep_of (InFeed uri) e)
  unfolding dep_of
  dep_carried e h = record { interface = address_carried uri (codes "interface") e known h; bindings = dep_bindings_carried (InFeed uri) e h }

  pub deps_carried : (e : Elem) → IsCarriedElem e → Each IsCarriedDep (deps_of (InFeed uri) e)
  deps_carried e h =
      each_made IsCarriedDep (dep_of (InFeed uri)) dep_carried (named (InFeed uri) (listed (codes "requires restricts")) e) (named_carried (InFeed uri) (listed (codes "requires restricts")) e h)

  runner_carried : (e : Elem) → IsCarriedElem e → IsCarriedRunner (runner_of (InFeed uri) e)
  unfolding runner_of
  runner_carried e h = record {
    dep = record { interface = address_carried uri (codes "interface") e known h; bindings = dep_bindings_carried (InFeed uri) e h };
    wanted = subst IsCarried (sym (own_wanted (InFeed uri) e)) (command_carried_in e h);
    words = args_carried (InFeed uri) e h;
  }

  command_carried : (e : Elem) → IsCarriedElem e → IsCarriedCommand (command_of (InFeed uri) e)
  unfolding command_of
  command_carried e h = record {
    name = value_carried (codes "name") e h;
    path = attribute_carried (codes "path") e h;
    words = args_carried (InFeed uri) e h;
    runner = each_first IsCarriedRunner (runner_of (InFeed uri)) (named (InFeed uri) (listed (codes "runner")) e)
        (each_weak IsCarriedElem (λ r. IsCarriedRunner (runner_of (InFeed uri) r)) runner_carried (named (InFeed uri) (listed (codes "runner")) e) (named_carried (InFeed uri) (listed (codes "runner")) e h));
    deps = deps_carried e h;
    bindings = bindings_carried (InFeed uri) e h;
  }

  pub commands_carried : (e : Elem) → IsCarriedElem e → Each IsCarriedCommand (commands_of (InFeed uri) e)
  commands_carried e h =
      each_made IsCarriedCommand (command_of (InFeed uri)) command_carried (named (InFeed uri) (listed (codes "command")) e) (named_carried (InFeed uri) (listed (codes "command")) e h)
