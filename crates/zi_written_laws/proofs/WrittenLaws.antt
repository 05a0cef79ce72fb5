-- The tree of selections can be written, where they are as they may be read and all their values can be carried.
use Rattle.std.specs.Prelude.{option_map}
use Rattle.std.proofs.Common.{◌≡◌, ℕ, suc, nat_le, true, false, List, [], ◌∷◌, ◌++◌, map, Option, Some, None, codes, refl, sym, subst}
use Rattle.hex.specs.Hex.{encode_lower}
use Rattle.zi_elements.specs.Forest.{Elem}
use Rattle.zi_xml.specs.Chars.{is_digit}
use Rattle.zi_digest.specs.Name.{base32, IsDigest}
use Rattle.zi_digest.specs.declared.DigestName.{DigestName}
use Rattle.zi_docout.specs.Amiss.{is_plain_name, first_amiss}
use Rattle.zi_docout.specs.Elements.{attr}
use Rattle.zi_reading.specs.Words.{optional}
use Rattle.zi_parts.specs.declared.types.Dep.{Dep}
use Rattle.zi_parts.specs.declared.types.DepKind.{DepKind}
use Rattle.zi_parts.specs.declared.types.DepKind.TheVariants.{Essential, Recommended, Restricts}
use Rattle.zi_parts.specs.declared.types.Binding.{Binding}
use Rattle.zi_parts.specs.declared.types.Binding.TheVariants.{Env, ExecVar, ExecPath, Unbuilt}
use Rattle.zi_parts.specs.declared.types.Extra.{Extra}
use Rattle.zi_parts.specs.declared.types.Extra.TheVariants.{Insert, Value}
use Rattle.zi_parts.specs.declared.types.Mode.{Mode}
use Rattle.zi_parts.specs.declared.types.Mode.TheVariants.{Prepend, Append, Replace}
use Rattle.zi_parts.specs.declared.types.Word.{Word}
use Rattle.zi_parts.specs.declared.types.Word.TheVariants.{Arg, ForEach}
use Rattle.zi_parts.specs.declared.types.Runner.{Runner}
use Rattle.zi_parts.specs.declared.types.Command.{Command}
use Rattle.zi_sels.specs.declared.types.Selection.{Selection}
use Rattle.zi_sels.specs.declared.types.Selections.{Selections}
use Rattle.zi_sels.specs.Written.{attr_unless, extra_attr, mode_attrs, binding_elem, kind_attrs, dep_elem, arg_elem, word_elem, command_wanted, runner_elem, unbuilt_elem, command_elem, digest_attrs, digests_elems, selection_attrs, selection_elem, tree}
use Rattle.zi_doc_laws.specs.Trees.{IsCarried}
use Rattle.zi_sels_laws.proofs.LikeLaws.{Each, each_append, each_both}
use Rattle.zi_sels_laws.proofs.FreeLaws.{each_weak, each_map}
use Rattle.zi_sels_laws.proofs.PlainLaws.{among_each}
use Rattle.zi_sels_laws.proofs.BindingLaws.{other_names, IsProperBinding}
use Rattle.zi_sels_laws.proofs.ShimLaws.{unbuilt_names, IsProperDepBinding}
use Rattle.zi_sels_laws.proofs.DepLaws.{IsProperDep}
use Rattle.zi_sels_laws.proofs.RunnerLaws.{IsProperRunner}
use Rattle.zi_sels_laws.proofs.CommandLaws.{IsDir, IsProperCommand}
use Rattle.zi_sels_laws.proofs.DigestsLaws.{three}
use Rattle.zi_sels_laws.proofs.ItemLaws.{HasDigests, IsProperItem}
use Rattle.zi_written_laws.proofs.TextLaws.{shown_carried, IsCarriedOr}
use Rattle.zi_written_laws.proofs.PartLaws.{IsCarriedExtra, IsCarriedBinding, IsCarriedWord, IsCarriedDep, IsCarriedRunner, IsCarriedCommand}
use Rattle.zi_written_laws.proofs.DigitLaws.{hex_carried, base32_carried}
use Rattle.zi_written_laws.proofs.MadeLaws.{IsCarriedItem}
use Rattle.zi_written_laws.proofs.DrawnLaws.{Drawn, done, skip, here, drawn_both, drawn_one, drawn_of, drawn_unless}
use Rattle.zi_written_laws.proofs.StandLaws.{CanStand, elem_stands, text_stands, none_amiss}

-- of each that is made something is so
each_made : {X : Type 0} (d : ℕ) (make : X → Elem) (P Q : X → Type 0) → ((x : X) → P x → Q x → CanStand d (make x)) → (xs : List X) → Each P xs → Each Q xs → Each (CanStand d) (map make xs)
each_made d make P Q one xs h k =
    each_map (CanStand d) make xs (each_weak (λ x. P x × Q x) (λ x. CanStand d (make x)) (λ x b. one x b.0 b.1) xs (each_both P Q xs h k))

-- Bindings.

extra_drawn : (e : Extra) → IsCarriedExtra e → Drawn (codes "insert" ∷ codes "value" ∷ []) (extra_attr e ∷ [])
extra_drawn (Insert path) c = here path c (skip done)
extra_drawn (Value text) c = skip (here text c done)

mode_drawn : (m : Mode) → Drawn (codes "mode" ∷ []) (mode_attrs m)
mode_drawn Prepend = skip done
mode_drawn Append = drawn_one (codes "mode") (codes "append") (shown_carried (codes "append") refl)
mode_drawn Replace = drawn_one (codes "mode") (codes "replace") (shown_carried (codes "replace") refl)

others_plain : Each (λ n. is_plain_name n ≡ true) other_names
unfolding is_plain_name is_digit
others_plain = (refl, (refl, (refl, (refl, tt))))

binding_stands : (d : ℕ) → nat_le 64 d ≡ false → (b : Binding) → IsProperBinding b → IsCarriedBinding b → CanStand d (binding_elem b)
unfolding binding_elem is_plain_name is_digit
binding_stands d near (Env name extra mode separator default) h c =
    elem_stands d (codes "environment") _ [] near refl
    (drawn_both (drawn_both (drawn_both (here {n = codes "name"} name c.0 (extra_drawn extra c.1)) (mode_drawn mode)) (drawn_unless (codes ":") (codes "separator") separator c.2)) (drawn_of (codes "default") default c.3))
    refl tt
binding_stands d near (ExecVar name command) h c = absurd h
binding_stands d near (ExecPath name command) h c = absurd h
binding_stands d near (Unbuilt name) h c = elem_stands d name [] [] near (among_each (λ n. is_plain_name n ≡ true) other_names name others_plain h) done refl tt

bindings_stand : (d : ℕ) → nat_le 64 d ≡ false → (bs : List Binding) → Each IsProperBinding bs → Each IsCarriedBinding bs → Each (CanStand d) (map binding_elem bs)
bindings_stand d near bs h c = each_made d binding_elem IsProperBinding IsCarriedBinding (binding_stands d near) bs h c

-- Those of a dependency.

unbuilt_plain : Each (λ n. is_plain_name n ≡ true) unbuilt_names
unfolding is_plain_name is_digit
unbuilt_plain = (refl, (refl, tt))

shim_drawn : (name command : List ℕ) → IsCarried name → IsCarried command
    → Drawn (codes "name" ∷ codes "command" ∷ []) (attr (codes "name") name ∷ [] ++ attr_unless (codes "run") (codes "command") command)
shim_drawn name command n c = drawn_both (drawn_one (codes "name") name n) (drawn_unless (codes "run") (codes "command") command c)

dep_binding_stands : (d : ℕ) → nat_le 64 d ≡ false → (b : Binding) → IsProperDepBinding b → IsCarriedBinding b → CanStand d (binding_elem b)
unfolding binding_elem is_plain_name is_digit
dep_binding_stands d near (Env name extra mode separator default) h c = binding_stands d near (Env name extra mode separator default) h c
dep_binding_stands d near (ExecVar name command) h c = elem_stands d (codes "executable-in-var") _ [] near refl (shim_drawn name command c.0 c.1) refl tt
dep_binding_stands d near (ExecPath name command) h c = elem_stands d (codes "executable-in-path") _ [] near refl (shim_drawn name command c.0 c.1) refl tt
dep_binding_stands d near (Unbuilt name) h c = elem_stands d name [] [] near (among_each (λ n. is_plain_name n ≡ true) unbuilt_names name unbuilt_plain h) done refl tt

dep_bindings_stand : (d : ℕ) → nat_le 64 d ≡ false → (bs : List Binding) → Each IsProperDepBinding bs → Each IsCarriedBinding bs → Each (CanStand d) (map binding_elem bs)
dep_bindings_stand d near bs h c = each_made d binding_elem IsProperDepBinding IsCarriedBinding (dep_binding_stands d near) bs h c

-- Dependencies.

kind_drawn : (k : DepKind) → Drawn (codes "importance" ∷ []) (kind_attrs k)
kind_drawn Essential = skip done
kind_drawn Recommended = drawn_one (codes "importance") (codes "recommended") (shown_carried (codes "recommended") refl)
kind_drawn Restricts = skip done

dep_stands : (d : ℕ) → nat_le 64 d ≡ false → nat_le 64 (suc d) ≡ false → (x : Dep) → IsProperDep x → IsCarriedDep x → CanStand d (dep_elem x)
unfolding dep_elem is_plain_name is_digit
dep_stands d near inner x h c =
    elem_stands d (codes "requires") _ (map binding_elem x.bindings) near refl (drawn_both (drawn_one (codes "interface") x.interface c.interface) (kind_drawn x.kind)) refl
    (dep_bindings_stand (suc d) inner x.bindings h.bindings c.bindings)

-- Words.

arg_stands : (d : ℕ) → nat_le 64 d ≡ false → (t : List ℕ) → IsCarried t → CanStand d (arg_elem t)
unfolding arg_elem is_plain_name is_digit
arg_stands d near t c = text_stands d (codes "arg") t near refl c

word_stands : (d : ℕ) → nat_le 64 d ≡ false → nat_le 64 (suc d) ≡ false → (x : Word) → IsCarriedWord x → CanStand d (word_elem x)
unfolding word_elem is_plain_name is_digit
word_stands d near inner (Arg text) c = arg_stands d near text c
word_stands d near inner (ForEach item_from separator args) c =
    elem_stands d (codes "for-each") _ (map arg_elem args) near refl
    (drawn_both (drawn_one (codes "item-from") item_from c.0) (drawn_unless (codes ":") (codes "separator") separator c.1)) refl
    (each_map (CanStand (suc d)) arg_elem args (each_weak IsCarried (λ t. CanStand (suc d) (arg_elem t)) (arg_stands (suc d) inner) args c.2))

words_stand : (d : ℕ) → nat_le 64 d ≡ false → nat_le 64 (suc d) ≡ false → (ws : List Word) → Each IsCarriedWord ws → Each (CanStand d) (map word_elem ws)
words_stand d near inner ws c = each_map (CanStand d) word_elem ws (each_weak IsCarriedWord (λ x. CanStand d (word_elem x)) (word_stands d near inner) ws c)

-- Runners and commands, the latter with two elements around them.

runner_stands : (x : Runner) → IsProperRunner x → IsCarriedRunner x → CanStand 3 (runner_elem x)
unfolding runner_elem is_plain_name is_digit
runner_stands x h c =
    elem_stands 3 (codes "runner") _ (map binding_elem x.dep.bindings ++ map word_elem x.words) refl refl
    (here {n = codes "interface"} x.dep.interface c.dep.interface (here {n = codes "command"} (command_wanted x) c.wanted done)) refl
    (each_append (CanStand 4) (map binding_elem x.dep.bindings) (map word_elem x.words) (dep_bindings_stand 4 refl x.dep.bindings h.bindings c.dep.bindings) (words_stand 4 refl refl x.words c.words))

maybe_runner : (o : Option Runner) → Each IsProperRunner (optional o) → Each IsCarriedRunner (optional o) → Each (CanStand 3) (optional (option_map runner_elem o))
maybe_runner None h c = tt
maybe_runner (Some x) h c = (runner_stands x h.0 c.0, tt)

maybe_unbuilt : (o : Option (List ℕ)) → Each IsDir (optional o) → Each (CanStand 3) (optional (option_map unbuilt_elem o))
unfolding is_plain_name is_digit
maybe_unbuilt None h = tt
maybe_unbuilt (Some n) h =
    let P : List ℕ → Type 0 = λ v. CanStand 3 (unbuilt_elem v) in
    (subst P (sym h.0) (elem_stands 3 (codes "working-dir") [] [] refl refl done refl tt), tt)

command_stands : (x : Command) → IsProperCommand x → IsCarriedCommand x → CanStand 2 (command_elem x)
unfolding command_elem is_plain_name is_digit
command_stands x h c =
    let bs = map binding_elem x.bindings in
    let us = optional (option_map unbuilt_elem x.unbuilt) in
    let ds = map dep_elem x.deps in
    let ws = map word_elem x.words in
    let rs = optional (option_map runner_elem x.runner) in
    elem_stands 2 (codes "command") _ (bs ++ us ++ ds ++ ws ++ rs) refl refl (drawn_both (drawn_one (codes "name") x.name c.name) (drawn_of (codes "path") x.path c.path)) refl
    (each_append (CanStand 3) (bs ++ us ++ ds ++ ws) rs
    (each_append (CanStand 3) (bs ++ us ++ ds) ws
    (each_append (CanStand 3) (bs ++ us) ds (each_append (CanStand 3) bs us (bindings_stand 3 refl x.bindings h.bindings c.bindings) (maybe_unbuilt x.unbuilt h.unbuilt))
    (each_made 3 dep_elem IsProperDep IsCarriedDep (dep_stands 3 refl refl) x.deps h.deps c.deps))
    (words_stand 3 refl refl x.words c.words))
    (maybe_runner x.runner h.runner c.runner))

-- Digests.

digests_drawn : (n s o : Option (List ℕ)) → Each IsDigest (three n s o) → Drawn (codes "sha1new" ∷ codes "sha256" ∷ codes "sha256new" ∷ []) (digest_attrs (three n s o))
digests_drawn None None None h = skip (skip (skip done))
digests_drawn None None (Some o) h = here (encode_lower o) (hex_carried o h.0.1) (skip (skip done))
digests_drawn None (Some s) None h = skip (here (encode_lower s) (hex_carried s h.0.1) (skip done))
digests_drawn None (Some s) (Some o) h = here (encode_lower o) (hex_carried o h.1.0.1) (here (encode_lower s) (hex_carried s h.0.1) (skip done))
digests_drawn (Some n) None None h = skip (skip (here (base32 n) (base32_carried n) done))
digests_drawn (Some n) None (Some o) h = here (encode_lower o) (hex_carried o h.1.0.1) (skip (here (base32 n) (base32_carried n) done))
digests_drawn (Some n) (Some s) None h = skip (here (encode_lower s) (hex_carried s h.1.0.1) (here (base32 n) (base32_carried n) done))
digests_drawn (Some n) (Some s) (Some o) h =
    here (encode_lower o) (hex_carried o h.1.1.0.1) (here (encode_lower s) (hex_carried s h.1.0.1) (here (base32 n) (base32_carried n) done))

one_digests : (ds : List DigestName) → Drawn (codes "sha1new" ∷ codes "sha256" ∷ codes "sha256new" ∷ []) (digest_attrs ds) → Each (CanStand 2) (digests_elems ds)
unfolding digests_elems is_plain_name is_digit
one_digests [] h = tt
one_digests (x ∷ ds) h = (elem_stands 2 (codes "manifest-digest") (digest_attrs (x ∷ ds)) [] refl refl h refl tt, tt)

digests_stand : (o : Option (List ℕ)) (id : List ℕ) (ds : List DigestName) → HasDigests o id ds → Each (CanStand 2) (digests_elems ds)
unfolding digests_elems
digests_stand None id ds h =
    let P : List DigestName → Type 0 = λ v. Each (CanStand 2) (digests_elems v) in
    subst P (sym h.are) (one_digests (three h.new h.middle h.old) (digests_drawn h.new h.middle h.old h.whole))
digests_stand (Some name) id ds h =
    let P : List DigestName → Type 0 = λ v. Each (CanStand 2) (digests_elems v) in
    subst P (sym h) tt

-- Selections.

selection_stands : (x : Selection) → IsProperItem x → IsCarriedItem x → CanStand 1 (selection_elem x)
unfolding selection_elem selection_attrs is_plain_name is_digit
selection_stands x h c =
    let gs = digests_elems x.digests in
    let bs = map binding_elem x.bindings in
    let ds = map dep_elem x.deps in
    let cs = map command_elem x.commands in
    elem_stands 1 (codes "selection") _ (gs ++ bs ++ ds ++ cs) refl refl
    (drawn_both
    (drawn_both
    (drawn_both
    (drawn_both
    (drawn_both
    (drawn_both (here {n = codes "interface"} x.interface c.interface (here {n = codes "id"} x.id c.id (here {n = codes "version"} x.version c.version done)))
    (drawn_unless x.interface (codes "from-feed") x.from_feed c.from_feed))
    (drawn_of (codes "package") x.«package» c.named))
    (drawn_of (codes "local-path") x.local c.local))
    (drawn_of (codes "arch") x.arch c.arch))
    (drawn_of (codes "released") x.released c.released))
    (drawn_of (codes "stability") x.stability c.stability)) refl
    (each_append (CanStand 2) (gs ++ bs ++ ds) cs
    (each_append (CanStand 2) (gs ++ bs) ds (each_append (CanStand 2) gs bs (digests_stand x.«package» x.id x.digests h.digests) (bindings_stand 2 refl x.bindings h.bindings c.bindings))
    (each_made 2 dep_elem IsProperDep IsCarriedDep (dep_stands 2 refl refl) x.deps h.deps c.deps))
    (each_made 2 command_elem IsProperCommand IsCarriedCommand command_stands x.commands h.commands c.commands))

pub tree_stands : (s : Selections) → IsCarried s.interface → IsCarriedOr s.command → Each IsProperItem s.items → Each IsCarriedItem s.items → first_amiss (tree s) ≡ None
unfolding tree is_plain_name is_digit
tree_stands s i k h c =
    none_amiss (tree s)
    (elem_stands 0 (codes "selections") _ (map selection_elem s.items) refl refl (drawn_both (drawn_one (codes "interface") s.interface i) (drawn_of (codes "command") s.command k)) refl
    (each_made 1 selection_elem IsProperItem IsCarriedItem selection_stands s.items h c))
