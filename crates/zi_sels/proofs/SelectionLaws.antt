-- One selection: its parts, its fault and its value.
use Rattle.std.proofs.Common.{◌≡◌, ℕ, Bool, true, false, List, [], ◌∷◌, ◌++◌, map, Option, Some, None, Result, Ok, Err, IfOk, refl, sym, ap, ◌∙◌, append_assoc}
use Rattle.std.specs.Prelude.{codes, filter, option_map, unwrap_or, if◌then◌else◌}
use Rattle.std.specs.List.{flat_map}
use Rattle.std.proofs.lemmas.Grind.{flat_map-append}
use Rattle.std.proofs.lemmas.List.Folds.{flat_map-map}
use Rattle.zi_digest.specs.declared.DigestName.{DigestName}
use Rattle.zi_elements.specs.Forest.{Elem, elements, attribute, value}
use Rattle.zi_reading.specs.Ways.{AsWritten}
use Rattle.zi_reading.specs.Words.{optional}
use Rattle.zi_parts.specs.Digests.{digest_of, said_digests}
use Rattle.zi_parts.specs.Values.{binding_of, dep_of, command_of}
use Rattle.zi_reading.specs.Reading.{is_unclear}
use Rattle.zi_faults.specs.Faults.{fault_at, least, lesser_of}
use Rattle.zi_feed.specs.Feeds.{part_fault}
use Rattle.zi_feed.specs.IdLaws.{both_empty, least_none}
use Rattle.zi_parts.specs.declared.types.Binding.{Binding}
use Rattle.zi_parts.specs.declared.types.Command.{Command}
use Rattle.zi_parts.specs.declared.types.Dep.{Dep}
use Rattle.zi_faults.specs.declared.fault.Fault.{Fault}
use Rattle.zi_faults.specs.declared.fault.FeedFault.{FeedFault}
use Rattle.zi_faults.specs.declared.fault.FeedFault.TheVariants.{Bad}
use Rattle.zi_feed.specs.Means.{Reads, counts_as, counts_as_binding}
use Rattle.zi_faults.specs.declared.fault.FeedKind.TheVariants.{BadRange, BadPart}
use Rattle.zi_faults.proofs.LeastLaws.{lesser_assoc, lesser_none, least_append}
use Rattle.zi_sels.specs.declared.selecting.Parts.{Parts}
use Rattle.zi_sels.specs.declared.types.Selection.{Selection}
use Rattle.zi_sels.specs.Read.{counting, bindings_in, is_package, digests_in, id_digest, said_in, in_order_of_use, selection_of}
use Rattle.zi_sels.specs.Notes.{right, faults_of, AreRead}
use Rattle.zi_sels.specs.Refused.{parts_in, second_commands, own_kind, selection_fault}
use Rattle.zi_sels.specs.Parts.{selection_with, AreDigestsOf, ArePartsOf}
use Rattle.zi_sels.proofs.NoteLaws.{neither, all_right, read_among}

faults_append : (es fs : List Elem) → faults_of part_fault (es ++ fs) ≡ faults_of part_fault es ++ faults_of part_fault fs
faults_append es fs = flat_map-append (λ c. optional (part_fault c)) es fs

least_both : (es fs : List Elem) → least (faults_of part_fault (es ++ fs)) ≡ lesser_of (least (faults_of part_fault es)) (least (faults_of part_fault fs))
least_both es fs = ap least (faults_append es fs) ∙ least_append (faults_of part_fault es) (faults_of part_fault fs)

-- the first of all faults, kind of part by kind of part
chain : (a b c d : List Elem) (f0 f1 f2 f3 f4 : Option Fault)
    → f1 ≡ lesser_of f0 (least (faults_of part_fault a)) → f2 ≡ lesser_of f1 (least (faults_of part_fault b))
    → f3 ≡ lesser_of f2 (least (faults_of part_fault c)) → f4 ≡ lesser_of f3 (least (faults_of part_fault d))
    → f4 ≡ lesser_of f0 (least (faults_of part_fault (a ++ b ++ c ++ d)))
chain a b c d f0 f1 f2 f3 f4 p q r s =
    let la : Option Fault = least (faults_of part_fault a) in
    let lb : Option Fault = least (faults_of part_fault b) in
    let lc : Option Fault = least (faults_of part_fault c) in
    let ld : Option Fault = least (faults_of part_fault d) in
    let two : f2 ≡ lesser_of f0 (least (faults_of part_fault (a ++ b))) =
    q ∙ (ap (λ v. lesser_of v lb) p ∙ (lesser_assoc f0 la lb ∙ ap (lesser_of f0) (sym (least_both a b)))) in
    let three : f3 ≡ lesser_of f0 (least (faults_of part_fault (a ++ b ++ c))) =
    r ∙ (ap (λ v. lesser_of v lc) two ∙ (lesser_assoc f0 (least (faults_of part_fault (a ++ b))) lc ∙ ap (lesser_of f0) (sym (least_both (a ++ b) c)))) in
    s ∙ (ap (λ v. lesser_of v ld) three ∙ (lesser_assoc f0 (least (faults_of part_fault (a ++ b ++ c))) ld ∙ ap (lesser_of f0) (sym (least_both (a ++ b ++ c) d))))

-- what is read of digests: nothing of those of a package
pub digests_none : (e : Elem) (digests : List DigestName) (fault : Option Fault) → is_package e ≡ true → digests ≡ [] → AreDigestsOf e fault digests fault
digests_none e digests fault h none = record {
  digests = none ∙ ap (λ (b : Bool). in_order_of_use (flat_map said_digests (right part_fault (if b then [] else counting (codes "manifest-digest") e)) ++ (if b then [] else optional (digest_of (value (codes "id") e))))) (sym h);
  first = sym (lesser_none fault) ∙ ap (λ (b : Bool). lesser_of fault (least (faults_of part_fault (if b then [] else counting (codes "manifest-digest") e)))) (sym h);
}

digests_some : (e : Elem) (es : List Elem) (said : List (List DigestName)) (id : List ℕ) (digests : List DigestName) (fault now : Option Fault) → is_package e ≡ false → es ≡ elements e.inside
    → AreRead part_fault said_digests (filter (counts_as (codes "manifest-digest")) es) [] fault said now
    → id ≡ value (codes "id") e
    → digests ≡ in_order_of_use (flat_map (λ ds. ds) said ++ optional (digest_of id))
    → AreDigestsOf e fault digests now
digests_some e es said id digests fault now h is read named given =
    let m = read_among part_fault said_digests (counts_as (codes "manifest-digest")) es (elements e.inside) [] said fault now is read in record {
      digests =
          given
          ∙ (ap (λ v. in_order_of_use (flat_map (λ ds. ds) said ++ optional (digest_of v))) named
          ∙ (ap (λ v. in_order_of_use (v ++ optional (digest_of (value (codes "id") e))))
          (ap (flat_map (λ ds. ds)) m.values ∙ flat_map-map (λ ds. ds) said_digests (right part_fault (counting (codes "manifest-digest") e)))
          ∙ ap (λ (b : Bool). in_order_of_use (flat_map said_digests (right part_fault (if b then [] else counting (codes "manifest-digest") e)) ++ (if b then [] else optional (digest_of (value (codes "id") e))))) (sym h)));
      first = m.first ∙ ap (λ (b : Bool). lesser_of fault (least (faults_of part_fault (if b then [] else counting (codes "manifest-digest") e)))) (sym h);
    }

pub digests_given : {X : Type 0} (e : Elem) (es : List Elem) (said names : List (List DigestName)) (id : List ℕ) (fault now : Option Fault) (r : Result (List DigestName) X) → is_package e ≡ false
    → es ≡ elements e.inside → AreRead part_fault said_digests (filter (counts_as (codes "manifest-digest")) es) [] fault said now
    → id ≡ value (codes "id") e → names ≡ said
    → IfOk r (λ ds. ds ≡ in_order_of_use (flat_map (λ ds. ds) names ++ optional (digest_of id))) → IfOk r (λ ds. AreDigestsOf e fault ds now)
digests_given e es said names id fault now (Ok ds) h is read named told given =
    digests_some e es said id ds fault now h is read named (given ∙ ap (λ v. in_order_of_use (flat_map (λ ds. ds) v ++ optional (digest_of id))) told)
digests_given e es said names id fault now (Err x) h is read named told given = tt

-- what was read kind by kind
pub four_read : (e : Elem) (parts : Parts) (f0 f1 f2 f3 f4 : Option Fault)
    → AreRead part_fault binding_of (bindings_in e) [] f0 parts.bindings f1
    → AreRead part_fault (dep_of AsWritten) (counting (codes "requires") e) [] f1 parts.deps f2
    → AreRead part_fault (command_of AsWritten) (counting (codes "command") e) [] f2 parts.commands f3
    → AreDigestsOf e f3 parts.digests f4
    → ArePartsOf e f0 parts f4
four_read e parts f0 f1 f2 f3 f4 b r k m = record {
  bindings = b.values;
  deps = r.values;
  commands = k.values;
  digests = m.digests;
  first = chain (bindings_in e) (counting (codes "requires") e) (counting (codes "command") e) (digests_in e) f0 f1 f2 f3 f4 b.first r.first k.first m.first;
}

-- the same, where the elements in it are known by another name
pub four_among : (e : Elem) (es : List Elem) (parts : Parts) (f0 f1 f2 f3 f4 : Option Fault) → es ≡ elements e.inside
    → AreRead part_fault binding_of (filter counts_as_binding es) [] f0 parts.bindings f1
    → AreRead part_fault (dep_of AsWritten) (filter (counts_as (codes "requires")) es) [] f1 parts.deps f2
    → AreRead part_fault (command_of AsWritten) (filter (counts_as (codes "command")) es) [] f2 parts.commands f3
    → AreDigestsOf e f3 parts.digests f4
    → ArePartsOf e f0 parts f4
four_among e es parts f0 f1 f2 f3 f4 is b r k m =
    four_read e parts f0 f1 f2 f3 f4
    (read_among part_fault binding_of counts_as_binding es (elements e.inside) [] parts.bindings f0 f1 is b)
    (read_among part_fault (dep_of AsWritten) (counts_as (codes "requires")) es (elements e.inside) [] parts.deps f1 f2 is r)
    (read_among part_fault (command_of AsWritten) (counts_as (codes "command")) es (elements e.inside) [] parts.commands f2 f3 is k)
    m

-- a condition that is no expression
pub unclear_fault : (e : Elem) → is_unclear e ≡ true → selection_fault e ≡ Some (fault_at e BadRange)
unfolding selection_fault
unclear_fault e h = rw h refl

least_optional : (o : Option Fault) → least (optional o) ≡ o
least_optional None = refl
least_optional (Some f) = refl

-- the first of the faults of a selection
pub fault_is : (e : Elem) (own second start now : Option Fault) (parts : Parts) → is_unclear e ≡ false → own ≡ option_map (fault_at e) (own_kind e)
    → second ≡ least (map (λ c. fault_at c BadPart) (second_commands e)) → start ≡ lesser_of own second → ArePartsOf e start parts now → now ≡ selection_fault e
unfolding selection_fault
fault_is e own second start now parts h p q r parted =
    let a : List Fault = optional (option_map (fault_at e) (own_kind e)) in
    let b : List Fault = map (λ c. fault_at c BadPart) (second_commands e) in
    let c : List Fault = faults_of part_fault (parts_in e) in
    let begun : start ≡ least (a ++ b) =
    r ∙ (ap (λ v. lesser_of v second) (p ∙ sym (least_optional (option_map (fault_at e) (own_kind e))))
    ∙ (ap (lesser_of (least a)) q ∙ sym (least_append a b))) in
    parted.first ∙ (ap (λ v. lesser_of v (least c)) begun ∙ (sym (least_append (a ++ b) c) ∙ sym (otherwise (is_unclear e) (Some (fault_at e BadRange)) (least (a ++ b ++ c)) h)))
  where
    otherwise : (b : Bool) (x y : Option Fault) → b ≡ false → (if b then x else y) ≡ y
    otherwise b x y h = ap (λ v. if v then x else y) h

-- the value of a selection whose parts have no fault
pub value_is : (e : Elem) (start : Option Fault) (parts : Parts) → ArePartsOf e start parts None → selection_with e parts ≡ selection_of e
unfolding selection_of
value_is e start parts parted =
    let bs : List Elem = bindings_in e in
    let rs : List Elem = counting (codes "requires") e in
    let ks : List Elem = counting (codes "command") e in
    let ms : List Elem = digests_in e in
    let none : faults_of part_fault (bs ++ rs ++ ks ++ ms) ≡ [] = least_none _ (neither start (least (faults_of part_fault (bs ++ rs ++ ks ++ ms))) (sym parted.first)).1 in
    let m : (faults_of part_fault (bs ++ rs ++ ks) ≡ []) × (faults_of part_fault ms ≡ []) = both_empty _ _ (sym (faults_append (bs ++ rs ++ ks) ms) ∙ none) in
    let k : (faults_of part_fault (bs ++ rs) ≡ []) × (faults_of part_fault ks ≡ []) = both_empty _ _ (sym (faults_append (bs ++ rs) ks) ∙ m.0) in
    let r : (faults_of part_fault bs ≡ []) × (faults_of part_fault rs ≡ []) = both_empty _ _ (sym (faults_append bs rs) ∙ k.0) in
    joined e parts.digests (in_order_of_use (said_in e)) parts.deps (map (dep_of AsWritten) rs) parts.commands (map (command_of AsWritten) ks) parts.bindings (map binding_of bs)
    (parted.digests ∙ ap (λ v. in_order_of_use (flat_map said_digests v ++ id_digest e)) (all_right part_fault ms m.1))
    (parted.deps ∙ ap (map (dep_of AsWritten)) (all_right part_fault rs r.1))
    (parted.commands ∙ ap (map (command_of AsWritten)) (all_right part_fault ks k.1))
    (parted.bindings ∙ ap (map binding_of) (all_right part_fault bs r.0))
  where
    joined : (e : Elem) (a b : List DigestName) (c d : List Dep) (f g : List Command) (h i : List Binding) → a ≡ b → c ≡ d → f ≡ g → h ≡ i
        → selection_with e (record { digests = a; deps = c; commands = f; bindings = h }) ≡ selection_with e (record { digests = b; deps = d; commands = g; bindings = i })
    joined e a b c d f g h i p q r s =
        ap (λ v. selection_with e (record { digests = v; deps = c; commands = f; bindings = h })) p
        ∙ (ap (λ v. selection_with e (record { digests = b; deps = v; commands = f; bindings = h })) q
        ∙ (ap (λ v. selection_with e (record { digests = b; deps = d; commands = v; bindings = h })) r
        ∙ ap (λ v. selection_with e (record { digests = b; deps = d; commands = g; bindings = v })) s))

pub value_when : (e : Elem) (start now : Option Fault) (parts : Parts) → ArePartsOf e start parts now → now ≡ None → selection_with e parts ≡ selection_of e
value_when e start None parts parted h = value_is e start parts parted
value_when e start (Some f) parts parted h = absurd (cc h)

-- the answer of a fault
pub answers_bad : (found : Option Fault) (value : Selection) (answer : FeedFault) (f : Fault) → answer ≡ Bad f.kind f.place → found ≡ Some f → Reads found value (Err answer)
answers_bad found value answer f is at = rw (is, at) refl
