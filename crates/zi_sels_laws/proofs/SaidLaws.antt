-- What is read of a selection without a fault: one as it may be written.
use Rattle.std.proofs.Common.{◌≡◌, ℕ, Bool, true, false, cond, ◌&&◌, List, [], ◌∷◌, ◌++◌, map, Option, Some, None, codes, refl, sym, ap, subst, ◌∙◌}
use Rattle.std.specs.Prelude.{not, filter, is_some, option_map, option_and_then, unwrap_or, if◌then◌else◌}
use Rattle.std.specs.Option.{option_or}
use Rattle.std.specs.List.{find, filter_map, cons_option, flat_map, list_any}
use Rattle.std.proofs.lemmas.List.Folds.{find-append}
use Rattle.std.proofs.lemmas.Bool.{and_parts, not-true, not-false}
use Rattle.zi_elements.specs.Forest.{Elem, elements, attribute, has, lacks, value}
use Rattle.zi_digest.specs.Name.{IsDigest}
use Rattle.zi_digest.specs.declared.Algorithm.{Algorithm}
use Rattle.zi_digest.specs.declared.Algorithm.TheVariants.{Sha1new, Sha256, Sha256new}
use Rattle.zi_digest.specs.declared.DigestName.{DigestName}
use Rattle.zi_digest.specs.declared.DigestName.TheVariants as digest
use Rattle.zi_address.specs.Texts.{same, is_none}
use Rattle.zi_reading.specs.Ways.{AsWritten}
use Rattle.zi_reading.specs.Words.{is_among, optional, is_wrong, is_amiss, repeated, repeated_after}
use Rattle.zi_reading.specs.Forms.{is_version}
use Rattle.zi_parts.specs.Values.{importance_of, binding_of, dep_of, command_of}
use Rattle.zi_address.specs.Address.{is_local}
use Rattle.zi_parts.specs.Digests.{digest_of, digest_by, attribute_by, front_by, algorithms, said_digest, said_digests}
use Rattle.zi_reading.specs.Reading.{is, is_ours, is_unclear, is_left_out, binding_names}
use Rattle.zi_feed.specs.Means.{counts_as, counts_as_binding}
use Rattle.zi_faults.specs.Faults.{share, fault_at, least, is_bad_environment, is_bad_for_each}
use Rattle.zi_feed.specs.Feeds.{part_fault}
use Rattle.zi_faults.specs.declared.fault.Fault.{Fault}
use Rattle.zi_faults.specs.declared.fault.FeedKind.TheVariants.{NoId, BadVersion, BadRange, BadPart, NoInterface, BadAddress}
use Rattle.zi_parts.proofs.DigestLaws.{digest_is}
use Rattle.zi_sels.specs.Written.{is_by}
use Rattle.zi_sels.specs.Read.{counting, bindings_in, is_package, digests_in, in_order_of_use, selection_of}
use Rattle.zi_sels.specs.Notes.{faults_of}
use Rattle.zi_sels.specs.Refused.{has_bad_local, own_kind, parts_in, second_commands, selection_fault}
use Rattle.zi_sels_laws.proofs.LikeLaws.{Each, each_append, each_both}
use Rattle.zi_sels_laws.proofs.FieldLaws.{app}
use Rattle.zi_sels_laws.proofs.BindingLaws.{IsProperBinding}
use Rattle.zi_sels_laws.proofs.DepLaws.{IsProperDep}
use Rattle.zi_sels_laws.proofs.CommandLaws.{IsProperCommand}
use Rattle.zi_sels_laws.proofs.DigestsLaws.{AreProper, three, used_are, first_said}
use Rattle.zi_sels_laws.proofs.ItemLaws.{IsPackage, HasPath, HasDigests, IsProperItem, AreNamed, any_shares}
use Rattle.zi_sels_laws.proofs.FreeLaws.{empty_optional, empty_option, each_filter, each_weak, each_map, each_front, each_true, IsRight, part_right, right_part, right_clear}
use Rattle.zi_sels_laws.proofs.SoundLaws.{is_name, is_of_name, second_cause, binding_sound, dep_sound, command_sound}
use Rattle.zi_feed.specs.IdLaws.{least_none, both_empty, map_nil}

-- Parts without a fault.

each_right : (es : List Elem) → faults_of part_fault es ≡ [] → Each (IsRight AsWritten) es
each_right [] h = tt
each_right (e ∷ es) h =
    let b = both_empty (optional (part_fault e)) (faults_of part_fault es) h in
    (part_right e (empty_option (part_fault e) b.0), each_right es b.1)

-- an element that counts, and has no fault
pub record IsCounted (name : List ℕ) (c : Elem) : Type 0 where
  pub right : IsRight AsWritten c
  pub ours : is_ours c ≡ true
  pub named : c.name ≡ name

pub counted : (name : List ℕ) (c : Elem) → IsRight AsWritten c → counts_as name c ≡ true → IsCounted name c
counted name c h k =
    let n = is_name name c (and_parts (is name c) (not (is_left_out c)) k).0 in
    record { right = h; ours = n.0; named = n.1 }

-- those that pass a test pass it
passed : {A : Type 0} (test : A → Bool) (xs : List A) → Each (λ x. test x ≡ true) (filter test xs)
passed test xs = each_weak (λ x. Unit {0} × (test x ≡ true)) (λ x. test x ≡ true) (λ x h. h.1) (filter test xs) (each_filter (λ x. Unit {0}) test xs (each_true xs))

all_counted : (name : List ℕ) (es : List Elem) → Each (IsRight AsWritten) (filter (counts_as name) es) → Each (IsCounted name) (filter (counts_as name) es)
all_counted name es h =
    each_weak (λ c. IsRight AsWritten c × (counts_as name c ≡ true)) (IsCounted name) (λ c k. counted name c k.0 k.1) (filter (counts_as name) es)
    (each_both (IsRight AsWritten) (λ c. counts_as name c ≡ true) (filter (counts_as name) es) h (passed (counts_as name) es))

binding_counted : (c : Elem) → IsRight AsWritten c → counts_as_binding c ≡ true → IsProperBinding (binding_of c)
binding_counted c h k = by (is_ours c) (is_among binding_names c.name) (not (is_left_out c)) refl refl k
  where
    by : (a b d : Bool) → is_ours c ≡ a → is_among binding_names c.name ≡ b → (a && b && d) ≡ true → IsProperBinding (binding_of c)
    by true true d p q e = binding_sound c p (right_part AsWritten c h) q
    by true false d p q e = absurd (cc e)
    by false b d p q e = absurd (cc e)

-- Names of commands.

command_named : (c : Elem) → IsCounted (codes "command") c → attribute (codes "name") c ≡ Some (value (codes "name") c)
command_named c h = there (attribute (codes "name") c) (not_lacking (has (codes "name") c) lacking)
  where
    lacking : (not (has (codes "name") c)) ≡ false
    lacking = sym (ap (λ b. b && not (has (codes "name") c)) (is_of_name (codes "command") c h.ours h.named)) ∙ second_cause (is (codes "environment") c && is_bad_environment c) (is (codes "command") c && lacks (codes "name") c) (is (codes "for-each") c && is_bad_for_each c)
        (is (codes "requires") c && is_wrong (λ t. is_some (importance_of t)) (attribute (codes "importance") c)) (right_part AsWritten c h.right)

    not_lacking : (b : Bool) → not b ≡ false → b ≡ true
    not_lacking true k = refl
    not_lacking false k = absurd (cc k)

    there : (o : Option (List ℕ)) → is_some o ≡ true → o ≡ Some (unwrap_or o [])
    there None k = absurd (cc k)
    there (Some x) k = refl

names_apart : (before : List (List ℕ)) (seen : List Elem) (ns : List (List ℕ)) (rs : List Elem) → AreNamed before seen → AreNamed ns rs → repeated_after (share (codes "name")) seen rs ≡ []
    → repeated_after same before ns ≡ []
names_apart before seen [] [] h k none = refl
names_apart before seen [] (r ∷ rs) h k none = absurd k
names_apart before seen (n ∷ ns) [] h k none = absurd k
names_apart before seen (n ∷ ns) (r ∷ rs) h k none =
    ap (λ b. if b then n ∷ repeated_after same (n ∷ before) ns else repeated_after same (n ∷ before) ns) (sym (any_shares n r k.0 before seen h))
    ∙ either (list_any (share (codes "name") r) seen) none (names_apart (n ∷ before) (r ∷ seen) ns rs (k.0, h) k.1)
  where
    either : (b : Bool) → (if b then r ∷ repeated_after (share (codes "name")) (r ∷ seen) rs else repeated_after (share (codes "name")) (r ∷ seen) rs) ≡ []
        → (repeated_after (share (codes "name")) (r ∷ seen) rs ≡ [] → repeated_after same (n ∷ before) ns ≡ [])
        → (if b then n ∷ repeated_after same (n ∷ before) ns else repeated_after same (n ∷ before) ns) ≡ []
    either true e more = absurd (cc e)
    either false e more = more e

read_named : (cs : List Elem) → Each (IsCounted (codes "command")) cs → AreNamed (map (λ c. c.name) (map (command_of AsWritten) cs)) cs
unfolding command_of
read_named [] h = tt
read_named (c ∷ cs) h = (command_named c h.0, read_named cs h.1)

stay_clear : (cs : List Elem) → Each (IsCounted (codes "command")) cs → filter (λ c. not (is_unclear c)) cs ≡ cs
stay_clear [] h = refl
stay_clear (c ∷ cs) h =
    ap (λ b. cond (not b) (c ∷ filter (λ d. not (is_unclear d)) cs) (filter (λ d. not (is_unclear d)) cs)) (right_clear AsWritten c h.0.right) ∙ ap (λ v. c ∷ v) (stay_clear cs h.1)

-- Digests.

by_algorithm : (a : Algorithm) (text : List ℕ) (n : DigestName) → digest_by a text ≡ Some n → IsDigest n
by_algorithm a text n h = (digest_is (front_by a ++ text) n h).0

then_digest : (a : Algorithm) (o : Option (List ℕ)) → Each IsDigest (optional (option_and_then (digest_by a) o))
then_digest a None = tt
then_digest a (Some t) = either (digest_by a t) refl
  where
    either : (r : Option DigestName) → digest_by a t ≡ r → Each IsDigest (optional r)
    either None h = tt
    either (Some n) h = (by_algorithm a t n h, tt)

pub each_found : (h : Algorithm → Option DigestName) (some : List Algorithm) → ((a : Algorithm) → Each IsDigest (optional (h a))) → Each IsDigest (filter_map h some)
each_found h [] one = tt
each_found h (a ∷ some) one = either (h a) (filter_map h some) (one a) (each_found h some one)
  where
    either : (r : Option DigestName) (rest : List DigestName) → Each IsDigest (optional r) → Each IsDigest rest → Each IsDigest (cons_option r rest)
    either None rest x y = y
    either (Some n) rest x y = (x.0, y)

all_digests : (ms : List Elem) → Each IsDigest (flat_map said_digests ms)
unfolding said_digests
all_digests [] = tt
all_digests (m ∷ ms) =
    each_append IsDigest (filter_map (said_digest (m ∷ [])) algorithms) (flat_map said_digests ms) (each_found (said_digest (m ∷ [])) algorithms (λ a. subst (λ o. Each IsDigest (optional o)) (sym (first_said m a)) (then_digest a (attribute (attribute_by a) m)))) (all_digests ms)

id_digest : (id : List ℕ) → Each IsDigest (optional (digest_of id))
id_digest id = either (digest_of id) refl
  where
    either : (r : Option DigestName) → digest_of id ≡ r → Each IsDigest (optional r)
    either None h = tt
    either (Some n) h = ((digest_is id n h).0, tt)

found_digest : (test : DigestName → Bool) (ds : List DigestName) → Each IsDigest ds → Each IsDigest (optional (find test ds))
found_digest test [] h = tt
found_digest test (d ∷ ds) h = either (test d) (found_digest test ds h.1)
  where
    either : (b : Bool) → Each IsDigest (optional (find test ds)) → Each IsDigest (optional (cond b (Some d) (find test ds)))
    either true rest = (h.0, tt)
    either false rest = rest

-- the bytes of those by an algorithm
abbrev pub new_in : Option DigestName → Option (List ℕ)
new_in None = None
new_in (Some (digest.Sha256new b)) = Some b
new_in (Some (digest.Sha256 b)) = None
new_in (Some (digest.Sha1new b)) = None

abbrev pub middle_in : Option DigestName → Option (List ℕ)
middle_in None = None
middle_in (Some (digest.Sha256 b)) = Some b
middle_in (Some (digest.Sha256new b)) = None
middle_in (Some (digest.Sha1new b)) = None

abbrev pub old_in : Option DigestName → Option (List ℕ)
old_in None = None
old_in (Some (digest.Sha1new b)) = Some b
old_in (Some (digest.Sha256 b)) = None
old_in (Some (digest.Sha256new b)) = None

new_found : (ds : List DigestName) → find (is_by Sha256new) ds ≡ option_map (λ b. digest.Sha256new b) (new_in (find (is_by Sha256new) ds))
new_found [] = refl
new_found (digest.Sha256new b ∷ ds) = refl
new_found (digest.Sha256 b ∷ ds) = new_found ds
new_found (digest.Sha1new b ∷ ds) = new_found ds

middle_found : (ds : List DigestName) → find (is_by Sha256) ds ≡ option_map (λ b. digest.Sha256 b) (middle_in (find (is_by Sha256) ds))
middle_found [] = refl
middle_found (digest.Sha256 b ∷ ds) = refl
middle_found (digest.Sha256new b ∷ ds) = middle_found ds
middle_found (digest.Sha1new b ∷ ds) = middle_found ds

old_found : (ds : List DigestName) → find (is_by Sha1new) ds ≡ option_map (λ b. digest.Sha1new b) (old_in (find (is_by Sha1new) ds))
old_found [] = refl
old_found (digest.Sha1new b ∷ ds) = refl
old_found (digest.Sha256new b ∷ ds) = old_found ds
old_found (digest.Sha256 b ∷ ds) = old_found ds

used_three : (ds : List DigestName) → in_order_of_use ds ≡ three (new_in (find (is_by Sha256new) ds)) (middle_in (find (is_by Sha256) ds)) (old_in (find (is_by Sha1new) ds))
used_three ds =
    used_are ds
    ∙ app (ap {B = List DigestName → List DigestName} (λ x y. x ++ y) (ap optional (new_found ds)))
    (app (ap {B = List DigestName → List DigestName} (λ x y. x ++ y) (ap optional (middle_found ds))) (ap optional (old_found ds)))

-- what is found among three and more: that of the three, or what is found behind them
pub find_new : (n s o : Option (List ℕ)) (is : List DigestName) → find (is_by Sha256new) (three n s o ++ is) ≡ option_or (option_map (λ b. digest.Sha256new b) n) (find (is_by Sha256new) is)
find_new None None None is = refl
find_new None None (Some o) is = refl
find_new None (Some s) None is = refl
find_new None (Some s) (Some o) is = refl
find_new (Some n) s o is = refl

pub find_middle : (n s o : Option (List ℕ)) (is : List DigestName) → find (is_by Sha256) (three n s o ++ is) ≡ option_or (option_map (λ b. digest.Sha256 b) s) (find (is_by Sha256) is)
find_middle None None None is = refl
find_middle None None (Some o) is = refl
find_middle None (Some s) o is = refl
find_middle (Some n) None None is = refl
find_middle (Some n) None (Some o) is = refl
find_middle (Some n) (Some s) o is = refl

pub find_old : (n s o : Option (List ℕ)) (is : List DigestName) → find (is_by Sha1new) (three n s o ++ is) ≡ option_or (option_map (λ b. digest.Sha1new b) o) (find (is_by Sha1new) is)
find_old None None None is = refl
find_old None None (Some o) is = refl
find_old None (Some s) None is = refl
find_old None (Some s) (Some o) is = refl
find_old (Some n) None None is = refl
find_old (Some n) None (Some o) is = refl
find_old (Some n) (Some s) None is = refl
find_old (Some n) (Some s) (Some o) is = refl

pub or_again : {A : Type 0} (a b : Option A) → option_or (option_or a b) b ≡ option_or a b
or_again None None = refl
or_again None (Some y) = refl
or_again (Some x) b = refl

-- the first of all, and what stood last behind it once more
once_more : (test : DigestName → Bool) (all said is : List DigestName) (found : Option DigestName) → all ≡ said ++ is → found ≡ find test all → option_or found (find test is) ≡ find test all
once_more test all said is found h k =
    let split = ap (find test) h ∙ find-append test said is in
    ap (λ v. option_or v (find test is)) (k ∙ split) ∙ (or_again (find test said) (find test is) ∙ sym split)

proper_digests : (id : List ℕ) (said : List DigestName) → Each IsDigest said → AreProper id (in_order_of_use (said ++ optional (digest_of id)))
proper_digests id said h =
    let is = optional (digest_of id) in
    let all = said ++ is in
    let n = new_in (find (is_by Sha256new) all) in
    let s = middle_in (find (is_by Sha256) all) in
    let o = old_in (find (is_by Sha1new) all) in
    let each = each_append IsDigest said is h (id_digest id) in record {
      new = n;
      middle = s;
      old = o;
      are = used_three all;
      whole = each_append IsDigest (optional (option_map (λ b. digest.Sha256new b) n)) (optional (option_map (λ b. digest.Sha256 b) s) ++ optional (option_map (λ b. digest.Sha1new b) o))
          (subst (λ v. Each IsDigest (optional v)) (new_found all) (found_digest (is_by Sha256new) all each))
          (each_append IsDigest (optional (option_map (λ b. digest.Sha256 b) s)) (optional (option_map (λ b. digest.Sha1new b) o))
          (subst (λ v. Each IsDigest (optional v)) (middle_found all) (found_digest (is_by Sha256) all each))
          (subst (λ v. Each IsDigest (optional v)) (old_found all) (found_digest (is_by Sha1new) all each)));
      with_id = ap (λ v. in_order_of_use (v ++ is)) (used_three all)
          ∙ (used_are (three n s o ++ is)
          ∙ (app (ap {B = List DigestName → List DigestName} (λ x y. x ++ y)
          (ap optional (find_new n s o is ∙ once_more (is_by Sha256new) all said is (option_map (λ b. digest.Sha256new b) n) refl (sym (new_found all)))))
          (app (ap {B = List DigestName → List DigestName} (λ x y. x ++ y)
          (ap optional (find_middle n s o is ∙ once_more (is_by Sha256) all said is (option_map (λ b. digest.Sha256 b) s) refl (sym (middle_found all)))))
          (ap optional (find_old n s o is ∙ once_more (is_by Sha1new) all said is (option_map (λ b. digest.Sha1new b) o) refl (sym (old_found all)))))
          ∙ sym (used_are all)));
    }

-- A selection.

pub record HasOwn (e : Elem) : Type 0 where
  pub id : is_none (value (codes "id") e) ≡ false
  pub version : is_version (value (codes "version") e) ≡ true
  pub interface : has (codes "interface") e ≡ true
  pub local : has_bad_local e ≡ false

own_right : (e : Elem) → own_kind e ≡ None → HasOwn e
unfolding own_kind
own_right e h = by (is_none (value (codes "id") e)) (is_amiss is_version (attribute (codes "version") e)) (lacks (codes "interface") e) (has_bad_local e) refl refl refl refl h
  where
    there : (o : Option (List ℕ)) → is_amiss is_version o ≡ false → is_version (unwrap_or o []) ≡ true
    there None k = absurd (cc k)
    there (Some t) k = not-false (is_version t) k

    has_it : (b : Bool) → not b ≡ false → b ≡ true
    has_it true q = refl
    has_it false q = absurd (cc q)

    by : (a b c d : Bool) → is_none (value (codes "id") e) ≡ a → is_amiss is_version (attribute (codes "version") e) ≡ b → lacks (codes "interface") e ≡ c → has_bad_local e ≡ d
        → (if a then Some NoId else if b then Some BadVersion else if c then Some NoInterface else if d then Some BadAddress else None) ≡ None → HasOwn e
    by false false false false p q r s k = record { id = p; version = there (attribute (codes "version") e) q; interface = has_it (has (codes "interface") e) r; local = s }
    by true b c d p q r s k = absurd (cc k)
    by false true c d p q r s k = absurd (cc k)
    by false false true d p q r s k = absurd (cc k)
    by false false false true p q r s k = absurd (cc k)

-- what is known of a selection without a fault
pub record IsSound (e : Elem) : Type 0 where
  pub own : HasOwn e
  pub seconds : second_commands e ≡ []
  pub bindings : Each (IsRight AsWritten) (bindings_in e)
  pub deps : Each (IsCounted (codes "requires")) (counting (codes "requires") e)
  pub commands : Each (IsCounted (codes "command")) (counting (codes "command") e)

pub selection_sound : (e : Elem) → selection_fault e ≡ None → IsSound e
unfolding selection_fault
selection_sound e h =
    let kinds = optional (option_map (fault_at e) (own_kind e)) in
    let seconds = map (λ c. fault_at c BadPart) (second_commands e) in
    let faults = faults_of part_fault (parts_in e) in
    let all = least_none (kinds ++ seconds ++ faults) (clear (is_unclear e) (least (kinds ++ seconds ++ faults)) h) in
    let b = both_empty (kinds ++ seconds) faults all in
    let c = both_empty kinds seconds b.0 in
    let right = each_right (parts_in e) b.1 in
    let p3 = each_front (IsRight AsWritten) (bindings_in e ++ counting (codes "requires") e ++ counting (codes "command") e) (digests_in e) right in
    let p2 = each_front (IsRight AsWritten) (bindings_in e ++ counting (codes "requires") e) (counting (codes "command") e) p3.0 in
    let p1 = each_front (IsRight AsWritten) (bindings_in e) (counting (codes "requires") e) p2.0 in record {
      own = own_right e (empty_optional (fault_at e) (own_kind e) c.0);
      seconds = map_nil (λ c. fault_at c BadPart) (second_commands e) c.1;
      bindings = p1.0;
      deps = all_counted (codes "requires") (elements e.inside) p1.1;
      commands = all_counted (codes "command") (elements e.inside) p2.1;
    }
  where
    clear : (b : Bool) (o : Option Fault) → (if b then Some (fault_at e BadRange) else o) ≡ None → o ≡ None
    clear true o k = absurd (cc k)
    clear false o k = k

-- the package that is read, with the folder and the digests, of which it has none
said_package : (b : Bool) (o : Option (List ℕ)) → not (is_none (unwrap_or o [])) ≡ b → IsPackage (if b then o else None)
said_package false o h = tt
said_package true None h = absurd (cc h)
said_package true (Some name) h = not-true (is_none name) h

said_path : (b : Bool) (o l : Option (List ℕ)) → not (is_none (unwrap_or o [])) ≡ b → (not b && is_wrong is_local l) ≡ false → HasPath (if b then o else None) (if b then None else l)
said_path false o l h k = k
said_path true None l h k = absurd (cc h)
said_path true (Some name) l h k = refl

said_used : (b : Bool) (o : Option (List ℕ)) (id : List ℕ) (es : List Elem) → not (is_none (unwrap_or o [])) ≡ b
    → HasDigests (if b then o else None) id (in_order_of_use (flat_map said_digests (if b then [] else es) ++ (if b then [] else optional (digest_of id))))
said_used false o id es h = proper_digests id (flat_map said_digests es) (all_digests es)
said_used true None id es h = absurd (cc h)
said_used true (Some name) id es h = refl

pub item_proper : (e : Elem) → IsSound e → IsProperItem (selection_of e)
unfolding selection_of
item_proper e h = record {
  id = h.own.id;
  version = h.own.version;
  named = said_package (is_package e) (attribute (codes "package") e) refl;
  local = said_path (is_package e) (attribute (codes "package") e) (attribute (codes "local-path") e) refl h.own.local;
  digests = said_used (is_package e) (attribute (codes "package") e) (value (codes "id") e) (counting (codes "manifest-digest") e) refl;
  deps = each_map IsProperDep (dep_of AsWritten) (counting (codes "requires") e)
      (each_weak (IsCounted (codes "requires")) (λ c. IsProperDep (dep_of AsWritten c)) (λ c k. dep_sound c k.right k.ours k.named) (counting (codes "requires") e) h.deps);
  commands = each_map IsProperCommand (command_of AsWritten) (counting (codes "command") e)
      (each_weak (IsCounted (codes "command")) (λ c. IsProperCommand (command_of AsWritten c)) (λ c k. command_sound c k.right k.named) (counting (codes "command") e) h.commands);
  apart = names_apart [] [] (map (λ c. c.name) (map (command_of AsWritten) (counting (codes "command") e))) (counting (codes "command") e) tt (read_named (counting (codes "command") e) h.commands)
      (sym (ap (repeated (share (codes "name"))) (stay_clear (counting (codes "command") e) h.commands)) ∙ h.seconds);
  bindings = each_map IsProperBinding binding_of (bindings_in e)
      (each_weak (λ c. IsRight AsWritten c × (counts_as_binding c ≡ true)) (λ c. IsProperBinding (binding_of c)) (λ c k. binding_counted c k.0 k.1) (bindings_in e)
      (each_both (IsRight AsWritten) (λ c. counts_as_binding c ≡ true) (bindings_in e) h.bindings (passed counts_as_binding (elements e.inside))));
}
