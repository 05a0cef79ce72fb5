-- The implementations of the rows of a table of packages can be carried, where the rows are right: their items are ASCII.
use Rattle.std.proofs.Common.{◌≡◌, ℕ, Bool, true, false, ◌==◌, ◌||◌, List, [], ◌∷◌, ◌++◌, Some, None, codes, refl, sym, subst, arith}
use Rattle.std.specs.Prelude.{not, bytes_eq, length, if◌then◌else◌}
use Rattle.std.specs.List.{list_all}
use Rattle.std.proofs.lemmas.Bool.{and_from, and_parts}
use Rattle.std.proofs.lemmas.Bool.Decides.{nat_tests}
use Rattle.std.proofs.lemmas.Slice.Eq.{bytes_eq-Decides}
use Rattle.zi_version.specs.Range.{a_version}
use Rattle.zi_parts.specs.declared.types.Impl.{Impl}
use Rattle.zi_parts.specs.declared.types.Native.{Native}
use Rattle.zi_packages.specs.declared.types.Packages.{Packages}
use Rattle.zi_packages.specs.declared.types.PackageRow.{PackageRow}
use Rattle.zi_packages.specs.Table.{is_word_byte, is_name_byte, is_filled, is_name, is_machine, version_of}
use Rattle.zi_packages.specs.Natives.{row_id, row_impl, made_of, offered_rows, with_rows}
use Rattle.zi_doc_laws.specs.Trees.{IsCarried}
use Rattle.zi_doc_laws.proofs.CarriedLaws.{both_carried}
use Rattle.zi_sels_laws.specs.Rows.{IsRightRow, HasRightRows}
use Rattle.zi_sels_laws.proofs.LikeLaws.{Each}
use Rattle.zi_sels_laws.proofs.FreeLaws.{each_flat}
use Rattle.zi_sels_laws.proofs.EachLaws.{all_each}
use Rattle.zi_sels_laws.proofs.NativeLaws.{made_so, new_so}
use Rattle.zi_written_laws.proofs.TextLaws.{is_shown, shown_carried}
use Rattle.zi_written_laws.proofs.ImplLaws.{IsCarriedImpl, IsCarriedNative}

all_shown : (test : ℕ → Bool) → ((c : ℕ) → test c ≡ true → is_shown c ≡ true) → (t : List ℕ) → list_all test t ≡ true → list_all is_shown t ≡ true
all_shown test one [] h = refl
all_shown test one (c ∷ t) h =
    let x = and_parts (test c) (list_all test t) h in and_from (is_shown c) (list_all is_shown t) (one c x.0) (all_shown test one t x.1)

word_shown : (c : ℕ) → is_word_byte c ≡ true → is_shown c ≡ true
word_shown c h = grind (arith, nat_tests)

name_shown : (c : ℕ) → is_name_byte c ≡ true → is_shown c ≡ true
name_shown c h = grind (arith, nat_tests)

filled_carried : (test : ℕ → Bool) → ((c : ℕ) → test c ≡ true → is_shown c ≡ true) → (t : List ℕ) → is_filled test t ≡ true → IsCarried t
filled_carried test one t h = shown_carried t (all_shown test one t (and_parts (not (length t == 0)) (list_all test t) h).1)

name_carried : (t : List ℕ) → is_name t ≡ true → IsCarried t
unfolding is_name
name_carried t h = filled_carried is_name_byte name_shown t h

machine_carried : (t : List ℕ) → is_machine t ≡ true → IsCarried t
unfolding is_machine
machine_carried t h = by (bytes_eq t (codes "*")) refl h
  where
    by : (b : Bool) → bytes_eq t (codes "*") ≡ b → (b || is_filled is_word_byte t) ≡ true → IsCarried t
    by true is k = subst IsCarried (sym ((bytes_eq-Decides t (codes "*")).0 is)) (shown_carried (codes "*") refl)
    by false is k = filled_carried is_word_byte word_shown t k

version_carried : (t : List ℕ) → version_of t ≡ Some t → IsCarried t
version_carried t h = by (is_name t) refl h
  where
    by : (b : Bool) → is_name t ≡ b → (if b then a_version t else None) ≡ Some t → IsCarried t
    by true is k = name_carried t is
    by false is k = absurd (cc k)

row_carried : (n : Native) (r : PackageRow) → IsCarriedNative n → IsRightRow r → IsCarriedImpl (row_impl n r)
unfolding row_impl row_id
row_carried n r h k =
    let colon : IsCarried (codes ":") = shown_carried (codes ":") refl in
    let name = name_carried r.«package» k.name in
    let version = version_carried r.version k.version in
    let machine = machine_carried r.machine k.machine in record {
      id = both_carried (codes "package:") (r.«package» ++ 58 ∷ (r.version ++ 58 ∷ r.machine)) (shown_carried (codes "package:") refl)
          (both_carried r.«package» (58 ∷ (r.version ++ 58 ∷ r.machine)) name
          (both_carried (codes ":") (r.version ++ 58 ∷ r.machine) colon (both_carried r.version (58 ∷ r.machine) version (both_carried (codes ":") r.machine colon machine))));
      version = version;
      arch = (shown_carried (codes "*") refl, machine);
      released = h.released;
      named = name;
      local = tt;
      deps = h.deps;
      commands = h.commands;
      bindings = h.bindings;
    }

-- implementations and those of the rows of packages
pub rows_carried : (t : Packages) (is : List Impl) (ns : List Native) → HasRightRows t → Each IsCarriedImpl is → Each IsCarriedNative ns → Each IsCarriedImpl (with_rows t is ns)
unfolding with_rows
rows_carried t is ns right h k =
    new_so IsCarriedImpl is (offered_rows t ns) h
    (each_flat IsCarriedImpl (made_of t) IsCarriedNative (λ n g. made_so IsCarriedImpl IsRightRow t n (λ r q. row_carried n r g q) (all_each IsRightRow t.rows right)) ns k)
