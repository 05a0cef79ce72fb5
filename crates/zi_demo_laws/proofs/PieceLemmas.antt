-- What a version of the demonstration says of other interfaces, as it is read: what it means, and that nothing is wrong with it.
use Rattle.std.proofs.Common.{◌≡◌, ℕ, Bool, true, false, cond, List, [], ◌∷◌, ◌++◌, map, codes, None, refl, ap, ◌∙◌}
use Rattle.std.specs.Prelude.{not, filter}
use Rattle.std.specs.List.{AllZip}
use Rattle.zi_elements.specs.declared.element.Attr.{Attr}
use Rattle.zi_elements.specs.Forest.{Forest, none, Elem}
use Rattle.zi_elements.specs.Namespace.{injector}
use Rattle.zi_docout.specs.Elements.{attr}
use Rattle.zi_docout.specs.Same.{IsSame}
use Rattle.zi_version.specs.Range.{range_of}
use Rattle.zi_address.specs.Texts.{same}
use Rattle.zi_address.specs.Address.{resolved, placed}
use Rattle.zi_reading.specs.Ways.{InFeed}
use Rattle.zi_reading.specs.Words.{is_among, listed, optional}
use Rattle.zi_reading.specs.Forms.{is_expression}
use Rattle.zi_reading.specs.Reading.{is, is_unclear, is_left_out, is_unbuilt, is_closed, is_part, stands, read_in, parts, binding_names}
use Rattle.zi_parts.specs.declared.types.Dep.{Dep}
use Rattle.zi_parts.specs.declared.types.DepKind.TheVariants.{Essential, Restricts}
use Rattle.zi_parts.specs.Values.{dep_of, ranges_of, commands_by}
use Rattle.zi_parts.specs.Methods.{method_of}
use Rattle.zi_faults.specs.Said.{Said}
use Rattle.zi_faults.specs.Sites.{sites}
use Rattle.zi_faults.specs.Faults.{faults_with, fault_at, kinds_at, repeats_in, shims_in, counts}
use Rattle.zi_faults.specs.declared.fault.Fault.{Fault}
use Rattle.zi_faults.specs.declared.fault.FeedKind.TheVariants.{BadRange}
use Rattle.zi_feed.specs.Natives.{counts_native}
use Rattle.zi_demo.specs.Feeds.{address, requires_elem, restricts_elem}
use Rattle.zi_demo_laws.proofs.LikeLemmas.{read_none}
use Rattle.zi_demo_laws.proofs.RowLemmas.{Piece, Need, Bound, piece_elem}

abbrev pub here_is : List ℕ → List Attr → Forest → ℕ → Elem
here_is name attrs inside place = record { space = injector; name = name; attrs = attrs; inside = inside; place = place }

-- what is read where this was made
pub made_is : (n : List ℕ) (a : List Attr) (f : Forest) (r : Elem) → IsSame (record { space = injector; name = n; attrs = a; inside = f; place = 0 }) r → r ≡ here_is n a r.inside r.place
made_is n a f r s =
    ap (λ (v : List ℕ). record { space = v; name = r.name; attrs = r.attrs; inside = r.inside; place = r.place }) s.space
    ∙ (ap (λ (v : List ℕ). record { space = injector; name = v; attrs = r.attrs; inside = r.inside; place = r.place }) s.name
    ∙ ap (λ (v : List Attr). record { space = injector; name = n; attrs = v; inside = r.inside; place = r.place }) s.attrs)

-- a piece where it stands
abbrev pub piece_at : Piece → ℕ → Elem
piece_at (Need name) place = here_is (codes "requires") (attr (codes "interface") (address name) ∷ []) none place
piece_at (Bound range name) place = here_is (codes "restricts") (attr (codes "interface") (address name) ∷ attr (codes "version") range ∷ []) none place

abbrev pub IsPieceAt : Piece → Elem → Type 0
IsPieceAt x r = r ≡ piece_at x r.place

inside_none : (n : List ℕ) (a : List Attr) (r : Elem) → r ≡ here_is n a r.inside r.place → r.inside ≡ none → r ≡ here_is n a none r.place
inside_none n a r h e = h ∙ ap (λ (v : Forest). here_is n a v r.place) e

read_piece : (x : Piece) (r : Elem) → IsSame (piece_elem x) r → IsPieceAt x r
unfolding requires_elem restricts_elem
read_piece (Need name) r s =
    let a : List Attr = attr (codes "interface") (address name) ∷ [] in
    inside_none (codes "requires") a r (made_is (codes "requires") a none r s) (read_none r.inside s.inside)
read_piece (Bound range name) r s =
    let a : List Attr = attr (codes "interface") (address name) ∷ attr (codes "version") range ∷ [] in
    inside_none (codes "restricts") a r (made_is (codes "restricts") a none r s) (read_none r.inside s.inside)

pub read_pieces : (xs : List Piece) (rs : List Elem) → AllZip IsSame (map piece_elem xs) rs → AllZip IsPieceAt xs rs
read_pieces [] [] h = tt
read_pieces [] (r ∷ rs) h = absurd h
read_pieces (x ∷ xs) [] h = absurd h
read_pieces (x ∷ xs) (r ∷ rs) h = (read_piece x r h.0, read_pieces xs rs h.1)

-- What it means.

abbrev pub need_dep : List ℕ → Dep
need_dep name = record { interface = address name; kind = Essential; ranges = []; condition = record { os = None; wanted = None }; commands = []; bindings = [] }

abbrev pub bound_dep : List ℕ → List ℕ → Dep
bound_dep range name =
    record { interface = address name; kind = Restricts; ranges = optional (range_of range) ++ []; condition = record { os = None; wanted = None }; commands = []; bindings = [] }

abbrev pub dep_by : Piece → Dep
dep_by (Need name) = need_dep name
dep_by (Bound range name) = bound_dep range name

-- its versions, where it says some, are an expression
abbrev pub IsRightPiece : Piece → Type 0
IsRightPiece (Need name) = Unit {0}
IsRightPiece (Bound range name) = is_expression range ≡ true

-- What a test tells of each piece, wherever it stands.
abbrev pub Tells : (Elem → Bool) → Bool → Type 0
Tells test b = (x : Piece) (p : ℕ) → test (piece_at x p) ≡ b

-- it is read in a version
pub stands_there : (u : List ℕ) → Tells (stands (InFeed u) (codes "implementation")) true
unfolding stands is_left_out is_among same read_in injector
stands_there u (Need name) p = refl
stands_there u (Bound range name) p = refl

pub is_part_there : (u : List ℕ) → Tells (is_part (InFeed u) (codes "implementation")) true
unfolding stands is_left_out is_unclear is_among same read_in injector
is_part_there u (Need name) p = refl
is_part_there u (Bound range name) p = refl

pub is_open : Tells is_closed false
unfolding is_unclear is_unbuilt same injector
is_open (Need name) p = refl
is_open (Bound range name) p = refl

pub is_no_feed : Tells (is (codes "feed")) false
unfolding same injector
is_no_feed (Need name) p = refl
is_no_feed (Bound range name) p = refl

pub is_no_version : Tells counts false
unfolding same injector
is_no_version (Need name) p = refl
is_no_version (Bound range name) p = refl

pub is_no_package : Tells counts_native false
unfolding same injector
is_no_package (Need name) p = refl
is_no_package (Bound range name) p = refl

pub is_dep : Tells (λ c. is_among (listed (codes "requires restricts")) c.name) true
unfolding is_among same
is_dep (Need name) p = refl
is_dep (Bound range name) p = refl

pub is_no_command : Tells (λ c. is_among (listed (codes "command")) c.name) false
unfolding is_among same
is_no_command (Need name) p = refl
is_no_command (Bound range name) p = refl

pub is_no_runner : Tells (λ c. is_among (listed (codes "runner")) c.name) false
unfolding is_among same
is_no_runner (Need name) p = refl
is_no_runner (Bound range name) p = refl

pub is_no_binding : Tells (λ c. is_among binding_names c.name) false
unfolding is_among same
is_no_binding (Need name) p = refl
is_no_binding (Bound range name) p = refl

pub is_no_digest : Tells (λ c. is_among (listed (codes "manifest-digest")) c.name) false
unfolding is_among same
is_no_digest (Need name) p = refl
is_no_digest (Bound range name) p = refl

pub no_method : (u : List ℕ) (x : Piece) (p : ℕ) → method_of (InFeed u) (piece_at x p) ≡ None
unfolding method_of same injector
no_method u (Need name) p = refl
no_method u (Bound range name) p = refl

pub dep_there : (u : List ℕ) (x : Piece) (p : ℕ) → dep_of (InFeed (address u)) (piece_at x p) ≡ dep_by x
unfolding dep_of ranges_of commands_by resolved placed parts stands is_left_out is_unclear is_unbuilt is_among same injector
dep_there u (Need name) p = refl
dep_there u (Bound range name) p = refl

-- nothing is read in it
pub no_sites : (u : List ℕ) (x : Piece) (p : ℕ) → sites (InFeed u) (piece_at x p).name (piece_at x p).inside ≡ []
no_sites u (Need name) p = refl
no_sites u (Bound range name) p = refl

-- nothing is wrong with it
abbrev wrong_range : Bool → Elem → List Fault
wrong_range b e = map (fault_at e) (cond (not b) (BadRange ∷ []) []) ++ []

tested : (u range name : List ℕ) (s : Said) (p : ℕ) → faults_with (InFeed (address u)) s (piece_at (Bound range name) p) ≡ wrong_range (is_expression range) (piece_at (Bound range name) p)
unfolding faults_with kinds_at repeats_in shims_in resolved placed parts stands is_left_out is_unclear is_unbuilt is_among same injector
tested u range name s p = refl

pub no_faults : (u : List ℕ) (s : Said) (x : Piece) (p : ℕ) → IsRightPiece x → faults_with (InFeed (address u)) s (piece_at x p) ≡ []
unfolding faults_with kinds_at repeats_in shims_in resolved placed parts stands is_left_out is_unclear is_unbuilt is_among same injector
no_faults u s (Need name) p h = refl
no_faults u s (Bound range name) p h = tested u range name s p ∙ ap (λ b. wrong_range b (piece_at (Bound range name) p)) h

-- Those that pass a test among pieces.

pub all_pass : (test : Elem → Bool) → Tells test true → (xs : List Piece) (rs : List Elem) → AllZip IsPieceAt xs rs → filter test rs ≡ rs
all_pass test t [] [] h = refl
all_pass test t [] (r ∷ rs) h = absurd h
all_pass test t (x ∷ xs) [] h = absurd h
all_pass test t (x ∷ xs) (r ∷ rs) h =
    ap (λ b. cond b (r ∷ filter test rs) (filter test rs)) (ap test h.0 ∙ t x r.place) ∙ ap (λ v. r ∷ v) (all_pass test t xs rs h.1)

pub none_passes : (test : Elem → Bool) → Tells test false → (xs : List Piece) (rs : List Elem) → AllZip IsPieceAt xs rs → filter test rs ≡ []
none_passes test t [] [] h = refl
none_passes test t [] (r ∷ rs) h = absurd h
none_passes test t (x ∷ xs) [] h = absurd h
none_passes test t (x ∷ xs) (r ∷ rs) h =
    ap (λ b. cond b (r ∷ filter test rs) (filter test rs)) (ap test h.0 ∙ t x r.place) ∙ none_passes test t xs rs h.1

-- the dependencies that they are
pub deps_there : (u : List ℕ) (xs : List Piece) (rs : List Elem) → AllZip IsPieceAt xs rs → map (dep_of (InFeed (address u))) rs ≡ map dep_by xs
deps_there u [] [] h = refl
deps_there u [] (r ∷ rs) h = absurd h
deps_there u (x ∷ xs) [] h = absurd h
deps_there u (x ∷ xs) (r ∷ rs) h =
    ap (λ v. v ∷ map (dep_of (InFeed (address u))) rs) (ap (dep_of (InFeed (address u))) h.0 ∙ dep_there u x r.place) ∙ ap (λ v. dep_by x ∷ v) (deps_there u xs rs h.1)
