-- Which lines are those of a table, and what the reader keeps from line to line.
use Rattle.std.proofs.Common.{◌≡◌, ℕ, suc, ◌+◌, ◌-◌, ◌<◌, ◌≤◌, Bool, true, false, not, ◌&&◌, List, [], ◌∷◌, ◌++◌, map, length, refl, sym, ap, ◌∙◌, subst, arith, append_assoc, length-append, Option, Some, None}
use Rattle.std.specs.Option.{option_map}
use Rattle.std.specs.Prelude.{option_and_then, codes, take, if◌then◌else◌, ◌==◌}
use Rattle.std.proofs.lemmas.List.{append-nil, map-append}
use Rattle.std.proofs.lemmas.Bool.{and_parts}
use Rattle.std.proofs.Math.Seq.{take-append_seam}
use Rattle.zi_text.specs.Pieces.{each, pieces}
use Rattle.zi_text.specs.Front.{BeginsRight, StopsAt, stops_before, stops_at_end}
use Rattle.zi_packages.specs.Lines.{all_pieces, but_last, whole_lines}
use Rattle.zi_packages.specs.Table.{row_of, distribution_of, is_name, front_text, is_listed, are_new, Say, RightLines, IsTableText, FaultMeans}
use Rattle.zi_packages.specs.declared.types.Packages.{Packages}
use Rattle.zi_packages.specs.declared.types.PackageRow.{PackageRow}
use Rattle.zi_packages.specs.declared.fault.PackagesFault.TheVariants.{Bad}

head_same : (x y : List ℕ) (xs ys : List (List ℕ)) → x ∷ xs ≡ y ∷ ys → x ≡ y
head_same x y xs ys e = cc

tail_same : (x y : List ℕ) (xs ys : List (List ℕ)) → x ∷ xs ≡ y ∷ ys → xs ≡ ys
tail_same x y xs ys e = cc

-- what is given for each

record Given {X : Type 0} (f : List ℕ → Option X) (x : List ℕ) (xs : List (List ℕ)) (rs : List X) : Type 0 where
  first : X
  rest : List X
  here : f x ≡ Some first
  behind : each f xs ≡ Some rest
  are : rs ≡ first ∷ rest

given_by : {X : Type 0} (f : List ℕ → Option X) (x : List ℕ) (xs : List (List ℕ)) (rs : List X) (o : Option X) (p : Option (List X))
    → f x ≡ o → each f xs ≡ p → option_and_then (λ y. option_map (λ ys. y ∷ ys) p) o ≡ Some rs → Given f x xs rs
given_by f x xs rs None p a b e = absurd (cc)
given_by f x xs rs (Some y) None a b e = absurd (cc)
given_by f x xs rs (Some y) (Some ys) a b e = record { first = y; rest = ys; here = a; behind = b; are = cc }

given : {X : Type 0} (f : List ℕ → Option X) (x : List ℕ) (xs : List (List ℕ)) (rs : List X) → each f (x ∷ xs) ≡ Some rs → Given f x xs rs
given f x xs rs e = given_by f x xs rs (f x) (each f xs) refl refl e

each_none : {X : Type 0} (f : List ℕ → Option X) (xs more : List (List ℕ)) (x : List ℕ) (rs : List X) → f x ≡ None → each f (xs ++ x ∷ more) ≡ Some rs → ⊥
each_none f [] more x rs none e = let g = given f x more rs e in let z : None ≡ Some g.first = sym none ∙ g.here in cc
each_none f (y ∷ xs) more x rs none e = let g = given f y (xs ++ x ∷ more) rs e in each_none f xs more x g.rest none g.behind

record Split {X : Type 0} (f : List ℕ → Option X) (xs ys : List (List ℕ)) (rs : List X) : Type 0 where
  front : List X
  back : List X
  one : each f xs ≡ Some front
  two : each f ys ≡ Some back
  are : rs ≡ front ++ back

put : {X : Type 0} (f : List ℕ → Option X) (x : List ℕ) (xs : List (List ℕ)) (y : X) (ys : List X) → f x ≡ Some y → each f xs ≡ Some ys → each f (x ∷ xs) ≡ Some (y ∷ ys)
put f x xs y ys a b = rw (a, b) refl

each_split : {X : Type 0} (f : List ℕ → Option X) (xs ys : List (List ℕ)) (rs : List X) → each f (xs ++ ys) ≡ Some rs → Split f xs ys rs
each_split f [] ys rs e = record { front = []; back = rs; one = refl; two = e; are = refl }
each_split f (x ∷ xs) ys rs e =
    let g = given f x (xs ++ ys) rs e in
    let s = each_split f xs ys g.rest g.behind in
    record { front = g.first ∷ s.front; back = s.back; one = put f x xs g.first s.front g.here s.one; two = s.two; are = g.are ∙ ap (λ v. g.first ∷ v) s.are }

each_more : {X : Type 0} (f : List ℕ → Option X) (xs : List (List ℕ)) (x : List ℕ) (rs : List X) (r : X) → each f xs ≡ Some rs → f x ≡ Some r → each f (xs ++ x ∷ []) ≡ Some (rs ++ r ∷ [])
each_more f [] x rs r e h = let z : [] ≡ rs = cc in subst (λ v. each f (x ∷ []) ≡ Some (v ++ r ∷ [])) z (put f x [] r [] h refl)
each_more f (y ∷ xs) x rs r e h =
    let g = given f y xs rs e in
    subst (λ v. each f (y ∷ (xs ++ x ∷ [])) ≡ Some (v ++ r ∷ [])) (sym g.are) (put f y (xs ++ x ∷ []) g.first (g.rest ++ r ∷ []) g.here (each_more f xs x g.rest r g.behind h))

-- fronts of which none is an earlier one

and_assoc : (a b c : Bool) → (a && (b && c)) ≡ ((a && b) && c)
and_assoc true b c = refl
and_assoc false b c = refl

new_split : (e fs gs : List (List ℕ)) (f : List ℕ) → are_new e (fs ++ f ∷ gs) ≡ (are_new e fs && (not (is_listed f (e ++ fs)) && are_new ((e ++ fs) ++ f ∷ []) gs))
new_split e [] gs f = ap (λ v. not (is_listed f v) && are_new (v ++ f ∷ []) gs) (sym (append-nil e))
new_split e (x ∷ fs) gs f =
    ap (λ b. not (is_listed x e) && b) (new_split (e ++ x ∷ []) fs gs f ∙ ap (λ v. are_new (e ++ x ∷ []) fs && (not (is_listed f v) && are_new (v ++ f ∷ []) gs)) (append_assoc e (x ∷ []) fs))
    ∙ and_assoc (not (is_listed x e)) (are_new (e ++ x ∷ []) fs) (not (is_listed f (e ++ x ∷ fs)) && are_new ((e ++ x ∷ fs) ++ f ∷ []) gs)

pub new_more : (fs : List (List ℕ)) (f : List ℕ) → are_new [] fs ≡ true → is_listed f fs ≡ false → are_new [] (fs ++ f ∷ []) ≡ true
new_more fs f new absent = new_split [] fs [] f ∙ rw (new, absent) refl

not_twice : (fs gs : List (List ℕ)) (f : List ℕ) → are_new [] (fs ++ f ∷ gs) ≡ true → is_listed f fs ≡ false
not_twice fs gs f new =
    let p = and_parts (are_new [] fs) (not (is_listed f fs) && are_new (fs ++ f ∷ []) gs) (sym (new_split [] fs gs f) ∙ new) in
    let q = and_parts (not (is_listed f fs)) (are_new (fs ++ f ∷ []) gs) p.1 in
    by_not (is_listed f fs) q.0
  where
    by_not : (b : Bool) → not b ≡ true → b ≡ false
    by_not true e = absurd (cc)
    by_not false e = refl

-- lines

but_last_more : (x : List ℕ) (ys : List (List ℕ)) → 0 < length ys → but_last (x ∷ ys) ≡ x ∷ but_last ys
but_last_more x [] h = absurd (omega arith)
but_last_more x (y ∷ ys) h = refl

but_last_append : (front ys : List (List ℕ)) → 0 < length ys → but_last (front ++ ys) ≡ front ++ but_last ys
but_last_append [] ys h = refl
but_last_append (x ∷ front) ys h = but_last_more x (front ++ ys) (omega (arith, length-append front ys)) ∙ ap (λ zs. x ∷ zs) (but_last_append front ys h)

pub whole_are : (bytes : List ℕ) (t : Packages) → (is : IsTableText bytes t) → whole_lines bytes ≡ is.lines
whole_are bytes t is = ap but_last is.cut ∙ but_last_append is.lines ([] ∷ []) (omega arith) ∙ append-nil is.lines

text_right : (bytes : List ℕ) (t : Packages) → IsTableText bytes t → RightLines (whole_lines bytes)
text_right bytes t is = (t, subst (λ ls. Say ls t) (sym (whole_are bytes t is)) is.say)

fault_by : (bytes : List ℕ) (whole : List (List ℕ)) (n place : ℕ) → whole_lines bytes ≡ whole → n ≡ place + 1 → StopsAt RightLines whole place → ((t : Packages) → IsTableText bytes t → ⊥) → FaultMeans bytes (Bad n)
fault_by bytes whole n place w e s never =
    let k : place ≡ n - 1 = omega arith in
    (never, omega arith, subst (StopsAt RightLines (whole_lines bytes)) k (subst (λ ls. StopsAt RightLines ls place) (sym w) s))

push_take : (front more : List (List ℕ)) (x : List ℕ) → take (length front + 1) (front ++ x ∷ more) ≡ front ++ x ∷ []
push_take front more x =
    let n : length (front ++ x ∷ []) ≡ length front + 1 = length-append front (x ∷ []) in
    ap (λ k. take k (front ++ x ∷ more)) (sym n) ∙ ap (take (length (front ++ x ∷ []))) (sym (append_assoc front (x ∷ []) more)) ∙ take-append_seam (front ++ x ∷ []) more

stops_here : (front more : List (List ℕ)) (x : List ℕ) → BeginsRight RightLines front → (BeginsRight RightLines (front ++ x ∷ []) → ⊥) → StopsAt RightLines (front ++ x ∷ more) (length front)
stops_here front more x b n =
    stops_before RightLines (front ++ x ∷ more) (length front) (omega (arith, length-append front (x ∷ more)))
    (subst (BeginsRight RightLines) (sym (take-append_seam front (x ∷ more))) b)
    (λ k. n (subst (BeginsRight RightLines) (push_take front more x) k))

-- a table of no package
nothing_begins : BeginsRight RightLines []
unfolding distribution_of is_name
nothing_begins = (codes "zi-packages 1 a" ∷ [], (record { distribution = codes "a"; rows = [] }, record { first = codes "zi-packages 1 a"; others = []; are = refl; distribution = refl; rows = refl; apart = refl }))

no_lines : (t : Packages) → Say [] t → ⊥
no_lines t s = absurd (omega (arith, ap length s.are))

pub first_says : (x : List ℕ) (more : List (List ℕ)) (t : Packages) → Say (x ∷ more) t → distribution_of x ≡ Some t.distribution
first_says x more t s = ap distribution_of (head_same x s.first more s.others s.are) ∙ s.distribution

-- no line ends
pub bad_start : (bytes : List ℕ) → but_last (all_pieces 10 bytes) ≡ [] → FaultMeans bytes (Bad 1)
bad_start bytes none =
    fault_by bytes [] 1 0 none (omega arith) (stops_at_end RightLines [] nothing_begins)
    (λ t is. let r = subst RightLines none (text_right bytes t is) in no_lines r.0 r.1)

-- the first line says no distribution
pub bad_first : (bytes x : List ℕ) (left : List (List ℕ)) → all_pieces 10 bytes ≡ x ∷ left → 0 < length left → distribution_of x ≡ None → FaultMeans bytes (Bad 1)
bad_first bytes x left e some none =
    let w : whole_lines bytes ≡ x ∷ but_last left = ap but_last e ∙ but_last_more x left some in
    fault_by bytes (x ∷ but_last left) 1 0 w (omega arith)
    (stops_here [] (but_last left) x nothing_begins (λ (more, right). never (x ∷ more) right.0 refl right.1))
    (λ t is. let r = subst RightLines w (text_right bytes t is) in never (x ∷ but_last left) r.0 refl r.1)
  where
    never : (ls : List (List ℕ)) (t : Packages) {more : List (List ℕ)} → ls ≡ x ∷ more → Say ls t → ⊥
    never ls t {more = more} is s =
        let z : None ≡ Some t.distribution = sym none ∙ first_says x more t (subst (λ v. Say v t) is s) in cc

-- What was read so far.
pub record Body (bytes : List ℕ) (distribution : List ℕ) (rows : List PackageRow) (fronts left : List (List ℕ)) (line : ℕ) : Type 0 where
  pub first : List ℕ
  pub taken : List (List ℕ)
  pub cut : all_pieces 10 bytes ≡ first ∷ (taken ++ left)
  pub says : distribution_of first ≡ Some distribution
  pub are : each row_of taken ≡ Some rows
  pub keys : fronts ≡ map front_text rows
  pub apart : are_new [] (map front_text rows) ≡ true
  pub some : 0 < length left
  pub count : line ≡ length taken + 2

body_right : {bytes d : List ℕ} {rows : List PackageRow} {fronts left : List (List ℕ)} {line : ℕ} → (b : Body bytes d rows fronts left line) → Say (b.first ∷ b.taken) (record { distribution = d; rows = rows })
body_right b = record { first = b.first; others = b.taken; are = refl; distribution = b.says; rows = b.are; apart = b.apart }

-- the rows of a table whose lines go on with these
pub rows_said : (first : List ℕ) (others : List (List ℕ)) (t : Packages) → Say (first ∷ others) t → each row_of others ≡ Some t.rows
rows_said first others t s = ap (each row_of) (tail_same first s.first others s.others s.are) ∙ s.rows

-- a line that may not come next
bad_line : (bytes : List ℕ) (d : List ℕ) (rows : List PackageRow) (fronts left left2 : List (List ℕ)) (line : ℕ) (x : List ℕ) → (b : Body bytes d rows fronts left line) → left ≡ x ∷ left2 → 0 < length left2
    → ((more : List (List ℕ)) (t : Packages) → Say (b.first ∷ (b.taken ++ x ∷ more)) t → ⊥) → FaultMeans bytes (Bad line)
bad_line bytes d rows fronts left left2 line x b e some never =
    let front = b.first ∷ b.taken in
    let w : whole_lines bytes ≡ front ++ x ∷ but_last left2 =
    ap but_last (b.cut ∙ ap (λ ls. front ++ ls) e) ∙ but_last_append front (x ∷ left2) (omega arith) ∙ ap (λ ys. front ++ ys) (but_last_more x left2 some) in
    fault_by bytes (front ++ x ∷ but_last left2) line (length front) w (omega (arith, b.count))
    (stops_here front (but_last left2) x ([], subst RightLines (sym (append-nil front)) (record { distribution = d; rows = rows }, body_right b))
    (λ (more, right). never more right.0 (subst (λ ls. Say ls right.0) (append_assoc front (x ∷ []) more) right.1)))
    (λ t is. let r = subst RightLines w (text_right bytes t is) in never (but_last left2) r.0 r.1)

pub bad_row : (bytes : List ℕ) (d : List ℕ) (rows : List PackageRow) (fronts left left2 : List (List ℕ)) (line : ℕ) (x : List ℕ) → Body bytes d rows fronts left line → left ≡ x ∷ left2 → 0 < length left2
    → row_of x ≡ None → FaultMeans bytes (Bad line)
bad_row bytes d rows fronts left left2 line x b e some none =
    bad_line bytes d rows fronts left left2 line x b e some (λ more t s. each_none row_of b.taken more x t.rows none (rows_said b.first (b.taken ++ x ∷ more) t s))

pub bad_twice : (bytes : List ℕ) (d : List ℕ) (rows : List PackageRow) (fronts left left2 : List (List ℕ)) (line : ℕ) (x : List ℕ) (r : PackageRow) → Body bytes d rows fronts left line → left ≡ x ∷ left2 → 0 < length left2
    → row_of x ≡ Some r → is_listed (front_text r) fronts ≡ true → FaultMeans bytes (Bad line)
bad_twice bytes d rows fronts left left2 line x r b e some says twice =
    bad_line bytes d rows fronts left left2 line x b e some (λ more t s. never more t s)
  where
    never : (more : List (List ℕ)) (t : Packages) → Say (b.first ∷ (b.taken ++ x ∷ more)) t → ⊥
    never more t s =
        let p = each_split row_of b.taken (x ∷ more) t.rows (rows_said b.first (b.taken ++ x ∷ more) t s) in
        let g = given row_of x more p.back p.two in
        let one : rows ≡ p.front = cc_some rows p.front (sym b.are ∙ p.one) in
        let here : r ≡ g.first = cc_row r g.first (sym says ∙ g.here) in
        let are : t.rows ≡ rows ++ r ∷ g.rest = p.are ∙ ap (λ v. p.front ++ v) g.are ∙ ap (λ v. v ++ g.first ∷ g.rest) (sym one) ∙ ap (λ v. rows ++ v ∷ g.rest) (sym here) in
        let names : map front_text t.rows ≡ fronts ++ front_text r ∷ map front_text g.rest =
        ap (map front_text) are ∙ map-append front_text rows (r ∷ g.rest) ∙ ap (λ v. v ++ front_text r ∷ map front_text g.rest) (sym b.keys) in
        let z : true ≡ false = sym twice ∙ not_twice fronts (map front_text g.rest) (front_text r) (ap (are_new []) (sym names) ∙ s.apart) in
        absurd (cc)
      where
        cc_some : (a c : List PackageRow) → Some a ≡ Some c → a ≡ c
        cc_some a c q = cc

        cc_row : (a c : PackageRow) → Some a ≡ Some c → a ≡ c
        cc_row a c q = cc

pub body_more : (bytes : List ℕ) (d : List ℕ) (rows : List PackageRow) (fronts left left2 : List (List ℕ)) (line : ℕ) (x : List ℕ) (r : PackageRow) → Body bytes d rows fronts left line → left ≡ x ∷ left2 → 0 < length left2
    → row_of x ≡ Some r → is_listed (front_text r) fronts ≡ false → Body bytes d (rows ++ r ∷ []) (fronts ++ front_text r ∷ []) left2 (line + 1)
body_more bytes d rows fronts left left2 line x r b e some says absent =
    let names : map front_text (rows ++ r ∷ []) ≡ fronts ++ front_text r ∷ [] = map-append front_text rows (r ∷ []) ∙ ap (λ v. v ++ front_text r ∷ []) (sym b.keys) in
    record {
      first = b.first;
      taken = b.taken ++ x ∷ [];
      cut = b.cut ∙ ap (λ ls. b.first ∷ ls) (ap (λ ls. b.taken ++ ls) e ∙ sym (append_assoc b.taken (x ∷ []) left2));
      says = b.says;
      are = each_more row_of b.taken x rows r b.are says;
      keys = sym names;
      apart = ap (are_new []) names ∙ new_more fronts (front_text r) (ap (are_new []) b.keys ∙ b.apart) absent;
      some = some;
      count = omega (arith, b.count, length-append b.taken (x ∷ []));
    }

pub body_starts : (bytes d first : List ℕ) (left : List (List ℕ)) → all_pieces 10 bytes ≡ first ∷ left → distribution_of first ≡ Some d → 0 < length left → Body bytes d [] [] left 2
body_starts bytes d first left e says some = record { first = first; taken = []; cut = e; says = says; are = refl; keys = refl; apart = refl; some = some; count = refl }

last_one : (left : List (List ℕ)) → 0 < length left → but_last left ≡ [] → (z : List ℕ) × (left ≡ z ∷ [])
last_one [] h e = absurd (omega arith)
last_one (z ∷ []) h e = (z, refl)
last_one (z ∷ y ∷ ys) h e = absurd (omega (arith, ap length e))

-- nothing is left but what stands behind the last LF
pub body_ends : (bytes : List ℕ) (d : List ℕ) (rows : List PackageRow) (fronts left : List (List ℕ)) (line : ℕ) → Body bytes d rows fronts left line → left ≡ [] ∷ [] → IsTableText bytes (record { distribution = d; rows = rows })
body_ends bytes d rows fronts left line b e = record { lines = b.first ∷ b.taken; cut = b.cut ∙ ap (λ ls. b.first ∷ (b.taken ++ ls)) e; say = body_right b }

last_same : (vs bs : List (List ℕ)) (x y : List ℕ) → vs ++ x ∷ [] ≡ bs ++ y ∷ [] → x ≡ y
last_same [] [] x y e = head_same x y [] [] e
last_same [] (b ∷ bs) x y e = absurd (omega (arith, ap length e, length-append bs (y ∷ [])))
last_same (a ∷ vs) [] x y e = absurd (omega (arith, ap length e, length-append vs (x ∷ [])))
last_same (a ∷ vs) (b ∷ bs) x y e = last_same vs bs x y (tail_same a b (vs ++ x ∷ []) (bs ++ y ∷ []) e)

pub bad_end : (bytes : List ℕ) (d : List ℕ) (rows : List PackageRow) (fronts left : List (List ℕ)) (line : ℕ) (z : List ℕ) → Body bytes d rows fronts left line → left ≡ z ∷ [] → (z ≡ [] → ⊥) → FaultMeans bytes (Bad line)
bad_end bytes d rows fronts left line z b e full =
    let front = b.first ∷ b.taken in
    let cut : all_pieces 10 bytes ≡ front ++ z ∷ [] = b.cut ∙ ap (λ ls. front ++ ls) e in
    let w : whole_lines bytes ≡ front = ap but_last cut ∙ but_last_append front (z ∷ []) (omega arith) ∙ append-nil front in
    fault_by bytes front line (length front) w (omega (arith, b.count))
    (stops_at_end RightLines front ([], subst RightLines (sym (append-nil front)) (record { distribution = d; rows = rows }, body_right b)))
    (λ t is. full (last_same front is.lines z [] (sym cut ∙ is.cut)))

-- something is left that isn't the nothing behind the last LF
pub bad_rest : (bytes : List ℕ) (d : List ℕ) (rows : List PackageRow) (fronts left : List (List ℕ)) (line : ℕ) → Body bytes d rows fronts left line → but_last left ≡ [] → (left ≡ [] ∷ [] → ⊥) → FaultMeans bytes (Bad line)
bad_rest bytes d rows fronts left line b none other =
    let z = last_one left b.some none in
    bad_end bytes d rows fronts left line z.0 b z.1 (λ e. other (z.1 ∙ ap (λ w. w ∷ []) e))

-- a row was added
pub body_pushed : (bytes : List ℕ) (d : List ℕ) (rows rows2 : List PackageRow) (fronts fronts2 left left2 : List (List ℕ)) (line : ℕ) (x key : List ℕ) (r : PackageRow) (o : Option PackageRow) (new : Bool)
    → Body bytes d rows fronts left line → left ≡ x ∷ left2 → 0 < length left2 → o ≡ row_of x → o ≡ Some r → key ≡ front_text r → new ≡ not (is_listed key fronts) → new ≡ true
    → fronts2 ≡ (if is_listed key fronts then fronts else fronts ++ key ∷ []) → rows2 ≡ rows ++ r ∷ [] → Body bytes d rows2 fronts2 left2 (line + 1)
body_pushed bytes d rows rows2 fronts fronts2 left left2 line x key r o new b e some read says k added isnew keys rs =
    let absent : is_listed key fronts ≡ false = by_not (is_listed key fronts) (sym added ∙ isnew) in
    let there : fronts2 ≡ fronts ++ front_text r ∷ [] = keys ∙ rw (absent, k) refl in
    subst (λ v. Body bytes d v fronts2 left2 (line + 1)) (sym rs)
    (subst (λ v. Body bytes d (rows ++ r ∷ []) v left2 (line + 1)) (sym there)
    (body_more bytes d rows fronts left left2 line x r b e some (sym read ∙ says) (ap (λ v. is_listed v fronts) (sym k) ∙ absent)))
  where
    by_not : (b : Bool) → not b ≡ true → b ≡ false
    by_not true e = absurd (cc)
    by_not false e = refl

-- it wasn't, since an earlier one has its front
pub bad_key : (bytes : List ℕ) (d : List ℕ) (rows : List PackageRow) (fronts left left2 : List (List ℕ)) (line : ℕ) (x key : List ℕ) (r : PackageRow) (o : Option PackageRow) (new : Bool)
    → Body bytes d rows fronts left line → left ≡ x ∷ left2 → 0 < length left2 → o ≡ row_of x → o ≡ Some r → key ≡ front_text r → new ≡ not (is_listed key fronts) → new ≡ false → FaultMeans bytes (Bad line)
bad_key bytes d rows fronts left left2 line x key r o new b e some read says k added old =
    bad_twice bytes d rows fronts left left2 line x r b e some (sym read ∙ says) (ap (λ v. is_listed v fronts) (sym k) ∙ by_not (is_listed key fronts) (sym added ∙ old))
  where
    by_not : (b : Bool) → not b ≡ false → b ≡ true
    by_not true e = refl
    by_not false e = absurd (cc)

-- a text has at most one piece more than bytes
abbrev more_pieces : Bool → ℕ → List ℕ × List (List ℕ) → List ℕ × List (List ℕ)
more_pieces b x p = if b then ([], p.0 ∷ p.1) else (x ∷ p.0, p.1)

few_step : (b : Bool) (p : List ℕ × List (List ℕ)) (x n : ℕ) → length p.1 ≤ n → length (more_pieces b x p).1 ≤ suc n
few_step true p x n h = omega (arith, h)
few_step false p x n h = omega (arith, h)

pieces_few : (c : ℕ) (t : List ℕ) → length (pieces c t).1 ≤ length t
pieces_few c [] = omega arith
pieces_few c (x ∷ xs) = few_step (x == c) (pieces c xs) x (length xs) (pieces_few c xs)

-- fewer lines were taken than there are bytes
pub line_few : (bytes : List ℕ) (d : List ℕ) (rows : List PackageRow) (fronts left : List (List ℕ)) (line : ℕ) → Body bytes d rows fronts left line → line ≤ length bytes + 1
line_few bytes d rows fronts left line b =
    omega (arith, b.some, b.count, pieces_few 10 bytes, ap length b.cut, length-append b.taken left)

pub ruleset laws = (body_starts, line_few)
