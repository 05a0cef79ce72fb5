-- The tree of the parts, as it grows.
use Rattle.std.proofs.Common.{◌≡◌, ℕ, Bool, true, false, ◌&&◌, List, [], ◌∷◌, ◌++◌, take, length, map, get_or, Option, Some, None, refl, sym, ◌∙◌, ap, subst, bytes_eq, if◌then◌else◌, ◌<◌, arith}
use Rattle.std.specs.Prelude.{not, slice_get, IsSome, is_some, Ok, Err, IfSome, IsSomeAnd, ◌≤◌, ◌+◌, sum}
use Rattle.std.proofs.Common.{zero, suc, inl, inr, ◌||◌}
use Rattle.std.specs.Option.{option_or}
use Rattle.std.specs.List.{list_all}
use Rattle.std.proofs.lemmas.Option.{slice_get_read}
use Rattle.std.proofs.lemmas.Slice.Eq.{bytes_eq-Decides}
use Rattle.std.proofs.lemmas.List.{map-append, take_more, take-map, take_all}
use Rattle.std.proofs.lemmas.Bool.{and_parts, and_from}
use Rattle.zi_text.specs.Count.{Rose}
use Rattle.zi_outside.specs.Outside.{Asks}
use Rattle.zi_outside.specs.Views.{Holding, Feeding, holding}
use Rattle.zi_outside.proofs.AskingLemmas.{asks_none, asks_more, holding_asked}
use Rattle.zi_tree.specs.Dir.{Dir}
use Rattle.zi_tree.specs.Order.{is_tree, is_plain}
use Rattle.zi_tree.specs.Paths.{items, node_in, placed, placed_new, inserted}
use Rattle.zi_tree.specs.Views.{dir, Item}
use Rattle.zi_tree.specs.declared.tree.TreeNode.{TreeNode}
use Rattle.zi_tree.proofs.Items.{items_of_dir}
use Rattle.zi_session.proofs.Placed.{node_placed, node_placed_other, differ_flip}
use Rattle.zi_words.specs.Forms.{Word}
use Rattle.zi_words.specs.Store.{last_part, is_name, is_file}
use Rattle.zi_storing.specs.declared.gathering.Held.{Held}
use Rattle.zi_storing.specs.declared.gathering.Part.{Part}
use Rattle.zi_storing.specs.declared.gathering.GatherFault.{GatherFault}
use Rattle.zi_storing.specs.declared.gathering.GatherFault.TheVariants.{Read, Absent, TooLong, Twice, TooLarge, Memory}
use Rattle.zi_tree.specs.Limits.{size_limit}
use Rattle.zi_storing.specs.Gathering.{AreParts, IsPart, part_name, names_of, is_among, are_apart, plain, file_named, PutsPart, MakesTree, part_size, file_limit, AsksCalmly, GetsAll, Gathers, GetsSome, GetsHeld, Holds, Refuses, GetsPart, IsFirstTwice, IsTreeOf}
use Rattle.zi_tree.specs.declared.change.TreeLimit.TheVariants.{Size, Nodes}

-- one more got
pub parts_more : (told : Option Holding) (fs : List Word) (ps : List Part) (f : Word) (p : Part) → AreParts told fs ps → IsPart told f p → AreParts told (fs ++ f ∷ []) (ps ++ p ∷ [])
parts_more told [] [] f p h i = (i, tt)
parts_more told [] (q ∷ ps) f p h i = absurd h
parts_more told (g ∷ fs) [] f p h i = absurd h
parts_more told (g ∷ fs) (q ∷ ps) f p h i = (h.0, parts_more told fs ps f p h.1 i)

-- the names are the last parts
pub names_are : (told : Option Holding) (fs : List Word) (ps : List Part) → AreParts told fs ps → names_of ps ≡ map last_part fs
names_are told [] [] h = refl
names_are told [] (q ∷ ps) h = absurd h
names_are told (g ∷ fs) [] h = absurd h
names_are told (g ∷ fs) (q ∷ ps) h = let e = h.0.named in let r = names_are told fs ps h.1 in cc (e, r)

-- a name among more
among_more : (n m : List ℕ) (ns : List (List ℕ)) → is_among n ns ≡ false → bytes_eq m n ≡ false → is_among n (ns ++ m ∷ []) ≡ false
among_more n m [] h e = rw e refl
among_more n m (k ∷ ns) h0 e =
    elim (bytes_eq k n) as (λ b. (b || is_among n ns) ≡ false → (b || is_among n (ns ++ m ∷ [])) ≡ false) [
      | true ↦ λ h. h
      | false ↦ λ h. among_more n m ns h e
    ] h0

among_split : (k n : List ℕ) (ns : List (List ℕ)) → is_among n (k ∷ ns) ≡ false → (bytes_eq k n ≡ false) × (is_among n ns ≡ false)
among_split k n ns h0 = elim (bytes_eq k n) as (λ b. (b || is_among n ns) ≡ false → (b ≡ false) × (is_among n ns ≡ false)) [
  | true ↦ λ h. absurd (cc h)
  | false ↦ λ h. (refl, h)
] h0

and_split : (a b : Bool) → (not a && b) ≡ true → (a ≡ false) × (b ≡ true)
and_split true b h = absurd (cc h)
and_split false b h = (refl, h)

pub apart_more : (ns : List (List ℕ)) (n : List ℕ) → are_apart ns ≡ true → is_among n ns ≡ false → are_apart (ns ++ n ∷ []) ≡ true
apart_more [] n h i = refl
apart_more (k ∷ ns) n h i =
    let p = and_split (is_among k ns) (are_apart ns) h in
    let q = among_split k n ns i in
    rw (among_more k n ns p.0 (differ_flip k n q.0), apart_more ns n p.1 q.1) refl

-- a name is among the names exactly where a file of it is among the parts
pub named_among : (n : List ℕ) (ps : List Part) → is_some (file_named n ps) ≡ is_among n (names_of ps)
named_among n [] = refl
named_among n (p ∷ ps) =
    elim (bytes_eq p.name n) as (λ b. is_some (if b then Some (plain p.bytes) else file_named n ps) ≡ (b || is_among n (names_of ps))) [
      | true ↦ refl
      | false ↦ named_among n ps
    ]

-- one part more
named_more : (n : List ℕ) (ps : List Part) (p : Part) → file_named n (ps ++ p ∷ []) ≡ option_or (file_named n ps) (if bytes_eq p.name n then Some (plain p.bytes) else None)
named_more n [] p = refl
named_more n (q ∷ ps) p =
    elim (bytes_eq q.name n) as (λ b. (if b then Some (plain q.bytes) else file_named n (ps ++ p ∷ [])) ≡ option_or (if b then Some (plain q.bytes) else file_named n ps) (if bytes_eq p.name n then Some (plain p.bytes) else None)) [
      | true ↦ refl
      | false ↦ named_more n ps p
    ]

-- what a loop over the parts keeps: those so far stand in the tree
pub record Stands (ps : List Part) (d : Dir) : Type 0 where
  pub apart : are_apart (names_of ps) ≡ true
  pub holds : (n : List ℕ) → node_in n (items d) ≡ file_named n ps

or_none : (o p : Option TreeNode) → o ≡ None → option_or o p ≡ p
or_none o p e = rw e refl

or_nothing : (o : Option TreeNode) → o ≡ option_or o None
or_nothing None = refl
or_nothing (Some x) = refl

placed_holds : (n : List ℕ) (ps : List Part) (p : Part) (is : List Item) → node_in p.name is ≡ None → ((m : List ℕ) → node_in m is ≡ file_named m ps)
    → node_in n (placed p.name (plain p.bytes) is) ≡ file_named n (ps ++ p ∷ [])
placed_holds n ps p is free holds =
    elim (bytes_eq p.name n) as (λ b. bytes_eq p.name n ≡ b → node_in n (placed p.name (plain p.bytes) is) ≡ option_or (file_named n ps) (if b then Some (plain p.bytes) else None)) [
      | true ↦ λ e.
          let same : p.name ≡ n = (bytes_eq-Decides p.name n).0 e in
          let none : file_named n ps ≡ None = sym (holds n) ∙ ap (λ m. node_in m is) (sym same) ∙ free in
          ap (λ m. node_in m (placed p.name (plain p.bytes) is)) (sym same) ∙ node_placed p.name (plain p.bytes) is free ∙ sym (or_none (file_named n ps) (Some (plain p.bytes)) none)
      | false ↦ λ e. node_placed_other n p.name (plain p.bytes) is e ∙ holds n ∙ or_nothing (file_named n ps)
    ] refl ∙ sym (named_more n ps p)

some_none : (o : Option TreeNode) → o ≡ None → is_some o ≡ false
some_none o e = rw e refl

pub stands_none : (d : Dir) → items d ≡ [] → Stands [] d
stands_none d e = record { apart = refl; holds = λ n. rw e refl }

pub stands_more : (ps : List Part) (p : Part) (d e : Dir) (x : Unit {0}) → Stands ps d → PutsPart p d (Ok x) e → Stands (ps ++ p ∷ []) e
stands_more ps p d e x s (free, is) = record {
  apart =
      ap are_apart (map-append part_name ps (p ∷ []))
      ∙ apart_more (names_of ps) p.name s.apart (sym (named_among p.name ps) ∙ some_none (file_named p.name ps) (sym (s.holds p.name) ∙ free));
  holds = λ n. ap (λ (x : Dir). node_in n (items x)) is ∙ ap (node_in n) (items_of_dir (placed p.name (plain p.bytes) (items d))) ∙ placed_holds n ps p (items d) free s.holds;
}

-- The files, as they are got.

-- nothing was asked
pub calm_none : (seen : Feeding) → AsksCalmly [] seen seen
calm_none seen = record { asked = asks_none seen; calm = refl }

calm_same : (before after : Feeding) → after ≡ before → AsksCalmly [] before after
calm_same before after e = subst (λ f. AsksCalmly [] before f) (sym e) (calm_none before)

calm_more : (keys more : List Word) (old mid new : Feeding) → AsksCalmly keys old mid → AsksCalmly more mid new → AsksCalmly (keys ++ more) old new
calm_more keys more old mid new a b = record { asked = asks_more keys more old mid new a.asked b.asked; calm = b.calm ∙ a.calm }

-- a file more was asked for
calm_next : (files : List Word) (i : ℕ) (f : Word) (old mid new : Feeding) → i < length files → f ≡ get_or files i f → AsksCalmly (take i files) old mid → AsksCalmly (f ∷ []) mid new
    → AsksCalmly (take (i + 1) files) old new
calm_next files i f old mid new lt at a b =
    subst (λ fs. AsksCalmly fs old new) (sym (take_more files i f lt ∙ ap (λ x. take i files ++ x ∷ []) (sym at))) (calm_more (take i files) (f ∷ []) old mid new a b)

asks_next : (files : List Word) (i : ℕ) (f : Word) (old mid new : Feeding) → i < length files → f ≡ get_or files i f → AsksCalmly (take i files) old mid → Asks (f ∷ []) mid new
    → Asks (take (i + 1) files) old new
asks_next files i f old mid new lt at a b =
    subst (λ fs. Asks fs old new) (sym (take_more files i f lt ∙ ap (λ x. take i files ++ x ∷ []) (sym at))) (asks_more (take i files) (f ∷ []) old mid new a.asked b)

-- none was got yet
pub gets_none : (files : List Word) (seen : Feeding) (held : Held) → Holds [] held → GetsHeld (take 0 files) seen seen held
gets_none files seen held h = record { parts = []; got = record { are = tt; asked = calm_none seen }; holds = h }

held_since : (P : Holding → Type 0) (files : List Word) (old mid : Feeding) → AsksCalmly files old mid → IfSome (holding mid) P → IfSome (holding old) P
held_since P files old mid a h = subst (λ told. IfSome told P) (holding_asked files old mid a.asked) h

-- one more was got
pub parts_next : (files : List Word) (i : ℕ) (old mid new : Feeding) (ps qs : List Part) (f : Word) (p : Part) → i < length files → f ≡ get_or files i f
    → GetsAll (take i files) old mid ps → GetsPart f mid new (Ok p) → qs ≡ ps ++ p ∷ [] → GetsAll (take (i + 1) files) old new qs
parts_next files i old mid new ps qs f p lt at got (is, asked) e = record {
  are =
      subst (λ xs. AreParts (holding old) xs qs) (sym (take_more files i f lt ∙ ap (λ x. take i files ++ x ∷ []) (sym at)))
      (subst (λ ys. AreParts (holding old) (take i files ++ f ∷ []) ys) (sym e)
      (parts_more (holding old) (take i files) ps f p got.are (subst (λ h. IsPart h f p) (holding_asked (take i files) old mid got.asked.asked) is)));
  asked = calm_next files i f old mid new lt at got.asked asked;
}

pub held_next : (files : List Word) (i : ℕ) (old mid new : Feeding) (h g : Held) (f : Word) (p : Part) → i < length files → f ≡ get_or files i f
    → (a : GetsHeld (take i files) old mid h) → GetsPart f mid new (Ok p) → Holds (a.parts ++ p ∷ []) g → GetsHeld (take (i + 1) files) old new g
held_next files i old mid new h g f p lt at a part holds = record {
  parts = a.parts ++ p ∷ [];
  got = parts_next files i old mid new a.parts (a.parts ++ p ∷ []) f p lt at a.got part refl;
  holds = holds;
}

-- and then there was no memory for it
pub parts_short : (files : List Word) (i : ℕ) (old mid new : Feeding) (h : Held) (f : Word) (p : Part) → i < length files → f ≡ get_or files i f
    → GetsHeld (take i files) old mid h → GetsPart f mid new (Ok p) → Refuses files old new Memory
parts_short files i old mid new h f p lt at a (is, asked) = (i + 1, calm_next files i f old mid new lt at a.got.asked asked)

-- the next wasn't got
pub parts_stop : (files : List Word) (i : ℕ) (old mid new : Feeding) (ps : List Part) (f : Word) (fault : GatherFault) → i < length files → f ≡ get_or files i f
    → GetsAll (take i files) old mid ps → GetsPart f mid new (Err fault) → Refuses files old new fault
parts_stop files i old mid new ps f (Read name) lt at got (e, asked, rose) = (
  record {
    place = i;
    here = slice_get_read files (length files) i f refl lt at ∙ ap Some (sym e);
    parts = ps;
    got = got.are;
    asked = asks_next files i f old mid new lt at got.asked asked;
  },
  subst (λ n. Rose n new.faults) got.asked.calm rose,
)
parts_stop files i old mid new ps f (Absent name) lt at got (e, asked, none) = (
  record {
    place = i;
    here = slice_get_read files (length files) i f refl lt at ∙ ap Some (sym e);
    parts = ps;
    got = got.are;
    asked = asks_next files i f old mid new lt at got.asked asked.asked;
  },
  asked.calm ∙ got.asked.calm,
  subst (λ n. IfSome (holding old) (λ holds. holds n ≡ None)) (sym e) (held_since (λ holds. holds f ≡ None) (take i files) old mid got.asked none),
)
parts_stop files i old mid new ps f (TooLong name limit) lt at got (e, asked, l, long) = (
  record {
    place = i;
    here = slice_get_read files (length files) i f refl lt at ∙ ap Some (sym e);
    parts = ps;
    got = got.are;
    asked = asks_next files i f old mid new lt at got.asked asked.asked;
  },
  asked.calm ∙ got.asked.calm,
  l,
  subst (λ n. IfSome (holding old) (λ holds. IsSomeAnd (holds n) (λ bytes. file_limit < length bytes))) (sym e)
      (held_since (λ holds. IsSomeAnd (holds f) (λ bytes. file_limit < length bytes)) (take i files) old mid got.asked long),
)
parts_stop files i old mid new ps f (Twice name) lt at got x = absurd x
parts_stop files i old mid new ps f (TooLarge what limit) lt at got x = absurd x
parts_stop files i old mid new ps f Memory lt at got (inl same) = (i, subst (λ seen. AsksCalmly (take i files) old seen) (sym same) got.asked)
parts_stop files i old mid new ps f Memory lt at got (inr asked) = (i + 1, calm_next files i f old mid new lt at got.asked asked)

pub held_stops : (files : List Word) (i : ℕ) (old mid new : Feeding) (h : Held) (f : Word) (fault : GatherFault) → i < length files → f ≡ get_or files i f
    → GetsHeld (take i files) old mid h → GetsPart f mid new (Err fault) → Refuses files old new fault
held_stops files i old mid new h f fault lt at a part = parts_stop files i old mid new a.parts f fault lt at a.got part

pub ruleset getting = (held_stops, gets_none)

-- A part that goes into the tree.
pub plain_of : (n : List ℕ) → is_name n ≡ true → is_plain n ≡ true
unfolding is_name
plain_of n h = h

new_there : (n : List ℕ) (x : TreeNode) (d : Dir) (o : Option TreeNode) (e : Dir) → placed_new n x d o ≡ Some e → (o ≡ None) × (e ≡ dir (placed n x (items d)))
new_there n x d None e h = (refl, (cc h))
new_there n x d (Some y) e h = absurd (cc h)

none_free : (n : List ℕ) (x : TreeNode) (d : Dir) (o : Option TreeNode) → placed_new n x d o ≡ None → IsSome o
none_free n x d None h = absurd (cc h)
none_free n x d (Some y) h = refl

pub put_there : (p : Part) (path : List (List ℕ)) (x : TreeNode) (d e : Dir) → path ≡ p.name ∷ [] → x ≡ plain p.bytes → inserted path x d ≡ Some e → PutsPart p d (Ok tt) e
put_there p path x d e at is h =
    new_there p.name (plain p.bytes) d (node_in p.name (items d)) e
    (subst (λ y. inserted (p.name ∷ []) y d ≡ Some e) is (subst (λ q. inserted q x d ≡ Some e) at h))

pub put_twice : (p : Part) (name : List ℕ) (path : List (List ℕ)) (x : TreeNode) (d e : Dir) → path ≡ p.name ∷ [] → name ≡ p.name → inserted path x d ≡ None → PutsPart p d (Err (Twice name)) e
put_twice p name path x d e at same h =
    (same, subst (λ n. IsSome (node_in n (items d))) (sym same) (none_free p.name x d (node_in p.name (items d)) (subst (λ q. inserted q x d ≡ None) at h)))

-- The tree of all.
name_at : (ps : List Part) (i : ℕ) (p : Part) → list_all is_name (names_of ps) ≡ true → i < length ps → p ≡ get_or ps i p → is_name p.name ≡ true
name_at [] i p h lt at = absurd (omega arith)
name_at (q ∷ ps) zero p h lt at = ap (λ (x : Part). is_name x.name) at ∙ (and_parts (is_name q.name) (list_all is_name (names_of ps)) h).0
name_at (q ∷ ps) (suc i) p h lt at = name_at ps i p (and_parts (is_name q.name) (list_all is_name (names_of ps)) h).1 (omega arith) at

pub right_name : (ps : List Part) (i : ℕ) (p : Part) → list_all is_name (names_of ps) ≡ true → (i < length ps) × (p ≡ get_or ps i p) → is_name p.name ≡ true
right_name ps i p h t = name_at ps i p h t.0 t.1

name_here : (ps : List Part) (i : ℕ) (p : Part) → i < length ps → p ≡ get_or ps i p → slice_get (names_of ps) i ≡ Some p.name
name_here [] i p lt at = absurd (omega arith)
name_here (q ∷ ps) zero p lt at = ap (λ (x : Part). Some x.name) (sym at)
name_here (q ∷ ps) (suc i) p lt at = name_here ps i p (omega arith) at

pub tree_stops : (all done : List Part) (p : Part) (d e : Dir) (fault : GatherFault) → Stands done d → done ≡ take (length done) all → (length done < length all) × (p ≡ get_or all (length done) p)
    → PutsPart p d (Err fault) e → MakesTree all (Err fault)
tree_stops all done p d e (Twice name) s front at (same, there) =
    let names : take (length done) (names_of all) ≡ names_of done = take-map part_name (length done) all ∙ ap names_of (sym front) in
    record {
      place = length done;
      here = name_here all (length done) p at.0 at.1 ∙ ap Some (sym same);
      before = ap (is_among name) names ∙ (sym (named_among name done) ∙ (ap is_some (sym (s.holds name)) ∙ there));
      first = ap are_apart names ∙ s.apart;
    }
tree_stops all done p d e Memory s front at x = tt
tree_stops all done p d e (Read file) s front at x = absurd x
tree_stops all done p d e (Absent file) s front at x = absurd x
tree_stops all done p d e (TooLong file limit) s front at x = absurd x
tree_stops all done p d e (TooLarge what limit) s front at x = absurd x

pub tree_done : (all done : List Part) (d : Dir) → Stands done d → done ≡ all → is_tree d ≡ true → MakesTree all (Ok d)
tree_done all done d s e whole = subst (λ ps. MakesTree ps (Ok d)) e (s.apart, record { whole = whole; holds = s.holds })

-- All together.
names_of_parts : (told : Option Holding) (fs : List Word) (ps : List Part) → AreParts told fs ps → list_all is_file fs ≡ true → list_all is_name (names_of ps) ≡ true
names_of_parts told [] [] h r = refl
names_of_parts told [] (q ∷ ps) h r = absurd h
names_of_parts told (g ∷ fs) [] h r = absurd h
names_of_parts told (g ∷ fs) (q ∷ ps) h r =
    let p = and_parts (is_file g) (list_all is_file fs) r in
    and_from (is_name q.name) (list_all is_name (names_of ps)) (ap is_name h.0.named ∙ p.0) (names_of_parts told fs ps h.1 p.1)

pub names_right : (fs : List Word) (old new : Feeding) (h : Held) → GetsHeld fs old new h → list_all is_file fs ≡ true → list_all is_name (names_of h.parts) ≡ true
names_right fs old new h a r = ap (list_all is_name) a.holds.names ∙ names_of_parts (holding old) fs a.parts a.got.are r

all_got : (fs : List Word) (old new : Feeding) (ps : List Part) → GetsAll fs old new ps → Refuses fs old new Memory
all_got fs old new ps got = (length fs, subst (λ xs. AsksCalmly xs old new) (sym (take_all (length fs) fs (omega arith))) got.asked)

pub tree_refused : (fs : List Word) (old new : Feeding) (h : Held) (fault : GatherFault) → GetsHeld fs old new h → MakesTree h.parts (Err fault) → Refuses fs old new fault
tree_refused fs old new h (Twice name) a x = (a.parts, a.got, subst (λ ns. IsFirstTwice ns name) a.holds.names x)
tree_refused fs old new h Memory a x = all_got fs old new a.parts a.got
tree_refused fs old new h (Read file) a x = absurd x
tree_refused fs old new h (Absent file) a x = absurd x
tree_refused fs old new h (TooLong file limit) a x = absurd x
tree_refused fs old new h (TooLarge what limit) a x = absurd x

apart_held : (fs : List Word) (old new : Feeding) (h : Held) (d : Dir) → (a : GetsHeld fs old new h) → MakesTree h.parts (Ok d) → are_apart (names_of a.parts) ≡ true
apart_held fs old new h d a m = ap are_apart (sym a.holds.names) ∙ m.0

pub too_large : (fs : List Word) (old new : Feeding) (h : Held) (d : Dir) → GetsHeld fs old new h → MakesTree h.parts (Ok d) → h.large ≡ true → Refuses fs old new (TooLarge Size 268435456)
too_large fs old new h d a m is = (a.parts, a.got, apart_held fs old new h d a m, refl, a.holds.past is)

small_of : (left all : ℕ) → left + all ≡ size_limit → all ≤ size_limit
small_of left all e = omega (arith, e)

pub too_many : (fs : List Word) (old new : Feeding) (h : Held) (d : Dir) → GetsHeld fs old new h → MakesTree h.parts (Ok d) → h.large ≡ false → 100000 < length fs → Refuses fs old new (TooLarge Nodes 100000)
too_many fs old new h d a m is lt = (a.parts, a.got, apart_held fs old new h d a m, small_of h.left (sum (map part_size a.parts)) (a.holds.within is).1, refl, lt)

pub gathered : (fs : List Word) (old new : Feeding) (h : Held) (d : Dir) → GetsHeld fs old new h → MakesTree h.parts (Ok d) → h.large ≡ false → length fs ≤ 100000 → Gathers fs old new d
gathered fs old new h d a m is le = record {
  parts = a.parts;
  got = a.got;
  apart = apart_held fs old new h d a m;
  small = small_of h.left (sum (map part_size a.parts)) (a.holds.within is).1;
  few = le;
  tree = subst (λ ps. IsTreeOf ps d) (a.holds.within is).0 m.1;
}

-- the first of them were asked for
pub gathers_some : (fs : List Word) (old new : Feeding) (d : Dir) → Gathers fs old new d → GetsSome fs old new
gathers_some fs old new d a = all_got fs old new a.parts a.got

pub ruleset gathering = (tree_refused, too_large, too_many, gathered)
