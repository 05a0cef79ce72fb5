-- "Ranks earlier" is a strict order.
use Rattle.std.proofs.Common.{◌≡◌, ℕ, List, [], ◌∷◌, ◌++◌, refl, sym, subst, ap, ◌∙◌, arith, Option, Some, None}
use Rattle.zi_universe.specs.declared.types.Requirement.{Requirement}
use Rattle.zi_universe.specs.declared.types.Interface.{Interface}
use Rattle.zi_choice.specs.Choice.{Choice}
use Rattle.zi_choice.specs.Walk.{Place, Walk}
use Rattle.zi_choice.specs.Best.{IsBetter, GoesBefore, RanksEarlier}
use Rattle.zi_choice.specs.Laws.{EarlierIsStrict}
use Rattle.zi_choice.proofs.WalkLaws.{walk_one}

never_itself : (p : Option ℕ) → IsBetter p p → ⊥
never_itself None h = h
never_itself (Some c) h = omega arith

never_both : (p q : Option ℕ) → IsBetter p q → IsBetter q p → ⊥
never_both None q h g = h
never_both (Some c) None h g = g
never_both (Some c) (Some d) h g = omega arith

heads : {x y : Place} {xs ys : List Place} → x ∷ xs ≡ y ∷ ys → x ≡ y
heads e = cc

tails : {x y : Place} {xs ys : List Place} → x ∷ xs ≡ y ∷ ys → xs ≡ ys
tails e = cc

picks : {x y : Place} → x ≡ y → x.pick ≡ y.pick
picks e = ap (λ (p : Place). p.pick) e

same_place : (x y z : Place) → x ≡ z → y ≡ z → IsBetter x.pick y.pick → ⊥
same_place x y z e f h = never_itself z.pick (subst (λ p. IsBetter z.pick p) (picks f) (subst (λ p. IsBetter p y.pick) (picks e) h))

-- two walks part once: x over y at one place, and z over w at one place, are not both where they part
not_both_ways : (common others : List Place) (x y z w : Place) (a b c d : List Place) → common ++ x ∷ a ≡ others ++ w ∷ d → common ++ y ∷ b ≡ others ++ z ∷ c → IsBetter x.pick y.pick → IsBetter z.pick w.pick → ⊥
not_both_ways [] [] x y z w a b c d e f h g =
    never_both x.pick y.pick h (subst (λ p. IsBetter p x.pick) (sym (picks (heads f))) (subst (λ p. IsBetter z.pick p) (sym (picks (heads e))) g))
not_both_ways [] (o ∷ os) x y z w a b c d e f h g = same_place x y o (heads e) (heads f) h
not_both_ways (o ∷ os) [] x y z w a b c d e f h g = same_place z w o (sym (heads f)) (sym (heads e)) g
not_both_ways (o ∷ os) (p ∷ ps) x y z w a b c d e f h g = not_both_ways os ps x y z w a b c d (tails e) (tails f) h g

pub not_both_before : (ps qs : List Place) → GoesBefore ps qs → GoesBefore qs ps → ⊥
not_both_before ps qs h g =
    not_both_ways h.common g.common
    (record { interface = h.interface; pick = h.here }) (record { interface = h.interface; pick = h.there })
    (record { interface = g.interface; pick = g.here }) (record { interface = g.interface; pick = g.there })
    h.rest h.other_rest g.rest g.other_rest
    (sym h.is ∙ g.other_is) (sym h.other_is ∙ g.is) h.better g.better

-- of two choices neither ranks earlier than the other both ways
pub not_both_earlier : (u : List Interface) (req : Requirement) (s t : Choice) → RanksEarlier u req s t → RanksEarlier u req t s → ⊥
not_both_earlier u req s t h g =
    let mine : h.walk ≡ g.other = walk_one u req s h.walk g.other h.walks g.other_walks in
    let other : h.other ≡ g.walk = walk_one u req t h.other g.walk h.other_walks g.walks in
    not_both_before h.walk.places h.other.places h.before
    (subst (λ (w : Walk). GoesBefore h.other.places w.places) (sym mine) (subst (λ (w : Walk). GoesBefore w.places g.other.places) (sym other) g.before))

better_chain : (p q r : Option ℕ) → IsBetter p q → IsBetter q r → IsBetter p r
better_chain None q r h g = h
better_chain (Some c) None r h g = absurd g
better_chain (Some c) (Some d) None h g = tt
better_chain (Some c) (Some d) (Some e) h g = omega (arith, h, g)

abbrev place : ℕ → Option ℕ → Place
place i p = record { interface = i; pick = p }

interfaces : {x y : Place} → x ≡ y → x.interface ≡ y.interface
interfaces e = ap (λ (p : Place). p.interface) e

-- one item further in front of both
further : (o n : Place) (ps rs : List Place) → o ≡ n → GoesBefore ps rs → GoesBefore (o ∷ ps) (n ∷ rs)
further o n ps rs e g = record {
  common = o ∷ g.common;
  interface = g.interface;
  here = g.here;
  there = g.there;
  rest = g.rest;
  other_rest = g.other_rest;
  is = ap (λ l. o ∷ l) g.is;
  other_is = ap (λ x. x ∷ rs) (sym e) ∙ ap (λ l. o ∷ l) g.other_is;
  better = g.better;
}

chain_places : (common others : List Place) (i j : ℕ) (p q o r : Option ℕ) (a b c d : List Place) → common ++ place i q ∷ b ≡ others ++ place j o ∷ c → IsBetter p q → IsBetter o r → GoesBefore (common ++ place i p ∷ a) (others ++ place j r ∷ d)
chain_places [] [] i j p q o r a b c d e h g = record {
  common = [];
  interface = i;
  here = p;
  there = r;
  rest = a;
  other_rest = d;
  is = refl;
  other_is = ap (λ k. place k r ∷ d) (sym (interfaces (heads e)));
  better = better_chain p q r h (subst (λ x. IsBetter x r) (sym (picks (heads e))) g);
}
chain_places [] (n ∷ ns) i j p q o r a b c d e h g =
    record { common = []; interface = i; here = p; there = q; rest = a; other_rest = ns ++ place j r ∷ d; is = refl; other_is = ap (λ x. x ∷ (ns ++ place j r ∷ d)) (sym (heads e)); better = h }
chain_places (m ∷ ms) [] i j p q o r a b c d e h g =
    record { common = []; interface = j; here = o; there = r; rest = ms ++ place i p ∷ a; other_rest = d; is = ap (λ x. x ∷ (ms ++ place i p ∷ a)) (heads e); other_is = refl; better = g }
chain_places (m ∷ ms) (n ∷ ns) i j p q o r a b c d e h g =
    further m n (ms ++ place i p ∷ a) (ns ++ place j r ∷ d) (heads e) (chain_places ms ns i j p q o r a b c d (tails e) h g)

chain_before : (ps qs rs : List Place) → GoesBefore ps qs → GoesBefore qs rs → GoesBefore ps rs
chain_before ps qs rs h g =
    let met : h.common ++ place h.interface h.there ∷ h.other_rest ≡ g.common ++ place g.interface g.here ∷ g.rest = sym h.other_is ∙ g.is in
    let k : GoesBefore (h.common ++ place h.interface h.here ∷ h.rest) (g.common ++ place g.interface g.there ∷ g.other_rest) = chain_places h.common g.common h.interface g.interface h.here h.there g.here g.there h.rest h.other_rest g.rest g.other_rest met h.better g.better in
    subst (λ l. GoesBefore l rs) (sym h.is) (subst (λ l. GoesBefore (h.common ++ place h.interface h.here ∷ h.rest) l) (sym g.other_is) k)

earlier_chain : (u : List Interface) (req : Requirement) (s t r : Choice) → RanksEarlier u req s t → RanksEarlier u req t r → RanksEarlier u req s r
earlier_chain u req s t r h g =
    let other : h.other ≡ g.walk = walk_one u req t h.other g.walk h.other_walks g.walks in
    record {
      walk = h.walk;
      other = g.other;
      walks = h.walks;
      other_walks = g.other_walks;
      before = chain_before h.walk.places h.other.places g.other.places h.before (subst (λ (w : Walk). GoesBefore w.places g.other.places) (sym other) g.before);
    }

pub earlier_strict : EarlierIsStrict
earlier_strict u req = record { never_itself = λ s h. not_both_earlier u req s s h h; chain = earlier_chain u req }
