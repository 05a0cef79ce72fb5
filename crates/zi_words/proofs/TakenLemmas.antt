-- What the readers of options take, put together.
use Rattle.std.proofs.Common.{◌≡◌, true, false, ◌||◌, List, [], ◌∷◌, ◌++◌, Option, Some, None, is_some, Err, refl, sym, ap, ◌∙◌, inr}
use Rattle.std.specs.BTreeSet.{BTreeSet}
use Rattle.std.specs.Option.{option_map}
use Rattle.zi_version.specs.Range.{range_of, expression, IsExpression}
use Rattle.zi_version.specs.declared.alternative.Range.{Range}
use Rattle.zi_version.specs.declared.alternative.Range.TheVariants.{Any}
use Rattle.zi_policy.specs.declared.types.Stability.{Stability}
use Rattle.zi_policy.specs.declared.types.Override.{Override}
use Rattle.zi_words.specs.declared.kind.Kind.TheVariants as kind
use Rattle.zi_words.specs.declared.asked.Limit.{Limit}
use Rattle.zi_words.specs.declared.asked.Asked.{Asked}
use Rattle.zi_words.specs.declared.refusal.Refusal.{Refusal}
use Rattle.zi_words.specs.declared.refusal.Refusal.TheVariants.{Left, Memory}
use Rattle.zi_words.specs.Forms.{Word, Rating, is_address}
use Rattle.zi_words.specs.Options.{limit_of, override_of}
use Rattle.zi_words.specs.Taken.{MissesWith, Key, holds, IsKey, Takes}

mapped : {X Y : Type 0} (f : X → Y) (o : Option X) (y : Y) → option_map f o ≡ Some y → is_some o ≡ true
mapped f None y e = cc
mapped f (Some x) y e = refl

pub range_is : (w : Word) (r : Range) → range_of w ≡ Some r → IsExpression w
range_is w r e = mapped (λ ranges. Any ranges) (expression w) r e

pub is_there : {X : Type 0} (o : Option X) (x : X) → o ≡ Some x → is_some o ≡ true
is_there o x e = ap is_some e

-- a rating that is no stability
pub unrated : (old new : Asked) (pairs more : BTreeSet Key) (ws rest last : List Word) (u id : Word) (key : Key) (f : Refusal)
    → ws ≡ u ∷ rest → is_address u ≡ true → rest ≡ id ∷ last → IsKey key u id → holds pairs key ≡ false → MissesWith Rating last f
    → Takes kind.Rate old pairs ws (Err f) new more
unrated old new pairs more ws rest last u id key (Left n) e a d k h m = inr (u, rest, e, a, inr (id, last, key, d, k, inr (h, m)))
unrated old new pairs more ws rest last u id key Memory e a d k h m = tt

-- one field of what is asked changes
abbrev pub with_command : Asked → Word → Asked
with_command a v = record a { command = Some (Some v) }

abbrev pub with_os : Asked → Word → Asked
with_os a v = record a { os = Some v }

abbrev pub with_cpu : Asked → Word → Asked
with_cpu a v = record a { cpu = Some v }

abbrev pub with_langs : Asked → List Word → Asked
with_langs a v = record a { langs = v }

abbrev pub with_uses : Asked → List Word → Asked
with_uses a v = record a { uses = v }

abbrev pub with_limits : Asked → List Limit → Asked
with_limits a v = record a { limits = v }

abbrev pub with_version : Asked → List Limit → Asked
with_version a v = record a { version = true; limits = v }

abbrev pub with_overrides : Asked → List Override → Asked
with_overrides a v = record a { overrides = v }

pub pushed : (old new : List Word) (v w : Word) → new ≡ old ++ v ∷ [] → v ≡ w → new ≡ old ++ w ∷ []
pushed old new v w e f = e ∙ ap (λ x. old ++ x ∷ []) f

pub limited : (old new : List Limit) (v w : Option Word) (r : Range) (o : Option Range) → new ≡ old ++ record { interface = v; range = r } ∷ [] → v ≡ w → o ≡ Some r
    → new ≡ old ++ limit_of w o
limited old new v w r o e f g =
    e ∙ (ap (λ (x : Option Word). old ++ record { interface = x; range = r } ∷ []) f ∙ sym (ap (λ p. old ++ limit_of w p) g))

pub rated : (old new : List Override) (v u w id : Word) (s : Stability) (o : Option Stability) → new ≡ old ++ record { interface = v; id = w; stability = s } ∷ []
    → v ≡ u → w ≡ id → o ≡ Some s → new ≡ old ++ override_of u id o
rated old new v u w id s o e f g h =
    e ∙ (ap (λ (x : Word). old ++ record { interface = x; id = w; stability = s } ∷ []) f
    ∙ (ap (λ (x : Word). old ++ record { interface = u; id = x; stability = s } ∷ []) g ∙ sym (ap (λ p. old ++ override_of u id p) h)))
