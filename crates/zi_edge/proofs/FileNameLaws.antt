-- The set that is escaped in a file's name is that of the definition, and the name gives the address back.
use Rattle.std.proofs.Common.{◌≡◌, ℕ, zero, suc, ◌<◌, ◌≤◌, Bool, true, false, ◌&&◌, List, [], ◌∷◌, inl, inr, refl, sym, ap, ◌∙◌, arith}
use Rattle.std.specs.Prelude.{All, not, if◌then◌else◌}
use Rattle.std.specs.List.{flat_map}
use Rattle.std.proofs.lemmas.Bool.{and_parts, cases_lt}
use Rattle.percent_encoding.specs.AsciiSet.{should_percent_encode}
use Rattle.percent_encoding.specs.Percent.{percent_encode, percent_encode_byte, encode_byte, percent_decode}
use Rattle.percent_encoding.proofs.PercentLemmas.{round_trip, IsByte}
use Rattle.zi_edge.specs.FileName.{file_name, is_plain, escape}
use Rattle.zi_edge.specs.declared.files.TheConstants.{ESCAPED}

-- both answers, of which one stands
abbrev agrees : ℕ → Bool
agrees b = if is_plain b then not (should_percent_encode ESCAPED b) else should_percent_encode ESCAPED b

abbrev all_agree : ℕ → Bool
all_agree zero = true
all_agree (suc n) = agrees n && all_agree n

all_agree-at : (n k : ℕ) → all_agree n ≡ true → k < n → agrees k ≡ true
all_agree-at zero k h lt = absurd (omega arith)
all_agree-at (suc n) k h lt =
    let parts = and_parts (agrees n) (all_agree n) h in
    elim (cases_lt k n) [
      | inl below ↦ all_agree-at n k parts.1 below
      | inr top ↦
          let e : k ≡ n = omega arith in
          rw e parts.0
    ]

tested : all_agree 128 ≡ true
unfolding should_percent_encode
tested = refl

high : (b : ℕ) → 128 ≤ b → agrees b ≡ true
unfolding should_percent_encode
high b h = grind arith

always : (b : ℕ) → agrees b ≡ true
always b = elim (cases_lt b 128) [ inl low ↦ all_agree-at 128 b tested low | inr top ↦ high b top ]

by_agreement : (p e : Bool) (x y : List ℕ) → (if p then not e else e) ≡ true → (if e then y else x) ≡ (if p then x else y)
by_agreement true true x y h = cc
by_agreement true false x y h = refl
by_agreement false true x y h = refl
by_agreement false false x y h = cc

one_byte : (b : ℕ) → encode_byte ESCAPED b ≡ (if is_plain b then b ∷ [] else escape b)
unfolding percent_encode_byte
one_byte b = by_agreement (is_plain b) (should_percent_encode ESCAPED b) (b ∷ []) (escape b) (always b)

same_flat : (f g : ℕ → List ℕ) → ((b : ℕ) → f b ≡ g b) → (bs : List ℕ) → flat_map f bs ≡ flat_map g bs
same_flat f g h [] = refl
same_flat f g h (b ∷ bs) = let e = h b in let rest = same_flat f g h bs in cc

pub file_name_is : (address : List ℕ) → percent_encode ESCAPED address ≡ file_name address
unfolding percent_encode file_name
file_name_is address = same_flat (encode_byte ESCAPED) (λ b. if is_plain b then b ∷ [] else escape b) one_byte address

-- a name decodes to its address
pub decoded : (address : List ℕ) → All IsByte address → percent_decode (file_name address) ≡ address
decoded address bytes = ap percent_decode (sym (file_name_is address)) ∙ round_trip ESCAPED address refl bytes

-- no two addresses have one file
pub same_file : (a b : List ℕ) → All IsByte a → All IsByte b → file_name a ≡ file_name b → a ≡ b
same_file a b bytes_a bytes_b e = sym (decoded a bytes_a) ∙ ap percent_decode e ∙ decoded b bytes_b
