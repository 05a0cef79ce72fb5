-- Places of faults in bytes. Nothing here knows which texts are right.
use Rattle.std.specs.Prelude.{◌≡◌, ℕ, suc, ◌≤◌, ◌<◌, List, [], ◌∷◌, ◌++◌, length, take, Option, Some, None, encode_utf8_all}

abbrev pub first : {F : Type 0} → List F → Option F
first [] = None
first (f ∷ fs) = Some f

-- These bytes are a text of characters in UTF-8 (RFC 3629), and it says this.
abbrev pub Says : (R : Type 0) → (List ℕ → R → Type 0) → List ℕ → R → Type 0
Says R SaysChars w r = (cs : List ℕ) × (w ≡ encode_utf8_all cs) × SaysChars cs r

-- SaysBytes w r: w is a right text and says r. found: the faults that r has, in the order of the bytes that show them; ends: how many bytes show one.
module _ (R F : Type 0) (found : R → List F) (ends : F → ℕ) (SaysBytes : List ℕ → R → Type 0) where
  -- Some right text begins with these bytes.
  abbrev pub Begins : List ℕ → Type 0
  Begins p = (rest : List ℕ) × (r : R) × SaysBytes (p ++ rest) r

  -- Every right text that begins as the input does, up to where the fault is shown, has this fault first.
  pub record Shows (w : List ℕ) (f : F) : Type 0 where
    pub within : ends f ≤ length w
    pub begins : Begins (take (ends f) w)
    pub first_is : (rest : List ℕ) (r : R) → SaysBytes (take (ends f) w ++ rest) r → first (found r) ≡ Some f

  -- Some right text begins with the first k bytes, none goes on as the input does, and no fault is shown within them.
  pub record Stops (w : List ℕ) (k : ℕ) : Type 0 where
    pub within : k ≤ length w
    pub begins : Begins (take k w)
    pub stuck : k < length w → Begins (take (suc k) w) → ⊥
    pub short : k ≡ length w → (r : R) → SaysBytes w r → ⊥
    pub clean : (f : F) → ends f ≤ k → Shows w f → ⊥
