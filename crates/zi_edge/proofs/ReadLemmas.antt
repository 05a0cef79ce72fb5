-- What reading up to one byte past a limit says.
use Rattle.std.proofs.Common.{◌≡◌, ℕ, ◌+◌, ◌<◌, ◌≤◌, List, ◌++◌, length, take, drop, Option, Some, None, option_map, IfSome, refl, sym, ap, ◌∙◌, arith}
use Rattle.std.proofs.lemmas.List.{length-take, take_all, take-append-drop, length-append}
use Rattle.std.proofs.Math.Seq.{drop-append_seam}
use Rattle.std.specs.Io.KnownBytes.{Keeps}
use Rattle.zi_edge.specs.Reads.{TakesIn}
use Rattle.zi_edge.specs.declared.reading.Taken.TheVariants.{Whole, TooMuch}

-- what begins with the old bytes is these and what is behind them
joined : (old new : List ℕ) → take (length old) new ≡ old → new ≡ old ++ drop (length old) new
joined old new front = sym (take-append-drop (length old) new) ∙ ap (λ xs. xs ++ drop (length old) new) front

-- so much is behind them
behind : (old new : List ℕ) (n : ℕ) → take (length old) new ≡ old → length new ≡ length old + n → length (drop (length old) new) ≡ n
behind old new n front len = omega (arith, len, ap length (joined old new front), length-append old (drop (length old) new))

-- a front that is shorter than it may be is all
all_of : (all : List ℕ) (most n : ℕ) → length (take most all) ≡ n → n < most → take most all ≡ all
all_of all most n len short = take_all most all (omega (arith, len, short, length-take most all))

pub whole : (given : Option (List ℕ)) (limit most : ℕ) (old new : List ℕ) (n : ℕ) → take (length old) new ≡ old → length new ≡ length old + n → n ≤ limit → n < most
    → IfSome (option_map (take most) given) (λ xs. new ≡ old ++ xs) → TakesIn given limit old Whole new
whole None limit most old new n front len within short known = (drop (length old) new, joined old new front, omega (arith, within, behind old new n front len), tt)
whole (Some all) limit most old new n front len within short known =
    let rest : drop (length old) new ≡ take most all = ap (drop (length old)) known ∙ drop-append_seam old (take most all) in (
      drop (length old) new,
      joined old new front,
      omega (arith, within, behind old new n front len),
      rest ∙ all_of all most n (sym (ap length rest) ∙ behind old new n front len) short,
    )

pub too_much : (given : Option (List ℕ)) (limit most : ℕ) (old new : List ℕ) (n : ℕ) → take (length old) new ≡ old → length new ≡ length old + n → limit < n
    → IfSome (option_map (take most) given) (λ xs. new ≡ old ++ xs) → TakesIn given limit old TooMuch (take (length old) new)
too_much None limit most old new n front len past known = (front, tt)
too_much (Some all) limit most old new n front len past known =
    let rest : drop (length old) new ≡ take most all = ap (drop (length old)) known ∙ drop-append_seam old (take most all) in
    (front, omega (arith, past, behind old new n front len, ap length rest, length-take most all))

-- what isn't read stays
pub kept : (a : Option (List ℕ)) → Keeps a a
kept None = tt
kept (Some xs) = refl
