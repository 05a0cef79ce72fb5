-- What is made of what is said along a path.
use Rattle.std.proofs.Common.{◌≡◌, ℕ, Bool, true, false, List, [], Option, Some, None, refl, sym, ap, ◌∙◌}
use Rattle.std.specs.Prelude.{if◌then◌else◌}
use Rattle.std.specs.Option.{option_or}
use Rattle.zi_elements.specs.Forest.{Elem}
use Rattle.zi_address.specs.Address.{is_local}
use Rattle.zi_reading.specs.Ways.{Ways, AsWritten, InFeed}
use Rattle.zi_faults.specs.Said.{Said, own_path, local_text, unsaid}
use Rattle.zi_feed.specs.Impls.{local_of}
use Rattle.zi_feed.specs.Inward.{placed_in, made_of}
use Rattle.zi_feed.specs.declared.made.Made.{Made}

-- Where an implementation lies: where the local path of its path is placed, or else that of its own id.
text_placed : (ways : Ways) (s : Said) (e : Elem) → placed_in ways (local_text s e) ≡ local_of ways s e
text_placed AsWritten s e = refl
text_placed (InFeed uri) s e = refl

pub local_said : (ways : Ways) (s : Said) (e : Elem) (m : Made) (text : List ℕ) (t : Option (List ℕ)) → s.local_path ≡ Some text → t ≡ m.local → m ≡ made_of ways s
    → t ≡ local_of ways s e
local_said ways s e m text t said is made =
    let first : s.local_path ≡ local_text s e = said ∙ sym (ap (λ o. option_or o (own_path e)) said) in
    is ∙ (ap (λ x. x.local) made ∙ (ap (placed_in ways) first ∙ text_placed ways s e))

pub local_own : (ways : Ways) (s : Said) (e : Elem) (own t : Option (List ℕ)) → s.local_path ≡ None → own ≡ own_path e → t ≡ placed_in ways own → t ≡ local_of ways s e
local_own ways s e own t none is placed =
    let second : own_path e ≡ local_text s e = sym (ap (λ o. option_or o (own_path e)) none) in
    placed ∙ (ap (placed_in ways) (is ∙ second) ∙ text_placed ways s e)

-- and nothing is made
neither_way : (b : Bool) → ◌≡◌ {A = Option (List ℕ)} None (if b then None else None)
neither_way true = refl
neither_way false = refl

nothing_placed : (ways : Ways) → ◌≡◌ {A = Option (List ℕ)} None (placed_in ways None)
nothing_placed AsWritten = refl
nothing_placed (InFeed uri) = neither_way (is_local uri)

pub nothing_made : (ways : Ways) (langs : List (List ℕ)) → langs ≡ [] → ◌≡◌ {A = Made} (record { version = None; arch = None; langs = langs; local = None }) (made_of ways unsaid)
nothing_made ways langs h =
    ap (λ v. record { version = None; arch = None; langs = v; local = None }) h
    ∙ ap (λ v. record { version = None; arch = None; langs = []; local = v }) (nothing_placed ways)
