-- What feeds tell, once several addresses were asked for.
use Rattle.std.proofs.Common.{◌≡◌, ℕ, List, [], ◌++◌, Option, Some, None, refl, sym, ap, ◌∙◌, append_assoc, append-nil}
use Rattle.std.specs.Option.{option_map}
use Rattle.zi_outside.specs.Views.{FeedsTold, Feeding, holding}
use Rattle.zi_outside.specs.Outside.{asking, Asks}

pub asking-nil : (told : Option FeedsTold) → asking [] told ≡ told
asking-nil None = refl
asking-nil (Some t) = ap (λ keys. Some (record { holds = t.holds; asked = keys })) (append-nil t.asked)

pub asking-asking : (told : Option FeedsTold) (keys more : List (List ℕ)) → asking more (asking keys told) ≡ asking (keys ++ more) told
asking-asking None keys more = refl
asking-asking (Some t) keys more = ap (λ all. Some (record { holds = t.holds; asked = all })) (append_assoc t.asked keys more)

told_holds : (told : Option FeedsTold) (keys : List (List ℕ)) → option_map (λ t. t.holds) (asking keys told) ≡ option_map (λ t. t.holds) told
told_holds None keys = refl
told_holds (Some t) keys = refl

-- what is held stays
pub holding_asked : (keys : List (List ℕ)) (old new : Feeding) → Asks keys old new → holding new ≡ holding old
holding_asked keys old new a = ap (λ told. option_map (λ t. t.holds) told) a.told ∙ told_holds old.told keys

-- nothing was asked
pub asks_none : (seen : Feeding) → Asks [] seen seen
asks_none seen = record { told = sym (asking-nil seen.told); plan = refl }

-- some addresses, and then others
pub asks_more : (keys more : List (List ℕ)) (old mid new : Feeding) → Asks keys old mid → Asks more mid new → Asks (keys ++ more) old new
asks_more keys more old mid new a b = record {
  told = b.told ∙ ap (asking more) a.told ∙ asking-asking old.told keys more;
  plan = b.plan ∙ a.plan;
}
